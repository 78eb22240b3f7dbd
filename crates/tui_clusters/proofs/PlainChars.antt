-- No rule for grapheme clusters names a plain character.
use Rattle.std.proofs.Common.{◌≡◌, ℕ, ◌+◌, ◌<◌, ◌≤◌, Bool, true, false, ◌&&◌, ◌||◌, ◌==◌, nat_le, List, [], ◌∷◌, ◌++◌, length, length-append, map, get_or, append-nil, refl, sym, ap, subst, ◌∙◌, arith}
use Rattle.std.specs.Prelude.{encode_utf8, encode_utf8_all}
use Rattle.std.specs.Char.{is_control}
use Rattle.std.specs.List.{list_any}
use Rattle.std.specs.Str.{chars, IsUtf8}
use Rattle.std.proofs.lemmas.Bool.{and_parts}
use Rattle.std.proofs.lemmas.Bool.Decides.{nat_tests}
use Rattle.std.proofs.lemmas.Str.{chars-nil, chars_past_char}
use Rattle.ucd_table.specs.Rows.{Range, in_ranges}
use Rattle.ucd_table.proofs.StepsLemmas.{rises_from}
use Rattle.ucd_table.proofs.Stepped.{Stepped, zip_stepped}
use Rattle.ucd_breaks.specs.GraphemeClusterBreak.{grapheme_cluster_break, grapheme_cluster_break_number}
use Rattle.ucd_breaks.specs.declared.GraphemeClusterBreak.{GraphemeClusterBreak}
use Rattle.ucd_breaks.specs.declared.GraphemeClusterBreak.TheVariants.{Other}
use Rattle.ucd_breaks.proofs.Computing.{ucd_breaks}
use Rattle.ucd_breaks.proofs.GraphemeClusterBreakLemmas.{grapheme_cluster_break_stepped, grapheme_cluster_break_number_injective}
use Rattle.ucd_derived.specs.IndicConjunctBreak.{indic_conjunct_break, indic_conjunct_break_number}
use Rattle.ucd_derived.specs.declared.IndicConjunctBreak.{IndicConjunctBreak}
use Rattle.ucd_derived.specs.declared.IndicConjunctBreak.TheVariants as kinds
use Rattle.ucd_derived.proofs.Computing.{ucd_derived}
use Rattle.ucd_derived.proofs.IndicConjunctBreakLemmas.{indic_conjunct_break_stepped, indic_conjunct_break_number_injective}
use Rattle.unicode_segmentation.specs.Grapheme.{ends_in_half_flag, ends_in_linker, graphemes, is_grapheme_break}
use Rattle.unicode_segmentation.specs.Segments.{segments, cut}
use Rattle.tui_clusters.specs.Plain.{is_plain, plain_ranges, IsCharIn, IsPlainChar}
use Rattle.tui_clusters.specs.Shown.{has_control}
use Rattle.tui_clusters.proofs.LoneChars.{chars-one}
use Rattle.tui_clusters.proofs.Tables.{all_in}

-- a character that no rule names
record IsPlain (c : ℕ) : Type 0 where
  other : grapheme_cluster_break c ≡ Other
  none : indic_conjunct_break c ≡ kinds.None

-- what must be shown of each character, as a test
abbrev is_unnamed : GraphemeClusterBreak → IndicConjunctBreak → Bool
is_unnamed g i = (grapheme_cluster_break_number g == 12) && (indic_conjunct_break_number i == 3)

abbrev unnamed : ℕ → Bool
unnamed c = is_unnamed (grapheme_cluster_break c) (indic_conjunct_break c)

unfoldable unnamed_stepped : Stepped unnamed
unnamed_stepped = zip_stepped is_unnamed grapheme_cluster_break indic_conjunct_break grapheme_cluster_break_stepped indic_conjunct_break_stepped

each_unnamed : (c : ℕ) → in_ranges plain_ranges c ≡ true → unnamed c ≡ true
unfolding ucd_breaks ucd_derived rises_from unnamed_stepped
each_unnamed = all_in plain_ranges unnamed refl unnamed_stepped refl

number_from : (n m : ℕ) → (n == m) ≡ true → n ≡ m
number_from n m h = grind (arith, nat_tests)

IsPlain-from : (c : ℕ) → is_plain c ≡ true → IsPlain c
unfolding is_plain
IsPlain-from c h =
    let parts = and_parts _ _ (each_unnamed c h) in record {
      other = grapheme_cluster_break_number_injective _ Other (number_from _ 12 parts.0);
      none = indic_conjunct_break_number_injective _ kinds.None (number_from _ 3 parts.1);
    }

-- there is a boundary between two plain characters
pub between : (b : ℕ) (before : List ℕ) (c : ℕ) (after : List ℕ) → is_plain b ≡ true → is_plain c ≡ true → is_grapheme_break true (b ∷ before) (c ∷ after) ≡ true
unfolding is_grapheme_break ends_in_linker ends_in_half_flag
between b before c after p q =
    let last = IsPlain-from b p in
    let next = IsPlain-from c q in
    let o = last.other in
    let n = last.none in
    let f = next.other in
    rw (o, n, f) refl

-- the tests of one half of the ranges decide, since the others fail there
module _ (c : ℕ) where
  too_low : (low high : ℕ) → c < low → (nat_le low c && nat_le c high) ≡ false
  too_low low high h = grind (arith, nat_tests)

  too_high : (low high : ℕ) → high < c → (nat_le low c && nat_le c high) ≡ false
  too_high low high h = grind (arith, nat_tests)

any_of_five : (a b c d e : Bool) → (((a || b) || c) || d) || e ≡ a || (b || (c || (d || (e || false))))
any_of_five true b c d e = refl
any_of_five false true c d e = refl
any_of_five false false true d e = refl
any_of_five false false false true e = refl
any_of_five false false false false true = refl
any_of_five false false false false false = refl

any_of_six : (a b c d e f : Bool) → ((((a || b) || c) || d) || e) || f ≡ a || (b || (c || (d || (e || (f || false)))))
any_of_six true b c d e f = refl
any_of_six false b c d e f = any_of_five b c d e f

abbrev within : ℕ → ℕ → ℕ → Bool
within c low high = nat_le low c && nat_le c high

pub low_plain : (c : ℕ) → c < 0x2028 →
    ((((within c 0x20 0x7e || within c 0xae 0x2ff) || within c 0x370 0x482) || within c 0x48a 0x590) || within c 0x1e00 0x1fff) || within c 0x2010 0x2027 ≡ is_plain c
unfolding is_plain in_ranges
low_plain c h =
    any_of_six (within c 0x20 0x7e) (within c 0xae 0x2ff) (within c 0x370 0x482) (within c 0x48a 0x590) (within c 0x1e00 0x1fff) (within c 0x2010 0x2027)
    ∙ sym (rw (too_low c 0x20f1 0x2cee (omega arith), too_low c 0x3001 0x3029 (omega arith), too_low c 0x3030 0x3098 (omega arith), too_low c 0x309b 0xa66e (omega arith), too_low c 0xff00 0xff9d (omega arith)) refl)

pub high_plain : (c : ℕ) → 0x2028 ≤ c →
    (((within c 0x20f1 0x2cee || within c 0x3001 0x3029) || within c 0x3030 0x3098) || within c 0x309b 0xa66e) || within c 0xff00 0xff9d ≡ is_plain c
unfolding is_plain in_ranges
high_plain c h =
    any_of_five (within c 0x20f1 0x2cee) (within c 0x3001 0x3029) (within c 0x3030 0x3098) (within c 0x309b 0xa66e) (within c 0xff00 0xff9d)
    ∙ sym (rw (too_high c 0x20 0x7e (omega arith), too_high c 0xae 0x2ff (omega arith), too_high c 0x370 0x482 (omega arith), too_high c 0x48a 0x590 (omega arith), too_high c 0x1e00 0x1fff (omega arith), too_high c 0x2010 0x2027 (omega arith)) refl)

-- a text that begins with a character of some ranges and has nothing else
pub IsCharIn-from : (ranges : List Range) (text rest : List ℕ) (c : ℕ) → IsUtf8 text → text ≡ encode_utf8 c ++ rest → length rest ≡ 0 → in_ranges ranges c ≡ true → IsCharIn ranges text
IsCharIn-from ranges text rest c u e none h = record {
  char = c;
  encoded = encoded rest e none;
  is = chars-one text rest c u e none;
  within = h;
}
  where
    encoded : (rest : List ℕ) → text ≡ encode_utf8 c ++ rest → length rest ≡ 0 → text ≡ encode_utf8 c
    encoded [] e none = e ∙ append-nil (encode_utf8 c)
    encoded (b ∷ rest) e none = absurd (omega arith)

pub IsPlainChar-from : (text rest : List ℕ) (c : ℕ) → IsUtf8 text → text ≡ encode_utf8 c ++ rest → length rest ≡ 0 → is_plain c ≡ true → IsPlainChar text
unfolding is_plain
IsPlainChar-from text rest c u e none h = IsCharIn-from plain_ranges text rest c u e none h

-- if a text of one plain character is split after its first character, nothing is left, and that character is plain
pub lone_char_is : (text rest : List ℕ) (c : ℕ) → IsUtf8 text → text ≡ encode_utf8 c ++ rest → IsPlainChar text → (length rest ≡ 0) × (is_plain c ≡ true)
unfolding is_plain
lone_char_is text rest c u e p =
    let same : c ≡ p.char = ap (λ l. get_or l 0 0) (sym (chars_past_char text rest c u e) ∙ p.is) in
    let size : length (encode_utf8 c) + length rest ≡ length (encode_utf8 c) =
    sym (length-append (encode_utf8 c) rest) ∙ (ap length (sym e ∙ p.encoded) ∙ ap (λ d. length (encode_utf8 d)) (sym same)) in
    (omega arith, subst (λ d. in_ranges plain_ranges d ≡ true) (sym same) p.within)

pub no_char_in_nothing : (text : List ℕ) → text ≡ [] → IsPlainChar text → ⊥
no_char_in_nothing text none p = nothing p.char (sym chars-nil ∙ (ap chars (sym none) ∙ p.is))
  where
    nothing : (c : ℕ) → [] ≡ c ∷ [] → ⊥
    nothing c e = cc

-- a plain character is not a control character
no_control : (c : ℕ) → in_ranges plain_ranges c ≡ true → list_any is_control (c ∷ []) ≡ false
unfolding in_ranges
no_control c h = grind (arith, nat_tests)

pub plain_shown : (text : List ℕ) → IsPlainChar text → has_control text ≡ false
unfolding has_control
plain_shown text p = let is = p.is in rw is (no_control p.char p.within)

-- and it is one cluster
pub graphemes-plain : (text : List ℕ) → IsPlainChar text → graphemes true text ≡ text ∷ []
unfolding segments cut is_grapheme_break
graphemes-plain text p =
    ap (λ cs. map encode_utf8_all (cut (is_grapheme_break true) [] cs [])) p.is
    ∙ ap (λ t. t ∷ []) (append-nil (encode_utf8 p.char) ∙ sym p.encoded)
