-- If each symbol has a known width, its first byte determines its length.
use Rattle.std.proofs.Common.{◌≡◌, ℕ, ◌+◌, ◌-◌, ◌*◌, ◌<◌, ◌≤◌, true, ◌&&◌, List, [], ◌∷◌, ◌++◌, get_or, flat_map, inl, inr, refl, sym, ap, ap₂, ◌∙◌, arith}
use Rattle.std.specs.Prelude.{nat_le, nat_lt}
use Rattle.std.specs.List.{list_all}
use Rattle.std.proofs.lemmas.Bool.{and_parts, or_cases, true≢false}
use Rattle.std.proofs.lemmas.Bool.Decides.{nat_tests}
use Rattle.tui_terminal_laws.specs.Reading.{IsSmall, PrintsKnownWidth, KnownWidthsHaveOneReading}
use Rattle.tui_terminal_model.specs.Sends.{IsSafe}
use Rattle.tui_terminal_model.specs.Symbols.{Range, ascii_ranges, is_among, is_ascii, is_common, is_tail, has_known_width, three_byte_ranges, two_byte_ranges}
use Rattle.tui_terminal_model.specs.declared.widths.KnownWidths.{KnownWidths}
use Rattle.tui_terminal_model.specs.declared.widths.KnownWidths.TheVariants.{Common, Ascii}
use Rattle.tui_terminal_model.specs.Encoding.{encoding}
use Rattle.tui_terminal_laws.proofs.Lists.{All-each, Each}
use Rattle.tui_terminal_laws.proofs.Splitting.{same_first, same_rest}
use Rattle.tui_terminal_laws.proofs.Readings.{Reads, all_determined, one_reading}

-- a number among ranges that end below another number
below : (m : ℕ) (rs : List Range) (c : ℕ) → list_all (λ (r : Range). nat_lt r.to m) rs ≡ true → is_among rs c ≡ true → c < m
below m [] c ends among = absurd (true≢false (sym among))
below m (r ∷ rs) c ends among =
    let both = and_parts (nat_lt r.to m) (list_all (λ (r : Range). nat_lt r.to m) rs) ends in
    elim (or_cases (nat_le r.from c && nat_le c r.to) (is_among rs c) among) [
      | inl here ↦ (let low = and_parts (nat_le r.from c) (nat_le c r.to) here in let end = both.0 in let up = low.1 in grind (arith, nat_tests))
      | inr there ↦ below m rs c both.1 there
    ]

-- a symbol of known width has as many bytes as its first byte says
data IsLong (s : List ℕ) : Type 0 where
  one : (a : ℕ) → s ≡ a ∷ [] → a < 0xC0 → IsLong s
  two : (a b : ℕ) → s ≡ a ∷ b ∷ [] → 0xC0 ≤ a → a < 0xE0 → IsLong s
  three : (a b c : ℕ) → s ≡ a ∷ b ∷ c ∷ [] → 0xE0 ≤ a → IsLong s

one_long : (a : ℕ) → is_among ascii_ranges a ≡ true → IsLong (a ∷ [])
one_long a e = let lt = below 0x7F ascii_ranges a refl e in one a refl (omega (arith, lt))

two_long : (a b : ℕ) → ((is_tail b && nat_le 0xC0 a) && is_among two_byte_ranges (64 * (a - 0xC0) + (b - 0x80))) ≡ true → IsLong (a ∷ b ∷ [])
two_long a b e =
    let both = and_parts (is_tail b && nat_le 0xC0 a) (is_among two_byte_ranges (64 * (a - 0xC0) + (b - 0x80))) e in
    let lt = below 0x530 two_byte_ranges (64 * (a - 0xC0) + (b - 0x80)) refl both.1 in
    let on = (and_parts (is_tail b) (nat_le 0xC0 a) both.0).1 in
    let low : 0xC0 ≤ a = grind (arith, nat_tests) in
    two a b refl low (omega (arith, lt, low))

three_long : (a b c : ℕ) → (((is_tail b && is_tail c) && nat_le 0xE0 a) && is_among three_byte_ranges (4096 * (a - 0xE0) + (64 * (b - 0x80) + (c - 0x80)))) ≡ true → IsLong (a ∷ b ∷ c ∷ [])
three_long a b c e =
    let both = and_parts ((is_tail b && is_tail c) && nat_le 0xE0 a) (is_among three_byte_ranges (4096 * (a - 0xE0) + (64 * (b - 0x80) + (c - 0x80)))) e in
    let on = (and_parts (is_tail b && is_tail c) (nat_le 0xE0 a) both.0).1 in
    let low : 0xE0 ≤ a = grind (arith, nat_tests) in
    three a b c refl low

common_long : (s : List ℕ) → is_common s ≡ true → IsLong s
unfolding is_common
common_long [] e = absurd (true≢false (sym e))
common_long (a ∷ []) e = one_long a e
common_long (a ∷ b ∷ []) e = two_long a b e
common_long (a ∷ b ∷ c ∷ []) e = three_long a b c e
common_long (a ∷ b ∷ c ∷ d ∷ s) e = absurd (true≢false (sym e))

ascii_long : (s : List ℕ) → is_ascii s ≡ true → IsLong s
unfolding is_ascii
ascii_long [] e = absurd (true≢false (sym e))
ascii_long (a ∷ []) e = one_long a e
ascii_long (a ∷ b ∷ s) e = absurd (true≢false (sym e))

known_width_long : (widths : KnownWidths) (s : List ℕ) → has_known_width widths s ≡ true → IsLong s
known_width_long Common s e = common_long s e
known_width_long Ascii s e = ascii_long s e

-- so two lists of bytes that begin with such symbols begin with the same one
first_byte : (a b : ℕ) (s t xs ys : List ℕ) → s ++ xs ≡ t ++ ys → get_or (s ++ xs) 0 0 ≡ a → get_or (t ++ ys) 0 0 ≡ b → a ≡ b
first_byte a b s t xs ys e is also = sym is ∙ (ap (λ (l : List ℕ). get_or l 0 0) e ∙ also)

of_one : (s t xs ys : List ℕ) (a b : ℕ) → s ≡ a ∷ [] → t ≡ b ∷ [] → s ++ xs ≡ t ++ ys → (s ≡ t) × (xs ≡ ys)
of_one s t xs ys a b p q e =
    let is : a ∷ xs ≡ b ∷ ys = sym (ap (λ (l : List ℕ). l ++ xs) p) ∙ (e ∙ ap (λ (l : List ℕ). l ++ ys) q) in
    (p ∙ (ap (λ (k : ℕ). k ∷ []) (same_first a b xs ys is) ∙ sym q), same_rest a b xs ys is)

of_two : (s t xs ys : List ℕ) (a b c d : ℕ) → s ≡ a ∷ b ∷ [] → t ≡ c ∷ d ∷ [] → s ++ xs ≡ t ++ ys → (s ≡ t) × (xs ≡ ys)
of_two s t xs ys a b c d p q e =
    let is : a ∷ b ∷ xs ≡ c ∷ d ∷ ys = sym (ap (λ (l : List ℕ). l ++ xs) p) ∙ (e ∙ ap (λ (l : List ℕ). l ++ ys) q) in
    let more = of_one (b ∷ []) (d ∷ []) xs ys b d refl refl (same_rest a c (b ∷ xs) (d ∷ ys) is) in
    (p ∙ (ap₂ (λ (k : ℕ) (l : List ℕ). k ∷ l) (same_first a c (b ∷ xs) (d ∷ ys) is) more.0 ∙ sym q), more.1)

of_three : (s t xs ys : List ℕ) (a b c d f g : ℕ) → s ≡ a ∷ b ∷ c ∷ [] → t ≡ d ∷ f ∷ g ∷ [] → s ++ xs ≡ t ++ ys → (s ≡ t) × (xs ≡ ys)
of_three s t xs ys a b c d f g p q e =
    let is : a ∷ b ∷ c ∷ xs ≡ d ∷ f ∷ g ∷ ys = sym (ap (λ (l : List ℕ). l ++ xs) p) ∙ (e ∙ ap (λ (l : List ℕ). l ++ ys) q) in
    let more = of_two (b ∷ c ∷ []) (f ∷ g ∷ []) xs ys b c f g refl refl (same_rest a d (b ∷ c ∷ xs) (f ∷ g ∷ ys) is) in
    (p ∙ (ap₂ (λ (k : ℕ) (l : List ℕ). k ∷ l) (same_first a d (b ∷ c ∷ xs) (f ∷ g ∷ ys) is) more.0 ∙ sym q), more.1)

heads : (s t xs ys : List ℕ) (a b : ℕ) (l m : List ℕ) → s ≡ a ∷ l → t ≡ b ∷ m → s ++ xs ≡ t ++ ys → a ≡ b
heads s t xs ys a b l m p q e =
    first_byte a b s t xs ys e (ap (λ (k : List ℕ). get_or (k ++ xs) 0 0) p) (ap (λ (k : List ℕ). get_or (k ++ ys) 0 0) q)

long_apart : (s t xs ys : List ℕ) → IsLong s → IsLong t → s ++ xs ≡ t ++ ys → (s ≡ t) × (xs ≡ ys)
long_apart s t xs ys (one a p lt) (one b q le) e = of_one s t xs ys a b p q e
long_apart s t xs ys (two a b p low lt) (two c d q le high) e = of_two s t xs ys a b c d p q e
long_apart s t xs ys (three a b c p low) (three d f g q le) e = of_three s t xs ys a b c d f g p q e
long_apart s t xs ys (one a p lt) (two c d q le high) e = let k = heads s t xs ys a c [] (d ∷ []) p q e in absurd (omega (arith, lt, le, k))
long_apart s t xs ys (one a p lt) (three d f g q le) e = let k = heads s t xs ys a d [] (f ∷ g ∷ []) p q e in absurd (omega (arith, lt, le, k))
long_apart s t xs ys (two a b p low lt) (one c q high) e = let k = heads s t xs ys a c (b ∷ []) [] p q e in absurd (omega (arith, low, high, k))
long_apart s t xs ys (two a b p low lt) (three d f g q le) e = let k = heads s t xs ys a d (b ∷ []) (f ∷ g ∷ []) p q e in absurd (omega (arith, lt, le, k))
long_apart s t xs ys (three a b c p low) (one d q high) e = let k = heads s t xs ys a d (b ∷ c ∷ []) [] p q e in absurd (omega (arith, low, high, k))
long_apart s t xs ys (three a b c p low) (two d f q le high) e = let k = heads s t xs ys a d (b ∷ c ∷ []) (f ∷ []) p q e in absurd (omega (arith, low, high, k))

known_width_read : (widths : KnownWidths) → Reads (Each (PrintsKnownWidth widths))
known_width_read widths = record {
  more = λ c cs h. h.1;
  prints = λ s t cs ds p q a b e. long_apart s t (flat_map encoding cs) (flat_map encoding ds) (known_width_long widths s p.0) (known_width_long widths t q.0) e;
}

pub known_widths_have_one_reading : KnownWidthsHaveOneReading
known_widths_have_one_reading widths cs ds safe_cs safe_ds small_cs small_ds known_cs known_ds e =
    one_reading (Each (PrintsKnownWidth widths)) (known_width_read widths) cs ds (All-each (PrintsKnownWidth widths) cs known_cs) (All-each (PrintsKnownWidth widths) ds known_ds)
    (all_determined cs (All-each IsSafe cs safe_cs) (All-each IsSmall cs small_cs)) (all_determined ds (All-each IsSafe ds safe_ds) (All-each IsSmall ds small_ds)) e
