-- A text of one character: its width is the character's, and it is a blank only if the character is one.
use Rattle.std.proofs.Common.{◌≡◌, ◌≢◌, ℕ, ◌+◌, ◌<◌, ◌≤◌, Bool, true, false, nat_eq, nat_lt, min, List, [], ◌∷◌, ◌++◌, length, get_or, Some, None, unwrap_or, zero-add, eqb-true, refl, sym, ap, ap₂, ◌∙◌, arith}
use Rattle.std.specs.Char.{is_whitespace}
use Rattle.std.specs.Cmp.Lexicographic.{pointwise}
use Rattle.std.specs.Prelude.{encode_utf8}
use Rattle.std.specs.Str.{chars, IsUtf8}
use Rattle.std.proofs.lemmas.Bool.{and_parts}
use Rattle.std.proofs.lemmas.Bool.Decides.{nat_tests}
use Rattle.std.proofs.lemmas.Str.{chars-nil, chars_past_char}
use Rattle.tui_clusters.specs.Blank.{is_blank_text, zero_width_space}
use Rattle.unicode_width.specs.Width.{alone, char_width, past_emoji, plain, step, str_width}

-- a text that begins with a character and has nothing else
pub chars-one : (text rest : List ℕ) (c : ℕ) → IsUtf8 text → text ≡ encode_utf8 c ++ rest → length rest ≡ 0 → chars text ≡ c ∷ []
chars-one text [] c u e none = chars_past_char text [] c u e ∙ ap (λ t. c ∷ t) chars-nil
chars-one text (b ∷ rest) c u e none = absurd (omega arith)

step_high : (cjk : Bool) (c : ℕ) → nat_lt 0xA0 c ≡ true → step cjk c (0, plain) ≡ (0 + unwrap_or (char_width cjk c) 0, (alone cjk c).1)
unfolding step past_emoji char_width
step_high true c h = grind (arith, nat_tests)
step_high false c h = grind (arith, nat_tests)

is_high : (c : ℕ) → 0xA0 < c → nat_lt 0xA0 c ≡ true
is_high c h = grind (arith, nat_tests)

pub lone_width : (cjk : Bool) (c : ℕ) → 0xA0 < c → str_width cjk (c ∷ []) ≡ unwrap_or (char_width cjk c) 0
unfolding str_width
lone_width cjk c h = ap (λ r. r.0) (step_high cjk c (is_high c h)) ∙ zero-add (unwrap_or (char_width cjk c) 0)

pub some_width : (cjk : Bool) (c width : ℕ) → 0xA0 < c → char_width cjk c ≡ Some width → width ≤ 3 → width ≡ min (str_width cjk (c ∷ [])) 65535
some_width cjk c width h e bound =
    let is : str_width cjk (c ∷ []) ≡ width = lone_width cjk c h ∙ ap (λ o. unwrap_or o 0) e in
    omega arith

pub no_width : (cjk : Bool) (c : ℕ) → 0xA0 < c → char_width cjk c ≡ None → 0 ≡ min (str_width cjk (c ∷ [])) 65535
no_width cjk c h e =
    let is : str_width cjk (c ∷ []) ≡ 0 = lone_width cjk c h ∙ ap (λ o. unwrap_or o 0) e in
    omega arith

same_bytes : (xs ys : List ℕ) → pointwise nat_eq xs ys ≡ true → xs ≡ ys
same_bytes [] [] h = refl
same_bytes [] (y ∷ ys) h = cc
same_bytes (x ∷ xs) [] h = cc
same_bytes (x ∷ xs) (y ∷ ys) h =
    let parts = and_parts (nat_eq x y) (pointwise nat_eq xs ys) h in
    ap₂ (λ a b. a ∷ b) (eqb-true x y parts.0) (same_bytes xs ys parts.1)

zero_width_char : chars zero_width_space ≡ 0x200b ∷ []
unfolding chars
zero_width_char = refl

no_zero_width : (text : List ℕ) (c : ℕ) → chars text ≡ c ∷ [] → c ≢ 0x200b → pointwise nat_eq text zero_width_space ≡ false
no_zero_width text c is other = from (pointwise nat_eq text zero_width_space) (same_bytes text zero_width_space)
  where
    from : (b : Bool) → (b ≡ true → text ≡ zero_width_space) → b ≡ false
    from false h = refl
    from true h = absurd (other (ap (λ l. get_or l 0 0) (sym is ∙ ap chars (h refl) ∙ zero_width_char)))

pub non_blank_text : (text : List ℕ) (c : ℕ) → chars text ≡ c ∷ [] → is_whitespace c ≡ false → c ≢ 0x200b → is_blank_text text ≡ false
unfolding is_blank_text
non_blank_text text c is ink other = rw (no_zero_width text c is other, is, ink) refl
