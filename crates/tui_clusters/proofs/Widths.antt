-- A text of one letter or sign is one column wide, one of an ideograph two. Letters and ideographs are not blanks.
use Rattle.std.proofs.Common.{◌≡◌, ℕ, ◌<◌, ◌≤◌, Bool, true, false, ◌||◌, ◌==◌, List, [], ◌∷◌, ⊎_elim, unwrap_or, refl, sym, ◌∙◌, arith}
use Rattle.std.specs.Char.{is_whitespace}
use Rattle.std.proofs.lemmas.Bool.{or_cases}
use Rattle.std.proofs.lemmas.Bool.Decides.{nat_tests}
use Rattle.ucd_table.specs.Rows.{Range, in_ranges}
use Rattle.ucd_table.proofs.Computing.{tables}
use Rattle.ucd_table.proofs.StepsLemmas.{rises_from}
use Rattle.ucd_table.proofs.Stepped.{Stepped, map_stepped}
use Rattle.unicode_width.specs.declared.kind.Kind.TheVariants as kinds
use Rattle.unicode_width.specs.Kind.{kind, kind_number}
use Rattle.unicode_width.specs.Width.{alone, char_width, str_width}
use Rattle.unicode_width.proofs.KindLemmas.{kind_from_number-kind_number, kind_number_stepped}
use Rattle.tui_clusters.specs.Blank.{is_blank_text}
use Rattle.tui_clusters.specs.Plain.{sign_ranges, known_ranges, IsCharIn, IsIdeograph, IsLetter, IsSign}
use Rattle.tui_clusters.specs.Width.{columns_of, width_of}
use Rattle.tui_clusters.proofs.LoneChars.{non_blank_text, lone_width}
use Rattle.tui_clusters.proofs.Tables.{all_in}

abbrev narrow : ℕ → Bool
narrow c = (kind_number c == 1) || (kind_number c == 3)

abbrev wide : ℕ → Bool
wide c = kind_number c == 2

unfoldable narrow_stepped : Stepped narrow
narrow_stepped = map_stepped (λ n. (n == 1) || (n == 3)) kind_number kind_number_stepped

unfoldable wide_stepped : Stepped wide
wide_stepped = map_stepped (λ n. n == 2) kind_number kind_number_stepped

letters_narrow : (c : ℕ) → in_ranges (known_ranges 2) c ≡ true → narrow c ≡ true
unfolding tables kind_number_stepped narrow_stepped rises_from
letters_narrow = all_in (known_ranges 2) narrow refl narrow_stepped refl

signs_narrow : (c : ℕ) → in_ranges sign_ranges c ≡ true → narrow c ≡ true
unfolding tables kind_number_stepped narrow_stepped rises_from
signs_narrow = all_in sign_ranges narrow refl narrow_stepped refl

ideographs_wide : (c : ℕ) → in_ranges (known_ranges 3) c ≡ true → wide c ≡ true
unfolding tables kind_number_stepped wide_stepped rises_from
ideographs_wide = all_in (known_ranges 3) wide refl wide_stepped refl

number_from : (n m : ℕ) → (n == m) ≡ true → m ≡ n
number_from n m h = grind (arith, nat_tests)

alone_narrow : (c : ℕ) → kind c ≡ kinds.Narrow → (alone false c).0 ≡ 1
unfolding alone
alone_narrow c e = rw e refl

alone_ambiguous : (c : ℕ) → kind c ≡ kinds.Ambiguous → (alone false c).0 ≡ 1
unfolding alone
alone_ambiguous c e = rw e refl

alone_wide : (c : ℕ) → kind c ≡ kinds.Wide → (alone false c).0 ≡ 2
unfolding alone
alone_wide c e = rw e refl

narrow_alone : (c : ℕ) → narrow c ≡ true → (alone false c).0 ≡ 1
narrow_alone c h = ⊎_elim
    (λ one. alone_narrow c (sym (kind_from_number-kind_number c 1 (number_from (kind_number c) 1 one))))
    (λ three. alone_ambiguous c (sym (kind_from_number-kind_number c 3 (number_from (kind_number c) 3 three))))
    (or_cases (kind_number c == 1) (kind_number c == 3) h)

wide_alone : (c : ℕ) → wide c ≡ true → (alone false c).0 ≡ 2
wide_alone c h = alone_wide c (sym (kind_from_number-kind_number c 2 (number_from (kind_number c) 2 h)))

some_width : (c n : ℕ) → 0xA0 < c → (alone false c).0 ≡ n → unwrap_or (char_width false c) 0 ≡ n
unfolding char_width
some_width c n low e = grind (arith, nat_tests)

-- the width of a character above U+00A0 is the width of the text that consists of it
one_width : (ranges : List Range) (text : List ℕ) (n : ℕ) (p : IsCharIn ranges text) → 0xA0 < p.char → (alone false p.char).0 ≡ n → n ≤ 2 → width_of text ≡ n
unfolding width_of columns_of
one_width ranges text n p low e few =
    let is = p.is in
    let width : str_width false (p.char ∷ []) ≡ n = lone_width false p.char low ∙ some_width p.char n low e in
    rw (is, width) (omega arith)

high_letter : (c : ℕ) → in_ranges (known_ranges 2) c ≡ true → (0xA0 < c) × (is_whitespace c ≡ false) × (c ≤ 0x47F)
unfolding in_ranges
high_letter c h = (grind (arith, nat_tests), grind (arith, nat_tests), grind (arith, nat_tests))

high_ideograph : (c : ℕ) → in_ranges (known_ranges 3) c ≡ true → (0x4000 ≤ c) × (is_whitespace c ≡ false)
unfolding in_ranges
high_ideograph c h = (grind (arith, nat_tests), grind (arith, nat_tests))

high_sign : (c : ℕ) → in_ranges sign_ranges c ≡ true → 0xA0 < c
unfolding in_ranges
high_sign c h = grind (arith, nat_tests)

pub letter_width : (text : List ℕ) → IsLetter text → width_of text ≡ 1
letter_width text p = one_width (known_ranges 2) text 1 p (high_letter p.char p.within).0 (narrow_alone p.char (letters_narrow p.char p.within)) (omega arith)

pub sign_width : (text : List ℕ) → IsSign text → width_of text ≡ 1
sign_width text p = one_width sign_ranges text 1 p (high_sign p.char p.within) (narrow_alone p.char (signs_narrow p.char p.within)) (omega arith)

pub ideograph_width : (text : List ℕ) → IsIdeograph text → width_of text ≡ 2
ideograph_width text p =
    let low = (high_ideograph p.char p.within).0 in
    one_width (known_ranges 3) text 2 p (omega arith) (wide_alone p.char (ideographs_wide p.char p.within)) (omega arith)

pub letter_blank : (text : List ℕ) → IsLetter text → is_blank_text text ≡ false
letter_blank text p = let high = high_letter p.char p.within in let under = high.2 in non_blank_text text p.char p.is high.1 (λ e. omega arith)

pub ideograph_blank : (text : List ℕ) → IsIdeograph text → is_blank_text text ≡ false
ideograph_blank text p = let high = high_ideograph p.char p.within in let over = high.0 in non_blank_text text p.char p.is high.1 (λ e. omega arith)
