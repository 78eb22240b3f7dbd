-- Texts of one printable byte.
use Rattle.std.proofs.Common.{◌≡◌, ℕ, zero, suc, ◌≤◌, List, [], ◌∷◌, Bool, true, false, refl, arith, rules}
use Rattle.std.specs.Prelude.{nat_eq, not, ◌==◌, ◌||◌, ◌&&◌}
use Rattle.std.specs.Char.{is_control, is_whitespace}
use Rattle.std.specs.Int.{is_in_range}
use Rattle.std.specs.List.{list_all, list_any}
use Rattle.std.specs.Str.{chars, IsAscii}
use Rattle.std.proofs.lemmas.Bool.{and_parts}
use Rattle.std.proofs.lemmas.Bool.Decides.{nat_tests}
use Rattle.std.proofs.lemmas.Str.{chars-IsAscii}
use Rattle.unicode_width.proofs.Rules.{str_width-printable}
use Rattle.tui_clusters.specs.Blank.{is_blank_text}
use Rattle.tui_clusters.specs.Printable.{is_printable}
use Rattle.tui_clusters.specs.Shown.{has_control}
use Rattle.tui_clusters.specs.Width.{columns_of, width_of}

pub printable_range : (b : ℕ) → is_printable b ≡ true → (32 ≤ b) × (b ≤ 126)
printable_range b h = (grind (arith, nat_tests), grind (arith, nat_tests))

pub printable_ascii : (text : List ℕ) → list_all is_printable text ≡ true → IsAscii text
printable_ascii [] e i = omega arith
printable_ascii (b ∷ bs) e zero = let r = printable_range b (and_parts (is_printable b) _ e).0 in omega (arith, r.1)
printable_ascii (b ∷ bs) e (suc i) = printable_ascii bs (and_parts (is_printable b) _ e).1 i

one_char : (b : ℕ) → 32 ≤ b → b ≤ 126 → chars (b ∷ []) ≡ b ∷ []
one_char b low high = chars-IsAscii (b ∷ []) (search (rules, arith))

in_range : (b : ℕ) → 32 ≤ b → b ≤ 126 → list_all (is_in_range 0x20 0x7E) (b ∷ []) ≡ true
in_range b low high = grind (arith, nat_tests)

no_control : (b : ℕ) → 32 ≤ b → b ≤ 126 → list_any is_control (b ∷ []) ≡ false
no_control b low high = grind (arith, nat_tests)

white : (b : ℕ) → 32 ≤ b → b ≤ 126 → is_whitespace b ≡ (b == 32)
white b low high = grind (arith, nat_tests)

blank_test : (b : ℕ) → 32 ≤ b → b ≤ 126 → (nat_eq b 226 && false || is_whitespace b && true && not (nat_eq b 194 && false)) ≡ (b == 32)
blank_test b low high = grind (arith, nat_tests, white b)

pub printable_width : (cjk : Bool) (s : List ℕ) (b : ℕ) → s ≡ b ∷ [] → 32 ≤ b → b ≤ 126 → columns_of cjk s ≡ 1
unfolding columns_of
printable_width cjk s b e low high = rw (e, one_char b low high, str_width-printable cjk (b ∷ []) (in_range b low high)) refl

pub printable_shown : (s : List ℕ) (b : ℕ) → s ≡ b ∷ [] → 32 ≤ b → b ≤ 126 → has_control s ≡ false
unfolding has_control
printable_shown s b e low high = rw (e, one_char b low high) (no_control b low high)

pub printable_blank : (s : List ℕ) (b : ℕ) → s ≡ b ∷ [] → 32 ≤ b → b ≤ 126 → is_blank_text s ≡ (b == 32)
unfolding is_blank_text
printable_blank s b e low high = rw (e, one_char b low high) (blank_test b low high)

pub byte_columns : (cjk : Bool) (b : ℕ) → is_printable b ≡ true → columns_of cjk (b ∷ []) ≡ 1
byte_columns cjk b e = let r = printable_range b e in printable_width cjk (b ∷ []) b refl r.0 r.1

pub byte_width : (b : ℕ) → is_printable b ≡ true → width_of (b ∷ []) ≡ 1
unfolding width_of
byte_width b e = byte_columns false b e
