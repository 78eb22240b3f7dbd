-- The decimal digits in a sequence give its number.
use Rattle.std.proofs.Common.{◌≡◌, inl, inr, ℕ, ◌+◌, ◌-◌, ◌*◌, ◌/◌, ◌%◌, ◌≤◌, ◌<◌, Bool, true, false, List, [], ◌∷◌, refl, sym, ap, subst, ◌∙◌, ◌==◌, if◌then◌else◌, arith}
use Rattle.std.specs.Prelude.{decimal, suc}
use Rattle.std.specs.Fmt.{digits, digits_onto, digit_glyph}
use Rattle.std.proofs.lemmas.Bool.{cases_lt}
use Rattle.std.proofs.lemmas.Bool.Decides.{nat_tests}
use Rattle.tui_keys.proofs.Decoding.{joined, no_step}
use Rattle.tui_keys.specs.declared.event.Event.TheVariants.{PasteBegin}
use Rattle.tui_keys.specs.declared.keys.KeyDecoder.{KeyDecoder}
use Rattle.tui_keys.specs.declared.keys.Numbers.{Numbers}
use Rattle.tui_keys.specs.declared.keys.Pending.TheVariants.{Sequence}
use Rattle.tui_keys.specs.Laws.{AreRead}
use Rattle.tui_keys.specs.Steps.{in_sequence, is_mark, marked, more, one, stepped, nul, waits, with_digit}

-- in a sequence outside a paste
abbrev pub in_numbers : Numbers → KeyDecoder
in_numbers n = record { pasting = false; pending = Sequence n }

-- one more digit
digit_taken : (n : Numbers) (d : ℕ) → d < 10 → in_sequence n (48 + d) ≡ waits (Sequence (with_digit n d))
unfolding in_sequence
digit_taken n d low =
    let e : in_sequence n (48 + d) ≡ waits (Sequence (with_digit n (48 + d - 48))) = grind (arith, nat_tests) in
    e ∙ ap (λ (k : ℕ). waits (Sequence (with_digit n k))) {x = 48 + d - 48} {y = d} (omega arith)

step_taken : (n : Numbers) (d : ℕ) → d < 10 → stepped (in_numbers n) (48 + d) ≡ in_sequence n (48 + d)
unfolding stepped marked
step_taken n d low =
    let e : ((48 + d) == 0) ≡ false = grind (arith, nat_tests) in
    let no_mark : is_mark 200 n (48 + d) ≡ false = grind (arith, nat_tests) in
    ap (λ (b : Bool). if b then nul (in_numbers n) else marked 200 PasteBegin n (48 + d)) e
    ∙ ap (λ (b : Bool). if b then one PasteBegin else in_sequence n (48 + d)) no_mark

digit_step : (n : Numbers) (d : ℕ) → d < 10 → AreRead (in_numbers n) ((48 + d) ∷ []) [] (in_numbers (with_digit n d))
digit_step n d low = no_step (in_numbers n) (in_numbers (with_digit n d)) (48 + d) (step_taken n d low ∙ digit_taken n d low)

-- the digits of a small number
spelled : (t : Bool) (k n : ℕ) (acc : List ℕ) → (n / 10 == 0) ≡ t →
    digits_onto (suc k) 10 false n acc ≡ (if t then (48 + n % 10) ∷ acc else digits_onto k 10 false (n / 10) ((48 + n % 10) ∷ acc))
spelled t k n acc e =
    let glyph : digit_glyph false (n % 10) ≡ 48 + n % 10 = grind (arith, nat_tests) in
    ap (λ (b : Bool). if b then digit_glyph false (n % 10) ∷ acc else digits_onto k 10 false (n / 10) (digit_glyph false (n % 10) ∷ acc)) e
    ∙ ap (λ (g : ℕ). if t then g ∷ acc else digits_onto k 10 false (n / 10) (g ∷ acc)) glyph

last_digit : (k n : ℕ) (acc : List ℕ) → n < 10 → digits_onto (suc k) 10 false n acc ≡ (48 + n) ∷ acc
last_digit k n acc low =
    let e : (n / 10 == 0) ≡ true = grind (arith, nat_tests) in
    spelled true k n acc e ∙ ap (λ (d : ℕ). (48 + d) ∷ acc) {x = n % 10} {y = n} (omega arith)

more_digits : (k n : ℕ) (acc : List ℕ) → 10 ≤ n → digits_onto (suc k) 10 false n acc ≡ digits_onto k 10 false (n / 10) ((48 + n % 10) ∷ acc)
more_digits k n acc low =
    let e : (n / 10 == 0) ≡ false = grind (arith, nat_tests) in
    spelled false k n acc e

one_digit : (n : ℕ) → n < 10 → decimal n ≡ (48 + n) ∷ []
unfolding digits
one_digit n low = last_digit 63 n [] low

two_digits : (n : ℕ) → 10 ≤ n → n < 100 → decimal n ≡ (48 + n / 10) ∷ (48 + n % 10) ∷ []
unfolding digits
two_digits n low high = more_digits 63 n [] low ∙ last_digit 62 (n / 10) _ (omega arith)

three_digits : (n : ℕ) → 100 ≤ n → n < 1000 → decimal n ≡ (48 + n / 10 / 10) ∷ (48 + (n / 10) % 10) ∷ (48 + n % 10) ∷ []
unfolding digits
three_digits n low high =
    more_digits 63 n [] (omega arith) ∙ more_digits 62 (n / 10) _ (omega arith) ∙ last_digit 61 (n / 10 / 10) _ (omega arith)

-- a parameter of a sequence, to which digits are added
abbrev pub Takes : (ℕ → Numbers) → Type 0
Takes put = (m d : ℕ) → with_digit (put m) d ≡ put (more m d)

more_is : (m d : ℕ) → m < 1000 → d < 10 → more m d ≡ m * 10 + d
more_is m d small low = grind (arith)

put_digit : (put : ℕ → Numbers) → Takes put → (m d n : ℕ) → m < 1000 → d < 10 → m * 10 + d ≡ n →
    AreRead (in_numbers (put m)) ((48 + d) ∷ []) [] (in_numbers (put n))
put_digit put takes m d n small low is =
    subst (λ (k : Numbers). AreRead (in_numbers (put m)) ((48 + d) ∷ []) [] (in_numbers k))
    (takes m d ∙ ap put (more_is m d small low ∙ is)) (digit_step (put m) d low)

put_two : (put : ℕ → Numbers) → Takes put → (a b n : ℕ) → a < 10 → b < 10 → a * 10 + b ≡ n →
    AreRead (in_numbers (put 0)) ((48 + a) ∷ (48 + b) ∷ []) [] (in_numbers (put n))
put_two put takes a b n a_low b_low is =
    joined _ (in_numbers (put a)) _ ((48 + a) ∷ []) ((48 + b) ∷ []) [] [] (put_digit put takes 0 a a (omega arith) a_low (omega arith))
    (put_digit put takes a b n (omega arith) b_low is)

put_three : (put : ℕ → Numbers) → Takes put → (a b d n : ℕ) → a < 10 → b < 10 → d < 10 → (a * 10 + b) * 10 + d ≡ n →
    AreRead (in_numbers (put 0)) ((48 + a) ∷ (48 + b) ∷ (48 + d) ∷ []) [] (in_numbers (put n))
put_three put takes a b d n a_low b_low d_low is =
    joined _ (in_numbers (put (a * 10 + b))) _ ((48 + a) ∷ (48 + b) ∷ []) ((48 + d) ∷ []) [] [] (put_two put takes a b (a * 10 + b) a_low b_low refl)
    (put_digit put takes (a * 10 + b) d n (omega arith) d_low is)

put_thousand : (put : ℕ → Numbers) → Takes put → AreRead (in_numbers (put 0)) (decimal 1000) [] (in_numbers (put 1000))
unfolding digits
put_thousand put takes =
    joined _ (in_numbers (put 100)) _ (49 ∷ 48 ∷ 48 ∷ []) (48 ∷ []) [] [] (put_three put takes 1 0 0 100 (omega arith) (omega arith) (omega arith) refl)
    (put_digit put takes 100 0 1000 (omega arith) (omega arith) refl)

pub number_read : (put : ℕ → Numbers) → Takes put → (n : ℕ) → n ≤ 1000 → AreRead (in_numbers (put 0)) (decimal n) [] (in_numbers (put n))
number_read put takes n high =
    let reads = λ (l : List ℕ). AreRead (in_numbers (put 0)) l [] (in_numbers (put n)) in
    elim (cases_lt n 10) [
      | inl one ↦ subst reads (sym (one_digit n one)) (put_digit put takes 0 n n (omega arith) one (omega arith))
      | inr ten ↦ elim (cases_lt n 100) [
        | inl two ↦ subst reads (sym (two_digits n ten two)) (put_two put takes (n / 10) (n % 10) n (omega arith) (omega arith) (omega arith))
        | inr hundred ↦ elim (cases_lt n 1000) [
          | inl three ↦ subst reads (sym (three_digits n hundred three))
              (put_three put takes (n / 10 / 10) ((n / 10) % 10) (n % 10) n (omega arith) (omega arith) (omega arith) (omega arith))
          | inr thousand ↦ subst (λ (m : ℕ). AreRead (in_numbers (put 0)) (decimal m) [] (in_numbers (put m))) {x = 1000} {y = n} (omega arith)
              (put_thousand put takes)
        ]
      ]
    ]
