-- Lists of one, two and three arguments.
use Rattle.std.proofs.Common.{◌≡◌, ◌<◌, ◌≤◌, ℕ, List, [], ◌∷◌, length, get_or, map, Bool, true, Option, Some, None, IfSome}
use Rattle.std.proofs.Common.{String, Global, string_bytes, bytes_eq, refl, sym, ap, ap₂, subst, ◌∙◌, arith}
use Rattle.std.specs.Prelude.{IsNone}
use Rattle.std.proofs.lemmas.List.{length-map}
use Rattle.std.proofs.lemmas.Slice.Eq.{bytes_eq-Decides}
use Rattle.std.specs.Option.{option_zip}
use Rattle.std.specs.Str.Parse.{digits_value}
use Rattle.tui_program.specs.Arguments.{AreTexts, StartWith, HaveNumber, HaveNumbers, IsOnly, IsNumeralOf, most_arguments}
use Rattle.tui_program.specs.declared.numerals.Numerals.{Numerals}

first_of : (x y : List ℕ) (xs ys : List (List ℕ)) → x ∷ xs ≡ y ∷ ys → x ≡ y
first_of x y xs ys e = cc

rest_of : (x y : List ℕ) (xs ys : List (List ℕ)) → x ∷ xs ≡ y ∷ ys → xs ≡ ys
rest_of x y xs ys e = cc

-- whether the first argument is the given one
pub start_with : (ws : List (String Global)) (w : String Global) (word : List ℕ) (count : ℕ) (b : Bool) → length ws ≡ count → 0 < count → w ≡ get_or ws 0 w →
    b ≡ bytes_eq (string_bytes w) word → (b ≡ true → StartWith word count ws) × (StartWith word count ws → b ≡ true)
start_with [] w word count b len some e is = absurd (omega arith)
start_with (v ∷ vs) w word count b len some e is =
    let d = bytes_eq-Decides (string_bytes w) word in
    let first : string_bytes v ≡ string_bytes w = ap string_bytes (sym e) in (
      λ t. (map string_bytes vs, ap (λ (s : List ℕ). s ∷ map string_bytes vs) (first ∙ d.0 (sym is ∙ t)), len),
      λ h. is ∙ d.1 (sym first ∙ first_of (string_bytes v) word (map string_bytes vs) h.0 h.1),
    )

-- there are as many arguments as strings
count_of : (texts : List (List ℕ)) (ws : List (String Global)) → AreTexts texts ws → length ws ≡ length texts
count_of texts ws are = sym (length-map ws string_bytes) ∙ ap length are

pub one_alone : (ws : List (String Global)) (word : List ℕ) → (StartWith word 1 ws → AreTexts (word ∷ []) ws) × (AreTexts (word ∷ []) ws → StartWith word 1 ws)
one_alone ws word = (λ h. by_rest h.0 h.1 h.2, λ are. ([], are, count_of (word ∷ []) ws are))
  where
    by_rest : (rest : List (List ℕ)) → AreTexts (word ∷ rest) ws → length ws ≡ 1 → AreTexts (word ∷ []) ws
    by_rest [] are len = are
    by_rest (x ∷ xs) are len = absurd (omega (arith, count_of (word ∷ x ∷ xs) ws are))

-- the second argument, and the third
pub two_arguments : (ws : List (String Global)) (w : String Global) (word : List ℕ) → StartWith word 2 ws → w ≡ get_or ws 1 w → AreTexts (word ∷ string_bytes w ∷ []) ws
two_arguments [] w word h e = absurd (omega (arith, h.2))
two_arguments (a ∷ []) w word h e = absurd (omega (arith, h.2))
two_arguments (a ∷ b ∷ []) w word h e =
    ap₂ (λ (s t : List ℕ). s ∷ t ∷ []) (first_of (string_bytes a) word (string_bytes b ∷ []) h.0 h.1) (ap string_bytes (sym e))
two_arguments (a ∷ b ∷ c ∷ ws) w word h e = absurd (omega (arith, h.2))

pub three_arguments : (ws : List (String Global)) (v w : String Global) (word : List ℕ) → StartWith word 3 ws → v ≡ get_or ws 1 v → w ≡ get_or ws 2 w →
    AreTexts (word ∷ string_bytes v ∷ string_bytes w ∷ []) ws
three_arguments [] v w word h e f = absurd (omega (arith, h.2))
three_arguments (a ∷ []) v w word h e f = absurd (omega (arith, h.2))
three_arguments (a ∷ b ∷ []) v w word h e f = absurd (omega (arith, h.2))
three_arguments (a ∷ b ∷ c ∷ []) v w word h e f =
    let first = first_of (string_bytes a) word (string_bytes b ∷ string_bytes c ∷ []) h.0 h.1 in
    ap₂ (λ (x : List ℕ) (xs : List (List ℕ)). x ∷ xs) first (ap₂ (λ (s t : List ℕ). s ∷ t ∷ []) (ap string_bytes (sym e)) (ap string_bytes (sym f)))
three_arguments (a ∷ b ∷ c ∷ d ∷ ws) v w word h e f = absurd (omega (arith, h.2))

pub start_with_two : (ws : List (String Global)) (word : List ℕ) (allowed : Numerals) (n : ℕ) → HaveNumber word allowed n ws → StartWith word 2 ws
start_with_two ws word allowed n have = (have.0 ∷ [], have.1, count_of (word ∷ have.0 ∷ []) ws have.1)

pub start_with_three : (ws : List (String Global)) (word : List ℕ) (allowed : Numerals) (n m : ℕ) → HaveNumbers word allowed n m ws → StartWith word 3 ws
start_with_three ws word allowed n m have = (have.0 ∷ have.1 ∷ [], have.2, count_of (word ∷ have.0 ∷ have.1 ∷ []) ws have.2)

-- the arguments of commands are few
pub few_none : (ws : List (String Global)) → AreTexts [] ws → length ws ≤ most_arguments
few_none ws are = omega (arith, count_of [] ws are)

pub few_started : (word : List ℕ) (ws : List (String Global)) → StartWith word 2 ws → length ws ≤ most_arguments
few_started word ws h = omega (arith, h.2)

pub few_one : (word : List ℕ) (ws : List (String Global)) → AreTexts (word ∷ []) ws → length ws ≤ most_arguments
few_one word ws are = omega (arith, count_of (word ∷ []) ws are)

pub few_two : (word : List ℕ) (allowed : Numerals) (n : ℕ) (ws : List (String Global)) → HaveNumber word allowed n ws → length ws ≤ most_arguments
few_two word allowed n ws have = omega (arith, (start_with_two ws word allowed n have).2)

pub few_three : (word : List ℕ) (allowed : Numerals) (n m : ℕ) (ws : List (String Global)) → HaveNumbers word allowed n m ws → length ws ≤ most_arguments
few_three word allowed n m ws have = omega (arith, (start_with_three ws word allowed n m have).2)

-- digits denote one number
one_number : (allowed : Numerals) (digits same : List ℕ) (n m : ℕ) → digits ≡ same → IsNumeralOf allowed digits n → IsNumeralOf allowed same m → n ≡ m
one_number allowed digits same n m e p q = p.value ∙ (ap (digits_value 10) e ∙ sym q.value)

pub only_number : (ws : List (String Global)) (text word : List ℕ) (allowed : Numerals) (n : Option ℕ) → AreTexts (word ∷ text ∷ []) ws →
    IfSome n (IsNumeralOf allowed text) → (IsNone n → (m : ℕ) → IsNumeralOf allowed text m → ⊥) → IsOnly (λ n. HaveNumber word allowed n ws) n
only_number ws text word allowed (Some n) are some none =
    ((text, are, some), λ m have. one_number allowed have.0 text m n (same have.0 have.1) have.2 some)
  where
    same : (digits : List ℕ) → AreTexts (word ∷ digits ∷ []) ws → digits ≡ text
    same digits are' = first_of digits text [] [] (rest_of word word (digits ∷ []) (text ∷ []) (sym are' ∙ are))
only_number ws text word allowed None are some none =
    λ m have. none refl m (subst (λ (digits : List ℕ). IsNumeralOf allowed digits m) (same have.0 have.1) have.2)
  where
    same : (digits : List ℕ) → AreTexts (word ∷ digits ∷ []) ws → digits ≡ text
    same digits are' = first_of digits text [] [] (rest_of word word (digits ∷ []) (text ∷ []) (sym are' ∙ are))

-- the numbers in the arguments are the same strings
same_two : (ws : List (String Global)) (word x y v w : List ℕ) → AreTexts (word ∷ v ∷ w ∷ []) ws → AreTexts (word ∷ x ∷ y ∷ []) ws → (x ≡ v) × (y ≡ w)
same_two ws word x y v w are other =
    let rest = rest_of word word (x ∷ y ∷ []) (v ∷ w ∷ []) (sym other ∙ are) in
    (first_of x v (y ∷ []) (w ∷ []) rest, first_of y w [] [] (rest_of x v (y ∷ []) (w ∷ []) rest))

pub only_numbers : (ws : List (String Global)) (v w word : List ℕ) (allowed : Numerals) (n m : Option ℕ) → AreTexts (word ∷ v ∷ w ∷ []) ws →
    IfSome n (IsNumeralOf allowed v) → (IsNone n → (k : ℕ) → IsNumeralOf allowed v k → ⊥) → IfSome m (IsNumeralOf allowed w) → (IsNone m → (k : ℕ) → IsNumeralOf allowed w k → ⊥) →
    IsOnly (λ (p : ℕ × ℕ). HaveNumbers word allowed p.0 p.1 ws) (option_zip n m)
only_numbers ws v w word allowed (Some n) (Some m) are some none also neither = (
  (v, w, are, some, also),
  λ p have. let same = same_two ws word have.0 have.1 v w are have.2 in
      ap₂ (λ (i j : ℕ). (i, j)) (one_number allowed have.0 v p.0 n same.0 have.3 some) (one_number allowed have.1 w p.1 m same.1 have.4 also),
)
only_numbers ws v w word allowed (Some n) None are some none also neither =
    λ p have. neither refl p.1 (subst (λ (digits : List ℕ). IsNumeralOf allowed digits p.1) (same_two ws word have.0 have.1 v w are have.2).1 have.4)
only_numbers ws v w word allowed None m are some none also neither =
    λ p have. none refl p.0 (subst (λ (digits : List ℕ). IsNumeralOf allowed digits p.0) (same_two ws word have.0 have.1 v w are have.2).0 have.3)
