-- What the first bytes of a character say about it.
use Rattle.std.proofs.Common.{◌≡◌, ℕ, ◌+◌, ◌/◌, ◌%◌, ◌<◌, ◌≤◌, Bool, true, false, ◌⊎◌, inl, inr, ◌&&◌, ◌||◌, nat_le, List, [], ◌∷◌, ◌++◌, length, length-append, append-nil, get_or, ⊎_elim, le-ltb, lt-ltb, refl, sym, ap, subst, ◌∙◌, arith}
use lib.Utf8.{encode}
use Rattle.std.specs.Prelude.{encode_utf8_all}
use Rattle.std.specs.Str.{IsUtf8}
use Rattle.std.proofs.lemmas.Bool.{and_parts, cases_lt, leb-true, or_cases}
use Rattle.std.proofs.lemmas.Bool.Decides.{nat_tests}
use Rattle.ucd_table.specs.Rows.{Range, in_ranges}
use Rattle.tui_clusters.specs.Plain.{is_plain, is_sign_start, plain_len, sign_ranges, known_ranges, IsCharIn, IsLetter, IsPlainChar, IsSign}
use Rattle.tui_clusters.proofs.PlainChars.{IsCharIn-from}

module _ (c : ℕ) (r : List ℕ) where
  first_one : c < 128 → (get_or (encode c ++ r) 0 0 ≡ c) × (length (encode c) ≡ 1)
  unfolding encode
  first_one h = rw (lt-ltb c 128 h) (refl, refl)

  first_two : 128 ≤ c → c < 2048 → (get_or (encode c ++ r) 0 0 ≡ 192 + c / 64) × (length (encode c) ≡ 2)
  unfolding encode
  first_two l h = rw (le-ltb c 128 l, lt-ltb c 2048 h) (refl, refl)

  first_three : 2048 ≤ c → c < 65536 → (get_or (encode c ++ r) 0 0 ≡ 224 + c / 4096) × (length (encode c) ≡ 3)
  unfolding encode
  first_three l h = rw (le-ltb c 128 (omega arith), le-ltb c 2048 l, lt-ltb c 65536 h) (refl, refl)

  first_four : 65536 ≤ c → get_or (encode c ++ r) 0 0 ≡ 240 + c / 262144
  unfolding encode
  first_four l = rw (le-ltb c 128 (omega arith), le-ltb c 2048 (omega arith), le-ltb c 65536 l) refl

  second_three : 2048 ≤ c → c < 65536 → get_or (encode c ++ r) 1 0 ≡ 128 + c / 64 % 64
  unfolding encode
  second_three l h = rw (le-ltb c 128 (omega arith), le-ltb c 2048 l, lt-ltb c 65536 h) refl

by_len : (c : ℕ) (P : Type 0) → (c < 128 → P) → (128 ≤ c → c < 2048 → P) → (2048 ≤ c → c < 65536 → P) → (65536 ≤ c → P) → P
by_len c P one two three four =
    ⊎_elim one (λ some. ⊎_elim (two some) (λ more. ⊎_elim (three more) four (cases_lt c 65536)) (cases_lt c 2048)) (cases_lt c 128)

-- a byte b that identifies a plain character, by the length of that character
one_byte : (b : ℕ) → b < 128 → 0 < plain_len b → (plain_len b ≡ 1) × (32 ≤ b) × (b ≤ 126)
unfolding plain_len
one_byte b low h = (grind (arith, nat_tests), grind (arith, nat_tests), grind (arith, nat_tests))

abbrev pub leads_two : ℕ → Bool
leads_two b = (nat_le 0xC3 b && nat_le b 0xCB) || (nat_le 0xCE b && nat_le b 0xD1)

two_bytes : (b : ℕ) → 192 ≤ b → b < 224 → 0 < plain_len b → (plain_len b ≡ 2) × (leads_two b ≡ true)
unfolding plain_len
two_bytes b low high h = (grind (arith, nat_tests), grind (arith, nat_tests))

three_bytes : (b : ℕ) → 224 ≤ b → b < 240 → 0 < plain_len b → (plain_len b ≡ 3) × (0xE4 ≤ b) × (b ≤ 0xE9)
unfolding plain_len
three_bytes b low high h = (grind (arith, nat_tests), grind (arith, nat_tests), grind (arith, nat_tests))

no_four_bytes : (b : ℕ) → 240 ≤ b → plain_len b ≡ 0
unfolding plain_len
no_four_bytes b low = grind (arith, nat_tests)

pub no_continuation : (b : ℕ) → 128 ≤ b → 0 < plain_len b → 192 ≤ b
unfolding plain_len
no_continuation b low h = grind (arith, nat_tests)

pub printable_lead : (b : ℕ) → (nat_le 32 b && nat_le b 126) ≡ true → plain_len b ≡ 1
unfolding plain_len
printable_lead b h = grind (arith, nat_tests)

pub letter_lead : (b : ℕ) → leads_two b ≡ true → plain_len b ≡ 2
unfolding plain_len
letter_lead b h = grind (arith, nat_tests)

pub ideograph_lead : (b : ℕ) → (nat_le 0xE4 b && nat_le b 0xE9) ≡ true → plain_len b ≡ 3
unfolding plain_len
ideograph_lead b h = grind (arith, nat_tests)

-- the ranges that contain the character
pub in_one : (c : ℕ) → 32 ≤ c → c ≤ 126 → (in_ranges (known_ranges 1) c ≡ true) × (is_plain c ≡ true)
unfolding is_plain in_ranges
in_one c low high = (grind (arith, nat_tests), grind (arith, nat_tests))

in_latin : (c : ℕ) → 0xC0 ≤ c → c ≤ 0x2FF → (in_ranges (known_ranges 2) c ≡ true) × (is_plain c ≡ true)
unfolding is_plain in_ranges
in_latin c low high = (grind (arith, nat_tests), grind (arith, nat_tests))

in_greek : (c : ℕ) → 0x380 ≤ c → c ≤ 0x47F → (in_ranges (known_ranges 2) c ≡ true) × (is_plain c ≡ true)
unfolding is_plain in_ranges
in_greek c low high = (grind (arith, nat_tests), grind (arith, nat_tests))

in_two : (b c : ℕ) → b ≡ 192 + c / 64 → leads_two b ≡ true → (in_ranges (known_ranges 2) c ≡ true) × (is_plain c ≡ true)
in_two b c e h = ⊎_elim
    (λ latin.
    let p = and_parts (nat_le 0xC3 b) (nat_le b 0xCB) latin in
    let low = leb-true 0xC3 b p.0 in
    let high = leb-true b 0xCB p.1 in
    in_latin c (omega arith) (omega arith))
    (λ greek.
    let p = and_parts (nat_le 0xCE b) (nat_le b 0xD1) greek in
    let low = leb-true 0xCE b p.0 in
    let high = leb-true b 0xD1 p.1 in
    in_greek c (omega arith) (omega arith))
    (or_cases (nat_le 0xC3 b && nat_le b 0xCB) (nat_le 0xCE b && nat_le b 0xD1) h)

in_three : (c : ℕ) → 0x4000 ≤ c → c ≤ 0x9FFF → (in_ranges (known_ranges 3) c ≡ true) × (is_plain c ≡ true)
unfolding is_plain in_ranges
in_three c low high = (grind (arith, nat_tests), grind (arith, nat_tests))

in_signs : (c : ℕ) → 0x2500 ≤ c → c ≤ 0x25BF → (in_ranges sign_ranges c ≡ true) × (is_plain c ≡ true)
unfolding is_plain in_ranges
in_signs c low high = (grind (arith, nat_tests), grind (arith, nat_tests))

-- conversely, the first byte of such a letter identifies it
letter_range : (c : ℕ) → in_ranges (known_ranges 2) c ≡ true → (0xC0 ≤ c) × (c ≤ 0x47F) × (leads_two (192 + c / 64) ≡ true)
unfolding in_ranges
letter_range c h = ⊎_elim
    (λ latin.
    let p = and_parts (nat_le 0xC0 c) (nat_le c 0x2FF) latin in
    let low = leb-true 0xC0 c p.0 in
    let high = leb-true c 0x2FF p.1 in
    (low, omega arith, leads (192 + c / 64) (inl (omega arith, omega arith))))
    (λ others.
    let p = and_parts (nat_le 0x380 c) (nat_le c 0x47F) (or_none (nat_le 0x380 c && nat_le c 0x47F) others) in
    let low = leb-true 0x380 c p.0 in
    let high = leb-true c 0x47F p.1 in
    (omega arith, high, leads (192 + c / 64) (inr (omega arith, omega arith))))
    (or_cases (nat_le 0xC0 c && nat_le c 0x2FF) ((nat_le 0x380 c && nat_le c 0x47F) || false) h)
  where
    or_none : (b : Bool) → b || false ≡ true → b ≡ true
    or_none true e = refl
    or_none false e = cc

    leads : (b : ℕ) → ((0xC3 ≤ b) × (b ≤ 0xCB)) ⊎ ((0xCE ≤ b) × (b ≤ 0xD1)) → leads_two b ≡ true
    leads b (inl p) = let low = p.0 in let high = p.1 in grind (arith, nat_tests)
    leads b (inr p) = let low = p.0 in let high = p.1 in grind (arith, nat_tests)

pub letter_bytes : (text : List ℕ) → IsLetter text → (length text ≡ 2) × (leads_two (get_or text 0 0) ≡ true)
letter_bytes text p =
    let range = letter_range p.char p.within in
    let low = range.0 in
    let high = range.1 in
    let first = first_two p.char [] (omega arith) (omega arith) in
    let whole : text ≡ encode p.char ++ [] = p.encoded ∙ sym (append-nil (encode p.char)) in
    (ap length p.encoded ∙ first.1, subst (λ b. leads_two b ≡ true) (sym (ap (λ t. get_or t 0 0) whole ∙ first.0)) range.2)

sign_bytes : (a b : ℕ) → is_sign_start a b ≡ true → (a ≡ 0xE2) × (0x94 ≤ b) × (b ≤ 0x96)
sign_bytes a b h = (grind (arith, nat_tests), grind (arith, nat_tests), grind (arith, nat_tests))

-- the text begins with a plain character of n bytes in these ranges
pub record Begins (ranges : List Range) (text : List ℕ) (n : ℕ) : Type 0 where
  pub char : ℕ
  pub rest : List ℕ
  pub split : text ≡ encode char ++ rest
  pub size : length (encode char) ≡ n
  pub within : in_ranges ranges char ≡ true
  pub plain : is_plain char ≡ true

-- with a character that its first byte identifies
abbrev BeginsAsKnown : List ℕ → ℕ → Type 0
BeginsAsKnown text n = Begins (known_ranges n) text n

module _ (text : List ℕ) (c : ℕ) (r : List ℕ) (e : text ≡ encode c ++ r) where
  first : get_or text 0 0 ≡ get_or (encode c ++ r) 0 0
  first = ap (λ t. get_or t 0 0) e

  begins : (n : ℕ) → plain_len (get_or text 0 0) ≡ n → length (encode c) ≡ n → (in_ranges (known_ranges n) c ≡ true) × (is_plain c ≡ true) → BeginsAsKnown text (plain_len (get_or text 0 0))
  begins n is size within = subst (BeginsAsKnown text) (sym is) (record { char = c; rest = r; split = e; size = size; within = within.0; plain = within.1 })

  known : 0 < plain_len (get_or text 0 0) → BeginsAsKnown text (plain_len (get_or text 0 0))
  known h = by_len c (BeginsAsKnown text (plain_len (get_or text 0 0)))
      (λ low.
      let f = first_one c r low in
      let b = first ∙ f.0 in
      let l = one_byte (get_or text 0 0) (omega arith) h in
      let under = l.1 in
      let over = l.2 in
      begins 1 l.0 f.1 (in_one c (omega arith) (omega arith)))
      (λ some low.
      let f = first_two c r some low in
      let b = first ∙ f.0 in
      let l = two_bytes (get_or text 0 0) (omega arith) (omega arith) h in
      begins 2 l.0 f.1 (in_two (get_or text 0 0) c b l.1))
      (λ some low.
      let f = first_three c r some low in
      let b = first ∙ f.0 in
      let l = three_bytes (get_or text 0 0) (omega arith) (omega arith) h in
      let under = l.1 in
      let over = l.2 in
      begins 3 l.0 f.1 (in_three c (omega arith) (omega arith)))
      (λ some.
      let b = first ∙ first_four c r some in
      let none = no_four_bytes (get_or text 0 0) (omega arith) in
      absurd (omega arith))

  sign : is_sign_start (get_or text 0 0) (get_or text 1 0) ≡ true → Begins sign_ranges text 3
  sign h =
      let start = sign_bytes (get_or text 0 0) (get_or text 1 0) h in
      let lead = sym first ∙ start.0 in
      let low = start.1 in
      let high = start.2 in
      let second = ap (λ t. get_or t 1 0) e in
      by_len c (Begins sign_ranges text 3)
      (λ less. let f = (first_one c r less).0 in absurd (omega arith))
      (λ some less. let f = (first_two c r some less).0 in absurd (omega arith))
      (λ some less.
      let f = first_three c r some less in
      let b = f.0 in
      let s = second_three c r some less in
      let within = in_signs c (omega arith) (omega arith) in
      record { char = c; rest = r; split = e; size = f.1; within = within.0; plain = within.1 })
      (λ some. let f = first_four c r some in absurd (omega arith))

pub known_first : (text : List ℕ) (n : ℕ) → IsUtf8 text → 0 < length text → n ≡ plain_len (get_or text 0 0) → 0 < n → Begins (known_ranges n) text n
known_first text n u some is h = subst (BeginsAsKnown text) (sym is) (from u.0 u.1.1)
  where
    from : (cs : List ℕ) → encode_utf8_all cs ≡ text → BeginsAsKnown text (plain_len (get_or text 0 0))
    from [] e = absurd (omega (arith, ap length e))
    from (c ∷ cs) e = known text c (encode_utf8_all cs) (sym e) (omega arith)

pub sign_first : (text : List ℕ) → IsUtf8 text → 3 ≤ length text → is_sign_start (get_or text 0 0) (get_or text 1 0) ≡ true → Begins sign_ranges text 3
sign_first text u some h = from u.0 u.1.1
  where
    from : (cs : List ℕ) → encode_utf8_all cs ≡ text → Begins sign_ranges text 3
    from [] e = absurd (omega (arith, ap length e))
    from (c ∷ cs) e = sign text c (encode_utf8_all cs) (sym e) h

-- a text of only that character
pub lone_char : (ranges : List Range) (text : List ℕ) (n : ℕ) → IsUtf8 text → length text ≡ n → Begins ranges text n → IsCharIn ranges text
lone_char ranges text n u len b =
    let size = ap length b.split ∙ length-append (encode b.char) b.rest in
    let own = b.size in
    IsCharIn-from ranges text b.rest b.char u b.split (omega arith) b.within

pub known_char : (text : List ℕ) (n : ℕ) → IsUtf8 text → length text ≡ n → 0 < n → plain_len (get_or text 0 0) ≡ n → IsCharIn (known_ranges n) text
known_char text n u len some is = lone_char (known_ranges n) text n u len (known_first text n u (omega arith) (sym is) some)

pub sign_char : (text : List ℕ) → IsUtf8 text → length text ≡ 3 → is_sign_start (get_or text 0 0) (get_or text 1 0) ≡ true → IsSign text
sign_char text u three h = lone_char sign_ranges text 3 u three (sign_first text u (omega arith) h)

pub sign_plain : (text : List ℕ) → IsSign text → IsPlainChar text
unfolding in_ranges
sign_plain text p = record { char = p.char; encoded = p.encoded; is = p.is; within = let h = p.within in grind (arith, nat_tests) }
