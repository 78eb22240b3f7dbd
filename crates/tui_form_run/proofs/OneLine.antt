-- The text of the answers contains no newline.
use Rattle.std.proofs.Common.{◌≡◌, ◌≢◌, ℕ, zero, suc, ◌/◌, ◌%◌, Bool, true, false, nat_lt, List, [], ◌∷◌, ◌++◌, cond, refl, sym, subst, arith, inl, inr}
use Rattle.std.proofs.lemmas.Bool.Decides.{nat_tests}
use Rattle.std.proofs.lemmas.List.Concat.{flat_map-cons}
use Rattle.std.proofs.lemmas.List.Elements.{Contains-append_cases}
use Rattle.std.specs.Char.{digit_char}
use Rattle.std.specs.List.{Contains}
use Rattle.json.specs.Print.{escape, escape_byte, escape_letter, print_from, quoted, separator, token_text}
use Rattle.json.specs.Token.{Token}
use Rattle.json.specs.Token as token
use Rattle.json.specs.Tree.{json_tokens, members_tokens}
use Rattle.tui_form_lib.specs.Field.{FieldData, Reply, answer_of, flag_reply, text_reply}
use Rattle.tui_form_run.specs.Answers.{answers_text, json_of, members_of}

record IsOneLine (text : List ℕ) : Type 0 where
  free : Contains text 10 → ⊥

none_in : Contains {X = ℕ} [] 10 → ⊥
none_in (k, below, e) = absurd (omega arith)

none : IsOneLine []
none = record { free = none_in }

one_in : (b : ℕ) → b ≢ 10 → Contains {X = ℕ} (b ∷ []) 10 → ⊥
one_in b other (zero, below, e) = other e
one_in b other (suc k, below, e) = absurd (omega arith)

one : (b : ℕ) → b ≢ 10 → IsOneLine (b ∷ [])
one b other = record { free = one_in b other }

both : (xs ys : List ℕ) → IsOneLine xs → IsOneLine ys → IsOneLine (xs ++ ys)
both xs ys first second = record {
  free = λ has. elim (Contains-append_cases xs ys 10 has) [ inl left ↦ first.free left | inr right ↦ second.free right ];
}

more : (b : ℕ) (xs : List ℕ) → b ≢ 10 → IsOneLine xs → IsOneLine (b ∷ xs)
more b xs other rest = both (b ∷ []) xs (one b other) rest

either : (b : Bool) (xs ys : List ℕ) → (b ≡ true → IsOneLine xs) → (b ≡ false → IsOneLine ys) → IsOneLine (cond b xs ys)
either true xs ys first second = first refl
either false xs ys first second = second refl

letter_other : (b : ℕ) → escape_letter b ≢ 10
letter_other b e = grind (arith, nat_tests)

digit_other : (d : ℕ) → digit_char d ≢ 10
digit_other d e = grind (arith, nat_tests)

high_other : (b : ℕ) → nat_lt b 32 ≡ false → b ≢ 10
high_other b high e = grind (arith, nat_tests)

hex : (b : ℕ) → IsOneLine (92 ∷ 117 ∷ 48 ∷ 48 ∷ digit_char (b / 16) ∷ digit_char (b % 16) ∷ [])
hex b =
    let digits = more (digit_char (b / 16)) _ (digit_other (b / 16)) (one (digit_char (b % 16)) (digit_other (b % 16))) in
    more 92 _ (λ e. omega arith) (more 117 _ (λ e. omega arith) (more 48 _ (λ e. omega arith) (more 48 _ (λ e. omega arith) digits)))

byte_one : (b : ℕ) → IsOneLine (escape_byte b)
unfolding escape_byte
byte_one b =
    either (nat_lt 0 (escape_letter b)) _ _ (λ some. more 92 _ (λ e. omega arith) (one (escape_letter b) (letter_other b)))
    (λ no_letter. either (nat_lt b 32) _ _ (λ low. hex b) (λ high. one b (high_other b high)))

escape_one : (text : List ℕ) → IsOneLine (escape text)
escape_one [] = none
escape_one (b ∷ bs) = subst IsOneLine (sym (flat_map-cons escape_byte b bs)) (both (escape_byte b) (escape bs) (byte_one b) (escape_one bs))

quoted_one : (text : List ℕ) → IsOneLine (quoted text)
quoted_one text = more 34 _ (λ e. omega arith) (both (escape text) (34 ∷ []) (escape_one text) (one 34 (λ e. omega arith)))

comma_one : (b : Bool) (t : Token) → IsOneLine (separator b t)
comma_one b t = either _ _ _ (λ some. one 44 (λ e. omega arith)) (λ no_comma. none)

flag_one : (on : Bool) → IsOneLine (token_text (token.boolean on))
flag_one true = more 116 _ (λ e. omega arith) (more 114 _ (λ e. omega arith) (more 117 _ (λ e. omega arith) (one 101 (λ e. omega arith))))
flag_one false =
    more 102 _ (λ e. omega arith) (more 97 _ (λ e. omega arith) (more 108 _ (λ e. omega arith) (more 115 _ (λ e. omega arith) (one 101 (λ e. omega arith)))))

value_one : (a : Reply) (ts : List Token) → IsOneLine (print_from true ts) → IsOneLine (print_from false (json_tokens (json_of a) ++ ts))
unfolding print_from
value_one (text_reply text) ts rest = both (quoted text) _ (quoted_one text) rest
value_one (flag_reply flag) ts rest = both (token_text (token.boolean flag)) _ (flag_one flag) rest

members_one : (b : Bool) (fields : List FieldData) → IsOneLine (print_from b (members_tokens (members_of fields)))
unfolding print_from
members_one b [] = both (separator b token.end_object) _ (comma_one b token.end_object) (one 125 (λ e. omega arith))
members_one b (f ∷ fs) =
    both (separator b (token.key f.name)) _ (comma_one b (token.key f.name))
    (both (quoted f.name ++ 58 ∷ []) _ (both (quoted f.name) (58 ∷ []) (quoted_one f.name) (one 58 (λ e. omega arith)))
    (value_one (answer_of f.value) (members_tokens (members_of fs)) (members_one true fs)))

text_one : (fields : List FieldData) → IsOneLine (answers_text fields)
unfolding print_from
text_one fields = more 123 _ (λ e. omega arith) (members_one false fields)

pub answers_one : (fields : List FieldData) → Contains (answers_text fields) 10 → ⊥
answers_one fields = (text_one fields).free
