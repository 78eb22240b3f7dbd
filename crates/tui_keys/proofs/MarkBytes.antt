-- Which bytes come before the last byte of the sequences that begin and end a paste.
use Rattle.std.proofs.Common.{◌≡◌, ◌≢◌, ◌<◌, ◌≤◌, ℕ, sym, subst, ap, ◌∙◌, ◌+◌, ◌-◌, ◌*◌, min, Bool, true, false, ◌==◌, List, [], ◌∷◌, ◌++◌, All, length, refl, if◌then◌else◌, append_assoc, arith}
use Rattle.std.specs.Prelude.{nat_lt, ⊤}
use Rattle.std.specs.Char.{digit_value}
use Rattle.std.specs.Str.Parse.{AllDigits, digits_value}
use Rattle.std.proofs.lemmas.Bool.{true≢false}
use Rattle.std.proofs.lemmas.Bool.Decides.{nat_tests}
use Rattle.std.proofs.lemmas.Int.Digits.{digits_value_push}
use Rattle.std.proofs.lemmas.List.{append-nil}
use Rattle.std.proofs.lemmas.List.Elements.{All-head, All-tail}
use Rattle.tui_keys.specs.declared.event.Event.{Event}
use Rattle.tui_keys.specs.declared.event.Event.TheVariants as events
use Rattle.tui_keys.specs.declared.keys.PartialCharacter.{PartialCharacter}
use Rattle.tui_keys.specs.declared.keys.KeyDecoder.{KeyDecoder}
use Rattle.tui_keys.specs.declared.keys.Numbers.{Numbers}
use Rattle.tui_keys.specs.declared.keys.Pending.{Pending}
use Rattle.tui_keys.specs.declared.keys.Pending.TheVariants.{Nothing, Escape, Bracket, Ss3, Console, Sequence, Opened, Answer, AnswerEscape, Character}
use Rattle.tui_keys.specs.declared.keys.Decoded.{Decoded}
use Rattle.tui_keys.specs.Events.{keys_after}
use Rattle.tui_keys.specs.Laws.{EndsInNumber, IsMark}
use Rattle.tui_keys.specs.Steps.{after_bracket, after_escape, after_pasted_escape, after_ss3, ground, broken_by, ends_answer, in_answer, in_character, in_console, in_paste, in_sequence, is_mark, lead, marked, more, no_numbers, one, opens_answer, pasted, start, stepped, typed, with_digit, with_next}

-- ---- what some bytes end with

record IsEnd (tail bs : List ℕ) : Type 0 where
  before : List ℕ
  whole : bs ≡ before ++ tail

-- ESC [ and digits, whose number saturates at 65535
record NumberEnd (f : ℕ) (bs : List ℕ) : Type 0 where
  before : List ℕ
  digits : List ℕ
  whole : bs ≡ before ++ (27 ∷ 91 ∷ digits)
  all : AllDigits 10 digits
  value : min (digits_value 10 digits) 65535 ≡ f

abbrev EndsAfter : Pending → List ℕ → Type 0
EndsAfter Escape bs = IsEnd (27 ∷ []) bs
EndsAfter AnswerEscape bs = IsEnd (27 ∷ []) bs
EndsAfter Bracket bs = IsEnd (27 ∷ 91 ∷ []) bs
EndsAfter (Sequence n) bs = n.is_plain ≡ true → n.place ≡ 0 → NumberEnd n.first bs
EndsAfter p bs = ⊤

record After (s : Decoded) (bs : List ℕ) : Type 0 where
  is : EndsAfter s.keys.pending bs

choose : (t : Bool) (s u : Decoded) (bs : List ℕ) → (t ≡ true → After s bs) → (t ≡ false → After u bs) → After (if t then s else u) bs
choose true s u bs f g = f refl
choose false s u bs f g = g refl

done : (e : Event) (bs : List ℕ) → After (one e) bs
done e bs = record { is = tt }

-- ---- first bytes

lead_after : (alt : Bool) (b : ℕ) (bs : List ℕ) → After (lead alt b) bs
unfolding lead
lead_after alt b bs =
    choose (nat_lt b 194) _ _ bs (λ e. done _ bs) (λ e. choose (nat_lt b 224) _ _ bs (λ f. record { is = tt })
    (λ f. choose (nat_lt b 240) _ _ bs (λ g. record { is = tt }) (λ g. choose (nat_lt b 245) _ _ bs (λ h. record { is = tt }) (λ h. done _ bs))))

esc_end : (b : ℕ) (bs : List ℕ) → (b == 27) ≡ true → IsEnd (27 ∷ []) (bs ++ b ∷ [])
esc_end b bs e =
    let esc : b ≡ 27 = grind (arith, nat_tests) in
    record { before = bs; whole = ap (λ (c : ℕ). bs ++ c ∷ []) esc }

begin_after : (b : ℕ) (bs : List ℕ) → After (ground b) (bs ++ b ∷ [])
unfolding ground
begin_after b bs =
    let to = bs ++ b ∷ [] in
    choose (b == 8) _ _ to (λ e. done _ to) (λ e. choose (b == 9) _ _ to (λ f. done _ to) (λ f. choose (b == 10) _ _ to (λ g. done _ to)
    (λ g. choose (b == 13) _ _ to (λ h. done _ to) (λ h. choose (nat_lt b 27) _ _ to (λ i. done _ to)
    (λ i. choose (b == 27) _ _ to (λ esc. record { is = esc_end b bs esc }) (λ j. choose (nat_lt b 32) _ _ to (λ k. done _ to)
    (λ k. choose (nat_lt b 127) _ _ to (λ l. done _ to) (λ l. choose (b == 127) _ _ to (λ m. done _ to) (λ m. lead_after false b to)))))))))

broken : (e : Event) (b : ℕ) (bs : List ℕ) → After (broken_by e b) (bs ++ b ∷ [])
broken e b bs = record { is = (begin_after b bs).is }

bracket_end : (b : ℕ) (bs : List ℕ) → (b == 91) ≡ true → IsEnd (27 ∷ []) bs → IsEnd (27 ∷ 91 ∷ []) (bs ++ b ∷ [])
bracket_end b bs e end =
    let bracket : b ≡ 91 = grind (arith, nat_tests) in
    record {
      before = end.before;
      whole = ap (λ (c : ℕ). bs ++ c ∷ []) bracket ∙ (ap (λ (l : List ℕ). l ++ 91 ∷ []) end.whole ∙ append_assoc end.before (27 ∷ []) (91 ∷ []));
    }

escape_after : (b : ℕ) (bs : List ℕ) → IsEnd (27 ∷ []) bs → After (after_escape b) (bs ++ b ∷ [])
unfolding after_escape
escape_after b bs end =
    let to = bs ++ b ∷ [] in
    choose (b == 91) _ _ to (λ e. record { is = bracket_end b bs e end }) (λ e. choose (b == 79) _ _ to (λ f. record { is = tt })
    (λ f. choose (opens_answer b) _ _ to (λ g. record { is = tt }) (λ g. choose (nat_lt b 32) _ _ to (λ h. broken _ b bs)
    (λ h. choose (nat_lt b 127) _ _ to (λ i. done _ to) (λ i. choose (b == 127) _ _ to (λ j. broken _ b bs) (λ j. lead_after true b to))))))

pasted_escape_after : (b : ℕ) (bs : List ℕ) → IsEnd (27 ∷ []) bs → After (after_pasted_escape b) (bs ++ b ∷ [])
unfolding after_pasted_escape
pasted_escape_after b bs end =
    let to = bs ++ b ∷ [] in
    choose (b == 91) _ _ to (λ e. record { is = bracket_end b bs e end }) (λ e. choose (nat_lt b 32) _ _ to (λ f. broken _ b bs)
    (λ f. choose (nat_lt b 127) _ _ to (λ g. done _ to) (λ g. broken _ b bs)))

answer_after : (b : ℕ) (bs : List ℕ) → After (in_answer b) (bs ++ b ∷ [])
unfolding in_answer
answer_after b bs =
    let to = bs ++ b ∷ [] in
    choose (b == 7) _ _ to (λ e. record { is = tt }) (λ e. choose (b == 27) _ _ to (λ f. record { is = esc_end b bs f }) (λ f. record { is = tt }))

answer_escape_after : (b : ℕ) (bs : List ℕ) → IsEnd (27 ∷ []) bs → After (ends_answer b) (bs ++ b ∷ [])
unfolding ends_answer
answer_escape_after b bs end = choose (b == 92) _ _ (bs ++ b ∷ []) (λ e. record { is = tt }) (λ e. escape_after b bs end)

ss3_after : (b : ℕ) (bs : List ℕ) → After (after_ss3 b) (bs ++ b ∷ [])
unfolding after_ss3
ss3_after b bs =
    let to = bs ++ b ∷ [] in
    choose (nat_lt b 32) _ _ to (λ e. broken _ b bs) (λ e. choose (nat_lt b 127) _ _ to (λ f. done _ to) (λ f. broken _ b bs))

console_after : (b : ℕ) (bs : List ℕ) → After (in_console b) (bs ++ b ∷ [])
unfolding in_console
console_after b bs =
    let to = bs ++ b ∷ [] in
    choose (nat_lt b 32) _ _ to (λ e. broken _ b bs) (λ e. choose (nat_lt b 127) _ _ to (λ f. done _ to) (λ f. broken _ b bs))

character_after : (p : PartialCharacter) (b : ℕ) (bs : List ℕ) → After (in_character p b) (bs ++ b ∷ [])
unfolding in_character
character_after p b bs =
    let to = bs ++ b ∷ [] in
    choose (nat_lt b 128) _ _ to (λ e. broken _ b bs) (λ e. choose (nat_lt b 192) _ _ to (λ f. choose (nat_lt p.left 2) _ _ to (λ g. done _ to)
    (λ g. record { is = tt })) (λ f. broken _ b bs))

-- ---- digits

pub digit_is : (b : ℕ) → 48 ≤ b → b < 58 → digit_value b ≡ b - 48
digit_is b low high = grind (arith, nat_tests)

digits_push : (ds : List ℕ) (b : ℕ) → AllDigits 10 ds → digit_value b < 10 → AllDigits 10 (ds ++ b ∷ [])
digits_push [] b all small = (small, tt)
digits_push (d ∷ ds) b all small = (all.0, digits_push ds b all.1 small)

pub capped : (v f d : ℕ) → min v 65535 ≡ f → min (v * 10 + d) 65535 ≡ min (f * 10 + d) 65535
capped v f d e = grind (arith)

number_push : (f b : ℕ) (bs : List ℕ) → 48 ≤ b → b < 58 → NumberEnd f bs → NumberEnd (more f (b - 48)) (bs ++ b ∷ [])
number_push f b bs low high end =
    let is = digit_is b low high in
    record {
      before = end.before;
      digits = end.digits ++ b ∷ [];
      whole = ap (λ (l : List ℕ). l ++ b ∷ []) end.whole ∙ append_assoc end.before (27 ∷ 91 ∷ end.digits) (b ∷ []);
      all = digits_push end.digits b end.all (rw is (omega arith));
      value = ap (λ (v : ℕ). min v 65535) (digits_value_push 10 end.digits b ∙ ap (λ (d : ℕ). digits_value 10 end.digits * 10 + d) is)
          ∙ capped (digits_value 10 end.digits) f (b - 48) end.value;
    }

-- a digit is added to the current parameter
abbrev placed : Bool → Bool → Bool → Numbers → ℕ → Numbers
placed t u v n d =
    if t then record n { first = more n.first d }
    else if u then record n { second = more n.second d }
    else if v then record n { third = more n.third d }
    else n

same_place : (t u v : Bool) (n : Numbers) (d : ℕ) → (placed t u v n d).place ≡ n.place
same_place true u v n d = refl
same_place false true v n d = refl
same_place false false true n d = refl
same_place false false false n d = refl

same_plain : (t u v : Bool) (n : Numbers) (d : ℕ) → (placed t u v n d).is_plain ≡ n.is_plain
same_plain true u v n d = refl
same_plain false true v n d = refl
same_plain false false true n d = refl
same_plain false false false n d = refl

digit_after : (n : Numbers) (b : ℕ) (bs : List ℕ) → nat_lt b 48 ≡ false → nat_lt b 58 ≡ true → EndsAfter (Sequence n) bs →
    EndsAfter (Sequence (with_digit n (b - 48))) (bs ++ b ∷ [])
unfolding with_digit
digit_after n b bs below above end =
    let d = b - 48 in
    let low : 48 ≤ b = grind (arith, nat_tests) in
    let high : b < 58 = grind (arith, nat_tests) in
    λ plain place.
    let first : n.place ≡ 0 = sym (same_place (n.place == 0) (n.place == 1) (n.place == 2) n d) ∙ place in
    let test : (n.place == 0) ≡ true = grind (arith, nat_tests) in
    let is_plain : n.is_plain ≡ true = sym (same_plain (n.place == 0) (n.place == 1) (n.place == 2) n d) ∙ plain in
    let is : (placed (n.place == 0) (n.place == 1) (n.place == 2) n d).first ≡ more n.first d =
    ap (λ (t : Bool). (placed t (n.place == 1) (n.place == 2) n d).first) test in
    subst (λ (f : ℕ). NumberEnd f (bs ++ b ∷ [])) (sym is) (number_push n.first b bs low high (end is_plain first))

next_place : (t : Bool) (n : Numbers) → nat_lt n.place 3 ≡ t → (if t then record n { place = n.place + 1 } else n).place ≡ 0 → ⊥
next_place true n e zero_place = absurd (omega (arith, zero_place))
next_place false n e zero_place =
    let high : 3 ≤ n.place = grind (arith, nat_tests) in
    absurd (omega (arith, zero_place))

next_after : (n : Numbers) (bs : List ℕ) → EndsAfter (Sequence (with_next n)) bs
unfolding with_next
next_after n bs = λ plain place. absurd (next_place (nat_lt n.place 3) n refl place)

sequence_after : (n : Numbers) (b : ℕ) (bs : List ℕ) → EndsAfter (Sequence n) bs → After (in_sequence n b) (bs ++ b ∷ [])
unfolding in_sequence
sequence_after n b bs end =
    let to = bs ++ b ∷ [] in
    choose (nat_lt b 32) _ _ to (λ e. broken _ b bs) (λ e. choose (nat_lt b 48) _ _ to (λ f. record { is = λ plain. absurd (true≢false (sym plain)) })
    (λ f. choose (nat_lt b 58) _ _ to (λ g. record { is = digit_after n b bs f g end }) (λ g. choose (b == 59) _ _ to (λ h. record { is = next_after n to })
    (λ h. choose (nat_lt b 64) _ _ to (λ i. record { is = λ plain. absurd (true≢false (sym plain)) }) (λ i. choose (nat_lt b 127) _ _ to (λ j. done _ to)
    (λ j. broken _ b bs))))))

marked_after : (number : ℕ) (event : Event) (n : Numbers) (b : ℕ) (bs : List ℕ) → EndsAfter (Sequence n) bs → After (marked number event n b) (bs ++ b ∷ [])
unfolding marked
marked_after number event n b bs end =
    choose (is_mark number n b) _ _ (bs ++ b ∷ []) (λ e. done _ (bs ++ b ∷ [])) (λ e. sequence_after n b bs end)

no_digits : (bs : List ℕ) → IsEnd (27 ∷ 91 ∷ []) bs → NumberEnd 0 bs
no_digits bs end = record { before = end.before; digits = []; whole = end.whole; all = tt; value = refl }

bracket_after : (b : ℕ) (bs : List ℕ) → IsEnd (27 ∷ 91 ∷ []) bs → After (after_bracket b) (bs ++ b ∷ [])
unfolding after_bracket
bracket_after b bs end =
    choose (b == 91) _ _ (bs ++ b ∷ []) (λ e. record { is = tt }) (λ e. sequence_after no_numbers b bs (λ plain place. no_digits bs end))

-- ---- any bytes

typed_after : (p : Pending) (b : ℕ) (bs : List ℕ) → EndsAfter p bs → After (typed p b) (bs ++ b ∷ [])
typed_after Nothing b bs end = begin_after b bs
typed_after Escape b bs end = escape_after b bs end
typed_after Bracket b bs end = bracket_after b bs end
typed_after Ss3 b bs end = ss3_after b bs
typed_after Console b bs end = console_after b bs
typed_after (Sequence n) b bs end = marked_after 200 events.PasteBegin n b bs end
typed_after (Opened o) b bs end = answer_after b bs
typed_after Answer b bs end = answer_after b bs
typed_after AnswerEscape b bs end = answer_escape_after b bs end
typed_after (Character c) b bs end = character_after c b bs

in_paste_after : (p : Pending) (b : ℕ) (bs : List ℕ) → EndsAfter p bs → After (in_paste p b) (bs ++ b ∷ [])
in_paste_after Nothing b bs end = begin_after b bs
in_paste_after Escape b bs end = pasted_escape_after b bs end
in_paste_after Bracket b bs end = bracket_after b bs end
in_paste_after Ss3 b bs end = ss3_after b bs
in_paste_after Console b bs end = console_after b bs
in_paste_after (Sequence n) b bs end = marked_after 201 events.PasteEnd n b bs end
in_paste_after (Opened o) b bs end = answer_after b bs
in_paste_after Answer b bs end = answer_after b bs
in_paste_after AnswerEscape b bs end = answer_escape_after b bs end
in_paste_after (Character c) b bs end = character_after c b bs

by : (t q : Bool) (u s v : Decoded) (bs : List ℕ) → t ≡ false → After s bs → After v bs → After (if t then u else if q then pasted s else v) bs
by true q u s v bs e f g = absurd (true≢false e)
by false true u s v bs e f g = record { is = f.is }
by false false u s v bs e f g = g

step_after : (keys : KeyDecoder) (b : ℕ) (bs : List ℕ) → b ≢ 0 → EndsAfter keys.pending bs → After (stepped keys b) (bs ++ b ∷ [])
unfolding stepped
step_after keys b bs some end =
    let e : (b == 0) ≡ false = grind (arith, nat_tests) in
    by (b == 0) keys.pasting _ _ _ (bs ++ b ∷ []) e (in_paste_after keys.pending b bs end) (typed_after keys.pending b bs end)

all_after : (keys : KeyDecoder) (bs cs : List ℕ) → All (λ (b : ℕ). b ≢ 0) cs → EndsAfter keys.pending bs → EndsAfter (keys_after keys cs).pending (bs ++ cs)
unfolding keys_after
all_after keys bs [] all end = rw (append-nil bs) end
all_after keys bs (c ∷ cs) all end =
    let some = λ (b : ℕ). b ≢ 0 in
    let here = (step_after keys c bs (All-head some c cs all) end).is in
    let rest = all_after (stepped keys c).keys (bs ++ c ∷ []) cs (All-tail some c cs all) here in
    subst (λ (l : List ℕ). EndsAfter (keys_after (stepped keys c).keys cs).pending l) (append_assoc bs (c ∷ []) cs) rest

some_digits : (ds : List ℕ) → 0 < digits_value 10 ds → 0 < length ds
some_digits [] h = absurd (omega (arith, h))
some_digits (d ∷ ds) h = omega arith

number_ends : (number b : ℕ) (p : Pending) (bs : List ℕ) → 0 < number → number < 65535 → IsMark number p b → EndsAfter p bs → EndsInNumber number bs
number_ends number b (Sequence n) bs low high m end =
    let number_end = end m.0 m.1 in
    let count = digits_value 10 number_end.digits in
    let cap : min count 65535 ≡ number = number_end.value ∙ m.2 in
    let value : count ≡ number = grind (arith) in
    (number_end.before, number_end.digits, number_end.whole, (some_digits number_end.digits (rw value low), number_end.all), value)
number_ends number b p bs low high m end = absurd m

pub mark_ends : (number : ℕ) (bytes : List ℕ) (b : ℕ) → 0 < number → number < 65535 → All (λ (c : ℕ). c ≢ 0) bytes →
    IsMark number (keys_after start bytes).pending b → EndsInNumber number bytes
mark_ends number bytes b low high all m = number_ends number b (keys_after start bytes).pending bytes low high m (all_after start [] bytes all tt)
