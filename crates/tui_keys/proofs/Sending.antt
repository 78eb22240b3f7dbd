-- The bytes sent for events decode to these events.
use Rattle.std.proofs.Common.{◌≡◌, ◌≢◌, inl, inr, ℕ, ◌+◌, ◌-◌, ◌*◌, min, ◌≤◌, ◌<◌, Bool, true, false, ◌||◌, List, [], ◌∷◌, ◌++◌, get_or, None, Some, refl, sym, ap, subst, ◌∙◌, ◌==◌, if◌then◌else◌, arith}
use Rattle.std.specs.Prelude.{decimal, codes, flat_map, zero, suc}
use Rattle.std.proofs.lemmas.Bool.{cases_lt}
use Rattle.std.proofs.lemmas.Bool.Decides.{nat_tests}
use Rattle.std.proofs.lemmas.List.Elements.{All-head, All-tail}
use Rattle.tui_keys.proofs.Decoding.{joined, nothing_read, one_step}
use Rattle.tui_keys.proofs.Digits.{in_numbers, number_read}
use Rattle.tui_keys.proofs.Texts.{alt_long, encode_one, escaped, plain_read}
use Rattle.tui_keys.specs.declared.event.Event.{Event}
use Rattle.tui_keys.specs.declared.event.Event.TheVariants as events
use Rattle.tui_keys.specs.declared.event.Modifiers.{Modifiers}
use Rattle.tui_keys.specs.declared.event.Motion.{Motion}
use Rattle.tui_keys.specs.declared.event.Motion.TheVariants as motions
use Rattle.tui_keys.specs.declared.keys.Numbers.{Numbers}
use Rattle.tui_keys.specs.Events.{events_of, keys_after}
use Rattle.tui_keys.specs.Laws.{AreRead, SentIsRead}
use Rattle.tui_keys.specs.Sent.{IsNoneOf, IsPlain, IsSize, IsUnambiguous, csi, escape, function_texts, modifier_number, motion_text, sent_for}
use Rattle.tui_keys.specs.Steps.{after_bracket, after_escape, after_ss3, at_rest, ground, begins_paste, in_sequence, is_size, letter, marked, modifiers_of, moved, one, opens_answer, sequence_of, size_of, start, stepped, tilde, with_digit, with_next}
use lib.Utf8.{encode}

-- ---- keys by themselves

pub escape_read : AreRead start (27 ∷ []) [] escaped
unfolding events_of keys_after stepped ground
escape_read = record { events = refl; pending = refl }

-- F1 to F12
function_read : (k : ℕ) → k < 12 → AreRead start (escape (get_or function_texts k [])) (events.F (k + 1) ∷ []) start
unfolding events_of keys_after stepped ground after_escape after_bracket after_ss3 in_sequence marked with_digit sequence_of letter tilde
function_read zero h = record { events = refl; pending = refl }
function_read (suc zero) h = record { events = refl; pending = refl }
function_read (suc (suc zero)) h = record { events = refl; pending = refl }
function_read (suc (suc (suc zero))) h = record { events = refl; pending = refl }
function_read (suc (suc (suc (suc zero)))) h = record { events = refl; pending = refl }
function_read (suc (suc (suc (suc (suc zero))))) h = record { events = refl; pending = refl }
function_read (suc (suc (suc (suc (suc (suc zero)))))) h = record { events = refl; pending = refl }
function_read (suc (suc (suc (suc (suc (suc (suc zero))))))) h = record { events = refl; pending = refl }
function_read (suc (suc (suc (suc (suc (suc (suc (suc zero)))))))) h = record { events = refl; pending = refl }
function_read (suc (suc (suc (suc (suc (suc (suc (suc (suc zero))))))))) h = record { events = refl; pending = refl }
function_read (suc (suc (suc (suc (suc (suc (suc (suc (suc (suc zero)))))))))) h = record { events = refl; pending = refl }
function_read (suc (suc (suc (suc (suc (suc (suc (suc (suc (suc (suc zero))))))))))) h = record { events = refl; pending = refl }
function_read (suc (suc (suc (suc (suc (suc (suc (suc (suc (suc (suc (suc k)))))))))))) h = absurd (omega arith)

any_function_read : (n : ℕ) → 1 ≤ n → n ≤ 12 → AreRead start (escape (get_or function_texts (n - 1) [])) (events.F n ∷ []) start
any_function_read n low high =
    subst (λ (k : ℕ). AreRead start (escape (get_or function_texts (n - 1) [])) (events.F k ∷ []) start) {x = n - 1 + 1} {y = n} (omega arith)
    (function_read (n - 1) (omega arith))

-- a letter with Ctrl
control_step : (c : ℕ) → 97 ≤ c → c ≤ 122 → c ≢ 104 → c ≢ 105 → c ≢ 106 → c ≢ 109 → stepped start (c - 96) ≡ one (events.Ctrl c)
unfolding stepped ground
control_step c low high h i j m =
    let back : c - 96 + 96 ≡ c = omega arith in
    let some : ((c - 96) == 0) ≡ false = grind (arith, nat_tests) in
    let e : ground (c - 96) ≡ one (events.Ctrl (c - 96 + 96)) = grind (arith, nat_tests) in
    ap (λ (b : Bool). if b then record { keys = start; first = None; second = Some events.Tick } else ground (c - 96)) some
    ∙ e ∙ ap (λ (k : ℕ). one (events.Ctrl k)) back

control_read : (c : ℕ) → 97 ≤ c → c ≤ 122 → IsNoneOf (codes "hijm") c → AreRead start ((c - 96) ∷ []) (events.Ctrl c ∷ []) start
control_read c low high none =
    let h : c ≢ 104 = none 0 0 (omega arith) in
    let i : c ≢ 105 = none 1 0 (omega arith) in
    let j : c ≢ 106 = none 2 0 (omega arith) in
    let m : c ≢ 109 = none 3 0 (omega arith) in
    one_step start start (c - 96) (events.Ctrl c) (control_step c low high h i j m)

-- ---- Alt

pub escaped_step : (c : ℕ) → 32 ≤ c → stepped escaped c ≡ after_escape c
unfolding stepped
escaped_step c low =
    let some : (c == 0) ≡ false = grind (arith, nat_tests) in
    ap (λ (b : Bool). if b then record { keys = escaped; first = None; second = Some events.Tick } else after_escape c) some

alt_step : (c : ℕ) → 32 ≤ c → c < 127 → c ≢ 91 → c ≢ 79 → opens_answer c ≡ false → after_escape c ≡ one (events.Alt c)
unfolding after_escape
alt_step c low high bracket ss3 none = rw none (grind (arith, nat_tests))

alt_short : (c : ℕ) → 32 ≤ c → c < 127 → c ≢ 91 → c ≢ 79 → opens_answer c ≡ false → AreRead escaped (c ∷ []) (events.Alt c ∷ []) start
alt_short c low high bracket ss3 none =
    one_step escaped start c (events.Alt c) (escaped_step c low ∙ alt_step c low high bracket ss3 none)

pub alt_read : (c : ℕ) → IsPlain c → c ≢ 91 → c ≢ 79 → opens_answer c ≡ false → AreRead start (27 ∷ encode c) (events.Alt c ∷ []) start
alt_read c is bracket ss3 none =
    joined start escaped start (27 ∷ []) (encode c) [] (events.Alt c ∷ []) escape_read (elim (cases_lt c 128) [
      | inl small ↦ subst (λ (l : List ℕ). AreRead escaped l (events.Alt c ∷ []) start) (sym (encode_one c small))
          (alt_short c is.1 (omega (arith, is.2)) bracket ss3 none)
      | inr long ↦ alt_long c is.0 long
    ])

no_opener : (c : ℕ) → c ≢ 93 → c ≢ 80 → c ≢ 88 → c ≢ 94 → c ≢ 95 → opens_answer c ≡ false
no_opener c osc dcs sos pm apc = grind (arith, nat_tests)

unambiguous_alt_read : (c : ℕ) → IsPlain c → IsNoneOf (codes "[O]PX^_") c → AreRead start (27 ∷ encode c) (events.Alt c ∷ []) start
unambiguous_alt_read c is none =
    let bracket : c ≢ 91 = none 0 0 (omega arith) in
    let ss3 : c ≢ 79 = none 1 0 (omega arith) in
    let osc : c ≢ 93 = none 2 0 (omega arith) in
    let dcs : c ≢ 80 = none 3 0 (omega arith) in
    let sos : c ≢ 88 = none 4 0 (omega arith) in
    let pm : c ≢ 94 = none 5 0 (omega arith) in
    let apc : c ≢ 95 = none 6 0 (omega arith) in
    alt_read c is bracket ss3 (no_opener c osc dcs sos pm apc)

-- ---- a motion with modifiers

-- after CSI 1 ;
abbrev second_number : ℕ → Numbers
second_number n = record { first = 1; second = n; third = 0; place = 1; is_plain = true }

one_and_read : AreRead start (27 ∷ 91 ∷ codes "1;") [] (in_numbers (second_number 0))
unfolding events_of keys_after stepped ground after_escape after_bracket in_sequence marked with_digit with_next
one_and_read = record { events = refl; pending = refl }

second_takes : (m d : ℕ) → with_digit (second_number m) d ≡ second_number (min (m * 10 + d) 65535)
unfolding with_digit
second_takes m d = refl

held_is : (shift alt ctrl : Bool) (motion : Motion) → (shift || alt || ctrl) ≡ true →
    moved (modifier_number (record { shift = shift; alt = alt; ctrl = ctrl })) motion ≡ events.With (record { shift = shift; alt = alt; ctrl = ctrl }) motion
unfolding moved modifiers_of
held_is true true true motion e = refl
held_is true true false motion e = refl
held_is true false true motion e = refl
held_is true false false motion e = refl
held_is false true true motion e = refl
held_is false true false motion e = refl
held_is false false true motion e = refl
held_is false false false motion e = grind (arith)

motion_read : (n : ℕ) (motion : Motion) (e : Event) → moved n motion ≡ e → begins_paste e ≡ false →
    AreRead (in_numbers (second_number n)) (motion_text motion) (e ∷ []) start
unfolding events_of keys_after stepped in_sequence marked sequence_of letter
motion_read n motions.Up e is typed =
    one_step _ start 65 e (ap one is ∙ ap (λ (b : Bool). record { keys = at_rest b; first = None; second = Some e }) typed)
motion_read n motions.Down e is typed =
    one_step _ start 66 e (ap one is ∙ ap (λ (b : Bool). record { keys = at_rest b; first = None; second = Some e }) typed)
motion_read n motions.Left e is typed =
    one_step _ start 68 e (ap one is ∙ ap (λ (b : Bool). record { keys = at_rest b; first = None; second = Some e }) typed)
motion_read n motions.Right e is typed =
    one_step _ start 67 e (ap one is ∙ ap (λ (b : Bool). record { keys = at_rest b; first = None; second = Some e }) typed)
motion_read n motions.Home e is typed =
    one_step _ start 72 e (ap one is ∙ ap (λ (b : Bool). record { keys = at_rest b; first = None; second = Some e }) typed)
motion_read n motions.End e is typed =
    one_step _ start 70 e (ap one is ∙ ap (λ (b : Bool). record { keys = at_rest b; first = None; second = Some e }) typed)

held_small : (shift alt ctrl : Bool) → modifier_number (record { shift = shift; alt = alt; ctrl = ctrl }) ≤ 1000
held_small true true true = omega arith
held_small true true false = omega arith
held_small true false true = omega arith
held_small true false false = omega arith
held_small false true true = omega arith
held_small false true false = omega arith
held_small false false true = omega arith
held_small false false false = omega arith

with_read : (m : Modifiers) (motion : Motion) → (m.shift || m.alt || m.ctrl) ≡ true →
    AreRead start (csi (codes "1;" ++ (decimal (modifier_number m) ++ motion_text motion))) (events.With m motion ∷ []) start
with_read m motion some =
    joined start (in_numbers (second_number 0)) start (27 ∷ 91 ∷ codes "1;") (decimal (modifier_number m) ++ motion_text motion) [] _ one_and_read
    (joined _ (in_numbers (second_number (modifier_number m))) start (decimal (modifier_number m)) (motion_text motion) [] _
    (number_read second_number second_takes (modifier_number m) (held_small m.shift m.alt m.ctrl))
    (motion_read (modifier_number m) motion (events.With m motion) (held_is m.shift m.alt m.ctrl motion some) refl))

-- ---- a size

abbrev rows_number : ℕ → Numbers
rows_number n = record { first = 8; second = n; third = 0; place = 1; is_plain = true }

abbrev columns_number : ℕ → ℕ → Numbers
columns_number rows n = record { first = 8; second = rows; third = n; place = 2; is_plain = true }

eight_read : AreRead start (27 ∷ 91 ∷ codes "8;") [] (in_numbers (rows_number 0))
unfolding events_of keys_after stepped ground after_escape after_bracket in_sequence marked with_digit with_next
eight_read = record { events = refl; pending = refl }

rows_take : (m d : ℕ) → with_digit (rows_number m) d ≡ rows_number (min (m * 10 + d) 65535)
unfolding with_digit
rows_take m d = refl

columns_take : (rows m d : ℕ) → with_digit (columns_number rows m) d ≡ columns_number rows (min (m * 10 + d) 65535)
unfolding with_digit
columns_take rows m d = refl

between_read : (rows : ℕ) → AreRead (in_numbers (rows_number rows)) (codes ";") [] (in_numbers (columns_number rows 0))
unfolding events_of keys_after stepped in_sequence marked with_next
between_read rows = record { events = refl; pending = refl }

is_size_of : (n : ℕ) → 1 ≤ n → n ≤ 1000 → is_size n ≡ true
is_size_of n low high = grind (arith, nat_tests)

size_is : (columns rows : ℕ) → IsSize columns → IsSize rows → size_of (columns_number rows columns) ≡ events.Resize columns rows
unfolding size_of
size_is columns rows c r =
    let a = is_size_of columns c.0 c.1 in
    let b = is_size_of rows r.0 r.1 in
    rw (b, a) refl

size_ends : (columns rows : ℕ) (e : Event) → size_of (columns_number rows columns) ≡ e → begins_paste e ≡ false →
    AreRead (in_numbers (columns_number rows columns)) (codes "t") (e ∷ []) start
unfolding events_of keys_after stepped in_sequence marked sequence_of
size_ends columns rows e is typed =
    one_step _ start 116 e (ap one is ∙ ap (λ (b : Bool). record { keys = at_rest b; first = None; second = Some e }) typed)

size_read : (columns rows : ℕ) → IsSize columns → IsSize rows →
    AreRead start (csi (codes "8;" ++ (decimal rows ++ (codes ";" ++ (decimal columns ++ codes "t"))))) (events.Resize columns rows ∷ []) start
size_read columns rows c r =
    joined start (in_numbers (rows_number 0)) start (27 ∷ 91 ∷ codes "8;") (decimal rows ++ (codes ";" ++ (decimal columns ++ codes "t"))) [] _ eight_read
    (joined _ (in_numbers (rows_number rows)) start (decimal rows) (codes ";" ++ (decimal columns ++ codes "t")) [] _
    (number_read rows_number rows_take rows r.1)
    (joined _ (in_numbers (columns_number rows 0)) start (codes ";") (decimal columns ++ codes "t") [] _ (between_read rows)
    (joined _ (in_numbers (columns_number rows columns)) start (decimal columns) (codes "t") [] _
    (number_read (columns_number rows) (columns_take rows) columns c.1)
    (size_ends columns rows (events.Resize columns rows) (size_is columns rows c r) refl))))

-- ---- any event

pub event_read : (e : Event) → IsUnambiguous e → AreRead start (sent_for e) (e ∷ []) start
unfolding events_of keys_after stepped ground after_escape after_bracket in_sequence marked with_digit sequence_of letter tilde moved modifiers_of sent_for
event_read (events.Char c) is = plain_read false c is
event_read events.Enter is = record { events = refl; pending = refl }
event_read events.Tab is = record { events = refl; pending = refl }
event_read events.BackTab is = record { events = refl; pending = refl }
event_read events.Backspace is = record { events = refl; pending = refl }
event_read events.Esc is = absurd is
event_read events.Up is = record { events = refl; pending = refl }
event_read events.Down is = record { events = refl; pending = refl }
event_read events.Left is = record { events = refl; pending = refl }
event_read events.Right is = record { events = refl; pending = refl }
event_read events.Home is = record { events = refl; pending = refl }
event_read events.End is = record { events = refl; pending = refl }
event_read events.PageUp is = record { events = refl; pending = refl }
event_read events.PageDown is = record { events = refl; pending = refl }
event_read events.Insert is = record { events = refl; pending = refl }
event_read events.Delete is = record { events = refl; pending = refl }
event_read (events.F n) is = any_function_read n is.0 is.1
event_read (events.Ctrl c) is = control_read c is.0 is.1 is.2
event_read (events.Alt c) is = unambiguous_alt_read c is.0 is.1
event_read (events.With m motion) is = with_read m motion is
event_read events.PasteBegin is = absurd is
event_read events.PasteEnd is = absurd is
event_read (events.Resize columns rows) is = size_read columns rows is.0 is.1
event_read events.Tick is = record { events = refl; pending = refl }
event_read events.Unknown is = absurd is

pub sent_is_read : SentIsRead
sent_is_read [] all = nothing_read start
sent_is_read (e ∷ es) all =
    joined start start start (sent_for e) (flat_map sent_for es) (e ∷ []) es (event_read e (All-head IsUnambiguous e es all)) (sent_is_read es
    (All-tail IsUnambiguous e es all))
