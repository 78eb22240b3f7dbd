-- Numbers and letters of events are within their bounds; which bytes begin or end a paste.
use Rattle.std.proofs.Common.{◌≡◌, ◌≢◌, ◌⊎◌, inl, inr, ◌<◌, ◌≤◌, ℕ, sym, subst, ◌∙◌, ◌+◌, ◌-◌, ◌*◌, ◌%◌, Bool, true, false, ◌&&◌, ◌||◌, not, ◌==◌, nat_lt, [], ◌∷◌, All, Option, None, Some, refl, if◌then◌else◌, arith}
use Rattle.std.specs.Prelude.{⊤}
use Rattle.std.specs.Option.{option_map}
use Rattle.std.proofs.lemmas.Bool.{true≢false}
use Rattle.std.proofs.lemmas.Bool.Decides.{nat_tests}
use Rattle.std.proofs.lemmas.List.Elements.{All-append, All-cons, All-nil, All-weaker}
use Rattle.tui_keys.specs.declared.event.Event.{Event}
use Rattle.tui_keys.specs.declared.event.Event.TheVariants as events
use Rattle.tui_keys.specs.declared.event.Motion.{Motion}
use Rattle.tui_keys.specs.declared.event.Motion.TheVariants as motions
use Rattle.tui_keys.specs.declared.keys.PartialCharacter.{PartialCharacter}
use Rattle.tui_keys.specs.declared.keys.KeyDecoder.{KeyDecoder}
use Rattle.tui_keys.specs.declared.keys.Numbers.{Numbers}
use Rattle.tui_keys.specs.declared.keys.Pending.{Pending}
use Rattle.tui_keys.specs.declared.keys.Pending.TheVariants.{Nothing, Escape, Bracket, Ss3, Console, Sequence, Opened, Answer, AnswerEscape, Character}
use Rattle.tui_keys.specs.declared.keys.Decoded.{Decoded}
use Rattle.tui_keys.specs.Events.{events_of, events_in, some_of}
use Rattle.tui_keys.specs.Laws.{EventsAreBounded, IsMark}
use Rattle.tui_keys.specs.Sent.{IsBounded, IsSize}
use Rattle.tui_keys.specs.Steps.{after_bracket, after_escape, after_pasted_escape, after_ss3, ground, begins_paste, broken_by, character_of, console_key, ends_answer, in_answer, in_character, in_console, in_paste, in_sequence, is_mark, is_size, lead, letter, marked, modifiers_of, moved, no_numbers, nul, one, opens_answer, pasted, pasted_event, plain, sequence_of, size_of, stepped, tilde, character_event, typed, waits}

-- an event that neither begins nor ends a paste
abbrev pub IsKey : Event → Type 0
IsKey events.PasteBegin = ⊥
IsKey events.PasteEnd = ⊥
IsKey e = ⊤

abbrev pub IsTyped : Event → Type 0
IsTyped e = IsBounded e × IsKey e

-- a choice between two
either : (b : Bool) (e f : Event) → IsTyped e → IsTyped f → IsTyped (if b then e else f)
either true e f h g = h
either false e f h g = g

either_by : (b : Bool) (e f : Event) → (b ≡ true → IsTyped e) → (b ≡ false → IsTyped f) → IsTyped (if b then e else f)
either_by true e f h g = h refl
either_by false e f h g = g refl

no_begin : (e : Event) → IsKey e → begins_paste e ≡ false
no_begin events.PasteBegin h = absurd h
no_begin e h = refl

-- a step that neither begins nor ends a paste
pub record Fits (s : Decoded) : Type 0 where
  pub first : All IsTyped (some_of s.first)
  pub second : All IsTyped (some_of s.second)
  pub opens : s.keys.pasting ≡ false

choose : (b : Bool) (s t : Decoded) → Fits s → Fits t → Fits (if b then s else t)
choose true s t h g = h
choose false s t h g = g

choose_by : (b : Bool) (s t : Decoded) → (b ≡ true → Fits s) → (b ≡ false → Fits t) → Fits (if b then s else t)
choose_by true s t h g = h refl
choose_by false s t h g = g refl

just : (e : Event) → IsTyped e → All IsTyped (e ∷ [])
just e h = All-cons IsTyped e [] h (All-nil IsTyped)

of_one : (e : Event) → IsTyped e → Fits (one e)
of_one e h = record { first = All-nil IsTyped; second = just e h; opens = no_begin e h.1 }

of_waits : (p : Pending) → Fits (waits p)
of_waits p = record { first = All-nil IsTyped; second = All-nil IsTyped; opens = refl }

of_lead : (alt : Bool) (b : ℕ) → Fits (lead alt b)
unfolding lead
of_lead alt b =
    choose (nat_lt b 194) _ _ (of_one events.Unknown (tt, tt)) (choose (nat_lt b 224) _ _ (of_waits _) (choose (nat_lt b 240) _ _ (of_waits _)
    (choose (nat_lt b 245) _ _ (of_waits _) (of_one events.Unknown (tt, tt)))))

-- a letter with Ctrl
control_fits : (b : ℕ) → 0 < b → (b == 8) ≡ false → (b == 9) ≡ false → (b == 10) ≡ false → (b == 13) ≡ false → nat_lt b 27 ≡ true →
    IsTyped (events.Ctrl (b + 96))
control_fits b low eight nine ten thirteen high =
    let small : b < 27 = grind (arith, nat_tests) in
    let h : b + 96 ≢ 104 = grind (arith, nat_tests) in
    let i : b + 96 ≢ 105 = grind (arith, nat_tests) in
    let j : b + 96 ≢ 106 = grind (arith, nat_tests) in
    let m : b + 96 ≢ 109 = grind (arith, nat_tests) in
    let differs = λ (k : ℕ). b + 96 ≢ k in (
      (
        omega arith,
        omega arith,
        All-cons differs 104 (105 ∷ 106 ∷ 109 ∷ []) h (All-cons differs 105 (106 ∷ 109 ∷ []) i (All-cons differs 106
            (109 ∷ []) j (All-cons differs 109 [] m (All-nil differs)))),
      ),
      tt,
    )

of_begin : (b : ℕ) → 0 < b → Fits (ground b)
unfolding ground
of_begin b low =
    choose_by (b == 8) _ _ (λ e. of_one events.Backspace (tt, tt)) (λ eight. choose_by (b == 9) _ _ (λ e. of_one events.Tab (tt, tt))
    (λ nine. choose_by (b == 10) _ _ (λ e. of_one events.Enter (tt, tt)) (λ ten. choose_by (b == 13) _ _ (λ e. of_one events.Enter (tt, tt))
    (λ thirteen. choose_by (nat_lt b 27) _ _ (λ high. of_one (events.Ctrl (b + 96)) (control_fits b low eight nine ten thirteen high))
    (λ e. choose (b == 27) _ _ (of_waits Escape) (choose (nat_lt b 32) _ _ (of_one events.Unknown (tt, tt))
    (choose (nat_lt b 127) _ _ (of_one (events.Char b) (tt, tt)) (choose (b == 127) _ _ (of_one events.Backspace (tt, tt)) (of_lead false b)))))))))

of_broken : (e : Event) (b : ℕ) → 0 < b → IsTyped e → Fits (broken_by e b)
of_broken e b low h = record { first = just e h; second = (of_begin b low).second; opens = (of_begin b low).opens }

of_plain : (m : Motion) → IsTyped (plain m)
of_plain motions.Up = (tt, tt)
of_plain motions.Down = (tt, tt)
of_plain motions.Left = (tt, tt)
of_plain motions.Right = (tt, tt)
of_plain motions.Home = (tt, tt)
of_plain motions.End = (tt, tt)

of_moved : (n : ℕ) (m : Motion) → IsTyped (moved n m)
unfolding moved
of_moved n m =
    either_by ((modifiers_of n).shift || (modifiers_of n).alt || (modifiers_of n).ctrl) (events.With (modifiers_of n) m) (plain m) (λ e. (e, tt))
    (λ e. of_plain m)

of_letter : (n b : ℕ) → IsTyped (letter n b)
unfolding letter
of_letter n b =
    either (b == 65) _ _ (of_moved n motions.Up) (either (b == 66) _ _ (of_moved n motions.Down) (either (b == 67) _ _ (of_moved n motions.Right)
    (either (b == 68) _ _ (of_moved n motions.Left) (either (b == 70) _ _ (of_moved n motions.End)
    (either (b == 72) _ _ (of_moved n motions.Home) (either (b == 80) (events.F 1) _ ((omega arith, omega arith), tt) (either (b == 81)
    (events.F 2) _ ((omega arith, omega arith), tt) (either (b == 82) (events.F 3) _ ((omega arith, omega arith), tt) (either (b == 83)
    (events.F 4) _ ((omega arith, omega arith), tt)
    (either (b == 90) events.BackTab events.Unknown (tt, tt) (tt, tt)))))))))))

of_tilde : (n key : ℕ) → IsTyped (tilde n key)
unfolding tilde
of_tilde n key =
    either (key == 1) _ _ (of_moved n motions.Home) (either (key == 2) events.Insert _ (tt, tt) (either (key == 3) events.Delete _ (tt, tt)
    (either (key == 4) _ _ (of_moved n motions.End) (either (key == 5) events.PageUp _ (tt, tt)
    (either (key == 6) events.PageDown _ (tt, tt) (either (key == 7) _ _ (of_moved n motions.Home) (either (key == 8) _ _ (of_moved n motions.End)
    (either (key == 11) (events.F 1) _ ((omega arith, omega arith), tt) (either (key == 12) (events.F 2) _ ((omega arith, omega arith), tt)
    (either (key == 13) (events.F 3) _ ((omega arith, omega arith), tt) (either (key == 14) (events.F 4) _ ((omega arith, omega arith), tt)
    (either (key == 15) (events.F 5) _ ((omega arith, omega arith), tt) (either (key == 17) (events.F 6) _ ((omega arith, omega arith), tt)
    (either (key == 18) (events.F 7) _ ((omega arith, omega arith), tt)
    (either (key == 19) (events.F 8) _ ((omega arith, omega arith), tt) (either (key == 20) (events.F 9) _ ((omega arith, omega arith), tt)
    (either (key == 21) (events.F 10) _ ((omega arith, omega arith), tt) (either (key == 23) (events.F 11) _ ((omega arith, omega arith), tt)
    (either (key == 24) (events.F 12) events.Unknown ((omega arith, omega arith), tt) (tt, tt))))))))))))))))))))

is_size_says : (n : ℕ) → is_size n ≡ true → IsSize n
is_size_says n e = grind (arith, nat_tests)

of_sizes : (a b c d : Bool) (columns rows : ℕ) → (c ≡ true → IsSize rows) → (d ≡ true → IsSize columns) →
    IsTyped (if a && b && c && d then events.Resize columns rows else events.Unknown)
of_sizes false b c d columns rows h g = (tt, tt)
of_sizes true false c d columns rows h g = (tt, tt)
of_sizes true true false d columns rows h g = (tt, tt)
of_sizes true true true false columns rows h g = (tt, tt)
of_sizes true true true true columns rows h g = ((g refl, h refl), tt)

of_size : (n : Numbers) → IsTyped (size_of n)
unfolding size_of
of_size n = of_sizes (n.first == 8) (n.place == 2) (is_size n.second) (is_size n.third) n.third n.second (is_size_says n.second) (is_size_says n.third)

of_sequence : (n : Numbers) (last : ℕ) → IsTyped (sequence_of n last)
unfolding sequence_of
of_sequence n last =
    either (not n.is_plain) events.Unknown _ (tt, tt) (either (last == 116) _ _ (of_size n) (either (nat_lt 1 n.place) events.Unknown _ (tt, tt)
    (either (last == 126) _ _ (of_tilde n.second n.first)
    (either (nat_lt 1 n.first) events.Unknown _ (tt, tt) (of_letter n.second last)))))

of_in_sequence : (n : Numbers) (b : ℕ) → 0 < b → Fits (in_sequence n b)
unfolding in_sequence
of_in_sequence n b low =
    choose (nat_lt b 32) _ _ (of_broken events.Unknown b low (tt, tt)) (choose (nat_lt b 48) _ _ (of_waits _) (choose (nat_lt b 58) _ _
    (of_waits _) (choose (b == 59) _ _ (of_waits _) (choose (nat_lt b 64) _ _ (of_waits _)
    (choose (nat_lt b 127) _ _ (of_one (sequence_of n b) (of_sequence n b)) (of_broken events.Unknown b low (tt, tt)))))))

of_escape : (b : ℕ) → 0 < b → Fits (after_escape b)
unfolding after_escape
of_escape b low =
    choose (b == 91) _ _ (of_waits _) (choose (b == 79) _ _ (of_waits _) (choose (opens_answer b) _ _ (of_waits _) (choose (nat_lt b 32) _ _
    (of_broken events.Esc b low (tt, tt))
    (choose (nat_lt b 127) _ _ (of_one (events.Alt b) (tt, tt)) (choose (b == 127) _ _ (of_broken events.Esc b low (tt, tt)) (of_lead true b))))))

of_ss3 : (b : ℕ) → 0 < b → Fits (after_ss3 b)
unfolding after_ss3
of_ss3 b low = choose (nat_lt b 32) _ _ (of_broken events.Unknown b low (tt, tt)) (choose (nat_lt b 127) _ _ (of_one (letter 0 b) (of_letter 0 b))
    (of_broken events.Unknown b low (tt, tt)))

console_fits : (b : ℕ) → nat_lt b 65 ≡ false → nat_lt b 70 ≡ true → IsTyped (events.F (b - 64))
console_fits b low high =
    let most : b < 70 = grind (arith, nat_tests) in
    let least : 65 ≤ b = grind (arith, nat_tests) in
    ((omega arith, omega arith), tt)

of_console_key : (b : ℕ) → IsTyped (console_key b)
unfolding console_key
of_console_key b =
    either_by (nat_lt b 65) events.Unknown _ (λ e. (tt, tt)) (λ low. either_by (nat_lt b 70) (events.F (b - 64)) events.Unknown
    (console_fits b low) (λ e. (tt, tt)))

of_console : (b : ℕ) → 0 < b → Fits (in_console b)
unfolding in_console
of_console b low = choose (nat_lt b 32) _ _ (of_broken events.Unknown b low (tt, tt)) (choose (nat_lt b 127) _ _ (of_one (console_key b)
    (of_console_key b)) (of_broken events.Unknown b low (tt, tt)))

of_answer : (b : ℕ) → Fits (in_answer b)
unfolding in_answer
of_answer b = choose (b == 7) _ _ (of_waits _) (choose (b == 27) _ _ (of_waits _) (of_waits _))

of_character_event : (alt : Bool) (c : ℕ) → IsTyped (character_event alt c)
of_character_event true c = (tt, tt)
of_character_event false c = (tt, tt)

of_character_of : (alt : Bool) (least code : ℕ) → IsTyped (character_of alt least code)
unfolding character_of
of_character_of alt least code =
    either (nat_lt code least) events.Unknown _ (tt, tt) (either (nat_lt code 55296) _ _ (of_character_event alt code) (either
    (nat_lt code 57344) events.Unknown _ (tt, tt) (either (nat_lt code 1114112) _ events.Unknown (of_character_event alt code) (tt, tt))))

of_character : (p : PartialCharacter) (b : ℕ) → 0 < b → Fits (in_character p b)
unfolding in_character
of_character p b low =
    choose (nat_lt b 128) _ _ (of_broken events.Unknown b low (tt, tt)) (choose (nat_lt b 192) _ _ (choose (nat_lt p.left 2) _ _ (of_one
    (character_of p.alt p.least (p.code % 32768 * 64 + (b - 128)))
    (of_character_of p.alt p.least (p.code % 32768 * 64 + (b - 128)))) (of_waits _)) (of_broken events.Unknown b low (tt, tt)))

of_bracket : (b : ℕ) → 0 < b → Fits (after_bracket b)
unfolding after_bracket
of_bracket b low = choose (b == 91) _ _ (of_waits _) (of_in_sequence no_numbers b low)

of_end : (b : ℕ) → 0 < b → Fits (ends_answer b)
unfolding ends_answer
of_end b low = choose (b == 92) _ _ (of_waits _) (of_escape b low)

-- a byte of a sequence: it ends the mark and is this event, or it is not at the mark
pub record IsMet (number : ℕ) (event : Event) (p : Pending) (b : ℕ) (s : Decoded) : Type 0 where
  pub met : (IsMark number p b × (s ≡ one event)) ⊎ ((IsMark number p b → ⊥) × Fits s)

pub away : (number : ℕ) (event : Event) (p : Pending) (b : ℕ) (s : Decoded) → (IsMark number p b → ⊥) → Fits s → IsMet number event p b s
away number event p b s none f = record { met = inr (none, f) }

mark_is : (number : ℕ) (n : Numbers) (b : ℕ) → is_mark number n b ≡ true → IsMark number (Sequence n) b
mark_is number n b e =
    let plain : n.is_plain ≡ true = grind (arith, nat_tests) in
    let alone : n.place ≡ 0 = grind (arith, nat_tests) in
    let first : n.first ≡ number = grind (arith, nat_tests) in
    let tilde : b ≡ 126 = grind (arith, nat_tests) in
    (plain, alone, first, tilde)

is_marked : (number : ℕ) (n : Numbers) (b : ℕ) → n.is_plain ≡ true → n.place ≡ 0 → n.first ≡ number → b ≡ 126 → is_mark number n b ≡ true
is_marked number n b plain alone first tilde = grind (arith, nat_tests)

by_mark : (number : ℕ) (event : Event) (n : Numbers) (b : ℕ) (t : Bool) → is_mark number n b ≡ t → Fits (in_sequence n b) →
    IsMet number event (Sequence n) b (if t then one event else in_sequence n b)
by_mark number event n b true e f = record { met = inl (mark_is number n b e, refl) }
by_mark number event n b false e f =
    away number event (Sequence n) b _ (λ m. true≢false (sym (is_marked number n b m.0 m.1 m.2 m.3) ∙ e)) f

pub of_marked : (number : ℕ) (event : Event) (n : Numbers) (b : ℕ) → 0 < b → IsMet number event (Sequence n) b (marked number event n b)
unfolding marked
of_marked number event n b low = by_mark number event n b (is_mark number n b) refl (of_in_sequence n b low)

pub of_typed : (p : Pending) (b : ℕ) → 0 < b → IsMet 200 events.PasteBegin p b (typed p b)
of_typed Nothing b low = away 200 events.PasteBegin Nothing b _ (λ m. m) (of_begin b low)
of_typed Escape b low = away 200 events.PasteBegin Escape b _ (λ m. m) (of_escape b low)
of_typed Bracket b low = away 200 events.PasteBegin Bracket b _ (λ m. m) (of_bracket b low)
of_typed Ss3 b low = away 200 events.PasteBegin Ss3 b _ (λ m. m) (of_ss3 b low)
of_typed Console b low = away 200 events.PasteBegin Console b _ (λ m. m) (of_console b low)
of_typed (Sequence n) b low = of_marked 200 events.PasteBegin n b low
of_typed (Opened o) b low = away 200 events.PasteBegin (Opened o) b _ (λ m. m) (of_answer b)
of_typed Answer b low = away 200 events.PasteBegin Answer b _ (λ m. m) (of_answer b)
of_typed AnswerEscape b low = away 200 events.PasteBegin AnswerEscape b _ (λ m. m) (of_end b low)
of_typed (Character p) b low = away 200 events.PasteBegin (Character p) b _ (λ m. m) (of_character p b low)

of_pasted_escape : (b : ℕ) → 0 < b → Fits (after_pasted_escape b)
unfolding after_pasted_escape
of_pasted_escape b low =
    choose (b == 91) _ _ (of_waits _) (choose (nat_lt b 32) _ _ (of_broken events.Unknown b low (tt, tt))
    (choose (nat_lt b 127) _ _ (of_one events.Unknown (tt, tt)) (of_broken events.Unknown b low (tt, tt))))

pub of_in_paste : (p : Pending) (b : ℕ) → 0 < b → IsMet 201 events.PasteEnd p b (in_paste p b)
of_in_paste Nothing b low = away 201 events.PasteEnd Nothing b _ (λ m. m) (of_begin b low)
of_in_paste Escape b low = away 201 events.PasteEnd Escape b _ (λ m. m) (of_pasted_escape b low)
of_in_paste Bracket b low = away 201 events.PasteEnd Bracket b _ (λ m. m) (of_bracket b low)
of_in_paste Ss3 b low = away 201 events.PasteEnd Ss3 b _ (λ m. m) (of_ss3 b low)
of_in_paste Console b low = away 201 events.PasteEnd Console b _ (λ m. m) (of_console b low)
of_in_paste (Sequence n) b low = of_marked 201 events.PasteEnd n b low
of_in_paste (Opened o) b low = away 201 events.PasteEnd (Opened o) b _ (λ m. m) (of_answer b)
of_in_paste Answer b low = away 201 events.PasteEnd Answer b _ (λ m. m) (of_answer b)
of_in_paste AnswerEscape b low = away 201 events.PasteEnd AnswerEscape b _ (λ m. m) (of_end b low)
of_in_paste (Character p) b low = away 201 events.PasteEnd (Character p) b _ (λ m. m) (of_character p b low)

-- within a paste no event has a number or letter with a bound
of_pasted_event : (e : Event) → IsBounded (pasted_event e)
of_pasted_event (events.Char c) = tt
of_pasted_event events.Enter = tt
of_pasted_event events.Tab = tt
of_pasted_event events.BackTab = tt
of_pasted_event events.Backspace = tt
of_pasted_event events.Esc = tt
of_pasted_event events.Up = tt
of_pasted_event events.Down = tt
of_pasted_event events.Left = tt
of_pasted_event events.Right = tt
of_pasted_event events.Home = tt
of_pasted_event events.End = tt
of_pasted_event events.PageUp = tt
of_pasted_event events.PageDown = tt
of_pasted_event events.Insert = tt
of_pasted_event events.Delete = tt
of_pasted_event (events.F n) = tt
of_pasted_event (events.Ctrl c) = tt
of_pasted_event (events.Alt c) = tt
of_pasted_event (events.With m motion) = tt
of_pasted_event events.PasteBegin = tt
of_pasted_event events.PasteEnd = tt
of_pasted_event (events.Resize columns rows) = tt
of_pasted_event events.Tick = tt
of_pasted_event events.Unknown = tt

-- a step whose events are within their bounds
record Bounded (s : Decoded) : Type 0 where
  first : All IsBounded (some_of s.first)
  second : All IsBounded (some_of s.second)

of_pasted_option : (o : Option Event) → All IsBounded (some_of (option_map pasted_event o))
of_pasted_option None = All-nil IsBounded
of_pasted_option (Some e) = All-cons IsBounded (pasted_event e) [] (of_pasted_event e) (All-nil IsBounded)

of_pasted : (s : Decoded) → Bounded (pasted s)
of_pasted s = record { first = of_pasted_option s.first; second = of_pasted_option s.second }

nul_bounded : (q : Bool) → IsBounded (if q then events.Unknown else events.Tick)
nul_bounded true = tt
nul_bounded false = tt

of_nul : (keys : KeyDecoder) → Bounded (nul keys)
of_nul keys = record { first = All-nil IsBounded; second = All-cons IsBounded _ [] (nul_bounded keys.pasting) (All-nil IsBounded) }

weaker : (s : Decoded) → Fits s → Bounded s
weaker s f = record {
  first = All-weaker IsTyped IsBounded (λ e h. h.0) (some_of s.first) f.first;
  second = All-weaker IsTyped IsBounded (λ e h. h.0) (some_of s.second) f.second;
}

begin_bounded : Bounded (one events.PasteBegin)
begin_bounded = record { first = All-nil IsBounded; second = All-cons IsBounded events.PasteBegin [] tt (All-nil IsBounded) }

typed_bounded : (p : Pending) (b : ℕ) (s : Decoded) → IsMet 200 events.PasteBegin p b s → Bounded s
typed_bounded p b s is = elim is.met [
  | inl mark ↦ subst (λ (k : Decoded). Bounded k) (sym mark.1) begin_bounded
  | inr other ↦ weaker s other.1
]

by : (t q : Bool) (u s v : Decoded) → Bounded u → Bounded s → (t ≡ false → Bounded v) → Bounded (if t then u else if q then s else v)
by true q u s v h g f = h
by false true u s v h g f = g
by false false u s v h g f = f refl

pub positive : (b : ℕ) → (b == 0) ≡ false → 0 < b
positive b e = grind (arith, nat_tests)

of_step : (keys : KeyDecoder) (b : ℕ) → Bounded (stepped keys b)
unfolding stepped
of_step keys b =
    by (b == 0) keys.pasting (nul keys) (pasted (in_paste keys.pending b)) (typed keys.pending b) (of_nul keys) (of_pasted (in_paste keys.pending b))
    (λ e. typed_bounded keys.pending b (typed keys.pending b) (of_typed keys.pending b (positive b e)))

pub bounded : EventsAreBounded
unfolding events_of
bounded keys [] = All-nil IsBounded
bounded keys (b ∷ bs) =
    let here = of_step keys b in
    All-append IsBounded (events_in (stepped keys b)) (events_of (stepped keys b).keys bs)
    (All-append IsBounded (some_of (stepped keys b).first) (some_of (stepped keys b).second) here.first here.second)
    (bounded (stepped keys b).keys bs)
