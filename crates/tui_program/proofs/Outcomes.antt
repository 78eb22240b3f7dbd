-- Outcomes with what was written for them.
use Rattle.std.proofs.Common.{◌≡◌, ℕ, List, [], Option, Some, None, Result, Ok, Err, Bool, true, false, String, Global, codes, refl, sym, ap, subst, ◌∙◌, inl, inr, arith}
use Rattle.std.specs.Io.KnownBytes.{Keeps}
use Rattle.std.specs.declared.io.Error.{Error}
use Rattle.std.specs.declared.vec.IntoIter.{IntoIter}
use Rattle.serde_json.specs.Data.{Data}
use Rattle.tui_io.specs.Causes.{WritesIf, WritesAll, WritesPrefix, Observed}
use Rattle.std.proofs.lemmas.List.{append-nil}
use Rattle.tui_io.proofs.Outside.{Appends-keeps, Appends-none, WritesIf-then}
use Rattle.tui_program.specs.Transcript.{ReadJson, ReadWhole, ReadWithin, Transcript, Unwritten, Unread}
use Rattle.tui_program.specs.Outcomes.{Answers, AnswersWith, EndsAsUsage, EndsBy, EndsReading, EndsWithoutReading, EndsWith, IsExpected, IsExpectedFor, IsPartialOutput, no_refusal, nothing}
use Rattle.tui_program.specs.Rules.{JobRules, Rules, Task, reads, only_writes}
use Rattle.tui_program.specs.Runs.{IsRun, IsRunFrom}
use Rattle.tui_program.specs.Input.{Parses, Reads}
use Rattle.tui_program.specs.Stops.{IsOfCommand, Outcome, WritesLine, line_of}
use Rattle.tui_program.proofs.StopLine.{without_line}
use Rattle.tui_program.specs.declared.stop.Stop.{Stop}
use Rattle.tui_program.specs.declared.stop.Stop.TheVariants as stop

-- nothing was written, and then a text was
pub written_after_nothing : {a b c : Observed} {goes : Bool} {text : List ℕ} → Unwritten a b → WritesIf b c true goes text → WritesIf a c true goes text
written_after_nothing {a} {b} {c} {goes} {text} none writes_if =
    let before : WritesAll a b [] = record { sent = Appends-keeps a.bytes a.bytes b.bytes [] (Appends-none a.bytes) none.held; cause = none.quiet } in
    WritesIf-then before writes_if

-- and the other way round
nothing_after_written : {a b c : Observed} {goes : Bool} {text : List ℕ} → WritesIf a b true goes text → Unwritten b c → WritesIf a c true goes text
nothing_after_written {a} {b} {c} {goes = true} {text} written none =
    let after : WritesAll b c [] = record { sent = Appends-keeps b.bytes b.bytes c.bytes [] (Appends-none b.bytes) none.held; cause = none.quiet } in
    subst (λ (xs : List ℕ). WritesAll a c xs) (append-nil text) (WritesIf-then written after)
nothing_after_written {a} {b} {c} {goes = false} {text} written none =
    let after : WritesIf b c false false [] = record { sent = none.held; cause = none.quiet } in
    subst (λ (xs : List ℕ). WritesPrefix a c xs) (append-nil text) (WritesIf-then written after)

keeps_then : (a b c : Option (List ℕ)) → Keeps a b → Keeps b c → Keeps a c
keeps_then None b c first next = tt
keeps_then (Some xs) None c first next = absurd first
keeps_then (Some xs) (Some ys) None first next = absurd next
keeps_then (Some xs) (Some ys) (Some zs) first next = next ∙ first

nothing_twice : {a b c : Observed} → Unwritten a b → Unwritten b c → Unwritten a c
nothing_twice {a} {b} {c} first next = record { held = keeps_then a.bytes b.bytes c.bytes first.held next.held; quiet = next.quiet ∙ first.quiet }

-- what was read to its end is within the limit
gave_whole : (t : Transcript) (bytes : List ℕ) → ReadWhole t bytes → ReadWithin t
gave_whole t bytes whole = record { bytes = bytes; taken = whole.taken; enough = omega arith; within = whole.within }

-- ---- runs that were stopped

-- a line that is written, or not completely, ends a run that read
ends_with_line : {R : Type 0} (r : JobRules R) (t : Transcript) (stopped : Stop R) (text : List ℕ) (e : Stop R) → IsExpected r t text (Err stopped) →
    (WritesAll t.sink t.sink_then text → EndsReading r t (Err stopped)) → WritesLine text stopped t.sink t.sink_then e → EndsReading r t (Err e)
ends_with_line {R} r t stopped text e expected all h = elim h [
  | inl written ↦ subst (λ (x : Stop R). EndsReading r t (Err x)) (sym written.0) (all written.1)
  | inr failed ↦ subst (λ (x : Stop R). EndsReading r t (Err x)) (sym failed.0) (text, Err stopped, expected, failed.1)
]

-- a source that was not read to its end
pub ends_unread : {R : Type 0} (r : JobRules R) (line : R → List ℕ) (t : Transcript) (stopped e : Stop R) → Reads t (Err stopped) →
    WritesLine (line_of line stopped) stopped t.sink t.sink_then e → EndsReading r t (Err e)
ends_unread {R} r line t stop.TooLong e past h = ends_with_line r t stop.TooLong (codes "refused: too long\n") e (past, refl) (λ all. (codes "refused: too long\n", (past, refl), all)) h
ends_unread {R} r line t stop.ReadFault e fault h =
    let none = without_line stop.ReadFault h in
    subst (λ (x : Stop R). EndsReading r t (Err x)) (sym none.0) (fault.0, none.1, fault.1)
ends_unread {R} r line t stop.NoMemory e end h =
    let none = without_line stop.NoMemory h in
    subst (λ (x : Stop R). EndsReading r t (Err x)) (sym none.0) (end.0, end.1, inl none.1)
ends_unread r line t other e read h = absurd read

-- bytes that have no value
pub ends_unparsed : {R : Type 0} (r : JobRules R) (line : R → List ℕ) (t : Transcript) (bytes : List ℕ) (stopped e : Stop R) → ReadWhole t bytes → Parses bytes (Err stopped) →
    WritesLine (line_of line stopped) stopped t.sink t.sink_then e → EndsReading r t (Err e)
ends_unparsed {R} r line t bytes stop.NotJson e whole none h =
    ends_with_line r t stop.NotJson (codes "refused: not JSON\n") e ((bytes, whole, none), refl) (λ all. (codes "refused: not JSON\n", ((bytes, whole, none), refl), all)) h
ends_unparsed {R} r line t bytes stop.NoMemory e whole parses h =
    let none = without_line stop.NoMemory h in
    subst (λ (x : Stop R). EndsReading r t (Err x)) (sym none.0) (gave_whole t bytes whole, whole.quiet, inl none.1)
ends_unparsed r line t bytes other e whole parses h = absurd parses

-- what a command wrote, and then the line of a rejection
pub ends_answered : {R : Type 0} (r : JobRules R) (line : R → List ℕ) (d : Data) (stopped e : Stop R) (old put new : Observed) → r.line ≡ line →
    Answers {T = Unit {0}} r d old put (Err stopped) → WritesLine (line_of line stopped) stopped put new e →
    EndsWith (IsExpectedFor r d) (IsPartialOutput r d) old new (Err e)
ends_answered {R} r line d (stop.Rejected x) e old put new same h writes =
    let is : r.line x ≡ line x = ap (λ (l : R → List ℕ). l x) same in
    elim writes [
      | inl written ↦ subst (λ (y : Stop R). EndsWith (IsExpectedFor r d) (IsPartialOutput r d) old new (Err y)) (sym written.0)
          (line x, (h.0, sym is), written_after_nothing h.1 written.1)
      | inr failed ↦ subst (λ (y : Stop R). EndsWith (IsExpectedFor r d) (IsPartialOutput r d) old new (Err y)) (sym failed.0)
          (line x, Err (stop.Rejected x), (h.0, sym is), written_after_nothing h.1 failed.1)
    ]
ends_answered {R} r line d stop.WriteFault e old put new same h writes =
    let none = without_line stop.WriteFault writes in
    subst (λ (y : Stop R). EndsWith (IsExpectedFor r d) (IsPartialOutput r d) old new (Err y)) (sym none.0) (h.0, Ok tt, h.1, nothing_after_written h.2 none.1)
ends_answered {R} r line d stop.NoMemory e old put new same h writes =
    let none = without_line stop.NoMemory writes in
    subst (λ (y : Stop R). EndsWith (IsExpectedFor r d) (IsPartialOutput r d) old new (Err y)) (sym none.0) (elim h [
      | inl before ↦ inl (nothing_twice before none.1)
      | inr some ↦ inr (some.0, some.1, nothing_after_written some.2 none.1)
    ])
ends_answered r line d other e old put new same h writes = absurd h

-- what has to be written for the value that was read has to be written by the run
expected_of : {R : Type 0} (r : JobRules R) (t : Transcript) (bytes : List ℕ) (d : Data) → ReadJson t bytes d →
    (text : List ℕ) (e : Outcome R) → IsExpectedFor r d text e → IsExpected r t text e
expected_of r t bytes d json text (Ok u) expected = (bytes, d, json, expected)
expected_of r t bytes d json text (Err (stop.Rejected x)) expected = (bytes, d, json, expected)
expected_of r t bytes d json text (Err other) expected = absurd expected

-- the outcome for the value that was read is the outcome of the run
pub ends_for : {R : Type 0} (r : JobRules R) (t : Transcript) (bytes : List ℕ) (d : Data) (e : Outcome R) → ReadJson t bytes d →
    EndsWith (IsExpectedFor r d) (IsPartialOutput r d) t.sink t.sink_then e → EndsReading r t e
ends_for r t bytes d (Ok u) json h = (h.0, expected_of r t bytes d json h.0 (Ok u) h.1, h.2)
ends_for r t bytes d (Err (stop.Rejected x)) json h = (h.0, expected_of r t bytes d json h.0 (Err (stop.Rejected x)) h.1, h.2)
ends_for r t bytes d (Err stop.WriteFault) json h = (h.0, h.1, expected_of r t bytes d json h.0 h.1 h.2, h.3)
ends_for r t bytes d (Err stop.NoMemory) json h =
    (gave_whole t bytes json.whole, json.whole.quiet, elim h [ inl none ↦ inl none | inr some ↦ inr (some.0, (bytes, d, json, some.1), some.2) ])
ends_for r t bytes d (Err other) json h = absurd h.1

-- the result of a command that read nothing is the outcome of the run
pub ends_without_reading : {R : Type 0} (expected : List ℕ → Type 0) (t : Transcript) (answer : Outcome R) → Unread t →
    AnswersWith expected nothing no_refusal t.sink t.sink_then answer → EndsWithoutReading expected t answer
ends_without_reading expected t (Ok u) unread h = (unread, h)
ends_without_reading expected t (Err stop.WriteFault) unread h = (unread, (h.0, Ok tt, h.1, h.2))
ends_without_reading expected t (Err (stop.Rejected x)) unread h = absurd h.0
ends_without_reading expected t (Err stop.NoMemory) unread h = (unread, h)
ends_without_reading expected t (Err other) unread h = absurd h

-- the result for an accepted input is the result for its value
pub answers_input : {T R : Type 0} (r : JobRules R) (d : Data) (input : r.Input) → r.input_of d ≡ Ok input → (old new : Observed) (answer : Result T (Stop R)) →
    AnswersWith (r.expected input) (r.part input) no_refusal old new answer → Answers r d old new answer
answers_input r d input is old new (Ok u) h = (h.0, (input, is, h.1), h.2)
answers_input r d input is old new (Err stop.WriteFault) h = (h.0, (input, is, h.1), h.2)
answers_input r d input is old new (Err (stop.Rejected x)) h = absurd h.0
answers_input r d input is old new (Err stop.NoMemory) h = elim h [ inl none ↦ inl none | inr some ↦ inr (some.0, (input, is, some.1), some.2) ]
answers_input r d input is old new (Err other) h = absurd h

-- ---- how commands may end

pub reading_ends : {R : Type 0} (r : JobRules R) (t : Transcript) (e : Outcome R) → EndsReading r t e → IsOfCommand e
reading_ends r t (Err stop.NotText) h = absurd h.1.3
reading_ends r t (Err stop.ManyReads) h = absurd h.1.3
reading_ends r t e h = tt

without_reading_ends : {R : Type 0} (expected : List ℕ → Type 0) (t : Transcript) (e : Outcome R) → EndsWithoutReading expected t e → IsOfCommand e
without_reading_ends expected t (Err stop.NotText) h = absurd h.1.1
without_reading_ends expected t (Err stop.ManyReads) h = absurd h.1.1
without_reading_ends expected t e h = tt

usage_ends : {R : Type 0} (t : Transcript) (e : Outcome R) → EndsAsUsage t e → IsOfCommand e
usage_ends t (Err stop.NotText) h = absurd h
usage_ends t (Err stop.ManyReads) h = absurd h
usage_ends t e h = tt

command_ends : {R : Type 0} (task : Task R) (t : Transcript) (e : Outcome R) → EndsBy task t e → IsOfCommand e
command_ends (reads r) t e h = reading_ends r t e h
command_ends (only_writes expected) t e h = without_reading_ends expected t e h

pub run_ends : {C R : Type 0} {rules : Rules C R} {arguments : List (String Global)} {t : Transcript} {e : Outcome R} → IsRun rules arguments t e → IsOfCommand e
run_ends {C} {R} {rules} {arguments} {t} {e} run = elim run.ends [
  | inl named ↦ command_ends (rules.task named.0) t e named.2
  | inr unnamed ↦ usage_ends t e unnamed.1
]

pub run_from_ends : {C R : Type 0} {rules : Rules C R} {args : Result (IntoIter (String Global) Global) Error} {t : Transcript} {e : Outcome R} → IsRunFrom rules args t e → IsOfCommand e
run_from_ends {C} {R} {rules} {args} {t} {e} h = elim h.run [ inl ran ↦ run_ends ran.2 | inr none ↦ subst IsOfCommand (sym none.1) tt ]
