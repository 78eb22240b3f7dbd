-- The outcome of a run by the rules of the program, and case by case.
use Rattle.std.proofs.Common.{ℕ, List, Ok, Err, codes, String, Global, refl, subst, inl, inr}
use Rattle.tui_io.specs.Causes.{WritesAll, WritesPrefix}
use Rattle.tui_program.specs.Transcript.{Transcript, Unread}
use Rattle.tui_program.specs.Outcomes as frame
use Rattle.tui_program.specs.Stops.{Outcome}
use Rattle.tui_program.specs.declared.stop.Stop.TheVariants as stop
use Rattle.tui_show_run.specs.ByOutcome.{EndsFor, IsExpectedBy, OutcomesAgree}
use Rattle.tui_show_run.specs.Commands.{IsDemoCommand, IsSceneCommand, IsNoCommand, Names}
use Rattle.tui_show_run.specs.Demo.{IsDemo}
use Rattle.tui_show_run.specs.Ended.{outcome_of}
use Rattle.tui_show_run.specs.Outcomes.{ShowEnds, scene_job, show_task}
use Rattle.tui_schema.specs.declared.bad_field.BadField.{BadField}
use Rattle.tui_show_run.specs.declared.command.ShowCommand.{ShowCommand}
use Rattle.tui_show_run.specs.declared.command.ShowCommand.TheVariants as command
use Rattle.tui_show_run.specs.declared.ended.Ended.{Ended}
use Rattle.tui_show_run.specs.declared.ended.Ended.TheVariants as ended
use Rattle.tui_show_run.proofs.Commands.{name_none}

-- the outcome of a run of any program as one of this program
abbrev pub ended_of : Outcome BadField → Ended
ended_of (Ok u) = ended.Ok
ended_of (Err stop.Usage) = ended.Usage
ended_of (Err stop.TooLong) = ended.TooLong
ended_of (Err stop.NotJson) = ended.NotJson
ended_of (Err stop.NotText) = ended.NotJson
ended_of (Err (stop.Rejected x)) = ended.BadField x.item x.field
ended_of (Err stop.ReadFault) = ended.ReadFault
ended_of (Err stop.WriteFault) = ended.WriteFault
ended_of (Err stop.NoMemory) = ended.NoMemory
ended_of (Err stop.ManyReads) = ended.ReadFault

expected_scene : (words : List (String Global)) (t : Transcript) (text : List ℕ) (w : Outcome BadField) → IsSceneCommand words → frame.IsExpected scene_job t text w →
    IsExpectedBy words t text (ended_of w)
expected_scene words t text (Ok u) are d = inl (are, (d.0, d.1, d.3.0, d.2, d.3.1, d.3.2))
expected_scene words t text (Err (stop.Rejected x)) are d = (are, (d.0, d.1, d.2, d.3.0), d.3.1)
expected_scene words t text (Err stop.TooLong) are d = (are, d.0, d.1)
expected_scene words t text (Err stop.NotJson) are d = (are, d.0, d.1)
expected_scene words t text (Err other) are d = absurd d.3

scene : (words : List (String Global)) (t : Transcript) (e : Ended) → IsSceneCommand words → frame.EndsReading scene_job t (outcome_of e) → EndsFor words t e
scene words t ended.Ok are h = (h.0, expected_scene words t h.0 (Ok tt) are h.1, h.2)
scene words t (ended.BadField i f) are h = (h.0, expected_scene words t h.0 (Err (stop.Rejected (record { item = i; field = f }))) are h.1, h.2)
scene words t ended.TooLong are h = (h.0, expected_scene words t h.0 (Err stop.TooLong) are h.1, h.2)
scene words t ended.NotJson are h = (h.0, expected_scene words t h.0 (Err stop.NotJson) are h.1, h.2)
scene words t ended.Usage are h = absurd h.1.3
scene words t ended.ReadFault are h = (are, h.0, h.1, h.2)
scene words t ended.WriteFault are h = (h.0, ended_of h.1, expected_scene words t h.0 h.1 are h.2, h.3)
scene words t ended.NoMemory are h = elim h.2 [ inl none ↦ inl (are, h.0, none, h.1) | inr some ↦ absurd some.1.3.2 ]

expected_demo : (words : List (String Global)) (t : Transcript) (n : ℕ) (text : List ℕ) (w : Outcome BadField) → IsDemoCommand n words → Unread t →
    frame.IsOutputOf (IsDemo n) text w → IsExpectedBy words t text (ended_of w)
expected_demo words t n text (Ok u) are unread d = inr (n, are, unread, d)
expected_demo words t n text (Err other) are unread d = absurd d

demo : (words : List (String Global)) (t : Transcript) (n : ℕ) (e : Ended) → IsDemoCommand n words → frame.EndsWithoutReading (IsDemo n) t (outcome_of e) →
    EndsFor words t e
demo words t n ended.Ok are h = (h.1.0, inr (n, are, h.0, h.1.1), h.1.2)
demo words t n (ended.BadField i f) are h = absurd h.1.1
demo words t n ended.TooLong are h = absurd h.1.1
demo words t n ended.NotJson are h = absurd h.1.1
demo words t n ended.Usage are h = absurd h.1.1
demo words t n ended.ReadFault are h = absurd h.1.1
demo words t n ended.WriteFault are h = (h.1.0, ended_of h.1.1, expected_demo words t n h.1.0 h.1.1 are h.0 h.1.2, h.1.3)
demo words t n ended.NoMemory are h = elim h.1 [ inl none ↦ inr (n, are, h.0, none) | inr some ↦ absurd some.1 ]

wrong : (words : List (String Global)) (t : Transcript) (e : Ended) → IsNoCommand words → frame.EndsAsUsage t (outcome_of e) → EndsFor words t e
wrong words t ended.Usage are h = (codes "refused: usage\n", (are, h.0, refl), h.1)
wrong words t ended.WriteFault are h = (codes "refused: usage\n", ended.Usage, (are, h.0, refl), h.1)
wrong words t ended.Ok are h = absurd h
wrong words t (ended.BadField i f) are h = absurd h
wrong words t ended.TooLong are h = absurd h
wrong words t ended.NotJson are h = absurd h
wrong words t ended.ReadFault are h = absurd h
wrong words t ended.NoMemory are h = absurd h

by_command : (words : List (String Global)) (t : Transcript) (e : Ended) (c : ShowCommand) → Names c words → frame.EndsBy (show_task c) t (outcome_of e) →
    EndsFor words t e
by_command words t e command.Scene are h = scene words t e are h
by_command words t e (command.Demo n) are h = demo words t n e are h

forth : (words : List (String Global)) (t : Transcript) (e : Ended) → ShowEnds words t e → EndsFor words t e
forth words t e h = elim h [
  | inl some ↦ by_command words t e some.0 some.1 some.2
  | inr none ↦ wrong words t e (λ are. none.0 command.Scene are, λ n are. none.0 (command.Demo n) are) none.1
]

-- a write failed before the end of the expected text
io_error : (words : List (String Global)) (t : Transcript) (text : List ℕ) (e : Ended) → IsExpectedBy words t text e → WritesPrefix t.sink t.sink_then text →
    ShowEnds words t ended.WriteFault
io_error words t text ended.Ok w puts = elim w [
  | inl s ↦ inl (command.Scene, s.0, (text, Ok tt, (s.1.0, s.1.1, s.1.3, (s.1.2, s.1.4, s.1.5)), puts))
  | inr d ↦ inl (command.Demo d.0, d.1, (d.2, (text, Ok tt, d.3, puts)))
]
io_error words t text (ended.BadField i f) w puts =
    inl (command.Scene, w.0, (text, Err (stop.Rejected (record { item = i; field = f })), (w.1.0, w.1.1, w.1.2, (w.1.3, w.2)), puts))
io_error words t text ended.TooLong w puts = inl (command.Scene, w.0, (text, Err stop.TooLong, (w.1, w.2), puts))
io_error words t text ended.NotJson w puts = inl (command.Scene, w.0, (text, Err stop.NotJson, (w.1, w.2), puts))
io_error words t text ended.Usage w puts = inr (name_none words w.0, (w.1, subst (λ (s : List ℕ). WritesPrefix t.sink t.sink_then s) w.2 puts))
io_error words t text ended.ReadFault w puts = absurd w
io_error words t text ended.WriteFault w puts = absurd w
io_error words t text ended.NoMemory w puts = absurd w

back : (words : List (String Global)) (t : Transcript) (e : Ended) → EndsFor words t e → ShowEnds words t e
back words t ended.Ok h = elim h.1 [
  | inl s ↦ inl (command.Scene, s.0, (h.0, (s.1.0, s.1.1, s.1.3, (s.1.2, s.1.4, s.1.5)), h.2))
  | inr d ↦ inl (command.Demo d.0, d.1, (d.2, (h.0, d.3, h.2)))
]
back words t (ended.BadField i f) h =
    let w = h.1 in
    inl (command.Scene, w.0, (h.0, (w.1.0, w.1.1, w.1.2, (w.1.3, w.2)), h.2))
back words t ended.TooLong h = inl (command.Scene, h.1.0, (h.0, (h.1.1, h.1.2), h.2))
back words t ended.NotJson h = inl (command.Scene, h.1.0, (h.0, (h.1.1, h.1.2), h.2))
back words t ended.Usage h = inr (name_none words h.1.0, (h.1.1, subst (λ (s : List ℕ). WritesAll t.sink t.sink_then s) h.1.2 h.2))
back words t ended.ReadFault h = inl (command.Scene, h.0, (h.1, h.2, h.3))
back words t ended.WriteFault h = io_error words t h.0 h.1 h.2 h.3
back words t ended.NoMemory h = elim h [ inl s ↦ inl (command.Scene, s.0, (s.1, s.3, inl s.2)) | inr d ↦ inl (command.Demo d.0, d.1, (d.2, inl d.3)) ]

pub outcomes_agree : OutcomesAgree
outcomes_agree words t e = (forth words t e, back words t e)
