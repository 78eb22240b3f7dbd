-- Runs without I/O errors.
use Rattle.std.proofs.Common.{◌≡◌, ◌≢◌, ℕ, ◌≤◌, List, length, Option, Some, None, Ok, Err, String, Global, refl, sym, ap, subst, ◌∙◌, arith, inl}
use Rattle.std.specs.Prelude.{IsUtf8}
use Rattle.std.proofs.lemmas.List.{append-nil, length-append}
use Rattle.std.specs.Io.KnownBytes.{Consumes, IsAtEnd}
use Rattle.serde_json.specs.Data.{Data}
use Rattle.tui_io.specs.Causes.{HasFailed}
use Rattle.tui_io.specs.Limits.{limit}
use Rattle.tui_program.specs.Transcript.{ReadJson, ReadWhole, Transcript}
use Rattle.tui_program.specs.Complete.{AreJson, CallFor, IsCompleteBy, IsCompleteReading, IsCompleteWithoutReading}
use Rattle.tui_program.specs.Outcomes.{EndsBy, EndsReading, EndsWithoutReading}
use Rattle.tui_program.specs.Rules.{JobRules, Rules, Task, reads, only_writes}
use Rattle.tui_program.specs.Runs.{IsRun}
use Rattle.tui_program.specs.Stops.{Outcome}
use Rattle.tui_program.specs.declared.stop.Stop.TheVariants as stop

is_all : (bytes xs : List ℕ) (left : Option (List ℕ)) → Consumes (Some bytes) left xs → IsAtEnd left → xs ≡ bytes
is_all bytes xs None c e = absurd c
is_all bytes xs (Some ys) c e = sym (c ∙ rw e (append-nil xs))

no_longer : (bytes xs : List ℕ) (left : Option (List ℕ)) → Consumes (Some bytes) left xs → length xs ≤ length bytes
no_longer bytes xs None c = absurd c
no_longer bytes xs (Some ys) c = omega (arith, ap length c, length-append xs ys)

whole_is : (t : Transcript) (bytes xs : List ℕ) → t.source.bytes ≡ Some bytes → ReadWhole t xs → xs ≡ bytes
whole_is t bytes xs e w = is_all bytes xs t.source_then.bytes (rw e at w.taken) w.end

json_of : (t : Transcript) (bytes xs : List ℕ) (d : Data) → t.source.bytes ≡ Some bytes → ReadJson t xs d → AreJson bytes d
json_of t bytes xs d e json =
    let same = whole_is t bytes xs e json.whole in
    record { within = subst (λ (b : List ℕ). length b ≤ limit) same json.whole.within; utf8 = subst IsUtf8 same json.utf8; json = rw same at json.json }

-- a run without I/O errors that had enough memory has the outcome that the bytes lead to
called : {R : Type 0} (r : JobRules R) (t : Transcript) (e : Outcome R) → EndsReading r t e →
    (HasFailed t.source t.source_then → ⊥) → (HasFailed t.sink t.sink_then → ⊥) → e ≢ Err stop.NoMemory
    → (bytes : List ℕ) → t.source.bytes ≡ Some bytes → CallFor r bytes e
called r t (Ok u) h quiet writes some bytes left =
    let w = h.1 in
    (w.1, json_of t bytes w.0 w.1 left w.2, (w.3.0, w.3.1))
called r t (Err (stop.Rejected x)) h quiet writes some bytes left =
    let w = h.1 in
    (w.1, json_of t bytes w.0 w.1 left w.2, w.3.0)
called r t (Err stop.TooLong) h quiet writes some bytes left =
    let gave = h.1.0.gave in
    omega (arith, no_longer bytes gave.bytes t.source_then.bytes (rw left at gave.taken), gave.enough)
called r t (Err stop.NotJson) h quiet writes some bytes left =
    let w = h.1.0 in
    let same = whole_is t bytes w.0 left w.1 in
    (subst (λ (b : List ℕ). length b ≤ limit) same w.1.within, λ utf8. rw same at (w.2 (subst IsUtf8 (sym same) utf8)))
called r t (Err stop.Usage) h quiet writes some bytes left = absurd h.1.3
called r t (Err stop.NotText) h quiet writes some bytes left = absurd h.1.3
called r t (Err stop.ManyReads) h quiet writes some bytes left = absurd h.1.3
called r t (Err stop.NoMemory) h quiet writes some bytes left = absurd (some refl)
called r t (Err stop.ReadFault) h quiet writes some bytes left = absurd (quiet h.2)
called r t (Err stop.WriteFault) h quiet writes some bytes left = absurd (writes h.3.cause)

-- bytes lead to one outcome only
one_call : {R : Type 0} (r : JobRules R) (bytes : List ℕ) (e expected : Outcome R) → CallFor r bytes e → CallFor r bytes expected → e ≡ expected
one_call r bytes e expected a b = grind arith

complete_reading : {R : Type 0} (r : JobRules R) (t : Transcript) (e : Outcome R) → EndsReading r t e → IsCompleteReading r t e
complete_reading r t e h quiet writes some bytes left expected =
    let call_for = called r t e h quiet writes some bytes left in
    (λ same. subst (CallFor r bytes) same call_for, λ other. one_call r bytes e expected call_for other)

complete_without_reading : {R : Type 0} (expected : List ℕ → Type 0) (t : Transcript) (e : Outcome R) → EndsWithoutReading expected t e → IsCompleteWithoutReading t e
complete_without_reading expected t (Ok u) h writes some = refl
complete_without_reading expected t (Err (stop.Rejected x)) h writes some = absurd h.1.1
complete_without_reading expected t (Err stop.TooLong) h writes some = absurd h.1.1
complete_without_reading expected t (Err stop.NotJson) h writes some = absurd h.1.1
complete_without_reading expected t (Err stop.NotText) h writes some = absurd h.1.1
complete_without_reading expected t (Err stop.Usage) h writes some = absurd h.1.1
complete_without_reading expected t (Err stop.ReadFault) h writes some = absurd h.1.1
complete_without_reading expected t (Err stop.ManyReads) h writes some = absurd h.1.1
complete_without_reading expected t (Err stop.NoMemory) h writes some = absurd (some refl)
complete_without_reading expected t (Err stop.WriteFault) h writes some = absurd (writes h.1.3.cause)

complete_by : {R : Type 0} (task : Task R) (t : Transcript) (e : Outcome R) → EndsBy task t e → IsCompleteBy task t e
complete_by (reads r) t e h = complete_reading r t e h
complete_by (only_writes expected) t e h = complete_without_reading expected t e h

-- the run of the command that the arguments name
pub named_run : {C R : Type 0} (rules : Rules C R) (arguments : List (String Global)) (t : Transcript) (e : Outcome R) (command : C) →
    rules.named command arguments × ((other : C) → rules.named other arguments → other ≡ command) → EndsBy (rules.task command) t e → IsRun rules arguments t e
named_run rules arguments t e command one h = record {
  ends = inl (command, one.0, h);
  complete = λ other are. complete_by (rules.task other) t e (subst (λ c. EndsBy (rules.task c) t e) (sym (one.1 other are)) h);
  usage = λ wrong. absurd (wrong command one.0);
}
