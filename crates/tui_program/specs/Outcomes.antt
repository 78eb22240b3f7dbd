-- The outcomes of a run, and their causes.
use Rattle.std.specs.Prelude.{◌≡◌, ℕ, ◌⊎◌, List, Result, Some, None, Ok, Err, codes, IsUtf8, String}
use Rattle.std.specs.declared.alloc.Global.{Global}
use Rattle.serde_json.specs.Data.{Data}
use Rattle.serde_json.specs.Read.{read}
use Rattle.tui_io.specs.Causes.{HasFailed, WritesAll, WritesPrefix, Observed}
use Rattle.tui_program.specs.Transcript.{ReadJson, ReadPast, ReadWhole, ReadWithin, Transcript, Unwritten, Unread}
use Rattle.tui_program.specs.Rules.{JobRules, Rules, Task, reads, only_writes}
use Rattle.tui_program.specs.Stops.{Outcome}
use Rattle.tui_program.specs.declared.stop.Stop.{Stop}
use Rattle.tui_program.specs.declared.stop.Stop.TheVariants as stop

-- holds for no text
abbrev pub nothing : List ℕ → Type 0
nothing text = ⊥

-- holds for no rejection
abbrev pub no_refusal : {R : Type 0} → R → Type 0
no_refusal x = ⊥

-- the output for an accepted value
abbrev pub IsOutput : {R : Type 0} → JobRules R → Data → List ℕ → Type 0
IsOutput r d text = (input : r.Input) × (r.input_of d ≡ Ok input) × r.expected input text

-- a part of it that may remain if memory runs out
abbrev pub IsPartialOutput : {R : Type 0} → JobRules R → Data → List ℕ → Type 0
IsPartialOutput r d text = (input : r.Input) × (r.input_of d ≡ Ok input) × r.part input text

-- what has to be written completely for a value
abbrev pub IsExpectedFor : {R : Type 0} → JobRules R → Data → List ℕ → Outcome R → Type 0
IsExpectedFor r d text (Ok u) = IsOutput r d text
IsExpectedFor r d text (Err (stop.Rejected x)) = (r.input_of d ≡ Err x) × (text ≡ r.line x)
IsExpectedFor r d text e = ⊥

-- what is said in words of a value at which a run was stopped: only why it is rejected
abbrev pub IsExplanation : {R : Type 0} → JobRules R → Data → Stop R → List ℕ → Type 0
IsExplanation r d (stop.Rejected x) text = r.explained x d ≡ Some text
IsExplanation r d other text = ⊥

-- what has to be written completely after reading
abbrev pub IsExpected : {R : Type 0} → JobRules R → Transcript → List ℕ → Outcome R → Type 0
IsExpected r t text (Err stop.TooLong) = ReadPast t × (text ≡ codes "refused: too long\n")
IsExpected r t text (Err stop.NotJson) =
    ((bytes : List ℕ) × ReadWhole t bytes × (IsUtf8 bytes → read bytes ≡ None)) × (text ≡ codes "refused: not JSON\n")
IsExpected r t text e = (bytes : List ℕ) × (d : Data) × ReadJson t bytes d × IsExpectedFor r d text e

-- the parts of the output that may remain after reading
abbrev pub IsPartExpected : {R : Type 0} → JobRules R → Transcript → List ℕ → Type 0
IsPartExpected r t text = (bytes : List ℕ) × (d : Data) × ReadJson t bytes d × IsPartialOutput r d text

-- the sink has the whole text; or a write failed and it has a first part of it; or memory ran out and it has nothing or
-- a part that may remain
abbrev pub EndsWith : {R : Type 0} → (List ℕ → Outcome R → Type 0) → (List ℕ → Type 0) → Observed → Observed → Outcome R → Type 0
EndsWith {R} expected part old new (Err stop.WriteFault) = (text : List ℕ) × (e : Outcome R) × expected text e × WritesPrefix old new text
EndsWith expected part old new (Err stop.NoMemory) = Unwritten old new ⊎ ((text : List ℕ) × part text × WritesAll old new text)
EndsWith expected part old new e = (text : List ℕ) × expected text e × WritesAll old new text

-- the outcome of a run that reads a JSON value
abbrev pub EndsReading : {R : Type 0} → JobRules R → Transcript → Outcome R → Type 0
EndsReading r t (Err stop.ReadFault) = ReadWithin t × Unwritten t.sink t.sink_then × HasFailed t.source t.source_then
EndsReading r t (Err stop.NoMemory) = ReadWithin t × (t.source_then.io_errors ≡ t.source.io_errors)
    × EndsWith (IsExpected r t) (IsPartExpected r t) t.sink t.sink_then (Err stop.NoMemory)
EndsReading r t e = EndsWith (IsExpected r t) (IsPartExpected r t) t.sink t.sink_then e

-- the expected output of a command that reads nothing
abbrev pub IsOutputOf : {R : Type 0} → (List ℕ → Type 0) → List ℕ → Outcome R → Type 0
IsOutputOf expected text (Ok u) = expected text
IsOutputOf expected text e = ⊥

-- the outcome of a run that reads nothing
abbrev pub EndsWithoutReading : {R : Type 0} → (List ℕ → Type 0) → Transcript → Outcome R → Type 0
EndsWithoutReading expected t e = Unread t × EndsWith (IsOutputOf expected) nothing t.sink t.sink_then e

-- the outcome of a run of a command
abbrev pub EndsBy : {R : Type 0} → Task R → Transcript → Outcome R → Type 0
EndsBy (reads r) t e = EndsReading r t e
EndsBy (only_writes expected) t e = EndsWithoutReading expected t e

-- the arguments name no command
abbrev pub NameNoCommand : {C R : Type 0} → Rules C R → List (String Global) → Type 0
NameNoCommand {C} rules arguments = (command : C) → rules.named command arguments → ⊥

-- the outcome of a run with such arguments: nothing is read, and the usage line is written, completely or up to a
-- failed write
abbrev pub EndsAsUsage : {R : Type 0} → Transcript → Outcome R → Type 0
EndsAsUsage t (Err stop.Usage) = Unread t × WritesAll t.sink t.sink_then (codes "refused: usage\n")
EndsAsUsage t (Err stop.WriteFault) = Unread t × WritesPrefix t.sink t.sink_then (codes "refused: usage\n")
EndsAsUsage t e = ⊥

-- the outcome of a run of a program
abbrev pub Ends : {C R : Type 0} → Rules C R → List (String Global) → Transcript → Outcome R → Type 0
Ends {C} rules arguments t e = ((command : C) × rules.named command arguments × EndsBy (rules.task command) t e)
    ⊎ (NameNoCommand rules arguments × EndsAsUsage t e)

-- How the result of a command leaves the sink. Ok: with the output. `WriteFault`: with a first part of it. `Rejected`:
-- unchanged. `NoMemory`: unchanged, or with a part that may remain. It has no other result.
abbrev pub AnswersWith : {T R : Type 0} → (List ℕ → Type 0) → (List ℕ → Type 0) → (R → Type 0) → Observed → Observed → Result T (Stop R) → Type 0
AnswersWith expected part refused old new (Ok u) = (text : List ℕ) × expected text × WritesAll old new text
AnswersWith expected part refused old new (Err stop.WriteFault) = (text : List ℕ) × expected text × WritesPrefix old new text
AnswersWith expected part refused old new (Err (stop.Rejected x)) = refused x × Unwritten old new
AnswersWith expected part refused old new (Err stop.NoMemory) = Unwritten old new ⊎ ((text : List ℕ) × part text × WritesAll old new text)
AnswersWith expected part refused old new (Err other) = ⊥

-- the same for a value
abbrev pub Answers : {T R : Type 0} → JobRules R → Data → Observed → Observed → Result T (Stop R) → Type 0
Answers r d old new answer = AnswersWith (IsOutput r d) (IsPartialOutput r d) (λ x. r.input_of d ≡ Err x) old new answer
