-- Why a run stops, what it writes then, and its exit status.
use Rattle.std.specs.Prelude.{◌≡◌, ◌⊎◌, ℕ, List, [], Result, Ok, Err, codes}
use Rattle.tui_io.specs.Causes.{WritesAll, WritesPrefix, Observed}
use Rattle.tui_program.specs.declared.stop.Stop.{Stop}
use Rattle.tui_program.specs.declared.stop.Stop.TheVariants as stop

-- the outcome of a run of a command: its output was written, or it stopped
abbrev pub Outcome : Type 0 → Type 0
Outcome R = Result (Unit {0}) (Stop R)

-- how a command may end: it reads no text, and has no session
abbrev pub IsOfCommand : {R : Type 0} → Outcome R → Type 0
IsOfCommand (Err stop.NotText) = ⊥
IsOfCommand (Err stop.ManyReads) = ⊥
IsOfCommand e = Unit {0}

-- the line that says why the input is rejected; nothing for the other stops
abbrev pub line_of : {R : Type 0} → (R → List ℕ) → Stop R → List ℕ
line_of line stop.Usage = codes "refused: usage\n"
line_of line stop.TooLong = codes "refused: too long\n"
line_of line stop.NotJson = codes "refused: not JSON\n"
line_of line stop.NotText = codes "refused: not UTF-8\n"
line_of line (stop.Rejected x) = line x
line_of line other = []

-- a stopped run has written its line, or a write failed after the first part of it
abbrev pub WritesLine : {R : Type 0} → List ℕ → Stop R → Observed → Observed → Stop R → Type 0
WritesLine text stopped old new e = ((e ≡ stopped) × WritesAll old new text) ⊎ ((e ≡ stop.WriteFault) × WritesPrefix old new text)

-- the outcome of a stopped run
abbrev pub EndsStopped : {D R : Type 0} → (R → List ℕ) → Stop R → Observed → Observed → Result D (Stop R) → Type 0
EndsStopped line stopped old new (Ok x) = ⊥
EndsStopped line stopped old new (Err e) = WritesLine (line_of line stopped) stopped old new e

-- the exit status of a stop, given that of each rejection
abbrev pub stop_status : {R : Type 0} → (R → ℕ) → Stop R → ℕ
stop_status of stop.Usage = 2
stop_status of stop.TooLong = 3
stop_status of stop.NotJson = 4
stop_status of stop.NotText = 4
stop_status of (stop.Rejected x) = of x
stop_status of stop.ReadFault = 6
stop_status of stop.ManyReads = 6
stop_status of stop.WriteFault = 7
stop_status of stop.NoMemory = 8

-- the exit status of a run, given that of a run that was not stopped
abbrev pub outcome_status : {D R : Type 0} → (D → ℕ) → (R → ℕ) → Result D (Stop R) → ℕ
outcome_status done of (Ok x) = done x
outcome_status done of (Err stopped) = stop_status of stopped

-- the exit status of a command
abbrev pub status_of : {R : Type 0} → (R → ℕ) → Outcome R → ℕ
status_of of e = outcome_status (λ x. 0) of e
