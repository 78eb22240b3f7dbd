-- Which command the arguments of a system name, what is read for it, and what that means.
use Rattle.std.specs.Prelude.{◌≡◌, ◌≢◌, ℕ, List, drop, Result, Ok, Err, String, Vec}
use Rattle.std.specs.IoError.{error_kind}
use Rattle.std.specs.Vec.Iter.{into_iter_items}
use Rattle.std.specs.declared.alloc.Global.{Global}
use Rattle.std.specs.declared.io.Error.{Error}
use Rattle.std.specs.declared.io.ErrorKind.TheVariants.{OutOfMemory}
use Rattle.std.specs.declared.vec.IntoIter.{IntoIter}
use Rattle.tui_program.specs.Input.{Reads}
use Rattle.tui_program.specs.Transcript.{Transcript}
use Rattle.tui_program.specs.declared.stop.Stop.{Stop}
use Rattle.tui_program.specs.declared.stop.Stop.TheVariants as stop
use Rattle.tui_system.specs.System.{Given}

-- The command that the arguments after the program's name name. They may name none, or the system may reject one of
-- them, or have no memory for them.
pub data IsCommand {C R : Type 0} (given : Given) (named : C → List (String Global) → Type 0) : Result C (Stop R) → Type 0 where
  is_named : (all : IntoIter (String Global) Global) (command : C) → given.arguments (Ok all) →
      named command (drop 1 (into_iter_items all)) → IsCommand given named (Ok command)
  unnamed : (all : IntoIter (String Global) Global) → given.arguments (Ok all) → ((command : C) → named command (drop 1 (into_iter_items all)) → ⊥) →
      IsCommand given named (Err stop.Usage)
  rejected : (error : Error) → given.arguments (Err error) → error_kind error ≢ OutOfMemory → IsCommand given named (Err stop.Usage)
  out_of_memory : (error : Error) → given.arguments (Err error) → error_kind error ≡ OutOfMemory → IsCommand given named (Err stop.NoMemory)

-- The command that the arguments name, and all bytes of the file that it names. There may be no command, or the file may
-- not be read to its end, or memory may run out.
pub data IsReadFor {C R : Type 0} (given : Given) (named : C → List (String Global) → Type 0)
    (file : C → List ℕ) : Result (C × Vec ℕ Global) (Stop R) → Type 0 where
  whole : (command : C) (t : Transcript) (bytes : Vec ℕ Global) → IsCommand {R = R} given named (Ok command) → given.opened (file command) t.source →
      Reads {R = R} t (Ok bytes) → IsReadFor given named file (Ok (command, bytes))
  unread : (command : C) (t : Transcript) (stopped : Stop R) → IsCommand {R = R} given named (Ok command) → given.opened (file command) t.source →
      Reads t (Err stopped) → IsReadFor given named file (Err stopped)
  no_command : (stopped : Stop R) → IsCommand given named (Err stopped) → IsReadFor given named file (Err stopped)
  no_memory : IsReadFor given named file (Err stop.NoMemory)

-- what a program reads: the arguments that name each command, the file of a command, and what the bytes of the file
-- mean for it
pub record Reader (C I R : Type 0) : Type 1 where
  pub named : C → List (String Global) → Type 0
  pub file : C → List ℕ
  pub means : C → List ℕ → Result I (Stop R) → Type 0

-- what was read means this; or nothing was read, because of this stop
abbrev pub Means : {C I R : Type 0} → (C → List ℕ → Result I (Stop R) → Type 0) → Result (C × Vec ℕ Global) (Stop R) → Result I (Stop R) → Type 0
Means means (Ok read) x = means read.0 read.1.items x
Means means (Err stopped) x = x ≡ Err stopped

-- what a run comes to on a system: the input that the bytes of the file mean, or a stop
abbrev pub ComesTo : {C I R : Type 0} → Given → Reader C I R → Result I (Stop R) → Type 0
ComesTo {C} {I} {R} given r x = (read : Result (C × Vec ℕ Global) (Stop R)) × IsReadFor given r.named r.file read × Means r.means read x
