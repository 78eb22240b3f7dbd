-- Runs that come to an input, or to a stop.
use Rattle.std.proofs.Common.{◌≡◌, ℕ, List, Result, Ok, Err, Some}
use Rattle.std.specs.Prelude.{IsUtf8}
use Rattle.serde_json.specs.Data.{Data}
use Rattle.serde_json.specs.Read.{read}
use Rattle.tui_json.specs.Refusals.{Rejects, by_error, refused}
use Rattle.tui_json.specs.declared.input_error.InputError.{InputError}
use Rattle.tui_json.specs.declared.input_error.InputError.TheVariants as errors
use Rattle.tui_program.specs.Input.{MeansJson, Parses, Reaches}
use Rattle.tui_program.specs.declared.stop.Stop.{Stop}
use Rattle.tui_program.specs.declared.stop.Stop.TheVariants as stop

-- what follows from what a run came to
pub reaches_too : {I E R : Type 0} (comes also : Result I (Stop R) → Type 0) (does : I → E → Type 0) (e : Result E (Stop R)) →
    ((x : Result I (Stop R)) → comes x → also x) → Reaches comes does e → Reaches also does e
reaches_too comes also does (Ok end) all h = (h.0, all (Ok h.0) h.1, h.2)
reaches_too comes also does (Err stopped) all h = all (Err stopped) h

-- bytes that have no value
pub means_unparsed : {I R : Type 0} (of : Data → Result I R) (bytes : List ℕ) (stopped : Stop R) → Parses bytes (Err stopped) → MeansJson of bytes (Err stopped)
means_unparsed of bytes stop.NotJson none = none
means_unparsed of bytes stop.NoMemory none = tt
means_unparsed of bytes other none = absurd none

-- a value that is rejected
pub means_rejected : {I R : Type 0} (of : Data → Result I R) (bytes : List ℕ) (d : Data) (error : InputError R) → IsUtf8 bytes → read bytes ≡ Some d →
    Rejects (refused error) (of d) → MeansJson of bytes (Err (by_error stop.Rejected stop.NoMemory error))
means_rejected of bytes d (errors.Refused x) utf8 json is = (d, utf8, json, is)
means_rejected of bytes d errors.NoMemory utf8 json is = tt
