-- What a run reads: its input, or a stop.
use Rattle.std.specs.Prelude.{◌≡◌, ◌≢◌, ℕ, List, drop, take, Some, None, Result, Ok, Err, IsUtf8, String, Vec}
use Rattle.std.specs.IoError.{error_kind}
use Rattle.std.specs.Vec.Iter.{into_iter_items}
use Rattle.std.specs.declared.io.Error.{Error}
use Rattle.std.specs.declared.io.ErrorKind.TheVariants.{OutOfMemory}
use Rattle.std.specs.declared.vec.IntoIter.{IntoIter}
use Rattle.arrayvec.specs.ArrayVec.{ArrayVec}
use Rattle.serde_json.specs.Data.{Data}
use Rattle.serde_json.specs.Read.{read}
use Rattle.serde_json.specs.View.{view}
use Rattle.serde_json.specs.declared.value.Value.{Value}
use Rattle.std.specs.declared.alloc.Global.{Global}
use Rattle.tui_io.specs.Causes.{HasFailed}
use Rattle.tui_program.specs.Transcript.{ReadPast, ReadWhole, ReadWithin, Transcript}
use Rattle.tui_program.specs.declared.stop.Stop.{Stop}
use Rattle.tui_program.specs.declared.stop.Stop.TheVariants as stop

-- what the system gives: the first arguments after the program's name; or it rejects an argument, or has no memory
abbrev pub AreGiven : {R : Type 0} → Result (IntoIter (String Global) Global) Error → Result (ArrayVec (String Global)) (Stop R) → Type 0
AreGiven (Ok all) (Ok first) = first.items ≡ take 4 (drop 1 (into_iter_items all))
AreGiven (Err error) (Err stop.NoMemory) = error_kind error ≡ OutOfMemory
AreGiven (Err error) (Err stop.Usage) = error_kind error ≢ OutOfMemory
AreGiven args given = ⊥

-- what reading a source gives: all of its bytes, or a stop: it has a byte too many, a read failed, or memory ran out
abbrev pub Reads : {R : Type 0} → Transcript → Result (Vec ℕ Global) (Stop R) → Type 0
Reads t (Ok bytes) = ReadWhole t bytes.items
Reads t (Err stop.TooLong) = ReadPast t
Reads t (Err stop.ReadFault) = ReadWithin t × HasFailed t.source t.source_then
Reads t (Err stop.NoMemory) = ReadWithin t × (t.source_then.io_errors ≡ t.source.io_errors)
Reads t (Err other) = ⊥

-- what parsing bytes gives: their value, or a stop: they are not JSON in UTF-8, or memory ran out
abbrev pub Parses : {R : Type 0} → List ℕ → Result Value (Stop R) → Type 0
Parses bytes (Ok value) = IsUtf8 bytes × (read bytes ≡ Some (view value))
Parses bytes (Err stop.NotJson) = IsUtf8 bytes → read bytes ≡ None
Parses bytes (Err stop.NoMemory) = Unit {0}
Parses bytes (Err other) = ⊥

-- what bytes mean that should be JSON: by what their value means
abbrev pub MeansJson : {I R : Type 0} → (Data → Result I R) → List ℕ → Result I (Stop R) → Type 0
MeansJson of bytes (Ok input) = (d : Data) × IsUtf8 bytes × (read bytes ≡ Some d) × (of d ≡ Ok input)
MeansJson of bytes (Err (stop.Rejected x)) = (d : Data) × IsUtf8 bytes × (read bytes ≡ Some d) × (of d ≡ Err x)
MeansJson of bytes (Err stop.NotJson) = IsUtf8 bytes → read bytes ≡ None
MeansJson of bytes (Err stop.NoMemory) = Unit {0}
MeansJson of bytes (Err other) = ⊥

-- A run that has not written yet why it was stopped: it did what it is for with its input, or it came to this stop.
abbrev pub Reaches : {I E R : Type 0} → (Result I (Stop R) → Type 0) → (I → E → Type 0) → Result E (Stop R) → Type 0
Reaches {I} comes does (Ok end) = (input : I) × comes (Ok input) × does input end
Reaches comes does (Err stopped) = comes (Err stopped)
