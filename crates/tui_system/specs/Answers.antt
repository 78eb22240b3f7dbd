-- Results of system calls.
use Rattle.std.specs.Prelude.{◌≡◌, ℕ, List, [], Result, Ok, Err, String, string_bytes}
use Rattle.std.specs.declared.alloc.Global.{Global}
use Rattle.std.specs.declared.env.VarError.{VarError}
use Rattle.std.specs.declared.io.Error.{Error}
use Rattle.std.specs.declared.io.ErrorKind.TheVariants.{OutOfMemory}
use Rattle.std.specs.IoError.{error_kind}

-- the system reported that it is out of memory
abbrev pub IsOutOfMemory : {T : Type 0} → Result T Error → Type 0
IsOutOfMemory (Ok x) = ⊥
IsOutOfMemory (Err e) = error_kind e ≡ OutOfMemory

-- the value of a variable, or an empty string
abbrev pub variable_text : Result (String Global) VarError → List ℕ
variable_text (Ok text) = string_bytes text
variable_text (Err e) = []
