-- Kinds of value. Each is a function of a JSON value: None if that, or a value inside it, is not of the kind.
use Rattle.std.specs.Prelude.{◌≡◌, Option, Some, None, Result, Ok, Err}
use Rattle.tui_json.specs.declared.kind.KindError.{KindError}
use Rattle.tui_json.specs.declared.kind.KindError.TheVariants as errors

-- a reader's result, mapped by `view`, is what the kind gives, unless memory ran out
abbrev pub Reads : {X Y : Type 0} → (X → Y) → Result X KindError → Option Y → Type 0
Reads view (Ok x) read = read ≡ Some (view x)
Reads view (Err errors.WrongKind) read = read ≡ None
Reads view (Err errors.NoMemory) read = Unit {0}
