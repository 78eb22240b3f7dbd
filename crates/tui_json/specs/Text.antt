-- Strings of limited length.
use Rattle.std.specs.Prelude.{ℕ, List, length, nat_le, if◌then◌else◌, Option, Some, None, option_and_then}
use Rattle.serde_json.specs.Data.{Data}
use Rattle.serde_json.specs.Find.{as_str}

-- a string of at most `most` bytes
abbrev pub if_short : ℕ → List ℕ → Option (List ℕ)
if_short most s = if nat_le (length s) most then Some s else None

-- a value that is a string of at most `most` bytes
unfoldable pub short : ℕ → Data → Option (List ℕ)
short most d = option_and_then (if_short most) (as_str d)
