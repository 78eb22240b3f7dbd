-- What is known of a file.
use Rattle.std.specs.Prelude.{ℕ, List, Option, None, Some}

-- the remaining bytes of a file, if it was opened and they are known
abbrev pub remaining_of : {F : Type 0} → (F → Option (List ℕ)) → Option F → Option (List ℕ)
remaining_of known None = None
remaining_of known (Some file) = known file
