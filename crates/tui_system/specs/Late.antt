-- What is known of something that a run opens.
use Rattle.std.specs.Prelude.{ℕ, List, Option, None, Some}
use Rattle.tui_io.specs.Causes.{Observed}

-- what is observable of it
abbrev pub errors_only : ℕ → Observed
errors_only io_errors = record { bytes = None; io_errors = io_errors }

-- the bytes of what is open
abbrev pub open_bytes : {T : Type 0} → (T → Observed) → Option T → Option (List ℕ)
open_bytes observed None = None
open_bytes observed (Some t) = (observed t).bytes

-- something is open, and it is what opening may give
abbrev pub IsOpenAt : {T : Type 0} → (Option T → Type 0) → Option T → Type 0
IsOpenAt opens None = ⊥
IsOpenAt opens (Some t) = opens (Some t)
