-- The result of a comparison with the selected index.
use Rattle.std.proofs.Common.{◌≡◌, ℕ, ◌==◌, Option, None, Some, refl}
use Rattle.std.specs.Option.{option_eq}
use Rattle.tui_lists.specs.Selection.{is_at}

pub compared : (selected : Option ℕ) (i : ℕ) → option_eq (λ a b. a == b) selected (Some i) ≡ is_at selected i
compared None i = refl
compared (Some s) i = refl
