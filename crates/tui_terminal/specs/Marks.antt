-- Marks of a pen.
use Rattle.std.specs.Prelude.{ℕ, Bool, List, [], ◌∷◌, if◌then◌else◌}
use Rattle.tui_terminal_model.specs.Terminal.{Setting, mark}

-- a mark, if it is set
abbrev pub mark_if : ℕ → Bool → List Setting
mark_if k b = if b then mark k ∷ [] else []
