-- Arguments that name no command.
use Rattle.std.proofs.Common.{ℕ, List, [], ◌∷◌, codes, String, Global}
use Rattle.tui_program.specs.Arguments.{AreTexts, HaveNumbers}
use Rattle.tui_panes_run.specs.Rules.{Names, places}
use Rattle.tui_panes_run.specs.declared.command.PanesCommand.{PanesCommand}
use Rattle.tui_panes_run.specs.declared.command.PanesCommand.TheVariants as command
use Rattle.tui_panes_run.specs.declared.order.Order.TheVariants as order

pub none_named : (ws : List (String Global)) → (AreTexts [] ws → ⊥) → (AreTexts (codes "reverse" ∷ []) ws → ⊥) →
    ((p : ℕ × ℕ) → HaveNumbers (codes "at") places p.0 p.1 ws → ⊥) → (c : PanesCommand) → Names c ws → ⊥
none_named ws none reverse at (command.Draw order.FirstToLast) are = none are
none_named ws none reverse at (command.Draw order.LastToFirst) are = reverse are
none_named ws none reverse at (command.At x y) are = at (x, y) are
