use Rattle.std.proofs.Common.{rules, ◌≡◌, ◌++◌, ℕ, length, replicate, take, ap, sym, ◌∙◌}
use Rattle.std.proofs.Math.Seq.{take-nil}
use Rattle.tui_cells.specs.Cell.{blank}
use Rattle.tui_cells.proofs.Making.{results_same}
use Rattle.tui_cells.proofs.row.cells.make_blanks.Goals as goal

pub returns-in-Ok : goal.returns-in-Ok
returns-in-Ok c =
    let ran = c.in-Ok.ensures.items in
    let is : c.resize_with.new.self.items ≡ ran.0 = ran.2 ∙ ap (λ l. l ++ ran.0) (ap (take c.args.width) c.requires.empty ∙ take-nil c.args.width) in
    let len : length c.resize_with.new.self.items ≡ c.args.width = search rules in
    is ∙ results_same _ blank (λ p q y k. search rules) _ ran.1 ran.0 ran.3 ∙ ap (λ (n : ℕ). replicate n blank) (ap length (sym is) ∙ len)
