use Rattle.std.proofs.Common.{inl, inr, rules}
use Rattle.tui_cells.proofs.RowWritingLaws.{above_or_below, beside}
use Rattle.tui_cells.proofs.buffer.Buffer.set_ascii.Goals as goal
use Rattle.tui_cells.proofs.buffer.Buffer.set_ascii.Goals.{then-at-self-via-then-at-self, then-at-self-via-else-at-self+then-bottom-at}

pub returns-then-at-self : goal.returns-then-at-self
returns-then-at-self c = elim c.then-at-self.branch [
  | then-at-self-via-then-at-self w ↦ above_or_below c.args.self.now c.args.at.x c.args.at.y c.args.style c.args.text.now (inl (search rules))
  | then-at-self-via-else-at-self+then-bottom-at w ↦ above_or_below c.args.self.now c.args.at.x c.args.at.y c.args.style c.args.text.now (inr (search rules))
]

pub returns-then-to-from : goal.returns-then-to-from
returns-then-to-from c = beside c.args.self.now c.args.at.x c.args.at.y c.saturating_sub-from.result c.min-to.result c.args.style c.args.text.now (search rules) (search rules) (search rules)
