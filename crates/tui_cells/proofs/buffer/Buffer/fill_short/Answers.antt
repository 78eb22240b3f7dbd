use Rattle.std.proofs.Common.{arith, [], ◌∷◌}
use Rattle.std.proofs.lemmas.Bool.Decides.{nat_tests}
use Rattle.tui_cells.proofs.Painting.{Painted-within}
use Rattle.tui_cells.specs.Cell.{set_style, write}
use Rattle.tui_cells.specs.Layers.{before}
use Rattle.tui_cells.specs.Rect.{covers}
use Rattle.tui_cells.proofs.buffer.Buffer.fill_short.Goals as goal

pub returns : goal.returns
returns c =
    let part = c.intersection-part.ensures in
    let past = c.rows-test.false in
    let end = c.bottom-y-end.ensures in
    let area = c.self.view_is in
    Painted-within (before c.intersection-part.result 0 c.rows.y) (covers c.args.area) (write c.args.symbol.bytes ∷ set_style c.args.style ∷ []) c.args.self.now c.rows.self c.rows.invariant
    (λ x y here. grind (arith, nat_tests, part, past, end, area, here))
