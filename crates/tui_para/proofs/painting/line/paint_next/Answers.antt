use Rattle.std.proofs.Common.{arith, ◌≡◌, ◌+◌}
use Rattle.tui_para.proofs.Painted.{run_step}
use Rattle.tui_para.proofs.painting.line.paint_next.Goals as goal

pub returns-clause-rest : goal.returns-clause-rest
returns-clause-rest c = λ final q.
    let none : c.paint_bytes-count.result ≡ 0 = let le = c.if-count-gt0.false in omega arith in
    let column : c.args.at.x + c.paint_bytes-count.result ≡ c.args.at.x = omega (arith, none) in
    let place : c.args.place + c.paint_bytes-count.result ≡ c.args.place = omega (arith, none) in
    let rest = rw (column, place) at c.paint_bytes-count.ensures.rest in
    rest final (run_step _ _ _ c.args.run.now c.args.place _ _ _ _ final c.requires.place (rw c.cell_width-width.ensures at c.saturating_add.ensures) c.in_ok-paint_grapheme.ensures.ok q)
