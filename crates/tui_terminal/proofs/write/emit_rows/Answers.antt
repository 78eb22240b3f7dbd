use Rattle.std.proofs.Common.{◌≡◌, ◌+◌, ◌<◌, ◌≤◌, [], ◌++◌, flat_map, map, length, get_or, rules, ap, ◌∙◌, arith}
use Rattle.tui_cells.specs.declared.rect.Rect.{Rect}
use Rattle.tui_io.proofs.Printing.{Prints-none, Prints-then}
use Rattle.tui_terminal_model.specs.Encoding.{encoding}
use Rattle.tui_terminal_laws.specs.Sending.{nothing_known, row_in_full, send, send_rows}
use Rattle.tui_terminal.proofs.RowWalks.{rows_begin, rows_end, rows_more}
use Rattle.tui_terminal.proofs.Texts.{Prints-text}
use Rattle.tui_terminal.proofs.write.emit_rows.Goals as goal

pub rows-init : goal.rows-init
rows-init g c = ([], Prints-none _ _, rows_begin c.args.output c.area-area.result.y c.area-area.result.x c.args.buf.now.rows)

pub emit_all-requires : goal.emit_all-requires
emit_all-requires g c =
    let b = c.args.buf.now in
    let shape = c.height-row-end.ensures.shape in
    let lt : c.rows.row < length b.rows = search (rules, arith) in
    let wide : length (get_or b.rows c.rows.row []) ≡ b.area.width = shape.wide c.rows.row [] lt in
    let row = ap length c.row_at-cells.ensures in
    let x : c.area-area.result.x ≡ b.area.x = ap (λ (a : Rect). a.x) c.area-area.ensures in
    let y : c.area-area.result.y ≡ b.area.y = ap (λ (a : Rect). a.y) c.area-area.ensures in
    (omega (arith, wide, row, x, shape.right), omega (arith, y, lt, shape.high, shape.bottom))

pub rows-preserved : goal.rows-preserved
rows-preserved g c =
    let inv = c.rows.invariant in
    let o = c.args.output in
    let b = c.args.buf.now in
    let i = c.rows.row in
    let a = c.area-area.result in
    let lt : i < length b.rows = search (rules, arith) in (
      inv.0 ++ flat_map encoding (send o (a.y + i) nothing_known (row_in_full o.widths a.x c.row_at-cells.result.now)),
      Prints-then inv.1 c.emit_all.ensures,
      rows_more o a.y a.x i b.rows c.row_at-cells.result.now inv.0 _ lt c.row_at-cells.ensures inv.2,
    )

pub returns-clause-emitted : goal.returns-clause-emitted
returns-clause-emitted g c =
    let inv = c.rows.invariant in
    let o = c.args.output in
    let b = c.args.buf.now in
    let a = c.area-area.result in
    let past : length b.rows ≤ c.rows.row = search (rules, arith) in
    let all = rows_end o a.y a.x c.rows.row b.rows inv.0 _ past inv.2 in
    Prints-text (all ∙ ap (λ (k : Rect). flat_map encoding (send_rows o k.y (map (row_in_full o.widths k.x) b.rows))) c.area-area.ensures) inv.1
