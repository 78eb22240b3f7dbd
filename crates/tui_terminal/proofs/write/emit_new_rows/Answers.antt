use Rattle.std.proofs.Common.{◌≡◌, ◌+◌, ◌<◌, ◌≤◌, [], ◌++◌, flat_map, length, get_or, rules, refl, ap, ◌∙◌, arith}
use Rattle.tui_cells.specs.declared.rect.Rect.{Rect}
use Rattle.tui_io.proofs.Printing.{Prints-none, Prints-then}
use Rattle.tui_terminal_model.specs.Encoding.{encoding}
use Rattle.tui_terminal_laws.specs.Sending.{nothing_known, row_changes, rows_sent, send, send_rows}
use Rattle.tui_terminal.proofs.RowWalks.{changes_begin, changes_end, changes_more}
use Rattle.tui_terminal.proofs.Texts.{Prints-text}
use Rattle.tui_terminal.proofs.write.emit_new_rows.Goals as goal

pub rows-init : goal.rows-init
rows-init g c = ([], Prints-none _ _, changes_begin c.args.output c.area-area.result.y c.area-area.result.x c.args.old.now.rows c.args.new.now.rows)

pub emit_new_row-requires : goal.emit_new_row-requires
emit_new_row-requires g c =
    let o = c.args.old.now in
    let n = c.args.new.now in
    let was = c.height-height_old.ensures.shape in
    let is = c.height-height.ensures.shape in
    let i = c.rows.row in
    let high : length o.rows ≡ length n.rows = omega (arith, was.high, is.high, ap (λ (a : Rect). a.height) c.requires) in
    let least = c.min-row-end.ensures in
    let lt : i < length n.rows = search (rules, arith) in
    let lt_old : i < length o.rows = omega arith in
    let wide : length (get_or n.rows i []) ≡ n.area.width = is.wide i [] lt in
    let wide_old : length (get_or o.rows i []) ≡ o.area.width = was.wide i [] lt_old in
    let widths : o.area.width ≡ n.area.width = ap (λ (a : Rect). a.width) c.requires in
    let x : c.area-area.result.x ≡ n.area.x = ap (λ (a : Rect). a.x) c.area-area.ensures in
    let y : c.area-area.result.y ≡ n.area.y = ap (λ (a : Rect). a.y) c.area-area.ensures in
    (lt_old, lt, omega (arith, wide, wide_old, widths), omega (arith, wide, x, is.right), omega (arith, y, lt, is.high, is.bottom))

pub rows-preserved : goal.rows-preserved
rows-preserved g c =
    let inv = c.rows.invariant in
    let t = c.args.output in
    let o = c.args.old.now in
    let n = c.args.new.now in
    let i = c.rows.row in
    let a = c.area-area.result in
    let least = c.min-row-end.ensures in
    let lt : i < length n.rows = search (rules, arith) in
    let high : length o.rows ≡ length n.rows = omega (arith, c.height-height_old.ensures.shape.high, c.height-height.ensures.shape.high, ap (λ (k : Rect). k.height) c.requires) in (
      inv.0 ++ flat_map encoding (send t (a.y + i) nothing_known (row_changes t.widths a.x (get_or o.rows i []) (get_or n.rows i []))),
      Prints-then inv.1 c.emit_new_row.ensures,
      changes_more t a.y a.x i o.rows n.rows (get_or o.rows i []) (get_or n.rows i []) inv.0 _ lt high refl refl inv.2,
    )

pub returns-clause-emitted : goal.returns-clause-emitted
returns-clause-emitted g c =
    let inv = c.rows.invariant in
    let t = c.args.output in
    let o = c.args.old.now in
    let n = c.args.new.now in
    let a = c.area-area.result in
    let high : length o.rows ≡ length n.rows = omega (arith, c.height-height_old.ensures.shape.high, c.height-height.ensures.shape.high, ap (λ (k : Rect). k.height) c.requires) in
    let least = c.min-row-end.ensures in
    let rows = c.height-height.ensures.rows in
    let rows_old = c.height-height_old.ensures.rows in
    let ended : c.min-row-end.result ≤ c.rows.row = search (rules, arith) in
    let past : length o.rows ≤ c.rows.row = omega (arith, least, rows, rows_old, high, ended) in
    let all = changes_end t a.y a.x c.rows.row o.rows n.rows inv.0 _ past inv.2 in
    Prints-text (all ∙ ap (λ (k : Rect). flat_map encoding (send_rows t k.y (rows_sent t.widths k.x o.rows n.rows))) c.area-area.ensures) inv.1
