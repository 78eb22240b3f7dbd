use Rattle.std.proofs.Common.{◌∙◌, ◌+◌, ◌-◌, ◌*◌, ◌<◌, ap, arith, length, map, subst, sym}
use Rattle.std.specs.Prelude.{All, OnOk, slice_get}
use Rattle.std.proofs.lemmas.List.{length-map}
use Rattle.tui_cells.specs.Layers.{Painted}
use Rattle.tui_cells.specs.declared.rect.Rect.{Rect}
use Rattle.tui_pages_lib.specs.Pages.{all_pieces}
use Rattle.tui_pages_lib.specs.Report.{ReportData, cells_of}
use Rattle.tui_pages_lib.specs.Starts.{IsSliceFrom}
use Rattle.tui_pages_lib.specs.Strokes.{IsDrawable, body_layers}
use Rattle.tui_pages_lib.proofs.DrawnPage.{body_drawn}
use Rattle.tui_pages_lib.proofs.Fits.{page_fits}
use Rattle.tui_pages_lib.proofs.ContinuedPieces.{continued_first}
use Rattle.tui_pages_lib.proofs.Known.{page_row_read}
use Rattle.tui_pages_lib.proofs.report.Report.draw_body.Goals as goal

pub draw_pieces-requires-clause-drawable : goal.draw_pieces-requires-clause-drawable
draw_pieces-requires-clause-drawable c =
    let h = subst (λ (r : ReportData). c.args.at < length r.pages) (sym c.self.view_is) c.requires in
    let fits = page_fits _ _ _ _ _ _ c.args.at c.page-pieces.result.now c.self.invariant.0 h c.page-pieces.ensures in
    subst (λ n. All (IsDrawable n) c.page-pieces.result.now)
    (length-map c.self.inside.records.items cells_of ∙ ap length (sym c.deref-2.ensures.value)) fits.drawable

pub draw_pieces-requires-clause-fit : goal.draw_pieces-requires-clause-fit
draw_pieces-requires-clause-fit c =
    let h = subst (λ (r : ReportData). c.args.at < length r.pages) (sym c.self.view_is) c.requires in
    let fits = page_fits _ _ _ _ _ _ c.args.at c.page-pieces.result.now c.self.invariant.0 h c.page-pieces.ensures in
    let fit = fits.fit in
    omega (arith, ap (λ (area : Rect). area.height) c.new-page.ensures)

pub draw_pieces-requires-clause-starts : goal.draw_pieces-requires-clause-starts
draw_pieces-requires-clause-starts c = λ p e on.
    let h = subst (λ (r : ReportData). c.args.at < length r.pages) (sym c.self.view_is) c.requires in
    let first = continued_first _ _ _ _ _ _ c.args.at c.page-pieces.result.now p c.self.invariant.0 h c.page-pieces.ensures e on in
    let there = ap (λ ps. slice_get ps c.pieces_before-before.result) c.pieces.ensures
    ∙ (ap (slice_get (all_pieces c.self.inside.pages)) c.pieces_before-before.ensures ∙ first.0) in
    let part = subst (λ n. IsSliceFrom ((n - (p.place + 1)) * c.len-columns.result) c.deref.result.now c.starts_from-starts.result.now)
    c.pieces_before-before.ensures (c.starts_from-starts.ensures p there on) in
    page_row_read c.self.inside.places.items c.deref-3.result.now c.self.inside.records.items c.deref-2.result.now (all_pieces c.self.inside.pages)
    c.self.inside.starts.items c.deref.result.now c.starts_from-starts.result.now _ c.len-columns.result p c.self.invariant.1.known first.1
    c.deref-3.ensures.value c.deref-2.ensures.value c.deref.ensures.value (omega (arith, c.len-columns.ensures)) part

pub returns-clause-ok : goal.returns-clause-ok
returns-clause-ok c =
    let h = subst (λ (r : ReportData). c.args.at < length r.pages) (sym c.self.view_is) c.requires in
    subst (λ (r : ReportData). OnOk c.draw_number.result (Painted (body_layers r c.args.at c.args.buf.now.area) c.args.buf.now c.draw_number.new.buf))
    c.self.view_is
    (body_drawn c.draw_number.result _ _ _ c.args.at _ _ _ _ c.args.buf.now _ c.draw_number.new.buf c.new-page.ensures
    (c.deref-3.ensures.value ∙ c.self.invariant.0.placed) (ap (map cells_of) c.deref-2.ensures.value) c.rows_from-last.ensures h c.page-pieces.ensures
    c.page_count.ensures c.in_ok-draw_pieces.ensures.ok c.draw_number.ensures.ok)
