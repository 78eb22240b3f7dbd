use Rattle.std.proofs.Common.{All, []}
use Rattle.std.proofs.lemmas.List.Elements.{All-cons, All-nil}
use Rattle.tui_cells.specs.Cell.{IsAllocationFree}
use Rattle.tui_clusters.specs.Shown.{clusters}
use Rattle.tui_text.specs.Span.{SpanData}
use Rattle.tui_lists.proofs.scrollbar.rendering.paint_sign.Goals as goal

pub returns-in_err-set_stringn_in-in-Some-clause-allocation_free : goal.returns-in_err-set_stringn_in-in-Some-clause-allocation_free
returns-in_err-set_stringn_in-in-Some-clause-allocation_free c allocation_free =
    let broken = c.in_err-set_stringn_in-in-Some.ensures.allocation_free
    (All-cons (λ (s : SpanData). All IsAllocationFree (clusters s.content)) (record { content = c.in-Some.text.now; style = c.args.style }) []
    (rw c.in-Some.is at allocation_free) (All-nil (λ (s : SpanData). All IsAllocationFree (clusters s.content)))) in
    cc
