use Rattle.std.proofs.Common.{[], true}
use Rattle.tui_io.specs.Prints.{Prints}
use Rattle.tui_pages_run.specs.Printed.{ShowsHead, first_pages}
use Rattle.tui_pages_run.proofs.printing.print_pages.Given as goal

abbrev pub invariant-pages : goal.invariant-pages
invariant-pages g l =
    let k = g.K.Sink in
    ShowsHead l.report l.page ×
    Prints (k.observed l.fn.sink) (k.observed l.sink) (record { bytes = []; ok_so_far = true }) l.print (first_pages l.report l.at)
