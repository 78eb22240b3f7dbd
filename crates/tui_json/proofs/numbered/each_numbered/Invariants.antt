use Rattle.std.proofs.Common.{◌≡◌, drop, map}
use Rattle.serde_json.specs.View.{items_view}
use Rattle.tui_json.specs.Refusals.{numbered}
use Rattle.tui_json.proofs.Numbering.{prepended}
use Rattle.tui_json.proofs.numbered.each_numbered.Given as goal

abbrev pub invariant-loop-number : goal.invariant-loop-number
invariant-loop-number g l =
    prepended (map g.T.Numbered.as_data l.read.items) (numbered (g.T.Numbered.tests l.context) l.number (items_view (drop l.number l.values)))
    ≡ numbered (g.T.Numbered.tests l.context) 0 (items_view l.values)
