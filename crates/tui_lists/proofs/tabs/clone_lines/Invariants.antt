use Rattle.std.proofs.Common.{◌≡◌, map, take, true}
use Rattle.std.specs.Cmp.Lexicographic.{pointwise}
use Rattle.tui_text.specs.Line.{line_data}
use Rattle.tui_text.specs.contracts.line.LinePartialEq.TheImpl.{eq-value}
use Rattle.tui_lists.proofs.tabs.clone_lines.Given as goal

-- the first lines are copied
abbrev pub invariant-loop-line : goal.invariant-loop-line
invariant-loop-line l = record {
  same : map line_data l.copy.items ≡ map line_data (take l.line-index l.lines.items);
  equal : pointwise eq-value.it l.copy.items (take l.line-index l.lines.items) ≡ true;
}
