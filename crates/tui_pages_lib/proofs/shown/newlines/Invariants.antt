use Rattle.std.proofs.Common.{◌≡◌, ◌≤◌, length, take}
use Rattle.tui_pages_lib.specs.Shown.{newlines}
use Rattle.tui_pages_lib.proofs.shown.newlines.Given as goal

abbrev pub invariant-bytes : goal.invariant-bytes
invariant-bytes l = record {
  counted : l.count ≡ length (newlines (take l.i l.bytes));
  few : l.count ≤ l.i;
}
