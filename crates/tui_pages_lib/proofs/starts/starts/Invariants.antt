use Rattle.std.proofs.Common.{length, map, take}
use Rattle.tui_pages_lib.specs.Report.{cells_of}
use Rattle.tui_pages_lib.specs.Starts.{HaveRows, IsLast, continued_pieces}
use Rattle.tui_pages_lib.proofs.starts.starts.Given as goal

abbrev pub invariant-pieces : goal.invariant-pieces
invariant-pieces l = record {
  rows : HaveRows l.places (map cells_of l.records) l.pieces (length (continued_pieces (take l.at l.pieces))) l.starts.items;
  last : IsLast l.pieces (length (continued_pieces (take l.at l.pieces))) l.before;
}
