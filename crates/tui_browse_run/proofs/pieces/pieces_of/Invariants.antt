use Rattle.std.proofs.Common.{map}
use denote.Text.{Utf8}
use denote.Shadow.{shadow}
use Rattle.tui_browse_run.proofs.Cuts.{HasCut}
use Rattle.tui_browse_run.specs.Pieces.{piece_data}
use Rattle.tui_browse_run.proofs.pieces.pieces_of.Given as goal

abbrev pub invariant-pieces : goal.invariant-pieces
invariant-pieces g l = shadow (Utf8 l.rest) × HasCut l.fn.text l._i (map piece_data l.pieces.items) l.line l.rest
