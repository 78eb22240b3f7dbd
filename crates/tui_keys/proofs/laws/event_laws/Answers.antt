use Rattle.tui_keys.proofs.Decoding.{few, nul_is_a_tick, one_piece, reads_are_one}
use Rattle.tui_keys.proofs.Bounds.{bounded}
use Rattle.tui_keys.proofs.laws.event_laws.Goals as goal

pub returns-clause-pieces : goal.returns-clause-pieces
returns-clause-pieces c = one_piece

pub returns-clause-few : goal.returns-clause-few
returns-clause-few c = few

pub returns-clause-nul : goal.returns-clause-nul
returns-clause-nul c = nul_is_a_tick

pub returns-clause-bounded : goal.returns-clause-bounded
returns-clause-bounded c = bounded

pub returns-clause-reads : goal.returns-clause-reads
returns-clause-reads c = reads_are_one
