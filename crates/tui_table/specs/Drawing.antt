-- How a `Table` is drawn, for those who place it.
use Rattle.tui_cells.specs.Drawing.{Drawing, StatefulDrawing}
use Rattle.tui_cells.specs.Layers.{Painted}
use Rattle.tui_frames.specs.Footprint.{footprint_if}
use Rattle.tui_frames.specs.InBlock.{inner_of}
use Rattle.tui_frames.specs.InBlockStays.{nowhere_if}
use Rattle.tui_table.specs.Moves.{TableMoves, table_after}
use Rattle.tui_table.specs.Idempotence.{table_rests, table_is_idempotent}
use Rattle.tui_table.specs.State.{default_state}
use Rattle.tui_table.specs.Stays.{table_stays}
use Rattle.tui_table.specs.Strokes.{table_layers}
use Rattle.tui_table.specs.Table.{TableData}
use Rattle.tui_table.specs.declared.state.TableState.{TableState}

-- a table moves its offset as little as possible, and allocates its columns
abbrev pub table_moving : TableData → StatefulDrawing TableState
table_moving t = record {
  layers = table_layers t;
  footprint = footprint_if t.block;
  after = λ clip. table_after t (inner_of t.block clip);
  shows = λ old new clip _ _. TableMoves t (inner_of t.block clip) old new;
  allocation_free = ⊥;
  stays = table_stays t;
  nowhere = nowhere_if t.block;
  rests = table_rests t;
  is_idempotent = table_is_idempotent t;
}

-- the same, from the first row on and with nothing selected
abbrev pub table_drawing : TableData → Drawing
table_drawing t = record {
  layers = table_layers t default_state;
  footprint = footprint_if t.block;
  shows = λ clip. Painted (table_layers t default_state clip);
  allocation_free = ⊥;
  stays = table_stays t default_state;
  nowhere = nowhere_if t.block;
}
