-- The bytes that make a terminal show a screen.
use Rattle.std.specs.Prelude.{◌≡◌, ℕ, ◌+◌, ◌<◌, Bool, true, ◌&&◌, nat_lt, List, [], ◌∷◌, ◌++◌, length, if◌then◌else◌, slice_index_or}
use Rattle.tui_cells.specs.Buffer.{Screen}
use Rattle.tui_cells.specs.declared.rect.Rect.{Rect}
use Rattle.tui_text.specs.Visible.{PlacedCell}
use Rattle.tui_terminal_model.specs.declared.cursor.Cursor.{Cursor}
use Rattle.tui_terminal_model.specs.declared.output.Output.{Output}
use Rattle.tui_terminal_model.specs.declared.widths.KnownWidths.{KnownWidths}
use Rattle.tui_terminal_model.specs.Pieces.{row_pieces}
use Rattle.tui_terminal_model.specs.Sends.{AreAll, AreSent, IsFrame, IsEncoded}
use Rattle.tui_terminal_model.specs.Shows.{HasCursor, HasRoom, IsBeside, IsOutside, KnowsAll, Shows, ShowsCell, KnowsWidths}
use Rattle.tui_terminal_model.specs.Symbols.{has_known_width}
use Rattle.tui_terminal_model.specs.Terminal.{Command, Tty, reset_modes, place, paint, print, run}

-- What the commands leave unchanged: the rows outside the area, and the cells beside the area in a row whose symbols
-- the terminal knows.
pub record Keeps (o : Output) (knows : List ℕ → Bool) (b : Screen) (t u : Tty) : Type 0 where
  pub outside : (r : ℕ) → IsOutside b r → u.cells r ≡ t.cells r
  pub beside : (y : ℕ) → y < length b.rows → KnowsAll knows (row_pieces o.widths b y) → (p : PlacedCell) → IsBeside b p →
      ShowsCell o.depth (t.cells (b.area.y + y)) p → ShowsCell o.depth (u.cells (b.area.y + y)) p

-- À, which is neither a wide nor an ambiguous character
abbrev pub grave : List ℕ
grave = 0xC3 ∷ 0x80 ∷ []

-- Some terminals keep the first bytes of a character that was cut short, whatever ends it. They draw a mark for it
-- before the next non-ASCII text. So such a text is printed first, in the cell where the frame begins.
abbrev pub mend : Rect → List Command
mend area = place area.x area.y ∷ paint [] ∷ print grave ∷ []

abbrev pub mending : KnownWidths → Rect → List Command
mending widths area = if has_known_width widths grave && (nat_lt 0 area.width && nat_lt 0 area.height) then mend area else []

-- Bytes that make any terminal with room for the screen show it, with the cursor as required, whatever it showed before.
pub record IsFull (o : Output) (cursor : Cursor) (b : Screen) (text : List ℕ) : Type 0 where
  pub commands : List Command
  pub encoded : IsEncoded o.widths commands text
  pub shows : (knows : List ℕ → Bool) (t : Tty) → KnowsWidths o.widths knows → HasRoom t b → Shows o knows (run knows commands t) b
  pub at_cursor : (knows : List ℕ → Bool) (t : Tty) → KnowsWidths o.widths knows → HasRoom t b → HasCursor cursor (run knows commands t)
  pub keeps : (knows : List ℕ → Bool) (t : Tty) → KnowsWidths o.widths knows → HasRoom t b → t.whole ≡ true → Keeps o knows b t (run knows commands t)
  -- what is sent, row by row
  pub sent : List (List PlacedCell)
  pub counted : length sent ≡ length b.rows
  pub frame : List Command
  pub framed : IsFrame o cursor b.area.y sent frame
  pub modes_reset : commands ≡ reset_modes ∷ (mending o.widths b.area ++ frame)
  pub each : (y : ℕ) → y < length b.rows → AreAll (row_pieces o.widths b y) (slice_index_or sent y [])

-- Bytes that make any terminal that shows the old screen show the new one, which has the same area.
pub record IsChange (o : Output) (cursor : Cursor) (old new : Screen) (text : List ℕ) : Type 0 where
  pub commands : List Command
  pub encoded : IsEncoded o.widths commands text
  pub shows : (knows : List ℕ → Bool) (t : Tty) → KnowsWidths o.widths knows → Shows o knows t old → Shows o knows (run knows commands t) new
  pub at_cursor : (knows : List ℕ → Bool) (t : Tty) → KnowsWidths o.widths knows → Shows o knows t old → HasCursor cursor (run knows commands t)
  pub keeps : (knows : List ℕ → Bool) (t : Tty) → KnowsWidths o.widths knows → Shows o knows t old → Keeps o knows new t (run knows commands t)
  pub sent : List (List PlacedCell)
  pub counted : length sent ≡ length new.rows
  pub framed : IsFrame o cursor new.area.y sent commands
  pub each : (y : ℕ) → y < length new.rows → AreSent o.widths (row_pieces o.widths old y) (row_pieces o.widths new y) (slice_index_or sent y [])
