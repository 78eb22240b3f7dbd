-- A model of a terminal in which any part of the state may be unknown, and the effect of commands on it. Where
-- terminals differ, the result is unknown. So what is proved here holds for every terminal that behaves as this page
-- says wherever it says something.
use Rattle.std.specs.Prelude.{
  ℕ,
  ◌+◌,
  ◌-◌,
  Bool,
  true,
  false,
  not,
  ◌&&◌,
  ◌||◌,
  ◌==◌,
  nat_le,
  nat_lt,
  List,
  [],
  ◌∷◌,
  chars,
  replicate,
  slice_set,
  sum,
  map,
  unwrap_or,
  Option,
  None,
  Some,
  if◌then◌else◌,
}
use Rattle.std.specs.Option.{option_map_or}
use Rattle.unicode_width.specs.Width.{char_width}
use Rattle.tui_cells.specs.declared.color.Color.{Color}
use Rattle.tui_cells.specs.declared.color.Color.TheVariants.{Reset}
use Rattle.tui_text.specs.Visible.{step_of}

-- ---- the pen

-- How the next symbol is drawn: two colours and nine marks. The marks are bold, dim, italic, underlined, slow blink,
-- rapid blink, reversed, hidden, crossed out.
pub record Pen : Type 0 where
  pub fg : Color
  pub bg : Color
  pub marks : List Bool

-- the default pen: no colour, no mark
abbrev pub rest : Pen
rest = record { fg = Reset; bg = Reset; marks = replicate 9 false }

-- one setting of the pen
pub data Setting : Type 0 where
  mark : ℕ → Setting
  front back : Color → Setting

abbrev pub set_to : Setting → Pen → Pen
set_to (mark k) p = record p { marks = slice_set p.marks k true }
set_to (front c) p = record p { fg = c }
set_to (back c) p = record p { bg = c }

-- the pen after settings, from the first to the last
abbrev pub pen_after : List Setting → Pen → Pen
pen_after [] p = p
pen_after (s ∷ ss) p = pen_after ss (set_to s p)

-- ---- the terminal

-- what a column shows: this part of a symbol, drawn with this pen, where parts count by columns from 0; or unknown
pub data Shown : Type 0 where
  part : List ℕ → Pen → ℕ → Shown
  unknown : Shown

-- a position on the terminal
pub record Spot : Type 0 where
  pub column : ℕ
  pub row : ℕ

-- Which screen is shown: the main one (`nothing` is kept); an alternate one, while the cells and the cursor of the main
-- one are kept; or unknown.
pub data SavedScreen : Type 0 where
  nothing : SavedScreen
  kept : (ℕ → ℕ → Shown) → Option Spot → SavedScreen
  unsure : SavedScreen

-- Columns and rows count from 0. `None` means unknown. The cursor after the last column is unknown too, since
-- terminals differ there.
pub record Tty : Type 0 where
  pub columns : ℕ
  pub height : ℕ
  -- by row and column
  pub cells : ℕ → ℕ → Shown
  pub cursor : Option Spot
  pub pen : Option Pen
  -- every mode is off that changes where or how a terminal prints at its cursor, autowrap among them
  pub modes_reset : Bool
  -- no command, string or character before was cut short
  pub whole : Bool
  pub autowrap : Option Bool
  pub visible : Option Bool
  pub synchronizing : Option Bool
  pub bracketed : Option Bool
  pub screen : SavedScreen
  -- it has an alternate screen
  pub alternates : Bool

-- ---- commands

-- what is turned on or off: autowrap, the visible cursor, synchronized output, bracketed paste, and the
-- alternate screen
pub data Mode : Type 0 where
  autowrap visible synchronizing bracketed alternate : Mode

pub data Command : Type 0 where
  -- Ends what was cut short. Turns off every mode that changes where or how a terminal prints at its cursor (autowrap,
  -- insertion, origin, scroll region, left and right margins, character sets), and synchronized output.
  reset_modes : Command
  -- moves the cursor to a column and a row
  place : ℕ → ℕ → Command
  -- moves it to a column of its row
  across : ℕ → Command
  -- sets the pen, starting from the default one
  paint : List Setting → Command
  -- adds to the pen: one setting, and others
  add : Setting → List Setting → Command
  -- draws one symbol
  print : List ℕ → Command
  -- turns a mode on or off
  set_mode : Mode → Bool → Command

-- The most columns in which any terminal draws a symbol: one for an ASCII character and for one without a width, two
-- for any other. This limits terminals, not the tables by which columns are counted here.
abbrev pub reach_of : ℕ → ℕ
reach_of c = if nat_lt c 0x80 || (unwrap_or (char_width false c) 0 == 0) then 1 else 2

unfoldable pub reach : List ℕ → ℕ
reach symbol = sum (map reach_of (chars symbol))

-- what is left of a part when other columns are drawn over: a symbol that is cut becomes unknown
abbrev pub cut : ℕ → ℕ → ℕ → Shown → Shown
cut from to column unknown = unknown
cut from to column (part symbol pen i) =
    if nat_lt (column - i) to && nat_lt from (column - i + step_of symbol) then unknown else part symbol pen i

-- a row after a symbol was drawn into it
abbrev pub drawn : ℕ → List ℕ → Pen → (ℕ → Shown) → ℕ → Shown
drawn from symbol pen row column =
    if nat_le from column && nat_lt column (from + step_of symbol) then part symbol pen (column - from)
    else cut from (from + step_of symbol) column (row column)

-- the rows, with one of them replaced
abbrev pub with_row : ℕ → (ℕ → Shown) → (ℕ → ℕ → Shown) → ℕ → ℕ → Shown
with_row y row cells r column = if r == y then row column else cells r column

-- cells that are all unknown
abbrev pub no_cells : ℕ → ℕ → Shown
no_cells r column = unknown

-- the cells become unknown
abbrev pub cells_unknown : Tty → Tty
cells_unknown t = record t { cells = no_cells; cursor = None }

-- one row becomes unknown
abbrev pub row_unknown : ℕ → Tty → Tty
row_unknown y t = record t { cells = with_row y (λ column. unknown) t.cells; cursor = None }

-- A symbol is printed; `knows` says which symbols this terminal draws in `step_of` columns. Any other symbol changes
-- only its row if it fits there however wide it is drawn, since autowrap is off.
abbrev pub printed : (List ℕ → Bool) → List ℕ → Tty → Option Spot → Option Pen → Tty
printed knows symbol t None pen = cells_unknown t
printed knows symbol t (Some at) None = cells_unknown t
printed knows symbol t (Some at) (Some pen) =
    if not t.modes_reset then cells_unknown t
    else if knows symbol && nat_le (at.column + step_of symbol) t.columns then record t {
      cells = with_row at.row (drawn at.column symbol pen (t.cells at.row)) t.cells;
      cursor = if nat_lt (at.column + step_of symbol) t.columns then Some (record { column = at.column + step_of symbol; row = at.row }) else None;
    }
    else if nat_le (at.column + reach symbol) t.columns then row_unknown at.row t
    else cells_unknown t

-- The alternate screen is shown and the main one is kept, or the main one is shown again as it was. The pen and the
-- modes that come back with it are unknown.
abbrev pub switched : Bool → SavedScreen → Tty → Tty
switched true nothing t =
    record (cells_unknown t) { screen = if t.alternates then kept t.cells t.cursor else unsure; pen = None; modes_reset = false; autowrap = None }
switched false (kept cells cursor) t = record t { cells = cells; cursor = cursor; screen = nothing; pen = None; modes_reset = false; autowrap = None }
switched on screen t = record (cells_unknown t) { screen = unsure; pen = None; modes_reset = false; autowrap = None }

abbrev pub after_set_mode : Mode → Bool → Tty → Tty
after_set_mode autowrap on t = record t { autowrap = Some on; modes_reset = t.modes_reset && not on }
after_set_mode visible on t = record t { visible = Some on }
after_set_mode synchronizing on t = record t { synchronizing = Some on }
after_set_mode bracketed on t = record t { bracketed = Some on }
after_set_mode alternate on t = switched on t.screen t

-- the cursor in another column of its row
abbrev pub shifted : ℕ → Tty → Spot → Option Spot
shifted x t at = if t.modes_reset && nat_lt x t.columns then Some (record { column = x; row = at.row }) else None

-- a terminal after a command, if nothing was cut short
abbrev pub step : (List ℕ → Bool) → Command → Tty → Tty
step knows reset_modes t = record t { cursor = None; pen = None; modes_reset = true; autowrap = Some false; synchronizing = Some false }
step knows (place x y) t =
    record t { cursor = if t.modes_reset && (nat_lt x t.columns && nat_lt y t.height) then Some (record { column = x; row = y }) else None }
step knows (across x) t = record t { cursor = option_map_or (shifted x t) t.cursor None }
step knows (paint ss) t = record t { pen = Some (pen_after ss rest) }
step knows (add s ss) t = record t { pen = option_map_or (λ p. Some (pen_after (s ∷ ss) p)) t.pen None }
step knows (print symbol) t = printed knows symbol t t.cursor t.pen
step knows (set_mode mode on) t = after_set_mode mode on t

-- after something was cut short, everything is unknown
abbrev pub all_unknown : Tty → Tty
all_unknown t = record (cells_unknown t) {
  pen = None;
  modes_reset = false;
  autowrap = None;
  visible = None;
  synchronizing = None;
  bracketed = None;
  screen = unsure;
}

abbrev pub mended : (List ℕ → Bool) → Command → Tty → Tty
mended knows reset_modes t = record (step knows reset_modes (all_unknown t)) { whole = true }
mended knows c t = all_unknown t

-- a terminal after a command
abbrev pub after : (List ℕ → Bool) → Command → Tty → Tty
after knows c t = if t.whole then step knows c t else mended knows c t

-- a terminal after several commands, from the first to the last
abbrev pub run : (List ℕ → Bool) → List Command → Tty → Tty
run knows [] t = t
run knows (c ∷ cs) t = run knows cs (after knows c t)
