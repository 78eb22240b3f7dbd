-- Laws of terminals, as statements.
use Rattle.std.specs.Prelude.{◌≡◌, ℕ, ◌+◌, ◌≤◌, Bool, true, false, List, [], ◌∷◌, ◌++◌, All, Contains, flat_map}
use Rattle.tui_cells.specs.Buffer.{IsScreen, Screen}
use Rattle.tui_cells.specs.Symbols.{
  BarData,
  BorderData,
  LineData,
  ScrollbarData,
  bar_sets,
  block_symbols,
  border_sets,
  line_sets,
  line_symbols,
  scrollbar_sets,
  shade_symbols,
}
use Rattle.tui_cells.specs.declared.color.Color.{Color}
use Rattle.tui_terminal_model.specs.declared.cursor.Cursor.{Cursor}
use Rattle.tui_terminal_model.specs.declared.cursor.Cursor.TheVariants.{Keep}
use Rattle.tui_terminal_model.specs.declared.depth.Depth.{Depth}
use Rattle.tui_terminal_model.specs.declared.depth.Depth.TheVariants as depths
use Rattle.tui_terminal_model.specs.declared.output.Output.{Output}
use Rattle.tui_terminal_model.specs.declared.widths.KnownWidths.TheVariants.{Common}
use Rattle.tui_terminal_model.specs.Calls.{IsChange, IsFull}
use Rattle.tui_terminal_model.specs.Colours.{Channels, Named, black, color_at, cube_channels, distance, grays, nearest_in_palette, nearest_of, other_names}
use Rattle.tui_terminal_model.specs.Pens.{IsPen, has_name, parameters, settings_of}
use Rattle.tui_terminal_model.specs.Shows.{HasRoom, IsCursorInside, Shows, KnowsWidths}
use Rattle.tui_terminal_model.specs.Encoding.{encoding}
use Rattle.tui_terminal_model.specs.Symbols.{has_known_width}
use Rattle.tui_terminal_model.specs.Terminal.{Pen, Tty, run}
use Rattle.tui_terminal_laws.specs.Sending.{change, full}

-- ---- screens

-- the commands of a full screen show it on any terminal
abbrev pub FullIsShown : Type 0
FullIsShown = (o : Output) (cursor : Cursor) (b : Screen) → IsScreen b → IsCursorInside cursor b →
    IsFull o cursor b (flat_map encoding (full o cursor b))

-- the commands of a change show the new screen if the old one was shown
abbrev pub ChangeIsShown : Type 0
ChangeIsShown = (o : Output) (cursor : Cursor) (old new : Screen) → IsScreen old → IsScreen new → old.area ≡ new.area → IsCursorInside cursor new →
    IsChange o cursor old new (flat_map encoding (change o cursor old new))

-- if nothing has changed, nothing is written, without a cursor command and synchronized output
abbrev pub SendsNothing : Type 0
SendsNothing = (o : Output) (b : Screen) (text : List ℕ) → o.synchronized ≡ false → IsChange o Keep b b text → text ≡ []

-- a full screen, and then its changes
abbrev pub FramesFollow : Type 0
FramesFollow = (o : Output) (place next_place : Cursor) (b c : Screen) (first next : List ℕ)
    (f : IsFull o place b first) (k : IsChange o next_place b c next) (knows : List ℕ → Bool) (t : Tty) →
    KnowsWidths o.widths knows → HasRoom t b → Shows o knows (run knows (f.commands ++ k.commands) t) c

-- ---- symbols

abbrev border_symbols : BorderData → List (List ℕ)
border_symbols s =
    s.top_left ∷ s.top_right ∷ s.bottom_left ∷ s.bottom_right ∷ s.vertical_left ∷ s.vertical_right ∷ s.horizontal_top ∷ s.horizontal_bottom ∷ []

abbrev bar_symbols : BarData → List (List ℕ)
bar_symbols s =
    s.full ∷ s.seven_eighths ∷ s.three_quarters ∷ s.five_eighths ∷ s.half ∷ s.three_eighths ∷ s.one_quarter ∷ s.one_eighth ∷ s.empty ∷ []

abbrev scrollbar_symbols : ScrollbarData → List (List ℕ)
scrollbar_symbols s = s.track ∷ s.thumb ∷ s.begin ∷ s.end ∷ []

abbrev of_line : LineData → List (List ℕ)
of_line s = s.vertical ∷ s.horizontal ∷ []

-- every symbol of the sets that widgets draw with
abbrev pub drawing_symbols : List (List ℕ)
drawing_symbols =
    flat_map border_symbols border_sets ++ (flat_map of_line line_sets ++ (line_symbols ++ (block_symbols ++ (shade_symbols
    ++ (flat_map bar_symbols bar_sets ++ flat_map scrollbar_symbols scrollbar_sets)))))

-- each of them has a known width
abbrev pub DrawingWidthsAreKnown : Type 0
DrawingWidthsAreKnown = All (λ s. has_known_width Common s ≡ true) drawing_symbols

-- ---- pens and colours

-- a sequence has at most 16 parameters
abbrev pub FewParameters : Type 0
FewParameters = (p : Pen) → IsPen p → 1 + parameters (settings_of p) ≤ 16

-- a depth leaves the colours that it yields unchanged
abbrev pub DepthsRest : Type 0
DepthsRest = (depth : Depth) (c : Color) → color_at depth (color_at depth c) ≡ color_at depth c

abbrev pub TrueChangesNothing : Type 0
TrueChangesNothing = (c : Color) → color_at depths.True c ≡ c

-- a named colour is unchanged at each depth but `None`
abbrev pub NamesStay : Type 0
NamesStay = (c : Color) → has_name c ≡ true → (color_at depths.Sixteen c ≡ c) × (color_at depths.Palette c ≡ c)

-- none of the sixteen colours is nearer
abbrev pub NearestName : Type 0
NearestName = (c : Channels) (n : Named) → Contains (black ∷ other_names) n →
    distance c (nearest_of c black other_names).channels ≤ distance c n.channels

-- none of the palette's cube and grays is nearer
pub record IsNearest (c : Channels) (found : Named) : Type 0 where
  pub in_cube : (r g b : ℕ) → r ≤ 5 → g ≤ 5 → b ≤ 5 → distance c found.channels ≤ distance c (cube_channels r g b)
  pub in_grays : (n : Named) → Contains grays n → distance c found.channels ≤ distance c n.channels

abbrev pub NearestInPalette : Type 0
NearestInPalette = (c : Channels) → IsNearest c (nearest_in_palette c)
