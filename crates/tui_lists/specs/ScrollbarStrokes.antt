-- The strokes of a scrollbar; at the end, the law that they stay in its clip.
use Rattle.std.specs.Prelude.{⊤, ◌≡◌, All, ℕ, zero, suc, ◌+◌, ◌-◌, ◌==◌, ◌||◌, Bool, true, false, List, [], ◌++◌, Option, None, Some, if◌then◌else◌}
use Rattle.std.proofs.Common.{refl}
use Rattle.tui_cells.specs.declared.position.Position.{Position}
use Rattle.tui_cells.specs.declared.rect.Rect.{Rect}
use Rattle.tui_cells.specs.declared.style.Style.{Style}
use Rattle.tui_cells.specs.Buffer.{Screen}
use Rattle.tui_cells.specs.Cell.{IsAllocationFree}
use Rattle.tui_cells.specs.Drawing.{StatefulDrawing}
use Rattle.tui_cells.specs.Layers.{Layer, Painted, StayIn}
use Rattle.tui_cells.specs.Rect.{covers}
use Rattle.tui_cells.specs.Stays.{StayIn-append, StayIn-none}
use Rattle.tui_cells.proofs.Painting.{covers_nowhere}
use Rattle.tui_lists.specs.Orientation.{along, length_along}
use Rattle.tui_lists.specs.TrackParts.{parts_of, viewport_in}
use Rattle.tui_lists.specs.Scrollbar.{ScrollbarData}
use Rattle.tui_lists.specs.declared.scrollbar.orientation.ScrollbarOrientation.{ScrollbarOrientation}
use Rattle.tui_lists.specs.declared.scrollbar.parts.TrackParts.{TrackParts}
use Rattle.tui_lists.specs.declared.scrollbar.state.ScrollbarState.{ScrollbarState}
use Rattle.tui_clusters.specs.Width.{width_of}
use Rattle.tui_clusters.specs.Shown.{clusters}
use Rattle.tui_text.specs.Setting.{set_layers, styled_text}
use Rattle.tui_text.proofs.SetStays.{set_stays}

-- the width of a symbol, in columns
abbrev pub symbol_width : Option (List ℕ) → ℕ
symbol_width None = 0
symbol_width (Some text) = width_of text

-- how many cells a symbol takes along the bar: 1, or 0 if there is none
abbrev pub places : Option (List ℕ) → ℕ
places None = 0
places (Some _) = 1

-- the length of the track: that of the bar without the columns of the symbols at its ends
abbrev pub track_of : ScrollbarData → Rect → ℕ
track_of s c = length_along s.orientation c - (symbol_width s.begin + symbol_width s.end)

-- a symbol at a position, if there is a symbol
abbrev pub sign_layers : Rect → Position → Option (List ℕ) → Style → List Layer
sign_layers c at None style = []
sign_layers c at (Some text) style = set_layers c at (styled_text text style) c.width

-- one symbol in n cells of the bar, from cell i on
unfoldable pub run_layers : ScrollbarOrientation → Rect → Option (List ℕ) → Style → ℕ → ℕ → List Layer
run_layers o c symbol style i zero = []
run_layers o c symbol style i (suc n) = sign_layers c (along o c i) symbol style ++ run_layers o c symbol style (i + 1) n

-- Along the bar: the symbol at the beginning, the track before the thumb, the thumb, the track after it, and the symbol
-- at the end. A position past the bar's end is outside the clip, so nothing is set there.
unfoldable pub bar_layers : ScrollbarData → Rect → TrackParts → List Layer
bar_layers s c p =
    let start = places s.begin in
    let thumb = start + p.start in
    let rest = thumb + p.thumb in
    let end = rest + p.end in
    run_layers s.orientation c s.begin s.begin_style 0 start
    ++ (run_layers s.orientation c s.track s.track_style start p.start
    ++ (run_layers s.orientation c (Some s.thumb) s.thumb_style thumb p.thumb
    ++ (run_layers s.orientation c s.track s.track_style rest p.end
    ++ run_layers s.orientation c s.end s.end_style end (places s.end))))

-- the parts of the track in a clip
abbrev pub parts_in : ScrollbarData → Rect → ScrollbarState → TrackParts
parts_in s c state =
    parts_of (track_of s c) (viewport_in (length_along s.orientation c) state.viewport_content_length) state.content_length state.position

-- nothing if there is no content or no track
abbrev pub scrollbar_layers : ScrollbarData → ScrollbarState → Rect → List Layer
scrollbar_layers s state c = if (state.content_length == 0) || (track_of s c == 0) then [] else bar_layers s c (parts_in s c state)

sign_stays : (c : Rect) (at : Position) (symbol : Option (List ℕ)) (style : Style) → StayIn (covers c) (sign_layers c at symbol style)
sign_stays c at None style = StayIn-none
sign_stays c at (Some text) style = set_stays c at (styled_text text style) c.width

run_stays : (o : ScrollbarOrientation) (c : Rect) (symbol : Option (List ℕ)) (style : Style) (i n : ℕ) →
    StayIn (covers c) (run_layers o c symbol style i n)
unfolding run_layers
run_stays o c symbol style i zero = StayIn-none
run_stays o c symbol style i (suc n) = StayIn-append (sign_stays c (along o c i) symbol style) (run_stays o c symbol style (i + 1) n)

bar_stays : (s : ScrollbarData) (c : Rect) (p : TrackParts) → StayIn (covers c) (bar_layers s c p)
unfolding bar_layers
bar_stays s c p =
    let start = places s.begin in
    let thumb = start + p.start in
    let rest = thumb + p.thumb in
    let end = rest + p.end in
    StayIn-append (run_stays s.orientation c s.begin s.begin_style 0 start)
    (StayIn-append (run_stays s.orientation c s.track s.track_style start p.start)
    (StayIn-append (run_stays s.orientation c (Some s.thumb) s.thumb_style thumb p.thumb)
    (StayIn-append (run_stays s.orientation c s.track s.track_style rest p.end)
    (run_stays s.orientation c s.end s.end_style end (places s.end)))))

chosen_stays : (c : Rect) {ls : List Layer} (none : Bool) → StayIn (covers c) ls → StayIn (covers c) (if none then [] else ls)
chosen_stays c true stays = StayIn-none
chosen_stays c false stays = stays

-- a scrollbar changes only cells of its clip
pub scrollbar_stays : (s : ScrollbarData) (state : ScrollbarState) (c : Rect) → StayIn (covers c) (scrollbar_layers s state c)
scrollbar_stays s state c = chosen_stays c ((state.content_length == 0) || (track_of s c == 0)) (bar_stays s c (parts_in s c state))

-- no symbol, or one whose graphemes fit in their cells without an allocation
abbrev pub IsAllocationFreeSign : Option (List ℕ) → Type 0
IsAllocationFreeSign None = ⊤
IsAllocationFreeSign (Some text) = All IsAllocationFree (clusters text)

-- a scrollbar that is drawn without allocating
pub record IsAllocationFreeScrollbar (s : ScrollbarData) : Type 0 where
  pub thumb : IsAllocationFreeSign (Some s.thumb)
  pub track : IsAllocationFreeSign s.track
  pub begin : IsAllocationFreeSign s.begin
  pub end : IsAllocationFreeSign s.end

-- a drawn scrollbar: its strokes were made, and its state is unchanged
pub record ScrollbarShows (s : ScrollbarData) (old new : ScrollbarState) (clip : Rect) (before after : Screen) : Type 0 where
  pub strokes : Painted (scrollbar_layers s old clip) before after
  pub stays : new ≡ old

-- how a scrollbar is drawn, for those who place it
abbrev pub scrollbar_moving : ScrollbarData → StatefulDrawing ScrollbarState
scrollbar_moving s = record {
  layers = scrollbar_layers s;
  footprint = covers;
  after = λ clip state. state;
  shows = ScrollbarShows s;
  allocation_free = IsAllocationFreeScrollbar s;
  stays = scrollbar_stays s;
  nowhere = covers_nowhere;
  rests = λ state clip empty. refl;
  is_idempotent = λ state clip. refl;
}
