-- A scrollbar as plain data.
use Rattle.std.specs.Prelude.{ℕ, List, Option, Some, option_map}
use Rattle.std.specs.Option.{option_copied}
use Rattle.tui_cells.specs.declared.style.Style.{Style}
use Rattle.tui_cells.specs.Style.{no_style}
use Rattle.tui_cells.specs.Symbols as symbols
use Rattle.tui_lists.specs.Orientation as sides
use Rattle.tui_lists.specs.declared.scrollbar.Scrollbar.{Scrollbar}
use Rattle.tui_lists.specs.declared.scrollbar.orientation.ScrollbarOrientation.{ScrollbarOrientation}

-- a scrollbar as plain data
pub record ScrollbarData : Type 0 where
  pub orientation : ScrollbarOrientation
  pub thumb : List ℕ
  pub thumb_style : Style
  pub track : Option (List ℕ)
  pub track_style : Style
  pub begin : Option (List ℕ)
  pub begin_style : Style
  pub end : Option (List ℕ)
  pub end_style : Style

-- a scrollbar of the code as plain data
abbrev pub scrollbar_data : Scrollbar → ScrollbarData
scrollbar_data s = record {
  orientation = s.orientation;
  thumb = s.thumb_symbol.now;
  thumb_style = s.thumb_style;
  track = option_copied s.track_symbol;
  track_style = s.track_style;
  begin = option_copied s.begin_symbol;
  begin_style = s.begin_style;
  end = option_copied s.end_symbol;
  end_style = s.end_style;
}

-- the symbols of a set; a track or an end without a symbol stays without one
abbrev pub with_symbols : ScrollbarData → symbols.ScrollbarData → ScrollbarData
with_symbols s set = record s {
  thumb = set.thumb;
  track = option_map (λ _. set.track) s.track;
  begin = option_map (λ _. set.begin) s.begin;
  end = option_map (λ _. set.end) s.end;
}

-- double lines and arrows, without styles
abbrev pub scrollbar_of : ScrollbarOrientation → ScrollbarData
scrollbar_of orientation = record {
  orientation = orientation;
  thumb = (sides.double_symbols orientation).thumb;
  thumb_style = no_style;
  track = Some (sides.double_symbols orientation).track;
  track_style = no_style;
  begin = Some (sides.double_symbols orientation).begin;
  begin_style = no_style;
  end = Some (sides.double_symbols orientation).end;
  end_style = no_style;
}
