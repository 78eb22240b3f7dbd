-- The fields of `scrollbar`.
use Rattle.std.specs.Prelude.{ℕ, Option, Result, Ok, unwrap_or}
use Rattle.serde_json.specs.Data.{Data}
use Rattle.tui_cells.specs.declared.style.Style.{Style}
use Rattle.tui_lists.specs.Scrollbar.{ScrollbarData, scrollbar_of as new_scrollbar}
use Rattle.tui_lists.specs.declared.scrollbar.orientation.ScrollbarOrientation.TheVariants.{VerticalRight}
use Rattle.tui_lists.specs.declared.scrollbar.state.ScrollbarState.{ScrollbarState}
use Rattle.tui_schema.specs.declared.field.Field.TheVariants as fields
use Rattle.tui_json.specs.Members.{or_null}
use Rattle.tui_json.specs.Named.{named_of}
use Rattle.tui_schema.specs.Items.Frame.{style_in}
use Rattle.tui_schema.specs.Kinds.Names.{orientations}
use Rattle.tui_json.specs.Number.{u64_of}
use Rattle.tui_schema.specs.Kinds.Style.{style_of}
use Rattle.tui_schema.specs.Kinds.Symbol.{symbol_of}
use Rattle.tui_json.specs.Refusals.{◌>>=◌}
use Rattle.tui_schema.specs.Refusals.{given, optional}
use Rattle.tui_schema.specs.declared.bad_field.BadField.{BadField}

-- with its symbols; null for an optional one leaves it out
unfoldable pub scrollbar_with_symbols : ScrollbarData → Option ℕ → Data → Result ScrollbarData BadField
scrollbar_with_symbols s i d = do
  thumb ← optional symbol_of i fields.ThumbSymbol d
  track ← given (or_null symbol_of) i fields.TrackSymbol d
  begin ← given (or_null symbol_of) i fields.BeginSymbol d
  end ← given (or_null symbol_of) i fields.EndSymbol d
  Ok (record s {
    thumb = unwrap_or thumb s.thumb;
    track = unwrap_or track s.track;
    begin = unwrap_or begin s.begin;
    end = unwrap_or end s.end;
  })

-- with one style for all parts
abbrev pub in_style : Style → ScrollbarData → ScrollbarData
in_style style s = record s { thumb_style = style; track_style = style; begin_style = style; end_style = style }

-- with the styles of single parts
unfoldable pub styled_scrollbar : ScrollbarData → Option ℕ → Data → Result ScrollbarData BadField
styled_scrollbar s i d = do
  thumb ← optional style_of i fields.ThumbStyle d
  track ← optional style_of i fields.TrackStyle d
  begin ← optional style_of i fields.BeginStyle d
  end ← optional style_of i fields.EndStyle d
  Ok (record s {
    thumb_style = unwrap_or thumb s.thumb_style;
    track_style = unwrap_or track s.track_style;
    begin_style = unwrap_or begin s.begin_style;
    end_style = unwrap_or end s.end_style;
  })

unfoldable pub scrollbar_state_of : Option ℕ → Data → Result ScrollbarState BadField
scrollbar_state_of i d = do
  content ← optional u64_of i fields.ContentLength d
  position ← optional u64_of i fields.Position d
  viewport ← optional u64_of i fields.ViewportContentLength d
  Ok (record {
    content_length = unwrap_or content 0;
    position = unwrap_or position 0;
    viewport_content_length = unwrap_or viewport 0;
  })

-- a scrollbar and its state
unfoldable pub shown_scrollbar : Option ℕ → Data → Result (ScrollbarData × ScrollbarState) BadField
shown_scrollbar i d = do
  style ← style_in i fields.Style d
  orientation ← optional (named_of orientations) i fields.Orientation d
  with_symbols ← scrollbar_with_symbols (in_style style (new_scrollbar (unwrap_or orientation VerticalRight))) i d
  styled ← styled_scrollbar with_symbols i d
  state ← scrollbar_state_of i d
  Ok (styled, state)
