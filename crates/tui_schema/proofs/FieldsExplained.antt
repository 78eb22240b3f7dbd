-- A scene that is rejected has a fault, at the field that the rejection names.
use Rattle.std.proofs.Common.{Bool, true, false, nat_le, zero-add, ◌≡◌, ℕ, ◌+◌, List, [], IsSome, Option, Some, None, unwrap_or, Result, Ok, codes, refl, ap, ◌∙◌, subst}
use Rattle.serde_json.specs.Data.{Data, Items}
use Rattle.serde_json.specs.Find.{as_bool}
use Rattle.tui_bars.specs.Gauge.{GaugeData}
use Rattle.tui_bars.specs.LineGauge.{LineGaugeData}
use Rattle.tui_json.proofs.Leading.{FailsWith, accepted, bad_optional_member, fails_given, fails_optional, fails_or_reject, fails_required, item_at, never_fails, numbered_error, one_then, rejected, some_inside_at}
use Rattle.tui_json.specs.Constraint.{constraint_of}
use Rattle.tui_json.specs.Faults as faults
use Rattle.tui_json.specs.Faults.{WantedData, elements_fault, fault_of, given_member_fault, member_fault, no_parts, optional_member_fault, two_values, value_at, words}
use Rattle.tui_json.specs.Members.{list_of, member, optional_member, or_null, pair_of}
use Rattle.tui_json.specs.Named.{named_of}
use Rattle.tui_json.specs.Names.{directions, flexes, highlight_spacings}
use Rattle.tui_json.specs.Number.{u16_of, u64_of, within}
use Rattle.tui_json.specs.Refusals.{◌>>=◌, or_reject}
use Rattle.tui_layout.specs.declared.constraint.Constraint.{Constraint}
use Rattle.tui_lists.specs.Scrollbar.{ScrollbarData}
use Rattle.tui_layout.specs.declared.fraction.Fraction.{Fraction}
use Rattle.tui_schema.proofs.Narrower.{above_hundred, above_one, above_widths, less, no_percent, no_share, no_widths, rest}
use Rattle.tui_schema.specs.Faults.{Finds, a_bar_set, a_date, a_line, a_long, a_row, a_share, a_span, a_style, a_symbol, a_text, a_wrap, an_area, an_array, an_object, block_parts, event_fault, fraction_parts, group_fault, line_fault, line_parts, list_item_fault, row_fault, row_parts, short_fault, span_parts, sparkline_bar_fault, style_fault, style_parts, table_width_fault, text_parts, wrap_parts}
use Rattle.tui_schema.specs.Field.{field_name}
use Rattle.tui_schema.specs.FieldFaults.{a_side, a_widget, field_fault, scene_fault, some_items, widget_in}
use Rattle.tui_schema.specs.Items.{item_without_area, items_of, placed_of, shown_of}
use Rattle.tui_schema.specs.Items.Block.{block_in}
use Rattle.tui_schema.specs.Items.ChartFields.{chart_space_of, chart_styles_of, shown_chart, shown_sparkline, sparkline_strokes_of}
use Rattle.tui_schema.specs.Items.Fill.{fill_of}
use Rattle.tui_schema.specs.Items.Frame.{frame_in, style_in}
use Rattle.tui_schema.specs.Items.GaugeFields.{filling_of, gauge_with_percent, gauge_with_ratio, gauge_with_share, if_holds, line_gauge_with_share, line_with_ratio, shown_gauge, shown_line_gauge, strokes_of}
use Rattle.tui_schema.specs.Items.ListFields.{list_marks_of, scrolling_of, shown_list}
use Rattle.tui_schema.specs.Items.Logo.{logo_of}
use Rattle.tui_schema.specs.Items.MonthlyFields.{month_styles_of, shown_monthly}
use Rattle.tui_schema.specs.Items.Names.{widget_of}
use Rattle.tui_schema.specs.Items.Paragraph.{paragraph_of}
use Rattle.tui_schema.specs.Items.ScrollbarFields.{scrollbar_state_of, scrollbar_with_symbols, shown_scrollbar, styled_scrollbar}
use Rattle.tui_schema.specs.Items.TableFields.{in_widths, shown_table, table_layout_of, table_marks_of, table_state_of, table_with_rows, widths_of}
use Rattle.tui_schema.specs.Items.TabsFields.{selection_of, shown_tabs, tabs_space_of}
use Rattle.tui_schema.specs.Kinds.Area.{area_in}
use Rattle.tui_schema.specs.Kinds.Bars.{bar_set_of, group_of, sparkline_bar_of}
use Rattle.tui_schema.specs.Kinds.Block.{block_of}
use Rattle.tui_schema.specs.Kinds.Date.{date_of}
use Rattle.tui_schema.specs.Kinds.Fraction.{fraction_of, is_share, share_of}
use Rattle.tui_schema.specs.Kinds.Line.{line_of}
use Rattle.tui_schema.specs.Kinds.ListItem.{list_item_of}
use Rattle.tui_schema.specs.Kinds.Names.{alignments, list_directions, orientations, render_directions, sizes}
use Rattle.tui_schema.specs.Kinds.Span.{span_of}
use Rattle.tui_schema.specs.Kinds.Style.{style_of}
use Rattle.tui_schema.specs.Kinds.StyledDate.{event_of}
use Rattle.tui_schema.specs.Kinds.Symbol.{symbol_of}
use Rattle.tui_schema.specs.Kinds.Table.{row_of}
use Rattle.tui_schema.specs.Kinds.TableWidth.{table_width_of}
use Rattle.tui_schema.specs.Kinds.Text.{text_of}
use Rattle.tui_schema.specs.Kinds.Wrap.{wrap_of}
use Rattle.tui_schema.specs.Refusals.{bad_field, given, optional, required}
use Rattle.tui_schema.specs.Scene.{item_values_of, scene_of, side_of}
use Rattle.tui_schema.specs.declared.bad_field.BadField.{BadField}
use Rattle.tui_schema.specs.declared.field.Field.{Field}
use Rattle.tui_schema.specs.declared.field.Field.TheVariants as fields
use Rattle.tui_schema.specs.declared.items.widget.Widget.{Widget}
use Rattle.tui_schema.specs.declared.items.widget.Widget.TheVariants as widgets
use Rattle.tui_table.specs.Row.{RowData}
use Rattle.tui_table.specs.Table.{TableData, table_of as new_table}
use Rattle.tui_table.specs.Widths.{first_above_100}

-- the rejection is of this item, at a field that has a fault
abbrev IsFaulty : Option ℕ → Data → BadField → Type 0
IsFaulty i d bad = (bad.item ≡ i) × IsSome (field_fault bad.field d)

-- tests that fail only with a rejection of this item, at a field that has a fault
abbrev Explained : {A : Type 0} → Option ℕ → Data → Result A BadField → Type 0
Explained i d tests = FailsWith (IsFaulty i d) tests

-- an item of this widget
abbrev HasWidget : Widget → Data → Type 0
HasWidget widget d = widget_in d ≡ Some widget

-- ---- the test of one field

needs : {A : Type 0} (kind : Data → Option A) (wanted : WantedData) (parts : Finds) (i : Option ℕ) (f : Field) (d : Data) →
    (IsSome (member_fault wanted (fault_of kind wanted parts) (field_name f) d) → IsSome (field_fault f d)) → Explained i d (required kind i f d)
needs kind wanted parts i f d found =
    fails_required (IsFaulty i d) kind wanted parts (field_name f) (bad_field i f) d (λ is. (refl, found is))

may_have : {A : Type 0} (kind : Data → Option A) (wanted : WantedData) (parts : Finds) (i : Option ℕ) (f : Field) (d : Data) →
    (IsSome (optional_member_fault (fault_of kind wanted parts) (field_name f) d) → IsSome (field_fault f d)) → Explained i d (optional kind i f d)
may_have kind wanted parts i f d found =
    fails_optional (IsFaulty i d) kind wanted parts (field_name f) (bad_field i f) d (λ is. (refl, found is))

may_give : {A : Type 0} (kind : Data → Option A) (wanted : WantedData) (parts : Finds) (i : Option ℕ) (f : Field) (d : Data) →
    (IsSome (given_member_fault (fault_of kind wanted parts) (field_name f) d) → IsSome (field_fault f d)) → Explained i d (given kind i f d)
may_give kind wanted parts i f d found =
    fails_given (IsFaulty i d) kind wanted parts (field_name f) (bad_field i f) d (λ is. (refl, found is))

has_style : (i : Option ℕ) (f : Field) (d : Data) → (IsSome (optional_member_fault style_fault (field_name f) d) → IsSome (field_fault f d)) →
    Explained i d (style_in i f d)
unfolding style_in
has_style i f d found = one_then (IsFaulty i d) _ _ (may_have style_of a_style style_parts i f d found) (λ style is. never_fails (IsFaulty i d) _)

-- ---- fields whose kind allows less than their first test

-- the first test
may_have_less : {A B : Type 0} (kind : Data → Option A) (narrow : Data → Option B) (wanted : WantedData) (parts : Finds) (i : Option ℕ) (f : Field)
    (d : Data) → ((m : Data) → kind m ≡ None → narrow m ≡ None) →
    (IsSome (optional_member_fault (fault_of narrow wanted parts) (field_name f) d) → IsSome (field_fault f d)) → Explained i d (optional kind i f d)
may_have_less kind narrow wanted parts i f d none found =
    fails_or_reject (IsFaulty i d) (bad_field i f) (optional_member kind (field_name f) d)
    (λ e. (refl, found (bad_optional_member narrow wanted parts (field_name f) d (less kind narrow (field_name f) d none e))))

-- its second test
has_less : {A B : Type 0} (kind : Data → Option A) (narrow : Data → Option B) (wanted : WantedData) (parts : Finds) (i : Option ℕ) (f : Field)
    (d : Data) (a : A) → ((m : Data) → kind m ≡ Some a → narrow m ≡ None) →
    (IsSome (optional_member_fault (fault_of narrow wanted parts) (field_name f) d) → IsSome (field_fault f d)) →
    optional kind i f d ≡ Ok (Some a) → IsFaulty i d (bad_field i f)
has_less kind narrow wanted parts i f d a none found is =
    let e = accepted (bad_field i f) (optional_member kind (field_name f) d) (Some a) is in
    (refl, found (bad_optional_member narrow wanted parts (field_name f) d (rest kind narrow (field_name f) d a none e)))

holds_or : {A : Type 0} (P : BadField → Type 0) (test : Bool) (i : Option ℕ) (f : Field) (a : A) → (test ≡ false → P (bad_field i f)) →
    FailsWith P (if_holds test i f a)
holds_or P true i f a holds bad e = cc
holds_or {A} P false i f a holds bad e = subst P (rejected {A = A} (bad_field i f) None bad e).1 (holds refl)

-- ---- widgets

frame : (i : Option ℕ) (d : Data) → Explained i d (frame_in i d)
unfolding frame_in field_fault
frame i d =
    one_then (IsFaulty i d) _ _ (may_have block_of an_object block_parts i fields.Block d (λ is. is)) (λ block is.
    one_then (IsFaulty i d) _ _ (has_style i fields.Style d (λ is. is)) (λ style is.
    never_fails (IsFaulty i d) _))

fill : (i : Option ℕ) (d : Data) → Explained i d (fill_of i d)
unfolding fill_of field_fault
fill i d =
    one_then (IsFaulty i d) _ _ (needs symbol_of a_symbol no_parts i fields.Symbol d (λ is. is)) (λ symbol is.
    one_then (IsFaulty i d) _ _ (has_style i fields.Style d (λ is. is)) (λ style is.
    never_fails (IsFaulty i d) _))

block : (i : Option ℕ) (d : Data) → Explained i d (block_in i d)
unfolding block_in field_fault
block i d =
    one_then (IsFaulty i d) _ _ (may_have block_of an_object block_parts i fields.Block d (λ is. is)) (λ block is.
    never_fails (IsFaulty i d) _)

logo : (i : Option ℕ) (d : Data) → Explained i d (logo_of i d)
unfolding logo_of field_fault
logo i d =
    one_then (IsFaulty i d) _ _ (may_have (named_of sizes) _ no_parts i fields.Size d (λ is. is)) (λ size is.
    never_fails (IsFaulty i d) _)

paragraph : (i : Option ℕ) (d : Data) → Explained i d (paragraph_of i d)
unfolding paragraph_of field_fault
paragraph i d =
    one_then (IsFaulty i d) _ _ (frame i d) (λ around is.
    one_then (IsFaulty i d) _ _ (needs text_of a_text text_parts i fields.Text d (λ is. is)) (λ text is.
    one_then (IsFaulty i d) _ _ (may_have wrap_of a_wrap wrap_parts i fields.Wrap d (λ is. is)) (λ wrap is.
    one_then (IsFaulty i d) _ _ (may_have (pair_of u16_of u16_of) two_values _ i fields.Scroll d (λ is. is)) (λ scroll is.
    one_then (IsFaulty i d) _ _ (may_have (named_of alignments) _ no_parts i fields.Alignment d (λ is. is)) (λ alignment is.
    never_fails (IsFaulty i d) _)))))

list_marks : (i : Option ℕ) (d : Data) → Explained i d (list_marks_of i d)
unfolding list_marks_of field_fault
list_marks i d =
    one_then (IsFaulty i d) _ _ (may_have symbol_of a_symbol no_parts i fields.HighlightSymbol d (λ is. is)) (λ symbol is.
    one_then (IsFaulty i d) _ _ (has_style i fields.HighlightStyle d (λ is. is)) (λ style is.
    one_then (IsFaulty i d) _ _ (may_have as_bool (words (codes "true or false")) no_parts i fields.RepeatHighlightSymbol d (λ is. is)) (λ repeats is.
    one_then (IsFaulty i d) _ _ (may_have (named_of highlight_spacings) _ no_parts i fields.HighlightSpacing d (λ is. is)) (λ spacing is.
    never_fails (IsFaulty i d) _))))

scrolling : (i : Option ℕ) (d : Data) → HasWidget widgets.List d → Explained i d (scrolling_of i d)
unfolding scrolling_of field_fault
scrolling i d has =
    one_then (IsFaulty i d) _ _ (may_have (named_of list_directions) _ no_parts i fields.Direction d (λ found. rw has found)) (λ direction is.
    one_then (IsFaulty i d) _ _ (may_have u64_of a_long no_parts i fields.ScrollPadding d (λ is. is)) (λ padding is.
    one_then (IsFaulty i d) _ _ (may_have u64_of a_long no_parts i fields.Offset d (λ is. is)) (λ offset is.
    one_then (IsFaulty i d) _ _ (may_have u64_of a_long no_parts i fields.Selected d (λ found. rw has found)) (λ selected is.
    never_fails (IsFaulty i d) _))))

listed : (i : Option ℕ) (d : Data) → HasWidget widgets.List d → Explained i d (shown_list i d)
unfolding shown_list field_fault
listed i d has =
    one_then (IsFaulty i d) _ _ (frame i d) (λ around is.
    one_then (IsFaulty i d) _ _ (needs (list_of list_item_of) an_array (elements_fault list_item_fault) i fields.Items d (λ is. is)) (λ items is.
    one_then (IsFaulty i d) _ _ (list_marks i d) (λ marks is.
    one_then (IsFaulty i d) _ _ (scrolling i d has) (λ scroll is.
    never_fails (IsFaulty i d) _))))

same_widths : (i : Option ℕ) (those widths : List Constraint) →
    (or_reject (bad_field i fields.Widths) (Some (Some those)) >>= λ o. Ok (unwrap_or o [])) ≡ Ok widths → Some (Some those) ≡ Some (Some widths)
same_widths i those widths e = cc

-- the second test of the widths
widths_allowed : (i : Option ℕ) (d : Data) (rows : List RowData) (widths : List Constraint) → widths_of i d ≡ Ok widths →
    Explained i d (in_widths i rows widths)
unfolding widths_of field_fault
widths_allowed i d rows widths is = by_place (first_above_100 widths) refl
  where
    given_widths : (place : ℕ) → first_above_100 widths ≡ Some place → (found : Option (Option (List Constraint))) →
        optional_member (list_of constraint_of) (codes "widths") d ≡ found →
        (or_reject (bad_field i fields.Widths) found >>= λ o. Ok (unwrap_or o [])) ≡ Ok widths →
        optional_member (list_of table_width_of) (codes "widths") d ≡ None
    given_widths place above None found e = cc
    given_widths place above (Some None) found e = cc
    given_widths place above (Some (Some those)) found e = rest (list_of constraint_of) (list_of table_width_of) (codes "widths") d widths
        (above_widths widths place above) (found ∙ same_widths i those widths e)

    by_place : (place : Option ℕ) → first_above_100 widths ≡ place → Explained i d (in_widths i rows widths)
    by_place None e = rw e (never_fails (IsFaulty i d) (new_table rows widths))
    by_place (Some place) e = rw e (λ bad er. subst (IsFaulty i d) (rejected {A = TableData} (bad_field i fields.Widths) None bad er).1 (
      refl,
      bad_optional_member (list_of table_width_of) an_array (elements_fault table_width_fault) (codes "widths") d
          (given_widths place e (optional_member (list_of constraint_of) (codes "widths") d) refl is),
    ))

widths : (i : Option ℕ) (d : Data) → Explained i d (widths_of i d)
unfolding widths_of field_fault
widths i d =
    one_then (IsFaulty i d) _ _ (may_have_less (list_of constraint_of) (list_of table_width_of) an_array (elements_fault table_width_fault) i
    fields.Widths d no_widths (λ is. is)) (λ widths is.
    never_fails (IsFaulty i d) _)

table_rows : (i : Option ℕ) (d : Data) → Explained i d (table_with_rows i d)
unfolding table_with_rows field_fault
table_rows i d =
    one_then (IsFaulty i d) _ _ (needs (list_of row_of) an_array (elements_fault row_fault) i fields.Rows d (λ is. is)) (λ rows is.
    one_then (IsFaulty i d) _ _ (may_have row_of a_row row_parts i fields.Header d (λ is. is)) (λ header is.
    one_then (IsFaulty i d) _ _ (may_have row_of a_row row_parts i fields.Footer d (λ is. is)) (λ footer is.
    one_then (IsFaulty i d) _ _ (widths i d) (λ those is.
    one_then (IsFaulty i d) _ _ (widths_allowed i d rows those is) (λ table is.
    never_fails (IsFaulty i d) _)))))

table_marks : (i : Option ℕ) (d : Data) → Explained i d (table_marks_of i d)
unfolding table_marks_of field_fault
table_marks i d =
    one_then (IsFaulty i d) _ _ (may_have u16_of (faults.number 0 65535) no_parts i fields.ColumnSpacing d (λ is. is)) (λ spacing is.
    one_then (IsFaulty i d) _ _ (has_style i fields.RowHighlightStyle d (λ is. is)) (λ row is.
    one_then (IsFaulty i d) _ _ (has_style i fields.ColumnHighlightStyle d (λ is. is)) (λ column is.
    one_then (IsFaulty i d) _ _ (has_style i fields.CellHighlightStyle d (λ is. is)) (λ cell is.
    never_fails (IsFaulty i d) _))))

table_layout : (i : Option ℕ) (d : Data) → Explained i d (table_layout_of i d)
unfolding table_layout_of field_fault
table_layout i d =
    one_then (IsFaulty i d) _ _ (may_have symbol_of a_symbol no_parts i fields.HighlightSymbol d (λ is. is)) (λ symbol is.
    one_then (IsFaulty i d) _ _ (may_have (named_of highlight_spacings) _ no_parts i fields.HighlightSpacing d (λ is. is)) (λ spacing is.
    one_then (IsFaulty i d) _ _ (may_have (named_of flexes) _ no_parts i fields.Flex d (λ is. is)) (λ flex is.
    never_fails (IsFaulty i d) _)))

table_state : (i : Option ℕ) (d : Data) → HasWidget widgets.Table d → Explained i d (table_state_of i d)
unfolding table_state_of field_fault
table_state i d has =
    one_then (IsFaulty i d) _ _ (may_have u64_of a_long no_parts i fields.Offset d (λ is. is)) (λ offset is.
    one_then (IsFaulty i d) _ _ (may_have u64_of a_long no_parts i fields.Selected d (λ found. rw has found)) (λ selected is.
    one_then (IsFaulty i d) _ _ (may_have u64_of a_long no_parts i fields.SelectedColumn d (λ is. is)) (λ column is.
    never_fails (IsFaulty i d) _)))

table : (i : Option ℕ) (d : Data) → HasWidget widgets.Table d → Explained i d (shown_table i d)
unfolding shown_table field_fault
table i d has =
    one_then (IsFaulty i d) _ _ (frame i d) (λ around is.
    one_then (IsFaulty i d) _ _ (table_rows i d) (λ rows is.
    one_then (IsFaulty i d) _ _ (table_marks i d) (λ marks is.
    one_then (IsFaulty i d) _ _ (table_layout i d) (λ layout is.
    one_then (IsFaulty i d) _ _ (table_state i d has) (λ state is.
    never_fails (IsFaulty i d) _)))))

selection : (i : Option ℕ) (d : Data) → HasWidget widgets.Tabs d → Explained i d (selection_of i d)
unfolding selection_of field_fault
selection i d has =
    one_then (IsFaulty i d) _ _ (may_give (or_null u64_of) a_long no_parts i fields.Selected d (λ found. rw has found)) (λ selected is.
    one_then (IsFaulty i d) _ _ (may_have style_of a_style style_parts i fields.HighlightStyle d (λ is. is)) (λ style is.
    never_fails (IsFaulty i d) _))

tabs_space : (i : Option ℕ) (d : Data) → Explained i d (tabs_space_of i d)
unfolding tabs_space_of field_fault
tabs_space i d =
    one_then (IsFaulty i d) _ _ (may_have symbol_of a_symbol no_parts i fields.Divider d (λ is. is)) (λ divider is.
    one_then (IsFaulty i d) _ _ (may_have symbol_of a_symbol no_parts i fields.PaddingLeft d (λ is. is)) (λ left is.
    one_then (IsFaulty i d) _ _ (may_have symbol_of a_symbol no_parts i fields.PaddingRight d (λ is. is)) (λ right is.
    never_fails (IsFaulty i d) _)))

tabs : (i : Option ℕ) (d : Data) → HasWidget widgets.Tabs d → Explained i d (shown_tabs i d)
unfolding shown_tabs field_fault
tabs i d has =
    one_then (IsFaulty i d) _ _ (frame i d) (λ around is.
    one_then (IsFaulty i d) _ _ (needs (list_of line_of) an_array (elements_fault line_fault) i fields.Titles d (λ is. is)) (λ titles is.
    one_then (IsFaulty i d) _ _ (selection i d has) (λ selected is.
    one_then (IsFaulty i d) _ _ (tabs_space i d) (λ space is.
    never_fails (IsFaulty i d) _))))

scrollbar_symbols : (s : ScrollbarData) (i : Option ℕ) (d : Data) → Explained i d (scrollbar_with_symbols s i d)
unfolding scrollbar_with_symbols field_fault
scrollbar_symbols s i d =
    one_then (IsFaulty i d) _ _ (may_have symbol_of a_symbol no_parts i fields.ThumbSymbol d (λ is. is)) (λ thumb is.
    one_then (IsFaulty i d) _ _ (may_give (or_null symbol_of) a_symbol no_parts i fields.TrackSymbol d (λ is. is)) (λ track is.
    one_then (IsFaulty i d) _ _ (may_give (or_null symbol_of) a_symbol no_parts i fields.BeginSymbol d (λ is. is)) (λ begin is.
    one_then (IsFaulty i d) _ _ (may_give (or_null symbol_of) a_symbol no_parts i fields.EndSymbol d (λ is. is)) (λ last is.
    never_fails (IsFaulty i d) _))))

scrollbar_styles : (s : ScrollbarData) (i : Option ℕ) (d : Data) → Explained i d (styled_scrollbar s i d)
unfolding styled_scrollbar field_fault
scrollbar_styles s i d =
    one_then (IsFaulty i d) _ _ (may_have style_of a_style style_parts i fields.ThumbStyle d (λ is. is)) (λ thumb is.
    one_then (IsFaulty i d) _ _ (may_have style_of a_style style_parts i fields.TrackStyle d (λ is. is)) (λ track is.
    one_then (IsFaulty i d) _ _ (may_have style_of a_style style_parts i fields.BeginStyle d (λ is. is)) (λ begin is.
    one_then (IsFaulty i d) _ _ (may_have style_of a_style style_parts i fields.EndStyle d (λ is. is)) (λ last is.
    never_fails (IsFaulty i d) _))))

scrollbar_state : (i : Option ℕ) (d : Data) → Explained i d (scrollbar_state_of i d)
unfolding scrollbar_state_of field_fault
scrollbar_state i d =
    one_then (IsFaulty i d) _ _ (may_have u64_of a_long no_parts i fields.ContentLength d (λ is. is)) (λ content is.
    one_then (IsFaulty i d) _ _ (may_have u64_of a_long no_parts i fields.Position d (λ is. is)) (λ position is.
    one_then (IsFaulty i d) _ _ (may_have u64_of a_long no_parts i fields.ViewportContentLength d (λ is. is)) (λ viewport is.
    never_fails (IsFaulty i d) _)))

scrollbar : (i : Option ℕ) (d : Data) → Explained i d (shown_scrollbar i d)
unfolding shown_scrollbar field_fault
scrollbar i d =
    one_then (IsFaulty i d) _ _ (has_style i fields.Style d (λ is. is)) (λ style is.
    one_then (IsFaulty i d) _ _ (may_have (named_of orientations) _ no_parts i fields.Orientation d (λ is. is)) (λ orientation is.
    one_then (IsFaulty i d) _ _ (scrollbar_symbols _ i d) (λ symbols is.
    one_then (IsFaulty i d) _ _ (scrollbar_styles _ i d) (λ styles is.
    one_then (IsFaulty i d) _ _ (scrollbar_state i d) (λ state is.
    never_fails (IsFaulty i d) _)))))

-- a fraction that is not a share
not_share : (i : Option ℕ) (d : Data) (f : Fraction) → optional fraction_of i fields.Ratio d ≡ Ok (Some f) → is_share f ≡ false →
    IsFaulty i d (bad_field i fields.Ratio)
unfolding field_fault
not_share i d f is above = has_less fraction_of share_of a_share fraction_parts i fields.Ratio d f (above_one f above) (λ is. is) is

ratio_allowed : (i : Option ℕ) (d : Data) (g : GaugeData) (ratio : Option Fraction) → optional fraction_of i fields.Ratio d ≡ Ok ratio →
    Explained i d (gauge_with_ratio i g ratio)
ratio_allowed i d g None is = never_fails (IsFaulty i d) g
ratio_allowed i d g (Some f) is = holds_or (IsFaulty i d) (is_share f) i fields.Ratio _ (not_share i d f is)

percent_allowed : (i : Option ℕ) (d : Data) (g : GaugeData) (percent : Option ℕ) → optional u16_of i fields.Percent d ≡ Ok percent →
    Explained i d (gauge_with_percent i g percent)
unfolding field_fault
percent_allowed i d g None is = never_fails (IsFaulty i d) g
percent_allowed i d g (Some p) is = holds_or (IsFaulty i d) (nat_le p 100) i fields.Percent _
    (λ above. has_less u16_of (within 0 100) (faults.number 0 100) no_parts i fields.Percent d p (above_hundred p above) (λ is. is) is)

line_ratio_allowed : (i : Option ℕ) (d : Data) (g : LineGaugeData) (ratio : Option Fraction) → optional fraction_of i fields.Ratio d ≡ Ok ratio →
    Explained i d (line_with_ratio i g ratio)
line_ratio_allowed i d g None is = never_fails (IsFaulty i d) g
line_ratio_allowed i d g (Some f) is = holds_or (IsFaulty i d) (is_share f) i fields.Ratio _ (not_share i d f is)

-- the first test of a share
may_be_share : (i : Option ℕ) (d : Data) → Explained i d (optional fraction_of i fields.Ratio d)
unfolding field_fault
may_be_share i d = may_have_less fraction_of share_of a_share fraction_parts i fields.Ratio d no_share (λ is. is)

gauge_share : (i : Option ℕ) (d : Data) → Explained i d (gauge_with_share i d)
unfolding gauge_with_share field_fault
gauge_share i d =
    one_then (IsFaulty i d) _ _ (may_be_share i d) (λ ratio is.
    one_then (IsFaulty i d) _ _ (ratio_allowed i d _ ratio is) (λ shared is.
    one_then (IsFaulty i d) _ _ (may_have_less u16_of (within 0 100) (faults.number 0 100) no_parts i fields.Percent d no_percent
    (λ is. is)) (λ percent is.
    percent_allowed i d shared percent is)))

filling : (i : Option ℕ) (d : Data) → HasWidget widgets.Gauge d → Explained i d (filling_of i d)
unfolding filling_of field_fault
filling i d has =
    one_then (IsFaulty i d) _ _ (may_have span_of a_span span_parts i fields.Label d (λ found. rw has found)) (λ label is.
    one_then (IsFaulty i d) _ _ (has_style i fields.GaugeStyle d (λ is. is)) (λ style is.
    one_then (IsFaulty i d) _ _ (may_have as_bool (words (codes "true or false")) no_parts i fields.UseUnicode d (λ is. is)) (λ use_unicode is.
    never_fails (IsFaulty i d) _)))

gauge : (i : Option ℕ) (d : Data) → HasWidget widgets.Gauge d → Explained i d (shown_gauge i d)
unfolding shown_gauge field_fault
gauge i d has =
    one_then (IsFaulty i d) _ _ (frame i d) (λ around is.
    one_then (IsFaulty i d) _ _ (gauge_share i d) (λ share is.
    one_then (IsFaulty i d) _ _ (filling i d has) (λ fills is.
    never_fails (IsFaulty i d) _)))

line_gauge_share : (i : Option ℕ) (d : Data) → Explained i d (line_gauge_with_share i d)
unfolding line_gauge_with_share field_fault
line_gauge_share i d =
    one_then (IsFaulty i d) _ _ (may_be_share i d) (λ ratio is.
    line_ratio_allowed i d _ ratio is)

strokes : (i : Option ℕ) (d : Data) → Explained i d (strokes_of i d)
unfolding strokes_of field_fault
strokes i d =
    one_then (IsFaulty i d) _ _ (may_have symbol_of a_symbol no_parts i fields.FilledSymbol d (λ is. is)) (λ filled is.
    one_then (IsFaulty i d) _ _ (may_have symbol_of a_symbol no_parts i fields.UnfilledSymbol d (λ is. is)) (λ unfilled is.
    one_then (IsFaulty i d) _ _ (has_style i fields.FilledStyle d (λ is. is)) (λ filled_style is.
    one_then (IsFaulty i d) _ _ (has_style i fields.UnfilledStyle d (λ is. is)) (λ unfilled_style is.
    never_fails (IsFaulty i d) _))))

line_gauge : (i : Option ℕ) (d : Data) → HasWidget widgets.LineGauge d → Explained i d (shown_line_gauge i d)
unfolding shown_line_gauge field_fault
line_gauge i d has =
    one_then (IsFaulty i d) _ _ (frame i d) (λ around is.
    one_then (IsFaulty i d) _ _ (line_gauge_share i d) (λ share is.
    one_then (IsFaulty i d) _ _ (may_have line_of a_line line_parts i fields.Label d (λ found. rw has found)) (λ label is.
    one_then (IsFaulty i d) _ _ (strokes i d) (λ parts is.
    never_fails (IsFaulty i d) _))))

chart_space : (i : Option ℕ) (d : Data) → Explained i d (chart_space_of i d)
unfolding chart_space_of field_fault
chart_space i d =
    one_then (IsFaulty i d) _ _ (may_have u16_of (faults.number 0 65535) no_parts i fields.BarWidth d (λ is. is)) (λ width is.
    one_then (IsFaulty i d) _ _ (may_have u16_of (faults.number 0 65535) no_parts i fields.BarGap d (λ is. is)) (λ gap is.
    one_then (IsFaulty i d) _ _ (may_have u16_of (faults.number 0 65535) no_parts i fields.GroupGap d (λ is. is)) (λ group_gap is.
    one_then (IsFaulty i d) _ _ (may_have bar_set_of a_bar_set no_parts i fields.BarSet d (λ is. is)) (λ symbols is.
    never_fails (IsFaulty i d) _))))

chart_styles : (i : Option ℕ) (d : Data) → HasWidget widgets.BarChart d → Explained i d (chart_styles_of i d)
unfolding chart_styles_of field_fault
chart_styles i d has =
    one_then (IsFaulty i d) _ _ (has_style i fields.BarStyle d (λ is. is)) (λ bars is.
    one_then (IsFaulty i d) _ _ (has_style i fields.ValueStyle d (λ is. is)) (λ values is.
    one_then (IsFaulty i d) _ _ (has_style i fields.LabelStyle d (λ is. is)) (λ labels is.
    one_then (IsFaulty i d) _ _ (may_have (named_of directions) _ no_parts i fields.Direction d (λ found. rw has found)) (λ direction is.
    never_fails (IsFaulty i d) _))))

chart : (i : Option ℕ) (d : Data) → HasWidget widgets.BarChart d → Explained i d (shown_chart i d)
unfolding shown_chart field_fault
chart i d has =
    one_then (IsFaulty i d) _ _ (frame i d) (λ around is.
    one_then (IsFaulty i d) _ _ (needs (list_of group_of) an_array (elements_fault group_fault) i fields.Groups d (λ is. is)) (λ groups is.
    one_then (IsFaulty i d) _ _ (may_have u64_of a_long no_parts i fields.Max d (λ is. is)) (λ max is.
    one_then (IsFaulty i d) _ _ (chart_space i d) (λ space is.
    one_then (IsFaulty i d) _ _ (chart_styles i d has) (λ styles is.
    never_fails (IsFaulty i d) _)))))

sparkline_strokes : (i : Option ℕ) (d : Data) → HasWidget widgets.Sparkline d → Explained i d (sparkline_strokes_of i d)
unfolding sparkline_strokes_of field_fault
sparkline_strokes i d has =
    one_then (IsFaulty i d) _ _ (has_style i fields.AbsentValueStyle d (λ is. is)) (λ style is.
    one_then (IsFaulty i d) _ _ (may_have symbol_of a_symbol no_parts i fields.AbsentValueSymbol d (λ is. is)) (λ symbol is.
    one_then (IsFaulty i d) _ _ (may_have bar_set_of a_bar_set no_parts i fields.BarSet d (λ is. is)) (λ symbols is.
    one_then (IsFaulty i d) _ _ (may_have (named_of render_directions) _ no_parts i fields.Direction d (λ found. rw has found)) (λ direction is.
    never_fails (IsFaulty i d) _))))

sparkline : (i : Option ℕ) (d : Data) → HasWidget widgets.Sparkline d → Explained i d (shown_sparkline i d)
unfolding shown_sparkline field_fault
sparkline i d has =
    one_then (IsFaulty i d) _ _ (frame i d) (λ around is.
    one_then (IsFaulty i d) _ _ (needs (list_of sparkline_bar_of) an_array (elements_fault sparkline_bar_fault) i fields.Data d
    (λ is. is)) (λ bars is.
    one_then (IsFaulty i d) _ _ (may_have u64_of a_long no_parts i fields.Max d (λ is. is)) (λ max is.
    one_then (IsFaulty i d) _ _ (sparkline_strokes i d has) (λ parts is.
    never_fails (IsFaulty i d) _))))

month_styles : (i : Option ℕ) (d : Data) → Explained i d (month_styles_of i d)
unfolding month_styles_of field_fault
month_styles i d =
    one_then (IsFaulty i d) _ _ (may_have style_of a_style style_parts i fields.ShowSurrounding d (λ is. is)) (λ surrounding is.
    one_then (IsFaulty i d) _ _ (may_have style_of a_style style_parts i fields.ShowMonthHeader d (λ is. is)) (λ month is.
    one_then (IsFaulty i d) _ _ (may_have style_of a_style style_parts i fields.ShowWeekdaysHeader d (λ is. is)) (λ weekdays is.
    one_then (IsFaulty i d) _ _ (has_style i fields.DefaultStyle d (λ is. is)) (λ style is.
    never_fails (IsFaulty i d) _))))

monthly : (i : Option ℕ) (d : Data) → Explained i d (shown_monthly i d)
unfolding shown_monthly field_fault
monthly i d =
    one_then (IsFaulty i d) _ _ (may_have block_of an_object block_parts i fields.Block d (λ is. is)) (λ block is.
    one_then (IsFaulty i d) _ _ (needs date_of a_date no_parts i fields.Date d (λ is. is)) (λ date is.
    one_then (IsFaulty i d) _ _ (may_have (list_of event_of) an_array (elements_fault event_fault) i fields.Events d (λ is. is)) (λ events is.
    one_then (IsFaulty i d) _ _ (month_styles i d) (λ styles is.
    never_fails (IsFaulty i d) _))))

-- ---- items and scenes

shown : (widget : Widget) (i : Option ℕ) (d : Data) → HasWidget widget d → Explained i d (shown_of widget i d)
shown widgets.Clear i d has = never_fails (IsFaulty i d) _
shown widgets.Fill i d has = one_then (IsFaulty i d) _ _ (fill i d) (λ found is. never_fails (IsFaulty i d) _)
shown widgets.Block i d has = one_then (IsFaulty i d) _ _ (block i d) (λ found is. never_fails (IsFaulty i d) _)
shown widgets.Paragraph i d has = one_then (IsFaulty i d) _ _ (paragraph i d) (λ found is. never_fails (IsFaulty i d) _)
shown widgets.List i d has = one_then (IsFaulty i d) _ _ (listed i d has) (λ found is. never_fails (IsFaulty i d) _)
shown widgets.Table i d has = one_then (IsFaulty i d) _ _ (table i d has) (λ found is. never_fails (IsFaulty i d) _)
shown widgets.Tabs i d has = one_then (IsFaulty i d) _ _ (tabs i d has) (λ found is. never_fails (IsFaulty i d) _)
shown widgets.Scrollbar i d has = one_then (IsFaulty i d) _ _ (scrollbar i d) (λ found is. never_fails (IsFaulty i d) _)
shown widgets.Gauge i d has = one_then (IsFaulty i d) _ _ (gauge i d has) (λ found is. never_fails (IsFaulty i d) _)
shown widgets.LineGauge i d has = one_then (IsFaulty i d) _ _ (line_gauge i d has) (λ found is. never_fails (IsFaulty i d) _)
shown widgets.BarChart i d has = one_then (IsFaulty i d) _ _ (chart i d has) (λ found is. never_fails (IsFaulty i d) _)
shown widgets.Sparkline i d has = one_then (IsFaulty i d) _ _ (sparkline i d has) (λ found is. never_fails (IsFaulty i d) _)
shown widgets.Monthly i d has = one_then (IsFaulty i d) _ _ (monthly i d) (λ found is. never_fails (IsFaulty i d) _)
shown widgets.Logo i d has = one_then (IsFaulty i d) _ _ (logo i d) (λ found is. never_fails (IsFaulty i d) _)

widget_accepted : (i : ℕ) (d : Data) (widget : Widget) → required widget_of (Some i) fields.Widget d ≡ Ok widget → HasWidget widget d
widget_accepted i d widget is = accepted (bad_field (Some i) fields.Widget) (widget_in d) widget is

pub item_found : (i : ℕ) (d : Data) → Explained (Some i) d (item_without_area i d)
unfolding item_without_area field_fault
item_found i d =
    one_then (IsFaulty (Some i) d) _ _ (needs widget_of a_widget no_parts (Some i) fields.Widget d (λ is. is)) (λ widget is.
    shown widget (Some i) d (widget_accepted i d widget is))

placed : (i : ℕ) (d : Data) → Explained (Some i) d (placed_of i d)
unfolding placed_of field_fault
placed i d =
    one_then (IsFaulty (Some i) d) _ _ (needs widget_of a_widget no_parts (Some i) fields.Widget d (λ is. is)) (λ widget is.
    one_then (IsFaulty (Some i) d) _ _ (needs area_in an_area (elements_fault short_fault) (Some i) fields.Area d (λ is. is)) (λ area _.
    one_then (IsFaulty (Some i) d) _ _ (shown widget (Some i) d (widget_accepted i d widget is)) (λ item _.
    never_fails (IsFaulty (Some i) d) _)))

-- the rejection of a scene has a fault
abbrev IsFound : Data → BadField → Type 0
IsFound d bad = IsSome (scene_fault bad d)

found_at : (i : ℕ) (bad : BadField) (d m : Data) → bad.item ≡ Some i → value_at (codes "items") i d ≡ Some m → IsSome (field_fault bad.field m) →
    IsFound d bad
found_at i bad d m is there some = rw is (some_inside_at (codes "items") i (field_fault bad.field) d m there some)

items_found : (d : Data) (values : Items) → required item_values_of None fields.Items d ≡ Ok values → FailsWith (IsFound d) (items_of 0 values)
items_found d values is bad e =
    let found = numbered_error placed_of 0 values bad e in
    let faulty = placed (0 + found.0) found.1 bad found.3 in
    let there = item_at 0 256 (codes "items") found.0 d found.1 values
    (accepted (bad_field None fields.Items) (member item_values_of (codes "items") d) values is) found.2 in
    found_at found.0 bad d found.1 (faulty.0 ∙ ap (λ k. Some k) (zero-add found.0)) there faulty.1

pub scene_found : (d : Data) → FailsWith (IsFound d) (scene_of d)
unfolding scene_of field_fault
scene_found d =
    one_then (IsFound d) _ _ (fails_required (IsFound d) side_of a_side no_parts (codes "width") (bad_field None fields.Width) d
    (λ is. is)) (λ width _.
    one_then (IsFound d) _ _ (fails_required (IsFound d) side_of a_side no_parts (codes "height") (bad_field None fields.Height) d
    (λ is. is)) (λ height _.
    one_then (IsFound d) _ _ (fails_required (IsFound d) item_values_of some_items no_parts (codes "items") (bad_field None fields.Items) d
    (λ is. is)) (λ values is.
    one_then (IsFound d) _ _ (items_found d values is) (λ items _. never_fails (IsFound d) _))))
