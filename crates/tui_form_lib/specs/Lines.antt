-- The lines of the fields in the list.
use Rattle.std.specs.Prelude.{ℕ, ◌+◌, ◌==◌, Bool, true, false, List, [], ◌∷◌, length, codes, replicate, unwrap_or, Option, if◌then◌else◌}
use Rattle.std.specs.Option.{option_map_or}
use Rattle.tui_cells.specs.Style.{no_style}
use Rattle.tui_cells.specs.declared.style.Style.{Style}
use Rattle.tui_form_lib.specs.Field.{FieldData}
use Rattle.tui_form_lib.specs.Value.{ValueData, check, choice, chosen_text, typed_value}
use Rattle.tui_input.specs.State.{TypedText, text_of}
use Rattle.tui_lists.specs.ListItem.{ListItemData}
use Rattle.tui_text.specs.Line.{LineData, empty_line}
use Rattle.tui_text.specs.Span.{SpanData, raw_span}
use Rattle.tui_text.specs.Text.{empty_text}
use Rattle.unicode_segmentation.specs.Grapheme.{graphemes}

abbrev pub bold : Style
bold = record no_style { add_modifier = record { bits = 1 } }

-- a star after the label of a field that is needed
abbrev pub needed_mark : Bool → List ℕ
needed_mark is_needed = if is_needed then codes " *" else []

-- and the word `needed` after that, if the field is marked
abbrev pub reported_mark : Bool → List ℕ
reported_mark is_reported = if is_reported then codes " needed" else []

abbrev pub label_line : Bool → FieldData → LineData
label_line is_reported f = record empty_line {
  spans = raw_span f.label ∷ raw_span (needed_mark f.is_needed) ∷ record { content = reported_mark is_reported; style = bold } ∷ [];
}

-- a text, or a star for each of its graphemes if it is masked
abbrev pub text_spans : TypedText → Bool → List SpanData
text_spans text is_masked =
    if is_masked then replicate (length (graphemes true (text_of text))) (raw_span (codes "*")) else raw_span (text_of text) ∷ []

-- a box
abbrev pub box_text : Bool → List ℕ
box_text is_on = if is_on then codes "[x]" else codes "[ ]"

-- the chosen text, if there is one
abbrev pub choice_spans : List (List ℕ) → Option ℕ → List SpanData
choice_spans texts chosen = raw_span (codes "< ") ∷ raw_span (unwrap_or (chosen_text texts chosen) []) ∷ raw_span (codes " >") ∷ []

-- What the list shows of a value: a text that is not focused, a choice, or a box.
abbrev pub value_spans : Bool → ValueData → List SpanData
value_spans is_focused (typed_value text is_masked) = if is_focused then [] else text_spans text is_masked
value_spans is_focused (choice texts chosen) = choice_spans texts chosen
value_spans is_focused (check is_on) = raw_span (box_text is_on) ∷ []

-- indented by two columns
abbrev pub value_line : Bool → ValueData → LineData
value_line is_focused v = record empty_line { spans = raw_span (codes "  ") ∷ value_spans is_focused v }

-- a field as an item of the list: its label, and its value below it
abbrev pub field_item : Bool → Bool → FieldData → ListItemData
field_item is_reported is_focused f = record {
  content = record empty_text { lines = label_line is_reported f ∷ value_line is_focused f.value ∷ [] };
  style = no_style;
}

-- a field is the marked one
abbrev pub is_reported : Option ℕ → ℕ → Bool
is_reported reported place = option_map_or (λ at. at == place) reported false

-- fields as items, counted from `place`
abbrev pub items_from : Option ℕ → ℕ → ℕ → List FieldData → List ListItemData
items_from reported focus place [] = []
items_from reported focus place (f ∷ fs) = field_item (is_reported reported place) (place == focus) f ∷ items_from reported focus (place + 1) fs
