-- The items, the paragraph and the scene of a demonstration.
use Rattle.std.specs.Prelude.{◌≡◌, ℕ, ◌+◌, ◌/◌, ◌%◌, List, [], ◌∷◌, length, map, Some, false, true}
use Rattle.std.specs.List.{range_with_len, repeat}
use Rattle.tui_cells.specs.Rect.{area_of}
use Rattle.tui_cells.specs.Style.{no_style}
use Rattle.tui_lists.specs.List.{ListData, list_of}
use Rattle.tui_lists.specs.ListItem.{ListItemData}
use Rattle.tui_lists.specs.declared.list.state.ListState.{ListState}
use Rattle.tui_para.specs.Lines.{GlyphLine}
use Rattle.tui_para.specs.Paragraph.{ParagraphData, paragraph_of}
use Rattle.tui_para.specs.declared.wrap.Wrap.{Wrap}
use Rattle.tui_para.specs.WrappedText.{WrappedText}
use Rattle.tui_scene.specs.Item.{PlacedData, list, paragraph, stateless}
use Rattle.tui_text.specs.Line.{raw_line}
use Rattle.tui_text.specs.Text.{TextData, empty_text}
use Rattle.tui_text.specs.declared.alignment.Alignment.TheVariants.{Left}
use Rattle.tui_show_run.specs.Demo.Text.{demo_text, letter}

-- the number of lines of item i, each of which is its letter
abbrev pub item_lines : ℕ → ℕ
item_lines i = 1 + i % 3

-- item i
abbrev pub demo_item : ℕ → ListItemData
demo_item i = record { content = record empty_text { lines = repeat (item_lines i) (raw_line (letter i ∷ []) ∷ []) }; style = no_style }

-- the items 0 to n - 1
abbrev pub demo_items : ℕ → List ListItemData
demo_items n = map demo_item (range_with_len 0 n)

-- the heights of n items
abbrev pub demo_heights : ℕ → List ℕ
demo_heights n = map item_lines (range_with_len 0 n)

-- the list, which keeps an item visible on each side of the selected one
abbrev pub demo_list : ℕ → ListData
demo_list n = record (list_of (demo_items n)) { padding = 1 }

-- the item in the middle is selected
abbrev pub demo_state : ℕ → ListState
demo_state n = record { offset = 0; selected = Some (n / 2) }

-- a text on one line
abbrev pub one_line : List ℕ → TextData
one_line text = record empty_text { lines = raw_line text ∷ [] }

-- lines begin without their spaces, and break only at spaces
abbrev pub demo_wrap : Wrap
demo_wrap = record { trim = true; hyphens = false }

-- such a text, wrapped like this
abbrev pub demo_paragraph : List ℕ → ParagraphData
demo_paragraph text = record (paragraph_of (one_line text)) { wrap = Some demo_wrap }

-- the list and, to its right, the words
abbrev pub demo_scene : ℕ → List PlacedData
demo_scene n =
    record { area = area_of 0 0 20 8; item = list (demo_list n) (demo_state n) }
    ∷ record { area = area_of 20 0 20 8; item = stateless (paragraph (demo_paragraph (demo_text n))) } ∷ []

-- in 20 columns the words are wrapped into this many lines
abbrev pub HasLines : ℕ → ℕ → Type 0
HasLines n count = (lines : List GlyphLine) × WrappedText 20 demo_wrap Left (one_line (demo_text n)) lines × (count ≡ length lines)
