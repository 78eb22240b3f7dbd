-- A scene has exactly one output, and the words of a demonstration have the fewest lines.
use Rattle.std.specs.Prelude.{◌≡◌, ℕ, List, map}
use Rattle.std.specs.List.{range_with_len}
use Rattle.tui_cells.specs.Style.{no_style}
use Rattle.tui_para.specs.Division.{IsFewest, SpacedWithin}
use Rattle.tui_schema.specs.Scene.{SceneData}
use Rattle.tui_show_run.specs.Demo.{IsDemo}
use Rattle.tui_show_run.specs.Demo.Scene.{HasLines}
use Rattle.tui_show_run.specs.Demo.Text.{demo_text, word}
use Rattle.tui_show_run.specs.Shown.{IsShown}
use Rattle.tui_text.specs.Grapheme.{Glyph, glyph_blank, glyph_width}
use Rattle.tui_text.specs.Graphemes.{line_graphemes}
use Rattle.tui_text.specs.Line.{raw_line}

-- a scene has at most one output
abbrev pub OutputIsUnique : Type 0
OutputIsUnique = (s : SceneData) (text other : List ℕ) → IsShown s text → IsShown s other → other ≡ text

-- `demo` has at most one output for a number of items
abbrev pub DemoIsUnique : Type 0
DemoIsUnique = (n : ℕ) (text other : List ℕ) → IsDemo n text → IsDemo n other → other ≡ text

-- the graphemes of a text on one line
abbrev pub graphemes_in : List ℕ → List Glyph
graphemes_in text = line_graphemes no_style (raw_line text)

-- the graphemes of each word of a demonstration
abbrev pub word_graphemes : ℕ → List (List Glyph)
word_graphemes n = map (λ i. graphemes_in (word n i)) (range_with_len 0 n)

-- the text of a demonstration consists of words with single spaces between them, none wider than 20 columns; if these
-- words are divided into groups that fit 20 columns, there are never fewer groups than the text has lines
abbrev pub DemoIsFewest : Type 0
DemoIsFewest = (n lines : ℕ) → HasLines n lines →
    SpacedWithin glyph_blank glyph_width 20 (word_graphemes n) (graphemes_in (demo_text n)) × IsFewest glyph_width (word_graphemes n) 20 lines
