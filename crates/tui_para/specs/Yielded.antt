-- What a composer yields.
use Rattle.std.specs.Prelude.{◌≡◌, Bool, true, false, List, Option, option_map, Result, MatchResult, map}
use Rattle.tui_cells.specs.declared.memory.NoMemory.{NoMemory}
use Rattle.tui_text.specs.Grapheme.{glyph_of}
use Rattle.tui_para.specs.Answers.{Answers}
use Rattle.tui_para.specs.Lines.{GlyphLine, IsTaken}
use Rattle.tui_para.specs.declared.composer.WrappedLine.{WrappedLine}

-- a line that a composer yields, as plain data
abbrev pub glyph_line_of : WrappedLine → GlyphLine
glyph_line_of line = record { glyphs = map glyph_of line.graphemes.now; alignment = line.alignment }

module _ {S : Type 0} (can_yield : S → Type 0) (to_come must_yield : S → List GlyphLine → Type 0) (has_failed : S → Bool) where
  abbrev yields : S → Answers (List GlyphLine)
  yields s = record { may = to_come s; will = must_yield s }

  -- The composer yields the first line of those that may come and of those that are certain to come, or none if there
  -- is none. Once a call fails with `NoMemory`, the composer has failed for good.
  abbrev pub NextLine : S → Result (Option WrappedLine) NoMemory → S → Type 0
  NextLine old result new = can_yield new × MatchResult result
      (λ found. (has_failed old ≡ false) × (has_failed new ≡ false)
      × IsTaken (option_map glyph_line_of found) (yields old) (yields new))
      (λ _. has_failed new ≡ true)
