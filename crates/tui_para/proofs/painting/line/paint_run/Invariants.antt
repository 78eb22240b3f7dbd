use Rattle.std.proofs.Common.{◌-◌, ◌≤◌, drop, length, map}
use Rattle.tui_cells.specs.Rect.{covers}
use Rattle.tui_cells.specs.Buffer.{Screen}
use Rattle.tui_cells.specs.Layers.{Painted, KeptOutside}
use Rattle.tui_text.specs.Grapheme.{glyph_of}
use Rattle.tui_para.specs.Strokes.{run_layers}
use Rattle.tui_para.proofs.painting.line.paint_run.Given as goal

-- painting the remaining graphemes completes the whole
abbrev pub invariant-loop-place : goal.invariant-loop-place
invariant-loop-place l = record {
  rest : (final : Screen) → Painted (run_layers l.clip l.x l.at.y (drop l.place (map glyph_of l.run))) l.buf final
      → Painted (run_layers l.clip l.at.x l.at.y (map glyph_of l.run)) l.fn.buf final;
  kept : KeptOutside (covers l.clip) l.fn.buf l.buf;
  within : l.place ≤ length l.run;
  column : l.clip.x ≤ l.x;
}

abbrev pub decreases-loop-place : goal.decreases-loop-place
decreases-loop-place l = length l.run - l.place
