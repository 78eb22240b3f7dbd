use Rattle.std.proofs.Common.{◌≡◌, ℕ, drop, false, map}
use Rattle.tui_cells.specs.Rect.{covers}
use Rattle.tui_cells.specs.Buffer.{Screen}
use Rattle.tui_cells.specs.Layers.{KeptOutside, Painted}
use Rattle.tui_text.specs.Line.{line_data}
use Rattle.tui_text.specs.Painting.{lines_layers}
use Rattle.tui_text.proofs.painting.paint_lines.Given as goal

-- what is left to paint completes the whole, and lies in the area
abbrev pub invariant-loop-line : goal.invariant-loop-line
invariant-loop-line l = record {
  rest : (final : Screen) → Painted (lines_layers l.rest l.given (map line_data (drop l.line-index l.lines))) l.buf final
      → Painted (lines_layers l.fn.area l.given (map line_data l.lines)) l.fn.buf final;
  within : (x y : ℕ) → covers l.fn.area x y ≡ false → covers l.rest x y ≡ false;
  kept : KeptOutside (covers l.fn.area) l.fn.buf l.buf;
}
