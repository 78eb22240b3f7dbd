use Rattle.std.proofs.Common.{◌≡◌, ◌+◌, ◌-◌, ◌≤◌, ◌++◌, drop, map, take, true}
use Rattle.std.specs.List.{list_all}
use Rattle.tui_text.specs.Grapheme.{glyph_of}
use Rattle.tui_clusters.specs.Printable.{is_printable}
use Rattle.tui_para.specs.Strokes.{byte_glyph}
use Rattle.tui_para.proofs.painting.bytes.copy_bytes.Given as goal

abbrev pub invariant-loop-count : goal.invariant-loop-count
invariant-loop-count l = record {
  within : l.count ≤ l.end;
  printable : list_all is_printable (take l.count l.bytes) ≡ true;
  copied : drop l.place (map glyph_of l.run) ≡ map (byte_glyph l.style) (take l.count l.bytes) ++ drop (l.place + l.count) (map glyph_of l.run);
}

abbrev pub decreases-loop-count : goal.decreases-loop-count
decreases-loop-count l = l.end - l.count
