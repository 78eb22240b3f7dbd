-- A text has as many lines as its text lines have together.
use Rattle.std.proofs.Common.{◌≡◌, ℕ, List, [], ◌∷◌, length, map, false, ap, sum_by, arith}
use Rattle.std.specs.Prelude.{◌<◌, All, unwrap_or}
use Rattle.std.proofs.lemmas.List.{length-append, length-map}
use Rattle.std.proofs.lemmas.List.Elements.{All-weaker}
use Rattle.std.proofs.lemmas.List.Sums.{sum_by-cons}
use Rattle.tui_cells.specs.declared.style.Style.{Style}
use Rattle.tui_para.specs.declared.wrap.Wrap.{Wrap}
use Rattle.tui_para.specs.Counting.{wrapped_len}
use Rattle.tui_para.specs.Division.{IsFewest, SpacedWithin}
use Rattle.tui_para.specs.Lines.{GlyphLine, glyph_line, LinesOfEach, WrapsLine}
use Rattle.tui_para.specs.WrappedText.{IsTextOf, text_glyph_line}
use Rattle.tui_para.proofs.WithSplits.{wraps_only}
use Rattle.tui_para.proofs.WithoutSplits.{fewest_lines}
use Rattle.tui_text.specs.Grapheme.{Glyph, glyph_blank, glyph_width}
use Rattle.tui_text.specs.Graphemes.{line_graphemes}
use Rattle.tui_text.specs.Line.{LineData}
use Rattle.tui_text.specs.Text.{TextData}
use Rattle.tui_text.specs.declared.alignment.Alignment.{Alignment}

pub length-shown : (w : ℕ) (way : Wrap) (alignment : Alignment) (base : Style) (lines : List LineData) (shown : List GlyphLine) → LinesOfEach (WrapsLine w way) (map (text_glyph_line base alignment) lines) shown → length shown ≡ sum_by (wrapped_len w way base) lines
length-shown w way alignment base [] shown h = ap length h
length-shown w way alignment base (line ∷ lines) shown h =
    let xs = line_graphemes base line in
    let same = ap length (wraps_only w way xs h.0 h.1) in
    let rest = length-shown w way alignment base lines h.2.0 h.2.1 in
    let both = length-append (map (glyph_line (unwrap_or line.alignment alignment)) h.0) h.2.0 in
    let as_many = length-map h.0 (glyph_line (unwrap_or line.alignment alignment)) in
    let all = ap length h.2.2 in
    let sum = sum_by-cons (wrapped_len w way base) line lines in
    omega arith

-- without breaks after hyphens, each line of a text of spaced words has the fewest lines
pub fewest_of_text : (w : ℕ) (way : Wrap) (text : TextData) (words : LineData → List (List Glyph)) → way.hyphens ≡ false → 0 < w → IsTextOf words w text →
    All (λ line. IsFewest glyph_width (words line) w (wrapped_len w way text.style line)) text.lines
fewest_of_text w way text words off some h = All-weaker
    (λ line. SpacedWithin glyph_blank glyph_width w (words line) (line_graphemes text.style line))
    (λ line. IsFewest glyph_width (words line) w (wrapped_len w way text.style line))
    (λ line s. fewest_lines w way (words line) (line_graphemes text.style line) off some s)
    text.lines h
