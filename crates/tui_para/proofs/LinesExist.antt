-- A composer has lines to yield, if its iterators have something to give.
use Rattle.std.proofs.Common.{◌≤◌, ℕ, Bool, true, false, List, [], ◌∷◌, ◌++◌, map, length, drop, refl, inl, inr, ⊎_elim, arith}
use Rattle.std.proofs.lemmas.Bool.{cases_lt}
use Rattle.std.proofs.lemmas.List.Elements.{All-append, All-drop, All-from_recursion, recursion_from_All}
use Rattle.tui_text.specs.Grapheme.{Glyph, glyph_width}
use Rattle.tui_para.specs.declared.wrap.Wrap.{Wrap}
use Rattle.tui_para.specs.Lines.{GlyphLine, glyph_line, lines_of_each, is_left, LinesFrom, TruncatesLine, WrapsLine}
use Rattle.tui_para.specs.Marked.{splits_of}
use Rattle.tui_para.specs.Hyphenation.{marked_from}
use Rattle.tui_para.specs.Hyphens.{glyph_rule, unsplit, wrap}
use Rattle.tui_para.specs.Places.{lines_of, wrap_kept}
use Rattle.tui_para.specs.Truncated.{truncate}
use Rattle.tui_para.specs.Wrapped.{not_wider}
use Rattle.tui_para.specs.Wrapping.{LinesOfRest, PartsWith, TruncatorLines, WrapperLines, glyphs_from}
use Rattle.tui_para.specs.declared.wrapping.text_line.TextLine.{TextLine}
use Rattle.tui_para.specs.declared.truncator.LineTruncator.{LineTruncator}
use Rattle.tui_para.specs.declared.wrapper.WordWrapper.{WordWrapper}
use Rattle.tui_para.proofs.Greedy.{AllFit, all_fit-kept, lines_are, wrap_kept_is}
use Rattle.tui_para.proofs.WithSplits.{fit-marked}
use Rattle.tui_para.proofs.TextOnce.{each_is, truncates_to, wraps_to}

-- what is given has lines
pub lines_exist : {X : Type 0} (given : X → Type 0) (lined : X → List GlyphLine → Type 0) → ((x : X) → (lines : List GlyphLine) × lined x lines) → (x : X) × given x → (w : ℕ) → (lines : List GlyphLine) × LinesFrom given lined w lines
lines_exist given lined exist (x, gives) w = ⊎_elim (λ some. (let (lines, each) = exist x in (lines, inr (some, (x, gives, each))))) (λ none. ([], inl (omega arith, refl))) (cases_lt 0 w)

-- graphemes that fit have lines
rest_exists : (is_new : Bool) (w : ℕ) (way : Wrap) (xs : List (Glyph × Bool)) → AllFit (λ (p : Glyph × Bool). glyph_width p.0) w xs → (parts : List (List (Glyph × Bool))) × LinesOfRest is_new w way xs parts
rest_exists true w way xs fit = (wrap_kept (glyph_rule w way) xs, inl (refl, wrap_kept_is (glyph_rule w way) xs fit))
rest_exists false w way xs fit = (lines_of (glyph_rule w way) (length xs) xs, inr (refl, lines_are (glyph_rule w way) (length xs) xs (omega arith) fit))

-- the parts that are left of a text line
parts_exist : {I : Type 0} (s : TextLine I) (glyphs : List Glyph) → (parts : List (List Glyph)) × PartsWith s glyphs parts
parts_exist s glyphs =
    let fits = λ (x : Glyph × Bool). glyph_width x.0 ≤ s.width in
    let left = marked_from s.line.hyphenation (not_wider glyph_width s.width glyphs) in
    let fit = All-append fits (drop s.place (splits_of s.line)) left (All-drop fits s.place (splits_of s.line) s.fit)
    (All-from_recursion fits left (fit-marked s.width s.line.hyphenation (not_wider glyph_width s.width glyphs) (all_fit-kept glyph_width s.width glyphs))) in
    let (split, has) = rest_exists s.is_new s.width s.wrap (glyphs_from s s.place glyphs) (recursion_from_All fits (glyphs_from s s.place glyphs) fit) in
    (unsplit split, (split, has, refl))

-- the lines of a wrapper, and of a truncator
pub wrapper_lines : {O I : Type 0} (s : WordWrapper O I) (x : List Glyph × List GlyphLine) → (lines : List GlyphLine) × WrapperLines s x lines
wrapper_lines s x =
    let wraps = λ (t : GlyphLine). wrap s.current.width s.current.wrap t.glyphs in
    let (parts, left) = parts_exist s.current x.0 in
    let rest = lines_of_each wraps x.1 in
    (map (glyph_line s.alignment) parts ++ rest, (parts, left, (rest, each_is (WrapsLine s.current.width s.current.wrap) wraps (wraps_to s.current.width s.current.wrap) x.1, refl)))

pub truncator_lines : {O I : Type 0} (s : LineTruncator O I) (ts : List GlyphLine) → (lines : List GlyphLine) × TruncatorLines s ts lines
truncator_lines s ts =
    let truncated = λ (t : GlyphLine). truncate glyph_width s.width (is_left t.alignment) s.offset t.glyphs ∷ [] in
    (lines_of_each truncated ts, each_is (TruncatesLine s.width s.offset) truncated (truncates_to s.width s.offset) ts)
