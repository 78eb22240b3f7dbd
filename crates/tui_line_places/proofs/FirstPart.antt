-- A text that ends in a newline keeps its lines when more text follows.
use Rattle.std.proofs.Common.{◌≡◌, ℕ, ◌<◌, ◌≤◌, Bool, List, [], ◌∷◌, ◌++◌, length, map, take, cond, refl, sym, ap, ◌∙◌, subst, arith, ⊎_elim}
use Rattle.std.specs.List.{flat_map, onto_first, slice_split}
use Rattle.std.specs.Str.{IsUtf8}
use Rattle.std.specs.Str.Lines.{lines, lines_of_parts, strip_carriage_return}
use Rattle.std.proofs.lemmas.Bool.{cases_Bool}
use Rattle.std.proofs.lemmas.Grind.{flat_map-append}
use Rattle.std.proofs.lemmas.List.{append_assoc, length-drop, map-append, take-append-le}
use Rattle.tui_cells.specs.declared.style.Style.{Style}
use Rattle.tui_para.specs.Hyphens.{at_blanks, wrap}
use Rattle.tui_para.specs.Lines.{GlyphLine, glyph_line}
use Rattle.tui_para.specs.WrappedText.{text_glyph_line}
use Rattle.tui_text.specs.Line.{raw_line}
use Rattle.tui_text.specs.Text.{text_lines}
use Rattle.tui_text.specs.declared.alignment.Alignment.{Alignment}
use Rattle.tui_line_places.specs.AfterLine.{IsFromLine, wrapped_lines}
use Rattle.tui_line_places.specs.Parts.{EndsInNewline, HaveSameLines}
use Rattle.tui_line_places.proofs.AfterLine.{has_line}
use Rattle.tui_line_places.proofs.NewLines.{is_newline_byte}
use Rattle.tui_line_places.proofs.WrappedLines.{all_lines}

abbrev pub parts : List ℕ → List (List ℕ)
parts bytes = slice_split is_newline_byte bytes

-- the parts up to a newline, and those after it
record Split (front more : List ℕ) : Type 0 where
  first : List ℕ
  others : List (List ℕ)
  alone : parts front ≡ first ∷ others
  whole : parts (front ++ 10 ∷ more) ≡ first ∷ (others ++ parts more)

split_at : (front more : List ℕ) → Split front more
split_at [] more = record { first = []; others = []; alone = refl; whole = refl }
split_at (b ∷ front) more =
    let s = split_at front more in
    ⊎_elim
    (λ t. record {
      first = [];
      others = s.first ∷ s.others;
      alone = ap (λ x. cond x ([] ∷ parts front) (onto_first b (parts front))) t ∙ ap (λ x. [] ∷ x) s.alone;
      whole = ap (λ x. cond x ([] ∷ parts (front ++ 10 ∷ more)) (onto_first b (parts (front ++ 10 ∷ more)))) t ∙ ap (λ x. [] ∷ x) s.whole;
    })
    (λ t. record {
      first = b ∷ s.first;
      others = s.others;
      alone = ap (λ x. cond x ([] ∷ parts front) (onto_first b (parts front))) t ∙ ap (onto_first b) s.alone;
      whole = ap (λ x. cond x ([] ∷ parts (front ++ 10 ∷ more)) (onto_first b (parts (front ++ 10 ∷ more)))) t ∙ ap (onto_first b) s.whole;
    })
    (cases_Bool (is_newline_byte b))

-- the lines of some parts, followed by those of others
pub lines_before : (p : List ℕ) (ps : List (List ℕ)) (q : List ℕ) (qs : List (List ℕ)) →
    lines_of_parts (p ∷ (ps ++ q ∷ qs)) ≡ map strip_carriage_return (p ∷ ps) ++ lines_of_parts (q ∷ qs)
lines_before p [] q qs = refl
lines_before p (r ∷ ps) q qs = ap (λ x. strip_carriage_return p ∷ x) (lines_before r ps q qs)

pub some_parts : (bytes : List ℕ) → (q : List ℕ) × (qs : List (List ℕ)) × (parts bytes ≡ q ∷ qs)
some_parts bytes = let s = split_at bytes [] in (s.first, s.others, s.alone)

lines_are : (front more : List ℕ) → lines (front ++ 10 ∷ more) ≡ lines (front ++ 10 ∷ []) ++ lines more
lines_are front more =
    let s = split_at front more in
    let alone = split_at front [] in
    let (q, qs, e) = some_parts more in
    let same : alone.first ∷ alone.others ≡ s.first ∷ s.others = sym alone.alone ∙ s.alone in
    let after : lines (front ++ 10 ∷ more) ≡ map strip_carriage_return (s.first ∷ s.others) ++ lines more =
    ap lines_of_parts (s.whole ∙ ap (λ x. s.first ∷ (s.others ++ x)) e) ∙ (lines_before s.first s.others q qs
    ∙ ap (λ x. map strip_carriage_return (s.first ∷ s.others) ++ lines_of_parts x) (sym e)) in
    let ends : lines (front ++ 10 ∷ []) ≡ map strip_carriage_return (alone.first ∷ alone.others) ++ [] =
    ap lines_of_parts alone.whole ∙ lines_before alone.first alone.others [] [] in
    let all : lines (front ++ 10 ∷ []) ++ lines more ≡ map strip_carriage_return (s.first ∷ s.others) ++ lines more =
    ap (λ x. x ++ lines more) ends ∙ (append_assoc (map strip_carriage_return (alone.first ∷ alone.others)) [] (lines more)
    ∙ ap (λ x. map strip_carriage_return x ++ lines more) same) in
    after ∙ sym all

pub some_lines : (front more : List ℕ) → text_lines (front ++ 10 ∷ more) ≡ lines (front ++ 10 ∷ more)
some_lines [] more = refl
some_lines (b ∷ front) more = refl

module _ (style : Style) (w : ℕ) (trim : Bool) (alignment : Alignment) where
  all-append : (xs ys : List (List ℕ)) → all_lines style w trim alignment (xs ++ ys) ≡ all_lines style w trim alignment xs ++ all_lines style w trim alignment ys
  all-append xs ys =
      let cut = λ (t : GlyphLine). map (glyph_line t.alignment) (wrap w (at_blanks trim) t.glyphs) in
      let tgl = text_glyph_line style alignment in
      ap (λ t. flat_map cut t) (ap (map tgl) (map-append raw_line xs ys) ∙ map-append tgl (map raw_line xs) (map raw_line ys))
      ∙ flat_map-append cut (map tgl (map raw_line xs)) (map tgl (map raw_line ys))

  pub newline_lines : (front more : List ℕ) → wrapped_lines style alignment w trim (front ++ 10 ∷ more) ≡
      wrapped_lines style alignment w trim (front ++ 10 ∷ []) ++ all_lines style w trim alignment (lines more)
  newline_lines front more =
      ap (all_lines style w trim alignment) (some_lines front more ∙ lines_are front more)
      ∙ (all-append (lines (front ++ 10 ∷ [])) (lines more)
      ∙ ap (λ x. all_lines style w trim alignment x ++ all_lines style w trim alignment (lines more)) (sym (some_lines front [])))

pub same_lines : (w : ℕ) (trim : Bool) (n : ℕ) (text part more : List ℕ) → text ≡ part ++ more → EndsInNewline part →
    ((style : Style) (alignment : Alignment) → n ≤ length (wrapped_lines style alignment w trim part)) → HaveSameLines w trim n text part
same_lines w trim n text part more whole (front, ends) many = λ style alignment.
    let is : text ≡ front ++ 10 ∷ more = whole ∙ (ap (λ t. t ++ more) ends ∙ append_assoc front (10 ∷ []) more) in
    let lines_of = λ (t : List ℕ). wrapped_lines style alignment w trim t in
    let n_fits : n ≤ length (lines_of (front ++ 10 ∷ [])) = subst (λ t. n ≤ length (lines_of t)) ends (many style alignment) in
    ap (λ t. take n (lines_of t)) ends
    ∙ (sym (take-append-le n (lines_of (front ++ 10 ∷ [])) (all_lines style w trim alignment (lines more)) n_fits)
    ∙ (sym (ap (take n) (newline_lines style w trim alignment front more)) ∙ sym (ap (λ t. take n (lines_of t)) is)))

-- a text that has a rest from line n on has more than n lines
pub has_more : (w : ℕ) (trim : Bool) (text rest : List ℕ) (n : ℕ) → IsUtf8 rest → IsFromLine w trim n text rest →
    (style : Style) (alignment : Alignment) → n < length (wrapped_lines style alignment w trim text)
has_more w trim text rest n u from = λ style alignment.
    let a = ap length (from.lines style alignment) ∙ length-drop n (wrapped_lines style alignment w trim text) in
    let b = has_line style alignment w trim rest u in
    omega arith
