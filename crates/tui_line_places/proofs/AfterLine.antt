-- The text after the first line has the other lines.
use Rattle.std.proofs.Common.{◌≡◌, ℕ, ◌+◌, ◌<◌, Bor, Bool, List, [], ◌∷◌, ◌++◌, map, drop, length, subst, length-append, Option, None, Some, refl, sym, ap, ◌∙◌, ⊎_elim, arith}
use Rattle.std.specs.Prelude.{◌↔◌, IfSome, MatchOption}
use Rattle.std.specs.Str.{IsUtf8}
use Rattle.std.specs.Str.Lines.{lines}
use Rattle.tui_cells.specs.Style.{no_style}
use Rattle.tui_cells.specs.declared.style.Style.{Style}
use Rattle.tui_text.specs.declared.alignment.Alignment.{Alignment}
use Rattle.tui_text.specs.declared.alignment.Alignment.TheVariants.{Left}
use Rattle.tui_para.specs.Lines.{GlyphLine, glyph_line}
use Rattle.tui_para.specs.Places.{wrap_kept}
use Rattle.tui_para.specs.Rule.{Rule}
use Rattle.tui_para.specs.Wrapped.{WrapsKept}
use Rattle.tui_para.proofs.Greedy.{AllFit, wrap_kept_is}
use Rattle.std.proofs.lemmas.List.{append_assoc, length-drop, length-map}
use Rattle.tui_text.specs.Text.{text_lines}
use Rattle.tui_text.specs.Graphemes.{glyph_in}
use Rattle.tui_line_places.specs.AfterLine.{HasLineCount, IsFromLine, wrapped_lines}
use Rattle.tui_line_places.specs.Next.{IsEndOfLine}
use Rattle.tui_line_places.specs.Places.{GoesOnInLine, text_after_line, shown_in}
use Rattle.tui_line_places.specs.Rests.{FirstThen, cluster_rule, lines_after}
use Rattle.tui_line_places.proofs.InLine.{fit}
use Rattle.tui_line_places.proofs.WrappedLines.{all_lines, by_first, shown_style, styled}

wrap_some : {A : Type 0} (rule : Rule A) (xs : List A) → AllFit rule.size rule.width xs → 0 < length (wrap_kept rule xs)
wrap_some {A = A} rule xs fit = by_case (wrap_kept rule xs) (wrap_kept_is rule xs fit)
  where
    by_case : (lines : List (List A)) → WrapsKept rule xs lines → 0 < length lines
    by_case [] h = ⊎_elim (λ e. absurd (let l = ap length e.1 in omega arith)) (λ h. absurd (h.0 h.1)) h
    by_case (line ∷ lines) h = omega arith

module _ (w : ℕ) (trim : Bool) (text : List ℕ) (u : IsUtf8 text) (rest : List ℕ) (h : FirstThen (cluster_rule w trim) (shown_in w text) (shown_in w rest)) where
  module _ (style : Style) (alignment : Alignment) where
    abbrev others : List GlyphLine
    others = all_lines style w trim alignment (lines (text_after_line text))

    first_is : wrapped_lines style alignment w trim text
        ≡ glyph_line alignment (map (glyph_in (shown_style style w trim)) h.first) ∷ (map (glyph_line alignment) (styled style w trim (lines_after (cluster_rule w trim) (shown_in w rest))) ++ others)
    first_is = by_first style w trim alignment text u ∙ ap (λ t. map (glyph_line alignment) (styled style w trim t) ++ others) h.lines_are

  others_after : (clusters : List (List ℕ)) (c : List ℕ) (cs : List (List ℕ)) → clusters ≡ c ∷ cs → lines_after (cluster_rule w trim) clusters ≡ wrap_kept (cluster_rule w trim) clusters
  others_after clusters c cs e = ap (lines_after (cluster_rule w trim)) e ∙ sym (ap (wrap_kept (cluster_rule w trim)) e)

  pub within : GoesOnInLine text rest → (c : List ℕ) (cs : List (List ℕ)) → shown_in w rest ≡ c ∷ cs → IsFromLine w trim 1 text rest
  within g c cs e = record {
    front = g.front;
    whole = g.whole;
    lines = λ style alignment.
        let shown_lines = λ (t : List (List (List ℕ))). map (glyph_line alignment) (styled style w trim t) in
        by_first style w trim alignment rest g.utf8
        ∙ ap (λ b. shown_lines (wrap_kept (cluster_rule w trim) (shown_in w rest)) ++ all_lines style w trim alignment (lines b)) g.same
        ∙ ap (λ t. shown_lines t ++ others style alignment) (sym (others_after (shown_in w rest) c cs e))
        ∙ sym (ap (drop 1) (first_is style alignment));
  }

  module _ (g : GoesOnInLine text rest) (o : List ℕ) (over : IsEndOfLine w rest o) where
    last_is : (style : Style) (alignment : Alignment) → wrapped_lines style alignment w trim text
        ≡ glyph_line alignment (map (glyph_in (shown_style style w trim)) h.first) ∷ all_lines style w trim alignment (lines o)
    last_is style alignment =
        let first = glyph_line alignment (map (glyph_in (shown_style style w trim)) h.first) in
        first_is style alignment
        ∙ ap (λ t. first ∷ (map (glyph_line alignment) (styled style w trim (lines_after (cluster_rule w trim) t)) ++ others style alignment)) over.shown
        ∙ ap (λ b. first ∷ all_lines style w trim alignment (lines b)) (sym g.same ∙ over.after)

    pub one_line : o ≡ [] → HasLineCount w trim text 1
    one_line none = λ style alignment. ap length (last_is style alignment ∙ ap (λ b. glyph_line alignment (map (glyph_in (shown_style style w trim)) h.first) ∷ all_lines style w trim alignment (lines b)) none)

    pub after : 0 < length o → IsFromLine w trim 1 text o
    after some = record {
      front = g.front ++ over.front;
      whole = g.whole ∙ ap (λ t. g.front ++ t) over.whole ∙ sym (append_assoc g.front over.front o);
      lines = λ style alignment. ap (all_lines style w trim alignment) (some_lines o some) ∙ sym (ap (drop 1) (last_is style alignment));
    }
      where
        some_lines : (b : List ℕ) → 0 < length b → text_lines b ≡ lines b
        some_lines [] h = absurd (omega arith)
        some_lines (x ∷ b) h = refl

-- every text has at least one line
pub has_line : (style : Style) (alignment : Alignment) (w : ℕ) (trim : Bool) (text : List ℕ) → IsUtf8 text → 0 < length (wrapped_lines style alignment w trim text)
has_line style alignment w trim text u =
    let R = cluster_rule w trim in
    let some = wrap_some R (shown_in w text) (fit w text) in
    let first = by_first style w trim alignment text u in
    let size = length-append (map (glyph_line alignment) (styled style w trim (wrap_kept R (shown_in w text)))) (all_lines style w trim alignment (lines (text_after_line text))) in
    let a = length-map (styled style w trim (wrap_kept R (shown_in w text))) (glyph_line alignment) in
    let b = length-map (wrap_kept R (shown_in w text)) (map (glyph_in (shown_style style w trim))) in
    let c = ap length first in
    omega arith

-- a text with a rest after its first line has one line more than this rest, and is longer
module _ (w : ℕ) (trim : Bool) (text : List ℕ) (u : IsUtf8 text) (rest : List ℕ) (v : IsUtf8 rest) (after : IsFromLine w trim 1 text rest) where
  two_lines : length (wrapped_lines no_style Left w trim text) ≡ length (wrapped_lines no_style Left w trim rest) + 1
  two_lines =
      let a = has_line no_style Left w trim text u in
      let b = ap length (after.lines no_style Left) ∙ length-drop 1 (wrapped_lines no_style Left w trim text) in
      omega arith

  pub not_one : HasLineCount w trim text 1 → ⊥
  not_one one = let a = has_line no_style Left w trim rest v in let b = one no_style Left in let c = two_lines in omega arith

  pub shorter : length rest < length text
  shorter = by_front after.front after.whole
    where
      by_front : (front : List ℕ) → text ≡ front ++ rest → length rest < length text
      by_front [] e = absurd (let same : length (wrapped_lines no_style Left w trim text) ≡ length (wrapped_lines no_style Left w trim rest) = ap (λ t. length (wrapped_lines no_style Left w trim t)) e in let c = two_lines in omega arith)
      by_front (x ∷ front) e = let size = ap length e ∙ length-append (x ∷ front) rest in omega arith

-- what the clauses state about a result
abbrev pub Answers : ℕ → Bool → List ℕ → Option (Bor (List ℕ)) → Type 0
Answers w trim text found = MatchOption found (HasLineCount w trim text 1) (λ rest. IsUtf8 rest.now × IsFromLine w trim 1 text rest.now)

module _ (w : ℕ) (trim : Bool) (text : List ℕ) (u : IsUtf8 text) where
  pub clause_one : (found : Option (Bor (List ℕ))) → Answers w trim text found → (found ≡ None) ↔ HasLineCount w trim text 1
  clause_one None h = (λ _. h, λ _. refl)
  clause_one (Some rest) h = (λ e. cc, λ one. absurd (not_one w trim text u rest.now h.0 h.1 one))

  pub clause_rest : (found : Option (Bor (List ℕ))) → Answers w trim text found → IfSome found (λ rest. IsFromLine w trim 1 text rest.now)
  clause_rest None h = tt
  clause_rest (Some rest) h = h.1

  pub clause_shorter : (found : Option (Bor (List ℕ))) → Answers w trim text found → IfSome found (λ rest. length rest.now < length text)
  clause_shorter None h = tt
  clause_shorter (Some rest) h = shorter w trim text u rest.now h.0 h.1

  -- the result where the text line has ended, with or without text after it
  pub clause_at_line_end : (rest : List ℕ) → FirstThen (cluster_rule w trim) (shown_in w text) (shown_in w rest) → GoesOnInLine text rest → (o : List ℕ) → IsEndOfLine w rest o → (found : Option (Bor (List ℕ)))
      → MatchOption found (o ≡ []) (λ some. (some.now ≡ o) × (0 < length o)) → Answers w trim text found
  clause_at_line_end rest h g o over None none = one_line w trim text u rest h g o over none
  clause_at_line_end rest h g o over (Some some) (same, more) = (subst IsUtf8 (sym same) over.utf8, subst (IsFromLine w trim 1 text) (sym same) (after w trim text u rest h g o over more))
