-- Graphemes side by side with their marks.
use Rattle.std.proofs.Common.{◌≡◌, ℕ, zero, suc, List, [], ◌∷◌, ◌++◌, length, map, drop, Bool, refl, sym, ap, ◌∙◌, arith}
use Rattle.std.specs.List.{zip}
use Rattle.std.proofs.lemmas.List.{length-map}
use Rattle.std.proofs.lemmas.Slice.Zip.{firsts-zip}
use Rattle.tui_text.specs.Grapheme.{Glyph, glyph_of}
use Rattle.tui_text.specs.declared.grapheme.StyledGrapheme.{StyledGrapheme}
use Rattle.tui_para.specs.Mark.{is_split}
use Rattle.tui_para.specs.declared.wrapping.mark.Mark.{Mark}

abbrev pub zipped : List StyledGrapheme → List Mark → List (Glyph × Bool)
zipped gs ms = zip (map glyph_of gs) (map is_split ms)

pub glyphs_zipped : (gs : List StyledGrapheme) (ms : List Mark) → length gs ≡ length ms → map (λ (p : Glyph × Bool). p.0) (zipped gs ms) ≡ map glyph_of gs
glyphs_zipped gs ms e = firsts-zip (map glyph_of gs) (map is_split ms) (length-map ms is_split ∙ (sym e ∙ sym (length-map gs glyph_of)))

pub zipped_push : (gs : List StyledGrapheme) (ms : List Mark) (g : StyledGrapheme) (m : Mark) → length gs ≡ length ms → zipped (gs ++ g ∷ []) (ms ++ m ∷ []) ≡ zipped gs ms ++ (glyph_of g, m.split) ∷ []
zipped_push [] [] g m e = refl
zipped_push [] (k ∷ ms) g m e = absurd (omega arith)
zipped_push (x ∷ gs) [] g m e = absurd (omega arith)
zipped_push (x ∷ gs) (k ∷ ms) g m e = ap (λ t. (glyph_of x, k.split) ∷ t) (zipped_push gs ms g m (omega arith))

pub zipped_drop : (n : ℕ) (gs : List StyledGrapheme) (ms : List Mark) → length gs ≡ length ms → zipped (drop n gs) (drop n ms) ≡ drop n (zipped gs ms)
zipped_drop zero gs ms e = refl
zipped_drop (suc n) [] [] e = refl
zipped_drop (suc n) [] (k ∷ ms) e = absurd (omega arith)
zipped_drop (suc n) (x ∷ gs) [] e = absurd (omega arith)
zipped_drop (suc n) (x ∷ gs) (k ∷ ms) e = zipped_drop n gs ms (omega arith)

pub length_zipped : (gs : List StyledGrapheme) (ms : List Mark) → length gs ≡ length ms → length (zipped gs ms) ≡ length gs
length_zipped gs ms e = sym (length-map (zipped gs ms) (λ (p : Glyph × Bool). p.0)) ∙ (ap length (glyphs_zipped gs ms e) ∙ length-map gs glyph_of)
