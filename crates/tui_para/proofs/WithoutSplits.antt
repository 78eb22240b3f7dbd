-- Without breaks after hyphens the lines are those of the graphemes alone.
use Rattle.std.proofs.Common.{◌≡◌, ℕ, zero, suc, ◌-◌, ◌<◌, List, [], ◌∷◌, length, map, take, drop, Bool, false, refl, sym, ap, ◌∙◌, subst}
use Rattle.std.specs.Prelude.{sum_by}
use Rattle.std.proofs.lemmas.List.{drop-map, take-map, length-map}
use Rattle.tui_text.specs.Grapheme.{Glyph, glyph_blank, glyph_width}
use Rattle.tui_para.specs.Division.{IsFewest, SpacedWithin}
use Rattle.tui_para.specs.Hyphens.{glyph_rule, with_splits, wrap}
use Rattle.tui_para.specs.Places.{dropped_len, line_len, lines_of, start_len, wrap_kept}
use Rattle.tui_para.specs.Rule.{Rule, ends_piece}
use Rattle.tui_para.specs.Wrapped.{after_break, not_wider, line_start}
use Rattle.tui_para.specs.declared.wrap.Wrap.{Wrap}
use Rattle.tui_para.proofs.Fewest.{fewest}
use Rattle.tui_para.proofs.Greedy.{all_fit-kept, wrap_kept_is}
use Rattle.tui_para.proofs.Mapped.{after_break-drop, dropped_len-map, goes_on_for-map, line_start-drop, seen_by, start_len-map, sum_by-map}

-- the lines of graphemes and of their images
module _ {A B : Type 0} (f : A → B) (rule : Rule B) where
  start_map : (xs : List A) → line_start rule.blank rule.trim (map f xs) ≡ map f (line_start (seen_by f rule).blank rule.trim xs)
  start_map xs =
      let n = start_len rule.blank rule.trim (map f xs) in
      line_start-drop rule rule.trim (map f xs) ∙ (drop-map f n xs
      ∙ ap (map f) (ap (λ k. drop k xs) (start_len-map f (ends_piece rule) rule.blank rule.size rule.trim xs) ∙ sym (line_start-drop (seen_by f rule) rule.trim xs)))

  break_map : (room : ℕ) (xs : List A) → after_break rule room (map f xs) ≡ map f (after_break (seen_by f rule) room xs)
  break_map room xs =
      let n = dropped_len rule.blank rule.size room (map f xs) in
      after_break-drop rule room (map f xs) ∙ (drop-map f n xs
      ∙ ap (map f) (ap (λ k. drop k xs) (dropped_len-map f (ends_piece rule) rule.blank rule.size room xs) ∙ sym (after_break-drop (seen_by f rule) room xs)))

  lines_map : (n : ℕ) (xs : List A) → lines_of rule n (map f xs) ≡ map (map f) (lines_of (seen_by f rule) n xs)
  lines_map zero xs = refl
  lines_map (suc n) [] = refl
  lines_map (suc n) (x ∷ xs) =
      let seen = seen_by f rule in
      let s = line_start rule.blank rule.trim (map f (x ∷ xs)) in
      let t = line_start seen.blank rule.trim (x ∷ xs) in
      let k = line_len (ends_piece seen) seen.blank seen.size rule.width t in
      let start : s ≡ map f t = start_map (x ∷ xs) in
      let len : line_len (ends_piece rule) rule.blank rule.size rule.width s ≡ k =
      ap (line_len (ends_piece rule) rule.blank rule.size rule.width) start ∙ goes_on_for-map f (ends_piece rule) rule.blank rule.size false 0 0 rule.width t in
      let front : take (line_len (ends_piece rule) rule.blank rule.size rule.width s) s ≡ map f (take k t) = ap (λ i. take i s) len ∙ (ap (take k) start ∙ take-map f k t) in
      let back : drop (line_len (ends_piece rule) rule.blank rule.size rule.width s) s ≡ map f (drop k t) = ap (λ i. drop i s) len ∙ (ap (drop k) start ∙ drop-map f k t) in
      let size : sum_by rule.size (take (line_len (ends_piece rule) rule.blank rule.size rule.width s) s) ≡ sum_by seen.size (take k t) =
      ap (sum_by rule.size) front ∙ sum_by-map f (ends_piece rule) rule.blank rule.size (take k t) in
      let rest : after_break rule (rule.width - sum_by rule.size (take (line_len (ends_piece rule) rule.blank rule.size rule.width s) s)) (drop (line_len (ends_piece rule) rule.blank rule.size rule.width s) s)
      ≡ map f (after_break seen (rule.width - sum_by seen.size (take k t)) (drop k t)) =
      ap (λ r. after_break rule (rule.width - r) (drop (line_len (ends_piece rule) rule.blank rule.size rule.width s) s)) size
      ∙ (ap (after_break rule (rule.width - sum_by seen.size (take k t))) back ∙ break_map (rule.width - sum_by seen.size (take k t)) (drop k t)) in
      ap (λ l. l ∷ lines_of rule n (after_break rule (rule.width - sum_by rule.size (take (line_len (ends_piece rule) rule.blank rule.size rule.width s) s)) (drop (line_len (ends_piece rule) rule.blank rule.size rule.width s) s))) front
      ∙ ap (λ l. map f (take k t) ∷ l) (ap (lines_of rule n) rest ∙ lines_map n (after_break seen (rule.width - sum_by seen.size (take k t)) (drop k t)))

  pub wrap_map : (xs : List A) → wrap_kept rule (map f xs) ≡ map (map f) (wrap_kept (seen_by f rule) xs)
  wrap_map [] = refl
  wrap_map (x ∷ xs) = ap (λ n. lines_of rule n (map f (x ∷ xs))) (length-map (x ∷ xs) f) ∙ lines_map (length (x ∷ xs)) (x ∷ xs)

-- a grapheme before which no word is split
abbrev pub plain : Glyph → Glyph × Bool
plain g = (g, false)

pub no_splits : (before gs : List Glyph) → with_splits false before gs ≡ map plain gs
no_splits before [] = refl
no_splits before (g ∷ gs) = ap (λ k. plain g ∷ k) (no_splits (g ∷ before) gs)

-- spaced words have the fewest lines
pub fewest_lines : (w : ℕ) (way : Wrap) (words : List (List Glyph)) (glyphs : List Glyph) → way.hyphens ≡ false → 0 < w → SpacedWithin glyph_blank glyph_width w words glyphs →
    IsFewest glyph_width words w (length (wrap w way glyphs))
fewest_lines w way words glyphs off some h =
    let xs = not_wider glyph_width w glyphs in
    let rule = seen_by plain (glyph_rule w way) in
    let lines = wrap_kept rule xs in
    let marked : with_splits way.hyphens [] xs ≡ map plain xs = ap (λ b. with_splits b [] xs) off ∙ no_splits [] xs in
    let wraps : wrap_kept (glyph_rule w way) (with_splits way.hyphens [] xs) ≡ map (map plain) lines = ap (wrap_kept (glyph_rule w way)) marked ∙ wrap_map plain (glyph_rule w way) xs in
    let many : length (wrap w way glyphs) ≡ length lines =
    length-map (wrap_kept (glyph_rule w way) (with_splits way.hyphens [] xs)) (map (λ (p : Glyph × Bool). p.0)) ∙ (ap length wraps ∙ length-map lines (map plain)) in
    subst (IsFewest glyph_width words w) (sym many) (fewest rule (λ g. refl) words glyphs lines some h (wrap_kept_is rule xs (all_fit-kept glyph_width w glyphs)))
