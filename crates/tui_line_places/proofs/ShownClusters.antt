-- What is shown of a text's first line, cluster by cluster.
use Rattle.std.proofs.Common.{◌≡◌, ℕ, Bool, true, false, cond, not, ◌&&◌, List, [], ◌∷◌, ◌++◌, filter, length, ◌<◌, refl, sym, ap, ◌∙◌, arith}
use Rattle.std.specs.List.{concat}
use Rattle.std.specs.Prelude.{nat_le}
use Rattle.std.specs.Str.{IsUtf8}
use Rattle.std.proofs.lemmas.Bool.{and_parts}
use Rattle.std.proofs.lemmas.List.{append_assoc}
use Rattle.tui_clusters.specs.Blank.{is_blank_text}
use Rattle.tui_clusters.specs.Shown.{has_control, is_shown}
use Rattle.tui_clusters.specs.Width.{width_of}
use Rattle.unicode_segmentation.specs.Grapheme.{graphemes}
use Rattle.tui_line_places.specs.Next.{IsHiddenUpTo, IsEndOfLine, IsNextShown}
use Rattle.tui_line_places.specs.Places.{GoesOnInLine, text_after_line, after_newline, is_newline, line_clusters, shown_in}
use Rattle.tui_clusters.proofs.Boundaries.{concat-graphemes}

abbrev fits : ℕ → List ℕ → Bool
fits w c = nat_le (width_of c) w

-- the clusters of a line that are shown
abbrev shown : ℕ → List (List ℕ) → List (List ℕ)
shown w clusters = filter (fits w) (filter is_shown (line_clusters clusters))

module _ (w : ℕ) (text rest c : List ℕ) (clusters : graphemes true text ≡ c ∷ graphemes true rest) where
  line_goes : is_newline c ≡ false → line_clusters (graphemes true text) ≡ c ∷ line_clusters (graphemes true rest)
  line_goes other = ap line_clusters clusters ∙ ap (λ b. cond b [] (c ∷ line_clusters (graphemes true rest))) other

  pub after_line_goes : is_newline c ≡ false → text_after_line rest ≡ text_after_line text
  after_line_goes other = sym (ap (λ t. concat (after_newline t)) clusters ∙ ap (λ b. concat (cond b (graphemes true rest) (after_newline (graphemes true rest)))) other)

  pub shown_next : is_newline c ≡ false → has_control c ≡ false → nat_le (width_of c) w ≡ true → shown_in w text ≡ c ∷ shown_in w rest
  shown_next other no_control fit =
      let left = filter is_shown (line_clusters (graphemes true rest)) in
      ap (λ t. filter (fits w) (filter is_shown t)) (line_goes other)
      ∙ ap (λ b. filter (fits w) (cond (not b) (c ∷ left) left)) no_control
      ∙ ap (λ b. cond b (c ∷ filter (fits w) left) (filter (fits w) left)) fit

  left_out : (control : Bool) (left : List (List ℕ)) → (fits w c && not control) ≡ false → filter (fits w) (cond (not control) (c ∷ left) left) ≡ filter (fits w) left
  left_out true left h = refl
  left_out false left h = ap (λ b. cond b (c ∷ filter (fits w) left) (filter (fits w) left)) (no_fit (fits w c) h)
    where
      no_fit : (b : Bool) → (b && not false) ≡ false → b ≡ false
      no_fit true h = h
      no_fit false h = refl

  pub hidden : is_newline c ≡ false → (nat_le (width_of c) w && not (has_control c)) ≡ false → shown_in w text ≡ shown_in w rest
  hidden other h =
      ap (λ t. filter (fits w) (filter is_shown t)) (line_goes other) ∙ left_out (has_control c) (filter is_shown (line_clusters (graphemes true rest))) h

  pub line_over : IsUtf8 rest → is_newline c ≡ true → (shown_in w text ≡ []) × (text_after_line text ≡ rest)
  line_over u newline = (
    ap (shown w) clusters ∙ ap (λ b. filter (fits w) (filter is_shown (cond b [] (c ∷ line_clusters (graphemes true rest))))) newline,
    ap (λ t. concat (after_newline t)) clusters ∙ ap (λ b. concat (cond b (graphemes true rest) (after_newline (graphemes true rest)))) newline ∙ concat-graphemes rest u,
  )

pub nothing_shown : (w : ℕ) (text : List ℕ) → graphemes true text ≡ [] → (shown_in w text ≡ []) × (text_after_line text ≡ [])
nothing_shown w text e = (ap (shown w) e, ap (λ t. concat (after_newline t)) e)

module _ (w : ℕ) (text here rest cluster : List ℕ) (u : IsUtf8 rest) (h : IsHiddenUpTo w text here) (clusters : graphemes true here ≡ cluster ∷ graphemes true rest)
    (whole : here ≡ cluster ++ rest) (shorter : length rest < length here) where
  to_rest : text ≡ (h.goes_on.front ++ cluster) ++ rest
  to_rest = h.goes_on.whole ∙ ap (λ t. h.goes_on.front ++ t) whole ∙ sym (append_assoc h.goes_on.front cluster rest)

  pub over : is_newline cluster ≡ true → IsEndOfLine w text rest
  over newline =
      let o = line_over w here rest cluster clusters u newline in
      record { front = h.goes_on.front ++ cluster; whole = to_rest; utf8 = u; shown = h.shown ∙ o.0; after = sym h.goes_on.same ∙ o.1 }

  goes : is_newline cluster ≡ false → GoesOnInLine text rest
  goes other = record { front = h.goes_on.front ++ cluster; whole = to_rest; utf8 = u; same = after_line_goes w here rest cluster clusters other ∙ h.goes_on.same }

  pub next_shown : (width : ℕ) (blank : Bool) → is_newline cluster ≡ false → width ≡ width_of cluster → blank ≡ is_blank_text cluster → (nat_le width w && not (has_control cluster)) ≡ true
      → IsNextShown w text width blank rest
  next_shown width blank other e f fit =
      let test = and_parts (nat_le width w) (not (has_control cluster)) fit in
      record {
        cluster = cluster;
        shown = h.shown ∙ shown_next w here rest cluster clusters other (not_true (has_control cluster) test.1) (ap (λ n. nat_le n w) (sym e) ∙ test.0);
        width = e;
        blank = f;
        goes_on = goes other;
        shorter = omega (arith, h.no_longer, shorter);
      }
    where
      not_true : (b : Bool) → not b ≡ true → b ≡ false
      not_true true h = sym h
      not_true false h = refl

  pub still_hidden : (width : ℕ) → is_newline cluster ≡ false → width ≡ width_of cluster → (nat_le width w && not (has_control cluster)) ≡ false → IsHiddenUpTo w text rest
  still_hidden width other e fit =
      record {
        goes_on = goes other;
        shown = h.shown ∙ hidden w here rest cluster clusters other (ap (λ n. nat_le n w && not (has_control cluster)) (sym e) ∙ fit);
        no_longer = omega (arith, h.no_longer, shorter);
      }

pub line_ends : (w : ℕ) (text here : List ℕ) → IsHiddenUpTo w text here → graphemes true here ≡ [] → here ≡ [] → IsEndOfLine w text here
line_ends w text here h none e =
    let o = nothing_shown w here none in
    record { front = h.goes_on.front; whole = h.goes_on.whole; utf8 = h.goes_on.utf8; shown = h.shown ∙ o.0; after = sym h.goes_on.same ∙ o.1 ∙ sym e }

pub goes_on-refl : (text : List ℕ) → IsUtf8 text → GoesOnInLine text text
goes_on-refl text u = record { front = []; whole = refl; utf8 = u; same = refl }

pub goes_on-then : (text rest last : List ℕ) → GoesOnInLine text rest → GoesOnInLine rest last → GoesOnInLine text last
goes_on-then text rest last g h =
    record { front = g.front ++ h.front; whole = g.whole ∙ ap (λ t. g.front ++ t) h.whole ∙ sym (append_assoc g.front h.front last); utf8 = h.utf8; same = h.same ∙ g.same }
