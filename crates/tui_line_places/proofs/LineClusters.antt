-- A text's first line in clusters.
use Rattle.std.proofs.Common.{◌≡◌, ℕ, true, false, cond, List, [], ◌∷◌, ◌++◌, drop, refl, sym, ap, ap₂, ◌∙◌, subst, arith, length, ◌+◌, get_or, get_or-append-add, length-append, drop-drop}
use Rattle.std.specs.List.{concat, list_any, AllByRecursion}
use Rattle.std.specs.Str.{IsUtf8}
use Rattle.std.specs.Str.Lines.{lines}
use Rattle.std.proofs.lemmas.Bool.Decides.{nat_tests}
use Rattle.std.proofs.lemmas.List.{append_assoc}
use Rattle.std.proofs.lemmas.Str.{IsUtf8-drop, IsUtf8-take, IsCharBoundary-after_ascii, IsCharBoundary-before_ascii}
use Rattle.std.proofs.Math.Seq.{drop-append_seam, take-append_seam}
use Rattle.unicode_segmentation.specs.Grapheme.{graphemes}
use Rattle.tui_text.specs.Text.{text_lines}
use Rattle.tui_line_places.specs.Places.{is_newline, line_clusters, after_newline}
use Rattle.tui_clusters.proofs.Boundaries.{concat-graphemes}
use Rattle.tui_clusters.proofs.LineEnds.{graphemes-feed, graphemes-return}
use Rattle.tui_line_places.proofs.NewLines.{Newline, OneLine, none, feed, both, first_line, is_newline_byte, one_parts}

abbrev pub NoNewline : List (List ℕ) → Type 0
NoNewline clusters = AllByRecursion (λ c. is_newline c ≡ false) clusters

one_cluster : (c : List ℕ) → OneLine c → is_newline c ≡ false
one_cluster [] h = refl
one_cluster (x ∷ []) h = grind (arith, nat_tests)
one_cluster (x ∷ y ∷ []) h = grind (arith, nat_tests)
one_cluster (x ∷ y ∷ z ∷ c) h = grind (arith, nat_tests)

no_newline : (clusters : List (List ℕ)) → OneLine (concat clusters) → NoNewline clusters
no_newline [] h = tt
no_newline (c ∷ cs) h = let p = one_parts c (concat cs) h in (one_cluster c p.0, no_newline cs p.1)

pub all_of_it : (ps : List (List ℕ)) → NoNewline ps → (line_clusters ps ≡ ps) × (after_newline ps ≡ [])
all_of_it [] h = (refl, refl)
all_of_it (p ∷ ps) h =
    let rest = all_of_it ps h.1 in
    (ap (λ b. cond b [] (p ∷ line_clusters ps)) h.0 ∙ ap (λ t. p ∷ t) rest.0, ap (λ b. cond b ps (after_newline ps)) h.0 ∙ rest.1)

up_to_newline : (ps : List (List ℕ)) (n : List ℕ) (qs : List (List ℕ)) → NoNewline ps → is_newline n ≡ true
    → (line_clusters (ps ++ n ∷ qs) ≡ ps) × (after_newline (ps ++ n ∷ qs) ≡ qs)
up_to_newline [] n qs h e = (ap (λ b. cond b [] (n ∷ line_clusters qs)) e, ap (λ b. cond b qs (after_newline qs)) e)
up_to_newline (p ∷ ps) n qs h e =
    let rest = up_to_newline ps n qs h.1 e in (
      ap (λ b. cond b [] (p ∷ line_clusters (ps ++ n ∷ qs))) h.0 ∙ ap (λ t. p ∷ t) rest.0,
      ap (λ b. cond b (ps ++ n ∷ qs) (after_newline (ps ++ n ∷ qs))) h.0 ∙ rest.1,
    )

-- the lines of a text: first that of the clusters before the first newline, then those of the text after it
pub record ByClusters (text : List ℕ) : Type 0 where
  pub lines_are : text_lines text ≡ concat (line_clusters (graphemes true text)) ∷ lines (concat (after_newline (graphemes true text)))
  pub line_is : graphemes true (concat (line_clusters (graphemes true text))) ≡ line_clusters (graphemes true text)

by_line : (text line after : List ℕ) (front back : List (List ℕ)) → IsUtf8 line → line_clusters (graphemes true text) ≡ front → after_newline (graphemes true text) ≡ back
    → front ≡ graphemes true line → concat back ≡ after → text_lines text ≡ line ∷ lines after → ByClusters text
by_line text line after front back u e f g k lines_are =
    let same : line ≡ concat (line_clusters (graphemes true text)) = sym (concat-graphemes line u) ∙ ap concat (sym (e ∙ g)) in
    record {
      lines_are = lines_are ∙ ap₂ (λ x y. x ∷ lines y) same (sym (ap concat f ∙ k));
      line_is = ap (graphemes true) (sym same) ∙ sym (e ∙ g);
    }

pub no_newline_in : (line : List ℕ) → IsUtf8 line → OneLine line → NoNewline (graphemes true line)
no_newline_in line u one = no_newline (graphemes true line) (ap (list_any is_newline_byte) (concat-graphemes line u) ∙ one)

-- the texts before and after a newline are UTF-8
pub at_newline : (line after : List ℕ) → IsUtf8 (line ++ 10 ∷ after) → IsUtf8 line × IsUtf8 after
at_newline line after u =
    let text = line ++ 10 ∷ after in
    let i = length line in
    let size = length-append line (10 ∷ after) in
    let here : get_or text i 0 ≡ 10 = ap (λ n. get_or text n 0) (omega arith) ∙ get_or-append-add line (10 ∷ after) 0 0 in
    let next : drop (i + 1) text ≡ after = sym (drop-drop 1 i text) ∙ ap (drop 1) (drop-append_seam line (10 ∷ after)) in (
      subst IsUtf8 (take-append_seam line (10 ∷ after)) (IsUtf8-take text i u (IsCharBoundary-before_ascii text i (omega arith) (omega arith))),
      subst IsUtf8 next (IsUtf8-drop text (i + 1) u (IsCharBoundary-after_ascii text i u (omega arith) (omega arith))),
    )

before_return : (line : List ℕ) → IsUtf8 (line ++ 13 ∷ []) → IsUtf8 line
before_return line u =
    let text = line ++ 13 ∷ [] in
    let i = length line in
    let size = length-append line (13 ∷ []) in
    let here : get_or text i 0 ≡ 13 = ap (λ n. get_or text n 0) (omega arith) ∙ get_or-append-add line (13 ∷ []) 0 0 in
    subst IsUtf8 (take-append_seam line (13 ∷ [])) (IsUtf8-take text i u (IsCharBoundary-before_ascii text i (omega arith) (omega arith)))

by_newline : (text line after n : List ℕ) → IsUtf8 line → IsUtf8 after → OneLine line → is_newline n ≡ true
    → graphemes true text ≡ graphemes true line ++ n ∷ graphemes true after → text_lines text ≡ line ∷ lines after → ByClusters text
by_newline text line after n u v one newline e lines_are =
    let p = up_to_newline (graphemes true line) n (graphemes true after) (no_newline_in line u one) newline in
    by_line text line after _ _ u (ap line_clusters e ∙ p.0) (ap after_newline e ∙ p.1) refl (concat-graphemes after v) lines_are

pub by_clusters : (text : List ℕ) → IsUtf8 text → ByClusters text
by_clusters text u =
    let f = first_line text in
    cases f.line f.after f.newline f.lines_are
  where
    cases : (line after : List ℕ) → Newline text line after → text_lines text ≡ line ∷ lines after → ByClusters text
    cases line after (none e b one) lines_are =
        let v = subst IsUtf8 e u in
        let p = all_of_it (graphemes true line) (no_newline_in line v one) in
        by_line text line after _ _ v (ap (λ t. line_clusters (graphemes true t)) e ∙ p.0) (ap (λ t. after_newline (graphemes true t)) e ∙ p.1) refl (sym b) lines_are
    cases line after (feed e other one) lines_are =
        let both_utf8 = at_newline line after (subst IsUtf8 e u) in
        by_newline text line after (10 ∷ []) both_utf8.0 both_utf8.1 one refl (ap (graphemes true) e ∙ graphemes-feed line after both_utf8.0 other) lines_are
    cases line after (both e one) lines_are =
        let whole : text ≡ (line ++ 13 ∷ []) ++ 10 ∷ after = e ∙ sym (append_assoc line (13 ∷ []) (10 ∷ after)) in
        let halves = at_newline (line ++ 13 ∷ []) after (subst IsUtf8 whole u) in
        let v = before_return line halves.0 in
        by_newline text line after (13 ∷ 10 ∷ []) v halves.1 one refl (ap (graphemes true) e ∙ graphemes-return line after v) lines_are
