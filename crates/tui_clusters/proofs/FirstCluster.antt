-- A text's first cluster, and the text after it.
use Rattle.std.proofs.Common.{◌≡◌, ℕ, ◌<◌, Bool, true, false, List, [], ◌∷◌, ◌++◌, length, map, drop, length-append, sym, ap, ◌∙◌, subst, arith}
use Rattle.std.specs.List.{concat, AllByRecursion}
use Rattle.std.specs.Prelude.{if◌then◌else◌, encode_utf8_all}
use Rattle.std.specs.Str.{IsUtf8, chars}
use Rattle.std.proofs.lemmas.Str.{length-le-encodes}
use Rattle.unicode_segmentation.specs.Grapheme.{graphemes, is_grapheme_break}
use Rattle.unicode_segmentation.specs.Segments.{cut, prepend, segments}
use Rattle.tui_clusters.proofs.Boundaries.{concat-graphemes, graphemes-rest}

abbrev Some_in : List (List ℕ) → Type 0
Some_in pieces = AllByRecursion (λ p. 0 < length p) pieces

cut_some : (before cs : List ℕ) → Some_in (cut (is_grapheme_break true) before cs [])
unfolding cut
cut_some before [] = tt
cut_some before (c ∷ cs) = picked (is_grapheme_break true (c ∷ before) (cs ++ [])) (cut (is_grapheme_break true) (c ∷ before) cs []) (cut_some (c ∷ before) cs)
  where
    picked : (b : Bool) (rest : List (List ℕ)) → Some_in rest → Some_in (if b then (c ∷ []) ∷ rest else prepend (c ∷ []) rest)
    picked true rest h = (omega arith, h)
    picked false [] h = (omega arith, tt)
    picked false (p ∷ rest) h = (omega arith, h.1)

encoded_some : (pieces : List (List ℕ)) → Some_in pieces → Some_in (map encode_utf8_all pieces)
encoded_some [] h = tt
encoded_some (p ∷ ps) h = (let l = length-le-encodes p in omega (arith, h.0), encoded_some ps h.1)

graphemes_some : (text : List ℕ) → Some_in (graphemes true text)
unfolding segments
graphemes_some text = encoded_some (cut (is_grapheme_break true) [] (chars text) []) (cut_some [] (chars text))

module _ (text : List ℕ) (u : IsUtf8 text) where
  pub no_text : graphemes true text ≡ [] → text ≡ []
  no_text e = sym (concat-graphemes text u) ∙ ap concat e

  module _ (first rest : List ℕ) (left : List (List ℕ)) (clusters : graphemes true text ≡ first ∷ left) (rest_is : rest ≡ concat left) where
    pub rest_clusters : graphemes true text ≡ first ∷ graphemes true rest
    rest_clusters = clusters ∙ ap (λ t. first ∷ t) (sym (ap (graphemes true) (rest_is ∙ ap (λ t. concat (drop 1 t)) (sym clusters)) ∙ graphemes-rest text u 1 ∙ ap (drop 1) clusters))

    pub whole_text : text ≡ first ++ rest
    whole_text = sym (concat-graphemes text u) ∙ ap concat clusters ∙ ap (λ t. first ++ t) (sym rest_is)

    pub shorter_rest : length rest < length text
    shorter_rest =
        let some : 0 < length first = (subst Some_in clusters (graphemes_some text)).0 in
        let size = ap length whole_text ∙ length-append first rest in
        omega arith
