-- The clusters at the ends of a text, and the boundaries between them.
use Rattle.std.proofs.Common.{◌≡◌, ℕ, ◌+◌, true, List, [], ◌∷◌, ◌++◌, length, take, drop, refl, sym, ap, ap₂, subst, ◌∙◌, arith, append_assoc, append-nil, length-append, take_at, drop_at, length-take-le}
use Rattle.std.specs.List.{concat}
use Rattle.std.specs.Prelude.{encode_utf8}
use Rattle.std.specs.Str.{IsUtf8, IsCharBoundary}
use Rattle.std.proofs.lemmas.List.{take-append-drop}
use Rattle.std.proofs.lemmas.List.Folds.{concat-append}
use Rattle.std.proofs.lemmas.Str.{IsUtf8-append, IsUtf8-drop, IsCharBoundary-at_seam}
use Rattle.unicode_segmentation.specs.Grapheme.{graphemes}
use Rattle.tui_clusters.proofs.Boundaries.{concat-graphemes, graphemes-boundary}
use Rattle.tui_input.specs.State.{SplitsAtCursor, TypedText, text_of, with_sides, cut_out, inserted, without_after}
use Rattle.tui_input.specs.Ends.{but_last, last_alone, without_last, last_of, without_first, first_of}

but_last-push : (front : List (List ℕ)) (last : List ℕ) → but_last (front ++ last ∷ []) ≡ front
but_last-push front last = take_at front (last ∷ []) _ (omega (arith, length-append front (last ∷ [])))

last_alone-push : (front : List (List ℕ)) (last : List ℕ) → last_alone (front ++ last ∷ []) ≡ last ∷ []
last_alone-push front last = drop_at front (last ∷ []) _ (omega (arith, length-append front (last ∷ [])))

module _ (text : List ℕ) (u : IsUtf8 text) where
  module _ (front : List (List ℕ)) (last rest : List ℕ) (clusters : graphemes true text ≡ front ++ last ∷ []) (rest_is : rest ≡ concat front) where
    pub rest_without_last : rest ≡ without_last text
    rest_without_last = rest_is ∙ sym (ap (λ ps. concat (but_last ps)) clusters ∙ ap concat (but_last-push front last))

    pub last_is : last ≡ last_of text
    last_is = sym (ap (λ ps. concat (last_alone ps)) clusters ∙ ap concat (last_alone-push front last) ∙ append-nil last)

    pub whole_by_last : text ≡ rest ++ last
    whole_by_last =
        sym (concat-graphemes text u) ∙ ap concat clusters ∙ concat-append front (last ∷ []) ∙ ap₂ ◌++◌ (sym rest_is) (append-nil last)

  module _ (first rest : List ℕ) (following : List (List ℕ)) (clusters : graphemes true text ≡ first ∷ following) (rest_is : rest ≡ concat following) where
    pub first_is : first ≡ first_of text
    first_is = sym (ap (λ ps. concat (take 1 ps)) clusters ∙ append-nil first)

    pub rest_without_first : rest ≡ without_first text
    rest_without_first = rest_is ∙ sym (ap (λ ps. concat (drop 1 ps)) clusters)

    pub whole_by_first : text ≡ first ++ rest
    whole_by_first = sym (concat-graphemes text u) ∙ ap concat clusters ∙ ap (λ t. first ++ t) (sym rest_is)

  module _ (none : graphemes true text ≡ []) where
    no_text : text ≡ []
    no_text = sym (concat-graphemes text u) ∙ ap concat none

    pub none_without_last : text ≡ without_last text
    none_without_last = no_text ∙ sym (ap (λ ps. concat (but_last ps)) none)

    pub none_last : [] ≡ last_of text
    none_last = sym (ap (λ ps. concat (last_alone ps)) none)

    pub none_first : [] ≡ first_of text
    none_first = sym (ap (λ ps. concat (take 1 ps)) none)

    pub none_without_first : text ≡ without_first text
    none_without_first = no_text ∙ sym (ap (λ ps. concat (drop 1 ps)) none)

-- the boundary between the clusters at an end of one side of the cursor
pub before_last : (before after rest last b a : List ℕ) → b ≡ before → a ≡ after → b ≡ rest ++ last → IsUtf8 last → IsUtf8 a
    → IsCharBoundary (before ++ after) (length rest)
before_last before after rest last b a eb ea whole ul ua =
    let parts : before ++ after ≡ rest ++ (last ++ a) = ap₂ ◌++◌ (sym eb ∙ whole) (sym ea) ∙ append_assoc rest last a in
    IsCharBoundary-at_seam (before ++ after) rest (last ++ a) parts (IsUtf8-append last a ul ua)

pub following_first : (before after first rest b a : List ℕ) → b ≡ before → a ≡ after → a ≡ first ++ rest → IsUtf8 rest
    → IsCharBoundary (before ++ after) (length b + length first)
following_first before after first rest b a eb ea whole u =
    let parts : before ++ after ≡ (b ++ first) ++ rest = ap₂ ◌++◌ (sym eb) (sym ea ∙ whole) ∙ sym (append_assoc b first rest) in
    subst (IsCharBoundary (before ++ after)) (length-append b first) (IsCharBoundary-at_seam (before ++ after) (b ++ first) rest parts u)

pub between_sides : (before after b a : List ℕ) → b ≡ before → a ≡ after → IsUtf8 a → IsCharBoundary (before ++ after) (length b)
between_sides before after b a eb ea u = IsCharBoundary-at_seam (before ++ after) b a (ap₂ ◌++◌ (sym eb) (sym ea)) u

pub start_of_sides : (before after b a : List ℕ) → b ≡ before → a ≡ after → IsUtf8 b → IsUtf8 a → IsCharBoundary (before ++ after) 0
start_of_sides before after b a eb ea u v =
    IsCharBoundary-at_seam (before ++ after) [] (before ++ after) refl (IsUtf8-append before after (subst IsUtf8 eb u) (subst IsUtf8 ea v))

-- a boundary in the text left of the cursor is one in the whole text
pub within_before : (before after b a : List ℕ) (at : ℕ) → b ≡ before → a ≡ after → IsUtf8 b → IsUtf8 a → IsCharBoundary b at
    → IsCharBoundary (before ++ after) at
within_before before after b a at eb ea u v h =
    let front = take at b in
    let long : length front ≡ at = omega (arith, length-take-le at b h.0) in
    let parts : before ++ after ≡ front ++ (drop at b ++ a) =
    ap₂ ◌++◌ (sym eb ∙ sym (take-append-drop at b)) (sym ea) ∙ append_assoc front (drop at b) a in
    subst (IsCharBoundary (before ++ after)) long
    (IsCharBoundary-at_seam (before ++ after) front (drop at b ++ a) parts (IsUtf8-append (drop at b) a (IsUtf8-drop b at u h) v))

-- what remains when a part between two others is removed
cut_is : (s : TypedText) (x y z : List ℕ) → text_of s ≡ (x ++ y) ++ z → cut_out s (length x) (length x + length y) ≡ with_sides s x z
cut_is s x y z e =
    let wide = length-append x y in
    let front : take (length x) (text_of s) ≡ x = ap (take (length x)) (e ∙ append_assoc x y z) ∙ take_at x (y ++ z) _ refl in
    let back : drop (length x + length y) (text_of s) ≡ z = ap (drop (length x + length y)) e ∙ drop_at (x ++ y) z _ wide in
    let whole = ap₂ ◌++◌ front back in
    ap₂ (with_sides s) (ap (take (length x)) whole ∙ take_at x z _ refl) (ap (drop (length x)) whole ∙ drop_at x z _ refl)

-- removing a character that was inserted before the cursor restores the state
pub inserted_and_cut : (s : TypedText) (c : ℕ) (b d : List ℕ) → b ≡ s.before → d ≡ s.before ++ encode_utf8 c → cut_out (inserted s c) (length b) (length d) ≡ s
inserted_and_cut s c b d eb ed =
    let long : length d ≡ length b + length (encode_utf8 c) =
    ap length ed ∙ length-append s.before (encode_utf8 c) ∙ ap (λ t. length t + length (encode_utf8 c)) (sym eb) in
    ap (cut_out (inserted s c) (length b)) long ∙ ap (λ t. cut_out (inserted s c) (length t) (length t + length (encode_utf8 c))) eb
    ∙ cut_is (inserted s c) s.before (encode_utf8 c) s.after refl

pub cut_first : (s : TypedText) (b a first rest : List ℕ) → b ≡ s.before → a ≡ s.after → rest ≡ without_first a → a ≡ first ++ rest
    → cut_out s (length b) (length b + length first) ≡ without_after s
cut_first s b a first rest eb ea is whole =
    cut_is s b first rest (ap₂ ◌++◌ (sym eb) (sym ea ∙ whole) ∙ sym (append_assoc b first rest))
    ∙ ap₂ (with_sides s) eb (is ∙ ap without_first ea)

-- the byte before a character that was inserted before the cursor
pub before_inserted : (s new : TypedText) (c : ℕ) (b a : List ℕ) → new ≡ inserted s c → b ≡ s.before → a ≡ new.after → IsUtf8 (encode_utf8 c) → IsUtf8 a
    → IsCharBoundary (text_of new) (length b)
before_inserted s new c b a en eb ea uc ua =
    let following : s.after ≡ a = sym (ea ∙ ap (λ (t : TypedText). t.after) en) in
    let parts : text_of new ≡ b ++ (encode_utf8 c ++ a) =
    ap text_of en ∙ append_assoc s.before (encode_utf8 c) s.after ∙ ap₂ (λ x y. x ++ (encode_utf8 c ++ y)) (sym eb) following in
    IsCharBoundary-at_seam (text_of new) b (encode_utf8 c ++ a) parts (IsUtf8-append (encode_utf8 c) a uc ua)

-- if the text has a boundary at the cursor, its clusters are those of both sides
pub whole_of_sides : (s : TypedText) (b : List ℕ) → b ≡ s.before → IsUtf8 b → SplitsAtCursor s
whole_of_sides s b e u = graphemes-boundary s.before s.after (subst IsUtf8 e u)
