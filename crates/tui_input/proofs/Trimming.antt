-- Removing the clusters at the end of a text, one by one.
use Rattle.std.proofs.Common.{◌≡◌, ℕ, Bool, true, false, List, [], ◌∷◌, ◌++◌, length, reverse, take, drop, refl, sym, ap, ap₂, subst, ◌∙◌, arith, append_assoc, append-nil, length-append, take_at, drop_at}
use Rattle.std.specs.List.{concat}
use Rattle.std.specs.Prelude.{if◌then◌else◌}
use Rattle.std.specs.Str.{IsUtf8, IsCharBoundary}
use Rattle.std.proofs.lemmas.List.{reverse-append, reverse-reverse}
use Rattle.std.proofs.lemmas.List.Folds.{concat-append}
use Rattle.std.proofs.lemmas.Str.{IsUtf8-append, IsUtf8-nil, IsUtf8-drop, IsCharBoundary-from_take, IsCharBoundary-at_seam}
use Rattle.unicode_segmentation.specs.Grapheme.{graphemes}
use Rattle.tui_input.specs.Ends.{skip, trimmed, IsPrefix}
use Rattle.tui_input.specs.State.{without_word}
use Rattle.tui_input.specs.Ends.{is_of_kind}
use Rattle.tui_clusters.proofs.Boundaries.{concat-graphemes}

-- `kept` remains of a text so far, and `left` are its clusters
pub record IsTrimming (test : List ℕ → Bool) (text kept : List ℕ) (left : List (List ℕ)) : Type 0 where
  pub kept_is : kept ≡ concat left
  pub goes_on : skip test (reverse (graphemes true text)) ≡ skip test (reverse left)
  pub part : IsPrefix kept text
  pub utf8 : IsUtf8 kept

-- what follows UTF-8 in UTF-8 is UTF-8
utf8_after : (whole x y : List ℕ) → whole ≡ x ++ y → IsUtf8 whole → IsUtf8 x → IsUtf8 y
utf8_after whole x y e u v =
    let n = length x in
    let size = ap length e ∙ length-append x y in
    let front : take n whole ≡ x = ap (take n) e ∙ take_at x y n refl in
    let back : drop n whole ≡ y = ap (drop n) e ∙ drop_at x y n refl in
    subst IsUtf8 back (IsUtf8-drop whole n u (IsCharBoundary-from_take whole n u (omega arith) (subst IsUtf8 (sym front) v)))

module _ (test : List ℕ → Bool) where
  pub IsTrimming-init : (text : List ℕ) (left : List (List ℕ)) → IsUtf8 text → left ≡ graphemes true text → IsTrimming test text text left
  IsTrimming-init text left u e =
      record {
        kept_is = sym (ap concat e ∙ concat-graphemes text u);
        goes_on = ap (λ ps. skip test (reverse ps)) (sym e);
        part = record { following = []; whole = sym (append-nil text); utf8 = IsUtf8-nil };
        utf8 = u;
      }

  skip-skip_one : (b : Bool) (ps rest : List (List ℕ)) → b ≡ true → (if b then rest else ps) ≡ rest
  skip-skip_one true ps rest e = refl
  skip-skip_one false ps rest e = grind arith

  skip-stop : (b : Bool) (ps rest : List (List ℕ)) → b ≡ false → (if b then rest else ps) ≡ ps
  skip-stop true ps rest e = grind arith
  skip-stop false ps rest e = refl

  back : (left front : List (List ℕ)) (last : List ℕ) → left ≡ front ++ last ∷ [] → reverse left ≡ last ∷ reverse front
  back left front last e = ap reverse e ∙ reverse-append front (last ∷ [])

  pub IsTrimming-step : (text kept next last : List ℕ) (left front : List (List ℕ)) → IsTrimming test text kept left → left ≡ front ++ last ∷ []
      → test last ≡ true → next ≡ concat front → IsUtf8 next → IsTrimming test text next front
  unfolding skip
  IsTrimming-step text kept next last left front h e passes is v =
      let pieces : kept ≡ next ++ last = h.kept_is ∙ ap concat e ∙ concat-append front (last ∷ []) ∙ ap₂ ◌++◌ (sym is) (append-nil last) in
      record {
        kept_is = is;
        goes_on = h.goes_on ∙ ap (skip test) (back left front last e) ∙ skip-skip_one (test last) _ _ passes;
        part = record {
          following = last ++ h.part.following;
          whole = h.part.whole
              ∙ ap (λ t. t ++ h.part.following) pieces
              ∙ append_assoc next last h.part.following;
          utf8 = IsUtf8-append last h.part.following (utf8_after kept next last pieces h.utf8 v) h.part.utf8;
        };
        utf8 = v;
      }

  pub IsTrimming-stop : (text kept last : List ℕ) (left front : List (List ℕ)) → IsTrimming test text kept left → left ≡ front ++ last ∷ []
      → test last ≡ false → kept ≡ trimmed test text
  unfolding skip
  IsTrimming-stop text kept last left front h e fails =
      h.kept_is ∙ ap concat (sym (reverse-reverse left)
      ∙ ap reverse (back left front last e ∙ sym (skip-stop (test last) (last ∷ reverse front) (skip test (reverse front)) fails)
      ∙ ap (skip test) (sym (back left front last e)) ∙ sym h.goes_on))

  pub IsTrimming-end : (text kept : List ℕ) (left : List (List ℕ)) → IsTrimming test text kept left → left ≡ [] → kept ≡ trimmed test text
  unfolding skip
  IsTrimming-end text kept left h e =
      h.kept_is ∙ ap concat e ∙ sym (ap (λ ps. concat (reverse ps)) (h.goes_on ∙ ap (λ ps. skip test (reverse ps)) e))

-- a part of a part
pub word_boundary : (text one two : List ℕ) → IsPrefix one text → IsPrefix two one → IsCharBoundary text (length two)
word_boundary text one two h g =
    IsCharBoundary-at_seam text two (g.following ++ h.following) (h.whole ∙ ap (λ t. t ++ h.following) g.whole ∙ append_assoc two g.following h.following)
    (IsUtf8-append g.following h.following g.utf8 h.utf8)

pub word_text : (text one two : List ℕ) → IsPrefix one text → IsPrefix two one → one ≡ trimmed (is_of_kind true) text → two ≡ trimmed (is_of_kind false) one
    → take (length two) text ≡ without_word text
word_text text one two h g e f =
    ap (take (length two)) (h.whole ∙ ap (λ t. t ++ h.following) g.whole ∙ append_assoc two g.following h.following)
    ∙ take_at two (g.following ++ h.following) (length two) refl ∙ f ∙ ap (trimmed (is_of_kind false)) e
