-- Graphemes that an iterator gave, and those that it still gives.
use Rattle.std.proofs.Common.{◌≡◌, ℕ, List, [], ◌∷◌, ◌++◌, Option, Some, None, refl, sym, ap, ◌∙◌, subst}
use Rattle.std.proofs.lemmas.List.{append-nil}
use Rattle.std.proofs.lemmas.List.Elements.{filter-append}
use Rattle.std.specs.Iterator.{Drains, Yields}
use Rattle.std.specs.Prelude.{nat_le}
use Rattle.tui_text.specs.declared.grapheme.StyledGrapheme.{StyledGrapheme}
use Rattle.tui_para.specs.Given.{SourceReads}
use Rattle.tui_para.specs.Wrapped.{not_wider}

pub Yields-append : {S A : Type 0} (gives : S → Option A → S → Type 0) (s t u : S) (xs ys : List A) → Yields gives s xs t → Yields gives t ys u → Yields gives s (xs ++ ys) u
Yields-append gives s t u [] ys e h = subst (λ v. Yields gives v ys u) (sym e) h
Yields-append gives s t u (x ∷ xs) ys (j, step, g) h = (j, step, Yields-append gives j t u xs ys g h)

pub not_wider-append : {A : Type 0} (size : A → ℕ) (w : ℕ) (xs ys : List A) → not_wider size w (xs ++ ys) ≡ not_wider size w xs ++ not_wider size w ys
not_wider-append size w xs ys = filter-append (λ x. nat_le (size x) w) xs ys

-- an iterator over graphemes gave some, and then more
pub reads_none : {I : Type 0} (gives : I → Option StyledGrapheme → I → Type 0) (source : Option I) → SourceReads gives source [] source
reads_none gives None = (refl, refl)
reads_none gives (Some i) = refl

pub reads_then : {I : Type 0} (gives : I → Option StyledGrapheme → I → Type 0) (o p q : Option I) (xs ys : List StyledGrapheme) → SourceReads gives o xs p → SourceReads gives p ys q → SourceReads gives o (xs ++ ys) q
reads_then gives None p q xs ys (none, same) h = let k = subst (λ r. SourceReads gives r ys q) same h in (ap (λ z. z ++ ys) none ∙ k.0, k.1)
reads_then gives (Some i) None q xs ys g (none, same) =
    subst (λ r. SourceReads gives (Some i) (xs ++ ys) r) (sym same) (subst (Drains gives i) (sym (append-nil xs) ∙ ap (λ z. xs ++ z) (sym none)) g)
reads_then gives (Some i) (Some j) None xs ys g (v, (t, h, step)) = (v, (t, Yields-append gives i j t xs ys g h, step))
reads_then gives (Some i) (Some j) (Some k) xs ys g h = Yields-append gives i j k xs ys g h
