-- Sizes that are equal by `==` are equal.
use Rattle.std.specs.Prelude.{ℕ, ◌≡◌, ◌≤◌, true}
use Rattle.std.proofs.Common.{◌∙◌, ap, subst}
use Rattle.std.proofs.Props.{props}
use Rattle.std.proofs.lemmas.Bool.{and_parts, eqb-true}
use Rattle.tui_pager_lib.specs.contracts.size.PagerSizePartialEq as sizes
use Rattle.tui_pager_lib.specs.declared.size.PagerSize.{PagerSize}

abbrev size : (w h : ℕ) → 12 ≤ w → 5 ≤ h → PagerSize
size w h wide high = record { width = w; height = h; wide = wide; high = high }

one_proof : (n m : ℕ) (p q : n ≤ m) → p ≡ q
one_proof n m p q = Prim.hlevel props

-- sizes that are equal by `==` are equal
pub same_size : (a b : PagerSize) → sizes.TheImpl.ghosts.eq a b ≡ true → a ≡ b
same_size a b e =
    let both = and_parts _ _ e in
    let Wide : ℕ → Type 0 = λ w. (p : 12 ≤ w) → a ≡ size w a.height p a.high in
    let High : ℕ → Type 0 = λ h. (q : 5 ≤ h) → size b.width a.height b.wide a.high ≡ size b.width h b.wide q in
    subst Wide (eqb-true a.width b.width both.0) (λ p. ap (λ t. size a.width a.height t a.high) (one_proof 12 a.width a.wide p)) b.wide
    ∙ subst High (eqb-true a.height b.height both.1) (λ q. ap (size b.width a.height b.wide) (one_proof 5 a.height a.high q)) b.high
