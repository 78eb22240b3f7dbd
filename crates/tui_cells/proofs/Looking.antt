-- Two cells that show the same, and rows of them.
use Rattle.std.proofs.Common.{◌≡◌, ℕ, List, ap, sym, ◌∙◌}
use Rattle.tui_cells.specs.Attributes.{look_of}
use Rattle.tui_cells.specs.Cell.{Look}
use Rattle.tui_cells.specs.declared.attributes.Attributes.{Attributes}

pub looks_same : (a b : Look) (x y : Attributes) → look_of a.symbol x ≡ a → look_of b.symbol y ≡ b → x ≡ y → a.symbol ≡ b.symbol → a ≡ b
looks_same a b x y ex ey same es = sym ex ∙ ((λ i. look_of (es i) (same i)) ∙ ey)

pub attributes_same : (a b : Look) (x y : Attributes) → look_of a.symbol x ≡ a → look_of b.symbol y ≡ b → a ≡ b → x ≡ y
attributes_same a b x y ex ey e =
    let looks : look_of a.symbol x ≡ look_of b.symbol y = ex ∙ (e ∙ sym ey) in
    λ i. record { fg = (looks i).fg; bg = (looks i).bg; modifier = record { bits = (looks i).modifier } }

pub look_of_parts : (a : Look) (symbol : List ℕ) (x : Attributes) → a ≡ look_of symbol x → look_of a.symbol x ≡ a
look_of_parts a symbol x e = ap (λ k. look_of k.symbol x) e ∙ sym e
