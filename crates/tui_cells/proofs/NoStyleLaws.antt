-- Styles that set nothing.
use Rattle.std.proofs.Common.{◌≡◌, ℕ, Bool, true, false, Option, Some, None, option_map, if◌then◌else◌, refl, ◌∙◌, ap, sym}
use Rattle.std.specs.Int.Bits.{bit_or, or_zero_r, xor_zero_r}
use Rattle.tui_cells.specs.declared.style.Style.{Style}
use Rattle.tui_cells.specs.Buffer.{Screen, cell_at}
use Rattle.tui_cells.specs.Cell.{Look, set_style, restyled}
use Rattle.tui_cells.specs.Layers.{Painted, stroke}
use Rattle.tui_cells.specs.Style.{no_style}

-- setting a style that sets nothing leaves a cell unchanged
pub no_style_same : (s : Style) (c : Look) → s ≡ no_style → restyled s c ≡ c
no_style_same s c e = ap (λ t. restyled t c) e ∙ ap (λ m. record { symbol = c.symbol; fg = c.fg; bg = c.bg; modifier = m })
    (xor_zero_r (bit_or (bit_or c.modifier 0) 0) ∙ (or_zero_r (bit_or c.modifier 0) ∙ or_zero_r c.modifier))

-- so its stroke changes nothing
pub nothing_set : (R : ℕ → ℕ → Bool) (s : Style) (b : Screen) → s ≡ no_style → Painted (stroke R (set_style s)) b b
nothing_set R s b e = record { area = refl; cells = λ x y. same_cell (R x y) (cell_at b x y) }
  where
    same_cell : (r : Bool) (o : Option Look) → o ≡ option_map (λ c. if r then restyled s c else c) o
    same_cell r None = refl
    same_cell true (Some c) = ap Some (sym (no_style_same s c e))
    same_cell false (Some c) = refl
