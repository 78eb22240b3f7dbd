-- How rows and buffers are stored. Users see only the screen.
use Rattle.std.specs.Prelude.{◌≡◌, ℕ, ◌≤◌, List, [], ◌∷◌, Bool, false, All, length, replicate}
use Rattle.tui_cells.specs.declared.rect.Rect.{Rect}
use Rattle.tui_cells.specs.Buffer.{IsScreen}
use Rattle.tui_cells.specs.Cell.{Look, IsUnstyled, blank}

-- the cells of a row of a width: none is created while all are blank
abbrev pub row_cells : ℕ → List Look → List Look
row_cells width [] = replicate width blank
row_cells width (c ∷ cs) = c ∷ cs

-- how a row is stored: memory for all cells is reserved until they are created, and none has a style as long as none
-- may have been set
pub record IsRow (width room : ℕ) (styled : Bool) (cells : List Look) : Type 0 where
  pub wide : length (row_cells width cells) ≡ width
  pub unmade : cells ≡ [] → width ≤ room
  pub rest : styled ≡ false → All IsUnstyled cells

-- how a buffer is stored: a screen, and the cells of a blank row
pub record IsBuffer (area : Rect) (rows : List (List Look)) (blanks : List Look) : Type 0 where
  pub screen : IsScreen (record { area = area; rows = rows })
  pub blank_row : blanks ≡ replicate area.width blank
