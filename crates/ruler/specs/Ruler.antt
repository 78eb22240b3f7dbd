-- What a Ruler draws.
use Rattle.std.specs.Prelude.{ℕ, List, [], ◌∷◌}
use Rattle.tui_cells.specs.declared.style.Style.{Style}
use Rattle.tui_cells.specs.Rect.{covers, rows_from}
use Rattle.tui_cells.specs.Cell.{Edit, IsAllocationFree, set_style, write}
use Rattle.tui_cells.specs.Drawing.{Drawing}
use Rattle.tui_cells.specs.Layers.{over}
use Rattle.tui_cells.specs.Stays.{StayIn-over}
use Rattle.tui_cells.proofs.Regions.{StayIn-wider, rows_out}
use Rattle.tui_frames.specs.InClip.{in_clip}

-- each cell of the first row gets the symbol, and then the style
abbrev pub ruler_edits : List ℕ → Style → List Edit
ruler_edits symbol style = write symbol ∷ set_style style ∷ []

-- it changes only that row of the clip, and does not allocate for a symbol of at most 8 bytes
abbrev pub ruler_drawing : List ℕ → Style → Drawing
ruler_drawing symbol style = in_clip
    (λ clip. over (covers (rows_from clip 0 1)) (ruler_edits symbol style))
    (IsAllocationFree symbol)
    (λ clip. StayIn-wider (rows_out clip 0 1) (StayIn-over (covers (rows_from clip 0 1)) (ruler_edits symbol style)))
