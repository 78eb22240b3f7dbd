-- What a Clear draws.
use Rattle.std.specs.Prelude.{⊤}
use Rattle.tui_cells.specs.Cell.{wipe}
use Rattle.tui_cells.specs.Drawing.{Drawing}
use Rattle.tui_cells.specs.Layers.{stroke}
use Rattle.tui_cells.specs.Rect.{covers}
use Rattle.tui_cells.specs.Stays.{StayIn-stroke}
use Rattle.tui_frames.specs.InClip.{in_clip}

-- each cell of the clip is made blank
abbrev pub clear_drawing : Drawing
clear_drawing = in_clip (λ clip. stroke (covers clip) wipe) ⊤ (λ clip. StayIn-stroke (covers clip) wipe (λ x y out. out))
