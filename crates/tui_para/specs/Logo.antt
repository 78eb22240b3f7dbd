-- The logo, and its strokes.
use Rattle.std.specs.Prelude.{⊤, ℕ, List, [], ◌∷◌}
use Rattle.tui_cells.specs.declared.rect.Rect.{Rect}
use Rattle.tui_cells.specs.Drawing.{Drawing}
use Rattle.tui_cells.specs.Layers.{Layer}
use Rattle.tui_cells.specs.Symbols.{utf8}
use Rattle.tui_frames.specs.InClip.{in_clip}
use Rattle.tui_text.specs.Line.{raw_line}
use Rattle.tui_text.specs.Painting.{text_layers}
use Rattle.tui_text.specs.Text.{TextData, empty_text}
use Rattle.tui_text.proofs.RowStays.{text_stays}
use Rattle.tui_para.specs.declared.size.Size.{Size}
use Rattle.tui_para.specs.declared.size.Size.TheVariants.{Tiny, Small}

-- the upper line
abbrev pub upper_line : Size → List ℕ
upper_line Tiny = utf8 "▛▚▗▀▖▜▘▞▚▝▛▐ ▌▌"
upper_line Small = utf8 "█▀▀▄ ▄▀▀▄▝▜▛▘▄▀▀▄▝▜▛▘█  █ █"

-- the lower line
abbrev pub lower_line : Size → List ℕ
lower_line Tiny = utf8 "▛▚▐▀▌▐ ▛▜ ▌▝▄▘▌"
lower_line Small = utf8 "█▀▀▄ █▀▀█ ▐▌ █▀▀█ ▐▌ ▀▄▄▀ █"

-- two lines without a style
abbrev pub logo_text : Size → TextData
logo_text size = record empty_text { lines = raw_line (upper_line size) ∷ raw_line (lower_line size) ∷ [] }

-- the two lines in the clip
abbrev pub logo_layers : Size → Rect → List Layer
logo_layers size clip = text_layers clip (logo_text size)

-- a logo is drawn without allocating
abbrev pub logo_drawing : Size → Drawing
logo_drawing size = in_clip (logo_layers size) ⊤ (λ clip. text_stays clip (logo_text size))
