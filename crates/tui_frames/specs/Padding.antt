-- Free columns and rows.
use Rattle.std.specs.Prelude.{ℕ}
use Rattle.tui_frames.specs.declared.padding.Padding.{Padding}

-- the columns and rows around the content
abbrev pub padding : (left right top bottom : ℕ) → Padding
padding left right top bottom = record { left = left; right = right; top = top; bottom = bottom }

-- none on any side
abbrev pub no_padding : Padding
no_padding = padding 0 0 0 0
