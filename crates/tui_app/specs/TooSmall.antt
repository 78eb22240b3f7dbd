-- What an app shows on a screen that has no room for it.
use Rattle.std.specs.Prelude.{codes}
use Rattle.tui_cells.specs.Buffer.{IsFilled, Screen}
use Rattle.tui_cells.specs.Cell.{blank}
use Rattle.tui_cells.specs.Layers.{Painted}
use Rattle.tui_cells.specs.Style.{no_style}
use Rattle.tui_text.specs.Setting.{set_layers, styled_text}

-- a blank screen with the text `too small`, from its first cell on
pub record DrawsTooSmall (screen : Screen) : Type 0 where
  pub before : Screen
  pub filled : IsFilled before.area blank before
  pub painted : Painted (set_layers before.area (record { x = before.area.x; y = before.area.y }) (styled_text (codes "too small") no_style) 9) before screen
