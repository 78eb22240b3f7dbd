-- The colours of the code's tables as colours of the model.
use Rattle.std.specs.Prelude.{List, map}
use Rattle.tui_terminal_model.specs.Colours as colours
use Rattle.tui_terminal.specs.declared.shade.Channels.{Channels}
use Rattle.tui_terminal.specs.declared.shade.Shade.{Shade}

-- red, green and blue
abbrev pub channels_of : Channels → colours.Channels
channels_of l = record { red = l.red; green = l.green; blue = l.blue }

-- a colour as it is sent, and its red, green and blue values
abbrev pub named_of : Shade → colours.Named
named_of s = record { color = s.color; channels = channels_of s.channels }

abbrev pub all_named : List Shade → List colours.Named
all_named shades = map named_of shades
