use Rattle.std.proofs.Common.{◌≡◌, drop}
use Rattle.tui_terminal.specs.Shades.{all_named, channels_of, named_of}
use Rattle.tui_terminal_model.specs.Colours.{nearest_of}
use Rattle.tui_terminal.proofs.shade.nearest.Given as goal

abbrev pub invariant-others : goal.invariant-others
invariant-others l =
    nearest_of (channels_of l.channels) (named_of l.best) (all_named (drop l.place l.others)) ≡ nearest_of (channels_of l.channels) (named_of l.fn.first) (all_named l.others)
