use Rattle.std.proofs.Common.{◌≡◌, [], ◌∷◌, map}
use Rattle.std.specs.List.{repeat}
use Rattle.tui_text.specs.Line.{line_data, raw_line}
use Rattle.tui_show_run.proofs.demo.items.repeated.Given as goal

abbrev pub invariant-lines : goal.invariant-lines
invariant-lines l = map line_data l.lines.items ≡ repeat l.i (raw_line l.text ∷ [])
