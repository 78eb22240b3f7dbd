use Rattle.std.proofs.Common.{◌≡◌, ◌++◌, replicate}
use Rattle.std.specs.Prelude.{codes}
use Rattle.tui_form_lib.proofs.items.push_stars.Given as goal
use Rattle.tui_text.specs.Line.{line_data}
use Rattle.tui_text.specs.Span.{raw_span}

abbrev pub invariant-stars : goal.invariant-stars
invariant-stars l = line_data l.line ≡ record (line_data l.fn.line) { spans = (line_data l.fn.line).spans ++ replicate l._star (raw_span (codes "*")) }
