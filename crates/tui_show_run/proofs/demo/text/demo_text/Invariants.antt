use Rattle.std.proofs.Common.{◌≡◌}
use Rattle.std.specs.String.{string_bytes}
use Rattle.tui_show_run.specs.Demo.Text.{words_before}
use Rattle.tui_show_run.proofs.demo.text.demo_text.Given as goal

abbrev pub invariant-words : goal.invariant-words
invariant-words l = string_bytes l.text ≡ words_before l.n l.i
