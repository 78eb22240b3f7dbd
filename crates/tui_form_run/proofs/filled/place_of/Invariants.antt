use Rattle.std.proofs.Common.{◌≡◌, drop, map, string_bytes}
use Rattle.std.specs.List.{position_from}
use Rattle.std.specs.Str.{bytes_eq}
use Rattle.tui_form_run.specs.Input.{place_of}
use Rattle.tui_form_run.proofs.filled.place_of.Given as goal

-- no text so far equals this one
abbrev pub invariant-texts : goal.invariant-texts
invariant-texts l = place_of l.text (map string_bytes l.options) ≡ position_from (λ t. bytes_eq t l.text) l.i (map string_bytes (drop l.i l.options))
