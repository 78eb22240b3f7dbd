use Rattle.std.proofs.Common.{◌≡◌, map, string_bytes}
use Rattle.std.specs.Str.{encode_utf8_all}
use Rattle.tui_files_lib.specs.Naming.{shown_char}
use Rattle.tui_files_lib.proofs.naming.without_controls.Given as goal

abbrev pub invariant-loop-character : goal.invariant-loop-character
invariant-loop-character l = string_bytes l.shown ≡ encode_utf8_all (map shown_char l.yielded)
