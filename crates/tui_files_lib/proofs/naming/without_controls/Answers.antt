use Rattle.std.proofs.Common.{ap, map, string_bytes, sym, ◌∙◌, List, ℕ}
use Rattle.std.proofs.lemmas.Iterator.{YieldsList-from_chars}
use Rattle.std.proofs.lemmas.Iterator.Consumers.{YieldsList-end}
use Rattle.std.proofs.lemmas.List.{map-id}
use Rattle.std.specs.Str.{encode_utf8_all}
use Rattle.tui_files_lib.proofs.Listed.{shown_more}
use Rattle.tui_files_lib.proofs.naming.without_controls.Goals as goal
use Rattle.tui_files_lib.specs.Naming.{shown_char}

pub loop-character-preserved : goal.loop-character-preserved
loop-character-preserved c =
    shown_more c.loop-character.yielded c.in-Some.character c.shown_char.result (string_bytes c.loop-character.shown) (string_bytes c.push.new.self)
    c.loop-character.invariant c.shown_char.ensures c.in_ok-push.ensures.bytes

pub returns : goal.returns
returns c =
    let end = YieldsList-end (YieldsList-from_chars c.args.text.now c.utf8.text cc) c.loop-character.yielded _ c.loop-character.yielded_by _ _ c.in-None.is
    c.next.ensures.steps in
    c.loop-character.invariant ∙ ap (λ (cs : List ℕ). encode_utf8_all (map shown_char cs)) (sym (map-id c.loop-character.yielded) ∙ end.0)
