use Rattle.std.proofs.lemmas.Str.{IsUtf8-string_bytes, IsUtf8-encode}
use Rattle.tui_input.proofs.Kept.{kept_inserted}
use Rattle.tui_input.proofs.state.InputState.insert_char.Goals as goal

pub invariant_of-self-2 : goal.invariant_of-self-2
invariant_of-self-2 c =
    kept_inserted c.args.self.now _ _ _ _ _ c.args.c _ _ (IsUtf8-string_bytes c.self.inside.text) (IsUtf8-encode c.args.c c.ranges.c.0) c.self.invariant c.self.view_is c.requires c.in_ok-insert.ensures.bytes c.len_utf8.ensures.len
