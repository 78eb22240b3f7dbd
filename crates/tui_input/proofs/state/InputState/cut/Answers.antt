use Rattle.std.proofs.Common.{ℕ, List, subst}
use Rattle.std.specs.Str.{IsCharBoundary}
use Rattle.std.proofs.lemmas.Str.{IsUtf8-string_bytes}
use Rattle.tui_input.proofs.Kept.{kept_cut, same_text}
use Rattle.tui_input.proofs.state.InputState.cut.Goals as goal

pub invariant_of-self : goal.invariant_of-self
invariant_of-self c =
    let same = same_text c.args.self.now _ _ _ _ _ c.self.view_is in
    kept_cut _ _ _ _ c.args.from c.args.to (IsUtf8-string_bytes c.self.inside.text) c.self.invariant c.requires.order
    (subst (λ (t : List ℕ). IsCharBoundary t c.args.from) same c.requires.start)
    (subst (λ (t : List ℕ). IsCharBoundary t c.args.to) same c.requires.end) c.in-Ok.ensures.bytes
