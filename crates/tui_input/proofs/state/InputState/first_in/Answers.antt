use Rattle.std.proofs.Common.{◌≡◌, ℕ, ap₂, max, min, subst, sym, ◌∙◌}
use Rattle.std.specs.Option.{option_copied}
use Rattle.tui_input.specs.Scroll.{IsScrolled, highest, lowest, with_first}
use Rattle.tui_input.proofs.Starts.{is_scrolled}
use Rattle.tui_input.proofs.state.InputState.first_in.Goals as goal

pub returns-clause-moves : goal.returns-clause-moves
returns-clause-moves c =
    let mask = option_copied c.args.mask in
    let s = c.args.self.now in
    let raised : c.max.result ≡ max s.first (lowest mask c.args.width s) =
    c.max.ensures ∙ ap₂ (λ (a b : ℕ). max a b) c.first.ensures c.lowest_first-lowest.ensures in
    let is : c.min.result ≡ min (max s.first (lowest mask c.args.width s)) (highest mask c.args.width s) =
    c.min.ensures ∙ ap₂ (λ (a b : ℕ). min a b) raised c.highest_first-highest.ensures in
    subst (λ (n : ℕ). IsScrolled mask c.args.width s (with_first s n)) (sym is) (is_scrolled mask c.args.width s)
