use Rattle.std.proofs.Common.{ap, sym, ◌∙◌, true≢false}
use Rattle.tui_cells.specs.Attributes.{content_look}
use Rattle.tui_cells.specs.Same.{attributes_self, same_attributes}
use Rattle.tui_cells.specs.contracts.attributes.AttributesPartialEq as attributes
use Rattle.tui_cells.proofs.Looking.{attributes_same, looks_same}
use Rattle.tui_cells.proofs.content.Content.is_same_look.Goals as goal

pub returns-then-eq : goal.returns-then-eq
returns-then-eq c =
    let a = content_look c.args.self.now in
    let b = content_look c.args.other.now in
    let x = c.attributes.result in
    let y = c.attributes-2.result in
    let same = same_attributes x y (sym c.eq.ensures ∙ c.if-eq.true) in
    let s = c.symbol.ensures in
    let t = c.symbol-then-eq.ensures in (
      (λ yes. looks_same a b x y c.attributes.ensures c.attributes-2.ensures same (sym s ∙ (c.is_same_text.ensures.0 yes ∙ t))),
      (λ e. c.is_same_text.ensures.1 (s ∙ (ap (λ k. k.symbol) e ∙ sym t))),
    )

pub returns-else-eq : goal.returns-else-eq
returns-else-eq c =
    let a = content_look c.args.self.now in
    let b = content_look c.args.other.now in
    let x = c.attributes.result in
    let y = c.attributes-2.result in (
      (λ yes. absurd (true≢false (sym yes ∙ c.if-eq.false))),
      (λ e. c.eq.ensures ∙ (ap (λ k. attributes.TheImpl.ghosts.eq x k) (sym (attributes_same a b x y c.attributes.ensures c.attributes-2.ensures e)) ∙ attributes_self x)),
    )
