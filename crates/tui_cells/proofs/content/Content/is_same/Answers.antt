use Rattle.std.proofs.Common.{ap, sym, ◌∙◌, true≢false}
use Rattle.tui_cells.specs.Attributes.{content_look}
use Rattle.tui_cells.specs.Same.{attributes_self, same_attributes}
use Rattle.tui_cells.specs.contracts.attributes.AttributesPartialEq as attributes
use Rattle.tui_cells.proofs.Looking.{attributes_same, looks_same, look_of_parts}
use Rattle.tui_cells.proofs.content.Content.is_same.Goals as goal

pub returns-then-eq : goal.returns-then-eq
returns-then-eq c =
    let both = c.in-Short-Short in
    let a = content_look c.args.self.now in
    let b = content_look c.args.other.now in
    let ea = ap content_look both.is-0 in
    let eb = ap content_look both.is-1 in
    let same = same_attributes both.a both.b (sym c.eq.ensures ∙ c.if-eq.true) in
    let s = c.as_str.ensures.value ∙ sym (ap (λ k. k.symbol) ea) in
    let t = c.as_str-then-eq.ensures.value ∙ sym (ap (λ k. k.symbol) eb) in (
      (λ yes. looks_same a b both.a both.b (look_of_parts a both.one.bytes both.a ea) (look_of_parts b both.two.bytes both.b eb) same
          (sym s ∙ (c.is_same_text.ensures.0 yes ∙ t))),
      (λ e. c.is_same_text.ensures.1 (s ∙ (ap (λ k. k.symbol) e ∙ sym t))),
    )

pub returns-else-eq : goal.returns-else-eq
returns-else-eq c =
    let both = c.in-Short-Short in
    let a = content_look c.args.self.now in
    let b = content_look c.args.other.now in
    let look_a = look_of_parts a both.one.bytes both.a (ap content_look both.is-0) in
    let look_b = look_of_parts b both.two.bytes both.b (ap content_look both.is-1) in (
      (λ yes. absurd (true≢false (sym yes ∙ c.if-eq.false))),
      (λ e. c.eq.ensures ∙ (ap (λ k. attributes.TheImpl.ghosts.eq both.a k) (sym (attributes_same a b both.a both.b look_a look_b e)) ∙ attributes_self both.a)),
    )
