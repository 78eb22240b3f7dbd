use Rattle.std.proofs.Common.{refl, sym, ◌∙◌, subst}
use Rattle.std.specs.Prelude.{IfSome}
use Rattle.tui_para.specs.Given.{Ready, line_yields}
use Rattle.tui_para.proofs.IteratorSteps.{AllReady-first, AllReady-step, Gave-none, line_ended}
use Rattle.tui_para.proofs.WrapperNextLine.{if_ok, line_begun, line_found, none_found}
use Rattle.tui_para.proofs.Yielding.{positive}
use Rattle.tui_para.proofs.wrapper.WordWrapper.find_line.Goals as goal

pub returns-in-Some-clause-found : goal.returns-in-Some-clause-found
returns-in-Some-clause-found g c =
    let e = c.in_ok-part.ensures in
    line_found g.O.Iterator.next_gives g.I.Iterator.next_gives c.args.self.now (positive _ _ c.width.ensures c.if-width-eq0.false) c.advance.new.self e.width e.wrap c.in-Some.part (rw c.in-Some.is at e.found)

pub returns-then-self-clause-found : goal.returns-then-self-clause-found
returns-then-self-clause-found g c =
    let s = c.args.self.now in
    let e = c.in_ok-part.ensures in
    none_found g.O.Iterator.next_gives g.I.Iterator.next_gives s (positive _ _ c.width.ensures c.if-width-eq0.false) c.advance.new.self e.width e.wrap s.lines s.done (rw c.in_default.is at e.found)
    (Gave-none (line_yields g.O.Iterator.next_gives g.I.Iterator.next_gives s.done s.lines)) c.if-self.true

pub advance-requires-in-Some-next : goal.advance-requires-in-Some-next
advance-requires-in-Some-next g c κs = (
  (refl, tt),
  subst (λ o. IfSome o (Ready g.I.Iterator)) (sym c.start.ensures.source) (AllReady-first _ _ (c.in-Some-next.line, c.in-Some-next.alignment) (c.requires.0 c.if-self.false) c.in-Some-next.ensures.steps),
)

pub returns-in-None-clause-found : goal.returns-in-None-clause-found
returns-in-None-clause-found g c =
    let s = c.args.self.now in
    let e = c.in_ok-part.ensures in
    none_found g.O.Iterator.next_gives g.I.Iterator.next_gives s (positive _ _ c.width.ensures c.if-width-eq0.false) c.advance.new.self e.width e.wrap c.next.new.self _ (rw c.in_default.is at e.found)
    (line_ended g.O.Iterator.next_gives g.I.Iterator.next_gives s.lines c.next.new.self s.done c.if-self.false c.in-None.ensures.steps) refl

pub returns-in-Some-next-clause-ready : goal.returns-in-Some-next-clause-ready
returns-in-Some-next-clause-ready g c = (
  λ e. AllReady-step _ _ (c.in-Some-next.line, c.in-Some-next.alignment) (c.requires.0 e) c.in-Some-next.ensures.steps c.in-Some-next.ensures.goes,
  c.advance-in-Some-next.ensures.ready,
)

pub returns-in-Some-next-clause-found : goal.returns-in-Some-next-clause-found
returns-in-Some-next-clause-found g c =
    let before = c.in_ok-part.ensures in
    let start = c.start.ensures in
    let width = start.width ∙ before.width in
    let way = start.wrap ∙ before.wrap in
    let new = c.advance-in-Some-next.ensures in
    if_ok _ _ c.advance-in-Some-next.result
    (line_begun g.O.Iterator.next_gives g.I.Iterator.next_gives c.args.self.now (positive _ _ c.width.ensures c.if-width-eq0.false) c.advance.new.self c.start.new.self c.advance-in-Some-next.new.self c.next.new.self
    c.in-Some-next.line c.in-Some-next.alignment (rw c.in_default.is at before.found) start.source start.line start.start start.is_new width way (new.width ∙ width) (new.wrap ∙ way) c.if-self.false c.in-Some-next.ensures.steps)
    new.found
