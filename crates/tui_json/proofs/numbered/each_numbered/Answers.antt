use Rattle.std.proofs.Common.{◌≡◌, ◌++◌, ◌∷◌, [], map, sym, ◌∙◌}
use Rattle.std.proofs.lemmas.List.{map_push}
use Rattle.std.proofs.lemmas.Result.{err_from_is_err_and}
use Rattle.tui_json.specs.Refusals.{numbered, refused}
use Rattle.serde_json.specs.View.{items_view}
use Rattle.tui_json.proofs.Numbering.{numbered_more, numbered_err, numbered_end}
use Rattle.tui_json.proofs.numbered.each_numbered.Goals as goal

pub returns-in_err-read-2 : goal.returns-in_err-read-2
returns-in_err-read-2 g c =
    let p = err_from_is_err_and c.from_residual-in_err-read-2.result c.from_residual-in_err-read-2.ensures.1 in
    let tests = g.T.Numbered.tests c.args.context in
    rw (p.1, p.2)
    (numbered_err tests (refused c.in_err-read-2.field-0.0) (map g.T.Numbered.as_data c.loop-number.read.items)
    c.loop-number.number c.args.values.now c.index-values-number.result (numbered tests 0 (items_view c.args.values.now))
    c.loop-number-test.true c.index-values-number.is c.in_err-read-2.ensures c.loop-number.invariant)

pub loop-number-preserved : goal.loop-number-preserved
loop-number-preserved g c =
    let x = c.in_ok-read-2.field-0 in
    let e : map g.T.Numbered.as_data c.push.new.self.items ≡ map g.T.Numbered.as_data c.loop-number.read.items ++ g.T.Numbered.as_data x ∷ [] =
    rw c.in_ok-push.ensures.items (map_push _ c.loop-number.read.items x) in
    rw e
    (sym
    (numbered_more (g.T.Numbered.tests c.args.context) (map g.T.Numbered.as_data c.loop-number.read.items) c.loop-number.number c.args.values.now
    c.index-values-number.result (g.T.Numbered.as_data x) c.loop-number-test.true c.index-values-number.is c.in_ok-read-2.ensures)
    ∙ c.loop-number.invariant)

pub returns : goal.returns
returns g c =
    sym c.loop-number.invariant
    ∙ numbered_end (g.T.Numbered.tests c.args.context) (map g.T.Numbered.as_data c.loop-number.read.items) c.loop-number.number c.args.values.now
    c.loop-number-test.false
