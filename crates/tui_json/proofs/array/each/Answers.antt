use Rattle.std.proofs.Common.{◌≡◌, ◌++◌, ◌∷◌, [], map, sym, ◌∙◌, Vec, Global}
use Rattle.std.proofs.lemmas.List.{map_push}
use Rattle.std.proofs.lemmas.Result.{err_from_is_err_and}
use Rattle.serde_json.specs.View.{items_view}
use Rattle.tui_json.specs.Members.{each_of}
use Rattle.tui_json.proofs.Arrays.{each_more, each_err, each_end}
use Rattle.tui_json.proofs.array.each.Goals as goal

pub returns-in_err-read-2 : goal.returns-in_err-read-2
returns-in_err-read-2 g c =
    let p = err_from_is_err_and c.from_residual-in_err-read-2.result c.from_residual-in_err-read-2.ensures.1 in
    rw (p.1, p.2)
    (each_err c.in_err-read-2.field-0.0 g.T.Kind.as_data (λ (v : Vec _ Global). map g.T.Kind.as_data v.items) g.T.Kind.kind
    (map g.T.Kind.as_data c.loop-value.read.items) c.loop-value.value-index c.args.values.now c.value-item.result
    (each_of g.T.Kind.kind (items_view c.args.values.now))
    c.loop-value-test.true c.value-item.is c.in_err-read-2.ensures c.loop-value.invariant)

pub loop-value-preserved : goal.loop-value-preserved
loop-value-preserved g c =
    let x = c.in_ok-read-2.field-0 in
    let e : map g.T.Kind.as_data c.push.new.self.items ≡ map g.T.Kind.as_data c.loop-value.read.items ++ g.T.Kind.as_data x ∷ [] = rw c.in_ok-push.ensures.items (map_push _ c.loop-value.read.items x) in
    rw e
    (sym
    (each_more g.T.Kind.kind (map g.T.Kind.as_data c.loop-value.read.items) c.loop-value.value-index c.args.values.now c.value-item.result
    (g.T.Kind.as_data x) c.loop-value-test.true c.value-item.is c.in_ok-read-2.ensures)
    ∙ c.loop-value.invariant)

pub returns : goal.returns
returns g c = sym c.loop-value.invariant ∙ each_end g.T.Kind.kind (map g.T.Kind.as_data c.loop-value.read.items) c.loop-value.value-index c.args.values.now c.loop-value-test.false
