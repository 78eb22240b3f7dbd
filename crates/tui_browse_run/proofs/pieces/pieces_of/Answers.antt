use Rattle.std.proofs.Common.{arith, subst, sym}
use Rattle.std.specs.Str.{IsUtf8}
use Rattle.std.proofs.lemmas.Str.{IsUtf8-drop}
use Rattle.tui_browse_run.proofs.Cuts.{all_cut, few_feeds, first_cut, many_cut, next_is}
use Rattle.tui_browse_run.proofs.pieces.pieces_of.Goals as goal

pub pieces-init : goal.pieces-init
pieces-init g c = (c.utf8.text, rw c.new-pieces.ensures.items (first_cut c.args.text.now))

pub returns-then-is_empty : goal.returns-then-is_empty
returns-then-is_empty g c =
    all_cut c.args.text.now c.pieces._i c.pieces.pieces.items c.pieces.line c.pieces.rest.now c.is_empty.result c.pieces.invariant.1
    (let below = c.pieces-test.true in omega arith) c.is_empty.ensures c.if-is_empty.true

pub overflow_add-line : goal.overflow_add-line
overflow_add-line g c =
    let few = few_feeds c.pieces.rest.now c.first_piece-cut.result.len c.first_piece-cut.ensures.ends in
    let is = c.first_piece-cut.ensures.line_feeds in
    let low = c.pieces.invariant.1.low in
    let below = c.pieces-test.true in
    omega arith

pub pieces-preserved : goal.pieces-preserved
pieces-preserved g c = (
  subst IsUtf8 (sym c.split_at.ensures.back) (IsUtf8-drop c.pieces.rest.now c.first_piece-cut.result.len c.pieces.invariant.0 c.first_piece-cut.ensures.boundary),
  next_is c.args.text.now c.pieces._i c.pieces.pieces.items c.push.new.self.items c.pieces.line c.pieces.rest.now c.split_at.result.1.now
      c.first_piece-cut.result.len c.first_piece-cut.result.line_feeds c.split_at.result.0 c.pieces.invariant.1 c.first_piece-cut.ensures.ends
      c.first_piece-cut.ensures.line_feeds c.split_at.ensures.front c.split_at.ensures.back c.in_ok-push.ensures.items,
)

pub returns-then-is_empty-2 : goal.returns-then-is_empty-2
returns-then-is_empty-2 g c =
    all_cut c.args.text.now c.pieces._i c.pieces.pieces.items c.pieces.line c.pieces.rest.now c.is_empty-2.result c.pieces.invariant.1
    c.pieces.auto._i-end c.is_empty-2.ensures c.if-is_empty-2.true

pub returns : goal.returns
returns g c =
    let over = c.pieces-test.false in
    let end = c.pieces.auto._i-end in
    many_cut c.args.text.now c.pieces._i c.pieces.pieces.items c.pieces.line c.pieces.rest.now c.is_empty-2.result c.pieces.invariant.1
    (grind arith) c.is_empty-2.ensures c.if-is_empty-2.false
