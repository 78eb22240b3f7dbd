use Rattle.std.proofs.Common.{◌≡◌, ℕ, ◌+◌, ◌-◌, ◌<◌, ◌≤◌, List, ◌∷◌, length, drop, rules, true, sym, ap, ◌∙◌, arith}
use Rattle.std.proofs.lemmas.List.{drop_all}
use Rattle.tui_cells.specs.Cell.{Look}
use Rattle.tui_terminal.proofs.Walking.{dropped}
use Rattle.tui_terminal.proofs.changed.changed_end.Goals as goal

-- both rows from a column on, where the column is given in two ways
moved : (olds news : List Look) (i k : ℕ) → i ≡ k → drop i olds ≡ drop i news → drop k olds ≡ drop k news
moved olds news i k is same = sym (ap (λ n. drop n olds) is) ∙ (same ∙ ap (λ n. drop n news) is)

pub places-init : goal.places-init
places-init c =
    let olds = c.args.old.now in
    let news = c.args.new.now in
    let len = c.requires in
    drop_all (length news - 0) olds (omega (arith, len)) ∙ sym (drop_all (length news - 0) news (omega arith))

pub places-preserved : goal.places-preserved
places-preserved c =
    let olds = c.args.old.now in
    let news = c.args.new.now in
    let back = c.places.back in
    let place = length news - 1 - back in
    let lt : back < length news = search (rules, arith) in
    let on : c.is_same.result ≡ true = search rules in
    let same = c.is_same.ensures.0 on in
    let following = moved olds news (length news - back) (place + 1) (omega (arith, lt)) c.places.invariant in
    let len = c.requires in
    let first = dropped olds place c.index-old-place.result (omega (arith, lt, len)) c.index-old-place.is in
    let second = dropped news place c.index-new-place.result (omega (arith, lt)) c.index-new-place.is in
    moved olds news place (length news - (back + 1)) (omega (arith, lt)) (first ∙ ((λ j. same j ∷ following j) ∙ sym second))

pub returns-then-not-is_same : goal.returns-then-not-is_same
returns-then-not-is_same c =
    let news = c.args.new.now in
    let back = c.places.back in
    let lt : back < length news = search (rules, arith) in
    (omega (arith, lt), moved c.args.old.now news (length news - back) (length news - 1 - back + 1) (omega (arith, lt)) c.places.invariant)

pub returns : goal.returns
returns c =
    let news = c.args.new.now in
    let past : length news ≤ c.places.back = search (rules, arith) in
    (omega arith, moved c.args.old.now news (length news - c.places.back) 0 (omega (arith, past)) c.places.invariant)
