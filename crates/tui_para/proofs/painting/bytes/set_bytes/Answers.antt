use Rattle.std.proofs.Common.{arith, rules, length, take, ◌≡◌, ◌+◌, ◌≤◌}
use Rattle.tui_cells.specs.Rect.{right_of}
use Rattle.tui_para.proofs.ByteRuns.{kept_set, run_set}
use Rattle.tui_para.proofs.painting.bytes.set_bytes.Goals as goal

pub returns-clause-rest : goal.returns-clause-rest
returns-clause-rest c = λ final q.
    let n = c.copy_bytes-count.result in
    let long : n ≡ length (take n c.copy_bytes-count.new.bytes) = search (rules, arith) in
    let right : c.args.at.x + n ≤ right_of c.args.clip = search (rules, arith) in
    run_set c.args.clip c.args.at.x c.args.at.y n _ _ _ _ _ _ final c.requires.inside long right c.copy_bytes-count.ensures.printable c.copy_bytes-count.ensures.copied c.set_ascii.ensures q

pub returns-clause-kept : goal.returns-clause-kept
returns-clause-kept c =
    let n = c.copy_bytes-count.result in
    let long : n ≡ length (take n c.copy_bytes-count.new.bytes) = search (rules, arith) in
    let right : c.args.at.x + n ≤ right_of c.args.clip = search (rules, arith) in
    kept_set c.args.clip c.args.at.x c.args.at.y n _ _ _ _ c.requires.inside long right c.set_ascii.ensures
