use Rattle.std.proofs.Common.{◌≡◌, arith, length}
use Rattle.tui_text.proofs.Runs.{none_written}
use Rattle.tui_text.proofs.setting.set_bytes.Goals as goal

pub returns-then-is_empty : goal.returns-then-is_empty
returns-then-is_empty c =
    let none : length c.args.bytes.now ≡ 0 = grind (arith, c.is_empty.ensures) in
    none_written c.args.at.x c.args.at.y c.args.style c.args.bytes.now _ none
