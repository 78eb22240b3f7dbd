use Rattle.std.proofs.Common.{◌≡◌, length, arith}
use Rattle.std.proofs.lemmas.Bool.Decides.{nat_tests}
use Rattle.tui_clusters.proofs.LoneChars.{chars-one}
use Rattle.tui_clusters.proofs.plain.high_char.Goals as goal

pub returns-in-Some : goal.returns-in-Some
returns-in-Some c =
    let none : length c.in-Some.rest.now ≡ 0 = grind (arith, c.is_empty.ensures) in
    (chars-one c.args.text.now c.in-Some.rest.now c.in-Some.c c.utf8.text c.in-Some.ensures.split none, grind (arith, nat_tests))
