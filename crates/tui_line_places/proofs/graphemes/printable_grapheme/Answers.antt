use Rattle.std.proofs.Common.{◌<◌, nat_eq, length, slice_index, ap, arith, rules}
use Rattle.std.specs.Str.{IsUtf8}
use Rattle.tui_line_places.proofs.Printable.{printable_next}
use Rattle.tui_line_places.proofs.graphemes.printable_grapheme.Goals as goal

pub returns : goal.returns
returns c =
    let after : IsUtf8 c.split_at.result.1.now = search rules in
    let some : 0 < c.args.max_width = search (rules, arith) in
    let long : 0 < length c.args.text.now = search (rules, arith) in
    printable_next c.args.max_width c.args.text.now c.split_at.result.1.now _ c.utf8.text after some long
    (c.is_printable_first.ensures.first (search rules)) (c.is_printable_first.ensures.is.0 (search rules)).0 c.split_at.ensures.back (ap (λ t. nat_eq (slice_index t 0) 32) c.as_bytes.ensures.value)
