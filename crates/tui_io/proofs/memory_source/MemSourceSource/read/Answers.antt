use Rattle.std.proofs.Common.{◌≡◌, min, arith, length, take, drop, ap, rules}
use Rattle.std.proofs.lemmas.List.{length-drop, length-take, length-append}
use Rattle.tui_io.proofs.Outside.{part_from, read_part, read_end}
use Rattle.tui_io.proofs.memory_source.MemSourceSource.read.Goals as goal

pub returns-clause-bytes : goal.returns-clause-bytes
returns-clause-bytes c =
    let a = c.self.inside.at in
    let bytes = c.self.inside.bytes.items in
    let m = c.min-count.result in
    let left : c.args.self.now.left ≡ drop a bytes = search rules in
    let least : m ≡ min (length (drop a bytes)) (length c.args.into.now) = rw (c.deref-2.ensures.value, part_from) at c.min-count.ensures in
    let copied : c.copy_from_slice.new.self ≡ take m (drop a bytes) = rw (c.deref-2.ensures.value, part_from) at c.copy_from_slice.ensures.after in
    rw left (
      read_part a m bytes c.copy_from_slice.new.self c.args.into.now copied (omega arith),
      λ zero some. read_end a m bytes (omega (arith, length-append c.copy_from_slice.new.self (drop m c.args.into.now), length-drop m c.args.into.now, ap length copied, length-take m (drop a bytes))),
    )
