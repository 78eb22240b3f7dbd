use Rattle.std.proofs.Common.{arith, refl}
use Rattle.std.proofs.lemmas.Bool.{false≢true}
use Rattle.tui_cells.specs.Style.{no_style}
use Rattle.tui_pages_lib.proofs.ContinuesFromByte.{begins, left_whole, moved_more, no_byte, none_more, nowhere_more}
use Rattle.tui_pages_lib.proofs.Measured.{drop_past}
use Rattle.tui_pages_lib.proofs.starts.start_after_lines.Goals as goal
use Rattle.tui_pages_lib.specs.Starts.{cell_lines}
use Rattle.tui_text.specs.declared.alignment.Alignment.TheVariants.{Left}

pub returns-in-None : goal.returns-in-None
returns-in-None c = record {
  further = λ line g.
      nowhere_more c.args.width line c.args.lines c.args.start _ c.args.cell.now (λ b. absurd (false≢true (c.in-None.ensures.variant.1 b)))
      (no_byte c.args.cell.now _ (omega arith)) g;
  begins = begins c.args.width c.args.cell.now c.utf8.cell;
}

pub returns-in-None-from_line : goal.returns-in-None-from_line
returns-in-None-from_line c = record {
  further = λ line g.
      none_more c.args.width line c.args.lines c.args.start _ c.args.cell.now c.in-Some.rest.now (c.in-Some.ensures.variant.0 refl) c.in-Some.ensures.back
      (no_byte c.args.cell.now _ (omega arith))
      (drop_past c.args.lines (cell_lines c.args.width c.in-Some.rest.now) (c.in-None-from_line.ensures.past.0 refl no_style Left)) g;
  begins = begins c.args.width c.args.cell.now c.utf8.cell;
}

pub byte_offset_in-requires : goal.byte_offset_in-requires
byte_offset_in-requires c =
    let a = c.in-Some-from_line.ensures.rest in
    left_whole c.args.cell.now c.in-Some.rest.now c.in-Some-from_line.left.now a.front c.args.start c.in-Some.ensures.back a.whole

pub returns-in-Some-from_line : goal.returns-in-Some-from_line
returns-in-Some-from_line c = record {
  further = λ line g.
      moved_more c.args.width line c.args.lines c.args.start c.byte_offset_in.result c.args.cell.now c.in-Some.rest.now c.in-Some-from_line.left.now
      (c.in-Some.ensures.variant.0 refl) c.in-Some.ensures.back c.byte_offset_in.ensures.rest c.byte_offset_in.ensures.begins
      (c.in-Some-from_line.ensures.rest.lines no_style Left) g;
  begins = begins c.args.width c.args.cell.now c.utf8.cell;
}
