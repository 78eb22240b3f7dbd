use Rattle.std.proofs.lemmas.Bool.{and_parts}
use Rattle.std.specs.Cmp.Lexicographic.{pointwise}
use Rattle.std.specs.Option.{option_eq}
use Rattle.tui_frames.specs.contracts.block.BlockPartialEq.TheImpl as blocks
use Rattle.tui_text.specs.contracts.text.TextPartialEq.TheImpl as texts
use Rattle.tui_table.specs.contracts.row.RowPartialEq.TheImpl as rows
use Rattle.tui_table.specs.contracts.table.TableEq.TheImpl.Laws.{laws-law}
use Rattle.tui_table.proofs.table.Table.clone.Goals as goal

-- what is copied is equal, and the rest is unchanged
pub returns-clause-equal : goal.returns-clause-equal
returns-clause-equal c =
    let t = c.args.self.now in
    rw (
      c.in_ok-clone.ensures.equal,
      c.in_ok-clone_row_if_some.ensures.equal,
      c.in_ok-clone_row_if_some-2.ensures.equal,
      c.in_ok-clone_if_some.ensures.equal,
      c.in_ok-clone-2.ensures.equal,
      c.in_ok-clone_widths.ensures,
    )
    (and_parts (texts.eq-value.it t.highlight_symbol t.highlight_symbol) _ (and_parts (option_eq blocks.eq-value.it t.block t.block) _
    (and_parts (option_eq rows.eq-value.it t.footer t.footer) _ (and_parts (option_eq rows.eq-value.it t.header t.header) _
    (and_parts (pointwise rows.eq-value.it t.rows t.rows) _ (laws-law.refl t)).1).1).1).1).1
