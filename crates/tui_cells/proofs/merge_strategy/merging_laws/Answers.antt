use Rattle.tui_cells.proofs.Joining.{blank_unknown, either_order_joins, every_join_exists, fuzzy_always_joins, plain_symbols_join, unknown_gives_new}
use Rattle.tui_cells.proofs.merge_strategy.merging_laws.Goals as goal

pub returns : goal.returns
returns c = record {
  every_join = every_join_exists;
  fuzzy = fuzzy_always_joins;
  blank = blank_unknown;
  unknown = unknown_gives_new;
  plain = plain_symbols_join;
  either_order = either_order_joins;
}
