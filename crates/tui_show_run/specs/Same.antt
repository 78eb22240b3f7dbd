-- Laws: outcomes that `==` calls equal are the same.
use Rattle.std.specs.Prelude.{◌≡◌, true}
use Rattle.std.proofs.Common.{rules}
use Rattle.std.proofs.lemmas.Bool.{and_parts}
use Rattle.tui_schema.proofs.Same.{same_field}
use Rattle.tui_schema.specs.contracts.field.FieldPartialEq as field
use Rattle.tui_show_run.specs.contracts.ended.EndedPartialEq as ended
use Rattle.tui_show_run.specs.declared.ended.Ended.{Ended}
use Rattle.tui_show_run.specs.declared.ended.Ended.TheVariants as outcomes

-- outcomes that `==` calls equal are the same
pub same_ended : (a b : Ended) → ended.TheImpl.ghosts.eq a b ≡ true → a ≡ b
same_ended (outcomes.BadField i f) (outcomes.BadField j g) e =
    let both = and_parts _ (field.TheImpl.ghosts.eq f g) e in
    Prim.search (rules, both.0, same_field f g both.1)
same_ended a b e = Prim.search rules
