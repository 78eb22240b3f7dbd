-- Laws: values of `PanesRefusal` and of `PanesEnded` that are equal by `==` are the same.
use Rattle.std.specs.Prelude.{◌≡◌, true}
use Rattle.std.proofs.Common.{rules}
use Rattle.std.proofs.lemmas.Bool.{and_parts}
use denote.Enum.Bare.{same_true}
use denote.Enum.Declared.{declared}
use Rattle.tui_schema.proofs.Same.{same_bad_field, same_field}
use Rattle.tui_schema.specs.contracts.field.FieldPartialEq as schema_field
use Rattle.tui_panes_run.specs.contracts.ended.PanesEndedPartialEq as ended
use Rattle.tui_panes_run.specs.contracts.field.PaneField.{enum}
use Rattle.tui_panes_run.specs.contracts.field.PaneFieldPartialEq as field
use Rattle.tui_panes_run.specs.contracts.refusal.PanesRefusalPartialEq as refusal
use Rattle.tui_panes_run.specs.declared.ended.PanesEnded.{PanesEnded}
use Rattle.tui_panes_run.specs.declared.ended.PanesEnded.TheVariants as endings
use Rattle.tui_panes_run.specs.declared.field.PaneField.{PaneField}
use Rattle.tui_panes_run.specs.declared.refusal.PanesRefusal.{PanesRefusal}
use Rattle.tui_panes_run.specs.declared.refusal.PanesRefusal.TheVariants as refusals

same_pane_field : (a b : PaneField) → field.TheImpl.ghosts.eq a b ≡ true → a ≡ b
same_pane_field a b e = same_true (declared enum) tt a b e

-- values of `PanesRefusal` that are equal by `==` are the same
pub same_refusal : (a b : PanesRefusal) → refusal.TheImpl.ghosts.eq a b ≡ true → a ≡ b
same_refusal (refusals.BadPane p f) (refusals.BadPane q g) e =
    let both = and_parts _ (field.TheImpl.ghosts.eq f g) e in
    Prim.search (rules, both.0, same_pane_field f g both.1)
same_refusal (refusals.BadField a) (refusals.BadField b) e = Prim.search (rules, same_bad_field a b e)
same_refusal a b e = Prim.search rules

-- so are values of `PanesEnded`
pub same_ended : (a b : PanesEnded) → ended.TheImpl.ghosts.eq a b ≡ true → a ≡ b
same_ended (endings.BadPane p f) (endings.BadPane q g) e =
    let both = and_parts _ (field.TheImpl.ghosts.eq f g) e in
    Prim.search (rules, both.0, same_pane_field f g both.1)
same_ended (endings.BadField i f) (endings.BadField j g) e =
    let both = and_parts _ (schema_field.TheImpl.ghosts.eq f g) e in
    Prim.search (rules, both.0, same_field f g both.1)
same_ended a b e = Prim.search rules
