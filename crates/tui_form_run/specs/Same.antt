-- Laws: keys that are equal by `==` are the same.
use Rattle.std.specs.Prelude.{◌≡◌, true}
use Rattle.std.proofs.Common.{rules}
use Rattle.std.proofs.lemmas.Bool.{and_parts}
use denote.Enum.Bare.{same_true}
use denote.Enum.Declared.{declared}
use Rattle.tui_form_run.specs.contracts.bad_form.BadFormPartialEq as bad_form
use Rattle.tui_form_run.specs.contracts.key.FormKey.{enum}
use Rattle.tui_form_run.specs.contracts.key.FormKeyPartialEq as key
use Rattle.tui_form_run.specs.declared.bad_form.BadForm.{BadForm}
use Rattle.tui_form_run.specs.declared.key.FormKey.{FormKey}

-- keys that are equal by `==` are the same
pub same_key : (a b : FormKey) → key.TheImpl.ghosts.eq a b ≡ true → a ≡ b
same_key a b e = same_true (declared enum) tt a b e

-- so are keys of fields
pub same_bad_form : (a b : BadForm) → bad_form.TheImpl.ghosts.eq a b ≡ true → a ≡ b
same_bad_form a b e =
    let both = and_parts _ (key.TheImpl.ghosts.eq a.key b.key) e in
    Prim.search (rules, both.0, same_key a.key b.key both.1)
