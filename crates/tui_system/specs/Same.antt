-- Laws: settings that `==` calls equal are the same.
use Rattle.std.specs.Prelude.{◌≡◌, true}
use Rattle.std.proofs.Common.{rules}
use Rattle.std.proofs.lemmas.Bool.{and_parts}
use Rattle.tui_terminal_model.specs.contracts.output.OutputPartialEq as output
use Rattle.tui_terminal_model.specs.Same.{same_output}
use Rattle.tui_system.specs.contracts.settings.SettingPartialEq as setting
use Rattle.tui_system.specs.declared.settings.Setting.{Setting}

-- settings that `==` calls equal are the same
pub same_setting : (a b : Setting) → setting.TheImpl.ghosts.eq a b ≡ true → a ≡ b
same_setting a b e =
    let both = and_parts (output.TheImpl.ghosts.eq a.output b.output) _ e in
    Prim.search (rules, same_output a.output b.output both.0, both.1)
