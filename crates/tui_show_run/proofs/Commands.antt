-- The command that the arguments name.
use Rattle.std.proofs.Common.{◌≡◌, ℕ, List, [], ◌∷◌, Err, String, Global, sym, ap, ◌∙◌, arith}
use Rattle.tui_program.specs.Outcomes.{NameNoCommand}
use Rattle.tui_program.specs.declared.stop.Stop.TheVariants as stop
use Rattle.tui_show_run.specs.Commands.{IsDemoCommand, IsSceneCommand, IsNoCommand, Names}
use Rattle.tui_show_run.specs.Ended.{outcome_of}
use Rattle.tui_show_run.specs.Outcomes.{show_rules}
use Rattle.tui_show_run.specs.declared.command.ShowCommand.{ShowCommand}
use Rattle.tui_show_run.specs.declared.command.ShowCommand.TheVariants as command
use Rattle.tui_show_run.specs.declared.ended.Ended.{Ended}
use Rattle.tui_show_run.specs.declared.ended.Ended.TheVariants as ended

-- no arguments name both commands
pub not_both : (ws : List (String Global)) (n : ℕ) → IsSceneCommand ws → IsDemoCommand n ws → ⊥
not_both ws n scene demo = two_is_one (sym scene ∙ demo.1)
  where
    two_is_one : {v w x : List ℕ} → v ∷ [] ≡ w ∷ x ∷ [] → ⊥
    two_is_one e = cc

pub only_demo : (ws : List (String Global)) (n : ℕ) → IsDemoCommand n ws → ((m : ℕ) → IsDemoCommand m ws → m ≡ n) → (other : ShowCommand) → Names other ws →
    other ≡ command.Demo n
only_demo ws n are one command.Scene scene = absurd (not_both ws n scene are)
only_demo ws n are one (command.Demo m) demo = ap (λ (k : ℕ). command.Demo k) (one m demo)

-- arguments that are those of no command name none
pub name_none : (ws : List (String Global)) → IsNoCommand ws → NameNoCommand show_rules ws
name_none ws wrong command.Scene are = wrong.0 are
name_none ws wrong (command.Demo n) are = wrong.1 n are

-- the outcome of any program determines that of this one
pub usage_is : (e : Ended) → outcome_of e ≡ Err stop.Usage → e ≡ ended.Usage
usage_is e is = grind arith

pub fault_is : (e : Ended) → outcome_of e ≡ Err stop.WriteFault → e ≡ ended.WriteFault
fault_is e is = grind arith
