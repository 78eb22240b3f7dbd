-- Commands that the first arguments name, and what a run comes to.
use Rattle.std.proofs.Common.{◌≡◌, ◌≤◌, ℕ, List, length, drop, take, Result, Ok, Err, String, Global, Vec, refl, sym, ap, subst, ◌∙◌, arith, inl, inr}
use Rattle.std.specs.declared.io.Error.{Error}
use Rattle.std.specs.declared.vec.IntoIter.{IntoIter}
use Rattle.std.specs.Vec.Iter.{into_iter_items}
use Rattle.std.proofs.lemmas.Bool.{cases_lt}
use Rattle.std.proofs.lemmas.List.{length-take-le, take_all}
use Rattle.arrayvec.specs.ArrayVec.{ArrayVec}
use Rattle.tui_program.specs.Arguments.{most_arguments}
use Rattle.tui_program.specs.Input.{AreGiven, Reaches}
use Rattle.tui_program.specs.declared.stop.Stop.{Stop}
use Rattle.tui_program.specs.declared.stop.Stop.TheVariants as stop
use Rattle.tui_system.specs.Commands.{ComesTo, IsCommand, IsReadFor, Reader, is_named, no_memory, out_of_memory, rejected, unnamed}
use Rattle.tui_system.specs.System.{Given}

-- if the first four arguments are fewer than four, they are all of them
first_is_all : (all first : List (String Global)) → first ≡ take 4 all → length first ≤ most_arguments → first ≡ all
first_is_all all first is few = elim (cases_lt (length all) 4) [
  | inl below ↦ is ∙ take_all 4 all (omega arith)
  | inr above ↦ absurd (let four = ap length is ∙ length-take-le 4 all above in omega arith)
]

-- a command that the first arguments name is the one that all of them name
pub command_given : {C R : Type 0} (given : Given) (named : C → List (String Global) → Type 0) (args : Result (IntoIter (String Global) Global) Error)
    (first : ArrayVec (String Global)) (command : C) → ((command : C) (ws : List (String Global)) → named command ws → length ws ≤ most_arguments) →
    given.arguments args → AreGiven {R = R} args (Ok first) → named command first.items → IsCommand {R = R} given named (Ok command)
command_given given named (Ok all) first command few gives is h =
    is_named all command gives (subst (named command) (first_is_all (drop 1 (into_iter_items all)) first.items is (few command first.items h)) h)
command_given given named (Err error) first command few gives is h = absurd is

-- if the first arguments name no command, all of them name none
pub none_given : {C R : Type 0} (given : Given) (named : C → List (String Global) → Type 0) (args : Result (IntoIter (String Global) Global) Error)
    (first : ArrayVec (String Global)) → ((command : C) (ws : List (String Global)) → named command ws → length ws ≤ most_arguments) → given.arguments args →
    AreGiven {R = R} args (Ok first) → ((command : C) → named command first.items → ⊥) → IsCommand {C = C} {R = R} given named (Err stop.Usage)
none_given given named (Ok all) first few gives is none =
    let rest = drop 1 (into_iter_items all) in
    unnamed all gives (λ command h. none command (subst (named command) (sym (is ∙ take_all 4 rest (let short = few command rest h in omega arith))) h))
none_given given named (Err error) first few gives is none = absurd is

-- arguments that the system does not give
pub not_given : {C R : Type 0} (given : Given) (named : C → List (String Global) → Type 0) (args : Result (IntoIter (String Global) Global) Error) (stopped : Stop R) →
    given.arguments args → AreGiven args (Err stopped) → IsCommand {C = C} given named (Err stopped)
not_given given named (Err error) stop.Usage gives is = rejected error gives is
not_given given named (Err error) stop.NoMemory gives is = out_of_memory error gives is
not_given given named (Err error) other gives is = absurd is
not_given given named (Ok all) stopped gives is = absurd is

-- ---- what a run comes to

pub comes_read : {C I R : Type 0} (given : Given) (r : Reader C I R) (command : C) (bytes : Vec ℕ Global) (x : Result I (Stop R)) →
    IsReadFor {R = R} given r.named r.file (Ok (command, bytes)) → r.means command bytes.items x → ComesTo given r x
comes_read given r command bytes x read means = (Ok (command, bytes), read, means)

pub comes_unread : {C I R : Type 0} (given : Given) (r : Reader C I R) (stopped : Stop R) → IsReadFor given r.named r.file (Err stopped) →
    ComesTo given r (Err stopped)
comes_unread given r stopped read = (Err stopped, read, refl)

pub comes_without_memory : {C I R : Type 0} (given : Given) (r : Reader C I R) → ComesTo given r (Err stop.NoMemory)
comes_without_memory given r = (Err stop.NoMemory, no_memory, refl)

-- what follows from what a run did with its input
pub reaches_doing : {I E R : Type 0} (comes : Result I (Stop R) → Type 0) (does also : I → E → Type 0) (e : Result E (Stop R)) →
    ((input : I) (end : E) → does input end → also input end) → Reaches comes does e → Reaches comes also e
reaches_doing comes does also (Ok end) all h = (h.0, h.1, all h.0 end h.2)
reaches_doing comes does also (Err stopped) all h = h
