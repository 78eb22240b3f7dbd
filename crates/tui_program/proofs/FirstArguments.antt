-- The first arguments of a run, and the run with all of them.
use Rattle.std.proofs.Common.{◌≡◌, ℕ, ◌+◌, ◌-◌, ◌<◌, ◌≤◌, suc, List, [], ◌∷◌, ◌++◌, length, take, String, Global, sym, ap, subst, ◌∙◌, arith, inl, inr}
use Rattle.std.proofs.lemmas.List.{append_assoc, length-take-le, take_all}
use Rattle.std.proofs.lemmas.Bool.{cases_lt}
use Rattle.tui_program.specs.Transcript.{Transcript}
use Rattle.tui_program.specs.Outcomes.{NameNoCommand}
use Rattle.tui_program.specs.Rules.{Rules}
use Rattle.tui_program.specs.Runs.{IsRun}
use Rattle.tui_program.specs.Arguments.{most_arguments}
use Rattle.tui_program.specs.Stops.{Outcome}

-- the next item is taken after those that were taken
pub one_more : {X : Type 0} (taken now rest left all : List X) (x : X) (i : ℕ) → i < 4 → rest ≡ x ∷ left → now ≡ taken ++ x ∷ [] →
    taken ++ take (4 - i) rest ≡ all → now ++ take (4 - (i + 1)) left ≡ all
one_more {X} taken now rest left all x i below front write_result before =
    let room : 4 - i ≡ suc (4 - (i + 1)) = omega arith in
    rw (write_result, append_assoc taken (x ∷ []) (take (4 - (i + 1)) left)) (ap (λ (k : ℕ). taken ++ take k (x ∷ left)) (sym room)
    ∙ ap (λ (xs : List X). taken ++ take (4 - i) xs) (sym front) ∙ before)

-- if no command has more than three arguments, the first four decide the outcome of the run with all of them
pub run_by_all : {C R : Type 0} (rules : Rules C R) (first arguments : List (String Global)) {t : Transcript} {e : Outcome R} →
    ((command : C) (ws : List (String Global)) → rules.named command ws → length ws ≤ most_arguments) → first ≡ take 4 arguments → IsRun rules first t e →
    IsRun rules arguments t e
run_by_all {C} rules first arguments {t} {e} few is run = elim (cases_lt (length arguments) 4) [
  | inl below ↦ subst (λ (ws : List (String Global)). IsRun rules ws t e) (is ∙ take_all 4 arguments (omega arith)) run
  | inr above ↦
      let four : length first ≡ 4 = ap length is ∙ length-take-le 4 arguments above in
      let none : NameNoCommand rules arguments = λ command named. omega (arith, few command arguments named) in
      let none_first : NameNoCommand rules first = λ command named. omega (arith, few command first named) in
      record {
        ends = elim run.ends [ inl named ↦ absurd (none_first named.0 named.1) | inr unnamed ↦ inr (none, unnamed.1) ];
        complete = λ command named. absurd (none command named);
        usage = λ wrong. run.usage none_first;
      }
]
