-- Between entering and leaving the alternate screen the main screen is kept. On the main screen, what frames
-- have drawn stays.
use Rattle.std.proofs.Common.{◌≡◌, ℕ, ◌+◌, Bool, true, false, not, ◌&&◌, List, [], ◌∷◌, ◌++◌, All, cond, refl, sym, ap, subst, ◌∙◌}
use Rattle.std.specs.Prelude.{nat_le, nat_lt, if◌then◌else◌, Option, None, Some}
use Rattle.std.proofs.lemmas.Bool.{cond-true}
use Rattle.std.proofs.lemmas.List.Elements.{All-head, All-tail}
use Rattle.tui_text.specs.Visible.{step_of}
use Rattle.tui_terminal_model.specs.Sends.{IsSafe}
use Rattle.tui_terminal_model.specs.Session.{RestoresMainScreen, IsMainRestored, IsSettled, Settles, enter_commands, leave_commands, settle_commands}
use Rattle.tui_terminal_model.specs.Terminal.{Command, SavedScreen, Pen, Spot, Tty, across, after, add, alternate, autowrap, bracketed, drawn, synchronizing, kept, cells_unknown, nothing, paint, place, print, printed, reach, rest, run, row_unknown, step, switched, reset_modes, set_mode, unsure, visible, with_row}
use Rattle.tui_terminal_laws.proofs.Pen.{run_append, steps}

-- nothing was cut short, this screen is shown, and bracketed paste is as given
pub record IsOn (screen : SavedScreen) (brackets : Option Bool) (t : Tty) : Type 0 where
  pub whole : t.whole ≡ true
  pub main : t.screen ≡ screen
  pub pasted : t.bracketed ≡ brackets

either : (screen : SavedScreen) (brackets : Option Bool) (b : Bool) (t u : Tty) → IsOn screen brackets t → IsOn screen brackets u → IsOn screen brackets (cond b t u)
either screen brackets true t u a c = a
either screen brackets false t u a c = c

printed_on : (screen : SavedScreen) (brackets : Option Bool) (knows : List ℕ → Bool) (symbol : List ℕ) (t : Tty) (at : Option Spot) (pen : Option Pen) →
    IsOn screen brackets t → IsOn screen brackets (printed knows symbol t at pen)
printed_on screen brackets knows symbol t None pen is = record { whole = is.whole; main = is.main; pasted = is.pasted }
printed_on screen brackets knows symbol t (Some at) None is = record { whole = is.whole; main = is.main; pasted = is.pasted }
printed_on screen brackets knows symbol t (Some at) (Some pen) is =
    let gone : IsOn screen brackets (cells_unknown t) = record { whole = is.whole; main = is.main; pasted = is.pasted } in
    let row : IsOn screen brackets (row_unknown at.row t) = record { whole = is.whole; main = is.main; pasted = is.pasted } in
    let known : Tty = record t {
      cells = with_row at.row (drawn at.column symbol pen (t.cells at.row)) t.cells;
      cursor = if nat_lt (at.column + step_of symbol) t.columns then Some (record { column = at.column + step_of symbol; row = at.row }) else None;
    } in
    let here : IsOn screen brackets known = record { whole = is.whole; main = is.main; pasted = is.pasted } in
    either screen brackets (not t.modes_reset) (cells_unknown t) _ gone
    (either screen brackets (knows symbol && nat_le (at.column + step_of symbol) t.columns) known _ here
    (either screen brackets (nat_le (at.column + reach symbol) t.columns) (row_unknown at.row t) (cells_unknown t) row gone))

step_on : (screen : SavedScreen) (brackets : Option Bool) (knows : List ℕ → Bool) (c : Command) (t : Tty) → IsSafe c → IsOn screen brackets t → IsOn screen brackets (step knows c t)
step_on screen brackets knows reset_modes t safe is = record { whole = is.whole; main = is.main; pasted = is.pasted }
step_on screen brackets knows (place x y) t safe is = record { whole = is.whole; main = is.main; pasted = is.pasted }
step_on screen brackets knows (paint ss) t safe is = record { whole = is.whole; main = is.main; pasted = is.pasted }
step_on screen brackets knows (across x) t safe is = record { whole = is.whole; main = is.main; pasted = is.pasted }
step_on screen brackets knows (add s ss) t safe is = record { whole = is.whole; main = is.main; pasted = is.pasted }
step_on screen brackets knows (print symbol) t safe is = printed_on screen brackets knows symbol t t.cursor t.pen is
step_on screen brackets knows (set_mode visible on) t safe is = record { whole = is.whole; main = is.main; pasted = is.pasted }
step_on screen brackets knows (set_mode synchronizing on) t safe is = record { whole = is.whole; main = is.main; pasted = is.pasted }
step_on screen brackets knows (set_mode autowrap on) t safe is = absurd safe
step_on screen brackets knows (set_mode bracketed on) t safe is = absurd safe
step_on screen brackets knows (set_mode alternate on) t safe is = absurd safe

frames_on : (screen : SavedScreen) (brackets : Option Bool) (knows : List ℕ → Bool) (cs : List Command) (t : Tty) → All IsSafe cs → IsOn screen brackets t →
    IsOn screen brackets (run knows cs t)
frames_on screen brackets knows [] t safe is = is
frames_on screen brackets knows (c ∷ cs) t safe is =
    frames_on screen brackets knows cs (after knows c t) (All-tail IsSafe c cs safe)
    (subst (IsOn screen brackets) (sym (steps knows c t is.whole)) (step_on screen brackets knows c t (All-head IsSafe c cs safe) is))

-- ---- entering

entered : (knows : List ℕ → Bool) (t : Tty) → t.whole ≡ true → t.alternates ≡ true → t.screen ≡ nothing → IsOn (kept t.cells t.cursor) (Some true) (run knows enter_commands t)
entered knows t whole alternates main =
    let u : Tty = record (cells_unknown t) { screen = kept t.cells t.cursor; pen = None; modes_reset = false; autowrap = None } in
    let v : Tty = step knows reset_modes u in
    let w : Tty = record v { bracketed = Some true } in
    let first : after knows (set_mode alternate true) t ≡ u =
    steps knows (set_mode alternate true) t whole ∙ ap (λ s. switched true s t) main
    ∙ ap (λ (k : SavedScreen). record (cells_unknown t) { screen = k; pen = None; modes_reset = false; autowrap = None }) (cond-true t.alternates (kept t.cells t.cursor) unsure alternates) in
    let all : run knows enter_commands t ≡ w =
    ap (run knows (reset_modes ∷ set_mode bracketed true ∷ [])) first
    ∙ ap (run knows (set_mode bracketed true ∷ [])) (steps knows reset_modes u whole)
    ∙ steps knows (set_mode bracketed true) v whole in
    subst (IsOn (kept t.cells t.cursor) (Some true)) (sym all) (record { whole = whole; main = refl; pasted = refl })

-- ---- leaving

left : (knows : List ℕ → Bool) (t u : Tty) → IsOn (kept t.cells t.cursor) (Some true) u → IsMainRestored t (run knows leave_commands u)
left knows t u is =
    let a : Tty = record u { synchronizing = Some false } in
    let b : Tty = record a { bracketed = Some false } in
    let c : Tty = record b { cells = t.cells; cursor = t.cursor; screen = nothing; pen = None; modes_reset = false; autowrap = None } in
    let d : Tty = record c { pen = Some rest } in
    let e : Tty = record d { autowrap = Some true; modes_reset = false } in
    let f : Tty = record e { visible = Some true } in
    let back : after knows (set_mode alternate false) b ≡ c = steps knows (set_mode alternate false) b is.whole ∙ ap (λ s. switched false s b) is.main in
    let all : run knows leave_commands u ≡ f =
    ap (run knows (set_mode bracketed false ∷ set_mode alternate false ∷ paint [] ∷ set_mode autowrap true ∷ set_mode visible true ∷ [])) (steps knows (set_mode synchronizing false) u is.whole)
    ∙ ap (run knows (set_mode alternate false ∷ paint [] ∷ set_mode autowrap true ∷ set_mode visible true ∷ [])) (steps knows (set_mode bracketed false) a is.whole)
    ∙ ap (run knows (paint [] ∷ set_mode autowrap true ∷ set_mode visible true ∷ [])) back
    ∙ ap (run knows (set_mode autowrap true ∷ set_mode visible true ∷ [])) (steps knows (paint []) c is.whole)
    ∙ ap (run knows (set_mode visible true ∷ [])) (steps knows (set_mode autowrap true) d is.whole)
    ∙ steps knows (set_mode visible true) e is.whole in
    let done : IsMainRestored t f = record {
      cells = refl;
      cursor = refl;
      main = refl;
      unstyled = refl;
      wraps = refl;
      seen = refl;
      not_synchronizing = refl;
      not_bracketed = refl;
      whole = is.whole;
    } in
    subst (IsMainRestored t) (sym all) done

pub restores_main_screen : RestoresMainScreen
restores_main_screen knows t frames whole alternates main safe =
    let u : Tty = run knows enter_commands t in
    let away = entered knows t whole alternates main in
    let v : Tty = run knows frames u in
    subst (IsMainRestored t) (sym (run_append knows enter_commands (frames ++ leave_commands) t ∙ run_append knows frames leave_commands u))
    (left knows t v (frames_on (kept t.cells t.cursor) (Some true) knows frames u safe away))

-- ---- the end of a display on the main screen

settled : (knows : List ℕ → Bool) (t u : Tty) → IsOn t.screen t.bracketed u → IsSettled t u (run knows settle_commands u)
settled knows t u is =
    let a : Tty = record u { synchronizing = Some false } in
    let b : Tty = record a { pen = Some rest } in
    let c : Tty = step knows (set_mode autowrap true) b in
    let d : Tty = record c { visible = Some true } in
    let all : run knows settle_commands u ≡ d =
    ap (run knows (paint [] ∷ set_mode autowrap true ∷ set_mode visible true ∷ [])) (steps knows (set_mode synchronizing false) u is.whole)
    ∙ ap (run knows (set_mode autowrap true ∷ set_mode visible true ∷ [])) (steps knows (paint []) a is.whole)
    ∙ ap (run knows (set_mode visible true ∷ [])) (steps knows (set_mode autowrap true) b is.whole)
    ∙ steps knows (set_mode visible true) c is.whole in
    let done : IsSettled t u d = record {
      cells = refl;
      cursor = refl;
      screen = is.main;
      brackets = is.pasted;
      unstyled = refl;
      wraps = refl;
      seen = refl;
      not_synchronizing = refl;
      whole = is.whole;
    } in
    subst (IsSettled t u) (sym all) done

pub settles : Settles
settles knows t frames whole safe =
    let first : IsOn t.screen t.bracketed t = record { whole = whole; main = refl; pasted = refl } in
    let v : Tty = run knows frames t in
    subst (IsSettled t v) (sym (run_append knows frames settle_commands t)) (settled knows t v (frames_on t.screen t.bracketed knows frames t safe first))
