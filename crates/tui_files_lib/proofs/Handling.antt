-- An event that concerns a browser.
use Rattle.std.proofs.Common.{◌≡◌, Bool, true, false, [], String, Global, string_bytes, refl, sym, subst, ◌∙◌}
use Rattle.tui_files_lib.specs.Browsing.{Performs, Handles, Lists, Takes, action, takes_event}
use Rattle.tui_files_lib.specs.declared.actions.BrowserAction.{BrowserAction}
use Rattle.tui_files_lib.specs.declared.browser.Browser.{Browser}
use Rattle.tui_keys.specs.declared.event.Event.{Event}

clash : (b : Bool) → b ≡ true → b ≡ false → ⊥
clash true holds fails = cc
clash false holds fails = cc

-- the filter uses it
pub handles_taken : (lists : Lists) (old : Browser) (notice : String Global) (event : Event) (new : Browser) (used : Bool) → string_bytes notice ≡ [] →
    used ≡ takes_event (record old { notice = notice }) event →
    (takes_event (record old { notice = notice }) event ≡ true → Takes event (record old { notice = notice }) new) → used ≡ true → Handles lists old event new
handles_taken lists old notice event new used silent is takes taken = record {
  quiet = record old { notice = notice };
  stays = refl;
  silent = silent;
  takes = takes;
  performs = λ other. absurd (clash (takes_event (record old { notice = notice }) event) (sym is ∙ taken) other);
}

-- or it does not, and the action is performed
pub handles_action : (lists : Lists) (old : Browser) (notice : String Global) (event : Event) (after_event new : Browser) (used : Bool) (a : BrowserAction) → string_bytes notice ≡ [] →
    used ≡ takes_event (record old { notice = notice }) event →
    (takes_event (record old { notice = notice }) event ≡ false → after_event ≡ record old { notice = notice }) → used ≡ false → a ≡ action after_event event →
    Performs lists a after_event new → Handles lists old event new
handles_action lists old notice event after_event new used a silent is stays left action_is performs =
    let other : takes_event (record old { notice = notice }) event ≡ false = sym is ∙ left in
    record {
      quiet = record old { notice = notice };
      stays = refl;
      silent = silent;
      takes = λ taken. absurd (clash (takes_event (record old { notice = notice }) event) taken other);
      performs = λ _. subst (λ (b : Browser). Performs lists (action b event) b new) (stays other) (subst (λ (x : BrowserAction). Performs lists x after_event new) action_is performs);
    }
