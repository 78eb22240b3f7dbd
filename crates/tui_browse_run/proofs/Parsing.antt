-- What a file means, and sessions over it.
use Rattle.std.proofs.Common.{◌≡◌, ℕ, List, [], ◌∷◌, map, Result, Ok, Err, Vec, Global, string_bytes, refl, sym, ap, subst, ◌∙◌}
use Rattle.std.specs.Prelude.{IsUtf8}
use Rattle.tui_app.specs.Run.{IsAppRun}
use Rattle.tui_app.specs.Run as runs
use Rattle.tui_app.specs.declared.outcome.AppEnd.{AppEnd}
use Rattle.tui_app.specs.declared.outcome.AppEnd.TheVariants as ends
use Rattle.tui_browse_lib.specs.Paging.{initial_pager_for, paging}
use Rattle.tui_browse_lib.specs.declared.paging.PagerApp.{PagerApp}
use Rattle.tui_browse_run.specs.Arguments.{Name}
use Rattle.tui_browse_run.specs.Input.{Means, PiecesMean, TextMeans, browse_reader}
use Rattle.tui_browse_run.specs.Pieces.{AreAllPieces, IsCut, entry_of, piece_data}
use Rattle.tui_browse_run.specs.Shown.{AreEntriesShown, AreShownOn, app_of}
use Rattle.tui_browse_run.specs.declared.arguments.BrowseCommand.{BrowseCommand}
use Rattle.tui_browse_run.specs.declared.piece.TextPiece.{TextPiece}
use Rattle.tui_cells.specs.Rect.{area_of}
use Rattle.tui_io.specs.Causes.{Observed}
use Rattle.tui_pager_lib.specs.Entry.{EntryData}
use Rattle.tui_pager_run.specs.Refusals.{refusal_line}
use Rattle.tui_pager_run.specs.declared.bad_input.BadInput.{BadInput}
use Rattle.tui_program.proofs.Reaching.{reaches_too}
use Rattle.tui_program.specs.Input.{Reaches}
use Rattle.tui_program.specs.Stops.{WritesLine, line_of}
use Rattle.tui_program.specs.declared.stop.Stop.{Stop}
use Rattle.tui_program.specs.declared.stop.Stop.TheVariants as stop
use Rattle.tui_system.proofs.Commanding.{comes_read, reaches_doing}
use Rattle.tui_system.specs.Commands.{ComesTo, IsReadFor}
use Rattle.tui_system.specs.Setting.{AreSettings}
use Rattle.tui_system.specs.System.{Given}
use Rattle.tui_system.specs.declared.settings.Setting.{Setting}

map_twice : {A B C : Type 0} (f : B → C) (g : A → B) (xs : List A) → map f (map g xs) ≡ map (λ x. f (g x)) xs
map_twice f g [] = refl
map_twice {A} {B} {C} f g (x ∷ xs) = ap (λ (ys : List C). f (g x) ∷ ys) (map_twice f g xs)

-- ---- sessions

pub shown_by : (setting : Setting) (entries : List EntryData) (app : PagerApp) (old new : Observed) (last : PagerApp) (end : AppEnd) →
    app.pager ≡ initial_pager_for entries setting.size.width setting.size.height →
    IsAppRun paging setting.output app (area_of 0 0 setting.size.width setting.size.height) old new last end → AreEntriesShown setting old new entries end
shown_by setting entries app old new last end is run = record {
  last = last;
  run = subst (λ (a : PagerApp). IsAppRun paging setting.output a (area_of 0 0 setting.size.width setting.size.height) old new last end)
      (ap (λ p. record { pager = p }) is) run;
}

pub not_shown : (setting : Setting) (entries : List EntryData) (t : Observed) → AreEntriesShown setting t t entries ends.NoMemory
not_shown setting entries t = record { last = app_of entries setting.size.width setting.size.height; run = runs.nothing refl }

-- ---- what a text means

-- a text that has too many pieces, or no memory for them
pub text_stops : (text bytes : List ℕ) (stopped : Stop BadInput) → text ≡ bytes → IsUtf8 bytes → IsCut text (Err stopped) → TextMeans bytes (Err stopped)
text_stops text bytes stop.TooLong is utf8 cut = (utf8, subst (λ (b : List ℕ). PiecesMean b (Err stop.TooLong)) is cut)
text_stops text bytes stop.NoMemory is utf8 cut = (utf8, tt)
text_stops text bytes other is utf8 cut = absurd cut

-- the entries of its pieces
pub text_means : (text bytes : List ℕ) (pieces : List TextPiece) (entries : List EntryData) → text ≡ bytes → IsUtf8 bytes → AreAllPieces text (map piece_data pieces) →
    entries ≡ map (λ p. entry_of (piece_data p)) pieces → TextMeans bytes (Ok entries)
text_means text bytes pieces entries is utf8 are same =
    (utf8, (map piece_data pieces, subst (λ (b : List ℕ). AreAllPieces b (map piece_data pieces)) is are, same ∙ sym (map_twice entry_of piece_data pieces)))

-- ---- runs

-- what is shown with the settings of the system and the bytes of the file
pub shown_on : (given : Given) (setting : Setting) (command : BrowseCommand) (bytes : Vec ℕ Global) (old terminal new : Observed) (e : Result AppEnd (Stop BadInput)) →
    terminal ≡ old → AreSettings given setting → IsReadFor {R = BadInput} given Name (λ (c : BrowseCommand). string_bytes c.file) (Ok (command, bytes)) →
    Reaches (Means command.format bytes.items) (AreEntriesShown setting terminal new) e → Reaches (ComesTo given browse_reader) (AreShownOn given old new) e
shown_on given setting command bytes old terminal new e same settings read h =
    reaches_doing (ComesTo given browse_reader) (AreEntriesShown setting old new) (AreShownOn given old new) e (λ entries end shown. (setting, settings, shown))
    (reaches_too (Means command.format bytes.items) (ComesTo given browse_reader) (AreEntriesShown setting old new) e
    (λ x means. comes_read given browse_reader command bytes x read means)
    (subst (λ (o : Observed). Reaches (Means command.format bytes.items) (AreEntriesShown setting o new) e) same h))

-- a run that was stopped before the terminal changed
pub ends_stopped : (old terminal new : Observed) (stopped e : Stop BadInput) → terminal ≡ old →
    WritesLine (line_of refusal_line stopped) stopped terminal new e → WritesLine (line_of refusal_line stopped) stopped old new e
ends_stopped old terminal new stopped e same h = subst (λ (o : Observed). WritesLine (line_of refusal_line stopped) stopped o new e) same h
