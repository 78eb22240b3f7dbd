-- The run of a row.
use Rattle.std.specs.Prelude.{ℕ, ◌≡◌, List, [], Some, String}
use Rattle.std.specs.declared.alloc.Global.{Global}
use Rattle.scene_rows.specs.declared.program.Program.{Program}
use Rattle.scene_rows.specs.declared.program.Program.TheVariants as program
use Rattle.tui_pager_run.specs.Ended as pager
use Rattle.tui_pager_run.specs.Rules.{pager_rules}
use Rattle.tui_pager_run.specs.declared.ended.PagerEnded.{PagerEnded}
use Rattle.tui_io.specs.Causes.{Observed}
use Rattle.tui_io.specs.Memory.{SinkState}
use Rattle.tui_program.specs.Transcript.{Transcript, transcript_of}
use Rattle.tui_program.specs.Runs.{IsRun}
use Rattle.tui_pages_run.specs.Ended as pages
use Rattle.tui_pages_run.specs.Rules.{pages_rules}
use Rattle.tui_pages_run.specs.declared.ended.PagesEnded.{PagesEnded}
use Rattle.tui_show_run.specs.Ended as show
use Rattle.tui_show_run.specs.Outcomes.{ShowEnds}
use Rattle.tui_show_run.specs.declared.ended.Ended.{Ended}
use Rattle.tui_panes_run.specs.Ended as panes
use Rattle.tui_panes_run.specs.Rules.{panes_rules}
use Rattle.tui_panes_run.specs.declared.ended.PanesEnded.{PanesEnded}

-- a run of a program with these arguments ends with a status
abbrev pub HasStatus : Program → List (String Global) → Transcript → ℕ → Type 0
HasStatus program.Show words t status = (e : Ended) × ShowEnds words t e × (status ≡ show.status_of e)
HasStatus program.Pages words t status = (e : PagesEnded) × IsRun pages_rules words t (pages.outcome_of e) × (status ≡ pages.status_of e)
HasStatus program.Pager words t status = (e : PagerEnded) × IsRun pager_rules words t (pager.outcome_of e) × (status ≡ pager.status_of e)
HasStatus program.Panes words t status = (e : PanesEnded) × IsRun panes_rules words t (panes.outcome_of e) × (status ≡ panes.status_of e)

-- observable bytes, and a count of I/O errors
abbrev pub known_bytes : List ℕ → ℕ → Observed
known_bytes bytes io_errors = record { bytes = Some bytes; io_errors = io_errors }

-- a run with these arguments and these bytes, from an empty sink to this one, ends with a status
abbrev pub Ran : Program → List (String Global) → List ℕ → SinkState → ℕ → Type 0
Ran program words input sink status =
    (left : List ℕ) × (reads : ℕ)
    × HasStatus program words
    (transcript_of (known_bytes input 0) (known_bytes left reads) (known_bytes [] 0) (known_bytes sink.held sink.io_errors)) status
