-- The outcome of a run, case by case.
use Rattle.std.specs.Prelude.{◌≡◌, ◌↔◌, ℕ, ◌⊎◌, List, None, Ok, Err, codes, IsUtf8, String}
use Rattle.std.specs.declared.alloc.Global.{Global}
use Rattle.serde_json.specs.Data.{Data}
use Rattle.serde_json.specs.Read.{read}
use Rattle.tui_io.specs.Causes.{HasFailed, WritesAll, WritesPrefix}
use Rattle.tui_program.specs.Transcript.{ReadJson, ReadPast, ReadWhole, ReadWithin, Transcript, Unwritten, Unread}
use Rattle.tui_schema.specs.Scene.{SceneData, scene_of}
use Rattle.tui_show_run.specs.Commands.{IsDemoCommand, IsSceneCommand, IsNoCommand}
use Rattle.tui_show_run.specs.Demo.{IsDemo}
use Rattle.tui_show_run.specs.Shown.{IsShown}
use Rattle.tui_show_run.specs.Outcomes.{ShowEnds}
use Rattle.tui_show_run.specs.Refusal.{field_line}
use Rattle.tui_show_run.specs.declared.ended.Ended.{Ended}
use Rattle.tui_show_run.specs.declared.ended.Ended.TheVariants as ended

-- what is written completely, and why
abbrev pub IsExpectedBy : List (String Global) → Transcript → List ℕ → Ended → Type 0
IsExpectedBy words t text ended.Ok =
    (IsSceneCommand words × ((bytes : List ℕ) × (d : Data) × (s : SceneData) × ReadJson t bytes d × (scene_of d ≡ Ok s) × IsShown s text))
    ⊎ ((n : ℕ) × IsDemoCommand n words × Unread t × IsDemo n text)
IsExpectedBy words t text ended.Usage = IsNoCommand words × Unread t × (text ≡ codes "refused: usage\n")
IsExpectedBy words t text ended.TooLong = IsSceneCommand words × ReadPast t × (text ≡ codes "refused: too long\n")
IsExpectedBy words t text ended.NotJson =
    IsSceneCommand words × ((bytes : List ℕ) × ReadWhole t bytes × (IsUtf8 bytes → read bytes ≡ None)) × (text ≡ codes "refused: not JSON\n")
IsExpectedBy words t text (ended.BadField i f) =
    IsSceneCommand words × ((bytes : List ℕ) × (d : Data) × ReadJson t bytes d × (scene_of d ≡ Err (record { item = i; field = f }))) × (text ≡ field_line i f)
IsExpectedBy words t text e = ⊥

-- the sink has the expected text; or a write failed and it has a first part of it; or it has nothing, since a read
-- failed or memory ran out
abbrev pub EndsFor : List (String Global) → Transcript → Ended → Type 0
EndsFor words t ended.ReadFault = IsSceneCommand words × ReadWithin t × Unwritten t.sink t.sink_then × HasFailed t.source t.source_then
EndsFor words t ended.NoMemory = (IsSceneCommand words × ReadWithin t × Unwritten t.sink t.sink_then × (t.source_then.io_errors ≡ t.source.io_errors))
    ⊎ ((n : ℕ) × IsDemoCommand n words × Unread t × Unwritten t.sink t.sink_then)
EndsFor words t ended.WriteFault = (text : List ℕ) × (e : Ended) × IsExpectedBy words t text e × WritesPrefix t.sink t.sink_then text
EndsFor words t e = (text : List ℕ) × IsExpectedBy words t text e × WritesAll t.sink t.sink_then text

-- the outcome by the rules of the program is the one that is stated here for each outcome
abbrev pub OutcomesAgree : Type 0
OutcomesAgree = (words : List (String Global)) (t : Transcript) (e : Ended) → ShowEnds words t e ↔ EndsFor words t e
