-- The screens that the lines of `tui_view frames` lead to.
use Rattle.std.specs.Prelude.{◌≡◌, ◌⊎◌, ℕ, ◌-◌, List, ◌++◌, length, take, Some, None, Ok, Err, IsUtf8, codes, false}
use Rattle.serde_json.specs.Data.{Data}
use Rattle.serde_json.specs.Read.{read}
use Rattle.tui_cells.specs.Buffer.{Screen}
use Rattle.tui_cells.specs.Cell.{wipe}
use Rattle.tui_cells.specs.Layers.{Layer, Painted, ascii_layers, stroke}
use Rattle.tui_cells.specs.Rect.{covers, rows_from}
use Rattle.tui_cells.specs.Style.{no_style}
use Rattle.tui_cells.specs.declared.rect.Rect.{Rect}
use Rattle.tui_program.specs.FieldLine.{refused_in_scene}
use Rattle.tui_scene.specs.Drawn.{IsDrawn}
use Rattle.tui_scene.specs.Item.{PlacedData}
use Rattle.tui_schema.specs.Field.{field_name}
use Rattle.tui_schema.specs.Scene.{SceneData, scene_of}
use Rattle.tui_schema.specs.declared.bad_field.BadField.{BadField}
use Rattle.tui_terminal_model.specs.declared.depth.Depth.{Depth}
use Rattle.tui_terminal_model.specs.declared.output.Output.{Output}
use Rattle.tui_terminal_model.specs.declared.widths.KnownWidths.TheVariants.{Common}

-- how output is sent
abbrev pub frames_output : Depth → Output
frames_output depth = record { depth = depth; widths = Common; synchronized = false }

-- the screen of a scene, drawn with its own states on a blank one
abbrev pub IsSceneShown : SceneData → Screen → Type 0
IsSceneShown s new = (states : List PlacedData) × IsDrawn s.width s.height s.items states new

-- ---- rejections

-- the line that rejects a field, which ends in a newline
abbrev pub refusal_line : BadField → List ℕ
refusal_line refused = refused_in_scene (codes "item") refused.item (field_name refused.field)

abbrev pub without_newline : List ℕ → List ℕ
without_newline line = take (length line - 1) line

abbrev pub last_row : Rect → Rect
last_row area = rows_from area (area.height - 1) 1

-- a message: the last row made blank, with a text in it, cut at the end of the row
abbrev pub message_layers : Rect → List ℕ → List Layer
message_layers area text = stroke (covers (last_row area)) wipe ++ ascii_layers (last_row area).x (last_row area).y no_style text

-- the current screen, with the line that rejects a field in its last row
abbrev pub ShowsRefusal : BadField → Screen → Screen → Type 0
ShowsRefusal refused old new = Painted (message_layers old.area (without_newline (refusal_line refused))) old new

-- ---- a line

-- the screen that a value leads to
abbrev pub IsFrameOf : Data → Screen → Screen → Type 0
IsFrameOf d old new = ((s : SceneData) × (scene_of d ≡ Ok s) × IsSceneShown s new)
    ⊎ ((refused : BadField) × (scene_of d ≡ Err refused) × ShowsRefusal refused old new)

-- the screen that a line leads to
abbrev pub IsFrame : List ℕ → Screen → Screen → Type 0
IsFrame line old new = ((d : Data) × IsUtf8 line × (read line ≡ Some d) × IsFrameOf d old new)
    ⊎ ((IsUtf8 line → read line ≡ None) × Painted (message_layers old.area (codes "refused: not JSON")) old new)

-- a message that is shown after another one replaces it on the screen before both, which is that of the last scene
abbrev pub MessagesReplace : Type 0
MessagesReplace = (a b c : Screen) (first next : List ℕ) → Painted (message_layers a.area first) a b → Painted (message_layers b.area next) b c →
    Painted (message_layers a.area next) a c
