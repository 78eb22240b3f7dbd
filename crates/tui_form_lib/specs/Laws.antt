-- What a session of a form shows.
use Rattle.std.specs.Prelude.{◌≡◌, ◌<◌, ℕ, Bool, true, false, List, length, Option, Some, slice_get, option_map}
use Rattle.tui_app.specs.Behaviour.{Behaviour}
use Rattle.tui_app.specs.EventLoop.{LoopState}
use Rattle.tui_app.specs.Session.{Session}
use Rattle.tui_app.specs.TooSmall.{DrawsTooSmall}
use Rattle.tui_app_laws.specs.Showing.{IsPresent}
use Rattle.tui_cells.specs.Buffer.{Screen, cell_at}
use Rattle.tui_cells.specs.Cell.{blank}
use Rattle.tui_cells.specs.Layers.{layers_at}
use Rattle.tui_cells.specs.Rect.{covers}
use Rattle.tui_cells.specs.declared.position.Position.{Position}
use Rattle.tui_cells.specs.declared.rect.Rect.{Rect}
use Rattle.tui_form_lib.specs.Drawing.{FormDraws, cursor_over, focused_row, form_layers, form_list, has_room, inside}
use Rattle.tui_form_lib.specs.Form.{FormData, form_data}
use Rattle.tui_form_lib.specs.Steps.{IsFocused, after_event, flow_after}
use Rattle.tui_form_lib.specs.Value.{ValueData, typed_value}
use Rattle.tui_form_lib.specs.declared.form.Form.{Form}
use Rattle.tui_input.specs.State.{TypedText}
use Rattle.tui_lists.specs.List.{IsSeen}
use Rattle.tui_lists.specs.ListItem.{heights_of}
use Rattle.tui_terminal_model.specs.declared.output.Output.{Output}

-- how a form responds to events, and what it draws
abbrev pub form_behaviour : Behaviour Form
form_behaviour = record {
  steps = λ old event new flow. (form_data new ≡ after_event (form_data old) event) × (flow ≡ flow_after (form_data old) event);
  draws = λ old screen place new. FormDraws (form_data old) screen place (form_data new);
}

-- the value of the focused field
abbrev pub focused_value : FormData → Option ValueData
focused_value f = option_map (λ field. field.value) (slice_get f.fields f.focus)

-- a cursor that is shown in an area
pub record IsShownIn (area : Rect) (place : Option Position) : Type 0 where
  pub at : Position
  pub place_is : place ≡ Some at
  pub within : covers area at.x at.y ≡ true

-- What is visible of a form: its strokes on blank cells. The focused field is among those that the list draws from its
-- offset on, and these fit the list's height. The cursor of a focused text is in the row below its label.
pub record FocusIsSeen (f : FormData) (screen : Screen) (place : Option Position) : Type 0 where
  pub cells : (x y : ℕ) → covers screen.area x y ≡ true → cell_at screen x y ≡ Some (layers_at (form_layers f screen.area) x y blank)
  pub focused : 0 < length f.fields → IsSeen (heights_of (form_list f).items) (inside f screen.area).height f.offset f.focus
  pub place_is : place ≡ cursor_over (focused_row f screen.area) f.fields f.focus
  pub cursor : (text : TypedText) (is_masked : Bool) → focused_value f ≡ Some (typed_value text is_masked) →
      IsShownIn (focused_row f screen.area) place

-- The terminal shows the screen that was drawn last, of the form that all events led to. If that screen has room the
-- focused field is visible; otherwise it shows `too small`. If there are fields, one of them has the focus.
pub record IsOnScreen (o : Output) (begin : Form) (area : Rect) (state : LoopState Form) (reads : List (List ℕ)) (sent : List ℕ) : Type 0 where
  pub present : IsPresent form_behaviour o begin area state reads sent
  pub focused : IsFocused (form_data state.app)
  pub seen : has_room state.screen.area ≡ true → FocusIsSeen (form_data state.app) state.screen state.place
  pub other : has_room state.screen.area ≡ false → DrawsTooSmall state.screen

-- holds whenever a session waits for input, if one of the fields had the focus at its start, as in a new form
abbrev pub FormIsShown : Output → Type 0
FormIsShown o = (begin : Form) (area : Rect) (state : LoopState Form) (reads : List (List ℕ)) (trace sent : List ℕ) →
    IsFocused (form_data begin) → Session form_behaviour o begin area state reads trace sent → IsOnScreen o begin area state reads sent
