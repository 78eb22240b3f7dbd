-- Sessions: what a terminal gives, and what is written to it.
use Rattle.std.specs.Prelude.{ℕ, Bool, true, false, List, [], ◌∷◌, ◌++◌, Option, None, Some, if◌then◌else◌}
use Rattle.tui_app.specs.Behaviour.{Behaviour}
use Rattle.tui_app.specs.EventLoop.{IsFirstState, IsIteration, LoopState, size_of_read}
use Rattle.tui_app.specs.Trace.{read_entry}
use Rattle.tui_app.specs.declared.app.Flow.{Flow}
use Rattle.tui_app.specs.declared.app.Flow.TheVariants.{Go}
use Rattle.tui_cells.specs.declared.size.Size.{Size}
use Rattle.tui_cells.specs.Buffer.{Screen}
use Rattle.tui_cells.specs.Rect.{covers}
use Rattle.tui_cells.specs.declared.position.Position.{Position}
use Rattle.tui_cells.specs.declared.rect.Rect.{Rect}
use Rattle.tui_terminal_model.specs.Calls.{IsChange, IsFull}
use Rattle.tui_terminal_model.specs.Session.{enter_text}
use Rattle.tui_terminal_model.specs.declared.cursor.Cursor.{Cursor}
use Rattle.tui_terminal_model.specs.declared.cursor.Cursor.TheVariants.{At, Hidden}
use Rattle.tui_terminal_model.specs.declared.output.Output.{Output}

-- the cursor at a position within an area, or hidden if the position is outside
abbrev pub cursor_for : Option Position → Rect → Cursor
cursor_for None area = Hidden
cursor_for (Some p) area = if covers area p.x p.y then At p else Hidden

-- whether a screen is sent in full: if a size was reported, or the app asked for it
abbrev pub is_in_full : Flow → Option Size → Bool
is_in_full Go None = false
is_in_full flow size = true

-- the bytes of the whole screen, or of the changes
abbrev pub IsText : Output → Bool → Screen → Screen → Option Position → List ℕ → Type 0
IsText o true old new place text = IsFull o (cursor_for place new.area) new text
IsText o false old new place text = IsChange o (cursor_for place new.area) old new text

-- one read, and what is written for it
pub record Iterates {A : Type 0} (b : Behaviour A) (o : Output) (old : LoopState A) (bytes : List ℕ)
    (new : LoopState A) (text : List ℕ) : Type 0 where
  pub flow : Flow
  pub iteration : IsIteration b old bytes flow new
  pub text_is : IsText o (is_in_full flow (size_of_read old.keys bytes)) old.screen new.screen new.place text

-- A session that waits for input: the state of the loop, the bytes of each read, the trace, and the written part of it.
pub data Session {A : Type 0} (b : Behaviour A) (o : Output) (begin : A) (area : Rect) : LoopState A → List (List ℕ) → List ℕ → List ℕ → Type 0 where
  begins : (first : LoopState A) (text : List ℕ) → IsFirstState b begin area first →
      IsFull o (cursor_for first.place first.screen.area) first.screen text
      → Session b o begin area first [] (enter_text ++ text) (enter_text ++ text)
  goes_on : (state new : LoopState A) (reads : List (List ℕ)) (trace sent bytes text : List ℕ) → Session b o begin area state reads trace sent
      → Iterates b o state bytes new text → Session b o begin area new (reads ++ bytes ∷ []) (trace ++ (read_entry bytes ++ text)) (sent ++ text)
