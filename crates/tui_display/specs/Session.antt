-- Sessions: what is read, and what is written for each line.
use Rattle.std.specs.Prelude.{◌≡◌, ◌≢◌, ◌⊎◌, ℕ, ◌≤◌, List, [], ◌∷◌, ◌++◌, length}
use Rattle.std.specs.List.{concat}
use Rattle.tui_app.specs.Trace.{IsRead, read_entry}
use Rattle.tui_cells.specs.Buffer.{IsFilled, Screen}
use Rattle.tui_cells.specs.Cell.{blank}
use Rattle.tui_cells.specs.Rect.{area_of}
use Rattle.tui_cells.specs.declared.rect.Rect.{Rect}
use Rattle.tui_display.specs.Lines.{IsCut}
use Rattle.tui_io.specs.Limits.{limit}
use Rattle.tui_terminal_model.specs.Calls.{IsChange, IsFull}
use Rattle.tui_terminal_model.specs.Session.{enter_text}
use Rattle.tui_terminal_model.specs.declared.cursor.Cursor.TheVariants.{Hidden}
use Rattle.tui_terminal_model.specs.declared.output.Output.{Output}

-- ---- one line

-- a screen of another size, in full, after blanks in place of the old one
pub record IsInFull (o : Output) (old new : Screen) (text : List ℕ) : Type 0 where
  pub other : new.area ≢ old.area
  pub blanks : Screen
  pub cleared : List ℕ
  pub whole : List ℕ
  pub filled : IsFilled old.area blank blanks
  pub cleared_is : IsFull o Hidden blanks cleared
  pub whole_is : IsFull o Hidden new whole
  pub text_is : text ≡ cleared ++ whole

-- the changes, or the whole screen
abbrev pub IsNext : Output → Screen → Screen → List ℕ → Type 0
IsNext o old new text = ((new.area ≡ old.area) × IsChange o Hidden old new text) ⊎ IsInFull o old new text

-- A line turns a screen into one that it calls for. An empty line leaves it unchanged.
abbrev pub Makes : (List ℕ → Screen → Screen → Type 0) → List ℕ → Screen → Screen → Type 0
Makes calls [] old new = new ≡ old
Makes calls (b ∷ bs) old new = calls (b ∷ bs) old new

abbrev pub IsWrittenFor : Output → List ℕ → Screen → Screen → List ℕ → Type 0
IsWrittenFor o [] old new text = text ≡ []
IsWrittenFor o (b ∷ bs) old new text = IsNext o old new text

-- the next screen, and what is written for it
pub record ShowsLine (calls : List ℕ → Screen → Screen → Type 0) (o : Output) (line : List ℕ) (old new : Screen) (text : List ℕ) : Type 0 where
  pub within : length line ≤ limit
  pub makes : Makes calls line old new
  pub written : IsWrittenFor o line old new text

-- ---- many lines

-- the size of the blank screen with which a display begins
abbrev pub first_area : Rect
first_area = area_of 0 0 80 1

-- A session: the bytes of each read, the lines that are shown, the screen, the trace, and the written part of it. A
-- line is shown as soon as it has ended, before anything more is read. At the end of the input, which is a read without
-- a byte, the line that has begun is the last one.
pub data Session (calls : List ℕ → Screen → Screen → Type 0) (o : Output) : List (List ℕ) → List (List ℕ) → Screen → List ℕ → List ℕ → Type 0 where
  begins : (first : Screen) (text : List ℕ) → IsFilled first_area blank first → IsFull o Hidden first text
      → Session calls o [] [] first (enter_text ++ text) (enter_text ++ text)
  reads : (all lines : List (List ℕ)) (screen : Screen) (trace sent begun bytes : List ℕ) → Session calls o all lines screen trace sent
      → IsCut (concat all) lines begun → length begun ≤ limit → IsRead bytes
      → Session calls o (all ++ bytes ∷ []) lines screen (trace ++ read_entry bytes) sent
  shows : (all lines : List (List ℕ)) (old new : Screen) (trace sent before line after text : List ℕ) → Session calls o all lines old trace sent
      → concat all ≡ before ++ 10 ∷ after → IsCut before lines line → ShowsLine calls o line old new text
      → Session calls o all (lines ++ line ∷ []) new (trace ++ text) (sent ++ text)
  ends : (all lines : List (List ℕ)) (old new : Screen) (trace sent line text : List ℕ) → Session calls o all lines old trace sent
      → IsCut (concat all) lines line → ShowsLine calls o line old new text
      → Session calls o all (lines ++ line ∷ []) new (trace ++ (read_entry [] ++ text)) (sent ++ text)
