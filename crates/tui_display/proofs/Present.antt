-- A session shows what the last line calls for.
use Rattle.std.proofs.Common.{◌≡◌, ℕ, ◌+◌, ◌≤◌, Bool, List, [], ◌∷◌, ◌++◌, flat_map, inl, inr, refl, sym, ap, subst, ◌∙◌, append_assoc}
use Rattle.std.proofs.lemmas.Grind.{flat_map-append}
use Rattle.std.proofs.lemmas.List.{append-nil}
use Rattle.std.proofs.lemmas.List.Elements.{All-append}
use Rattle.tui_cells.specs.Buffer.{Screen}
use Rattle.tui_cells.specs.declared.rect.Rect.{Rect}
use Rattle.tui_display.proofs.Taking.{Calls}
use Rattle.tui_display.specs.Session as sessions
use Rattle.tui_display.specs.Session.{IsInFull, IsNext, IsWrittenFor, Makes, Session, begins, ends, reads, shows}
use Rattle.tui_display.specs.Showing.{Follows, LinesShow, first, next}
use Rattle.tui_terminal_model.specs.Calls.{IsChange, IsFull}
use Rattle.tui_terminal_model.specs.Sends.{IsSafe, IsEncoded}
use Rattle.tui_terminal_model.specs.Session.{enter_text}
use Rattle.tui_terminal_model.specs.Shows.{HasCursor, HasRoom, Shows, KnowsWidths}
use Rattle.tui_terminal_model.specs.Encoding.{encoding}
use Rattle.tui_terminal_model.specs.Terminal.{Command, Tty, run}
use Rattle.tui_terminal_model.specs.declared.cursor.Cursor.TheVariants.{Hidden}
use Rattle.tui_terminal_model.specs.declared.output.Output.{Output}
use Rattle.tui_terminal_model.specs.declared.widths.KnownWidths.{KnownWidths}
use Rattle.tui_terminal_laws.proofs.Apart.{apart_append, begins_append}
use Rattle.tui_terminal_laws.proofs.Between.{restores_main_screen}
use Rattle.tui_terminal_laws.proofs.Pen.{run_append}

-- the bytes that are written after `enter_text`, and their effect on a terminal
record IsShowing (o : Output) (screen : Screen) (text : List ℕ) : Type 0 where
  earlier : List Command
  commands : List Command
  encoded : IsEncoded o.widths (earlier ++ commands) text
  shows : (knows : List ℕ → Bool) (t : Tty) → KnowsWidths o.widths knows → HasRoom t screen → Shows o knows (run knows commands t) screen
  cursor : (knows : List ℕ → Bool) (t : Tty) → KnowsWidths o.widths knows → HasRoom t screen → HasCursor Hidden (run knows commands t)

spelled_append : (widths : KnownWidths) (xs ys : List Command) (s t : List ℕ) → IsEncoded widths xs s → IsEncoded widths ys t → IsEncoded widths (xs ++ ys) (s ++ t)
spelled_append widths xs ys s t a c = record {
  encoded = ap (λ (l : List ℕ). l ++ t) a.encoded ∙ (ap (λ (l : List ℕ). flat_map encoding xs ++ l) c.encoded ∙ sym (flat_map-append encoding xs ys));
  safe = All-append IsSafe xs ys a.safe c.safe;
  apart = apart_append widths xs ys a.apart c.apart c.begins;
  begins = begins_append xs ys a.begins c.begins;
}

-- a screen is sent in full
first_shows : (o : Output) (screen : Screen) (text : List ℕ) → IsFull o Hidden screen text → IsShowing o screen text
first_shows o screen text full = record {
  earlier = [];
  commands = full.commands;
  encoded = full.encoded;
  shows = full.shows;
  cursor = full.at_cursor;
}

-- after a blank screen
in_full_shows : (o : Output) (old new : Screen) (was text : List ℕ) → IsInFull o old new text → IsShowing o old was → IsShowing o new (was ++ text)
in_full_shows o old new was text in_full showing =
    let before = showing.earlier ++ showing.commands in
    let encoded_after = spelled_append o.widths before in_full.cleared_is.commands was in_full.cleared showing.encoded in_full.cleared_is.encoded in
    let all = spelled_append o.widths (before ++ in_full.cleared_is.commands) in_full.whole_is.commands (was ++ in_full.cleared) in_full.whole encoded_after in_full.whole_is.encoded in
    record {
      earlier = before ++ in_full.cleared_is.commands;
      commands = in_full.whole_is.commands;
      encoded = subst (IsEncoded o.widths ((before ++ in_full.cleared_is.commands) ++ in_full.whole_is.commands))
          (append_assoc was in_full.cleared in_full.whole ∙ ap (λ (l : List ℕ). was ++ l) (sym in_full.text_is)) all;
      shows = in_full.whole_is.shows;
      cursor = in_full.whole_is.at_cursor;
    }

-- the changes are sent
change_shows : (o : Output) (old new : Screen) (was text : List ℕ) → new.area ≡ old.area → IsChange o Hidden old new text → IsShowing o old was →
    IsShowing o new (was ++ text)
change_shows o old new was text area change showing = record {
  earlier = showing.earlier;
  commands = showing.commands ++ change.commands;
  encoded = subst (λ (cs : List Command). IsEncoded o.widths cs (was ++ text)) (append_assoc showing.earlier showing.commands change.commands)
      (spelled_append o.widths (showing.earlier ++ showing.commands) change.commands was text showing.encoded change.encoded);
  shows = λ knows t knows_widths room.
      subst (λ (u : Tty). Shows o knows u new) (sym (run_append knows showing.commands change.commands t))
      (change.shows knows (run knows showing.commands t) knows_widths (there knows t knows_widths room));
  cursor = λ knows t knows_widths room.
      subst (HasCursor Hidden) (sym (run_append knows showing.commands change.commands t))
      (change.at_cursor knows (run knows showing.commands t) knows_widths (there knows t knows_widths room));
}
  where
    there : (knows : List ℕ → Bool) (t : Tty) → KnowsWidths o.widths knows → HasRoom t new → Shows o knows (run knows showing.commands t) old
    there knows t knows_widths room =
        let room_old : HasRoom t old = record {
          wide = subst (λ (r : Rect). r.x + r.width ≤ t.columns) area room.wide;
          high = subst (λ (r : Rect). r.y + r.height ≤ t.height) area room.high;
        } in
        showing.shows knows t knows_widths room_old

next_shows : (o : Output) (old new : Screen) (was text : List ℕ) → IsNext o old new text → IsShowing o old was → IsShowing o new (was ++ text)
next_shows o old new was text is showing =
    elim is [ inl same ↦ change_shows o old new was text same.0 same.1 showing | inr in_full ↦ in_full_shows o old new was text in_full showing ]

line_shows : (calls : Calls) (o : Output) (line : List ℕ) (old new : Screen) (was text : List ℕ) → Makes calls line old new → IsWrittenFor o line old new text →
    IsShowing o old was → IsShowing o new (was ++ text)
line_shows calls o [] old new was text makes written showing = rw (makes, written, append-nil was) showing
line_shows calls o (b ∷ bs) old new was text makes written showing = next_shows o old new was text written showing

-- from line to line
record Lasts (calls : Calls) (o : Output) (lines : List (List ℕ)) (screen : Screen) (sent : List ℕ) : Type 0 where
  follows : Follows calls lines screen
  text : List ℕ
  sent_is : sent ≡ enter_text ++ text
  showing : IsShowing o screen text

lasts_more : (calls : Calls) (o : Output) (lines : List (List ℕ)) (line : List ℕ) (old new : Screen) (sent text : List ℕ) → Lasts calls o lines old sent →
    sessions.ShowsLine calls o line old new text → Lasts calls o (lines ++ line ∷ []) new (sent ++ text)
lasts_more calls o lines line old new sent text was shown = record {
  follows = next lines line old new was.follows shown.makes;
  text = was.text ++ text;
  sent_is = ap (λ (l : List ℕ). l ++ text) was.sent_is ∙ append_assoc enter_text was.text text;
  showing = line_shows calls o line old new was.text text shown.makes shown.written was.showing;
}

lasts : (calls : Calls) (o : Output) (all lines : List (List ℕ)) (screen : Screen) (trace sent : List ℕ) → Session calls o all lines screen trace sent →
    Lasts calls o lines screen sent
lasts calls o _ _ _ _ _ (begins blanks text filled full) = record {
  follows = first blanks filled;
  text = text;
  sent_is = refl;
  showing = first_shows o blanks text full;
}
lasts calls o _ _ _ _ _ (reads all lines screen trace sent begun bytes session cut within read) = lasts calls o all lines screen trace sent session
lasts calls o _ _ _ _ _ (shows all lines old new trace sent before line after text session input cut shown) =
    lasts_more calls o lines line old new sent text (lasts calls o all lines old trace sent session) shown
lasts calls o _ _ _ _ _ (ends all lines old new trace sent line text session cut shown) =
    lasts_more calls o lines line old new sent text (lasts calls o all lines old trace sent session) shown

pub lines_show : (calls : Calls) (o : Output) → LinesShow calls o
lines_show calls o all lines screen trace sent session =
    let now = lasts calls o all lines screen trace sent session in
    let frames = now.showing.earlier ++ now.showing.commands in
    record {
      follows = now.follows;
      earlier = now.showing.earlier;
      commands = now.showing.commands;
      text = now.text;
      encoded = now.showing.encoded;
      sent_is = now.sent_is;
      shown = λ knows t knows_widths room. record { cells = now.showing.shows knows t knows_widths room; cursor = now.showing.cursor knows t knows_widths room };
      back = λ knows t whole alternates main. restores_main_screen knows t frames whole alternates main now.showing.encoded.safe;
    }
