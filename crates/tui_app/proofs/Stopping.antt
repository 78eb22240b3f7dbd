-- What was read and written, one after another.
use Rattle.std.proofs.Common.{◌≡◌, ◌⊎◌, inl, inr, ℕ, ◌+◌, ◌<◌, ◌≤◌, List, [], ◌∷◌, ◌++◌, true, length, take, Option, None, Some, Result, Ok, Err, refl, sym, ap, subst, ◌∙◌, arith}
use Rattle.std.proofs.lemmas.List.{length-append}
use Rattle.std.proofs.Math.Seq.{take-append-add}
use Rattle.std.specs.Io.KnownBytes.{Appends}
use Rattle.tui_app.specs.Behaviour.{Behaviour}
use Rattle.tui_app.specs.EventLoop.{LoopState, area_after, events_of_read, keys_after_read}
use Rattle.tui_app.specs.Feeding.{HandlesBytes, no_reaction}
use Rattle.tui_app.specs.Parts.{Closed, Follows, IsBegun, IsDrawn, Iterated, Opened, Sent, SessionReached, state_of}
use Rattle.tui_app.specs.Run.{Counts, HasStopped, IsAppRun, Stops, cut, enters, leaves, shows, whole}
use Rattle.tui_app.specs.Session.{Iterates, begins, cursor_for, goes_on}
use Rattle.tui_app.specs.Trace.{IsRead, Traced, WriteFailed, read_entry}
use Rattle.tui_app.specs.declared.outcome.AppEnd.{AppEnd}
use Rattle.tui_app.specs.declared.outcome.AppEnd.TheVariants as ends
use Rattle.tui_app.specs.declared.buffers.LoopBuffers.{LoopBuffers}
use Rattle.tui_app.specs.declared.feed.AfterRead.{AfterRead}
use Rattle.tui_cells.specs.declared.rect.Rect.{Rect}
use Rattle.tui_io.proofs.Outside.{Appends-keeps, Appends-none, Appends-then}
use Rattle.tui_io.specs.Causes.{Rose, TakesPrefix, Observed}
use Rattle.tui_keys.specs.Steps.{start}
use Rattle.tui_keys.specs.declared.keys.KeyDecoder.{KeyDecoder}
use Rattle.tui_terminal_model.specs.Calls.{IsFull}
use Rattle.tui_terminal_model.specs.Session.{enter_text, leave_text}
use Rattle.tui_terminal_model.specs.declared.output.Output.{Output}

Traced-then : {a b c : Observed} {xs ys : List ℕ} → Traced a b xs → Traced b c ys → Traced a c (xs ++ ys)
Traced-then {a} {b} {c} {xs} {ys} s t = record {
  taken = Appends-then a.bytes b.bytes c.bytes xs ys s.taken t.taken;
  io_errors = t.io_errors ∙ s.io_errors;
}

part_after : (a b c : Option (List ℕ)) (xs ys : List ℕ) → Appends a b xs → TakesPrefix b c ys → TakesPrefix a c (xs ++ ys)
part_after a b c xs ys s t = record {
  count = length xs + t.count;
  short = let less = t.short in omega (arith, length-append xs ys);
  taken = rw take-append-add (Appends-then a b c xs (take t.count ys) s t.taken);
}

WriteFailed-after : {a b c : Observed} {xs ys : List ℕ} → Traced a b xs → WriteFailed b c ys → WriteFailed a c (xs ++ ys)
WriteFailed-after {a} {b} {c} {xs} {ys} s t = record {
  part = part_after a.bytes b.bytes c.bytes xs ys s.taken t.part;
  io_errors = subst (λ (n : ℕ). Rose n c.io_errors) s.io_errors t.io_errors;
}

-- ---- the start

-- `enter_text` was written, and then the bytes of the first screen
pub opened : {E : Type 0} (o : Output) (s : LoopBuffers) (a b c : Observed) (result : Result (Unit {0}) E) → Appends a.bytes b.bytes enter_text → b.io_errors ≡ a.io_errors →
    Sent o true s b c result → Opened o s a c result
opened o s a b c (Ok u) taken same sent =
    let first : Traced a b enter_text = record { taken = taken; io_errors = same } in
    let next : Traced b c sent.text = record { taken = sent.writes.ok.0; io_errors = sent.writes.ok.1 } in
    (sent.text, sent.text_is, Traced-then first next)
opened o s a b c (Err e) taken same sent =
    let first : Traced a b enter_text = record { taken = taken; io_errors = same } in
    let next : WriteFailed b c sent.text = record { part = sent.writes.failed.0; io_errors = sent.writes.failed.1 } in
    inr (sent.text, sent.text_is, WriteFailed-after first next)

pub been_first : {A : Type 0} (b : Behaviour A) (o : Output) (begin app : A) (area : Rect) (buffers : LoopBuffers) (t now : Observed) (text : List ℕ) →
    IsBegun b begin area app buffers → IsFull o (cursor_for buffers.place buffers.shown.area) buffers.shown text → Traced t now (enter_text ++ text) →
    SessionReached b o begin area (state_of app start buffers) t now 0
been_first b o begin app area buffers t now text begun full traced = record {
  reads = [];
  trace = enter_text ++ text;
  sent = enter_text ++ text;
  session = begins (state_of app start buffers) text begun.first full;
  traced = traced;
  counted = refl;
}

pub not_opened : {A E : Type 0} (b : Behaviour A) (o : Output) (begin app : A) (area : Rect) (buffers : LoopBuffers) (t now : Observed) (e : E) →
    IsBegun b begin area app buffers → Opened o buffers t now (Err e) → IsAppRun b o begin area t now app ends.WriteFault
not_opened b o begin app area buffers t now e begun h =
    elim h [
      | inl write_failed ↦ cut enter_text t.io_errors (enters (state_of app start buffers) begun.first refl) write_failed.part write_failed.io_errors
      | inr write_failed ↦
          cut (enter_text ++ write_failed.0) t.io_errors
          (shows (state_of app start buffers) [] (enter_text ++ write_failed.0) (enter_text ++ write_failed.0) (begins (state_of app start buffers) write_failed.0 begun.first write_failed.1)
          (omega arith) refl)
          write_failed.2.part write_failed.2.io_errors
    ]

-- ---- one more read

pub been_more : {A : Type 0} (b : Behaviour A) (o : Output) (begin : A) (area : Rect) (state new : LoopState A) (t0 t1 t2 : Observed) (count : ℕ) →
    SessionReached b o begin area state t0 t1 count → Iterated b o state new t1 t2 None → SessionReached b o begin area new t0 t2 (count + 1)
been_more b o begin area state new t0 t1 t2 count reached t = record {
  reads = reached.reads ++ t.0 ∷ [];
  trace = reached.trace ++ (read_entry t.0 ++ t.1);
  sent = reached.sent ++ t.1;
  session = goes_on state new reached.reads reached.trace reached.sent t.0 t.1 reached.session t.2;
  traced = Traced-then reached.traced t.3;
  counted = length-append reached.reads (t.0 ∷ []) ∙ ap (λ (n : ℕ). n + 1) reached.counted;
}

-- the events of a read are handled, and the next screen is drawn
iterates : {A : Type 0} (b : Behaviour A) (o : Output) (app moved last : A) (keys : KeyDecoder) (old new : LoopBuffers) (bytes : List ℕ) (reading : AfterRead) (text : List ℕ) →
    IsRead bytes → HandlesBytes b app no_reaction (events_of_read keys bytes) (keys_after_read keys bytes) moved reading →
    IsDrawn b o reading.reaction moved old last new text → Iterates b o (state_of app keys old) bytes (state_of last reading.keys new) text
iterates b o app moved last keys old new bytes reading text read handled h = record {
  flow = reading.reaction.flow;
  iteration = record {
    moved = moved;
    read = read;
    takes = handled.handled.takes;
    not_quit = h.not_quit;
    keys = handled.keys_are;
    draws = h.drawn.draws;
    area_is = h.drawn.area_is ∙ ap (area_after old.shown.area) handled.handled.size;
  };
  text_is = rw handled.handled.size at h.text_is;
}

-- a read, and what follows its events
pub after_iteration : {A : Type 0} (b : Behaviour A) (o : Output) (app moved last : A) (keys : KeyDecoder) (old new : LoopBuffers) (bytes : List ℕ) (reading : AfterRead)
    (t0 t1 t2 : Observed) (result : Option AppEnd) → IsRead bytes → Traced t0 t1 (read_entry bytes) →
    HandlesBytes b app no_reaction (events_of_read keys bytes) (keys_after_read keys bytes) moved reading → Follows b o reading.reaction moved old last new t1 t2 result →
    Iterated b o (state_of app keys old) (state_of last reading.keys new) t0 t2 result
after_iteration {A} b o app moved last keys old new bytes reading t0 t1 t2 result read traced handled h = by_result result h
  where
    still : t2 ≡ t1 → Traced t0 t2 (read_entry bytes)
    still same = subst (λ (t : Observed). Traced t0 t (read_entry bytes)) (sym same) traced

    by_result : (r : Option AppEnd) → Follows b o reading.reaction moved old last new t1 t2 r → Iterated b o (state_of app keys old) (state_of last reading.keys new) t0 t2 r
    by_result None h = (bytes, h.0, iterates b o app moved last keys old new bytes reading h.0 read handled h.1, Traced-then traced h.2)
    by_result (Some ends.WriteFault) h = (bytes, h.0, iterates b o app moved last keys old new bytes reading h.0 read handled h.1, WriteFailed-after traced h.2)
    by_result (Some ends.NoMemory) h = (bytes, read, still h)
    by_result (Some ends.Quit) h = (bytes, read, rw (← h.0, h.1) handled.handled.takes, still h.2)
    by_result (Some ends.Ended) h = absurd h
    by_result (Some ends.ReadFault) h = absurd h
    by_result (Some ends.ManyReads) h = absurd h

-- ---- the end

-- a session that stopped leaves the terminal, or a write fails
stopped : {A : Type 0} (b : Behaviour A) (o : Output) (begin last : A) (area : Rect) (state : LoopState A) (end result : AppEnd) (t0 t1 t2 t3 : Observed) (count : ℕ) (given : List ℕ) →
    SessionReached b o begin area state t0 t1 count → count ≤ 4294967296 → Stops b state count given last end → Counts end t0.io_errors t2.io_errors → Appends t1.bytes t2.bytes given →
    ((result ≡ end) × Traced t2 t3 leave_text) ⊎ ((result ≡ ends.WriteFault) × WriteFailed t2 t3 leave_text) → IsAppRun b o begin area t0 t3 last result
stopped {A} b o begin last area state end result t0 t1 t2 t3 count given reached few stops counts appends c =
    let trace = reached.trace ++ (given ++ leave_text) in
    let has : (now : ℕ) → Counts end t0.io_errors now → HasStopped b o begin area last end trace t0.io_errors now = λ now io_errors. record {
      state = state;
      reads = reached.reads;
      waited = reached.trace;
      sent = reached.sent;
      given = given;
      session = reached.session;
      few = subst (λ (n : ℕ). n ≤ 4294967296) (sym reached.counted) few;
      stops = subst (λ (n : ℕ). Stops b state n given last end) (sym reached.counted) stops;
      io_errors = io_errors;
      trace_is = refl;
    } in
    elim c [
      | inl left ↦
          subst (λ (e : AppEnd). IsAppRun b o begin area t0 t3 last e) (sym left.0)
          (whole end trace (has t3.io_errors (subst (λ (n : ℕ). Counts end t0.io_errors n) (sym left.1.io_errors) counts))
          (Appends-then t0.bytes t1.bytes t3.bytes reached.trace (given ++ leave_text) reached.traced.taken
          (Appends-then t1.bytes t2.bytes t3.bytes given leave_text appends left.1.taken)))
      | inr write_failed ↦
          subst (λ (e : AppEnd). IsAppRun b o begin area t0 t3 last e) (sym write_failed.0)
          (cut trace t2.io_errors (leaves end trace t2.io_errors (has t2.io_errors counts))
          (part_after t0.bytes t1.bytes t3.bytes reached.trace (given ++ leave_text) reached.traced.taken
          (part_after t1.bytes t2.bytes t3.bytes given leave_text appends write_failed.1.part)) write_failed.1.io_errors)
    ]

-- a read ends the session
pub has_ended : {A : Type 0} (b : Behaviour A) (o : Output) (begin : A) (area : Rect) (state new : LoopState A) (t0 t1 t2 t3 : Observed) (count : ℕ) (end result : AppEnd) →
    SessionReached b o begin area state t0 t1 count → count < 4294967296 → Iterated b o state new t1 t2 (Some end) → Closed end t2 t3 result →
    IsAppRun b o begin area t0 t3 new.app result
has_ended {A} b o begin area state new t0 t1 t2 t3 count end result reached less t c = by_end end t c
  where
    few : count ≤ 4294967296
    few = omega (arith, less)

    by_end : (e : AppEnd) → Iterated b o state new t1 t2 (Some e) → Closed e t2 t3 result → IsAppRun b o begin area t0 t3 new.app result
    by_end ends.WriteFault t c =
        let trace = reached.trace ++ (read_entry t.0 ++ t.1) in
        let sent = reached.sent ++ t.1 in
        let write_failed : WriteFailed t1 t3 (read_entry t.0 ++ t.1) = subst (λ (k : Observed). WriteFailed t1 k (read_entry t.0 ++ t.1)) (sym c.1) t.3 in
        subst (λ (e : AppEnd). IsAppRun b o begin area t0 t3 new.app e) (sym c.0)
        (cut trace t0.io_errors (shows new (reached.reads ++ t.0 ∷ []) trace sent (goes_on state new reached.reads reached.trace reached.sent t.0 t.1 reached.session t.2)
        (omega (arith, less, reached.counted, length-append reached.reads (t.0 ∷ []))) refl)
        (part_after t0.bytes t1.bytes t3.bytes reached.trace (read_entry t.0 ++ t.1) reached.traced.taken write_failed.part)
        (subst (λ (n : ℕ). Rose n t3.io_errors) reached.traced.io_errors write_failed.io_errors))
    by_end ends.Quit t c =
        stopped b o begin new.app area state ends.Quit result t0 t1 t2 t3 count (read_entry t.0) reached few (t.0, t.1, refl, t.2) (t.3.io_errors ∙ reached.traced.io_errors) t.3.taken c
    by_end ends.NoMemory t c =
        stopped b o begin new.app area state ends.NoMemory result t0 t1 t2 t3 count (read_entry t.0) reached few (t.0, t.1, refl) (t.2.io_errors ∙ reached.traced.io_errors) t.2.taken c
    by_end ends.Ended t c =
        stopped b o begin new.app area state ends.Ended result t0 t1 t2 t3 count (read_entry []) reached few (refl, t.1) (t.0.io_errors ∙ reached.traced.io_errors) t.0.taken c
    by_end ends.ReadFault t c =
        stopped b o begin new.app area state ends.ReadFault result t0 t1 t2 t3 count [] reached few (refl, t.1) (subst (λ (n : ℕ). Rose n t2.io_errors) reached.traced.io_errors t.0.io_errors)
        (Appends-keeps t1.bytes t1.bytes t2.bytes [] (Appends-none t1.bytes) t.0.kept) c
    by_end ends.ManyReads t c = absurd t

-- 4,294,967,296 reads were made
pub many_reads : {A : Type 0} (b : Behaviour A) (o : Output) (begin : A) (area : Rect) (state : LoopState A) (t0 t1 t3 : Observed) (count : ℕ) (result : AppEnd) →
    count ≡ 4294967296 → SessionReached b o begin area state t0 t1 count → Closed ends.ManyReads t1 t3 result → IsAppRun b o begin area t0 t3 state.app result
many_reads b o begin area state t0 t1 t3 count result all reached c =
    stopped b o begin state.app area state ends.ManyReads result t0 t1 t1 t3 count [] reached (omega (arith, all)) (refl, refl, all) reached.traced.io_errors (Appends-none t1.bytes) c
