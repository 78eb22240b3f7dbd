-- Reads, one after another, and the end.
use Rattle.std.proofs.Common.{◌≡◌, ◌⊎◌, inl, inr, ℕ, ◌+◌, List, [], ◌∷◌, ◌++◌, Option, None, Some, Result, Ok, Err, refl, sym, ap, subst, ◌∙◌, append_assoc, arith}
use Rattle.std.proofs.lemmas.List.{append-nil, length-append}
use Rattle.std.proofs.lemmas.List.Folds.{concat-append}
use Rattle.std.specs.Io.KnownBytes.{Appends}
use Rattle.std.specs.List.{concat}
use Rattle.tui_app.specs.Trace.{WriteFailed, IsRead, ReadFailed, Traced, read_entry}
use Rattle.tui_cells.specs.Buffer.{IsFilled, Screen}
use Rattle.tui_cells.specs.Cell.{blank}
use Rattle.tui_display.proofs.Cutting.{cut_first}
use Rattle.tui_display.proofs.Taking.{WriteFailed-after, Calls, Traced-then, part_after}
use Rattle.tui_display.specs.Parts.{Ends, Feeds, Goes, GoesOn, SessionReached, HasEnded, HasRead, IsClosed, IsFinished, IsLineShown, IsOpened, IsIterated}
use Rattle.tui_display.specs.Run.{Counts, HasStopped, IsDisplayRun, cut, enters, last_text, leaves, whole}
use Rattle.tui_display.specs.Run as runs
use Rattle.tui_display.specs.Session.{begins, ends, first_area, reads}
use Rattle.tui_display.specs.declared.outcome.DisplayEnd.{DisplayEnd}
use Rattle.tui_display.specs.declared.outcome.DisplayEnd.TheVariants as last
use Rattle.tui_io.proofs.Outside.{Appends-keeps, Appends-then}
use Rattle.tui_io.specs.Causes.{Rose, TakesPrefix, Observed, Writes}
use Rattle.tui_terminal_model.specs.Calls.{IsFull}
use Rattle.tui_terminal_model.specs.Session.{enter_text}
use Rattle.tui_terminal_model.specs.declared.cursor.Cursor.TheVariants.{Hidden}
use Rattle.tui_terminal_model.specs.declared.output.Output.{Output}

-- ---- the start

pub opened : {E : Type 0} (o : Output) (first : Screen) (a b c : Observed) (result : Result (Unit {0}) E) (text : List ℕ) → Appends a.bytes b.bytes enter_text → b.io_errors ≡ a.io_errors →
    IsFull o Hidden first text → Writes b c result text → IsOpened o first a c result
opened o first a b c (Ok u) text taken same full writes =
    let enter : Traced a b enter_text = record { taken = taken; io_errors = same } in
    let next : Traced b c text = record { taken = writes.ok.0; io_errors = writes.ok.1 } in
    (text, full, Traced-then enter next)
opened o first a b c (Err e) text taken same full writes =
    let enter : Traced a b enter_text = record { taken = taken; io_errors = same } in
    let next : WriteFailed b c text = record { part = writes.failed.0; io_errors = writes.failed.1 } in
    inr (text, full, WriteFailed-after enter next)

pub read_first : (calls : Calls) (o : Output) (t now : Observed) (line : List ℕ) (screen : Screen) (text : List ℕ) → line ≡ [] → IsFilled first_area blank screen →
    IsFull o Hidden screen text → Traced t now (enter_text ++ text) → HasRead calls o t now 0 line screen
read_first calls o t now line screen text e filled full traced = record {
  all = [];
  counted = refl;
  reached = record {
    lines = [];
    trace = enter_text ++ text;
    sent = enter_text ++ text;
    session = begins screen text filled full;
    traced = traced;
    input = refl;
    cut = rw e cut_first;
    within = rw e (omega arith);
  };
}

pub not_opened : {E : Type 0} (calls : Calls) (o : Output) (first : Screen) (t now : Observed) (e : E) → IsFilled first_area blank first → IsOpened o first t now (Err e) →
    IsDisplayRun calls o t now last.WriteFault
not_opened calls o first t now e filled h =
    elim h [
      | inl write_failed ↦ cut enter_text t.io_errors enters write_failed.part write_failed.io_errors
      | inr write_failed ↦
          cut (enter_text ++ write_failed.0) t.io_errors
          (runs.shows [] [] first (enter_text ++ write_failed.0) (enter_text ++ write_failed.0) (begins first write_failed.0 filled write_failed.1))
          write_failed.2.part write_failed.2.io_errors
    ]

-- ---- one read

-- it gave bytes
pub after_iteration : (calls : Calls) (o : Output) (bytes line begun : List ℕ) (old new : Screen) (k m now : Observed) (result : Option DisplayEnd) → Traced k m (read_entry bytes) →
    IsRead bytes → Feeds calls o bytes line old begun new m now result → IsIterated calls o line old begun new k now result
after_iteration calls o bytes line begun old new k m now result traced read feeds t all reached =
    let more : concat (all ++ bytes ∷ []) ≡ concat all ++ bytes = concat-append all (bytes ∷ []) ∙ ap (λ (l : List ℕ). concat all ++ l) (append-nil bytes) in
    let start : SessionReached calls o t m (all ++ bytes ∷ []) (concat all) (bytes ++ []) line old = record {
      lines = reached.lines;
      trace = reached.trace ++ read_entry bytes;
      sent = reached.sent;
      session = reads all reached.lines old reached.trace reached.sent line bytes reached.session reached.cut reached.within read;
      traced = Traced-then reached.traced traced;
      input = more ∙ ap (λ (l : List ℕ). concat all ++ l) (sym (append-nil bytes));
      cut = reached.cut;
      within = reached.within;
    } in
    by_result more result (feeds t (all ++ bytes ∷ []) (concat all) [] start)
  where
    by_result : concat (all ++ bytes ∷ []) ≡ concat all ++ bytes → (r : Option DisplayEnd) →
        Goes calls o t now (all ++ bytes ∷ []) (concat all ++ bytes) [] begun new r → GoesOn calls o t now all begun new r
    by_result more None h = (bytes, subst (λ (l : List ℕ). SessionReached calls o t now (all ++ bytes ∷ []) l [] begun new) (sym more) h)
    by_result more (Some end) h = h

-- it failed
pub read_failed : (calls : Calls) (o : Output) (line begun : List ℕ) (old new : Screen) (k now : Observed) → ReadFailed k now →
    IsIterated calls o line old begun new k now (Some last.ReadFault)
read_failed calls o line begun old new k now miss t all reached = record {
  all = all;
  lines = reached.lines;
  screen = old;
  reached = reached.trace;
  sent = reached.sent;
  given = [];
  session = reached.session;
  stops = (refl, (line, reached.cut, reached.within));
  io_errors = subst (λ (n : ℕ). Rose n now.io_errors) reached.traced.io_errors miss.io_errors;
  taken = Appends-keeps t.bytes k.bytes now.bytes (reached.trace ++ []) (rw (append-nil reached.trace) reached.traced.taken) miss.kept;
}

-- it was the end of the input
pub finished : (calls : Calls) (o : Output) (line begun : List ℕ) (old new : Screen) (k m now : Observed) (end : DisplayEnd) → Traced k m (read_entry []) →
    IsFinished calls o line old m now end → IsIterated calls o line old begun new k now (Some end)
finished calls o line begun old new k m now end traced h t all reached = h t k all reached traced

-- and the last line is shown
pub finished_all : (calls : Calls) (o : Output) (line : List ℕ) (old new : Screen) (k now : Observed) → IsLineShown calls o old line new k now None →
    IsFinished calls o line old k now last.Ended
finished_all calls o line old new k now h t m all reached traced =
    let s = h reached.within in
    let trace = reached.trace ++ (read_entry [] ++ s.0) in
    let all_of : Traced t now trace = Traced-then reached.traced (Traced-then traced s.2) in
    record {
      all = all;
      lines = reached.lines ++ line ∷ [];
      screen = new;
      reached = trace;
      sent = reached.sent ++ s.0;
      given = [];
      session = ends all reached.lines old new reached.trace reached.sent line s.0 reached.session reached.cut s.1;
      stops = (refl, reached.cut);
      io_errors = all_of.io_errors;
      taken = rw (append-nil trace) all_of.taken;
    }

-- or it is not
pub finished_early : (calls : Calls) (o : Output) (line : List ℕ) (old new : Screen) (k now : Observed) (end : DisplayEnd) → IsLineShown calls o old line new k now (Some end) →
    IsFinished calls o line old k now end
finished_early calls o line old new k now end h t m all reached traced = by_end end h
  where
    by_end : (e : DisplayEnd) → IsLineShown calls o old line new k now (Some e) → Ends calls o t now e
    by_end last.WriteFault h =
        let s = h reached.within in
        let trace = reached.trace ++ (read_entry [] ++ s.0) in
        record {
          trace = trace;
          sending = runs.shows all (reached.lines ++ line ∷ []) new trace (reached.sent ++ s.0)
              (ends all reached.lines old new reached.trace reached.sent line s.0 reached.session reached.cut s.1);
          write_failed = WriteFailed-after reached.traced (WriteFailed-after traced s.2);
        }
    by_end last.NoMemory h =
        let so_far : Traced t now (reached.trace ++ read_entry []) = subst (λ (n : Observed). Traced t n (reached.trace ++ read_entry [])) (sym h.0) (Traced-then reached.traced traced) in
        record {
          all = all;
          lines = reached.lines;
          screen = old;
          reached = reached.trace;
          sent = reached.sent;
          given = read_entry [];
          session = reached.session;
          stops = inr (refl, (line, reached.cut, h.1, reached.within));
          io_errors = so_far.io_errors;
          taken = so_far.taken;
        }
    by_end last.Ended h = absurd h
    by_end last.TooLong h = absurd h
    by_end last.ReadFault h = absurd h
    by_end last.ManyReads h = absurd h

pub read_more : (calls : Calls) (o : Output) (t k now : Observed) (count : ℕ) (line begun : List ℕ) (old new : Screen) → HasRead calls o t k count line old →
    IsIterated calls o line old begun new k now None → HasRead calls o t now (count + 1) begun new
read_more calls o t k now count line begun old new has iteration =
    let next = iteration t has.all has.reached in
    record {
      all = has.all ++ next.0 ∷ [];
      counted = length-append has.all (next.0 ∷ []) ∙ ap (λ (n : ℕ). n + 1) has.counted;
      reached = next.1;
    }

-- ---- the end

-- a session that stopped leaves the terminal, or a write fails
left : (calls : Calls) (o : Output) (t m now : Observed) (end result : DisplayEnd) → HasEnded calls o t m end →
    ((result ≡ end) × Traced m now (last_text end)) ⊎ ((result ≡ last.WriteFault) × WriteFailed m now (last_text end)) → IsDisplayRun calls o t now result
left calls o t m now end result e c =
    let trace = e.reached ++ (e.given ++ last_text end) in
    let regroup : (e.reached ++ e.given) ++ last_text end ≡ trace = append_assoc e.reached e.given (last_text end) in
    let has : (n : ℕ) → Counts end t.io_errors n → HasStopped calls o end trace t.io_errors n = λ n io_errors. record {
      all = e.all;
      lines = e.lines;
      screen = e.screen;
      reached = e.reached;
      sent = e.sent;
      given = e.given;
      session = e.session;
      stops = e.stops;
      io_errors = io_errors;
      trace_is = refl;
    } in
    elim c [
      | inl traced ↦
          subst (λ (r : DisplayEnd). IsDisplayRun calls o t now r) (sym traced.0)
          (whole end trace (has now.io_errors (subst (λ (n : ℕ). Counts end t.io_errors n) (sym traced.1.io_errors) e.io_errors))
          (subst (λ (l : List ℕ). Appends t.bytes now.bytes l) regroup
          (Appends-then t.bytes m.bytes now.bytes (e.reached ++ e.given) (last_text end) e.taken traced.1.taken)))
      | inr write_failed ↦
          subst (λ (r : DisplayEnd). IsDisplayRun calls o t now r) (sym write_failed.0)
          (cut trace m.io_errors (leaves end trace m.io_errors (has m.io_errors e.io_errors))
          (subst (λ (l : List ℕ). TakesPrefix t.bytes now.bytes l) regroup
          (part_after t.bytes m.bytes now.bytes (e.reached ++ e.given) (last_text end) e.taken write_failed.1.part))
          write_failed.1.io_errors)
    ]

pub has_ended : (calls : Calls) (o : Output) (t m now : Observed) (end result : DisplayEnd) → Ends calls o t m end → IsClosed end m now result → IsDisplayRun calls o t now result
has_ended calls o t m now last.WriteFault result e c =
    let write_failed : WriteFailed t now e.trace = subst (λ (n : Observed). WriteFailed t n e.trace) (sym c.1) e.write_failed in
    subst (λ (r : DisplayEnd). IsDisplayRun calls o t now r) (sym c.0) (cut e.trace t.io_errors e.sending write_failed.part write_failed.io_errors)
has_ended calls o t m now last.Ended result e c = left calls o t m now last.Ended result e c
has_ended calls o t m now last.TooLong result e c = left calls o t m now last.TooLong result e c
has_ended calls o t m now last.ReadFault result e c = left calls o t m now last.ReadFault result e c
has_ended calls o t m now last.NoMemory result e c = left calls o t m now last.NoMemory result e c
has_ended calls o t m now last.ManyReads result e c = left calls o t m now last.ManyReads result e c

-- 4,294,967,296 reads were made
pub many_reads : (calls : Calls) (o : Output) (t now : Observed) (count : ℕ) (line : List ℕ) (screen : Screen) → count ≡ 4294967296 →
    HasRead calls o t now count line screen → Ends calls o t now last.ManyReads
many_reads calls o t now count line screen all_of has = record {
  all = has.all;
  lines = has.reached.lines;
  screen = screen;
  reached = has.reached.trace;
  sent = has.reached.sent;
  given = [];
  session = has.reached.session;
  stops = (refl, has.counted ∙ all_of, (line, has.reached.cut, has.reached.within));
  io_errors = has.reached.traced.io_errors;
  taken = rw (append-nil has.reached.trace) has.reached.traced.taken;
}
