-- The lines of a read, one after another.
use Rattle.std.proofs.Common.{◌≡◌, inl, ℕ, ◌+◌, ◌<◌, ◌≤◌, false, ◌==◌, List, [], ◌∷◌, ◌++◌, length, take, drop, get_or, suc, zero, Option, None, Some, refl, sym, ap, subst, ◌∙◌, append_assoc, arith}
use Rattle.std.proofs.lemmas.Bool.{true≢false}
use Rattle.std.proofs.lemmas.List.{append-nil, length-append, take-append-drop, take-append-le, take_all, take_more}
use Rattle.std.proofs.Math.Seq.{drop-cons, take-append-add}
use Rattle.std.specs.Io.KnownBytes.{Appends}
use Rattle.tui_app.specs.Trace.{WriteFailed, Traced}
use Rattle.tui_cells.specs.Buffer.{Screen}
use Rattle.tui_display.proofs.Cutting.{cut_added, cut_ended}
use Rattle.tui_display.specs.Parts.{Feeds, Goes, SessionReached, HasEnded, IsAdded, IsLineShown, IsWritten}
use Rattle.tui_display.specs.Run as runs
use Rattle.tui_display.specs.Session.{IsNext, Session, ShowsLine, shows}
use Rattle.tui_display.specs.declared.outcome.DisplayEnd.{DisplayEnd}
use Rattle.tui_display.specs.declared.outcome.DisplayEnd.TheVariants as ends
use Rattle.tui_io.proofs.Outside.{Appends-then}
use Rattle.tui_io.specs.Causes.{Rose, TakesPrefix, Observed}
use Rattle.tui_io.specs.Limits.{limit}
use Rattle.tui_terminal_model.specs.declared.output.Output.{Output}

abbrev pub Calls : Type 1
Calls = List ℕ → Screen → Screen → Type 0

-- ---- traces

pub Traced-then : {a b c : Observed} {xs ys : List ℕ} → Traced a b xs → Traced b c ys → Traced a c (xs ++ ys)
Traced-then {a} {b} {c} {xs} {ys} s t = record {
  taken = Appends-then a.bytes b.bytes c.bytes xs ys s.taken t.taken;
  io_errors = t.io_errors ∙ s.io_errors;
}

pub part_after : (a b c : Option (List ℕ)) (xs ys : List ℕ) → Appends a b xs → TakesPrefix b c ys → TakesPrefix a c (xs ++ ys)
part_after a b c xs ys s t = record {
  count = length xs + t.count;
  short = let less = t.short in omega (arith, length-append xs ys);
  taken = rw take-append-add (Appends-then a b c xs (take t.count ys) s t.taken);
}

pub WriteFailed-after : {a b c : Observed} {xs ys : List ℕ} → Traced a b xs → WriteFailed b c ys → WriteFailed a c (xs ++ ys)
WriteFailed-after {a} {b} {c} {xs} {ys} s t = record {
  part = part_after a.bytes b.bytes c.bytes xs ys s.taken t.part;
  io_errors = subst (λ (n : ℕ). Rose n c.io_errors) s.io_errors t.io_errors;
}

-- a proper prefix of some bytes is also one of more bytes
pub part_of : (a b : Option (List ℕ)) (xs ys : List ℕ) → TakesPrefix a b xs → TakesPrefix a b (xs ++ ys)
part_of a b xs ys t = record {
  count = t.count;
  short = let less = t.short in omega (arith, length-append xs ys);
  taken = let less = t.short in rw (take-append-le t.count xs ys (omega arith)) t.taken;
}

-- ---- one byte

-- a session ends here, and nothing was written since
ended_here : (calls : Calls) (o : Output) (t now : Observed) (all : List (List ℕ)) (before after line : List ℕ) (screen : Screen) (end : DisplayEnd) →
    (reached : SessionReached calls o t now all before after line screen) → runs.Stops all reached.lines [] end → runs.Counts end t.io_errors now.io_errors → HasEnded calls o t now end
ended_here calls o t now all before after line screen end reached stops counts = record {
  all = all;
  lines = reached.lines;
  screen = screen;
  reached = reached.trace;
  sent = reached.sent;
  given = [];
  session = reached.session;
  stops = stops;
  io_errors = counts;
  taken = rw (append-nil reached.trace) reached.traced.taken;
}

-- the line ends
pub line_ended : (calls : Calls) (o : Output) (line : List ℕ) (old new : Screen) (k now : Observed) (result : Option DisplayEnd) →
    IsLineShown calls o old line new k now result → Feeds calls o (10 ∷ []) line old [] new k now result
line_ended calls o line old new k now result h t all before after reached = by_result result h
  where
    next_session : (text : List ℕ) → ShowsLine calls o line old new text → Session calls o all (reached.lines ++ line ∷ []) new (reached.trace ++ text) (reached.sent ++ text)
    next_session text shown = shows all reached.lines old new reached.trace reached.sent before line after text reached.session reached.input reached.cut shown

    by_result : (r : Option DisplayEnd) → IsLineShown calls o old line new k now r → Goes calls o t now all (before ++ 10 ∷ []) after [] new r
    by_result None h =
        let s = h reached.within in
        record {
          lines = reached.lines ++ line ∷ [];
          trace = reached.trace ++ s.0;
          sent = reached.sent ++ s.0;
          session = next_session s.0 s.1;
          traced = Traced-then reached.traced s.2;
          input = reached.input ∙ sym (append_assoc before (10 ∷ []) after);
          cut = cut_ended before line reached.lines reached.cut;
          within = omega arith;
        }
    by_result (Some ends.WriteFault) h =
        let s = h reached.within in
        record {
          trace = reached.trace ++ s.0;
          sending = runs.shows all (reached.lines ++ line ∷ []) new (reached.trace ++ s.0) (reached.sent ++ s.0) (next_session s.0 s.1);
          write_failed = WriteFailed-after reached.traced s.2;
        }
    by_result (Some ends.NoMemory) h =
        let here : SessionReached calls o t now all before (10 ∷ after) line old =
        subst (λ (n : Observed). SessionReached calls o t n all before (10 ∷ after) line old) (sym h.0) reached in
        ended_here calls o t now all before (10 ∷ after) line old ends.NoMemory here
        (inl (refl, (before, 10, after, line, here.input, here.cut))) here.traced.io_errors
    by_result (Some ends.Ended) h = absurd h
    by_result (Some ends.TooLong) h = absurd h
    by_result (Some ends.ReadFault) h = absurd h
    by_result (Some ends.ManyReads) h = absurd h

-- the line goes on
pub line_added : (calls : Calls) (o : Output) (byte : ℕ) (line begun : List ℕ) (screen : Screen) (k : Observed) (result : Option DisplayEnd) →
    (byte == 10) ≡ false → IsAdded line byte begun result → Feeds calls o (byte ∷ []) line screen begun screen k k result
line_added calls o byte line begun screen k result other h t all before after reached = by_result result h
  where
    by_result : (r : Option DisplayEnd) → IsAdded line byte begun r → Goes calls o t k all (before ++ byte ∷ []) after begun screen r
    by_result None h = record {
      lines = reached.lines;
      trace = reached.trace;
      sent = reached.sent;
      session = reached.session;
      traced = reached.traced;
      input = reached.input ∙ sym (append_assoc before (byte ∷ []) after);
      cut = rw h.0 (cut_added before line reached.lines byte other reached.cut);
      within = h.1;
    }
    by_result (Some ends.TooLong) h =
        ended_here calls o t k all before (byte ∷ after) line screen ends.TooLong reached (
          refl,
          before ++ byte ∷ [],
          after,
          line ++ byte ∷ [],
          reached.input ∙ sym (append_assoc before (byte ∷ []) after),
          cut_added before line reached.lines byte other reached.cut,
          omega (arith, h, length-append line (byte ∷ [])),
        )
        reached.traced.io_errors
    by_result (Some ends.NoMemory) h =
        ended_here calls o t k all before (byte ∷ after) line screen ends.NoMemory reached
        (inl (refl, (before, byte, after, line, reached.input, reached.cut))) reached.traced.io_errors
    by_result (Some ends.Ended) h = absurd h
    by_result (Some ends.WriteFault) h = absurd h
    by_result (Some ends.ReadFault) h = absurd h
    by_result (Some ends.ManyReads) h = absurd h

-- ---- all bytes of a read

pub fed_none : (calls : Calls) (o : Output) (line : List ℕ) (screen : Screen) (k : Observed) → Feeds calls o [] line screen line screen k k None
fed_none calls o line screen k t all before after reached = rw (append-nil before) reached

pub fed_more : (calls : Calls) (o : Output) (bytes : List ℕ) (i : ℕ) (line mid begun : List ℕ) (old other new : Screen) (k m now : Observed) → i < length bytes →
    Feeds calls o (take i bytes) line old mid other k m None → Feeds calls o (get_or bytes i 0 ∷ []) mid other begun new m now None →
    Feeds calls o (take (i + 1) bytes) line old begun new k now None
fed_more calls o bytes i line mid begun old other new k m now lt fed one t all before after reached =
    let b = get_or bytes i 0 in
    let more : take (i + 1) bytes ≡ take i bytes ++ b ∷ [] = take_more bytes i 0 lt in
    let start : SessionReached calls o t k all before (take i bytes ++ (b ∷ after)) line old =
    subst (λ (l : List ℕ). SessionReached calls o t k all before l line old) (ap (λ (l : List ℕ). l ++ after) more ∙ append_assoc (take i bytes) (b ∷ []) after) reached in
    let then_ = one t all (before ++ take i bytes) after (fed t all before (b ∷ after) start) in
    subst (λ (l : List ℕ). SessionReached calls o t now all l after begun new)
    (append_assoc before (take i bytes) (b ∷ []) ∙ ap (λ (l : List ℕ). before ++ l) (sym more)) then_

pub fed_ended : (calls : Calls) (o : Output) (bytes : List ℕ) (i : ℕ) (line mid begun : List ℕ) (old other new : Screen) (k m now : Observed) (end : DisplayEnd) →
    i < length bytes → Feeds calls o (take i bytes) line old mid other k m None →
    Feeds calls o (get_or bytes i 0 ∷ []) mid other begun new m now (Some end) → Feeds calls o bytes line old begun new k now (Some end)
fed_ended calls o bytes i line mid begun old other new k m now end lt fed one t all before after reached =
    let b = get_or bytes i 0 in
    let rest = drop (suc i) bytes ++ after in
    let split : bytes ++ after ≡ take i bytes ++ (b ∷ rest) =
    ap (λ (l : List ℕ). l ++ after) (split_at bytes i lt) ∙ append_assoc (take i bytes) (b ∷ drop (suc i) bytes) after in
    let start : SessionReached calls o t k all before (take i bytes ++ (b ∷ rest)) line old =
    subst (λ (l : List ℕ). SessionReached calls o t k all before l line old) split reached in
    one t all (before ++ take i bytes) rest (fed t all before (b ∷ rest) start)
  where
    split_at : (xs : List ℕ) (j : ℕ) → j < length xs → xs ≡ take j xs ++ get_or xs j 0 ∷ drop (suc j) xs
    split_at xs j below = sym (take-append-drop j xs) ∙ ap (λ (l : List ℕ). take j xs ++ l) (drop-cons xs j 0 below)

pub fed_all : (calls : Calls) (o : Output) (bytes : List ℕ) (i : ℕ) (line begun : List ℕ) (old new : Screen) (k now : Observed) → length bytes ≤ i →
    Feeds calls o (take i bytes) line old begun new k now None → Feeds calls o bytes line old begun new k now None
fed_all calls o bytes i line begun old new k now le fed =
    subst (λ (l : List ℕ). Feeds calls o l line old begun new k now None) (take_all i bytes le) fed

-- ---- one line

-- it has a byte
pub some_of : (n m : ℕ) → (n == 0) ≡ false → m ≡ n → 0 < m
some_of zero m f e = absurd (true≢false f)
some_of (suc n) m f e = omega (arith, e)

-- the screen that it calls for is sent
pub line_shown : (calls : Calls) (o : Output) (line was : List ℕ) (old new made : Screen) (k now : Observed) (result : Option DisplayEnd) (text : List ℕ) → 0 < length line →
    was ≡ line → new ≡ made → calls was old made → IsNext o old made text → IsWritten k now text result → IsLineShown calls o old line new k now result
line_shown calls o line was old new made k now result text some e f calls_for is written =
    rw f (by_line line result some (subst (λ (l : List ℕ). calls l old made) e calls_for) written)
  where
    shown : (l : List ℕ) → 0 < length l → calls l old made → length l ≤ limit → ShowsLine calls o l old made text
    shown [] some c within = absurd (omega (arith, some))
    shown (b ∷ bs) some c within = record { within = within; makes = c; written = is }

    by_line : (l : List ℕ) (r : Option DisplayEnd) → 0 < length l → calls l old made → IsWritten k now text r → IsLineShown calls o old l made k now r
    by_line l None some c written = λ within. (text, shown l some c within, written)
    by_line l (Some ends.WriteFault) some c written = λ within. (text, shown l some c within, written)
    by_line l (Some ends.NoMemory) some c written = absurd written
    by_line l (Some ends.Ended) some c written = absurd written
    by_line l (Some ends.TooLong) some c written = absurd written
    by_line l (Some ends.ReadFault) some c written = absurd written
    by_line l (Some ends.ManyReads) some c written = absurd written
