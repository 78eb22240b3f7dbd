-- Pages one after another.
use Rattle.std.proofs.Common.{◌≡◌, ℕ, suc, zero, ◌+◌, ◌-◌, ◌<◌, Bool, true, false, cond, List, [], ◌++◌, length, Result, Ok, Err, inr, append_assoc, arith, refl, sym, ap, ap₂, subst, ◌∙◌}
use Rattle.std.specs.Prelude.{min}
use Rattle.std.proofs.lemmas.List.{append-nil}
use Rattle.tui_io.specs.Causes.{WritesIf, WritesPrefix, Observed}
use Rattle.tui_io.specs.Prints.{PrintState, Prints}
use Rattle.tui_io.proofs.Printing.{Prints-end, WritesIf-none}
use Rattle.tui_io.proofs.Outside.{WritesIf-then}
use Rattle.tui_cells.specs.Rect.{area_of}
use Rattle.tui_cells.specs.declared.rect.Rect.{Rect}
use Rattle.tui_pages_lib.specs.Report.{ReportData}
use Rattle.tui_pages_lib.specs.Strokes.{page_area}
use Rattle.tui_program.specs.Outcomes.{AnswersWith, no_refusal}
use Rattle.tui_program.specs.declared.stop.Stop.{Stop}
use Rattle.tui_program.specs.declared.stop.Stop.TheVariants as stop
use Rattle.tui_pages_run.specs.Printed.{AreAllPages, AreFewerPages, first_pages, page_text}

pub one_more : (r : ReportData) (n : ℕ) → first_pages r (n + 1) ≡ first_pages r n ++ page_text r n
unfolding first_pages
one_more r n = let e : n + 1 ≡ suc n = omega arith in rw e refl

pub more : (r : ReportData) (n m : ℕ) → (rest : List ℕ) × (first_pages r (n + m) ≡ first_pages r n ++ rest)
more r n zero = let e : n + 0 ≡ n = omega arith in ([], rw e (sym (append-nil (first_pages r n))))
more r n (suc m) =
    let e : n + suc m ≡ n + m + 1 = omega arith in
    let before = more r n m in (
      before.0 ++ page_text r (n + m),
      rw e (one_more r (n + m) ∙ (ap (λ (l : List ℕ). l ++ page_text r (n + m)) before.1 ∙ append_assoc (first_pages r n) before.0 (page_text r (n + m)))),
    )

-- a write that fails within the first pages fails within all pages
pub io_error_in : (r : ReportData) (a b : Observed) (k n : ℕ) → k < n → WritesPrefix a b (first_pages r k) → WritesPrefix a b (first_pages r n)
io_error_in r a b k n lt fault =
    let e : k + (n - k) ≡ n = omega arith in
    let rest = more r k (n - k) in
    let still : WritesIf b b false false rest.0 = record { sent = (WritesIf-none b false).sent; cause = refl } in
    let all : first_pages r n ≡ first_pages r k ++ rest.0 = ap (first_pages r) (sym e) ∙ rest.1 in
    subst (λ (text : List ℕ). WritesPrefix a b text) (sym all) (WritesIf-then fault still)

abbrev rect_at : ℕ → ℕ → Rect
rect_at w h = record { x = 0; y = 0; width = w; height = h }

-- the area of a page, as a buffer states it
pub area_again : (r : ReportData) (area : Rect) → area ≡ page_area r → area_of area.x area.y area.width area.height ≡ page_area r
area_again r area is =
    let wide : min (min r.width 65535) 65535 ≡ min r.width 65535 = omega arith in
    let high : min (min r.height 65535) 65535 ≡ min r.height 65535 = omega arith in
    ap (λ (g : Rect). area_of g.x g.y g.width g.height) is
    ∙ ap₂ rect_at wide high

abbrev pub none_yet : PrintState
none_yet = record { bytes = []; ok_so_far = true }

-- if memory runs out, what the print holds of the first pages is written
pub ended_early : {T R : Type 0} (r : ReportData) (a b c : Observed) (print : PrintState) (k : ℕ) (goes : Bool) (answer : Result T (Stop R)) →
    k < length r.pages → Prints a b none_yet print (first_pages r k) → WritesIf b c print.ok_so_far goes print.bytes →
    answer ≡ cond goes (Err stop.NoMemory) (Err stop.WriteFault) → AnswersWith (AreAllPages r) (AreFewerPages r) no_refusal a c answer
ended_early {T} {R} r a b c print k goes answer lt gathered put is =
    subst (λ (x : Result T (Stop R)). AnswersWith (AreAllPages r) (AreFewerPages r) no_refusal a c x) (sym is) (by_case goes put)
  where
    by_case : (goes : Bool) → WritesIf b c print.ok_so_far goes print.bytes →
        AnswersWith {T = T} {R = R} (AreAllPages r) (AreFewerPages r) no_refusal a c (cond goes (Err stop.NoMemory) (Err stop.WriteFault))
    by_case true put = inr (first_pages r k, (k, lt, refl), Prints-end gathered put)
    by_case false put = (first_pages r (length r.pages), refl, io_error_in r a c k (length r.pages) lt (Prints-end gathered put))

-- in the end, what it holds of all pages is written
pub ended_whole : {T R : Type 0} (r : ReportData) (a b c : Observed) (print : PrintState) (k : ℕ) (goes : Bool) (u : T) (answer : Result T (Stop R)) →
    k ≡ length r.pages → Prints a b none_yet print (first_pages r k) → WritesIf b c print.ok_so_far goes print.bytes →
    answer ≡ cond goes (Ok u) (Err stop.WriteFault) → AnswersWith (AreAllPages r) (AreFewerPages r) no_refusal a c answer
ended_whole {T} {R} r a b c print k goes u answer all gathered put is =
    subst (λ (x : Result T (Stop R)). AnswersWith (AreAllPages r) (AreFewerPages r) no_refusal a c x) (sym is) (by_case goes put)
  where
    by_case : (goes : Bool) → WritesIf b c print.ok_so_far goes print.bytes →
        AnswersWith {T = T} {R = R} (AreAllPages r) (AreFewerPages r) no_refusal a c (cond goes (Ok u) (Err stop.WriteFault))
    by_case true put = (first_pages r k, ap (first_pages r) all, Prints-end gathered put)
    by_case false put = (first_pages r k, ap (first_pages r) all, Prints-end gathered put)
