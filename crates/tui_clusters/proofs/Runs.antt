-- Runs of printable bytes: each byte is a cluster by itself.
use Rattle.std.proofs.Common.{◌≡◌, ℕ, zero, suc, ◌-◌, ◌<◌, ◌≤◌, true, ◌&&◌, List, [], ◌∷◌, ◌++◌, map, length, length-append, take, drop, slice_index, append-nil, refl, sym, ap, ap₂, subst, ◌∙◌, arith}
use Rattle.std.specs.List.{list_all}
use Rattle.std.specs.Str.{IsCharBoundary, IsUtf8}
use Rattle.std.proofs.lemmas.Bool.{and_parts}
use Rattle.std.proofs.lemmas.List.{drop_all, take_all}
use Rattle.std.proofs.lemmas.Str.{IsCharBoundary-from_take, IsUtf8-drop, IsUtf8-from_ascii}
use Rattle.tui_clusters.specs.Plain.{IsPlainFirst, IsPlainRun, plain_len}
use Rattle.tui_clusters.specs.Printable.{is_printable}
use Rattle.tui_clusters.specs.Shown.{clusters, one_byte}
use Rattle.tui_clusters.proofs.EmptyText.{clusters-nil, clusters-none}
use Rattle.tui_clusters.proofs.FirstPlain.{quick_alone, quick_before}
use Rattle.tui_clusters.proofs.LeadBytes.{printable_lead}
use Rattle.tui_clusters.proofs.OneByte.{printable_ascii}
use Rattle.tui_clusters.proofs.Seams.{shown-next}

printable_plain : (b : ℕ) → is_printable b ≡ true → 1 ≡ plain_len b
printable_plain b e = sym (printable_lead b e)

-- the run that ends before a printable byte after which nothing is known
printable_before : (n : ℕ) (text : List ℕ) → list_all is_printable (take (suc n) text) ≡ true → n < length text →
    (list_all is_printable (take n text) ≡ true) × (is_printable (slice_index text n) ≡ true)
printable_before n [] e lt = absurd (omega (arith, lt))
printable_before zero (b ∷ bs) e lt = (refl, (and_parts (is_printable b) _ e).0)
printable_before (suc n) (b ∷ bs) e lt =
    let both = and_parts (is_printable b) _ e in
    let rest = printable_before n bs both.1 (omega arith) in
    (ap₂ ◌&&◌ both.0 rest.0, rest.1)

pub shorter_run : (text bytes : List ℕ) (end n : ℕ) → bytes ≡ text → list_all is_printable (take end bytes) ≡ true → end < length bytes → n ≡ end - 1 → IsPlainRun text n
shorter_run text bytes zero n e all lt is =
    let none : n ≡ 0 = omega (arith, is) in
    subst (λ k. IsPlainRun text k) (sym none) (record { within = omega arith; printable = refl; apart = λ some. absurd (omega (arith, some)) })
shorter_run text bytes (suc end) n e all lt is =
    let size = ap length e in
    let before : n ≡ end = omega (arith, is) in
    let last = printable_before end text (ap (λ t. list_all is_printable (take (suc end) t)) (sym e) ∙ all) (omega arith) in
    let known = printable_plain (slice_index text end) last.1 in
    subst (λ k. IsPlainRun text k) (sym before) (record { within = omega arith; printable = last.0; apart = λ some less. omega arith })

-- a printable byte before a plain character, or at the end
first_of_run : (b : ℕ) (bs : List ℕ) → IsUtf8 (b ∷ bs) → is_printable b ≡ true → (0 < length bs → 0 < plain_len (slice_index bs 0)) → IsPlainFirst (b ∷ bs) 1
first_of_run b [] u e apart = quick_alone (b ∷ []) (b ∷ []) 1 u (omega arith) refl (printable_plain b e) (omega arith) (omega arith)
first_of_run b (c ∷ cs) u e apart =
    quick_before (b ∷ c ∷ cs) (b ∷ c ∷ cs) 1 u (omega arith) refl (printable_plain b e) (omega arith) (plain_len c) (omega arith) refl (apart (omega arith))

-- the byte after the first one of a run
next_apart : (n b : ℕ) (bs : List ℕ) → IsPlainRun (b ∷ bs) (suc n) → 0 < length bs → 0 < plain_len (slice_index bs 0)
next_apart zero b bs r some = r.apart (omega arith) (omega arith)
next_apart (suc n) b [] r some = absurd (omega arith)
next_apart (suc n) b (c ∷ cs) r some =
    let here = printable_plain c (and_parts (is_printable c) _ (and_parts (is_printable b) _ r.printable).1).0 in
    omega (arith, here)

rest_of_run : (n b : ℕ) (bs : List ℕ) → IsPlainRun (b ∷ bs) (suc n) → IsPlainRun bs n
rest_of_run n b bs r = record {
  within = omega (arith, r.within);
  printable = (and_parts (is_printable b) _ r.printable).1;
  apart = λ some less. r.apart (omega arith) (omega arith);
}

-- the clusters of a run are its bytes
pub run_clusters : (n : ℕ) (text : List ℕ) → IsUtf8 text → IsPlainRun text n → clusters text ≡ map one_byte (take n text) ++ clusters (drop n text)
run_clusters zero text u r = refl
run_clusters (suc n) [] u r = absurd (omega (arith, r.within))
run_clusters (suc n) (b ∷ bs) u r =
    let p = first_of_run b bs u (and_parts (is_printable b) _ r.printable).0 (next_apart n b bs r) in
    shown-next [] [] (b ∷ bs) (b ∷ []) bs refl refl p.clusters p.shown
    ∙ ap (λ cs. (b ∷ []) ∷ cs) (run_clusters n bs (IsUtf8-drop (b ∷ bs) 1 u p.boundary) (rest_of_run n b bs r))

pub run_boundary : (text : List ℕ) (n : ℕ) → IsUtf8 text → IsPlainRun text n → IsCharBoundary text n
run_boundary text n u r = IsCharBoundary-from_take text n u r.within (IsUtf8-from_ascii (take n text) (printable_ascii (take n text) r.printable))

-- a text of only printable bytes
pub printable_clusters : (text : List ℕ) → list_all is_printable text ≡ true → clusters text ≡ map one_byte text
printable_clusters text e =
    let n = length text in
    let all : take n text ≡ text = take_all n text (omega arith) in
    run_clusters n text (IsUtf8-from_ascii text (printable_ascii text e))
    (record { within = omega arith; printable = ap (list_all is_printable) all ∙ e; apart = λ some less. absurd (omega arith) })
    ∙ (ap₂ (λ run rest. map one_byte run ++ clusters rest) all (drop_all n text (omega arith))
    ∙ (ap (λ cs. map one_byte text ++ cs) clusters-nil ∙ append-nil (map one_byte text)))

pub fewer_after : (run : List ℕ) (cs all : List (List ℕ)) → all ≡ map one_byte run ++ cs → length cs ≤ length all
fewer_after run cs all e = omega (arith, ap length e, length-append (map one_byte run) cs)

-- a run with no text after it
pub run_alone : (run rest : List ℕ) (all : List (List ℕ)) → all ≡ map one_byte run ++ clusters rest → length rest ≡ 0 → all ≡ map one_byte run ++ []
run_alone run rest all e none = e ∙ ap (λ cs. map one_byte run ++ cs) (clusters-none rest none)
