-- The widths of runs of printable bytes: one column each.
use Rattle.std.proofs.Common.{◌≡◌, ℕ, false, ◌+◌, ◌-◌, ◌^◌, ◌<◌, Bool, true, min, nat_lt, List, [], ◌∷◌, ◌++◌, map, length, sum_by, zero-add, sym, ap, ◌∙◌, arith}
use Rattle.std.specs.List.{list_all}
use Rattle.std.proofs.lemmas.Bool.{and_parts}
use Rattle.std.proofs.lemmas.Bool.Decides.{nat_tests}
use Rattle.std.proofs.lemmas.List.Sums.{sum_by-cons}
use Rattle.tui_clusters.specs.Width.{columns_of, saturated, width_of}
use Rattle.tui_clusters.specs.Shown.{one_byte}
use Rattle.tui_clusters.specs.Printable.{is_printable}
use Rattle.tui_clusters.proofs.OneByte.{byte_columns}

before : (cjk : Bool) (run : List ℕ) (cs : List (List ℕ)) → list_all is_printable run ≡ true →
    sum_by (columns_of cjk) (map one_byte run ++ cs) ≡ length run + sum_by (columns_of cjk) cs
before cjk [] cs e = sym (zero-add (sum_by (columns_of cjk) cs))
before cjk (b ∷ bs) cs e =
    let both = and_parts (is_printable b) _ e in
    let rest = before cjk bs cs both.1 in
    let one = byte_columns cjk b both.0 in
    let all = sum_by-cons (columns_of cjk) (b ∷ []) (map one_byte bs ++ cs) in
    omega (arith, all, one, rest)

-- printable bytes, and the clusters after them
pub run_columns : (cjk : Bool) (run : List ℕ) (cs all : List (List ℕ)) → all ≡ map one_byte run ++ cs → list_all is_printable run ≡ true →
    sum_by (columns_of cjk) all ≡ length run + sum_by (columns_of cjk) cs
run_columns cjk run cs all e printable = ap (sum_by (columns_of cjk)) e ∙ before cjk run cs printable

pub run_width : (cjk : Bool) (run : List ℕ) (cs all : List (List ℕ)) → all ≡ map one_byte run ++ cs → list_all is_printable run ≡ true →
    min (length run + saturated (sum_by (columns_of cjk) cs)) (2 ^ 64 - 1) ≡ saturated (sum_by (columns_of cjk) all)
run_width cjk run cs all e printable =
    let is = run_columns cjk run cs all e printable in
    omega (arith, is)

-- if there is a byte, there is a column
pub some_column : (cjk : Bool) (run : List ℕ) (cs all : List (List ℕ)) → all ≡ map one_byte run ++ cs → list_all is_printable run ≡ true → 0 < length run →
    true ≡ nat_lt 0 (sum_by (columns_of cjk) all)
some_column cjk run cs all e printable some = above (sum_by (columns_of cjk) all) (let is = run_columns cjk run cs all e printable in omega (arith, is, some))
  where
    above : (n : ℕ) → 0 < n → true ≡ nat_lt 0 n
    above n lt = grind (arith, nat_tests)

-- a single cluster
pub lone_column : (text : List ℕ) (cs : List (List ℕ)) → cs ≡ text ∷ [] → nat_lt 0 (width_of text) ≡ nat_lt 0 (sum_by (columns_of false) cs)
unfolding width_of
lone_column text cs e = rw e (ap (nat_lt 0) (sym (zero-add (columns_of false text))))
