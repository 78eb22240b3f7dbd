-- A row has exactly one list of runs, and a screen has exactly one print.
use Rattle.std.proofs.Common.{◌≡◌, ◌≢◌, ℕ, zero, suc, ◌+◌, ◌-◌, ◌<◌, ◌≤◌, ◌⊎◌, List, [], ◌∷◌, ◌++◌, length, get_or, flat_map, Some, refl, sym, ap, ◌∙◌, inl, inr, arith}
use Rattle.std.specs.List.{AllPairs, Contains, slice_index_or}
use Rattle.std.proofs.lemmas.Bool.{cases_lt}
use Rattle.std.proofs.lemmas.List.Elements.{All-contains}
use Rattle.std.proofs.lemmas.Option.{slice_get-get_or}
use Rattle.tui_cells.specs.declared.attributes.Attributes.{Attributes}
use Rattle.tui_cells.specs.Buffer.{Screen}
use Rattle.tui_cells.specs.Cell.{Look, blank}
use Rattle.tui_scene.specs.Item.{PlacedData}
use Rattle.tui_print.specs.Laws.{IsInRun}
use Rattle.tui_rows.specs.RowLine.{row_line}
use Rattle.tui_print.specs.Print.{AreRunLines, IsPrint, run_line, state_lines}
use Rattle.tui_print.specs.Runs.{StyleRun, IsStyleRun, AreStyleRuns, attributes_of, attributes_at, unstyled_attributes}
use Rattle.tui_print.proofs.Equality.{attributes_cases}
use Rattle.tui_print.proofs.RunLemmas.{RunsBefore, IsStretch, run_of, past_end, some_one, stretch_of, no_runs, more_unstyled, more_run, all_runs, one_run}

-- runs ordered by their first columns
abbrev InOrder : List StyleRun → Type 0
InOrder runs = AllPairs (λ one later. one.start < later.start) runs

contains_at : (y : StyleRun) (ys : List StyleRun) (x : StyleRun) (k : ℕ) → k < length (y ∷ ys) → slice_index_or (y ∷ ys) k x ≡ x → (y ≡ x) ⊎ Contains ys x
contains_at y ys x zero lt e = inl e
contains_at y ys x (suc k) lt e = inr (k, omega arith, e)

contains_cases : (y : StyleRun) (ys : List StyleRun) (x : StyleRun) → Contains (y ∷ ys) x → (y ≡ x) ⊎ Contains ys x
contains_cases y ys x c = contains_at y ys x c.0 c.1 c.2

contains_first : (x : StyleRun) (xs : List StyleRun) → Contains (x ∷ xs) x
contains_first x xs = (0, omega arith, refl)

contains_later : (y : StyleRun) (ys : List StyleRun) (x : StyleRun) → Contains ys x → Contains (y ∷ ys) x
contains_later y ys x c = (suc c.0, omega (arith, c.1), c.2)

none_contained : (x : StyleRun) → Contains [] x → ⊥
none_contained x c = omega (arith, c.1)

order_tail : (x : StyleRun) (xs : List StyleRun) → InOrder (x ∷ xs) → InOrder xs
order_tail x xs o i j d lt less = o (suc i) (suc j) d (omega arith) (omega arith)

-- the first run begins before each later one
order_first : (x : StyleRun) (xs : List StyleRun) → InOrder (x ∷ xs) → (y : StyleRun) → Contains xs y → x.start < y.start
order_first x xs o y c =
    let e : slice_index_or xs c.0 y ≡ y = c.2 in
    let lt : x.start < (slice_index_or xs c.0 y).start = o 0 (suc c.0) y (omega arith) (omega (arith, c.1)) in
    rw e at lt

same_first : (x y : StyleRun) (xs ys : List StyleRun) → InOrder (x ∷ xs) → InOrder (y ∷ ys) → Contains (y ∷ ys) x → Contains (x ∷ xs) y → x ≡ y
same_first x y xs ys o p c d = elim (contains_cases y ys x c) [
  | inl e ↦ sym e
  | inr later ↦ elim (contains_cases x xs y d) [
    | inl e ↦ e
    | inr also ↦
        let one : y.start < x.start = order_first y ys p x later in
        let other : x.start < y.start = order_first x xs o y also in
        absurd (omega arith)
  ]
]

-- the later runs of one list are among the later ones of the other
tail_within : (x y : StyleRun) (xs ys : List StyleRun) → x ≡ y → InOrder (x ∷ xs) → ((z : StyleRun) → Contains (x ∷ xs) z → Contains (y ∷ ys) z) → (z : StyleRun) → Contains xs z → Contains ys z
tail_within x y xs ys e o all z c = elim (contains_cases y ys z (all z (contains_later x xs z c))) [
  | inl first ↦
      let lt : x.start < z.start = order_first x xs o z c in
      let starts : x.start ≡ z.start = ap (λ (r : StyleRun). r.start) (e ∙ first) in
      absurd (omega arith)
  | inr later ↦ later
]

same_members : (xs ys : List StyleRun) → InOrder xs → InOrder ys → ((z : StyleRun) → Contains xs z → Contains ys z) → ((z : StyleRun) → Contains ys z → Contains xs z) → xs ≡ ys
same_members [] [] o p f g = refl
same_members [] (y ∷ ys) o p f g = absurd (none_contained y (g y (contains_first y ys)))
same_members (x ∷ xs) [] o p f g = absurd (none_contained x (f x (contains_first x xs)))
same_members (x ∷ xs) (y ∷ ys) o p f g =
    let e = same_first x y xs ys o p (f x (contains_first x xs)) (g y (contains_first y ys)) in
    let rest = same_members xs ys (order_tail x xs o) (order_tail y ys p) (tail_within x y xs ys e o f) (tail_within y x ys xs (sym e) p g) in
    λ i. e i ∷ rest i

pub one_list : (row : List Look) (runs others : List StyleRun) → AreStyleRuns row runs → AreStyleRuns row others → others ≡ runs
one_list row runs others a b = same_members others runs b.in_order a.in_order
    (λ z c. a.every z (All-contains (IsStyleRun row) others z b.each c))
    (λ z c. b.every z (All-contains (IsStyleRun row) runs z a.each c))

-- the end of the stretch at a cell, found from one of its columns on
stretch_end : (row : List Look) (s : ℕ) (a : Attributes) → attributes_at row s ≡ Some a → (left x : ℕ) → length row ≤ x + left → s ≤ x →
    ((y : ℕ) → s ≤ y → y < x → attributes_at row y ≡ Some a) → (e : ℕ) × IsStretch row s e a
stretch_end row s a first zero x le from alike = (x, stretch_of row s x a first from alike (past_end row x a (omega arith)))
stretch_end row s a first (suc left) x le from alike = elim (cases_lt x (length row)) [
  | inl lt ↦
      let here : attributes_at row x ≡ Some (attributes_of (get_or row x blank)) = rw (slice_get-get_or row x blank lt) refl in
      elim (attributes_cases (attributes_of (get_or row x blank)) a) [
        | inl same ↦ stretch_end row s a first left (x + 1) (omega arith) (omega arith) (λ y low high. elim (cases_lt y x) [
          | inl before ↦ alike y low before
          | inr after ↦
              let there : y ≡ x = omega arith in
              rw there (rw same at here)
        ])
        | inr other ↦ (x, stretch_of row s x a first from alike (λ e. other (some_one (attributes_of (get_or row x blank)) a (sym here ∙ e))))
      ]
  | inr past ↦ (x, stretch_of row s x a first from alike (past_end row x a past))
]

-- the runs from a column on are found one after another
find_runs : (row : List Look) (left column : ℕ) (runs : List StyleRun) → length row ≤ column + left → RunsBefore row column runs →
    (found : List StyleRun) × AreStyleRuns row found × ((end : ℕ) × RunsBefore row end found × (length row ≤ end))
find_runs row zero column runs le inv = (runs, all_runs row column runs inv (omega arith), (column, inv, omega arith))
find_runs row (suc left) column runs le inv = elim (cases_lt column (length row)) [
  | inl lt ↦
      let a = attributes_of (get_or row column blank) in
      let first : attributes_at row column ≡ Some a = rw (slice_get-get_or row column blank lt) refl in
      let stretch = stretch_end row column a first (length row - column) column (omega arith) (omega arith) (λ y low high. absurd (omega arith)) in
      let end = stretch.0 in
      let past = stretch.1.some in
      elim (attributes_cases a unstyled_attributes) [
        | inl rest ↦ find_runs row left end runs (omega arith) (more_unstyled row column end a runs inv stretch.1 rest)
        | inr styled ↦ find_runs row left end (runs ++ run_of column end a ∷ []) (omega arith) (more_run row column end a runs inv stretch.1 styled)
      ]
  | inr past ↦ (runs, all_runs row column runs inv past, (column, inv, past))
]

pub runs_exist : (row : List Look) → (runs : List StyleRun) × AreStyleRuns row runs
runs_exist row =
    let found = find_runs row (length row) 0 [] (omega arith) (no_runs row) in
    (found.0, found.1)

pub cell_run : (row : List Look) (column : ℕ) (a : Attributes) → attributes_at row column ≡ Some a → a ≢ unstyled_attributes →
    (run : StyleRun) × IsStyleRun row run × IsInRun run column × (run.attributes ≡ a) × ((other : StyleRun) → IsStyleRun row other → IsInRun other column → other ≡ run)
cell_run row column a is styled =
    let all = (find_runs row (length row) 0 [] (omega arith) (no_runs row)).2 in
    elim (cases_lt column (length row)) [
      | inl lt ↦
          let within = all.2 in
          let run = all.1.cover column a (omega arith) is styled in
          (run.0, run.1, run.2, some_one run.0.attributes a (sym (run.1.alike column run.2.0 run.2.1) ∙ is), λ other are in_other. one_run row run.0 other column run.1 are run.2 in_other)
      | inr past ↦ absurd (past_end row column a past is)
    ]

lines_exist : (rows : List (List Look)) (number : ℕ) → (text : List ℕ) × AreRunLines number rows text
lines_exist [] number = ([], refl)
lines_exist (row ∷ rows) number =
    let runs = runs_exist row in
    let rest = lines_exist rows (number + 1) in
    (flat_map (run_line number) runs.0 ++ rest.0, (runs.0, rest.0, runs.1, rest.1, refl))

one_text : (rows : List (List Look)) (number : ℕ) (text other : List ℕ) → AreRunLines number rows text → AreRunLines number rows other → other ≡ text
one_text [] number text other a b = b ∙ sym a
one_text (row ∷ rows) number text other a b =
    let runs : b.0 ≡ a.0 = one_list row a.0 b.0 a.2 b.2 in
    let rest : b.1 ≡ a.1 = one_text rows (number + 1) a.1 b.1 a.3 b.3 in
    b.4 ∙ (ap (λ (l : List StyleRun). flat_map (run_line number) l ++ b.1) runs ∙ (ap (λ (l : List ℕ). flat_map (run_line number) a.0 ++ l) rest ∙ sym a.4))

pub print_exists : (screen : Screen) (placed : List PlacedData) → (text : List ℕ) × IsPrint screen placed text
print_exists screen placed =
    let runs = lines_exist screen.rows 0 in
    (flat_map row_line screen.rows ++ (runs.0 ++ state_lines 0 placed), record { runs = runs.0; are_runs = runs.1; parts = refl })

pub one_print : (screen : Screen) (placed : List PlacedData) (text other : List ℕ) → IsPrint screen placed text → IsPrint screen placed other → other ≡ text
one_print screen placed text other a b =
    let runs : b.runs ≡ a.runs = one_text screen.rows 0 a.runs b.runs a.are_runs b.are_runs in
    b.parts ∙ (ap (λ (l : List ℕ). flat_map row_line screen.rows ++ (l ++ state_lines 0 placed)) runs ∙ sym a.parts)
