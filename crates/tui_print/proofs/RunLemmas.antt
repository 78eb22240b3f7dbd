-- The runs of a row, found one after another from the left.
use Rattle.std.proofs.Common.{
  ◌≡◌,
  ◌≢◌,
  ℕ,
  ◌+◌,
  ◌-◌,
  ◌<◌,
  ◌≤◌,
  List,
  [],
  ◌∷◌,
  ◌++◌,
  length,
  get_or,
  drop,
  flat_map,
  add-one,
  Some,
  None,
  refl,
  sym,
  ap,
  ◌∙◌,
  subst,
  inl,
  inr,
  arith,
  slice_index_or,
  option_map,
}
use Rattle.std.specs.List.{All, AllPairs, Contains}
use Rattle.std.proofs.lemmas.Bool.{cases_lt}
use Rattle.std.proofs.Math.Seq.{drop-cons}
use Rattle.std.proofs.lemmas.List.{drop_all}
use Rattle.std.proofs.lemmas.List.Elements.{All-nil, All-push, All-weaker, Contains-append_left, Contains-push}
use Rattle.std.proofs.lemmas.List.Quantifiers.{all_pairs_push}
use Rattle.std.proofs.lemmas.Option.{slice_get-get_or, slice_get_past}
use Rattle.tui_cells.specs.declared.attributes.Attributes.{Attributes}
use Rattle.tui_cells.specs.Cell.{IsUnstyled, Look, blank, space}
use Rattle.tui_print.specs.Laws.{IsInRun}
use Rattle.tui_print.specs.Print.{AreRunLines, run_line}
use Rattle.tui_print.specs.Runs.{StyleRun, IsStyleRun, AreStyleRuns, attributes_at, attributes_of, unstyled_attributes}

-- the runs that begin before a column which no run crosses
pub record RunsBefore (row : List Look) (column : ℕ) (runs : List StyleRun) : Type 0 where
  pub each : All (IsStyleRun row) runs
  pub before : All (λ run. run.start < column) runs
  pub every : (run : StyleRun) → IsStyleRun row run → run.start < column → Contains runs run
  pub in_order : AllPairs (λ one later. one.start < later.start) runs
  pub edge : (x : ℕ) → x + 1 ≡ column → attributes_at row x ≢ attributes_at row column
  pub cover : (x : ℕ) (a : Attributes) → x < column → attributes_at row x ≡ Some a → a ≢ unstyled_attributes → (run : StyleRun) × IsStyleRun row run × IsInRun run x

-- a stretch: cells with the same attributes, up to a cell with others or the end of the row
pub record IsStretch (row : List Look) (start end : ℕ) (a : Attributes) : Type 0 where
  pub some : start < end
  pub alike : (x : ℕ) → start ≤ x → x < end → attributes_at row x ≡ Some a
  pub other : attributes_at row end ≢ Some a

abbrev pub run_of : ℕ → ℕ → Attributes → StyleRun
run_of start end a = record { start = start; len = end - start; attributes = a }

pub some_one : (a b : Attributes) → Some a ≡ Some b → a ≡ b
some_one a b e = cc

pub past_end : (row : List Look) (x : ℕ) (a : Attributes) → length row ≤ x → attributes_at row x ≢ Some a
past_end row x a le e =
    let none : attributes_at row x ≡ None = rw (slice_get_past row x le) refl in
    let both : None ≡ Some a = sym none ∙ e in
    cc

pub no_runs : (row : List Look) → RunsBefore row 0 []
no_runs row = record {
  each = All-nil (IsStyleRun row);
  before = All-nil (λ run. run.start < 0);
  every = λ run is lt. absurd (omega arith);
  in_order = λ i j d lt less. absurd (omega arith);
  edge = λ x e. absurd (omega arith);
  cover = λ x a lt. absurd (omega arith);
}

stretch_edge : (row : List Look) (s e : ℕ) (a : Attributes) → IsStretch row s e a → (x : ℕ) → x + 1 ≡ e → attributes_at row x ≢ attributes_at row e
stretch_edge row s e a t x h p =
    let some = t.some in
    t.other (sym p ∙ t.alike x (omega arith) (omega arith))

-- a run that begins in a stretch has its attributes
run_attributes : (row : List Look) (s e : ℕ) (a : Attributes) → IsStretch row s e a → (run : StyleRun) → IsStyleRun row run → s ≤ run.start → run.start < e → run.attributes ≡ a
run_attributes row s e a t run is from to =
    let some = is.some in
    some_one run.attributes a (sym (is.alike run.start (omega arith) (omega arith)) ∙ t.alike run.start from to)

-- and begins where the stretch does
run_start : (row : List Look) (s e : ℕ) (a : Attributes) → IsStretch row s e a → (run : StyleRun) → IsStyleRun row run → s ≤ run.start → run.start < e → run.start ≡ s
run_start row s e a t run is from to = elim (cases_lt s run.start) [
  | inl lt ↦
      let x : ℕ = run.start - 1 in
      let next : x + 1 ≡ run.start = omega arith in
      absurd (is.first x next (rw (run_attributes row s e a t run is from to) (t.alike x (omega arith) (omega arith))))
  | inr le ↦ omega arith
]

-- and ends where it does
run_end : (row : List Look) (s e : ℕ) (a : Attributes) → IsStretch row s e a → (run : StyleRun) → IsStyleRun row run → s ≤ run.start → run.start < e → run.start + run.len ≡ e
run_end row s e a t run is from to =
    let same = run_attributes row s e a t run is from to in
    elim (cases_lt (run.start + run.len) e) [
      | inl lt ↦ absurd (is.last (rw same (t.alike (run.start + run.len) (omega arith) lt)))
      | inr le ↦ elim (cases_lt e (run.start + run.len)) [
        | inl lt ↦ absurd (t.other (rw same at (is.alike e (omega arith) lt)))
        | inr ge ↦ omega arith
      ]
    ]

only_run : (row : List Look) (s e : ℕ) (a : Attributes) → IsStretch row s e a → (run : StyleRun) → IsStyleRun row run → s ≤ run.start → run.start < e → run ≡ run_of s e a
only_run row s e a t run is from to =
    let first = run_start row s e a t run is from to in
    let last = run_end row s e a t run is from to in
    let same = run_attributes row s e a t run is from to in
    let len : run.len ≡ e - s = omega arith in
    λ i. record { start = first i; len = len i; attributes = same i }

-- a stretch of styled cells is a run
new_run : (row : List Look) (s e : ℕ) (a : Attributes) → IsStretch row s e a → a ≢ unstyled_attributes → ((x : ℕ) → x + 1 ≡ s → attributes_at row x ≢ attributes_at row s) → IsStyleRun row (run_of s e a)
new_run row s e a t styled edge =
    let some = t.some in
    let ends : s + (e - s) ≡ e = omega arith in
    record {
      some = omega arith;
      alike = λ x from to. t.alike x from (omega arith);
      styled = styled;
      first = λ x h p. edge x h (p ∙ sym (t.alike s (omega arith) some));
      last = rw ends t.other;
    }

-- unstyled cells after the runs
pub more_unstyled : (row : List Look) (s e : ℕ) (a : Attributes) (runs : List StyleRun) → RunsBefore row s runs → IsStretch row s e a → a ≡ unstyled_attributes → RunsBefore row e runs
more_unstyled row s e a runs inv t rest =
    let some = t.some in
    record {
      each = inv.each;
      before = All-weaker (λ run. run.start < s) (λ run. run.start < e) (λ run lt. omega arith) runs inv.before;
      every = λ run is to. elim (cases_lt run.start s) [
        | inl lt ↦ inv.every run is lt
        | inr le ↦ absurd (is.styled (run_attributes row s e a t run is le to ∙ rest))
      ];
      in_order = inv.in_order;
      edge = stretch_edge row s e a t;
      cover = λ x b to is styled. elim (cases_lt x s) [
        | inl lt ↦ inv.cover x b lt is styled
        | inr le ↦ absurd (styled (some_one b a (sym is ∙ t.alike x le to) ∙ rest))
      ];
    }

unstyled_cell_attributes : (c : Look) → IsUnstyled c → attributes_of c ≡ unstyled_attributes
unstyled_cell_attributes c is = ap attributes_of is

unstyled_if_attributes : (c : Look) → attributes_of c ≡ unstyled_attributes → IsUnstyled c
unstyled_if_attributes c is = ap (λ (a : Attributes). record { symbol = space; fg = a.fg; bg = a.bg; modifier = a.modifier.bits }) is

there : (row : List Look) (x : ℕ) → x < length row → attributes_at row x ≡ Some (attributes_of (slice_index_or row x blank))
there row x lt = ap (option_map attributes_of) (slice_get-get_or row x blank lt)

pub unstyled_at : (row : List Look) (x : ℕ) → x < length row → IsUnstyled (slice_index_or row x blank) → attributes_at row x ≡ Some unstyled_attributes
unstyled_at row x lt is = there row x lt ∙ ap Some (unstyled_cell_attributes (slice_index_or row x blank) is)

styled_at : (row : List Look) (x : ℕ) → (x < length row → IsUnstyled (slice_index_or row x blank) → ⊥) → attributes_at row x ≢ Some unstyled_attributes
styled_at row x styled e = elim (cases_lt x (length row)) [
  | inl lt ↦ styled lt (unstyled_if_attributes (slice_index_or row x blank) (some_one _ _ (sym (there row x lt) ∙ e)))
  | inr le ↦ past_end row x unstyled_attributes le e
]

-- no run begins before the first styled cell
pub unstyled_first : (row : List Look) (first : ℕ) → first ≤ length row → ((x : ℕ) → x < first → IsUnstyled (slice_index_or row x blank)) →
    (first < length row → IsUnstyled (slice_index_or row first blank) → ⊥) → RunsBefore row first []
unstyled_first row first le rest styled = elim (cases_lt 0 first) [
  | inl lt ↦ more_unstyled row 0 first unstyled_attributes [] (no_runs row)
      (record { some = lt; alike = λ x from to. unstyled_at row x (omega (arith, to, le)) (rest x to); other = styled_at row first styled }) refl
  | inr none ↦
      let zero : first ≡ 0 = omega (arith, none) in
      rw zero (no_runs row)
]

-- one more run after the runs
pub more_run : (row : List Look) (s e : ℕ) (a : Attributes) (runs : List StyleRun) → RunsBefore row s runs → IsStretch row s e a → a ≢ unstyled_attributes → RunsBefore row e (runs ++ run_of s e a ∷ [])
more_run row s e a runs inv t styled =
    let some = t.some in
    let new = run_of s e a in
    record {
      each = All-push (IsStyleRun row) runs new inv.each (new_run row s e a t styled inv.edge);
      before = All-push (λ run. run.start < e) runs new (All-weaker (λ run. run.start < s) (λ run. run.start < e) (λ run lt. omega arith) runs inv.before) some;
      every = λ run is to. elim (cases_lt run.start s) [
        | inl lt ↦ Contains-append_left runs (new ∷ []) run (inv.every run is lt)
        | inr le ↦ subst (λ (r : StyleRun). Contains (runs ++ new ∷ []) r) (sym (only_run row s e a t run is le to)) (Contains-push runs new)
      ];
      in_order = all_pairs_push (λ one later. one.start < later.start) runs new inv.in_order (λ k d less. inv.before k d less);
      edge = stretch_edge row s e a t;
      cover = λ x b to is other. elim (cases_lt x s) [
        | inl lt ↦ inv.cover x b lt is other
        | inr le ↦ (new, new_run row s e a t styled inv.edge, (le, omega arith))
      ];
    }

-- two runs with a column in common are the same
earlier_start : (row : List Look) (run other : StyleRun) (x : ℕ) → IsStyleRun row run → IsStyleRun row other → IsInRun run x → IsInRun other x →
    run.attributes ≡ other.attributes → other.start < run.start → ⊥
earlier_start row run other x is are in_run in_other same lt =
    let y : ℕ = run.start - 1 in
    let from = in_run.0 in
    let to = in_other.1 in
    is.first y (omega arith) (rw same (are.alike y (omega arith) (omega arith)))

pub one_run : (row : List Look) (run other : StyleRun) (x : ℕ) → IsStyleRun row run → IsStyleRun row other → IsInRun run x → IsInRun other x → other ≡ run
one_run row run other x is are in_run in_other =
    let same : run.attributes ≡ other.attributes = some_one run.attributes other.attributes (sym (is.alike x in_run.0 in_run.1) ∙ are.alike x in_other.0 in_other.1) in
    let some = are.some in
    let stretch : IsStretch row run.start (run.start + run.len) run.attributes = record { some = let own = is.some in omega arith; alike = is.alike; other = is.last } in
    elim (cases_lt other.start run.start) [
      | inl lt ↦ absurd (earlier_start row run other x is are in_run in_other same lt)
      | inr ge ↦ elim (cases_lt run.start other.start) [
        | inl lt ↦ absurd (earlier_start row other run x are is in_other in_run (sym same) lt)
        | inr le ↦
            let start : other.start ≡ run.start = omega arith in
            let own = is.some in
            let len : run.start + run.len - run.start ≡ run.len = omega arith in
            let only = only_run row run.start (run.start + run.len) run.attributes stretch other are (omega arith) (omega arith) in
            only ∙ (λ i. record { start = run.start; len = len i; attributes = run.attributes })
      ]
    ]

pub all_runs : (row : List Look) (column : ℕ) (runs : List StyleRun) → RunsBefore row column runs → length row ≤ column → AreStyleRuns row runs
all_runs row column runs inv le = record {
  each = inv.each;
  every = λ run is. elim (cases_lt run.start (length row)) [
    | inl lt ↦ inv.every run is (omega arith)
    | inr past ↦
        let some = is.some in
        absurd (past_end row run.start run.attributes past (is.alike run.start (omega arith) (omega arith)))
  ];
  in_order = inv.in_order;
}

-- cells with the same attributes, up to one with others, are a stretch
pub stretch_of : (row : List Look) (s e : ℕ) (a : Attributes) → attributes_at row s ≡ Some a → s ≤ e →
    ((x : ℕ) → s ≤ x → x < e → attributes_at row x ≡ Some a) → attributes_at row e ≢ Some a → IsStretch row s e a
stretch_of row s e a first le alike other = record {
  some = elim (cases_lt s e) [
    | inl lt ↦ lt
    | inr ge ↦
        let same : s ≡ e = omega arith in
        absurd (other (rw same at first))
  ];
  alike = alike;
  other = other;
}

-- the lines of a row and of those after it
pub lines_more : (rows : List (List Look)) (i : ℕ) (runs : List StyleRun) (rest : List ℕ) → i < length rows → AreStyleRuns (get_or rows i []) runs →
    AreRunLines (i + 1) (drop (i + 1) rows) rest → AreRunLines i (drop i rows) (flat_map (run_line i) runs ++ rest)
lines_more rows i runs rest lt are lines =
    let here : drop i rows ≡ get_or rows i [] ∷ drop (i + 1) rows = rw (add-one, drop-cons rows i [] lt) refl in
    rw here (runs, rest, are, lines, refl)

pub lines_end : (rows : List (List Look)) (i : ℕ) → length rows ≤ i → AreRunLines i (drop i rows) []
lines_end rows i le = rw (drop_all i rows le) refl
