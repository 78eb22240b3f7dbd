-- The starts that are known, and the next one.
use Rattle.std.proofs.Common.{◌≡◌, ℕ, zero, suc, ◌+◌, ◌-◌, ◌*◌, ◌/◌, ◌%◌, ◌<◌, ◌≤◌, ◌++◌, [], ◌∷◌, Option, Some, List, map, length, get_or, inl, inr, sym, ap, ◌∙◌, subst, arith}
use Rattle.std.specs.Prelude.{slice_get, slice_index, slice_index_or}
use Rattle.std.proofs.Math.Nat.{add-mul, add-mul-div_right, add-mul-mod_self_right}
use Rattle.std.proofs.Math.ListN.{get_or-append}
use Rattle.std.proofs.Math.Seq.{get_or-append_seam}
use Rattle.std.proofs.lemmas.Bool.{cases_lt}
use Rattle.std.proofs.lemmas.List.{length-append}
use Rattle.std.proofs.lemmas.Nat.{div-mul-add, mod-mul-add}
use Rattle.std.proofs.lemmas.Option.{get_or_from_slice_get, slice_get_within}
use Rattle.tui_layout.specs.declared.segment.Segment.{Segment}
use Rattle.tui_pages_lib.specs.Report.{cells_of}
use Rattle.tui_pages_lib.specs.Starts.{IsSliceFrom, ContinuesFrom, HaveRows, HaveStarts, IsKnownStart, IsLast, RowStarts, StartsAt, cell_at, continued_pieces}
use Rattle.tui_pages_lib.specs.declared.piece.Piece.{Piece}
use Rattle.tui_pages_lib.specs.declared.records.Record.{Record}

-- the index k - n, which is one row of n elements before k
div_before : (k n : ℕ) → 0 < n → n ≤ k → (k - n) / n ≡ k / n - 1
div_before k n some h =
    let whole : k ≡ (k - n) + 1 * n = omega arith in
    let e : k / n ≡ (k - n) / n + 1 = ap (λ t. t / n) whole ∙ add-mul-div_right (k - n) 1 some in
    omega (arith, e)

mod_before : (k n : ℕ) → n ≤ k → (k - n) % n ≡ k % n
mod_before k n h =
    let whole : k ≡ (k - n) + 1 * n = omega arith in
    sym (ap (λ t. t % n) whole ∙ add-mul-mod_self_right (k - n) 1 n)

some_is : {A : Type 0} (x y : A) (o : Option A) → o ≡ Some x → o ≡ Some y → x ≡ y
some_is x y o e f = cc

module _ (places : List Segment) (records : List (List (List ℕ))) (pieces : List Piece) (known : List ℕ) where
  abbrev n : ℕ
  n = length places

  abbrev k : ℕ
  k = length known

  -- a start that is known of the piece before, or the start of the cell
  begun : (piece : Piece) (before : Option Piece) (cell : List ℕ) (width start line : ℕ) → 0 < n → HaveStarts places records pieces known →
      IsLast pieces (k / n) before → cell_at records piece.place (k % n) ≡ Some cell → ContinuesFrom width 0 cell 0 → (place : Segment) →
      slice_get places (k % n) ≡ Some place → place.width ≡ width → 0 < width → IsKnownStart before n known piece.place start line →
      ContinuesFrom width line cell start
  begun piece before cell width start line some have last there zero_at place column same wide (inl (s, l)) =
      subst (λ t. ContinuesFrom width t cell start) (sym l) (subst (λ t. ContinuesFrom width 0 cell t) (sym s) zero_at)
  begun piece before cell width start line some have last there zero_at place column same wide (inr (h, b, is, record_is, line_is, start_is)) =
      let at = div_before k n some h in
      let i = mod_before k n h in
      let found = have (k - n) b (omega arith) (ap (slice_get (continued_pieces pieces)) at ∙ last b is) place cell (ap (slice_get places) i ∙ column)
      (ap (cell_at records b.place) i ∙ (ap (λ t. cell_at records t (k % n)) record_is ∙ there)) (subst (λ t. 0 < t) (sym same) wide) in
      subst (λ t. ContinuesFrom width line cell t) start_is (subst (λ t. ContinuesFrom width t cell (slice_index known (k - n))) line_is
      (subst (λ t. ContinuesFrom t b.from cell (slice_index known (k - n))) same found))

  pub next_starts : (piece : Piece) (before : Option Piece) (cell : List ℕ) (d : Segment) (start line result : ℕ) → 0 < n →
      HaveStarts places records pieces known → IsLast pieces (k / n) before → cell_at records piece.place (k % n) ≡ Some cell →
      ContinuesFrom (get_or places (k % n) d).width 0 cell 0 → line ≤ piece.from → IsKnownStart before n known piece.place start line →
      ((from : ℕ) → ContinuesFrom (get_or places (k % n) d).width from cell start → ContinuesFrom (get_or places (k % n) d).width (from + (piece.from - line)) cell result) →
      StartsAt places records piece (k % n) result
  next_starts piece before cell d start line result some have last there zero_at less from moved place c column there_c wide =
      let width = (get_or places (k % n) d).width in
      let same : width ≡ place.width = ap (λ (s : Segment). s.width) (get_or_from_slice_get places (k % n) place d column) in
      let cells : cell ≡ c = some_is cell c (cell_at records piece.place (k % n)) there there_c in
      let found : ContinuesFrom width (line + (piece.from - line)) cell result =
      moved line (begun piece before cell width start line some have last there zero_at place column (sym same) (subst (λ t. 0 < t) (sym same) wide) from) in
      let all : line + (piece.from - line) ≡ piece.from = omega arith in
      subst (λ t. ContinuesFrom t piece.from c result) same (subst (λ t. ContinuesFrom width piece.from t result) cells
      (subst (λ t. ContinuesFrom width t cell result) all found))

  -- no cell is drawn in a column of width 0
  pub no_width : (piece : Piece) (d : Segment) (result : ℕ) → (get_or places (k % n) d).width ≡ 0 → StartsAt places records piece (k % n) result
  no_width piece d result none place c column there_c wide =
      let same : (get_or places (k % n) d).width ≡ place.width = ap (λ (s : Segment). s.width) (get_or_from_slice_get places (k % n) place d column) in
      absurd (omega (arith, same, none))

-- the next start is known too
have_more : (places : List Segment) (records : List (List (List ℕ))) (pieces : List Piece) (piece : Piece) (known more : List ℕ) (next : ℕ) →
    HaveStarts places records pieces known → StartsAt places records piece (length known % length places) next →
    slice_get (continued_pieces pieces) (length known / length places) ≡ Some piece → more ≡ known ++ next ∷ [] → HaveStarts places records pieces more
have_more places records pieces piece known more next have there here e k p h is =
    elim (cases_lt k (length known)) [
      | inl before ↦
          subst (StartsAt places records p (k % length places))
          (sym (ap (λ t. get_or t k 0) e ∙ get_or-append known (next ∷ []) 0 k before)) (have k p before is)
      | inr past ↦
          let last : length known ≡ k = omega (arith, h, ap length e, length-append known (next ∷ [])) in
          let last_is : get_or (known ++ next ∷ []) (length known) 0 ≡ next = get_or-append_seam known next [] 0 in
          let same : piece ≡ p = some_is piece p (slice_get (continued_pieces pieces) (k / length places))
          (ap (λ j. slice_get (continued_pieces pieces) (j / length places)) (sym last) ∙ here) is in
          subst (StartsAt places records p (k % length places)) (sym (ap (λ t. get_or t k 0) e ∙ (ap (get_or-at (known ++ next ∷ [])) (sym last) ∙ last_is)))
          (subst (λ (q : Piece). StartsAt places records q (k % length places) next) same
          (subst (λ j. StartsAt places records piece (j % length places) next) last there))
    ]
  where
    get_or-at : List ℕ → ℕ → ℕ
    get_or-at xs j = get_or xs j 0

-- `count` rows are known, and some cells of the next one
abbrev pub HaveCells : List Segment → List (List (List ℕ)) → List Piece → ℕ → ℕ → List ℕ → Type 0
HaveCells places records pieces count i starts =
    HaveStarts places records pieces starts × (length starts ≡ count * length places + i)

module _ (places : List Segment) (records : List (List (List ℕ))) (pieces : List Piece) (count : ℕ) where
  pub row_begun : (starts : List ℕ) → HaveRows places records pieces count starts → HaveCells places records pieces count 0 starts
  row_begun starts rows = let size = rows.size in (rows.known, omega arith)

  pub row_more : (piece : Piece) (before : Option Piece) (i next : ℕ) (known read more : List ℕ) → i < length places →
      slice_get (continued_pieces pieces) count ≡ Some piece → IsLast pieces count before → HaveCells places records pieces count i known → read ≡ known →
      (HaveStarts places records pieces read → IsLast pieces (length read / length places) before →
      StartsAt places records piece (length read % length places) next) →
      more ≡ known ++ next ∷ [] → HaveCells places records pieces count (i + 1) more
  row_more piece before i next known read more h here last have same step e =
      let size = have.1 in
      let at : length known / length places ≡ count = ap (λ t. t / length places) size ∙ div-mul-add count (length places) i h in
      let last_here : IsLast pieces (length known / length places) before = subst (λ t. IsLast pieces t before) (sym at) last in
      let there : StartsAt places records piece (length known % length places) next =
      subst (λ xs. HaveStarts places records pieces xs → IsLast pieces (length xs / length places) before →
      StartsAt places records piece (length xs % length places) next) same step have.0 last_here in (
        have_more places records pieces piece known more next have.0 there (ap (slice_get (continued_pieces pieces)) at ∙ here) e,
        omega (arith, ap length e, length-append known (next ∷ [])),
      )

  pub row_done : (i : ℕ) (starts : List ℕ) → i ≡ length places → HaveCells places records pieces count i starts →
      HaveRows places records pieces (count + 1) starts
  row_done i starts end have =
      let size = have.1 in
      let all : (count + 1) * length places ≡ count * length places + 1 * length places = add-mul count 1 (length places) in
      record { known = have.0; size = omega arith }

-- the cell of a record
cell_there : (records : List (List (List ℕ))) (place i : ℕ) (cell : List ℕ) → slice_get (slice_index_or records place []) i ≡ Some cell →
    cell_at records place i ≡ Some cell
cell_there [] place i cell e = e
cell_there (cells ∷ records) zero i cell e = e
cell_there (cells ∷ records) (suc place) i cell e = cell_there records place i cell e

-- the starts of a page are those of its first piece
pub page_row : (places : List Segment) (records : List (List (List ℕ))) (pieces : List Piece) (starts row : List ℕ) (count : ℕ) (p : Piece) →
    HaveStarts places records pieces starts → slice_get (continued_pieces pieces) count ≡ Some p → IsSliceFrom (count * length places) starts row →
    RowStarts p.from places (slice_index_or records p.place []) row
page_row places records pieces starts row count p have here known i place cell start ep ec es wide =
    let n = length places in
    let column = slice_get_within places i place ep in
    let k = known i (slice_get_within row i start es) in
    let at_is : (count * n + i) / n ≡ count = div-mul-add count n i column in
    let column_is : (count * n + i) % n ≡ i = mod-mul-add count n i column in
    let found = have (count * n + i) p k.0 (ap (slice_get (continued_pieces pieces)) at_is ∙ here) place cell (ap (slice_get places) column_is ∙ ep)
    (ap (cell_at records p.place) column_is ∙ cell_there records p.place i cell ec) wide in
    subst (λ t. ContinuesFrom place.width p.from cell t) (sym k.1 ∙ get_or_from_slice_get row i start 0 es) found

-- the same for the list that was read
pub page_row_read : (places given : List Segment) (records rs : List Record) (pieces : List Piece) (starts read row : List ℕ) (count columns : ℕ) (p : Piece) →
    HaveStarts places (map cells_of records) pieces starts → slice_get (continued_pieces pieces) count ≡ Some p → given ≡ places → rs ≡ records →
    read ≡ starts → columns ≡ length places → IsSliceFrom (count * columns) read row →
    RowStarts p.from given (slice_index_or (map cells_of rs) p.place []) row
page_row_read places given records rs pieces starts read row count columns p have here g r s n known =
    let known_here : IsSliceFrom (count * length places) starts row =
    subst (λ m. IsSliceFrom (count * m) starts row) n (subst (λ xs. IsSliceFrom (count * columns) xs row) s known) in
    subst (λ ps. RowStarts p.from ps (slice_index_or (map cells_of rs) p.place []) row) (sym g)
    (subst (λ xs. RowStarts p.from places (slice_index_or (map cells_of xs) p.place []) row) (sym r)
    (page_row places (map cells_of records) pieces starts row count p have here known_here))

pub have_read : (places given : List Segment) (records rs : List Record) (pieces read : List Piece) (starts : List ℕ) → given ≡ places → rs ≡ records →
    read ≡ pieces → HaveRows given (map cells_of rs) read (length (continued_pieces read)) starts →
    HaveRows places (map cells_of records) pieces (length (continued_pieces pieces)) starts
have_read places given records rs pieces read starts g r p have =
    subst (λ ps. HaveRows ps (map cells_of records) pieces (length (continued_pieces pieces)) starts) g
    (subst (λ xs. HaveRows given (map cells_of xs) pieces (length (continued_pieces pieces)) starts) r
    (subst (λ qs. HaveRows given (map cells_of rs) qs (length (continued_pieces qs)) starts) p have))
