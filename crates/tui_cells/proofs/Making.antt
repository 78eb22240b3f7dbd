-- Rows whose cells are created at their first change.
use Rattle.std.proofs.Common.{
  ◌≡◌,
  ℕ,
  zero,
  suc,
  ◌<◌,
  Bool,
  true,
  false,
  List,
  [],
  ◌∷◌,
  length,
  replicate,
  slice_index_or,
  refl,
  ap,
  ap₂,
  sym,
  ◌∙◌,
  subst,
  arith,
  ◌&&◌,
  nat_le,
  nat_lt,
  if◌then◌else◌,
  inl,
  inr,
}
use Rattle.std.specs.List.{All, FoldsTo}
use Rattle.std.proofs.lemmas.Bool.{cases_lt}
use Rattle.std.proofs.lemmas.List.{get_or-replicate, length-replicate}
use Rattle.std.proofs.lemmas.List.Elements.{All-from_get_or, All-get_or}
use Rattle.tui_cells.specs.Buffer.{RowEdited}
use Rattle.tui_cells.specs.Representation.{IsRow, row_cells}
use Rattle.tui_cells.specs.Cell.{Edit, IsUnstyled, Look, blank, edited}

-- created cells are the cells of the row
pub made : (width : ℕ) (cells : List Look) → length cells ≡ width → row_cells width cells ≡ cells
made zero [] e = refl
made (suc w) [] e = absurd (omega arith)
made width (c ∷ cs) e = refl

edited_rest : (edit : Edit) (here : Bool) (c : Look) → ((d : Look) → IsUnstyled d → IsUnstyled (edited edit d)) → IsUnstyled c →
    IsUnstyled (if here then edited edit c else c)
edited_rest edit true c keeps is = keeps c is
edited_rest edit false c keeps is = is

-- a change that sets no style keeps the row free of styles
pub rest_kept : (from to : ℕ) (edit : Edit) (old new : List Look) → ((d : Look) → IsUnstyled d → IsUnstyled (edited edit d)) →
    RowEdited from to edit old new → All IsUnstyled old → All IsUnstyled new
rest_kept from to edit old new keeps k all = All-from_get_or IsUnstyled new blank (λ i lt.
    rw (k.cells i) (edited_rest edit (nat_le from i && nat_lt i to) (slice_index_or old i blank) keeps
    (All-get_or IsUnstyled old i blank (rw (← k.len) lt) all)))

blanks_rest : (width : ℕ) → All IsUnstyled (replicate width blank)
blanks_rest width = All-from_get_or IsUnstyled (replicate width blank) blank (λ i lt. rw (get_or-replicate width i blank blank (rw (length-replicate width blank) at lt)) refl)

made_rest : (width : ℕ) (cells : List Look) → All IsUnstyled cells → All IsUnstyled (row_cells width cells)
made_rest width [] all = blanks_rest width
made_rest width (c ∷ cs) all = all

-- if some cells are created, all are
pub some_made : (width : ℕ) (cells : List Look) → 0 < length cells → length (row_cells width cells) ≡ width → length cells ≡ width
some_made width [] lt e = absurd (omega (arith, lt))
some_made width (c ∷ cs) lt e = e

pub made_row : {width room : ℕ} {styled : Bool} {cells made : List Look} → IsRow width room styled cells → made ≡ row_cells width cells →
    (length made ≡ width) × (styled ≡ false → All IsUnstyled made)
made_row {width = width} {cells = cells} is e =
    (ap length e ∙ is.wide, λ unstyled. subst (λ all. All IsUnstyled all) (sym e) (made_rest width cells (is.rest unstyled)))

-- a row all of whose cells are created
pub kept_row : (width room : ℕ) (styled : Bool) (cells : List Look) → length cells ≡ width → (styled ≡ false → All IsUnstyled cells) →
    IsRow width room styled cells
kept_row width room styled cells len rest = record {
  wide = ap length (made width cells len) ∙ len;
  unmade = λ none. elim (cases_lt 0 width) [
    | inl lt ↦ absurd (omega (arith, lt, ap length none, len))
    | inr le ↦ omega (arith, le)
  ];
  rest = rest;
}

-- a row after a change that sets no style
pub plain_row : (width room : ℕ) (styled : Bool) (from to : ℕ) (edit : Edit) (old new : List Look) → ((d : Look) → IsUnstyled d → IsUnstyled (edited edit d)) →
    (length old ≡ width) × (styled ≡ false → All IsUnstyled old) → RowEdited from to edit old new → IsRow width room styled new
plain_row width room styled from to edit old new keeps is k =
    kept_row width room styled new (k.len ∙ is.0) (λ unstyled. rest_kept from to edit old new keeps k (is.1 unstyled))

-- if each call returned the same value, all results are that value
pub results_same : {F X : Type 0} (step : F → X → F → Type 0) (x : X) → ((p q : F) (y : X) → step p y q → y ≡ x) →
    (f last : F) (ys : List X) → FoldsTo step f ys last → ys ≡ replicate (length ys) x
results_same step x same f last [] ran = refl
results_same step x same f last (y ∷ ys) ran = ap₂ ◌∷◌ (same f ran.0 y ran.1) (results_same step x same ran.0 last ys ran.2)
