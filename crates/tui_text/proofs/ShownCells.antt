-- The visible cells of a row, one after another.
use Rattle.std.proofs.Common.{◌≡◌, ℕ, zero, suc, ◌+◌, ◌-◌, ◌<◌, ◌≤◌, List, [], ◌∷◌, length, get_or, drop, min, refl, ap, sym, ◌∙◌, add-one, arith, inl, inr}
use Rattle.std.proofs.lemmas.Bool.{cases_lt}
use Rattle.std.proofs.lemmas.List.{drop_all, drop-drop}
use Rattle.std.proofs.Math.Seq.{drop-cons}
use Rattle.tui_cells.specs.Cell.{Look}
use Rattle.tui_text.specs.Visible.{PlacedCell, step_of, visible_from}

pub some_step : (s : List ℕ) → 0 < step_of s
unfolding step_of
some_step s = omega arith

zero_more : (n : ℕ) → n ≡ n + 0
zero_more n = omega arith

-- hidden cells are skipped
skipped : (column n : ℕ) (row : List Look) → visible_from column n row ≡ visible_from (column + n) 0 (drop n row)
unfolding visible_from
skipped column zero row = ap (λ k. visible_from k 0 row) (zero_more column)
skipped column (suc n) [] = refl
skipped column (suc n) (c ∷ cs) =
    let next : column + 1 + n ≡ column + suc n = omega arith in
    skipped (column + 1) n cs ∙ ap (λ k. visible_from k 0 (drop n cs)) next

pub none_visible : (row : List Look) (i column : ℕ) → length row ≤ i → visible_from column 0 (drop i row) ≡ []
unfolding visible_from
none_visible row i column le = rw (drop_all i row le) refl

here : (row : List Look) (i : ℕ) (d : Look) → i < length row →
    visible_from i 0 (drop i row) ≡ record { column = i; cell = get_or row i d } ∷ visible_from (i + 1) (step_of (get_or row i d).symbol - 1) (drop (i + 1) row)
unfolding visible_from
here row i d lt =
    let first : drop i row ≡ get_or row i d ∷ drop (i + 1) row = rw (add-one, drop-cons row i d lt) refl in
    rw first refl

-- a visible cell, and the next one, if the row has one
pub visible_next : (row : List Look) (i step : ℕ) (d : Look) → i < length row → step ≡ min (step_of (get_or row i d).symbol) (length row - i) →
    visible_from i 0 (drop i row) ≡ record { column = i; cell = get_or row i d } ∷ visible_from (i + step) 0 (drop (i + step) row)
visible_next row i step d lt is = here row i d lt ∙ ap (λ (rest : List PlacedCell). record { column = i; cell = get_or row i d } ∷ rest) after
  where
    width : ℕ
    width = step_of (get_or row i d).symbol

    n : ℕ
    n = width - 1

    some : 0 < width
    some = some_step (get_or row i d).symbol

    passed : visible_from (i + 1) n (drop (i + 1) row) ≡ visible_from (i + 1 + n) 0 (drop (i + 1 + n) row)
    passed = skipped (i + 1) n (drop (i + 1) row) ∙ ap (visible_from (i + 1 + n) 0) (drop-drop n (i + 1) row)

    after : visible_from (i + 1) n (drop (i + 1) row) ≡ visible_from (i + step) 0 (drop (i + step) row)
    after = elim (cases_lt width (length row - i)) [
      | inl less ↦
          let same : i + 1 + n ≡ i + step = omega (arith, less, is, some) in
          passed ∙ ap (λ k. visible_from k 0 (drop k row)) same
      | inr past ↦ passed ∙ (none_visible row (i + 1 + n) (i + 1 + n) (omega (arith, past, some)) ∙ sym (none_visible row (i + step) (i + step) (omega (arith, past, is))))
    ]
