-- A row whose symbols all pass a test, cell by cell.
use Rattle.std.proofs.Common.{◌≡◌, ℕ, zero, suc, ◌+◌, ◌<◌, ◌≤◌, Bool, true, ◌&&◌, List, [], ◌∷◌, length, get_or, drop, sym, ap, ◌∙◌, arith}
use Rattle.std.specs.List.{list_all}
use Rattle.std.proofs.lemmas.Bool.{and_parts}
use Rattle.std.proofs.lemmas.List.{drop_all}
use Rattle.tui_cells.specs.Cell.{Look}
use Rattle.tui_terminal.proofs.Walking.{dropped}

module _ (test : List ℕ → Bool) where
  abbrev all_pass : List Look → Bool
  all_pass row = list_all (λ k. test k.symbol) row

  -- one more cell
  pub tested : (row : List Look) (i : ℕ) (c : Look) (passes : Bool) → i < length row → c ≡ get_or row i c → test c.symbol ≡ passes →
      list_all (λ k. test k.symbol) (drop i row) ≡ (passes && list_all (λ k. test k.symbol) (drop (i + 1) row))
  tested row i c passes lt is e = ap all_pass (dropped row i c lt is) ∙ ap (λ (b : Bool). b && all_pass (drop (i + 1) row)) e

  -- after the last cell
  pub tested_all : (row : List Look) (i : ℕ) → length row ≤ i → true ≡ list_all (λ k. test k.symbol) (drop i row)
  tested_all row i past = sym (ap all_pass (drop_all i row past))

  -- a cell of a row that passes
  pub tested_cell : (row : List Look) (i : ℕ) (c : Look) → i < length row → c ≡ get_or row i c → list_all (λ k. test k.symbol) row ≡ true → test c.symbol ≡ true
  tested_cell [] i c lt is e = absurd (omega arith)
  tested_cell (x ∷ xs) zero c lt is e = ap (λ (k : Look). test k.symbol) is ∙ (and_parts (test x.symbol) (all_pass xs) e).0
  tested_cell (x ∷ xs) (suc i) c lt is e = tested_cell xs i c (omega arith) is (and_parts (test x.symbol) (all_pass xs) e).1
