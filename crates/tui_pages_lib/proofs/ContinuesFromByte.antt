-- Cells that continue with a line.
use Rattle.std.proofs.Common.{◌≡◌, ℕ, zero, suc, ◌+◌, ◌-◌, ◌<◌, List, [], ◌∷◌, ◌++◌, length, take, drop, ◌⊎◌, inl, inr, sym, ap, refl, ◌∙◌, subst, arith}
use Rattle.std.specs.Str.{IsCharBoundary, IsUtf8}
use Rattle.std.proofs.Math.Seq.{drop-append_seam}
use Rattle.std.proofs.lemmas.List.{append_assoc, length-append, take-append-drop}
use Rattle.std.proofs.lemmas.Str.{IsCharBoundary-from_drop, IsCharBoundary-start}
use Rattle.tui_pages_lib.specs.Starts.{ContinuesFrom, cell_lines}

drop_none : {A : Type 0} (n : ℕ) → drop {A = A} n [] ≡ []
drop_none zero = refl
drop_none (suc n) = refl

pub drop_twice : {A : Type 0} (n m : ℕ) (xs : List A) → drop (n + m) xs ≡ drop m (drop n xs)
drop_twice zero m xs = let e : zero + m ≡ m = omega arith in ap (λ k. drop k xs) e
drop_twice (suc n) m [] = drop_none (suc n + m) ∙ sym (drop_none m)
drop_twice (suc n) m (x ∷ xs) = let e : suc n + m ≡ suc (n + m) = omega arith in ap (λ k. drop k (x ∷ xs)) e ∙ drop_twice n m xs

-- the cell has no byte there
pub no_byte : (cell : List ℕ) (far : ℕ) → length cell < far → (IsCharBoundary cell far → ⊥)
no_byte cell far h b = absurd (omega (arith, b.0))

-- a cell without further lines has none further on
pub nowhere_more : (width line more start far : ℕ) (cell : List ℕ) → (IsCharBoundary cell start → ⊥) → (IsCharBoundary cell far → ⊥) →
    ContinuesFrom width line cell start → ContinuesFrom width (line + more) cell far
nowhere_more width line more start far cell none away g = record {
  lines = λ b. absurd (away b);
  none = λ _. drop_twice line more (cell_lines width cell) ∙ (ap (drop more) (g.none none) ∙ drop_none more);
}

-- neither has a cell whose rest has no further lines
pub none_more : (width line more start far : ℕ) (cell rest : List ℕ) → IsCharBoundary cell start → rest ≡ drop start cell →
    (IsCharBoundary cell far → ⊥) → drop more (cell_lines width rest) ≡ [] → ContinuesFrom width line cell start → ContinuesFrom width (line + more) cell far
none_more width line more start far cell rest some is away ends g = record {
  lines = λ b. absurd (away b);
  none = λ _. drop_twice line more (cell_lines width cell) ∙ (ap (drop more) (sym (g.lines some)) ∙ (ap (λ t. drop more (cell_lines width t)) (sym is) ∙ ends));
}

-- a text that ends another one starts at a character of it
pub ends_with : (cell rest front : List ℕ) → cell ≡ front ++ rest → drop (length cell - length rest) cell ≡ rest
ends_with cell rest front whole =
    let place : length cell - length rest ≡ length front = omega (arith, ap length whole, length-append front rest) in
    ap (λ n. drop n cell) place ∙ (ap (drop (length front)) whole ∙ drop-append_seam front rest)

pub begins_at : (cell rest : List ℕ) → drop (length cell - length rest) cell ≡ rest → IsUtf8 rest → IsCharBoundary cell (length cell - length rest)
begins_at cell rest there u = IsCharBoundary-from_drop cell (length cell - length rest) (omega arith) (subst IsUtf8 (sym there) u)

-- what is left of a rest of a cell is a rest of the cell
pub left_whole : (cell rest left front : List ℕ) (start : ℕ) → rest ≡ drop start cell → rest ≡ front ++ left →
    (before : List ℕ) × (cell ≡ before ++ left)
left_whole cell rest left front start is whole =
    (take start cell ++ front, sym (take-append-drop start cell) ∙ (ap (λ t. take start cell ++ t) (sym is ∙ whole) ∙ sym (append_assoc (take start cell) front left)))

pub moved_more : (width line more start further : ℕ) (cell rest left : List ℕ) → IsCharBoundary cell start → rest ≡ drop start cell →
    drop further cell ≡ left → IsCharBoundary cell further → cell_lines width left ≡ drop more (cell_lines width rest) →
    ContinuesFrom width line cell start → ContinuesFrom width (line + more) cell further
moved_more width line more start further cell rest left some is there begins lines g =
    record {
      lines = λ _. ap (cell_lines width) there ∙ (lines ∙ (ap (λ t. drop more (cell_lines width t)) is ∙ (ap (drop more) (g.lines some)
          ∙ sym (drop_twice line more (cell_lines width cell)))));
      none = λ away. absurd (away begins);
    }

-- at its start a cell continues with its first line
pub begins : (width : ℕ) (cell : List ℕ) → IsUtf8 cell → ContinuesFrom width 0 cell 0
begins width cell u = record {
  lines = λ _. refl;
  none = λ away. absurd (away (IsCharBoundary-start cell u));
}

-- so a cell continues at both kinds of starts: its own start for the first line, and a byte that is known
pub continues_from : (width line start : ℕ) (cell : List ℕ) → IsUtf8 cell → 0 < width →
    (line ≡ 0) × (start ≡ 0) ⊎ (0 < width → ContinuesFrom width line cell start) → ContinuesFrom width line cell start
continues_from width line start cell u wide (inl (l, s)) =
    subst (λ t. ContinuesFrom width t cell start) (sym l) (subst (λ t. ContinuesFrom width 0 cell t) (sym s) (begins width cell u))
continues_from width line start cell u wide (inr g) = g wide
