-- The rows of a buffer in the output.
use Rattle.std.proofs.Common.{◌≡◌, ℕ, ◌+◌, ◌-◌, ◌<◌, ◌≤◌, List, [], ◌∷◌, ◌++◌, length, get_or, take, slice_index_or, flat_map, refl, ap, sym, ◌∙◌, add-one, min, append_assoc, slice_set, arith, false}
use Rattle.std.proofs.lemmas.List.{append-nil, length-set, take_more_set}
use Rattle.std.proofs.lemmas.Grind.{flat_map-append}
use Rattle.std.proofs.lemmas.List.Concat.{flat_map-cons}
use Rattle.std.proofs.Math.Seq.{take-suc}
use Rattle.tui_cells.specs.Cell.{Look}
use Rattle.tui_clusters.specs.Plain.{IsLetter}
use Rattle.tui_clusters.specs.Width.{width_of}
use Rattle.tui_rows.specs.RowLine.{symbols_from}
use Rattle.tui_text.specs.Visible.{joined_symbols, step_of}
use Rattle.tui_clusters.proofs.OneByte.{printable_width}
use Rattle.tui_clusters.proofs.Widths.{letter_width}
use Rattle.tui_text.proofs.ShownCells.{none_visible, visible_next}

-- a visible cell, and what comes after its columns
pub row_step : (row : List Look) (i step : ℕ) (c : Look) → i < length row → c ≡ get_or row i c → step ≡ min (step_of c.symbol) (length row - i) →
    symbols_from row i ≡ c.symbol ++ symbols_from row (i + step)
row_step row i step c lt e is =
    let next = visible_next row i step c lt (is ∙ ap (λ (k : Look). min (step_of k.symbol) (length row - i)) e) in
    ap joined_symbols next ∙ ap (λ (k : Look). k.symbol ++ symbols_from row (i + step)) (sym e)

-- a printable byte
pub row_plain : (row : List Look) (i b : ℕ) (c : Look) → i < length row → c ≡ get_or row i c → c.symbol ≡ b ∷ [] → step_of c.symbol ≡ 1 →
    symbols_from row i ≡ b ∷ symbols_from row (i + 1)
row_plain row i b c lt e is one =
    row_step row i 1 c lt e (omega (arith, one, lt)) ∙ ap (λ (l : List ℕ). l ++ symbols_from row (i + 1)) is

-- one more of them is copied
pub plain_more : (row piece text : List ℕ) (n b : ℕ) (rest : List ℕ) → n < length piece → text ≡ take n piece ++ row → row ≡ b ∷ rest →
    text ≡ take (n + 1) (slice_set piece n b) ++ rest
plain_more row piece text n b rest lt before is =
    rw (take_more_set piece n b lt) (before ∙ (ap (λ (l : List ℕ). take n piece ++ l) is ∙ sym (append_assoc (take n piece) (b ∷ []) rest)))

-- a symbol of one column
pub row_narrow : (row : List Look) (i : ℕ) (bytes : List ℕ) (c : Look) → i < length row → c ≡ get_or row i c → c.symbol ≡ bytes → step_of bytes ≡ 1 →
    symbols_from row i ≡ bytes ++ symbols_from row (i + 1)
row_narrow row i bytes c lt e is one =
    let step : step_of c.symbol ≡ 1 = rw is one in
    row_step row i 1 c lt e (omega (arith, step, lt)) ∙ ap (λ (l : List ℕ). l ++ symbols_from row (i + 1)) is

-- its three bytes are copied once more
pub three_more : (row piece text symbol rest : List ℕ) (at next : ℕ) → length symbol ≡ 3 → at + 3 ≤ length piece → next ≡ at + 3 →
    text ≡ take at piece ++ row → row ≡ symbol ++ rest →
    text ≡ take next (slice_set (slice_set (slice_set piece at (slice_index_or symbol 0 0)) (at + 1) (slice_index_or symbol 1 0)) (at + 2) (slice_index_or symbol 2 0)) ++ rest
three_more row piece text [] rest at next len room is before tail = absurd (omega (arith, len))
three_more row piece text (a ∷ []) rest at next len room is before tail = absurd (omega (arith, len))
three_more row piece text (a ∷ b ∷ []) rest at next len room is before tail = absurd (omega (arith, len))
three_more row piece text (a ∷ b ∷ c ∷ d ∷ s) rest at next len room is before tail = absurd (omega (arith, len))
three_more row piece text (a ∷ b ∷ c ∷ []) rest at next len room is before tail =
    let one = plain_more row piece text at a (b ∷ c ∷ rest) (omega arith) before tail in
    let second : at + 1 < length (slice_set piece at a) = omega (arith, length-set piece at a) in
    let two = plain_more (b ∷ c ∷ rest) (slice_set piece at a) text (at + 1) b (c ∷ rest) second one refl in
    let third : at + 2 < length (slice_set (slice_set piece at a) (at + 1) b) = omega (arith, length-set piece at a, length-set (slice_set piece at a) (at + 1) b) in
    let there : at + 1 + 1 ≡ at + 2 = omega arith in
    let end : at + 2 + 1 ≡ next = omega arith in
    rw end at (plain_more (c ∷ rest) (slice_set (slice_set piece at a) (at + 1) b) text (at + 2) c rest third (rw there at two) refl)

pub row_end : (row : List Look) (i : ℕ) → length row ≤ i → symbols_from row i ≡ []
row_end row i le = ap joined_symbols (none_visible row i i le)

-- a printable byte takes one column
pub one_byte : (b : ℕ) → 32 ≤ b → b ≤ 126 → step_of (b ∷ []) ≡ 1
unfolding step_of width_of
one_byte b low high = rw (printable_width false (b ∷ []) b refl low high) refl

-- a letter of two bytes takes one column
pub letter_step : (s : List ℕ) → IsLetter s → step_of s ≡ 1
unfolding step_of
letter_step s letter = rw (letter_width s letter) refl

-- the lines of some rows, and of one more row
pub rows_more : {A : Type 0} (line : List A → List ℕ) (rows : List (List A)) (i : ℕ) (d : List A) → i < length rows →
    flat_map line (take (i + 1) rows) ≡ flat_map line (take i rows) ++ line (get_or rows i d)
rows_more line rows i d lt =
    let one : flat_map line (get_or rows i d ∷ []) ≡ line (get_or rows i d) = flat_map-cons line (get_or rows i d) [] ∙ append-nil (line (get_or rows i d)) in
    rw (add-one, take-suc rows i d lt, flat_map-append line (take i rows) (get_or rows i d ∷ [])) (ap (λ (l : List ℕ). flat_map line (take i rows) ++ l) one)
