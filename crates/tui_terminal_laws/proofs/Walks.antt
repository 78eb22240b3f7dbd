-- The visible cells of a row, and those that are sent.
use Rattle.std.proofs.Common.{◌≡◌, ℕ, zero, suc, ◌+◌, ◌-◌, ◌<◌, ◌≤◌, Bool, true, false, not, ◌==◌, List, [], ◌∷◌, ◌++◌, length, refl, sym, ap, subst, ◌∙◌, inl, inr, ◌⊎◌, arith}
use Rattle.std.specs.Prelude.{nat_eq, min, Option, None, Some}
use Rattle.std.specs.Cmp.Lexicographic.{pointwise}
use Rattle.std.proofs.lemmas.Bool.{and_from, and_parts, cases_Bool, cond-true, cond-false, true≢false}
use Rattle.std.proofs.lemmas.Bool.Decides.{nat_tests}
use Rattle.tui_cells.specs.Cell.{Look, space}
use Rattle.tui_cells.specs.Same.{attributes_self, same_attributes}
use Rattle.tui_text.specs.Visible.{PlacedCell, step_of}
use Rattle.tui_text.proofs.ShownCells.{some_step}
use Rattle.tui_terminal_model.specs.declared.widths.KnownWidths.{KnownWidths}
use Rattle.tui_terminal_model.specs.Pens.{attributes_of}
use Rattle.tui_terminal_model.specs.Pieces.{Cover, blanked, covered, next_cover, pieces, seen, shown, shown_row}
use Rattle.tui_terminal_model.specs.Sends.{AreOnce}
use Rattle.tui_terminal_model.specs.Symbols.{is_quiet, is_sendable, has_known_width}
use Rattle.tui_terminal_model.specs.Terminal.{reach}
use Rattle.tui_terminal_laws.specs.declared.wanted.Wanted.{Wanted}
use Rattle.tui_terminal_laws.specs.declared.wanted.Wanted.TheVariants.{Changed}
use Rattle.tui_terminal_laws.specs.Sent.{is_same, is_shown, is_wanted, sent, sent_here}
use Rattle.tui_terminal_laws.proofs.Lists.{Each, In, Each-append, Each-in, Each-weaker, In-cases, In-from, In-left, In-right, In-to}
use Rattle.tui_terminal_laws.proofs.Seen.{blank_quiet, blank_step, blank_known_width, covered_false, covered_true, parts_of, seen_false, seen_true, under}

abbrev pub at_column : ℕ → Look → PlacedCell
at_column column c = record { column = column; cell = c }

-- ---- cells and their columns

pub pieces_after : (column : ℕ) (cs : List (Option Look)) (p : PlacedCell) → In p (pieces column cs) → column ≤ p.column
unfolding pieces
pieces_after column [] p there = absurd there
pieces_after column (None ∷ cs) p there = let more = pieces_after (column + 1) cs p there in omega (arith, more)
pieces_after column (Some c ∷ cs) p (inl e) = let at = ap (λ (k : PlacedCell). k.column) e in omega (arith, at)
pieces_after column (Some c ∷ cs) p (inr there) = let more = pieces_after (column + 1) cs p there in omega (arith, more)

-- at most one visible cell is in a column
pub one_column : (column : ℕ) (cs : List (Option Look)) (p q : PlacedCell) → In p (pieces column cs) → In q (pieces column cs) → p.column ≡ q.column → p ≡ q
unfolding pieces
one_column column [] p q a b same = absurd a
one_column column (None ∷ cs) p q a b same = one_column (column + 1) cs p q a b same
one_column column (Some c ∷ cs) p q (inl a) (inl b) same = sym a ∙ b
one_column column (Some c ∷ cs) p q (inl a) (inr b) same =
    let at = ap (λ (k : PlacedCell). k.column) a in let past = pieces_after (column + 1) cs q b in absurd (omega (arith, at, past))
one_column column (Some c ∷ cs) p q (inr a) (inl b) same =
    let at = ap (λ (k : PlacedCell). k.column) b in let past = pieces_after (column + 1) cs p a in absurd (omega (arith, at, past))
one_column column (Some c ∷ cs) p q (inr a) (inr b) same = one_column (column + 1) cs p q a b same

later_in : (column : ℕ) (o : Option Look) (os : List (Option Look)) (p : PlacedCell) → In p (pieces (column + 1) os) → In p (pieces column (o ∷ os))
unfolding pieces
later_in column None os p there = there
later_in column (Some c) os p there = inr there

was_later : (column : ℕ) (o : Option Look) (os : List (Option Look)) (p : PlacedCell) → column < p.column → In p (pieces column (o ∷ os)) → In p (pieces (column + 1) os)
unfolding pieces
was_later column None os p past there = there
was_later column (Some c) os p past (inl e) = let at = ap (λ (k : PlacedCell). k.column) e in absurd (omega (arith, at))
was_later column (Some c) os p past (inr there) = there

-- ---- every cell that is sent is visible and was wanted

abbrev pub IsWanted : KnownWidths → Wanted → List PlacedCell → PlacedCell → Type 0
IsWanted widths w ps p = In p ps × ((shown : Bool) × (is_wanted widths w shown p.cell.symbol ≡ true))

wanted_here : (widths : KnownWidths) (w : Wanted) (column : ℕ) (o : Option Look) (n : Look) (ps : List PlacedCell) →
    Each (IsWanted widths w (at_column column n ∷ ps)) (sent_here widths w column o n)
wanted_here widths w column o n ps = elim (cases_Bool (is_wanted widths w (is_shown o n) n.symbol)) [
  | inl holds ↦ subst (Each (IsWanted widths w (at_column column n ∷ ps))) (sym (cond-true _ (at_column column n ∷ []) [] holds)) ((inl refl, (is_shown o n, holds)), tt)
  | inr none ↦ subst (Each (IsWanted widths w (at_column column n ∷ ps))) (sym (cond-false _ (at_column column n ∷ []) [] none)) tt
]

pub sent_wanted : (widths : KnownWidths) (w : Wanted) (column : ℕ) (olds news : List (Option Look)) → Each (IsWanted widths w (pieces column news)) (sent widths w column olds news)
unfolding sent pieces
sent_wanted widths w column [] news = tt
sent_wanted widths w column (o ∷ os) [] = tt
sent_wanted widths w column (o ∷ os) (None ∷ ns) = sent_wanted widths w (column + 1) os ns
sent_wanted widths w column (o ∷ os) (Some n ∷ ns) =
    Each-append _ (sent_here widths w column o n) _ (wanted_here widths w column o n (pieces (column + 1) ns))
    (Each-weaker _ _ (λ p h. (inr h.0, h.1)) _ (sent_wanted widths w (column + 1) os ns))

pub sent_after : (widths : KnownWidths) (w : Wanted) (column : ℕ) (os ns : List (Option Look)) (p : PlacedCell) → In p (sent widths w column os ns) → column ≤ p.column
sent_after widths w column os ns p there =
    let is = Each-in (IsWanted widths w (pieces column ns)) p (sent widths w column os ns) (sent_wanted widths w column os ns) there in
    pieces_after column ns p is.0

-- ---- every visible cell is sent that is wanted whether it showed before or not

abbrev pub AlwaysWanted : KnownWidths → Wanted → PlacedCell → Type 0
AlwaysWanted widths w p = (shown : Bool) → is_wanted widths w shown p.cell.symbol ≡ true

pub sent_always : (widths : KnownWidths) (w : Wanted) (column : ℕ) (olds news : List (Option Look)) (p : PlacedCell) → length olds ≡ length news → AlwaysWanted widths w p →
    In p (pieces column news) → In p (sent widths w column olds news)
unfolding sent pieces
sent_always widths w column [] [] p len always h = h
sent_always widths w column [] (n ∷ ns) p len always h = absurd (omega arith)
sent_always widths w column (o ∷ os) [] p len always h = h
sent_always widths w column (o ∷ os) (None ∷ ns) p len always h = sent_always widths w (column + 1) os ns p (omega arith) always h
sent_always widths w column (o ∷ os) (Some n ∷ ns) p len always (inl e) =
    let on : is_wanted widths w (is_shown o n) n.symbol ≡ true = subst (λ (q : PlacedCell). is_wanted widths w (is_shown o n) q.cell.symbol ≡ true) (sym e) (always (is_shown o n)) in
    In-left p (sent_here widths w column o n) _ (subst (In p) (sym (cond-true _ (at_column column n ∷ []) [] on)) (inl e))
sent_always widths w column (o ∷ os) (Some n ∷ ns) p len always (inr h) =
    In-right p (sent_here widths w column o n) _ (sent_always widths w (column + 1) os ns p (omega arith) always h)

-- ---- cells that show the same

same_symbols : (a b : List ℕ) → pointwise nat_eq a b ≡ true → a ≡ b
same_symbols [] [] e = refl
same_symbols [] (y ∷ b) e = absurd (true≢false (sym e))
same_symbols (x ∷ a) [] e = absurd (true≢false (sym e))
same_symbols (x ∷ a) (y ∷ b) e =
    let h = and_parts (nat_eq x y) (pointwise nat_eq a b) e in
    let first : x ≡ y = grind (arith, nat_tests) in
    let others = same_symbols a b h.1 in λ i. first i ∷ others i

own_symbol : (s : List ℕ) → pointwise nat_eq s s ≡ true
own_symbol [] = refl
own_symbol (x ∷ s) = let here : nat_eq x x ≡ true = grind (arith, nat_tests) in and_from (nat_eq x x) (pointwise nat_eq s s) here (own_symbol s)

pub same_look : (o n : Look) → is_same o n ≡ true → o ≡ n
same_look o n e =
    let h = and_parts (pointwise nat_eq o.symbol n.symbol) _ e in
    let symbol = same_symbols o.symbol n.symbol h.0 in
    let others = same_attributes (attributes_of o) (attributes_of n) h.1 in
    λ i. record { symbol = symbol i; fg = (others i).fg; bg = (others i).bg; modifier = (others i).modifier.bits }

pub own_look : (c : Look) → is_same c c ≡ true
own_look c = and_from (pointwise nat_eq c.symbol c.symbol) _ (own_symbol c.symbol) (attributes_self (attributes_of c))

shown_is : (o : Option Look) (n : Look) → is_shown o n ≡ true → o ≡ Some n
unfolding is_shown
shown_is None n e = absurd (true≢false (sym e))
shown_is (Some o) n e = ap Some (same_look o n e)

own_shown : (n : Look) → is_shown (Some n) n ≡ true
unfolding is_shown
own_shown n = own_look n

-- ---- a visible cell that is not sent as a change showed before

pub changed_or_shown : (widths : KnownWidths) (column : ℕ) (olds news : List (Option Look)) (p : PlacedCell) → length olds ≡ length news →
    In p (pieces column news) → In p (sent widths Changed column olds news) ⊎ In p (pieces column olds)
unfolding sent pieces
changed_or_shown widths column [] [] p len h = absurd h
changed_or_shown widths column [] (n ∷ ns) p len h = absurd (omega arith)
changed_or_shown widths column (o ∷ os) [] p len h = absurd h
changed_or_shown widths column (o ∷ os) (None ∷ ns) p len h = elim (changed_or_shown widths (column + 1) os ns p (omega arith) h) [
  | inl c ↦ inl c
  | inr was ↦ inr (later_in column o os p was)
]
changed_or_shown widths column (o ∷ os) (Some n ∷ ns) p len (inl e) = elim (cases_Bool (is_shown o n)) [
  | inl holds ↦ inr (subst (λ k. In p (pieces column (k ∷ os))) (sym (shown_is o n holds)) (inl e))
  | inr none ↦
      let on : not (is_shown o n) ≡ true = ap not none in
      inl (In-left p (sent_here widths Changed column o n) _ (subst (In p) (sym (cond-true _ (at_column column n ∷ []) [] on)) (inl e)))
]
changed_or_shown widths column (o ∷ os) (Some n ∷ ns) p len (inr h) = elim (changed_or_shown widths (column + 1) os ns p (omega arith) h) [
  | inl c ↦ inl (In-right p (sent_here widths Changed column o n) _ c)
  | inr was ↦ inr (later_in column o os p was)
]

-- ---- a cell that is sent as a change did not show before

not_here : (widths : KnownWidths) (column : ℕ) (o : Option Look) (n : Look) (p : PlacedCell) → In p (sent_here widths Changed column o n) →
    (at_column column n ≡ p) × (is_shown o n ≡ false)
not_here widths column o n p there = elim (cases_Bool (is_shown o n)) [
  | inl holds ↦ absurd (subst (In p) (cond-false (not (is_shown o n)) (at_column column n ∷ []) [] (ap not holds)) there)
  | inr fails ↦
      let one : In p (at_column column n ∷ []) = subst (In p) (cond-true (not (is_shown o n)) (at_column column n ∷ []) [] (ap not fails)) there in
      (elim one [ inl e ↦ e | inr none ↦ absurd none ], fails)
]

showed_not : (column : ℕ) (o : Option Look) (os : List (Option Look)) (n : Look) (p : PlacedCell) → at_column column n ≡ p → is_shown o n ≡ false →
    In p (pieces column (o ∷ os)) → ⊥
unfolding pieces
showed_not column None os n p e off was =
    let at = ap (λ (k : PlacedCell). k.column) e in let past = pieces_after (column + 1) os p was in absurd (omega (arith, at, past))
showed_not column (Some o) os n p e off (inl f) =
    let same : o ≡ n = ap (λ (k : PlacedCell). k.cell) (f ∙ sym e) in
    true≢false (sym (subst (λ k. is_shown (Some k) n ≡ true) (sym same) (own_shown n)) ∙ off)
showed_not column (Some o) os n p e off (inr was) =
    let at = ap (λ (k : PlacedCell). k.column) e in let past = pieces_after (column + 1) os p was in absurd (omega (arith, at, past))

pub is_fresh : (widths : KnownWidths) (column : ℕ) (olds news : List (Option Look)) (p : PlacedCell) →
    In p (sent widths Changed column olds news) → In p (pieces column olds) → ⊥
unfolding sent pieces
is_fresh widths column [] news p there was = was
is_fresh widths column (o ∷ os) [] p there was = there
is_fresh widths column (o ∷ os) (None ∷ ns) p there was =
    let past = sent_after widths Changed (column + 1) os ns p there in
    is_fresh widths (column + 1) os ns p there (was_later column o os p (omega (arith, past)) was)
is_fresh widths column (o ∷ os) (Some n ∷ ns) p there was = elim (In-cases p (sent_here widths Changed column o n) _ there) [
  | inl here ↦ let h = not_here widths column o n p here in showed_not column o os n p h.0 h.1 was
  | inr later ↦
      let past = sent_after widths Changed (column + 1) os ns p later in
      is_fresh widths (column + 1) os ns p later (was_later column o os p (omega (arith, past)) was)
]

-- ---- each is sent once

pub sent_once : (widths : KnownWidths) (w : Wanted) (column : ℕ) (olds news : List (Option Look)) → AreOnce (sent widths w column olds news)
unfolding sent
sent_once widths w column [] news = tt
sent_once widths w column (o ∷ os) [] = tt
sent_once widths w column (o ∷ os) (None ∷ ns) = sent_once widths w (column + 1) os ns
sent_once widths w column (o ∷ os) (Some n ∷ ns) =
    let more = sent widths w (column + 1) os ns in
    let Goal : List PlacedCell → Type 0 = λ here. AreOnce (here ++ more) in
    elim (cases_Bool (is_wanted widths w (is_shown o n) n.symbol)) [
      | inl holds ↦ subst Goal (sym (cond-true _ (at_column column n ∷ []) [] holds)) (
        (λ q has same. let past = sent_after widths w (column + 1) os ns q (In-from q more has) in absurd (omega (arith, past, same))),
        sent_once widths w (column + 1) os ns,
      )
      | inr none ↦ subst Goal (sym (cond-false _ (at_column column n ∷ []) [] none)) (sent_once widths w (column + 1) os ns)
    ]

pub once_append : (ps qs : List PlacedCell) → AreOnce ps → AreOnce qs → ((p q : PlacedCell) → In p ps → In q qs → q.column ≡ p.column → ⊥) → AreOnce (ps ++ qs)
once_append [] qs a b away = b
once_append (p ∷ ps) qs a b away = (
  (λ q has same. elim (In-cases q ps qs (In-from q (ps ++ qs) has)) [
    | inl there ↦ a.0 q (In-to q ps there) same
    | inr there ↦ away p q (inl refl) there same
  ]),
  once_append ps qs a.1 b (λ r q r_in q_in same. away r q (inr r_in) q_in same),
)

-- ---- the columns of visible cells

pub not_zero : (h : ℕ) → (suc h == 0) ≡ false
not_zero h = grind (arith, nat_tests)

-- visible cells in order, from one column to another
abbrev pub InOrder : ℕ → ℕ → List PlacedCell → Type 0
InOrder from to [] = from ≤ to
InOrder from to (p ∷ ps) = (from ≤ p.column) × InOrder (p.column + step_of p.cell.symbol) to ps

-- a covered cell shows nothing or a blank
abbrev pub IsBlank : Option Look → Type 0
IsBlank None = Unit {0}
IsBlank (Some b) = b.symbol ≡ space

-- how many of the next columns show nothing
abbrev pub ahead : ℕ → Option Look → ℕ
ahead left None = left
ahead left (Some b) = 0

no_ahead : (blank : Option Look) → ahead 0 blank ≡ 0
no_ahead None = refl
no_ahead (Some b) = refl

-- a covered cell, and the cells after it
pub pieces_after_cell : (widths : KnownWidths) (k : ℕ) (blank : Option Look) (c : Look) (cs : List Look) →
    shown_row widths (under (suc k) blank) (c ∷ cs) ≡ blank ∷ shown_row widths (under k blank) cs
unfolding shown_row shown next_cover
pieces_after_cell widths k blank c cs =
    let room = 1 + length cs in
    let less : suc k - 1 ≡ k = omega arith in
    λ i. cond-false (suc k == 0) (Some (seen widths room c)) blank (not_zero k) i
    ∷ shown_row widths ((cond-false (suc k == 0) (covered widths room c) (under (suc k - 1) blank) (not_zero k) ∙ ap (λ m. under m blank) less) i) cs

-- a cell that shows
pub in_front : (widths : KnownWidths) (blank : Option Look) (c : Look) (cs : List Look) →
    shown_row widths (under 0 blank) (c ∷ cs) ≡ Some (seen widths (1 + length cs) c) ∷ shown_row widths (covered widths (1 + length cs) c) cs
unfolding shown_row shown next_cover
in_front widths blank c cs = refl

-- the number of cells after a cell that it covers
pub covered_left : (widths : KnownWidths) (room : ℕ) (c : Look) → (covered widths room c).left ≡ min (step_of c.symbol) room - 1
unfolding covered
covered_left widths room c = refl

pub pieces_in_order : (widths : KnownWidths) (left : ℕ) (blank : Option Look) (column : ℕ) (cs : List Look) → IsBlank blank → left ≤ length cs →
    InOrder (column + ahead left blank) (column + length cs) (pieces column (shown_row widths (under left blank) cs))
unfolding pieces shown_row
pieces_in_order widths zero None column [] is le = omega arith
pieces_in_order widths zero (Some b) column [] is le = omega arith
pieces_in_order widths (suc k) blank column [] is le = absurd (omega arith)
pieces_in_order widths zero blank column (c ∷ cs) is le =
    let room = 1 + length cs in
    let some = some_step c.symbol in
    let count = covered_left widths room c in
    let m = (covered widths room c).left in
    let low : m ≤ length cs = omega (arith, count) in
    let to : column + 1 + length cs ≡ column + length (c ∷ cs) = omega arith in
    let Goal : Look → Cover → Type 0 = λ s cover. InOrder (column + 0) (column + length (c ∷ cs)) (at_column column s ∷ pieces (column + 1) (shown_row widths cover cs)) in
    let zero_ahead : ahead 0 blank ≡ 0 = no_ahead blank in
    subst (λ n. InOrder (column + n) (column + length (c ∷ cs)) (pieces column (shown_row widths (under 0 blank) (c ∷ cs)))) (sym zero_ahead)
    (subst (λ row. InOrder (column + 0) (column + length (c ∷ cs)) (pieces column row)) (sym (in_front widths blank c cs))
    (elim (cases_Bool (is_sendable widths room c.symbol)) [
      | inl on ↦
          let fits = (parts_of widths room c.symbol on).fits in
          let from : column + 1 + m ≡ column + step_of c.symbol = omega (arith, some, count, fits) in
          let more = pieces_in_order widths m None (column + 1) cs tt low in
          subst (λ s. Goal s (covered widths room c)) (sym (seen_true widths room c on)) (subst (Goal c) (sym (covered_true widths room c on)) (
            omega arith,
            subst (λ n. InOrder n (column + length (c ∷ cs)) (pieces (column + 1) (shown_row widths (under m None) cs))) from
                (subst (λ n. InOrder (column + 1 + m) n (pieces (column + 1) (shown_row widths (under m None) cs))) to more),
          ))
      | inr off ↦
          let from : column + 1 + 0 ≡ column + step_of space = omega (arith, blank_step) in
          let more = pieces_in_order widths m (Some (blanked c)) (column + 1) cs refl low in
          subst (λ s. Goal s (covered widths room c)) (sym (seen_false widths room c off)) (subst (Goal (blanked c)) (sym (covered_false widths room c off)) (
            omega arith,
            subst (λ n. InOrder n (column + length (c ∷ cs)) (pieces (column + 1) (shown_row widths (under m (Some (blanked c))) cs))) from
                (subst (λ n. InOrder (column + 1 + 0) n (pieces (column + 1) (shown_row widths (under m (Some (blanked c))) cs))) to more),
          ))
    ]))
pieces_in_order widths (suc k) None column (c ∷ cs) is le =
    let from : column + 1 + k ≡ column + suc k = omega arith in
    let to : column + 1 + length cs ≡ column + length (c ∷ cs) = omega arith in
    let more = pieces_in_order widths k None (column + 1) cs tt (omega arith) in
    subst (λ row. InOrder (column + suc k) (column + length (c ∷ cs)) (pieces column row)) (sym (pieces_after_cell widths k None c cs))
    (subst (λ n. InOrder n (column + length (c ∷ cs)) (pieces (column + 1) (shown_row widths (under k None) cs))) from
    (subst (λ n. InOrder (column + 1 + k) n (pieces (column + 1) (shown_row widths (under k None) cs))) to more))
pieces_in_order widths (suc k) (Some b) column (c ∷ cs) is le =
    let one : step_of b.symbol ≡ 1 = ap step_of is ∙ blank_step in
    let from : column + 1 + 0 ≡ column + step_of b.symbol = omega (arith, one) in
    let to : column + 1 + length cs ≡ column + length (c ∷ cs) = omega arith in
    let more = pieces_in_order widths k (Some b) (column + 1) cs is (omega arith) in
    subst (λ row. InOrder (column + 0) (column + length (c ∷ cs)) (pieces column row)) (sym (pieces_after_cell widths k (Some b) c cs)) (
      omega arith,
      subst (λ n. InOrder n (column + length (c ∷ cs)) (pieces (column + 1) (shown_row widths (under k (Some b)) cs))) from
          (subst (λ n. InOrder (column + 1 + 0) n (pieces (column + 1) (shown_row widths (under k (Some b)) cs))) to more),
    )

-- two cells that share no column
abbrev pub Apart : PlacedCell → PlacedCell → Type 0
Apart p q = (p.column + step_of p.cell.symbol ≤ q.column) ⊎ (q.column + step_of q.cell.symbol ≤ p.column)

from_there : (from to : ℕ) (ps : List PlacedCell) (p : PlacedCell) → InOrder from to ps → In p ps → from ≤ p.column
from_there from to [] p order h = absurd h
from_there from to (q ∷ ps) p order (inl e) = let at = ap (λ (k : PlacedCell). k.column) e in omega (arith, order.0, at)
from_there from to (q ∷ ps) p order (inr h) = let more = from_there (q.column + step_of q.cell.symbol) to ps p order.1 h in omega (arith, order.0, more)

pub apart : (from to : ℕ) (ps : List PlacedCell) (p q : PlacedCell) → InOrder from to ps → In p ps → In q ps → (p ≡ q) ⊎ Apart p q
apart from to [] p q order a b = absurd a
apart from to (r ∷ ps) p q order (inl a) (inl b) = inl (sym a ∙ b)
apart from to (r ∷ ps) p q order (inl a) (inr b) =
    inr (inl (subst (λ (k : PlacedCell). k.column + step_of k.cell.symbol ≤ q.column) a (from_there (r.column + step_of r.cell.symbol) to ps q order.1 b)))
apart from to (r ∷ ps) p q order (inr a) (inl b) =
    inr (inr (subst (λ (k : PlacedCell). k.column + step_of k.cell.symbol ≤ p.column) b (from_there (r.column + step_of r.cell.symbol) to ps p order.1 a)))
apart from to (r ∷ ps) p q order (inr a) (inr b) = apart (r.column + step_of r.cell.symbol) to ps p q order.1 a b

-- ---- each visible cell fits, and may be sent

pub record IsFit (widths : KnownWidths) (right : ℕ) (p : PlacedCell) : Type 0 where
  pub wide : p.column + step_of p.cell.symbol ≤ right
  pub reaches : has_known_width widths p.cell.symbol ≡ false → p.column + reach p.cell.symbol ≤ right
  pub quiet : is_quiet p.cell.symbol ≡ true
  pub some : 0 < length p.cell.symbol

blank_fit : (widths : KnownWidths) (right column : ℕ) (b : Look) → b.symbol ≡ space → column < right → IsFit widths right (at_column column b)
blank_fit widths right column b is lt =
    let one : step_of b.symbol ≡ 1 = ap step_of is ∙ blank_step in
    let long : length b.symbol ≡ length space = ap length is in
    record {
      wide = omega (arith, one);
      reaches = λ uncertain. absurd (true≢false (sym (ap (has_known_width widths) is ∙ blank_known_width widths) ∙ uncertain));
      quiet = ap is_quiet is ∙ blank_quiet;
      some = omega (arith, long);
    }

seen_fit : (widths : KnownWidths) (right column room : ℕ) (c : Look) → column + room ≡ right → 0 < room → IsFit widths right (at_column column (seen widths room c))
seen_fit widths right column room c end some = elim (cases_Bool (is_sendable widths room c.symbol)) [
  | inl on ↦
      let parts = parts_of widths room c.symbol on in
      let fits = parts.fits in
      let here : IsFit widths right (at_column column c) = record {
        wide = omega (arith, fits);
        reaches = λ uncertain. omega (arith, parts.reaches uncertain);
        quiet = parts.quiet;
        some = parts.some;
      } in
      subst (λ s. IsFit widths right (at_column column s)) (sym (seen_true widths room c on)) here
  | inr off ↦ subst (λ s. IsFit widths right (at_column column s)) (sym (seen_false widths room c off)) (blank_fit widths right column (blanked c) refl (omega arith))
]

cover_blank : (widths : KnownWidths) (room : ℕ) (c : Look) → IsBlank (covered widths room c).blank
cover_blank widths room c = elim (cases_Bool (is_sendable widths room c.symbol)) [
  | inl on ↦ subst (λ (k : Cover). IsBlank k.blank) (sym (covered_true widths room c on)) tt
  | inr off ↦ subst (λ (k : Cover). IsBlank k.blank) (sym (covered_false widths room c off)) refl
]

pub pieces_fit : (widths : KnownWidths) (left : ℕ) (blank : Option Look) (column : ℕ) (cs : List Look) → IsBlank blank →
    Each (IsFit widths (column + length cs)) (pieces column (shown_row widths (under left blank) cs))
unfolding pieces shown_row
pieces_fit widths left blank column [] is = tt
pieces_fit widths zero blank column (c ∷ cs) is =
    let room = 1 + length cs in
    let right = column + length (c ∷ cs) in
    let to : column + 1 + length cs ≡ right = omega arith in
    let more = pieces_fit widths (covered widths room c).left (covered widths room c).blank (column + 1) cs (cover_blank widths room c) in
    subst (λ row. Each (IsFit widths right) (pieces column row)) (sym (in_front widths blank c cs))
    (seen_fit widths right column room c (omega arith) (omega arith), subst (λ n. Each (IsFit widths n) (pieces (column + 1) (shown_row widths (covered widths room c) cs))) to more)
pieces_fit widths (suc k) None column (c ∷ cs) is =
    let to : column + 1 + length cs ≡ column + length (c ∷ cs) = omega arith in
    subst (λ row. Each (IsFit widths (column + length (c ∷ cs))) (pieces column row)) (sym (pieces_after_cell widths k None c cs))
    (subst (λ n. Each (IsFit widths n) (pieces (column + 1) (shown_row widths (under k None) cs))) to (pieces_fit widths k None (column + 1) cs tt))
pieces_fit widths (suc k) (Some b) column (c ∷ cs) is =
    let to : column + 1 + length cs ≡ column + length (c ∷ cs) = omega arith in
    subst (λ row. Each (IsFit widths (column + length (c ∷ cs))) (pieces column row)) (sym (pieces_after_cell widths k (Some b) c cs)) (
      blank_fit widths (column + length (c ∷ cs)) column b is (omega arith),
      subst (λ n. Each (IsFit widths n) (pieces (column + 1) (shown_row widths (under k (Some b)) cs))) to (pieces_fit widths k (Some b) (column + 1) cs is),
    )
