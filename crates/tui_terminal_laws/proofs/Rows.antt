-- The cells of one row are sent.
use Rattle.std.proofs.Common.{◌≡◌, ℕ, ◌+◌, ◌<◌, ◌≤◌, Bool, true, false, not, ◌&&◌, List, [], ◌∷◌, ◌++◌, length, refl, sym, ap, subst, ◌∙◌, inl, inr, ◌⊎◌, Contains, arith}
use Rattle.std.specs.Prelude.{Option, None}
use Rattle.std.proofs.lemmas.Bool.{and_from, and_parts, cases_Bool, cond-true, cond-false, not-true, true≢false}
use Rattle.tui_text.specs.Visible.{PlacedCell, step_of}
use Rattle.tui_cells.specs.Cell.{Look}
use Rattle.tui_text.proofs.ShownCells.{some_step}
use Rattle.tui_terminal_model.specs.declared.output.Output.{Output}
use Rattle.tui_terminal_model.specs.declared.widths.KnownWidths.{KnownWidths}
use Rattle.tui_terminal_model.specs.Pieces.{pieces}
use Rattle.tui_terminal_model.specs.Sends.{AreAll, AreOnce, AreSent as IsSentOf, IsNew}
use Rattle.tui_terminal_model.specs.Shows.{KnowsAll, ShowsRow, ShowsCell, KnowsWidths}
use Rattle.tui_terminal_model.specs.Symbols.{has_known_width}
use Rattle.tui_terminal_model.specs.Terminal.{Shown, Tty, run}
use Rattle.tui_terminal_laws.specs.declared.at.At.{At}
use Rattle.tui_terminal_laws.specs.declared.wanted.Wanted.TheVariants.{Changed, UncertainWidth, KnownWidth}
use Rattle.tui_terminal_laws.specs.Sent.{in_full, changes, is_calm, row_sent, row_shown, sent}
use Rattle.tui_terminal_laws.specs.Sending.{at_after, next_at, nothing_known, send, send_one}
use Rattle.tui_terminal_laws.proofs.Lists.{Each, Each-append, Each-in, Each-list_all, Each-of, Each-weaker, In, In-from, In-left, In-right, In-to, list_all-Each}
use Rattle.tui_terminal_laws.proofs.Pen.{run_append}
use Rattle.tui_terminal_laws.proofs.Steps.{IsAt, IsSent, Stays, drawn_keeps, drawn_shows_cell, sent_one, stays, stays_on, symbol_sent}
use Rattle.tui_terminal_laws.proofs.Walks.{Apart, IsFit, IsWanted, apart, changed_or_shown, is_fresh, once_append, one_column, pieces_after, pieces_fit, pieces_in_order, sent_always, sent_once, sent_wanted}

-- two cells are the same, or share no column
abbrev pub Clear : PlacedCell → PlacedCell → Type 0
Clear q p = (p ≡ q) ⊎ Apart p q

abbrev pub Knows : (List ℕ → Bool) → PlacedCell → Type 0
Knows knows p = knows p.cell.symbol ≡ true

-- the terminal after some cells of a row were sent
pub record AreSent (knows : List ℕ → Bool) (o : Output) (y : ℕ) (at : At) (ps : List PlacedCell) (t u : Tty) : Type 0 where
  pub same : Stays t u
  pub known_at : IsAt o.depth y (at_after o.widths at ps) u
  pub others : (r : ℕ) → (r ≡ y → ⊥) → u.cells r ≡ t.cells r
  pub shows_cell : (q : PlacedCell) → Each (Clear q) ps → Each (Knows knows) ps → ShowsCell o.depth (t.cells y) q ⊎ In q ps → ShowsCell o.depth (u.cells y) q

pub all_sent : (knows : List ℕ → Bool) (o : Output) (y : ℕ) (at : At) (ps : List PlacedCell) (t : Tty) → KnowsWidths o.widths knows → t.whole ≡ true → t.modes_reset ≡ true →
    y < t.height → Each (IsFit o.widths t.columns) ps → IsAt o.depth y at t → AreSent knows o y at ps t (run knows (send o y at ps) t)
unfolding send at_after
all_sent knows o y at [] t knows_widths whole modes_reset high fit is = record {
  same = stays t;
  known_at = is;
  others = λ r away. refl;
  shows_cell = λ q clear known was. elim was [ inl stood ↦ stood | inr none ↦ absurd none ];
}
all_sent knows o y at (p ∷ ps) t knows_widths whole modes_reset high fit is =
    let u : Tty = run knows (send_one o.depth y at p) t in
    let wide : p.column < t.columns = omega (arith, fit.0.wide, some_step p.cell.symbol) in
    let one : IsSent knows o y p t u =
    subst (IsSent knows o y p t) (sym (sent_one knows o.depth y at p t whole modes_reset wide high is)) (symbol_sent knows o y p t knows_widths whole modes_reset fit.0) in
    let tall = one.same.height in
    let high_then : y < u.height = omega (arith, tall) in
    let fit_then : Each (IsFit o.widths u.columns) ps = subst (λ k. Each (IsFit o.widths k) ps) (sym one.same.columns) fit.1 in
    let more = all_sent knows o y (next_at o.widths p) ps u knows_widths (one.same.whole ∙ whole) (one.same.modes_reset ∙ modes_reset) high_then fit_then one.known_at in
    let done : AreSent knows o y at (p ∷ ps) t (run knows (send o y (next_at o.widths p) ps) u) = record {
      same = stays_on t u _ one.same more.same;
      known_at = more.known_at;
      others = λ r away. more.others r away ∙ one.others r away;
      shows_cell = λ q clear known was.
          let row : u.cells y ≡ _ = one.row known.0 in
          let self : p ≡ q → ShowsCell o.depth (u.cells y) q = λ e.
          subst (λ (k : PlacedCell). ShowsCell o.depth (u.cells y) k) e (subst (λ (r : ℕ → Shown). ShowsCell o.depth r p) (sym row) (drawn_shows_cell o.depth p (t.cells y))) in
          let stood : ShowsCell o.depth (t.cells y) q → ShowsCell o.depth (u.cells y) q = λ s. elim clear.0 [
            | inl e ↦ self e
            | inr away ↦ subst (λ (r : ℕ → Shown). ShowsCell o.depth r q) (sym row) (drawn_keeps o.depth p q (t.cells y) away s)
          ] in
          elim was [
            | inl s ↦ more.shows_cell q clear.1 known.1 (inl (stood s))
            | inr there ↦ elim there [
              | inl e ↦ more.shows_cell q clear.1 known.1 (inl (self e))
              | inr later ↦ more.shows_cell q clear.1 known.1 (inr later)
            ]
          ];
    } in
    subst (AreSent knows o y at (p ∷ ps) t) (sym (run_append knows (send_one o.depth y at p) _ t)) done

-- nothing is known at the beginning of a row
pub nowhere_at : (o : Output) (y : ℕ) (t : Tty) → IsAt o.depth y nothing_known t
nowhere_at o y t = record { placed_at = λ placed low. absurd (true≢false (sym placed)); painted_by = λ is. absurd (true≢false (sym is)) }

-- some cells, and then some more
pub send_append : (knows : List ℕ → Bool) (o : Output) (y : ℕ) (at : At) (ps qs : List PlacedCell) (t : Tty) →
    run knows (send o y at (ps ++ qs)) t ≡ run knows (send o y (at_after o.widths at ps) qs) (run knows (send o y at ps) t)
unfolding send at_after
send_append knows o y at [] qs t = refl
send_append knows o y at (p ∷ ps) qs t =
    run_append knows (send_one o.depth y at p) _ t
    ∙ (send_append knows o y (next_at o.widths p) ps qs (run knows (send_one o.depth y at p) t)
    ∙ ap (run knows (send o y (at_after o.widths (next_at o.widths p) ps) qs)) (sym (run_append knows (send_one o.depth y at p) (send o y (next_at o.widths p) ps) t)))

-- ---- which cells are sent

abbrev pub Row : Type 0
Row = List (Option Look)

wanted_in : (widths : KnownWidths) (w : _) (left : ℕ) (old new : Row) → Each (λ p. In p (pieces left new)) (sent widths w left old new)
wanted_in widths w left old new =
    let ps = pieces left new in
    Each-weaker (IsWanted widths w ps) (λ p. In p ps) (λ p h. h.0) _ (sent_wanted widths w left old new)

-- every cell that is sent is visible
pub in_full_in : (widths : KnownWidths) (left : ℕ) (row : Row) → Each (λ p. In p (pieces left row)) (in_full widths left row)
in_full_in widths left row =
    Each-append (λ p. In p (pieces left row)) (sent widths UncertainWidth left row row) (sent widths KnownWidth left row row)
    (wanted_in widths UncertainWidth left row row) (wanted_in widths KnownWidth left row row)

-- every visible cell is sent
pub in_full_has : (widths : KnownWidths) (left : ℕ) (row : Row) (p : PlacedCell) → In p (pieces left row) → In p (in_full widths left row)
in_full_has widths left row p there =
    let rs = sent widths UncertainWidth left row row in
    let ts = sent widths KnownWidth left row row in
    elim (cases_Bool (has_known_width widths p.cell.symbol)) [
      | inl is ↦ In-right p rs ts (sent_always widths KnownWidth left row row p refl (λ shown. is) there)
      | inr uncertain ↦ In-left p rs ts (sent_always widths UncertainWidth left row row p refl (λ shown. ap not uncertain) there)
    ]

pub uncertain_are : (widths : KnownWidths) (left : ℕ) (row : Row) → Each (λ p. has_known_width widths p.cell.symbol ≡ false) (sent widths UncertainWidth left row row)
uncertain_are widths left row =
    Each-weaker (IsWanted widths UncertainWidth (pieces left row)) (λ p. has_known_width widths p.cell.symbol ≡ false) (λ p h. not-true (has_known_width widths p.cell.symbol) h.1.1) _
    (sent_wanted widths UncertainWidth left row row)

pub known_width_are : (widths : KnownWidths) (left : ℕ) (row : Row) → Each (λ p. has_known_width widths p.cell.symbol ≡ true) (sent widths KnownWidth left row row)
known_width_are widths left row =
    Each-weaker (IsWanted widths KnownWidth (pieces left row)) (λ p. has_known_width widths p.cell.symbol ≡ true) (λ p h. h.1.1) _
    (sent_wanted widths KnownWidth left row row)

-- no cell is sent twice
pub in_full_once : (widths : KnownWidths) (left : ℕ) (row : Row) → AreOnce (in_full widths left row)
in_full_once widths left row =
    let rs = sent widths UncertainWidth left row row in
    let ts = sent widths KnownWidth left row row in
    once_append rs ts (sent_once widths UncertainWidth left row row) (sent_once widths KnownWidth left row row) (λ p q p_in q_in same.
    let a = Each-in (λ k. In k (pieces left row)) p rs (wanted_in widths UncertainWidth left row row) p_in in
    let b = Each-in (λ k. In k (pieces left row)) q ts (wanted_in widths KnownWidth left row row) q_in in
    let is : q ≡ p = one_column left row q p b a same in
    let uncertain = Each-in (λ k. has_known_width widths k.cell.symbol ≡ false) p rs (uncertain_are widths left row) p_in in
    let sure = Each-in (λ k. has_known_width widths k.cell.symbol ≡ true) q ts (known_width_are widths left row) q_in in
    true≢false (sym sure ∙ (ap (λ (k : PlacedCell). has_known_width widths k.cell.symbol) is ∙ uncertain)))

pub in_full_all : (widths : KnownWidths) (left : ℕ) (row : Row) → AreAll (pieces left row) (in_full widths left row)
in_full_all widths left row = record {
  among = λ p has. In-to p (pieces left row) (Each-in (λ q. In q (pieces left row)) p (in_full widths left row) (in_full_in widths left row) (In-from p (in_full widths left row) has));
  each = λ p has. In-to p (in_full widths left row) (in_full_has widths left row p (In-from p (pieces left row) has));
  once = in_full_once widths left row;
}

pub changes_in : (widths : KnownWidths) (left : ℕ) (old new : Row) → Each (λ p. In p (pieces left new)) (changes widths left old new)
changes_in widths left old new = wanted_in widths Changed left old new

pub row_in : (widths : KnownWidths) (left : ℕ) (old new : Row) → Each (λ p. In p (pieces left new)) (row_sent widths left old new)
row_in widths left old new = elim (cases_Bool (is_calm widths left old new && is_calm widths left new old)) [
  | inl calm ↦ subst (Each (λ p. In p (pieces left new))) (sym (cond-true _ (changes widths left old new) (in_full widths left new) calm)) (changes_in widths left old new)
  | inr not_calm ↦ subst (Each (λ p. In p (pieces left new))) (sym (cond-false _ (changes widths left old new) (in_full widths left new) not_calm)) (in_full_in widths left new)
]

-- each of them fits
pub in_fit : (widths : KnownWidths) (left columns : ℕ) (row : List Look) (xs : List PlacedCell) → left + length row ≤ columns →
    Each (λ p. In p (pieces left (row_shown widths row))) xs → Each (IsFit widths columns) xs
in_fit widths left columns row xs le within =
    let ps = pieces left (row_shown widths row) in
    Each-weaker (λ p. In p ps) (IsFit widths columns)
    (λ p h. let fit = Each-in (IsFit widths (left + length row)) p ps (pieces_fit widths 0 None left row tt) h in record {
      wide = omega (arith, fit.wide);
      reaches = λ uncertain. omega (arith, fit.reaches uncertain);
      quiet = fit.quiet;
      some = fit.some;
    })
    xs within

-- each of them is the same as a visible cell, or shares no column with it
pub in_clear : (widths : KnownWidths) (left : ℕ) (row : List Look) (xs : List PlacedCell) (q : PlacedCell) → In q (pieces left (row_shown widths row)) →
    Each (λ p. In p (pieces left (row_shown widths row))) xs → Each (Clear q) xs
in_clear widths left row xs q there within =
    let ps = pieces left (row_shown widths row) in
    Each-weaker (λ p. In p ps) (Clear q) (λ p h. apart (left + 0) (left + length row) ps p q (pieces_in_order widths 0 None left row tt (omega arith)) h there) xs within

-- and shares no column with a cell beside them
pub in_beside : (widths : KnownWidths) (left : ℕ) (row : List Look) (xs : List PlacedCell) (q : PlacedCell) →
    (q.column + step_of q.cell.symbol ≤ left) ⊎ (left + length row ≤ q.column) → Each (λ p. In p (pieces left (row_shown widths row))) xs → Each (Clear q) xs
in_beside widths left row xs q away within =
    let ps = pieces left (row_shown widths row) in
    Each-weaker (λ p. In p ps) (Clear q) (λ p h.
    let low = pieces_after left (row_shown widths row) p h in
    let high = (Each-in (IsFit widths (left + length row)) p ps (pieces_fit widths 0 None left row tt) h).wide in
    elim away [ inl before ↦ inr (inr (omega arith)) | inr past ↦ inr (inl (omega arith)) ]) xs within

-- ---- a row is shown

pub in_full_shows : (knows : List ℕ → Bool) (o : Output) (y left : ℕ) (row : List Look) (t : Tty) → KnowsWidths o.widths knows → t.whole ≡ true → t.modes_reset ≡ true → y < t.height →
    left + length row ≤ t.columns →
    ShowsRow o knows ((run knows (send o y nothing_known (in_full o.widths left (row_shown o.widths row))) t).cells y) (pieces left (row_shown o.widths row))
in_full_shows knows o y left row t knows_widths whole modes_reset high le p has sure =
    let seen = row_shown o.widths row in
    let ps = pieces left seen in
    let all = in_full o.widths left seen in
    let rs = sent o.widths UncertainWidth left seen seen in
    let ts = sent o.widths KnownWidth left seen seen in
    let rs_in : Each (λ p. In p ps) rs = wanted_in o.widths UncertainWidth left seen seen in
    let ts_in : Each (λ p. In p ps) ts = wanted_in o.widths KnownWidth left seen seen in
    let there = In-from p ps has in
    elim sure [
      | inl is ↦
          let u : Tty = run knows (send o y nothing_known rs) t in
          let first : AreSent knows o y nothing_known rs t u =
          all_sent knows o y nothing_known rs t knows_widths whole modes_reset high (in_fit o.widths left t.columns row rs le rs_in) (nowhere_at o y t) in
          let tall = first.same.height in
          let wide = first.same.columns in
          let high_then : y < u.height = omega (arith, tall) in
          let le_then : left + length row ≤ u.columns = omega (arith, wide) in
          let second = all_sent knows o y (at_after o.widths nothing_known rs) ts u knows_widths (first.same.whole ∙ whole) (first.same.modes_reset ∙ modes_reset) high_then
          (in_fit o.widths left u.columns row ts le_then ts_in) first.known_at in
          let known : Each (Knows knows) ts = Each-weaker (λ q. has_known_width o.widths q.cell.symbol ≡ true) (Knows knows) (λ q h. knows_widths q.cell.symbol h) ts (known_width_are o.widths left seen) in
          let shows_cell = second.shows_cell p (in_clear o.widths left row ts p there ts_in) known (inr (sent_always o.widths KnownWidth left seen seen p refl (λ shown. is) there)) in
          subst (λ (v : Tty). ShowsCell o.depth (v.cells y) p) (sym (send_append knows o y nothing_known rs ts t)) shows_cell
      | inr every ↦
          let within = in_full_in o.widths left seen in
          let done = all_sent knows o y nothing_known all t knows_widths whole modes_reset high (in_fit o.widths left t.columns row all le within) (nowhere_at o y t) in
          let known : Each (Knows knows) all = Each-weaker (λ q. In q ps) (Knows knows) (λ q h. every q (In-to q ps h)) all within in
          done.shows_cell p (in_clear o.widths left row all p there within) known (inr (in_full_has o.widths left seen p there))
    ]

pub calm_known_width : (widths : KnownWidths) (left : ℕ) (old new : Row) → is_calm widths left old new ≡ true → Each (λ p. has_known_width widths p.cell.symbol ≡ true) (changes widths left old new)
unfolding is_calm
calm_known_width widths left old new calm = Each-list_all (λ p. has_known_width widths p.cell.symbol) (changes widths left old new) calm

pub changes_show : (knows : List ℕ → Bool) (o : Output) (y left : ℕ) (old new : List Look) (t : Tty) → KnowsWidths o.widths knows → t.whole ≡ true → t.modes_reset ≡ true → y < t.height →
    left + length new ≤ t.columns → length (row_shown o.widths old) ≡ length (row_shown o.widths new) →
    is_calm o.widths left (row_shown o.widths old) (row_shown o.widths new) ≡ true → is_calm o.widths left (row_shown o.widths new) (row_shown o.widths old) ≡ true →
    ShowsRow o knows (t.cells y) (pieces left (row_shown o.widths old)) →
    ShowsRow o knows ((run knows (send o y nothing_known (changes o.widths left (row_shown o.widths old) (row_shown o.widths new))) t).cells y) (pieces left (row_shown o.widths new))
changes_show knows o y left old new t knows_widths whole modes_reset high le len come go was p has sure =
    let seen = row_shown o.widths new in
    let saw = row_shown o.widths old in
    let ps = pieces left seen in
    let qs = pieces left saw in
    let cs = changes o.widths left saw seen in
    let cs_in = changes_in o.widths left saw seen in
    let all = all_sent knows o y nothing_known cs t knows_widths whole modes_reset high (in_fit o.widths left t.columns new cs le cs_in) (nowhere_at o y t) in
    let known : Each (Knows knows) cs = Each-weaker (λ q. has_known_width o.widths q.cell.symbol ≡ true) (Knows knows) (λ q h. knows_widths q.cell.symbol h) cs (calm_known_width o.widths left saw seen come) in
    let there = In-from p ps has in
    let sure_old : (has_known_width o.widths p.cell.symbol ≡ true) ⊎ KnowsAll knows qs = elim sure [
      | inl is ↦ inl is
      | inr every ↦ inr (λ q had. elim (changed_or_shown o.widths left seen saw q (sym len) (In-from q qs had)) [
        | inl gone ↦ knows_widths q.cell.symbol (Each-in (λ k. has_known_width o.widths k.cell.symbol ≡ true) q (changes o.widths left seen saw) (calm_known_width o.widths left seen saw go) gone)
        | inr still ↦ every q (In-to q ps still)
      ])
    ] in
    elim (changed_or_shown o.widths left saw seen p len there) [
      | inl changed ↦ all.shows_cell p (in_clear o.widths left new cs p there cs_in) known (inr changed)
      | inr shown ↦ all.shows_cell p (in_clear o.widths left new cs p there cs_in) known (inl (was p (In-to p qs shown) sure_old))
    ]

pub row_shows : (knows : List ℕ → Bool) (o : Output) (y left : ℕ) (old new : List Look) (t : Tty) → KnowsWidths o.widths knows → t.whole ≡ true → t.modes_reset ≡ true → y < t.height →
    left + length new ≤ t.columns → length (row_shown o.widths old) ≡ length (row_shown o.widths new) → ShowsRow o knows (t.cells y) (pieces left (row_shown o.widths old)) →
    ShowsRow o knows ((run knows (send o y nothing_known (row_sent o.widths left (row_shown o.widths old) (row_shown o.widths new))) t).cells y) (pieces left (row_shown o.widths new))
row_shows knows o y left old new t knows_widths whole modes_reset high le len was =
    let seen = row_shown o.widths new in
    let saw = row_shown o.widths old in
    let Goal : List PlacedCell → Type 0 = λ ps. ShowsRow o knows ((run knows (send o y nothing_known ps) t).cells y) (pieces left seen) in
    elim (cases_Bool (is_calm o.widths left saw seen && is_calm o.widths left seen saw)) [
      | inl calm ↦
          let both = and_parts (is_calm o.widths left saw seen) (is_calm o.widths left seen saw) calm in
          subst Goal (sym (cond-true _ (changes o.widths left saw seen) (in_full o.widths left seen) calm))
          (changes_show knows o y left old new t knows_widths whole modes_reset high le len both.0 both.1 was)
      | inr not_calm ↦
          subst Goal (sym (cond-false _ (changes o.widths left saw seen) (in_full o.widths left seen) not_calm)) (in_full_shows knows o y left new t knows_widths whole modes_reset high le)
    ]

-- ---- what is sent of a row that changes

calm_from : (widths : KnownWidths) (left : ℕ) (old new : Row) → length old ≡ length new →
    ((p : PlacedCell) → IsNew (pieces left old) (pieces left new) p → has_known_width widths p.cell.symbol ≡ true) → is_calm widths left old new ≡ true
unfolding is_calm
calm_from widths left old new len calm =
    let ps = pieces left new in
    let qs = pieces left old in
    let cs = changes widths left old new in
    list_all-Each (λ p. has_known_width widths p.cell.symbol) cs
    (Each-of (λ p. has_known_width widths p.cell.symbol ≡ true) cs (λ p there.
    calm p (In-to p ps (Each-in (λ q. In q ps) p cs (changes_in widths left old new) there), (λ was. is_fresh widths left old new p there (In-from p qs was)))))

pub row_are_sent : (widths : KnownWidths) (left : ℕ) (old new : Row) → length old ≡ length new →
    IsSentOf widths (pieces left old) (pieces left new) (row_sent widths left old new)
row_are_sent widths left old new len =
    let ps = pieces left new in
    let qs = pieces left old in
    let cs = changes widths left old new in
    let all = in_full widths left new in
    let calm : Bool = is_calm widths left old new && is_calm widths left new old in
    let among : (p : PlacedCell) → Contains (row_sent widths left old new) p → Contains ps p = λ p has.
    In-to p ps (Each-in (λ q. In q ps) p (row_sent widths left old new) (row_in widths left old new) (In-from p (row_sent widths left old new) has)) in
    record {
      among = among;
      fresh = λ both p has.
          let come = calm_from widths left old new len (λ q is. both q (inl is)) in
          let go = calm_from widths left new old (sym len) (λ q is. both q (inr is)) in
          let is : calm ≡ true = and_from (is_calm widths left old new) (is_calm widths left new old) come go in
          let changed : In p cs = subst (In p) (cond-true calm cs all is) (In-from p (row_sent widths left old new) has) in
          (among p has, (λ was. is_fresh widths left old new p changed (In-from p qs was)));
      each = λ p is.
          let there = In-from p ps is.0 in
          elim (cases_Bool calm) [
            | inl on ↦ elim (changed_or_shown widths left old new p len there) [
              | inl changed ↦ In-to p (row_sent widths left old new) (subst (In p) (sym (cond-true calm cs all on)) changed)
              | inr was ↦ absurd (is.1 (In-to p qs was))
            ]
            | inr off ↦ In-to p (row_sent widths left old new) (subst (In p) (sym (cond-false calm cs all off)) (in_full_has widths left new p there))
          ];
      once = elim (cases_Bool calm) [
        | inl on ↦ subst AreOnce (sym (cond-true calm cs all on)) (sent_once widths Changed left old new)
        | inr off ↦ subst AreOnce (sym (cond-false calm cs all off)) (in_full_once widths left new)
      ];
    }
