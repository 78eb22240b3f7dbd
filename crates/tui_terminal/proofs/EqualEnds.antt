-- Rows that begin with such symbols and end with equal cells.
use Rattle.std.proofs.Common.{◌≡◌, ℕ, ◌+◌, min, Bool, true, ◌&&◌, List, [], ◌∷◌, ◌++◌, length, drop, take, refl, sym, ap, ◌∙◌, arith}
use Rattle.std.specs.Prelude.{Option, Some}
use Rattle.std.specs.List.{list_all}
use Rattle.std.proofs.lemmas.Bool.{and_parts, cond-true}
use Rattle.std.proofs.lemmas.List.{length-take, take-append-drop}
use Rattle.tui_cells.specs.Cell.{Look}
use Rattle.tui_text.specs.Visible.{PlacedCell}
use Rattle.tui_terminal_model.specs.declared.widths.KnownWidths.{KnownWidths}
use Rattle.tui_terminal_model.specs.Pieces.{next_cover, shown, shown_row, uncovered}
use Rattle.tui_terminal_model.specs.Symbols.{has_known_width}
use Rattle.tui_terminal_laws.specs.declared.wanted.Wanted.TheVariants.{Changed}
use Rattle.tui_terminal_laws.specs.Sending.{row_changes}
use Rattle.tui_terminal_laws.specs.Sent.{in_full, changes, is_calm, row_sent, row_shown, sent, sent_here}
use Rattle.tui_terminal.specs.Narrow.{is_narrow}
use Rattle.tui_terminal.proofs.NarrowLooks.{narrow_next, narrow_seen}
use Rattle.tui_terminal.proofs.NarrowRows.{calm_new, map_some, narrow_shown}
use Rattle.tui_terminal.proofs.SameRows.{none_new}

abbrev narrow : KnownWidths → List Look → Bool
narrow widths row = list_all (λ (c : Look). is_narrow widths c.symbol) row

-- the first cells show as they are, and the cells after them show like a row of their own
front_shown : (widths : KnownWidths) (front rest : List Look) → narrow widths front ≡ true →
    shown_row widths uncovered (front ++ rest) ≡ map_some front ++ shown_row widths uncovered rest
unfolding shown_row map_some
front_shown widths [] rest e = refl
front_shown widths (c ∷ cs) rest e =
    let both = and_parts (is_narrow widths c.symbol) (narrow widths cs) e in
    let room = 1 + length (cs ++ rest) in
    let here : shown widths uncovered room c ≡ Some c = narrow_seen widths room c (omega arith) both.0 in
    let next : next_cover widths uncovered room c ≡ uncovered = narrow_next widths room c (omega arith) both.0 in
    (λ j. here j ∷ shown_row widths (next j) (cs ++ rest)) ∙ ap (λ (os : List (Option Look)). Some c ∷ os) (front_shown widths cs rest both.1)

-- none of the equal cells after them is sent
front_sent : (widths : KnownWidths) (column : ℕ) (olds news : List Look) (rest : List (Option Look)) → length olds ≡ length news →
    sent widths Changed column (map_some olds ++ rest) (map_some news ++ rest) ≡ sent widths Changed column (map_some olds) (map_some news)
unfolding sent map_some
front_sent widths column [] [] rest len = none_new widths column rest
front_sent widths column [] (n ∷ ns) rest len = absurd (omega (arith, len))
front_sent widths column (o ∷ os) [] rest len = absurd (omega (arith, len))
front_sent widths column (o ∷ os) (n ∷ ns) rest len =
    ap (λ (ps : List PlacedCell). sent_here widths Changed column (Some o) n ++ ps) (front_sent widths (column + 1) os ns rest (omega (arith, len)))

front_calm : (widths : KnownWidths) (left : ℕ) (olds news : List Look) (rest : List (Option Look)) → length olds ≡ length news → narrow widths news ≡ true →
    is_calm widths left (map_some olds ++ rest) (map_some news ++ rest) ≡ true
unfolding is_calm
front_calm widths left olds news rest len e =
    ap (list_all (λ (p : PlacedCell). has_known_width widths p.cell.symbol)) (front_sent widths left olds news rest len) ∙ calm_new widths left (map_some olds) news e

front_row : (widths : KnownWidths) (left : ℕ) (olds news rest : List Look) → length olds ≡ length news → narrow widths olds ≡ true → narrow widths news ≡ true →
    changes widths left (row_shown widths olds) (row_shown widths news) ≡ row_changes widths left (olds ++ rest) (news ++ rest)
front_row widths left olds news rest len eo en =
    let following = shown_row widths uncovered rest in
    let first = front_shown widths olds rest eo in
    let second = front_shown widths news rest en in
    let before = map_some olds ++ following in
    let after = map_some news ++ following in
    let calm = front_calm widths left olds news following len en in
    let back = front_calm widths left news olds following (sym len) eo in
    let is = cond-true (is_calm widths left before after && is_calm widths left after before) (changes widths left before after) (in_full widths left after) (λ j. calm j && back j) in
    (λ j. sent widths Changed left (narrow_shown widths olds eo j) (narrow_shown widths news en j))
    ∙ (sym (front_sent widths left olds news following len)
    ∙ (sym is ∙ sym (λ j. row_sent widths left (first j) (second j))))

-- the first `n` cells determine what is sent of two rows that are equal from there on
pub front_changes : (widths : KnownWidths) (left n : ℕ) (olds news : List Look) → length olds ≡ length news → drop n olds ≡ drop n news →
    narrow widths (take n olds) ≡ true → narrow widths (take n news) ≡ true →
    changes widths left (row_shown widths (take n olds)) (row_shown widths (take n news)) ≡ row_changes widths left olds news
front_changes widths left n olds news len same eo en =
    let long : length (take n olds) ≡ length (take n news) = length-take n olds ∙ (ap (min n) len ∙ sym (length-take n news)) in
    front_row widths left (take n olds) (take n news) (drop n news) long eo en
    ∙ (λ j. row_changes widths left ((ap (λ (r : List Look). take n olds ++ r) (sym same) ∙ take-append-drop n olds) j) (take-append-drop n news j))
