-- Along the cells of such a row.
use Rattle.std.proofs.Common.{◌≡◌, ℕ, ◌+◌, ◌<◌, ◌≤◌, true, not, List, [], ◌∷◌, ◌++◌, length, get_or, drop, flat_map, refl, sym, ap, ◌∙◌, append_assoc, arith}
use Rattle.std.specs.Prelude.{Option, Some}
use Rattle.std.specs.List.{list_all}
use Rattle.std.proofs.lemmas.List.{append-nil, drop_all}
use Rattle.std.proofs.lemmas.Bool.{cond-true}
use Rattle.tui_cells.specs.Cell.{Look}
use Rattle.tui_text.specs.Visible.{PlacedCell}
use Rattle.tui_terminal_model.specs.declared.output.Output.{Output}
use Rattle.tui_terminal_model.specs.declared.widths.KnownWidths.{KnownWidths}
use Rattle.tui_terminal_model.specs.Encoding.{encoding}
use Rattle.tui_terminal_laws.specs.declared.wanted.Wanted.{Wanted}
use Rattle.tui_terminal_laws.specs.declared.wanted.Wanted.TheVariants.{Changed, KnownWidth}
use Rattle.tui_terminal_laws.specs.Sending.{nothing_known, row_in_full, send}
use Rattle.tui_terminal_laws.specs.Sent.{changes, is_same, is_shown, row_shown, sent, sent_here}
use Rattle.tui_terminal.specs.Narrow.{is_narrow}
use Rattle.tui_terminal.specs.Sent.{placed_if}
use Rattle.tui_terminal.proofs.NarrowLooks.{narrow_known_width}
use Rattle.tui_terminal.proofs.NarrowRows.{map_some, narrow_sends, narrow_shown}
use Rattle.tui_terminal.proofs.Walking.{dropped}

-- one more cell
pub narrow_more : (widths : KnownWidths) (w : Wanted) (left i : ℕ) (olds news : List Look) (o n : Look) (here done whole : List PlacedCell) →
    i < length news → length olds ≡ length news → o ≡ get_or olds i o → n ≡ get_or news i n → here ≡ sent_here widths w (left + i) (Some o) n →
    done ++ sent widths w (left + i) (map_some (drop i olds)) (map_some (drop i news)) ≡ whole →
    (done ++ here) ++ sent widths w (left + (i + 1)) (map_some (drop (i + 1) olds)) (map_some (drop (i + 1) news)) ≡ whole
unfolding sent map_some
narrow_more widths w left i olds news o n here done whole lt len eo en eh before =
    let lt_old : i < length olds = omega arith in
    let os = map_some (drop (i + 1) olds) in
    let ns = map_some (drop (i + 1) news) in
    let more = sent widths w (left + (i + 1)) os ns in
    let column : left + i + 1 ≡ left + (i + 1) = omega arith in
    let first = dropped olds i o lt_old eo in
    let second = dropped news i n lt en in
    append_assoc done here more
    ∙ (ap (λ (ps : List PlacedCell). done ++ (ps ++ more)) eh
    ∙ (ap (λ k. done ++ (sent_here widths w (left + i) (Some o) n ++ sent widths w k os ns)) (sym column)
    ∙ (sym (λ j. done ++ sent widths w (left + i) (map_some (first j)) (map_some (second j))) ∙ before)))

none_left : (widths : KnownWidths) (w : Wanted) (column : ℕ) (os : List (Option Look)) → sent widths w column os [] ≡ []
unfolding sent
none_left widths w column [] = refl
none_left widths w column (o ∷ os) = refl

pub narrow_done : (widths : KnownWidths) (w : Wanted) (left i : ℕ) (olds news : List Look) (done whole : List PlacedCell) → length news ≤ i →
    done ++ sent widths w (left + i) (map_some (drop i olds)) (map_some (drop i news)) ≡ whole → done ≡ whole
unfolding map_some
narrow_done widths w left i olds news done whole le before =
    sym (append-nil done)
    ∙ (ap (λ (ps : List PlacedCell). done ++ ps)
    (sym (ap (λ (ns : List Look). sent widths w (left + i) (map_some (drop i olds)) (map_some ns)) (drop_all i news le) ∙ none_left widths w (left + i) (map_some (drop i olds))))
    ∙ before)

pub narrow_begin : (widths : KnownWidths) (w : Wanted) (left : ℕ) (olds news : List Look) →
    sent widths w (left + 0) (map_some olds) (map_some news) ≡ sent widths w left (map_some olds) (map_some news)
narrow_begin widths w left olds news = let column : left + 0 ≡ left = omega arith in ap (λ k. sent widths w k (map_some olds) (map_some news)) column

-- what is sent of a cell
pub new_here : (widths : KnownWidths) (column : ℕ) (o n : Look) (wanted : _) → wanted ≡ not (is_same o n) → placed_if wanted column n ≡ sent_here widths Changed column (Some o) n
unfolding is_shown
new_here widths column o n wanted e = ap (λ b. placed_if b column n) e

pub all_here : (widths : KnownWidths) (column : ℕ) (c : Look) → is_narrow widths c.symbol ≡ true → placed_if true column c ≡ sent_here widths KnownWidth column (Some c) c
all_here widths column c e = sym (cond-true _ (record { column = column; cell = c } ∷ []) [] (narrow_known_width widths c.symbol e))

-- what is sent of a row
pub narrow_changes : (o : Output) (y left : ℕ) (olds news : List Look) (done : List PlacedCell) → list_all (λ k. is_narrow o.widths k.symbol) olds ≡ true →
    list_all (λ k. is_narrow o.widths k.symbol) news ≡ true → done ≡ sent o.widths Changed left (map_some olds) (map_some news) →
    flat_map encoding (send o y nothing_known done) ≡ flat_map encoding (send o y nothing_known (changes o.widths left (row_shown o.widths olds) (row_shown o.widths news)))
narrow_changes o y left olds news done eo en e =
    let first = narrow_shown o.widths olds eo in
    let second = narrow_shown o.widths news en in
    ap (λ (ps : List PlacedCell). flat_map encoding (send o y nothing_known ps)) (e ∙ sym (λ j. sent o.widths Changed left (first j) (second j)))

pub narrow_row : (o : Output) (y left : ℕ) (row : List Look) (done : List PlacedCell) → list_all (λ k. is_narrow o.widths k.symbol) row ≡ true →
    done ≡ sent o.widths KnownWidth left (map_some row) (map_some row) →
    flat_map encoding (send o y nothing_known done) ≡ flat_map encoding (send o y nothing_known (row_in_full o.widths left row))
narrow_row o y left row done er e =
    let is = narrow_shown o.widths row er in
    let all = sent o.widths KnownWidth left (row_shown o.widths row) (row_shown o.widths row) in
    let known_width : done ≡ all = e ∙ sym (λ j. sent o.widths KnownWidth left (is j) (is j)) in
    ap (λ (ps : List PlacedCell). flat_map encoding (send o y nothing_known ps)) (known_width ∙ ap (λ (ps : List PlacedCell). ps ++ all) (narrow_sends o.widths left row er))
