-- Rows of symbols of known width.
use Rattle.std.proofs.Common.{◌≡◌, ℕ, ◌+◌, ◌-◌, Bool, true, false, not, ◌&&◌, ◌==◌, List, [], ◌∷◌, length, cond, refl, sym, ◌∙◌}
use Rattle.std.specs.Prelude.{Option, None, Some}
use Rattle.std.specs.List.{list_all}
use Rattle.std.proofs.lemmas.Bool.{and_from, and_parts}
use Rattle.tui_cells.specs.Cell.{Look}
use Rattle.tui_text.specs.Visible.{PlacedCell}
use Rattle.tui_terminal_model.specs.declared.widths.KnownWidths.{KnownWidths}
use Rattle.tui_terminal_model.specs.Pieces.{Cover, blanked, covered, next_cover, seen, shown, shown_row, uncovered}
use Rattle.tui_terminal_model.specs.Symbols.{is_sendable, has_known_width}
use Rattle.tui_terminal_laws.specs.declared.wanted.Wanted.TheVariants.{Changed}
use Rattle.tui_terminal_laws.specs.Sent.{is_calm, is_shown, row_shown, sent, sent_here}
use Rattle.tui_terminal_laws.proofs.Seen.{blank_known_width}
use Rattle.tui_terminal.specs.Sent.{is_calm_both}
use Rattle.tui_terminal.proofs.Walking.{all_append}

abbrev sure : KnownWidths → List Look → Bool
sure widths row = list_all (λ c. has_known_width widths c.symbol) row

-- ---- what shows

-- the symbol that shows, if there is one, has a known width
abbrev IsSure : KnownWidths → Option Look → Type 0
IsSure widths None = Unit {0}
IsSure widths (Some c) = has_known_width widths c.symbol ≡ true

abbrev AreSure : KnownWidths → List (Option Look) → Type 0
AreSure widths [] = Unit {0}
AreSure widths (o ∷ os) = IsSure widths o × AreSure widths os

seen_sure : (widths : KnownWidths) (b : Bool) (c : Look) → has_known_width widths c.symbol ≡ true → has_known_width widths (cond b c (blanked c)).symbol ≡ true
seen_sure widths true c e = e
seen_sure widths false c e = blank_known_width widths

shown_sure : (widths : KnownWidths) (b : Bool) (c : Look) (blank : Option Look) → has_known_width widths c.symbol ≡ true → IsSure widths blank → IsSure widths (cond b (Some c) blank)
shown_sure widths true c blank e is = e
shown_sure widths false c blank e is = is

reached_sure : (widths : KnownWidths) (b : Bool) (c : Look) → IsSure widths (cond b None (Some (blanked c)))
reached_sure widths true c = tt
reached_sure widths false c = blank_known_width widths

cover_sure : (widths : KnownWidths) (b : Bool) (x y : Cover) → IsSure widths x.blank → IsSure widths y.blank → IsSure widths (cond b x y).blank
cover_sure widths true x y a b = a
cover_sure widths false x y a b = b

row_sure : (widths : KnownWidths) (cover : Cover) (row : List Look) → IsSure widths cover.blank → sure widths row ≡ true → AreSure widths (shown_row widths cover row)
unfolding shown_row shown next_cover covered seen
row_sure widths cover [] is e = tt
row_sure widths cover (c ∷ cs) is e =
    let both = and_parts (has_known_width widths c.symbol) (sure widths cs) e in
    let room = 1 + length cs in
    let sendable = is_sendable widths room c.symbol in (
      shown_sure widths (cover.left == 0) (cond sendable c (blanked c)) cover.blank (seen_sure widths sendable c both.0) is,
      row_sure widths (next_cover widths cover room c) cs (cover_sure widths (cover.left == 0) (covered widths room c) (record cover { left = cover.left - 1 }) (reached_sure widths sendable c) is) both.1,
    )

-- ---- no symbol of uncertain width appears or disappears

here_sure : (widths : KnownWidths) (wanted : Bool) (column : ℕ) (c : Look) → has_known_width widths c.symbol ≡ true →
    list_all (λ (p : PlacedCell). has_known_width widths p.cell.symbol) (cond wanted (record { column = column; cell = c } ∷ []) []) ≡ true
here_sure widths true column c e = and_from (has_known_width widths c.symbol) true e refl
here_sure widths false column c e = refl

sent_sure : (widths : KnownWidths) (left : ℕ) (olds news : List (Option Look)) → AreSure widths news →
    list_all (λ (p : PlacedCell). has_known_width widths p.cell.symbol) (sent widths Changed left olds news) ≡ true
unfolding sent
sent_sure widths left [] news are = refl
sent_sure widths left (o ∷ os) [] are = refl
sent_sure widths left (o ∷ os) (None ∷ ns) are = sent_sure widths (left + 1) os ns are.1
sent_sure widths left (o ∷ os) (Some n ∷ ns) are =
    all_append widths (sent_here widths Changed left o n) (sent widths Changed (left + 1) os ns)
    ∙ and_from (list_all (λ p. has_known_width widths p.cell.symbol) (sent_here widths Changed left o n)) _ (here_sure widths (not (is_shown o n)) left n are.0) (sent_sure widths (left + 1) os ns are.1)

calm_sure : (widths : KnownWidths) (left : ℕ) (old new : List Look) → sure widths new ≡ true → is_calm widths left (row_shown widths old) (row_shown widths new) ≡ true
unfolding is_calm
calm_sure widths left old new e = sent_sure widths left (row_shown widths old) (row_shown widths new) (row_sure widths uncovered new tt e)

pub known_width_calm : (widths : KnownWidths) (left : ℕ) (old new : List Look) →
    (list_all (λ c. has_known_width widths c.symbol) old && list_all (λ c. has_known_width widths c.symbol) new) ≡ true → true ≡ is_calm_both widths left old new
known_width_calm widths left old new e =
    let both = and_parts (sure widths old) (sure widths new) e in
    sym (and_from _ _ (calm_sure widths left old new both.1) (calm_sure widths left new old both.0))
