-- Rows that are the same.
use Rattle.std.proofs.Common.{◌≡◌, false, subst, inl, inr, ℕ, ◌+◌, Bool, true, not, ◌&&◌, List, [], ◌∷◌, ◌++◌, cond, flat_map, refl, sym, ap, ◌∙◌}
use Rattle.std.specs.Prelude.{nat_eq, Option, None, Some}
use Rattle.std.specs.Cmp.Lexicographic.{pointwise}
use Rattle.std.specs.List.{list_all}
use Rattle.std.specs.Prelude.{◌↔◌}
use Rattle.std.proofs.lemmas.Bool.{cases_Bool, cond-true, cond-false, true≢false}
use Rattle.tui_cells.specs.Cell.{Look}
use Rattle.tui_cells.specs.contracts.attributes.AttributesPartialEq as attributes
use Rattle.tui_text.specs.Visible.{PlacedCell}
use Rattle.tui_terminal_model.specs.declared.output.Output.{Output}
use Rattle.tui_terminal_model.specs.declared.widths.KnownWidths.{KnownWidths}
use Rattle.tui_terminal_model.specs.Pens.{attributes_of}
use Rattle.tui_terminal_model.specs.Encoding.{encoding}
use Rattle.tui_terminal_model.specs.Symbols.{has_known_width}
use Rattle.tui_terminal_laws.specs.declared.wanted.Wanted.TheVariants.{Changed}
use Rattle.tui_terminal_laws.specs.Sending.{nothing_known, row_changes, send}
use Rattle.tui_terminal_laws.specs.Sent.{in_full, changes, is_calm, is_same, is_shown, row_sent, row_shown, sent}
use Rattle.tui_terminal_laws.proofs.Walks.{own_look, same_look}
use Rattle.tui_terminal.proofs.Walking.{send_none}

-- nothing is sent of a row that shows what it showed before
pub none_new : (widths : KnownWidths) (column : ℕ) (row : List (Option Look)) → sent widths Changed column row row ≡ []
unfolding sent is_shown
none_new widths column [] = refl
none_new widths column (None ∷ cs) = none_new widths (column + 1) cs
none_new widths column (Some c ∷ cs) =
    let here : cond (not (is_shown (Some c) c)) (record { column = column; cell = c } ∷ []) [] ≡ [] = cond-false _ _ [] (ap not (own_look c)) in
    ap (λ (ps : List PlacedCell). ps ++ sent widths Changed (column + 1) cs cs) here ∙ none_new widths (column + 1) cs

calm_self : (widths : KnownWidths) (left : ℕ) (row : List (Option Look)) → is_calm widths left row row ≡ true
unfolding is_calm
calm_self widths left row = ap (list_all (λ p. has_known_width widths p.cell.symbol)) (none_new widths left row)

same_sends : (widths : KnownWidths) (left : ℕ) (row : List (Option Look)) → row_sent widths left row row ≡ []
same_sends widths left row =
    let calm = calm_self widths left row in
    cond-true (is_calm widths left row row && is_calm widths left row row) (changes widths left row row) (in_full widths left row) (λ j. calm j && calm j) ∙ none_new widths left row

pub same_text : (o : Output) (y left : ℕ) (olds news : List Look) → olds ≡ news → [] ≡ flat_map encoding (send o y nothing_known (row_changes o.widths left olds news))
same_text o y left olds news same =
    send_none o y nothing_known
    ∙ ap (λ (ps : List PlacedCell). flat_map encoding (send o y nothing_known ps))
    (sym (ap (λ (r : List Look). row_changes o.widths left r news) same ∙ same_sends o.widths left (row_shown o.widths news)))

-- two cells, as the code compares them
pub same_is : (a b : Look) (same : Bool) → ((same ≡ true) ↔ (a ≡ b)) → same ≡ is_same a b
same_is a b true both = sym (subst (λ (k : Look). is_same a k ≡ true) (both.0 refl) (own_look a))
same_is a b false both = elim (cases_Bool (is_same a b)) [
  | inl on ↦ absurd (true≢false (sym (both.1 (same_look a b on))))
  | inr off ↦ sym off
]

pub other_symbol : (a b : Look) → pointwise nat_eq a.symbol b.symbol ≡ false → is_same a b ≡ false
other_symbol a b e = ap (λ (k : Bool). k && attributes.TheImpl.ghosts.eq (attributes_of a) (attributes_of b)) e
