-- The rows of a screen one below the other have only one encoding.
use Rattle.std.proofs.Common.{◌≡◌, ℕ, ◌<◌, List, [], ◌∷◌, ◌++◌, length, get_or, flat_map, sym, ap, ◌∙◌, inl, inr, arith}
use Rattle.std.proofs.lemmas.List.{ext_get_or}
use Rattle.tui_text.specs.Visible.{PlacedCell}
use Rattle.tui_terminal_model.specs.declared.depth.Depth.{Depth}
use Rattle.tui_terminal_model.specs.declared.widths.KnownWidths.TheVariants.{Common}
use Rattle.tui_terminal_model.specs.Pens.{attributes_of, pen_of}
use Rattle.tui_terminal_model.specs.Pieces.{row_pieces}
use Rattle.tui_terminal_model.specs.Encoding.{encoding}
use Rattle.tui_terminal_model.specs.Styled.{Becomes, StyledRow}
use Rattle.tui_terminal_model.specs.Terminal.{Command, Pen, print, rest}
use Rattle.tui_terminal_laws.specs.Plain.{StyledRowsAreOne}

becomes_one : (pen next : Pen) (cs ds : List Command) → Becomes pen next cs → Becomes pen next ds → ds ≡ cs
becomes_one pen next cs ds (inl h) (inl k) = k.1 ∙ sym h.1
becomes_one pen next cs ds (inl h) (inr k) = absurd (k.0 h.0)
becomes_one pen next cs ds (inr h) (inl k) = absurd (h.0 k.0)
becomes_one pen next cs ds (inr h) (inr k) = k.1 ∙ sym h.1

row_one : (depth : Depth) (pen : Pen) (ps : List PlacedCell) (cs ds : List Command) → StyledRow depth pen ps cs → StyledRow depth pen ps ds → ds ≡ cs
row_one depth pen [] cs ds h k = becomes_one pen rest cs ds h k
row_one depth pen (p ∷ ps) cs ds h k =
    let next = pen_of depth (attributes_of p.cell) in
    let paints : k.paints ≡ h.paints = becomes_one pen next h.paints k.paints h.becomes k.becomes in
    let more : k.more ≡ h.more = row_one depth next ps h.more k.more h.others_follow k.others_follow in
    k.whole
    ∙ (ap (λ (l : List Command). l ++ print p.cell.symbol ∷ k.more) paints
    ∙ (ap (λ (l : List Command). h.paints ++ print p.cell.symbol ∷ l) more ∙ sym h.whole))

pub styled_one : StyledRowsAreOne
styled_one depth b text other h k =
    let long : length k.rows ≡ length h.rows = k.counted ∙ sym h.counted in
    let row : (y : ℕ) → y < length k.rows → get_or k.rows y [] ≡ get_or h.rows y [] = λ y lt.
    let within : y < length b.rows = omega (arith, lt, k.counted) in
    row_one depth rest (row_pieces Common b y) (get_or h.rows y []) (get_or k.rows y []) (h.each y within) (k.each y within) in
    let rows : k.rows ≡ h.rows = ext_get_or [] k.rows h.rows long row in
    k.encoded ∙ (ap (flat_map (λ (cs : List Command). flat_map encoding cs ++ 10 ∷ [])) rows ∙ sym h.encoded)
