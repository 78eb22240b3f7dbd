-- Rows one below the other hold no control character except those that set pens.
use Rattle.std.proofs.Common.{ℕ, ◌+◌, List, [], ◌∷◌, length, get_or, sym, subst, inl, inr}
use Rattle.std.specs.Prelude.{None}
use Rattle.tui_cells.specs.declared.color.Color.{Color}
use Rattle.tui_cells.specs.declared.color.Color.TheVariants.{Reset}
use Rattle.tui_text.specs.Visible.{PlacedCell}
use Rattle.tui_terminal_model.specs.declared.depth.Depth.{Depth}
use Rattle.tui_terminal_model.specs.declared.widths.KnownWidths.TheVariants.{Common}
use Rattle.tui_terminal_model.specs.Colours.{color_at}
use Rattle.tui_terminal_model.specs.Pens.{attributes_of, pen_of}
use Rattle.tui_terminal_model.specs.Pieces.{row_pieces}
use Rattle.tui_terminal_model.specs.Sends.{IsSafe}
use Rattle.tui_terminal_model.specs.Styled.{Becomes, StyledRow}
use Rattle.tui_terminal_model.specs.Terminal.{Command, Pen, print, rest}
use Rattle.tui_terminal_laws.specs.Plain.{StyledRowsAreSafe}
use Rattle.tui_terminal_laws.proofs.Frames.{pen_safe}
use Rattle.tui_terminal_laws.proofs.Lists.{Each, Each-all, Each-append, Each-weaker}
use Rattle.tui_terminal_laws.proofs.Pen.{pen_from}
use Rattle.tui_terminal_laws.proofs.Walks.{IsFit, pieces_fit}

abbrev IsSafePrint : PlacedCell → Type 0
IsSafePrint p = IsSafe (print p.cell.symbol)

becomes_safe : (pen : Pen) (f b : Color) (m : ℕ) (cs : List Command) → Becomes pen (pen_from f b m) cs → Each IsSafe cs
becomes_safe pen f b m cs (inl h) = subst (Each IsSafe) (sym h.1) tt
becomes_safe pen f b m cs (inr h) = subst (Each IsSafe) (sym h.1) (pen_safe f b m)

row_safe : (depth : Depth) (pen : Pen) (ps : List PlacedCell) (cs : List Command) → Each IsSafePrint ps → StyledRow depth pen ps cs → Each IsSafe cs
row_safe depth pen [] cs quiet h = becomes_safe pen Reset Reset 0 cs h
row_safe depth pen (p ∷ ps) cs quiet h =
    let a = attributes_of p.cell in
    subst (Each IsSafe) (sym h.whole)
    (Each-append IsSafe h.paints (print p.cell.symbol ∷ h.more)
    (becomes_safe pen (color_at depth a.fg) (color_at depth a.bg) a.modifier.bits h.paints h.becomes)
    (quiet.0, row_safe depth (pen_of depth a) ps h.more quiet.1 h.others_follow))

pub styled_safe : StyledRowsAreSafe
styled_safe depth b text k y lt =
    let row = get_or b.rows y [] in
    let fit = pieces_fit Common 0 None b.area.x row tt in
    let quiet = Each-weaker (IsFit Common (b.area.x + length row)) IsSafePrint (λ p h. (h.some, h.quiet)) (row_pieces Common b y) fit in
    Each-all IsSafe (get_or k.rows y []) (row_safe depth rest (row_pieces Common b y) (get_or k.rows y []) quiet (k.each y lt))
