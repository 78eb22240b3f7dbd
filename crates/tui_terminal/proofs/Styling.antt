-- The cells of a row, one after another, and the rows of a screen.
use Rattle.std.proofs.Common.{◌≡◌, Bool, true, false, not, ◌&&◌, ◌||◌, ap₂, ℕ, suc, ◌+◌, ◌-◌, ◌<◌, ◌≤◌, List, [], ◌∷◌, ◌++◌, length, get_or, drop, slice_index_or, flat_map, Option, Some, None, refl, sym, ap, subst, ◌∙◌, append_assoc, add-one, length-append, drop-cons, length-drop, inl, inr, arith}
use Rattle.std.proofs.Math.ListN.{drop_of_length-le}
use Rattle.std.proofs.Math.Seq.{get_or-append_seam}
use Rattle.std.proofs.lemmas.List.{get_or_append_left}
use Rattle.std.proofs.lemmas.Bool.{and_from, and_parts, cases_lt, true≢false}
use Rattle.tui_cells.specs.Attributes.{look_of}
use Rattle.tui_cells.specs.Buffer.{Screen}
use Rattle.tui_cells.specs.Cell.{Look, blank, space}
use Rattle.tui_cells.specs.Same.{attributes_self, same_color}
use Rattle.tui_cells.specs.contracts.color.ColorPartialEq as color
use Rattle.tui_cells.specs.declared.attributes.Attributes.{Attributes}
use Rattle.tui_cells.specs.declared.color.Color.{Color}
use Rattle.tui_cells.specs.declared.color.Color.TheVariants.{Reset}
use Rattle.tui_terminal_model.specs.declared.depth.Depth.{Depth}
use Rattle.tui_terminal_model.specs.declared.depth.Depth.TheVariants as depths
use Rattle.tui_terminal_model.specs.declared.widths.KnownWidths.TheVariants.{Common}
use Rattle.tui_terminal_model.specs.Colours.{color_at, palette_color, sixteen_color}
use Rattle.tui_terminal_model.specs.Pens.{attributes_of, marks_of, marks_stay, pen_of}
use Rattle.tui_terminal_model.specs.Pieces.{Cover, next_cover, pieces, row_pieces, shown, shown_row, uncovered}
use Rattle.tui_terminal_model.specs.Encoding.{encoding}
use Rattle.tui_terminal_model.specs.Styled.{AreStyledRows, Becomes, StyledRow}
use Rattle.tui_terminal_model.specs.Terminal.{Command, Pen, print, rest}
use Rattle.tui_terminal.specs.Adding.{sent_pen}
use Rattle.tui_terminal.specs.StyledCells.{AreFirst, StyledCell, has_same_marks, is_sent_same, styled_line}
use Rattle.tui_terminal.proofs.Texts.{more_text, one_text}

-- ---- pens

reset_stays : (depth : Depth) → color_at depth Reset ≡ Reset
unfolding color_at palette_color sixteen_color
reset_stays depths.None = refl
reset_stays depths.Sixteen = refl
reset_stays depths.Palette = refl
reset_stays depths.True = refl

pen_with : (fg bg : Color) (bits : ℕ) → Pen
pen_with fg bg bits = record { fg = fg; bg = bg; marks = marks_of bits }

-- a blank cell is drawn by the default pen
pub rest_pen : (depth : Depth) (a : Attributes) → look_of space a ≡ blank → pen_of depth a ≡ rest
rest_pen depth a is =
    let fg = ap (λ (c : Look). color_at depth c.fg) is ∙ reset_stays depth in
    let bg = ap (λ (c : Look). color_at depth c.bg) is ∙ reset_stays depth in
    let marks = ap (λ (c : Look). marks_of c.modifier) is in
    λ i. record { fg = fg i; bg = bg i; marks = marks i }

-- colours and modifiers, as they are sent, determine the pen
abbrev pub at_depth : Depth → Attributes → Attributes
at_depth depth a = record { fg = color_at depth a.fg; bg = color_at depth a.bg; modifier = a.modifier }

mark_same : (a b : Bool) → (not a || b) ≡ true → (not b || a) ≡ true → a ≡ b
mark_same true true e f = refl
mark_same true false e f = absurd (true≢false (sym e))
mark_same false true e f = absurd (true≢false (sym f))
mark_same false false e f = refl

marks_same : (ms ns : List Bool) → length ms ≡ length ns → marks_stay ms ns ≡ true → marks_stay ns ms ≡ true → ms ≡ ns
marks_same [] [] long e f = refl
marks_same [] (n ∷ ns) long e f = absurd (omega (arith, long))
marks_same (m ∷ ms) [] long e f = absurd (omega (arith, long))
marks_same (m ∷ ms) (n ∷ ns) long e f =
    let there = and_parts (not m || n) (marks_stay ms ns) e in
    let back = and_parts (not n || m) (marks_stay ns ms) f in
    ap₂ (λ (k : Bool) (ks : List Bool). k ∷ ks) (mark_same m n there.0 back.0) (marks_same ms ns (omega (arith, long)) there.1 back.1)

mark_stays : (m : Bool) → (not m || m) ≡ true
mark_stays true = refl
mark_stays false = refl

marks_stay_same : (ms : List Bool) → marks_stay ms ms ≡ true
marks_stay_same [] = refl
marks_stay_same (m ∷ ms) = and_from (not m || m) (marks_stay ms ms) (mark_stays m) (marks_stay_same ms)

own_color : (c : Color) → color.TheImpl.ghosts.eq c c ≡ true
own_color c = (and_parts (color.TheImpl.ghosts.eq c c) _ (attributes_self (record { fg = c; bg = c; modifier = record { bits = 0 } }))).0

same_sent : (a b : Attributes) → is_sent_same a b ≡ true → sent_pen a ≡ sent_pen b
same_sent a b e =
    let colors = color.TheImpl.ghosts.eq a.fg b.fg && color.TheImpl.ghosts.eq a.bg b.bg in
    let first = and_parts colors (has_same_marks a b) e in
    let second = and_parts (color.TheImpl.ghosts.eq a.fg b.fg) (color.TheImpl.ghosts.eq a.bg b.bg) first.0 in
    let third = and_parts (marks_stay (marks_of a.modifier.bits) (marks_of b.modifier.bits))
    (marks_stay (marks_of b.modifier.bits) (marks_of a.modifier.bits)) first.1 in
    let fg = same_color a.fg b.fg second.0 in
    let bg = same_color a.bg b.bg second.1 in
    let marks = marks_same (marks_of a.modifier.bits) (marks_of b.modifier.bits) refl third.0 third.1 in
    λ i. record { fg = fg i; bg = bg i; marks = marks i }

sent_same : (a b : Attributes) → sent_pen a ≡ sent_pen b → is_sent_same a b ≡ true
sent_same a b e =
    let marks : marks_of a.modifier.bits ≡ marks_of b.modifier.bits = ap (λ (p : Pen). p.marks) e in
    let fg = subst (λ (c : Color). color.TheImpl.ghosts.eq a.fg c ≡ true) (ap (λ (p : Pen). p.fg) e) (own_color a.fg) in
    let bg = subst (λ (c : Color). color.TheImpl.ghosts.eq a.bg c ≡ true) (ap (λ (p : Pen). p.bg) e) (own_color a.bg) in
    let there = subst (λ (ms : List Bool). marks_stay (marks_of a.modifier.bits) ms ≡ true) marks (marks_stay_same (marks_of a.modifier.bits)) in
    let back = subst (λ (ms : List Bool). marks_stay ms (marks_of a.modifier.bits) ≡ true) marks (marks_stay_same (marks_of a.modifier.bits)) in
    and_from (color.TheImpl.ghosts.eq a.fg b.fg && color.TheImpl.ghosts.eq a.bg b.bg) (has_same_marks a b)
    (and_from (color.TheImpl.ghosts.eq a.fg b.fg) (color.TheImpl.ghosts.eq a.bg b.bg) fg bg)
    (and_from (marks_stay (marks_of a.modifier.bits) (marks_of b.modifier.bits)) (marks_stay (marks_of b.modifier.bits) (marks_of a.modifier.bits)) there back)

-- two attributes set the same pen at a depth exactly if they are sent alike
pub one_pen : (depth : Depth) (a b : Attributes) → is_sent_same (at_depth depth a) (at_depth depth b) ≡ true → pen_of depth a ≡ pen_of depth b
one_pen depth a b e = same_sent (at_depth depth a) (at_depth depth b) e

pub pen_one : (depth : Depth) (a b : Attributes) → pen_of depth a ≡ pen_of depth b → is_sent_same (at_depth depth a) (at_depth depth b) ≡ true
pen_one depth a b e = sent_same (at_depth depth a) (at_depth depth b) e

-- ---- rows

-- what shows in a column is printed with its pen
pub shows_cell : (depth : Depth) (pen : Pen) (cell : Option Look) (symbol : List ℕ) (a : Attributes) (cs : List Command) → cell ≡ Some (look_of symbol a) →
    Becomes pen (pen_of depth a) cs → StyledCell depth pen cell (pen_of depth a) (cs ++ print symbol ∷ [])
shows_cell depth pen cell symbol a cs is h =
    subst (λ (o : Option Look). StyledCell depth pen o (pen_of depth a) (cs ++ print symbol ∷ [])) (sym is) (refl, (cs, h, refl))

pub hides_cell : (depth : Depth) (pen : Pen) (cell : Option Look) → cell ≡ None → StyledCell depth pen cell pen []
hides_cell depth pen cell is = subst (λ (o : Option Look). StyledCell depth pen o pen []) (sym is) (refl, refl)

pub cell_text : (cs : List Command) (symbol : List ℕ) → flat_map encoding cs ++ symbol ≡ flat_map encoding (cs ++ print symbol ∷ [])
unfolding encoding
cell_text cs symbol = more_text encoding cs (print symbol ∷ []) symbol (sym (one_text encoding (print symbol)))

-- the same in whichever column they begin
pub moved : (depth : Depth) (pen : Pen) (x y : ℕ) (cells : List (Option Look)) (cs : List Command) →
    StyledRow depth pen (pieces x cells) cs → StyledRow depth pen (pieces y cells) cs
unfolding pieces
moved depth pen x y [] cs h = h
moved depth pen x y (None ∷ cells) cs h = moved depth pen (x + 1) (y + 1) cells cs h
moved depth pen x y (Some c ∷ cells) cs h = record {
  paints = h.paints;
  more = h.more;
  becomes = h.becomes;
  others_follow = moved depth (pen_of depth (attributes_of c)) (x + 1) (y + 1) cells h.more h.others_follow;
  whole = h.whole;
}

-- what shows in a column, and what comes after it
first_cell : (depth : Depth) (pen next : Pen) (cell : Option Look) (cells : List (Option Look)) (cs more : List Command) →
    StyledCell depth pen cell next cs → StyledRow depth next (pieces 0 cells) more → StyledRow depth pen (pieces 0 (cell ∷ cells)) (cs ++ more)
unfolding pieces
first_cell depth pen next None cells cs more h k =
    let there : StyledRow depth pen (pieces 0 cells) more = subst (λ (p : Pen). StyledRow depth p (pieces 0 cells) more) h.0 k in
    subst (λ (ds : List Command). StyledRow depth pen (pieces 1 cells) (ds ++ more)) (sym h.1) (moved depth pen 0 1 cells more there)
first_cell depth pen next (Some c) cells cs more h k =
    let there : StyledRow depth (pen_of depth (attributes_of c)) (pieces 0 cells) more = subst (λ (p : Pen). StyledRow depth p (pieces 0 cells) more) h.0 k in
    record {
      paints = h.1.0;
      more = more;
      becomes = subst (λ (p : Pen). Becomes pen p h.1.0) h.0 h.1.1;
      others_follow = moved depth (pen_of depth (attributes_of c)) 0 1 cells more there;
      whole = ap (λ (ds : List Command). ds ++ more) h.1.2 ∙ append_assoc h.1.0 (print c.symbol ∷ []) more;
    }

-- the row from a column on
abbrev pub row_from : List Look → Cover → ℕ → List (Option Look)
row_from row cover i = shown_row Common cover (drop i row)

pub next_cell : (depth : Depth) (pen next : Pen) (row : List Look) (cover after : Cover) (i : ℕ) (c : Look) (cs more : List Command) → i < length row → c ≡ get_or row i c →
    after ≡ next_cover Common cover (length row - i) c → StyledCell depth pen (shown Common cover (length row - i) c) next cs →
    StyledRow depth next (pieces 0 (row_from row after (i + 1))) more → StyledRow depth pen (pieces 0 (row_from row cover i)) (cs ++ more)
unfolding shown_row
next_cell depth pen next row cover after i c cs more lt read is h k =
    let following = drop (i + 1) row in
    let split : drop i row ≡ c ∷ drop (i + 1) row = rw add-one (drop-cons row i c lt ∙ ap (λ (d : Look). d ∷ drop (suc i) row) (sym read)) in
    let room : length row - i ≡ 1 + length following = omega (arith, length-drop (i + 1) row) in
    let here = rw room at h in
    let there = rw (is, room) at k in
    rw split (first_cell depth pen next (shown Common cover (1 + length following) c) (shown_row Common (next_cover Common cover (1 + length following) c) following) cs more here there)

-- after the last column
pub row_ended : (depth : Depth) (pen : Pen) (row : List Look) (cover : Cover) (i : ℕ) (cs : List Command) → length row ≤ i → Becomes pen rest cs →
    StyledRow depth pen (pieces 0 (row_from row cover i)) cs
unfolding shown_row pieces
row_ended depth pen row cover i cs past h = rw (drop_of_length-le row past) h

pub line_text : (done cs : List Command) → flat_map encoding done ++ (flat_map encoding cs ++ 10 ∷ []) ≡ styled_line (done ++ cs)
line_text done cs = sym (append_assoc (flat_map encoding done) (flat_map encoding cs) (10 ∷ [])) ∙ ap (λ (l : List ℕ). l ++ 10 ∷ []) (more_text encoding done cs _ refl)

-- ---- screens

pub first_none : (depth : Depth) (b : Screen) → AreFirst depth b 0 []
first_none depth b = record { counted = refl; each = λ y lt. absurd (omega (arith, lt)) }

pub first_more : (depth : Depth) (b : Screen) (n : ℕ) (rows : List (List Command)) (cs : List Command) → AreFirst depth b n rows →
    StyledRow depth rest (pieces 0 (shown_row Common uncovered (slice_index_or b.rows n []))) cs → AreFirst depth b (n + 1) (rows ++ cs ∷ [])
first_more depth b n rows cs first row = record {
  counted = omega (arith, length-append rows (cs ∷ []), first.counted);
  each = λ y lt. elim (cases_lt y n) [
    | inl before ↦
        let within : y < length rows = omega (arith, before, first.counted) in
        rw (get_or_append_left rows (cs ∷ []) [] y within) (first.each y before)
    | inr past ↦
        let last : y ≡ length rows = omega (arith, past, lt, first.counted) in
        let number : y ≡ n = omega (arith, past, lt) in
        let there : StyledRow depth rest (row_pieces Common b n) cs = moved depth rest 0 b.area.x (shown_row Common uncovered (slice_index_or b.rows n [])) cs row in
        let at : slice_index_or (rows ++ cs ∷ []) (length rows) [] ≡ cs = get_or-append_seam rows cs [] [] in
        rw (last, at) (subst (λ k. StyledRow depth rest (row_pieces Common b k) cs) (sym number ∙ last) there)
  ];
}

pub rows_text : (rows : List (List Command)) (cs : List Command) → flat_map styled_line rows ++ styled_line cs ≡ flat_map styled_line (rows ++ cs ∷ [])
rows_text rows cs = more_text styled_line rows (cs ∷ []) (styled_line cs) (sym (one_text styled_line cs))

pub all_rows : (depth : Depth) (b : Screen) (n : ℕ) (rows : List (List Command)) → AreFirst depth b n rows → length b.rows ≤ n → n ≤ length b.rows →
    AreStyledRows depth b (flat_map styled_line rows)
all_rows depth b n rows first past within = record {
  rows = rows;
  counted = omega (arith, first.counted);
  each = λ y lt. first.each y (omega (arith, lt));
  encoded = refl;
}
