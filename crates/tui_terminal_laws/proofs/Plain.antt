-- Rows one below the other.
use Rattle.std.proofs.Common.{◌≡◌, ℕ, ◌+◌, Bool, true, false, not, ◌&&◌, List, [], ◌∷◌, ◌++◌, cond, map, flat_map, refl, sym, ap, ap₂, subst, ◌∙◌, inl, inr, Option, None, Some}
use Rattle.std.specs.Prelude.{nat_le, nat_lt, if◌then◌else◌}
use Rattle.std.proofs.lemmas.Bool.{cases_Bool, cond-true, cond-false}
use Rattle.std.proofs.lemmas.List.{append-nil}
use Rattle.std.proofs.lemmas.List.Concat.{flat_map-cons}
use Rattle.tui_cells.specs.declared.color.Color.{Color}
use Rattle.tui_cells.specs.declared.color.Color.TheVariants.{Reset}
use Rattle.tui_text.specs.Visible.{PlacedCell, step_of}
use Rattle.tui_terminal_model.specs.declared.depth.Depth.{Depth}
use Rattle.tui_terminal_model.specs.Colours.{color_at}
use Rattle.tui_terminal_model.specs.Pens.{attributes_of, has_name, pen_of, then_background}
use Rattle.tui_terminal_model.specs.Encoding.{encoding}
use Rattle.tui_terminal_model.specs.Styled.{Becomes, StyledRow}
use Rattle.tui_terminal_model.specs.Terminal.{Command, Pen, Spot, Tty, add, after, back, drawn, cells_unknown, print, printed, reach, rest, run, row_unknown, with_row}
use Rattle.tui_terminal_laws.specs.Plain.{Inked, StyledRowsArePlain, drawn_by, inked, without_paints}
use Rattle.tui_terminal_laws.proofs.Pen.{pen_from, pen_set, run_append, steps, with_pen}

-- ---- the bytes

no_back : (c : Color) (more : List Command) → without_paints (then_background c ++ more) ≡ without_paints more
no_back c more = elim (cases_Bool (has_name c)) [
  | inl named ↦ ap (λ (cs : List Command). without_paints (cs ++ more)) (cond-true (has_name c) [] (add (back c) [] ∷ []) named)
  | inr other ↦ ap (λ (cs : List Command). without_paints (cs ++ more)) (cond-false (has_name c) [] (add (back c) [] ∷ []) other)
]

no_paints : (pen next : Pen) (cs more : List Command) → Becomes pen next cs → without_paints (cs ++ more) ≡ without_paints more
no_paints pen next cs more (inl h) = ap (λ (ds : List Command). without_paints (ds ++ more)) h.1
no_paints pen next cs more (inr h) = ap (λ (ds : List Command). without_paints (ds ++ more)) h.1 ∙ no_back next.bg more

symbols_of : (depth : Depth) (pen : Pen) (ps : List PlacedCell) (cs : List Command) → StyledRow depth pen ps cs →
    flat_map encoding (without_paints cs) ≡ flat_map (λ (p : PlacedCell). p.cell.symbol) ps
unfolding encoding has_name
symbols_of depth pen [] cs (inl h) = ap (λ (ds : List Command). flat_map encoding (without_paints ds)) h.1
symbols_of depth pen [] cs (inr h) = ap (λ (ds : List Command). flat_map encoding (without_paints ds)) h.1
symbols_of depth pen (p ∷ ps) cs h =
    let next = pen_of depth (attributes_of p.cell) in
    let rest_of = without_paints h.more in
    ap (λ (ds : List Command). flat_map encoding (without_paints ds)) h.whole
    ∙ (ap (flat_map encoding) (no_paints pen next h.paints (print p.cell.symbol ∷ h.more) h.becomes)
    ∙ (flat_map-cons encoding (print p.cell.symbol) rest_of
    ∙ (ap (λ (l : List ℕ). p.cell.symbol ++ l) (symbols_of depth next ps h.more h.others_follow)
    ∙ sym (flat_map-cons (λ (q : PlacedCell). q.cell.symbol) p ps))))

-- ---- the pens

-- nothing was cut short, and the pen is this one
record Has (pen : Pen) (t : Tty) : Type 0 where
  whole : t.whole ≡ true
  is : t.pen ≡ Some pen

either : (pen : Pen) (b : Bool) (t u : Tty) → Has pen t → Has pen u → Has pen (cond b t u)
either pen true t u a c = a
either pen false t u a c = c

printed_has : (pen : Pen) (knows : List ℕ → Bool) (symbol : List ℕ) (t : Tty) (at : Option Spot) (by : Option Pen) → Has pen t → Has pen (printed knows symbol t at by)
printed_has pen knows symbol t None by has = record { whole = has.whole; is = has.is }
printed_has pen knows symbol t (Some at) None has = record { whole = has.whole; is = has.is }
printed_has pen knows symbol t (Some at) (Some by) has =
    let gone : Has pen (cells_unknown t) = record { whole = has.whole; is = has.is } in
    let row : Has pen (row_unknown at.row t) = record { whole = has.whole; is = has.is } in
    let known : Tty = record t {
      cells = with_row at.row (drawn at.column symbol by (t.cells at.row)) t.cells;
      cursor = if nat_lt (at.column + step_of symbol) t.columns then Some (record { column = at.column + step_of symbol; row = at.row }) else None;
    } in
    let here : Has pen known = record { whole = has.whole; is = has.is } in
    either pen (not t.modes_reset) (cells_unknown t) _ gone
    (either pen (knows symbol && nat_le (at.column + step_of symbol) t.columns) known _ here
    (either pen (nat_le (at.column + reach symbol) t.columns) (row_unknown at.row t) (cells_unknown t) row gone))

print_has : (pen : Pen) (knows : List ℕ → Bool) (symbol : List ℕ) (t : Tty) → Has pen t → Has pen (after knows (print symbol) t)
print_has pen knows symbol t has =
    subst (Has pen) (sym (steps knows (print symbol) t has.whole)) (printed_has pen knows symbol t t.cursor t.pen has)

-- commands that set a pen draw nothing
back_draws_none : (knows : List ℕ → Bool) (c : Color) (more : List Command) (t : Tty) →
    drawn_by knows (then_background c ++ more) t ≡ drawn_by knows more (run knows (then_background c) t)
back_draws_none knows c more t = elim (cases_Bool (has_name c)) [
  | inl named ↦
      let e = cond-true (has_name c) [] (add (back c) [] ∷ []) named in
      ap (λ (cs : List Command). drawn_by knows (cs ++ more) t) e ∙ sym (ap (λ (cs : List Command). drawn_by knows more (run knows cs t)) e)
  | inr other ↦
      let e = cond-false (has_name c) [] (add (back c) [] ∷ []) other in
      ap (λ (cs : List Command). drawn_by knows (cs ++ more) t) e ∙ sym (ap (λ (cs : List Command). drawn_by knows more (run knows cs t)) e)
]

paints_draw_none : (knows : List ℕ → Bool) (pen next : Pen) (cs more : List Command) (t : Tty) → Becomes pen next cs →
    drawn_by knows (cs ++ more) t ≡ drawn_by knows more (run knows cs t)
paints_draw_none knows pen next cs more t (inl h) =
    ap (λ (ds : List Command). drawn_by knows (ds ++ more) t) h.1 ∙ sym (ap (λ (ds : List Command). drawn_by knows more (run knows ds t)) h.1)
paints_draw_none knows pen next cs more t (inr h) =
    ap (λ (ds : List Command). drawn_by knows (ds ++ more) t) h.1
    ∙ (back_draws_none knows next.bg more _ ∙ sym (ap (λ (ds : List Command). drawn_by knows more (run knows ds t)) h.1))

-- after them the pen is the next one
becomes_has : (knows : List ℕ → Bool) (pen : Pen) (f b : Color) (m : ℕ) (cs : List Command) (t : Tty) → Becomes pen (pen_from f b m) cs → Has pen t →
    Has (pen_from f b m) (run knows cs t)
becomes_has knows pen f b m cs t (inl h) has =
    subst (λ (ds : List Command). Has (pen_from f b m) (run knows ds t)) (sym h.1) (record { whole = has.whole; is = has.is ∙ ap (λ (p : Pen). Some p) h.0 })
becomes_has knows pen f b m cs t (inr h) has =
    let there : Has (pen_from f b m) (with_pen (pen_from f b m) t) = record { whole = has.whole; is = refl } in
    subst (λ (ds : List Command). Has (pen_from f b m) (run knows ds t)) (sym h.1) (subst (Has (pen_from f b m)) (sym (pen_set knows f b m t has.whole)) there)

-- each cell is drawn by its own pen, and after the last one the pen is the default one
record CommandsDraw (depth : Depth) (knows : List ℕ → Bool) (ps : List PlacedCell) (cs : List Command) (t : Tty) : Type 0 where
  drawn : drawn_by knows cs t ≡ map (inked depth) ps
  has : Has rest (run knows cs t)

draws : (depth : Depth) (knows : List ℕ → Bool) (pen : Pen) (ps : List PlacedCell) (cs : List Command) (t : Tty) → StyledRow depth pen ps cs → Has pen t → CommandsDraw depth knows ps cs t
draws depth knows pen [] cs t h has = record {
  drawn =
      ap (λ (ds : List Command). drawn_by knows ds t) (sym (append-nil cs)) ∙ paints_draw_none knows pen rest cs [] t h;
  has = becomes_has knows pen Reset Reset 0 cs t h has;
}
draws depth knows pen (p ∷ ps) cs t h has =
    let a = attributes_of p.cell in
    let next = pen_of depth a in
    let symbol = p.cell.symbol in
    let u = run knows h.paints t in
    let now : Has next u = becomes_has knows pen (color_at depth a.fg) (color_at depth a.bg) a.modifier.bits h.paints t h.becomes has in
    let v = after knows (print symbol) u in
    let more = draws depth knows next ps h.more v h.others_follow (print_has next knows symbol u now) in
    let here : record_of symbol u.pen ≡ inked depth p = ap (record_of symbol) now.is in
    record {
      drawn =
          ap (λ (ds : List Command). drawn_by knows ds t) h.whole
          ∙ (paints_draw_none knows pen next h.paints (print symbol ∷ h.more) t h.becomes ∙ ap₂ (λ (k : Inked) (ks : List Inked). k ∷ ks) here more.drawn);
      has = subst (λ (ds : List Command). Has rest (run knows ds t)) (sym h.whole) (subst (Has rest) (sym (run_append knows h.paints (print symbol ∷ h.more) t)) more.has);
    }
  where
    record_of : List ℕ → Option Pen → Inked
    record_of symbol pen = record { symbol = symbol; pen = pen }

pub styled_plain : StyledRowsArePlain
styled_plain depth b text k y lt =
    let row = k.each y lt in
    record {
      symbols = symbols_of depth rest _ _ row;
      drawn = λ knows t whole is. (draws depth knows rest _ _ t row (record { whole = whole; is = is })).drawn;
      unstyled = λ knows t whole is. (draws depth knows rest _ _ t row (record { whole = whole; is = is })).has.is;
    }
