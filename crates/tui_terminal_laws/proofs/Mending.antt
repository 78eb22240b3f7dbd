-- The symbol in the first cell of the area, which ends a character that was cut short.
use Rattle.std.proofs.Common.{◌≡◌, ℕ, zero, suc, ◌+◌, ◌<◌, Bool, true, false, ◌&&◌, List, [], ◌∷◌, cond, refl, sym, ap, subst, ◌∙◌, inl, inr, Option, Some, None, arith}
use Rattle.std.specs.Prelude.{nat_lt, max}
use Rattle.std.specs.Str.{chars}
use Rattle.std.proofs.lemmas.Bool.{and_from, and_parts, cases_Bool, cond-true, cond-false, lt-ltb, ltb-true, true≢false}
use Rattle.tui_cells.specs.Buffer.{Screen}
use Rattle.tui_cells.specs.Cell.{blank}
use Rattle.ucd_table.specs.Rows.{in_ranges}
use Rattle.tui_clusters.proofs.Widths.{letter_width}
use Rattle.tui_text.specs.Visible.{PlacedCell, step_of}
use Rattle.tui_terminal_model.specs.declared.depth.Depth.{Depth}
use Rattle.tui_terminal_model.specs.declared.depth.Depth.TheVariants as depths
use Rattle.tui_terminal_model.specs.declared.output.Output.{Output}
use Rattle.tui_terminal_model.specs.declared.widths.KnownWidths.{KnownWidths}
use Rattle.tui_terminal_model.specs.Calls.{Keeps, grave, mend, mending}
use Rattle.tui_terminal_model.specs.Colours.{color_at, palette_color, sixteen_color}
use Rattle.tui_terminal_model.specs.Pens.{attributes_of, background_of, foreground_of, has_name, pen_of}
use Rattle.tui_terminal_model.specs.Sends.{IsApart, IsSafe}
use Rattle.tui_terminal_model.specs.Shows.{HasRoom, IsBeside, ShowsCell, KnowsWidths}
use Rattle.tui_terminal_model.specs.Symbols.{is_quiet, has_known_width}
use Rattle.tui_terminal_model.specs.Terminal.{Command, Pen, Shown, Spot, Tty, after, paint, place, print, rest, run}
use Rattle.tui_terminal_laws.proofs.Lists.{Each}
use Rattle.tui_terminal_laws.proofs.Pen.{steps}
use Rattle.tui_terminal_laws.proofs.Steps.{IsSent, Stays, drawn_keeps, ready, stays, symbol_sent}
use Rattle.tui_terminal_laws.proofs.Walks.{Apart, IsFit}

-- the cell with this symbol
abbrev drawn_there : Screen → PlacedCell
drawn_there b = record { column = b.area.x; cell = record blank { symbol = grave } }

rest_pen : (depth : Depth) → pen_of depth (attributes_of blank) ≡ rest
unfolding color_at sixteen_color palette_color
rest_pen depths.None = refl
rest_pen depths.Sixteen = refl
rest_pen depths.Palette = refl
rest_pen depths.True = refl

grave_chars : chars grave ≡ 0xC0 ∷ []
unfolding chars
grave_chars = refl

grave_step : step_of grave ≡ 1
unfolding step_of in_ranges lib.Utf8.encode
grave_step = ap (λ n. max n 1) (letter_width grave (record { char = 0xC0; encoded = refl; is = grave_chars; within = refl }))

grave_quiet : is_quiet grave ≡ true
unfolding is_quiet
grave_quiet = refl

-- it shares no column with a cell beside the area
clear_beside : (b : Screen) (p : PlacedCell) → 0 < b.area.width → IsBeside b p → Apart (drawn_there b) p
clear_beside b p wide (inl before) = inr before
clear_beside b p wide (inr past) = inl (omega (arith, grave_step, past))

-- the terminal afterwards
pub record IsMended (knows : List ℕ → Bool) (o : Output) (b : Screen) (t u : Tty) : Type 0 where
  pub same : Stays t u
  pub keeps : Keeps o knows b t u

nothing_mended : (knows : List ℕ → Bool) (o : Output) (b : Screen) (t : Tty) → IsMended knows o b t t
nothing_mended knows o b t = record { same = stays t; keeps = record { outside = λ r away. refl; beside = λ y lt every p away stood. stood } }

-- the cursor and the pen before it is printed
made_ready : (knows : List ℕ → Bool) (depth : Depth) (b : Screen) (t : Tty) → t.whole ≡ true → t.modes_reset ≡ true → b.area.x < t.columns → b.area.y < t.height →
    run knows (mend b.area) t ≡ after knows (print grave) (ready depth b.area.y (drawn_there b) t)
made_ready knows depth b t whole modes_reset wide high =
    let x = b.area.x in
    let y = b.area.y in
    let at : Tty = record t { cursor = Some (record { column = x; row = y }) } in
    let on : (t.modes_reset && (nat_lt x t.columns && nat_lt y t.height)) ≡ true =
    and_from t.modes_reset _ modes_reset (and_from (nat_lt x t.columns) (nat_lt y t.height) (lt-ltb x t.columns wide) (lt-ltb y t.height high)) in
    let first : after knows (place x y) t ≡ at =
    steps knows (place x y) t whole ∙ ap (λ (c : Option Spot). record t { cursor = c }) (cond-true _ (Some (record { column = x; row = y })) None on) in
    ap (run knows (paint [] ∷ print grave ∷ [])) first
    ∙ (ap (after knows (print grave)) (steps knows (paint []) at whole)
    ∙ ap (λ (p : Pen). after knows (print grave) (record at { pen = Some p })) (sym (rest_pen depth)))

kept_beside : (knows : List ℕ → Bool) (o : Output) (b : Screen) (t u : Tty) → IsSent knows o b.area.y (drawn_there b) t u → knows grave ≡ true → 0 < b.area.width →
    (y : ℕ) (p : PlacedCell) → IsBeside b p → ShowsCell o.depth (t.cells (b.area.y + y)) p → ShowsCell o.depth (u.cells (b.area.y + y)) p
kept_beside knows o b t u sent knew wide zero p away stood =
    let first : b.area.y ≡ b.area.y + 0 = omega arith in
    let row = sent.row knew in
    let stood_there : ShowsCell o.depth (t.cells b.area.y) p = subst (λ r. ShowsCell o.depth (t.cells r) p) (sym first) stood in
    subst (λ r. ShowsCell o.depth (u.cells r) p) first
    (subst (λ (c : ℕ → Shown). ShowsCell o.depth c p) (sym row) (drawn_keeps o.depth (drawn_there b) p (t.cells b.area.y) (clear_beside b p wide away) stood_there))
kept_beside knows o b t u sent knew wide (suc k) p away stood =
    subst (λ (c : ℕ → Shown). ShowsCell o.depth c p) (sym (sent.others (b.area.y + suc k) (λ e. absurd (omega arith)))) stood

some_mended : (knows : List ℕ → Bool) (o : Output) (b : Screen) (t : Tty) → KnowsWidths o.widths knows → HasRoom t b → t.whole ≡ true → t.modes_reset ≡ true →
    has_known_width o.widths grave ≡ true → 0 < b.area.width → 0 < b.area.height → IsMended knows o b t (run knows (mend b.area) t)
some_mended knows o b t knows_widths room whole modes_reset known_width wide high =
    let w = room.wide in
    let h = room.high in
    let fit : IsFit o.widths t.columns (drawn_there b) = record {
      wide = omega (arith, grave_step, w, wide);
      reaches = λ uncertain. absurd (true≢false (sym known_width ∙ uncertain));
      quiet = grave_quiet;
      some = omega arith;
    } in
    let u : Tty = after knows (print grave) (ready o.depth b.area.y (drawn_there b) t) in
    let sent : IsSent knows o b.area.y (drawn_there b) t u = symbol_sent knows o b.area.y (drawn_there b) t knows_widths whole modes_reset fit in
    let done : IsMended knows o b t u = record {
      same = sent.same;
      keeps = record {
        outside = λ r away. sent.others r (λ e. absurd (elim away [ inl above ↦ omega arith | inr below ↦ omega arith ]));
        beside = λ y lt every p away stood. kept_beside knows o b t u sent (knows_widths grave known_width) wide y p away stood;
      };
    } in
    subst (IsMended knows o b t) (sym (made_ready knows o.depth b t whole modes_reset (omega (arith, w, wide)) (omega (arith, h, high)))) done

abbrev is_mended_at : Output → Screen → Bool
is_mended_at o b = has_known_width o.widths grave && (nat_lt 0 b.area.width && nat_lt 0 b.area.height)

pub mended : (knows : List ℕ → Bool) (o : Output) (b : Screen) (t : Tty) → KnowsWidths o.widths knows → HasRoom t b → t.whole ≡ true → t.modes_reset ≡ true →
    IsMended knows o b t (run knows (mending o.widths b.area) t)
mended knows o b t knows_widths room whole modes_reset = elim (cases_Bool (is_mended_at o b)) [
  | inl on ↦
      let h = and_parts (has_known_width o.widths grave) _ on in
      let area = and_parts (nat_lt 0 b.area.width) (nat_lt 0 b.area.height) h.1 in
      subst (λ (cs : List Command). IsMended knows o b t (run knows cs t)) (sym (cond-true (is_mended_at o b) (mend b.area) [] on))
      (some_mended knows o b t knows_widths room whole modes_reset h.0 (ltb-true 0 b.area.width area.0) (ltb-true 0 b.area.height area.1))
  | inr off ↦
      subst (λ (cs : List Command). IsMended knows o b t (run knows cs t)) (sym (cond-false (is_mended_at o b) (mend b.area) [] off)) (nothing_mended knows o b t)
]

-- ---- its commands

either_both : (b : Bool) (xs : List Command) (widths : KnownWidths) → Each IsSafe xs × IsApart widths xs → Each IsSafe (cond b xs []) × IsApart widths (cond b xs [])
either_both true xs widths both = both
either_both false xs widths both = (tt, tt)

pub mend_safe : (widths : KnownWidths) (o : Output) (b : Screen) → Each IsSafe (mending o.widths b.area) × IsApart widths (mending o.widths b.area)
unfolding has_name foreground_of background_of
mend_safe widths o b =
    let resting : IsSafe (paint []) = (rest, (record { nine = refl; name = refl }, refl)) in
    either_both (is_mended_at o b) (mend b.area) widths ((tt, (resting, ((omega arith, grave_quiet), tt))), (tt, (tt, (tt, tt))))
