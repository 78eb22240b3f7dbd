-- A symbol of uncertain width is between commands of other kinds, so that it joins no other symbol.
use Rattle.std.proofs.Common.{◌≡◌, ℕ, ◌+◌, Bool, true, false, ◌&&◌, ◌==◌, List, [], ◌∷◌, ◌++◌, cond, map, append_assoc, refl, sym, ap, subst, ◌∙◌, inl, inr}
use Rattle.std.specs.Prelude.{nat_lt}
use Rattle.std.proofs.lemmas.Bool.{and_parts, cases_Bool, cond-true, cond-false, true≢false}
use Rattle.tui_cells.specs.Cell.{Look}
use Rattle.tui_cells.specs.contracts.attributes.AttributesPartialEq as attributes
use Rattle.tui_text.specs.Visible.{PlacedCell}
use Rattle.tui_terminal_model.specs.declared.depth.Depth.{Depth}
use Rattle.tui_terminal_model.specs.declared.output.Output.{Output}
use Rattle.tui_terminal_model.specs.declared.widths.KnownWidths.{KnownWidths}
use Rattle.tui_terminal_model.specs.declared.cursor.Cursor.{Cursor}
use Rattle.tui_terminal_model.specs.declared.cursor.Cursor.TheVariants.{Keep, Hidden, At as AtPlace}
use Rattle.tui_terminal_model.specs.Pens.{add_all, added, adds_of, attributes_of, background_added, has_name, only_adds, paints_of, pen_of}
use Rattle.tui_terminal_model.specs.Symbols.{has_known_width}
use Rattle.tui_terminal_model.specs.Sends.{Begins, IsApart, Meet, closing, cursor_commands, opening}
use Rattle.tui_terminal_model.specs.Terminal.{Command, Setting, back, synchronizing, reset_modes, place, across, paint, add, print, set_mode}
use Rattle.tui_terminal_laws.specs.declared.at.At.{At}
use Rattle.tui_terminal_laws.specs.declared.wanted.Wanted.TheVariants.{UncertainWidth, KnownWidth}
use Rattle.tui_terminal_laws.specs.Sent.{in_full, changes, is_calm, row_sent, row_shown, sent}
use Rattle.tui_terminal_laws.specs.Sending.{frame, moves, next_at, nothing_known, paints, row_in_full, rows_sent, send, send_one, send_rows}
use Rattle.tui_terminal_laws.proofs.Lists.{Each}
use Rattle.tui_terminal_laws.proofs.Rows.{Row, calm_known_width, uncertain_are, known_width_are}

-- after a symbol of known width there are only such symbols
abbrev pub Falling : KnownWidths → List PlacedCell → Type 0
Falling widths [] = Unit {0}
Falling widths (p ∷ ps) = (has_known_width widths p.cell.symbol ≡ true → Each (λ q. has_known_width widths q.cell.symbol ≡ true) ps) × Falling widths ps

sure_falling : (widths : KnownWidths) (ps : List PlacedCell) → Each (λ q. has_known_width widths q.cell.symbol ≡ true) ps → Falling widths ps
sure_falling widths [] sure = tt
sure_falling widths (p ∷ ps) sure = (λ is. sure.1, sure_falling widths ps sure.1)

uncertain_falling : (widths : KnownWidths) (rs ts : List PlacedCell) → Each (λ q. has_known_width widths q.cell.symbol ≡ false) rs → Each (λ q. has_known_width widths q.cell.symbol ≡ true) ts → Falling widths (rs ++ ts)
uncertain_falling widths [] ts uncertain sure = sure_falling widths ts sure
uncertain_falling widths (r ∷ rs) ts uncertain sure = (λ is. absurd (true≢false (sym is ∙ uncertain.0)), uncertain_falling widths rs ts uncertain.1 sure)

in_full_falling : (widths : KnownWidths) (left : ℕ) (row : Row) → Falling widths (in_full widths left row)
in_full_falling widths left row =
    uncertain_falling widths (sent widths UncertainWidth left row row) (sent widths KnownWidth left row row) (uncertain_are widths left row) (known_width_are widths left row)

row_falling : (widths : KnownWidths) (left : ℕ) (old new : Row) → Falling widths (row_sent widths left old new)
row_falling widths left old new = elim (cases_Bool (is_calm widths left old new && is_calm widths left new old)) [
  | inl calm ↦
      let both = and_parts (is_calm widths left old new) (is_calm widths left new old) calm in
      subst (Falling widths) (sym (cond-true _ (changes widths left old new) (in_full widths left new) calm))
      (sure_falling widths (changes widths left old new) (calm_known_width widths left old new both.0))
  | inr not_calm ↦ subst (Falling widths) (sym (cond-false _ (changes widths left old new) (in_full widths left new) not_calm)) (in_full_falling widths left new)
]

-- ---- commands one after another

meet_begins : (widths : KnownWidths) (c : Command) (cs : List Command) → Begins cs → Meet widths c cs
meet_begins widths (print s) [] b = tt
meet_begins widths (print s) (print u ∷ cs) b = absurd b
meet_begins widths (print s) (reset_modes ∷ cs) b = tt
meet_begins widths (print s) (place x y ∷ cs) b = tt
meet_begins widths (print s) (across x ∷ cs) b = tt
meet_begins widths (print s) (paint ss ∷ cs) b = tt
meet_begins widths (print s) (add k ks ∷ cs) b = tt
meet_begins widths (print s) (set_mode m on ∷ cs) b = tt
meet_begins widths reset_modes cs b = tt
meet_begins widths (place x y) cs b = tt
meet_begins widths (paint ss) cs b = tt
meet_begins widths (across x) cs b = tt
meet_begins widths (add k ks) cs b = tt
meet_begins widths (set_mode m on) cs b = tt

meet_more : (widths : KnownWidths) (c d : Command) (xs ys : List Command) → Meet widths c (d ∷ xs) → Meet widths c (d ∷ (xs ++ ys))
meet_more widths (print s) (print u) xs ys m = m
meet_more widths (print s) reset_modes xs ys m = tt
meet_more widths (print s) (place x y) xs ys m = tt
meet_more widths (print s) (paint ss) xs ys m = tt
meet_more widths (print s) (across x) xs ys m = tt
meet_more widths (print s) (add k ks) xs ys m = tt
meet_more widths (print s) (set_mode k on) xs ys m = tt
meet_more widths reset_modes d xs ys m = tt
meet_more widths (place x y) d xs ys m = tt
meet_more widths (paint ss) d xs ys m = tt
meet_more widths (across x) d xs ys m = tt
meet_more widths (add k ks) d xs ys m = tt
meet_more widths (set_mode k on) d xs ys m = tt

pub apart_append : (widths : KnownWidths) (xs ys : List Command) → IsApart widths xs → IsApart widths ys → Begins ys → IsApart widths (xs ++ ys)
apart_append widths [] ys a b begins = b
apart_append widths (x ∷ []) ys a b begins = (meet_begins widths x ys begins, b)
apart_append widths (x ∷ z ∷ xs) ys a b begins = (meet_more widths x z xs ys a.0, apart_append widths (z ∷ xs) ys a.1 b begins)

pub begins_append : (xs ys : List Command) → Begins xs → Begins ys → Begins (xs ++ ys)
begins_append [] ys a b = b
begins_append (reset_modes ∷ xs) ys a b = tt
begins_append (place x y ∷ xs) ys a b = tt
begins_append (paint ss ∷ xs) ys a b = tt
begins_append (across x ∷ xs) ys a b = tt
begins_append (add k ks ∷ xs) ys a b = tt
begins_append (set_mode m on ∷ xs) ys a b = tt
begins_append (print s ∷ xs) ys a b = absurd a

-- commands that only set a pen
abbrev AreSettings : List Command → Type 0
AreSettings [] = Unit {0}
AreSettings (paint ss ∷ cs) = AreSettings cs
AreSettings (add s ss ∷ cs) = AreSettings cs
AreSettings (c ∷ cs) = ⊥

settings_append : (xs ys : List Command) → AreSettings xs → AreSettings ys → AreSettings (xs ++ ys)
settings_append [] ys a b = b
settings_append (paint ss ∷ xs) ys a b = settings_append xs ys a b
settings_append (add s ss ∷ xs) ys a b = settings_append xs ys a b
settings_append (reset_modes ∷ xs) ys a b = absurd a
settings_append (place x y ∷ xs) ys a b = absurd a
settings_append (across x ∷ xs) ys a b = absurd a
settings_append (print s ∷ xs) ys a b = absurd a
settings_append (set_mode m on ∷ xs) ys a b = absurd a

either_sets : (b : Bool) (xs ys : List Command) → AreSettings xs → AreSettings ys → AreSettings (cond b xs ys)
either_sets true xs ys a b = a
either_sets false xs ys a b = b

all_set : (ss : List Setting) → AreSettings (add_all ss)
all_set [] = tt
all_set (s ∷ ss) = tt

paints_set : (depth : Depth) (at : At) (p : PlacedCell) → AreSettings (paints depth at p)
paints_set depth at p =
    let from = pen_of depth at.pen in
    let pen = pen_of depth (attributes_of p.cell) in
    let whole : AreSettings (paints_of pen) = either_sets (has_name pen.bg) [] (add (back pen.bg) [] ∷ []) tt tt in
    let more : AreSettings (adds_of from pen) =
    settings_append (add_all (added from pen)) _ (all_set (added from pen)) (either_sets (has_name pen.bg) [] _ tt (all_set (background_added from.bg pen.bg))) in
    either_sets (at.painted && attributes.TheImpl.ghosts.eq at.pen (attributes_of p.cell)) [] _ tt
    (either_sets at.painted _ (paints_of pen) (either_sets (only_adds from pen) (adds_of from pen) (paints_of pen) more whole) whole)

settings_apart : (widths : KnownWidths) (xs cs : List Command) → AreSettings xs → IsApart widths cs → IsApart widths (xs ++ cs)
settings_apart widths [] cs a b = b
settings_apart widths (paint ss ∷ xs) cs a b = (tt, settings_apart widths xs cs a b)
settings_apart widths (add s ss ∷ xs) cs a b = (tt, settings_apart widths xs cs a b)
settings_apart widths (reset_modes ∷ xs) cs a b = absurd a
settings_apart widths (place x y ∷ xs) cs a b = absurd a
settings_apart widths (across x ∷ xs) cs a b = absurd a
settings_apart widths (print s ∷ xs) cs a b = absurd a
settings_apart widths (set_mode m on ∷ xs) cs a b = absurd a

move_apart : (widths : KnownWidths) (b c : Bool) (x y : ℕ) (cs : List Command) → IsApart widths cs → IsApart widths (cond b [] (cond c (across x ∷ []) (place x y ∷ [])) ++ cs)
move_apart widths true c x y cs a = a
move_apart widths false true x y cs a = (tt, a)
move_apart widths false false x y cs a = (tt, a)

-- a symbol, and what is sent after it
meet_paint : (widths : KnownWidths) (s u : List ℕ) (xs cs : List Command) → AreSettings xs → has_known_width widths s ≡ true → has_known_width widths u ≡ true →
    Meet widths (print s) (xs ++ print u ∷ cs)
meet_paint widths s u [] cs are a b = (a, b)
meet_paint widths s u (paint ss ∷ xs) cs are a b = tt
meet_paint widths s u (add k ks ∷ xs) cs are a b = tt
meet_paint widths s u (reset_modes ∷ xs) cs are a b = tt
meet_paint widths s u (place x y ∷ xs) cs are a b = tt
meet_paint widths s u (across x ∷ xs) cs are a b = tt
meet_paint widths s u (print v ∷ xs) cs are a b = absurd are
meet_paint widths s u (set_mode m on ∷ xs) cs are a b = tt

meet_move : (widths : KnownWidths) (s u : List ℕ) (b c : Bool) (x y : ℕ) (xs cs : List Command) → AreSettings xs → (b ≡ true → (has_known_width widths s ≡ true) × (has_known_width widths u ≡ true)) →
    Meet widths (print s) (cond b [] (cond c (across x ∷ []) (place x y ∷ [])) ++ (xs ++ print u ∷ cs))
meet_move widths s u true c x y xs cs are both = let h = both refl in meet_paint widths s u xs cs are h.0 h.1
meet_move widths s u false true x y xs cs are both = tt
meet_move widths s u false false x y xs cs are both = tt

pub send_split : (depth : Depth) (y : ℕ) (at : At) (p : PlacedCell) (cs : List Command) → send_one depth y at p ++ cs ≡ moves y at p ++ (paints depth at p ++ print p.cell.symbol ∷ cs)
send_split depth y at p cs =
    append_assoc (moves y at p) _ cs ∙ ap (λ (l : List Command). moves y at p ++ l) (append_assoc (paints depth at p) (print p.cell.symbol ∷ []) cs)

meet_send : (o : Output) (y : ℕ) (p : PlacedCell) (ps : List PlacedCell) → Falling o.widths (p ∷ ps) → Meet o.widths (print p.cell.symbol) (send o y (next_at o.widths p) ps)
unfolding send
meet_send o y p [] falling = tt
meet_send o y p (q ∷ qs) falling =
    let at = next_at o.widths p in
    let there : Bool = at.placed && (at.column == q.column) in
    subst (Meet o.widths (print p.cell.symbol)) (sym (send_split o.depth y at q (send o y (next_at o.widths q) qs)))
    (meet_move o.widths p.cell.symbol q.cell.symbol there (at.placed && nat_lt at.column q.column) q.column y (paints o.depth at q) (send o y (next_at o.widths q) qs)
    (paints_set o.depth at q)
    (λ is. let placed = and_parts at.placed (at.column == q.column) is in (placed.0, (falling.0 placed.0).0)))

send_apart : (o : Output) (y : ℕ) (at : At) (ps : List PlacedCell) → Falling o.widths ps → IsApart o.widths (send o y at ps)
unfolding send
send_apart o y at [] falling = tt
send_apart o y at (p ∷ ps) falling =
    let more = send_apart o y (next_at o.widths p) ps falling.1 in
    subst (IsApart o.widths) (sym (send_split o.depth y at p (send o y (next_at o.widths p) ps)))
    (move_apart o.widths (at.placed && (at.column == p.column)) (at.placed && nat_lt at.column p.column) p.column y _
    (settings_apart o.widths (paints o.depth at p) _ (paints_set o.depth at p) (meet_send o y p ps falling, more)))

send_begins : (o : Output) (y : ℕ) (ps : List PlacedCell) → Begins (send o y nothing_known ps)
unfolding send
send_begins o y [] = tt
send_begins o y (p ∷ ps) = tt

rows_begin : (o : Output) (y : ℕ) (pss : List (List PlacedCell)) → Begins (send_rows o y pss)
unfolding send_rows
rows_begin o y [] = tt
rows_begin o y (ps ∷ pss) = begins_append (send o y nothing_known ps) _ (send_begins o y ps) (rows_begin o (y + 1) pss)

rows_apart : (o : Output) (y : ℕ) (pss : List (List PlacedCell)) → Each (Falling o.widths) pss → IsApart o.widths (send_rows o y pss)
unfolding send_rows
rows_apart o y [] falling = tt
rows_apart o y (ps ∷ pss) falling =
    apart_append o.widths (send o y nothing_known ps) _ (send_apart o y nothing_known ps falling.0) (rows_apart o (y + 1) pss falling.1) (rows_begin o (y + 1) pss)

pub full_falling : (widths : KnownWidths) (left : ℕ) (rows : List (List Look)) → Each (Falling widths) (map (row_in_full widths left) rows)
full_falling widths left [] = tt
full_falling widths left (row ∷ rows) = (in_full_falling widths left (row_shown widths row), full_falling widths left rows)

pub change_falling : (widths : KnownWidths) (left : ℕ) (os ns : List (List Look)) → Each (Falling widths) (rows_sent widths left os ns)
unfolding rows_sent
change_falling widths left [] ns = tt
change_falling widths left (o ∷ os) [] = tt
change_falling widths left (o ∷ os) (n ∷ ns) = (row_falling widths left (row_shown widths o) (row_shown widths n), change_falling widths left os ns)

-- what comes before and after the cells of a frame holds no symbol
open_apart : (widths : KnownWidths) (on : Bool) → IsApart widths (cond on (set_mode synchronizing true ∷ []) [])
open_apart widths true = (tt, tt)
open_apart widths false = tt

abbrev close : Cursor → Bool → List Command
close cursor on = cursor_commands cursor ++ cond on (set_mode synchronizing false ∷ []) []

close_apart : (widths : KnownWidths) (cursor : Cursor) (on : Bool) → Begins (close cursor on) × IsApart widths (close cursor on)
close_apart widths Keep true = (tt, (tt, tt))
close_apart widths Keep false = (tt, tt)
close_apart widths Hidden true = (tt, (tt, (tt, tt)))
close_apart widths Hidden false = (tt, (tt, tt))
close_apart widths (AtPlace p) true = (tt, (tt, (tt, (tt, tt))))
close_apart widths (AtPlace p) false = (tt, (tt, (tt, tt)))

open_begins : (on : Bool) → Begins (cond on (set_mode synchronizing true ∷ []) [])
open_begins true = tt
open_begins false = tt

pub frame_begins : (o : Output) (cursor : Cursor) (y : ℕ) (pss : List (List PlacedCell)) → Begins (frame o cursor y pss)
frame_begins o cursor y pss =
    begins_append (opening o) (send_rows o y pss ++ closing o cursor) (open_begins o.synchronized)
    (begins_append (send_rows o y pss) (closing o cursor) (rows_begin o y pss) (close_apart o.widths cursor o.synchronized).0)

pub frame_apart : (o : Output) (cursor : Cursor) (y : ℕ) (pss : List (List PlacedCell)) → Each (Falling o.widths) pss → IsApart o.widths (frame o cursor y pss)
frame_apart o cursor y pss falling =
    let end = close_apart o.widths cursor o.synchronized in
    let rows = rows_apart o y pss falling in
    apart_append o.widths (opening o) (send_rows o y pss ++ closing o cursor) (open_apart o.widths o.synchronized)
    (apart_append o.widths (send_rows o y pss) (closing o cursor) rows end.1 end.0)
    (begins_append (send_rows o y pss) (closing o cursor) (rows_begin o y pss) end.0)
