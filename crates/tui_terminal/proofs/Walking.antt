-- Along the cells of a row.
use Rattle.std.proofs.Common.{◌≡◌, ℕ, ◌+◌, ◌-◌, ◌<◌, ◌≤◌, Bool, true, false, not, ◌&&◌, ◌||◌, List, [], ◌∷◌, ◌++◌, length, get_or, drop, flat_map, cond, refl, sym, ap, ◌∙◌, append_assoc, add-one, arith}
use Rattle.std.specs.Prelude.{Option, None, Some}
use Rattle.std.specs.List.{list_all}
use Rattle.std.proofs.lemmas.List.{append-nil, drop_all, length-drop}
use Rattle.std.proofs.lemmas.Grind.{flat_map-append}
use Rattle.std.proofs.lemmas.Bool.{cond-true, cond-false, true≢false}
use Rattle.std.proofs.Math.Seq.{drop-cons}
use Rattle.tui_cells.specs.Cell.{Look}
use Rattle.tui_text.specs.Visible.{PlacedCell}
use Rattle.tui_terminal_model.specs.declared.output.Output.{Output}
use Rattle.tui_terminal_model.specs.declared.widths.KnownWidths.{KnownWidths}
use Rattle.tui_terminal_model.specs.Pieces.{Cover, next_cover, shown, shown_row}
use Rattle.tui_terminal_model.specs.Encoding.{encoding}
use Rattle.tui_terminal_model.specs.Symbols.{has_known_width}
use Rattle.tui_terminal_model.specs.Terminal.{Command}
use Rattle.tui_terminal_laws.specs.declared.at.At.{At}
use Rattle.tui_terminal_laws.specs.declared.wanted.Wanted.{Wanted}
use Rattle.tui_terminal_laws.specs.declared.wanted.Wanted.TheVariants.{Changed}
use Rattle.tui_terminal_laws.specs.Sent.{is_shown, sent, sent_here}
use Rattle.tui_terminal_laws.specs.Sending.{at_after, next_at, send, send_one}
use Rattle.tui_terminal.specs.Sent.{is_of_pass, pass_of, placed_if, shows_same}

-- ---- the commands of some cells, and of some more

pub at_append : (widths : KnownWidths) (at : At) (ps qs : List PlacedCell) → at_after widths at (ps ++ qs) ≡ at_after widths (at_after widths at ps) qs
unfolding at_after
at_append widths at [] qs = refl
at_append widths at (p ∷ ps) qs = at_append widths (next_at widths p) ps qs

send_split : (o : Output) (y : ℕ) (at : At) (ps qs : List PlacedCell) → send o y at (ps ++ qs) ≡ send o y at ps ++ send o y (at_after o.widths at ps) qs
unfolding send at_after
send_split o y at [] qs = refl
send_split o y at (p ∷ ps) qs =
    ap (λ (cs : List Command). send_one o.depth y at p ++ cs) (send_split o y (next_at o.widths p) ps qs)
    ∙ sym (append_assoc (send_one o.depth y at p) (send o y (next_at o.widths p) ps) _)

pub send_more : (o : Output) (y : ℕ) (at now : At) (ps qs : List PlacedCell) → now ≡ at_after o.widths at ps →
    flat_map encoding (send o y at ps) ++ flat_map encoding (send o y now qs) ≡ flat_map encoding (send o y at (ps ++ qs))
send_more o y at now ps qs e =
    ap (λ (k : At). flat_map encoding (send o y at ps) ++ flat_map encoding (send o y k qs)) e
    ∙ (sym (flat_map-append encoding (send o y at ps) (send o y (at_after o.widths at ps) qs)) ∙ ap (flat_map encoding) (sym (send_split o y at ps qs)))

pub send_none : (o : Output) (y : ℕ) (at : At) → [] ≡ flat_map encoding (send o y at [])
unfolding send
send_none o y at = refl

pub at_none : (widths : KnownWidths) (at : At) → at ≡ at_after widths at []
unfolding at_after
at_none widths at = refl

-- ---- one cell

abbrev in_column : ℕ → Look → PlacedCell
in_column column c = record { column = column; cell = c }

wanted_here : (wanted : Bool) (column : ℕ) (c : Look) → wanted ≡ true → placed_if wanted column c ≡ in_column column c ∷ []
wanted_here wanted column c e = cond-true wanted (in_column column c ∷ []) [] e

not_here : (wanted : Bool) (column : ℕ) (c : Look) → wanted ≡ false → placed_if wanted column c ≡ []
not_here wanted column c e = cond-false wanted (in_column column c ∷ []) [] e

pub here_text : (o : Output) (y : ℕ) (at : At) (wanted : Bool) (column : ℕ) (c : Look) → wanted ≡ true →
    flat_map encoding (send_one o.depth y at (record { column = column; cell = c })) ≡ flat_map encoding (send o y at (placed_if wanted column c))
unfolding send
here_text o y at wanted column c e =
    ap (flat_map encoding) (sym (append-nil (send_one o.depth y at (in_column column c))))
    ∙ sym (ap (λ (ps : List PlacedCell). flat_map encoding (send o y at ps)) (wanted_here wanted column c e))

pub here_next : (o : Output) (at : At) (wanted : Bool) (column : ℕ) (c : Look) → wanted ≡ true →
    next_at o.widths (record { column = column; cell = c }) ≡ at_after o.widths at (placed_if wanted column c)
unfolding at_after
here_next o at wanted column c e = sym (ap (at_after o.widths at) (wanted_here wanted column c e))

pub none_text : (o : Output) (y : ℕ) (at : At) (wanted : Bool) (column : ℕ) (c : Look) → wanted ≡ false →
    [] ≡ flat_map encoding (send o y at (placed_if wanted column c))
none_text o y at wanted column c e = send_none o y at ∙ sym (ap (λ (ps : List PlacedCell). flat_map encoding (send o y at ps)) (not_here wanted column c e))

pub none_next : (o : Output) (at : At) (wanted : Bool) (column : ℕ) (c : Look) → wanted ≡ false → at ≡ at_after o.widths at (placed_if wanted column c)
none_next o at wanted column c e = at_none o.widths at ∙ sym (ap (at_after o.widths at) (not_here wanted column c e))

-- ---- which cells

-- what is sent of one column
abbrev pub sent_in : KnownWidths → Wanted → ℕ → Option Look → Option Look → List PlacedCell
sent_in widths w column o None = []
sent_in widths w column o (Some n) = sent_here widths w column o n

abbrev pub maybe : Bool → Look → Option Look
maybe shows c = cond shows (Some c) None

pub here_new : (widths : KnownWidths) (column : ℕ) (o : Option Look) (shows : Bool) (c : Look) →
    placed_if (shows && not (shows_same o c)) column c ≡ sent_in widths Changed column o (maybe shows c)
unfolding is_shown
here_new widths column None true c = refl
here_new widths column (Some o) true c = refl
here_new widths column o false c = refl

pub here_pass : (widths : KnownWidths) (column : ℕ) (o : Option Look) (uncertain shows : Bool) (c : Look) →
    placed_if (shows && is_of_pass uncertain (has_known_width widths c.symbol)) column c ≡ sent_in widths (pass_of uncertain) column o (maybe shows c)
here_pass widths column o true true c = refl
here_pass widths column o false true c = refl
here_pass widths column o uncertain false c = refl

-- the same, with the values that the code has computed
pub pass_is : (widths : KnownWidths) (column : ℕ) (o n : Option Look) (uncertain shows wanted known_width : Bool) (c : Look) →
    wanted ≡ (shows && is_of_pass uncertain known_width) → known_width ≡ has_known_width widths c.symbol → maybe shows c ≡ n → placed_if wanted column c ≡ sent_in widths (pass_of uncertain) column o n
pass_is widths column o n uncertain shows wanted known_width c ew et en =
    ap (λ (b : Bool). placed_if b column c) (ew ∙ ap (λ (b : Bool). shows && is_of_pass uncertain b) et) ∙ (here_pass widths column o uncertain shows c ∙ ap (sent_in widths (pass_of uncertain) column o) en)

pub new_is : (widths : KnownWidths) (column : ℕ) (o m n : Option Look) (shows wanted : Bool) (c : Look) →
    wanted ≡ (shows && not (shows_same o c)) → o ≡ m → maybe shows c ≡ n → placed_if wanted column c ≡ sent_in widths Changed column m n
new_is widths column o m n shows wanted c ew em en =
    ap (λ (b : Bool). placed_if b column c) ew ∙ (here_new widths column o shows c ∙ (λ j. sent_in widths Changed column (em j) (en j)))

-- ---- along a row

pub dropped : {X : Type 0} (xs : List X) (i : ℕ) (x : X) → i < length xs → x ≡ get_or xs i x → drop i xs ≡ x ∷ drop (i + 1) xs
dropped xs i x lt e = let first : drop i xs ≡ get_or xs i x ∷ drop (i + 1) xs = rw (add-one, drop-cons xs i x lt) refl in first ∙ ap (λ y. y ∷ drop (i + 1) xs) (sym e)

sent_next : (widths : KnownWidths) (w : Wanted) (column : ℕ) (o n : Option Look) (os ns : List (Option Look)) →
    sent widths w column (o ∷ os) (n ∷ ns) ≡ sent_in widths w column o n ++ sent widths w (column + 1) os ns
unfolding sent
sent_next widths w column o None os ns = refl
sent_next widths w column o (Some n) os ns = refl

-- what shows from one column on
shown_step : (widths : KnownWidths) (u v : Cover) (i room : ℕ) (row : List Look) (c : Look) → i < length row → c ≡ get_or row i c → room ≡ length row - i →
    v ≡ next_cover widths u room c → shown_row widths u (drop i row) ≡ shown widths u room c ∷ shown_row widths v (drop (i + 1) row)
unfolding shown_row
shown_step widths u v i room row c lt is size next =
    let first = dropped row i c lt is in
    let rest : 1 + length (drop (i + 1) row) ≡ room = omega (arith, length-drop (i + 1) row) in
    ap (shown_row widths u) first
    ∙ ((λ j. shown widths u (rest j) c ∷ shown_row widths (next_cover widths u (rest j) c) (drop (i + 1) row))
    ∙ ap (λ (k : Cover). shown widths u room c ∷ shown_row widths k (drop (i + 1) row)) (sym next))

pub walk_step : (widths : KnownWidths) (w : Wanted) (left i room : ℕ) (u v u' v' : Cover) (olds news : List Look) (o n : Look) →
    i < length news → length olds ≡ length news → o ≡ get_or olds i o → n ≡ get_or news i n → room ≡ length news - i →
    u' ≡ next_cover widths u room o → v' ≡ next_cover widths v room n →
    sent widths w (left + i) (shown_row widths u (drop i olds)) (shown_row widths v (drop i news))
    ≡ sent_in widths w (left + i) (shown widths u room o) (shown widths v room n)
    ++ sent widths w (left + (i + 1)) (shown_row widths u' (drop (i + 1) olds)) (shown_row widths v' (drop (i + 1) news))
walk_step widths w left i room u v u' v' olds news o n lt len eo en size eu ev =
    let lt_old : i < length olds = omega arith in
    let size_old : room ≡ length olds - i = omega arith in
    let os = shown_step widths u u' i room olds o lt_old eo size_old eu in
    let ns = shown_step widths v v' i room news n lt en size ev in
    let column : left + i + 1 ≡ left + (i + 1) = omega arith in
    (λ j. sent widths w (left + i) (os j) (ns j))
    ∙ (sent_next widths w (left + i) (shown widths u room o) (shown widths v room n) (shown_row widths u' (drop (i + 1) olds)) (shown_row widths v' (drop (i + 1) news))
    ∙ ap (λ k. sent_in widths w (left + i) (shown widths u room o) (shown widths v room n) ++ sent widths w k (shown_row widths u' (drop (i + 1) olds)) (shown_row widths v' (drop (i + 1) news))) column)

pub walk_more : (widths : KnownWidths) (w : Wanted) (left i room : ℕ) (u v u' v' : Cover) (olds news : List Look) (o n : Look) (here done whole : List PlacedCell) →
    i < length news → length olds ≡ length news → o ≡ get_or olds i o → n ≡ get_or news i n → room ≡ length news - i →
    u' ≡ next_cover widths u room o → v' ≡ next_cover widths v room n →
    here ≡ sent_in widths w (left + i) (shown widths u room o) (shown widths v room n) →
    done ++ sent widths w (left + i) (shown_row widths u (drop i olds)) (shown_row widths v (drop i news)) ≡ whole →
    (done ++ here) ++ sent widths w (left + (i + 1)) (shown_row widths u' (drop (i + 1) olds)) (shown_row widths v' (drop (i + 1) news)) ≡ whole
walk_more widths w left i room u v u' v' olds news o n here done whole lt len eo en size eu ev eh before =
    let more = sent widths w (left + (i + 1)) (shown_row widths u' (drop (i + 1) olds)) (shown_row widths v' (drop (i + 1) news)) in
    append_assoc done here more
    ∙ (ap (λ (ps : List PlacedCell). done ++ (ps ++ more)) eh
    ∙ (ap (λ (ps : List PlacedCell). done ++ ps) (sym (walk_step widths w left i room u v u' v' olds news o n lt len eo en size eu ev)) ∙ before))

none_more : (widths : KnownWidths) (w : Wanted) (column : ℕ) (v : Cover) (os : List (Option Look)) → sent widths w column os (shown_row widths v []) ≡ []
unfolding sent shown_row
none_more widths w column v [] = refl
none_more widths w column v (o ∷ os) = refl

walk_none : (widths : KnownWidths) (w : Wanted) (left i : ℕ) (u v : Cover) (olds news : List Look) → length news ≤ i →
    sent widths w (left + i) (shown_row widths u (drop i olds)) (shown_row widths v (drop i news)) ≡ []
walk_none widths w left i u v olds news le =
    ap (λ (ns : List Look). sent widths w (left + i) (shown_row widths u (drop i olds)) (shown_row widths v ns)) (drop_all i news le)
    ∙ none_more widths w (left + i) v (shown_row widths u (drop i olds))

pub walk_end : (widths : KnownWidths) (w : Wanted) (left i : ℕ) (u v : Cover) (olds news : List Look) (done whole : List PlacedCell) → length news ≤ i →
    done ++ sent widths w (left + i) (shown_row widths u (drop i olds)) (shown_row widths v (drop i news)) ≡ whole → done ≡ whole
walk_end widths w left i u v olds news done whole le before =
    sym (append-nil done) ∙ (ap (λ (ps : List PlacedCell). done ++ ps) (sym (walk_none widths w left i u v olds news le)) ∙ before)

pub walk_begin : (widths : KnownWidths) (w : Wanted) (left : ℕ) (u v x : Cover) (olds news : List Look) → u ≡ x → v ≡ x →
    sent widths w (left + 0) (shown_row widths u olds) (shown_row widths v news) ≡ sent widths w left (shown_row widths x olds) (shown_row widths x news)
walk_begin widths w left u v x olds news eu ev =
    let column : left + 0 ≡ left = omega arith in
    λ j. sent widths w (column j) (shown_row widths (eu j) olds) (shown_row widths (ev j) news)

-- ---- whether no symbol of uncertain width appears or disappears

abbrev pub knows_widths : KnownWidths → PlacedCell → Bool
knows_widths widths p = has_known_width widths p.cell.symbol

pub all_append : (widths : KnownWidths) (xs ys : List PlacedCell) → list_all (knows_widths widths) (xs ++ ys) ≡ (list_all (knows_widths widths) xs && list_all (knows_widths widths) ys)
all_append widths [] ys = refl
all_append widths (x ∷ xs) ys =
    elim (knows_widths widths x) as (λ b. (b && list_all (knows_widths widths) (xs ++ ys)) ≡ ((b && list_all (knows_widths widths) xs) && list_all (knows_widths widths) ys)) [ true ↦ all_append widths xs ys | false ↦ refl ]

all_here : (widths : KnownWidths) (b t : Bool) (column : ℕ) (c : Look) → has_known_width widths c.symbol ≡ t →
    list_all (knows_widths widths) (cond (not b) (in_column column c ∷ []) []) ≡ not (not t && not b)
all_here widths true true column c e = refl
all_here widths true false column c e = refl
all_here widths false true column c e = ap (λ (k : Bool). k && true) e
all_here widths false false column c e = ap (λ (k : Bool). k && true) e

-- in a column no such symbol appears exactly if what is sent of it has a known width
pub calm_here : (widths : KnownWidths) (column : ℕ) (o : Option Look) (shows : Bool) (c : Look) →
    list_all (knows_widths widths) (sent_in widths Changed column o (maybe shows c)) ≡ not ((shows && not (has_known_width widths c.symbol)) && not (shows_same o c))
unfolding is_shown
calm_here widths column None true c = all_here widths false (has_known_width widths c.symbol) column c refl
calm_here widths column (Some o) true c = all_here widths (shows_same (Some o) c) (has_known_width widths c.symbol) column c refl
calm_here widths column o false c = refl

pub calm_more : (widths : KnownWidths) (left i room : ℕ) (u v u' v' : Cover) (olds news : List Look) (o n : Look) (alarm whole : Bool) →
    i < length news → length olds ≡ length news → o ≡ get_or olds i o → n ≡ get_or news i n → room ≡ length news - i →
    u' ≡ next_cover widths u room o → v' ≡ next_cover widths v room n →
    not alarm ≡ list_all (λ p. has_known_width widths p.cell.symbol) (sent_in widths Changed (left + i) (shown widths u room o) (shown widths v room n)) →
    list_all (λ p. has_known_width widths p.cell.symbol) (sent widths Changed (left + i) (shown_row widths u (drop i olds)) (shown_row widths v (drop i news))) ≡ whole →
    (not alarm && list_all (λ p. has_known_width widths p.cell.symbol) (sent widths Changed (left + (i + 1)) (shown_row widths u' (drop (i + 1) olds)) (shown_row widths v' (drop (i + 1) news)))) ≡ whole
calm_more widths left i room u v u' v' olds news o n alarm whole lt len eo en size eu ev ea before =
    let here = sent_in widths Changed (left + i) (shown widths u room o) (shown widths v room n) in
    let more = sent widths Changed (left + (i + 1)) (shown_row widths u' (drop (i + 1) olds)) (shown_row widths v' (drop (i + 1) news)) in
    ap (λ (b : Bool). b && list_all (knows_widths widths) more) ea
    ∙ (sym (all_append widths here more) ∙ (ap (list_all (knows_widths widths)) (sym (walk_step widths Changed left i room u v u' v' olds news o n lt len eo en size eu ev)) ∙ before))

pub calm_end : (widths : KnownWidths) (left i : ℕ) (u v : Cover) (olds news : List Look) → length news ≤ i →
    true ≡ list_all (λ p. has_known_width widths p.cell.symbol) (sent widths Changed (left + i) (shown_row widths u (drop i olds)) (shown_row widths v (drop i news)))
calm_end widths left i u v olds news le = ap (list_all (knows_widths widths)) (sym (walk_none widths Changed left i u v olds news le))

-- the same, with the values that the code has computed
pub uncertain_is : (widths : KnownWidths) (column : ℕ) (o m n : Option Look) (shows : Bool) (c : Look) (known_width : Bool) → known_width ≡ has_known_width widths c.symbol → o ≡ m → maybe shows c ≡ n →
    not ((shows && not known_width) && not (shows_same o c)) ≡ list_all (λ p. has_known_width widths p.cell.symbol) (sent_in widths Changed column m n)
uncertain_is widths column o m n shows c known_width et em en =
    ap (λ (b : Bool). not ((shows && not b) && not (shows_same o c))) et
    ∙ sym (calm_here widths column o shows c) ∙ (λ j. list_all (knows_widths widths) (sent_in widths Changed column (em j) (en j)))

-- ---- two rows

and_false : (a : Bool) → (a && false) ≡ false
and_false true = refl
and_false false = refl

pub neither : (a b : Bool) → (a || b) ≡ false → (a ≡ false) × (b ≡ false)
neither true b e = absurd (true≢false e)
neither false b e = (refl, e)

pub calm_on : (alarm rest whole : Bool) → alarm ≡ false → (not alarm && rest) ≡ whole → rest ≡ whole
calm_on alarm rest whole off e = ap (λ (b : Bool). not b && rest) (sym off) ∙ e

pub alarm_ends : (a b rest more one other : Bool) → (a || b) ≡ true → (not a && rest) ≡ one → (not b && more) ≡ other → false ≡ (one && other)
alarm_ends true b rest more one other on e f = ap (λ (k : Bool). k && other) e
alarm_ends false true rest more one other on e f = sym (and_false one) ∙ ap (λ (k : Bool). one && k) f
alarm_ends false false rest more one other on e f = absurd (true≢false (sym on))
