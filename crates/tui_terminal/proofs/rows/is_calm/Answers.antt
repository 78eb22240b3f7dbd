use Rattle.std.proofs.Common.{◌≡◌, ◌+◌, ◌-◌, ◌<◌, ◌≤◌, ◌&&◌, length, rules, refl, sym, ap, ◌∙◌, arith, true, false}
use Rattle.std.specs.List.{list_all}
use Rattle.tui_terminal_model.specs.Pieces.{shown, uncovered}
use Rattle.tui_terminal_model.specs.Symbols.{has_known_width}
use Rattle.tui_terminal_laws.specs.declared.wanted.Wanted.TheVariants.{Changed}
use Rattle.tui_terminal_laws.specs.Sent.{is_calm}
use Rattle.tui_terminal.specs.UncertainWidths.{is_new_uncertain}
use Rattle.tui_terminal.specs.Seeing.{cover_of, look_in, shown_in}
use Rattle.tui_terminal.proofs.Walking.{alarm_ends, calm_end, calm_more, calm_on, neither, uncertain_is, walk_begin}
use Rattle.tui_terminal.proofs.rows.is_calm.Goals as goal

pub columns-init : goal.columns-init
columns-init c = λ left.
    let a = c.args in (
      ap (list_all (λ p. has_known_width a.widths p.cell.symbol)) (walk_begin a.widths Changed left _ _ uncovered a.old.now a.new.now c.none-was.ensures c.none-is.ensures),
      ap (list_all (λ p. has_known_width a.widths p.cell.symbol)) (walk_begin a.widths Changed left _ _ uncovered a.new.now a.old.now c.none-is.ensures c.none-was.ensures),
    )

pub columns-preserved : goal.columns-preserved
columns-preserved c = λ left.
    let a = c.args in
    let l = c.columns in
    let i = l.column in
    let o = c.index-old-column.result in
    let n = c.index-new-column.result in
    let room = length a.new.now - i in
    let room_old : room ≡ length a.old.now - i = omega (arith, c.requires.0) in
    let u = cover_of l.was in
    let v = cover_of l.is in
    let b = c.see-before.result in
    let s = c.see-seen.result in
    let lt : i < length a.new.now = search (rules, arith) in
    let lt_old : i < length a.old.now = omega (arith, c.requires.0) in
    let off : c.is_alarm.result ≡ false = search rules in
    let none = neither (is_new_uncertain b s) (is_new_uncertain s b) (sym c.is_alarm.ensures ∙ off) in
    let eb = c.see-before.ensures in
    let es = c.see-seen.ensures in
    let here = uncertain_is a.widths (left + i) (shown_in b) (shown a.widths u room o) (shown a.widths v room n) s.shows (look_in s) s.known_width es.known_width eb.shown es.shown in
    let back = uncertain_is a.widths (left + i) (shown_in s) (shown a.widths v room n) (shown a.widths u room o) b.shows (look_in b) b.known_width eb.known_width es.shown eb.shown in
    let one = calm_more a.widths left i room u v (cover_of b.under) (cover_of s.under) a.old.now a.new.now o n (is_new_uncertain b s) _ lt c.requires.0
    c.index-old-column.is c.index-new-column.is refl eb.next es.next here (l.invariant left).0 in
    let other = calm_more a.widths left i room v u (cover_of s.under) (cover_of b.under) a.new.now a.old.now n o (is_new_uncertain s b) _ lt_old (sym c.requires.0)
    c.index-new-column.is c.index-old-column.is room_old es.next eb.next back (l.invariant left).1 in
    (calm_on (is_new_uncertain b s) _ _ none.0 one, calm_on (is_new_uncertain s b) _ _ none.1 other)

pub returns-then-is_alarm : goal.returns-then-is_alarm
unfolding is_calm
returns-then-is_alarm c = λ left.
    let a = c.args in
    let l = c.columns in
    let i = l.column in
    let o = c.index-old-column.result in
    let n = c.index-new-column.result in
    let room = length a.new.now - i in
    let room_old : room ≡ length a.old.now - i = omega (arith, c.requires.0) in
    let u = cover_of l.was in
    let v = cover_of l.is in
    let b = c.see-before.result in
    let s = c.see-seen.result in
    let lt : i < length a.new.now = search (rules, arith) in
    let lt_old : i < length a.old.now = omega (arith, c.requires.0) in
    let on : c.is_alarm.result ≡ true = search rules in
    let eb = c.see-before.ensures in
    let es = c.see-seen.ensures in
    let here = uncertain_is a.widths (left + i) (shown_in b) (shown a.widths u room o) (shown a.widths v room n) s.shows (look_in s) s.known_width es.known_width eb.shown es.shown in
    let back = uncertain_is a.widths (left + i) (shown_in s) (shown a.widths v room n) (shown a.widths u room o) b.shows (look_in b) b.known_width eb.known_width es.shown eb.shown in
    let one = calm_more a.widths left i room u v (cover_of b.under) (cover_of s.under) a.old.now a.new.now o n (is_new_uncertain b s) _ lt c.requires.0
    c.index-old-column.is c.index-new-column.is refl eb.next es.next here (l.invariant left).0 in
    let other = calm_more a.widths left i room v u (cover_of s.under) (cover_of b.under) a.new.now a.old.now n o (is_new_uncertain s b) _ lt_old (sym c.requires.0)
    c.index-new-column.is c.index-old-column.is room_old es.next eb.next back (l.invariant left).1 in
    alarm_ends (is_new_uncertain b s) (is_new_uncertain s b) _ _ _ _ (sym c.is_alarm.ensures ∙ on) one other

pub returns : goal.returns
unfolding is_calm
returns c = λ left.
    let a = c.args in
    let l = c.columns in
    let past : length a.new.now ≤ l.column = search (rules, arith) in
    let past_old : length a.old.now ≤ l.column = omega (arith, c.requires.0) in
    let one = calm_end a.widths left l.column (cover_of l.was) (cover_of l.is) a.old.now a.new.now past ∙ (l.invariant left).0 in
    let other = calm_end a.widths left l.column (cover_of l.is) (cover_of l.was) a.new.now a.old.now past_old ∙ (l.invariant left).1 in
    λ j. one j && other j
