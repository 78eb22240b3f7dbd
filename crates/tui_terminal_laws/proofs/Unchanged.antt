-- If nothing has changed, nothing is sent. Frames can follow one another.
use Rattle.std.proofs.Common.{◌≡◌, ℕ, suc, ◌+◌, ◌<◌, Bool, true, false, List, [], ◌∷◌, ◌++◌, length, cond, flat_map, get_or, refl, sym, ap, subst, ◌∙◌, inl, inr, arith}
use Rattle.tui_text.specs.Visible.{PlacedCell}
use Rattle.tui_terminal_model.specs.declared.cursor.Cursor.TheVariants.{Keep}
use Rattle.tui_terminal_model.specs.declared.depth.Depth.{Depth}
use Rattle.tui_terminal_model.specs.declared.widths.KnownWidths.{KnownWidths}
use Rattle.tui_terminal_model.specs.Pieces.{row_pieces}
use Rattle.tui_terminal_model.specs.Sends.{AreSent, IsCalm, Sends, SendsRows, cursor_commands}
use Rattle.tui_terminal_model.specs.Shows.{Shows}
use Rattle.tui_terminal_model.specs.Encoding.{encoding}
use Rattle.tui_terminal_model.specs.Terminal.{Command, Tty, synchronizing, run, set_mode}
use Rattle.tui_terminal_laws.specs.Laws.{FramesFollow, SendsNothing}
use Rattle.tui_terminal_laws.proofs.Lists.{In-to}
use Rattle.tui_terminal_laws.proofs.Pen.{run_append}

-- a row that shows what it showed before
none_sent : (widths : KnownWidths) (qs ps : List PlacedCell) → AreSent widths qs qs ps → ps ≡ []
none_sent widths qs [] are = refl
none_sent widths qs (p ∷ ps) are =
    let calm : IsCalm widths qs qs = λ q new. elim new [ inl n ↦ absurd (n.1 n.0) | inr n ↦ absurd (n.1 n.0) ] in
    let new = are.fresh calm p (In-to p (p ∷ ps) (inl refl)) in
    absurd (new.1 new.0)

nothing_here : (depth : Depth) (y : ℕ) (ps : List PlacedCell) (cs : List Command) → Sends depth y ps cs → ps ≡ [] → cs ≡ []
nothing_here depth y ps cs s none = subst (λ qs. Sends depth y qs cs) none s

nothing_sent : (depth : Depth) (y : ℕ) (pss : List (List PlacedCell)) (cs : List Command) → SendsRows depth y pss cs →
    ((k : ℕ) → k < length pss → get_or pss k [] ≡ []) → cs ≡ []
nothing_sent depth y [] cs s none = s
nothing_sent depth y (ps ∷ pss) cs s none =
    let here : s.here ≡ [] = nothing_here depth y ps s.here s.sends (none 0 (omega arith)) in
    let more : s.more ≡ [] = nothing_sent depth (y + 1) pss s.more s.sends_more (λ k lt. none (suc k) (omega arith)) in
    s.whole ∙ (λ i. here i ++ more i)

nothing_round : (on : Bool) (rows : List Command) → on ≡ false → rows ≡ [] →
    cond on (set_mode synchronizing true ∷ []) [] ++ (rows ++ (cursor_commands Keep ++ cond on (set_mode synchronizing false ∷ []) [])) ≡ []
nothing_round on rows off none = λ i. cond (off i) (set_mode synchronizing true ∷ []) [] ++ (none i ++ (cursor_commands Keep ++ cond (off i) (set_mode synchronizing false ∷ []) []))

pub unchanged_sends_nothing : SendsNothing
unchanged_sends_nothing o b text off k =
    let rows : (y : ℕ) → y < length k.sent → get_or k.sent y [] ≡ [] = λ y lt.
    let inside : y < length b.rows = omega (arith, k.counted) in
    none_sent o.widths (row_pieces o.widths b y) (get_or k.sent y []) (k.each y inside) in
    let frame = k.framed in
    let none : frame.rows ≡ [] = nothing_sent o.depth b.area.y k.sent frame.rows frame.sends rows in
    let commands : k.commands ≡ [] = frame.framed ∙ nothing_round o.synchronized frame.rows off none in
    k.encoded.encoded ∙ ap (flat_map encoding) commands

pub frames_follow : FramesFollow
frames_follow o place next_place b c first next f k knows t knows_widths room =
    subst (λ (u : Tty). Shows o knows u c) (sym (run_append knows f.commands k.commands t))
    (k.shows knows (run knows f.commands t) knows_widths (f.shows knows t knows_widths room))
