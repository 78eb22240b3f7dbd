-- Along the rows of a screen.
use Rattle.std.proofs.Common.{◌≡◌, ℕ, ◌+◌, ◌<◌, ◌≤◌, Bool, true, false, List, [], ◌∷◌, ◌++◌, length, map, get_or, drop, flat_map, refl, sym, ap, ◌∙◌, append_assoc, add-one, arith}
use Rattle.std.specs.Prelude.{codes, if◌then◌else◌}
use Rattle.std.proofs.lemmas.List.{append-nil, drop_all}
use Rattle.std.proofs.lemmas.Grind.{flat_map-append}
use Rattle.std.proofs.lemmas.List.Concat.{flat_map-cons}
use Rattle.std.proofs.lemmas.Bool.{cond-true, cond-false}
use Rattle.std.proofs.Math.Seq.{drop-cons}
use Rattle.tui_cells.specs.Cell.{Look}
use Rattle.tui_cells.specs.declared.rect.Rect.{Rect}
use Rattle.tui_terminal_model.specs.declared.output.Output.{Output}
use Rattle.tui_terminal_model.specs.Calls.{grave, mend}
use Rattle.tui_terminal_model.specs.Encoding.{csi, encoding}
use Rattle.tui_terminal_model.specs.Terminal.{Command, paint, place, print}
use Rattle.tui_terminal_laws.specs.Sending.{nothing_known, row_in_full, row_changes, rows_sent, send, send_rows}
use Rattle.tui_terminal.proofs.Texts.{more_text, one_text}

-- the next row
row_next : (rows : List (List Look)) (i : ℕ) (row : List Look) → i < length rows → row ≡ get_or rows i [] → drop i rows ≡ row ∷ drop (i + 1) rows
row_next rows i row lt is =
    let first : drop i rows ≡ get_or rows i [] ∷ drop (i + 1) rows = rw (add-one, drop-cons rows i [] lt) refl in
    first ∙ ap (λ (r : List Look). r ∷ drop (i + 1) rows) (sym is)

-- ---- all rows

pub rows_begin : (o : Output) (y left : ℕ) (rows : List (List Look)) →
    [] ++ flat_map encoding (send_rows o (y + 0) (map (row_in_full o.widths left) rows)) ≡ flat_map encoding (send_rows o y (map (row_in_full o.widths left) rows))
rows_begin o y left rows =
    let same : y + 0 ≡ y = omega arith in ap (λ k. flat_map encoding (send_rows o k (map (row_in_full o.widths left) rows))) same

pub rows_more : (o : Output) (y left i : ℕ) (rows : List (List Look)) (row : List Look) (text whole : List ℕ) → i < length rows → row ≡ get_or rows i [] →
    text ++ flat_map encoding (send_rows o (y + i) (map (row_in_full o.widths left) (drop i rows))) ≡ whole →
    (text ++ flat_map encoding (send o (y + i) nothing_known (row_in_full o.widths left row)))
    ++ flat_map encoding (send_rows o (y + (i + 1)) (map (row_in_full o.widths left) (drop (i + 1) rows))) ≡ whole
unfolding send_rows
rows_more o y left i rows row text whole lt is before =
    let first = row_next rows i row lt is in
    let down : y + i + 1 ≡ y + (i + 1) = omega arith in
    let here = send o (y + i) nothing_known (row_in_full o.widths left row) in
    append_assoc text (flat_map encoding here) _
    ∙ (ap (λ (l : List ℕ). text ++ l) (
    (λ j. flat_map encoding here ++ flat_map encoding (send_rows o (sym down j) (map (row_in_full o.widths left) (drop (i + 1) rows))))
    ∙ (sym (flat_map-append encoding here _)
    ∙ ap (λ (rs : List (List Look)). flat_map encoding (send_rows o (y + i) (map (row_in_full o.widths left) rs))) (sym first))
    ) ∙ before)

pub rows_end : (o : Output) (y left i : ℕ) (rows : List (List Look)) (text whole : List ℕ) → length rows ≤ i →
    text ++ flat_map encoding (send_rows o (y + i) (map (row_in_full o.widths left) (drop i rows))) ≡ whole → text ≡ whole
unfolding send_rows
rows_end o y left i rows text whole le before =
    sym (append-nil text)
    ∙ (ap (λ (rs : List (List Look)). text ++ flat_map encoding (send_rows o (y + i) (map (row_in_full o.widths left) rs))) (sym (drop_all i rows le)) ∙ before)

-- ---- what has changed

pub changes_begin : (o : Output) (y left : ℕ) (olds news : List (List Look)) →
    [] ++ flat_map encoding (send_rows o (y + 0) (rows_sent o.widths left olds news)) ≡ flat_map encoding (send_rows o y (rows_sent o.widths left olds news))
changes_begin o y left olds news = let same : y + 0 ≡ y = omega arith in ap (λ k. flat_map encoding (send_rows o k (rows_sent o.widths left olds news))) same

pub changes_more : (o : Output) (y left i : ℕ) (olds news : List (List Look)) (before now : List Look) (text whole : List ℕ) → i < length news → length olds ≡ length news →
    before ≡ get_or olds i [] → now ≡ get_or news i [] →
    text ++ flat_map encoding (send_rows o (y + i) (rows_sent o.widths left (drop i olds) (drop i news))) ≡ whole →
    (text ++ flat_map encoding (send o (y + i) nothing_known (row_changes o.widths left before now)))
    ++ flat_map encoding (send_rows o (y + (i + 1)) (rows_sent o.widths left (drop (i + 1) olds) (drop (i + 1) news))) ≡ whole
unfolding send_rows rows_sent
changes_more o y left i olds news before now text whole lt len eo en so_far =
    let lt_old : i < length olds = omega arith in
    let os = row_next olds i before lt_old eo in
    let ns = row_next news i now lt en in
    let down : y + i + 1 ≡ y + (i + 1) = omega arith in
    let here = send o (y + i) nothing_known (row_changes o.widths left before now) in
    append_assoc text (flat_map encoding here) _
    ∙ (ap (λ (l : List ℕ). text ++ l) (
    (λ j. flat_map encoding here ++ flat_map encoding (send_rows o (sym down j) (rows_sent o.widths left (drop (i + 1) olds) (drop (i + 1) news))))
    ∙ (sym (flat_map-append encoding here _)
    ∙ (λ j. flat_map encoding (send_rows o (y + i) (rows_sent o.widths left (sym os j) (sym ns j)))))
    ) ∙ so_far)

pub changes_end : (o : Output) (y left i : ℕ) (olds news : List (List Look)) (text whole : List ℕ) → length olds ≤ i →
    text ++ flat_map encoding (send_rows o (y + i) (rows_sent o.widths left (drop i olds) (drop i news))) ≡ whole → text ≡ whole
unfolding send_rows rows_sent
changes_end o y left i olds news text whole le before =
    sym (append-nil text)
    ∙ (ap (λ (rs : List (List Look)). text ++ flat_map encoding (send_rows o (y + i) (rows_sent o.widths left rs (drop i news)))) (sym (drop_all i olds le)) ∙ before)

-- ---- what comes before and after

pub kept_in : (b : Bool) (x : Command) → b ≡ true → encoding x ≡ flat_map encoding (if b then x ∷ [] else [])
kept_in b x e = sym (ap (flat_map encoding) (cond-true b (x ∷ []) [] e) ∙ one_text encoding x)

pub kept_out : (b : Bool) (x : Command) → b ≡ false → [] ≡ flat_map encoding (if b then x ∷ [] else [])
kept_out b x e = sym (ap (flat_map encoding) (cond-false b (x ∷ []) [] e))

pub two_text : (x y : Command) → encoding x ++ encoding y ≡ flat_map encoding (x ∷ y ∷ [])
two_text x y = ap (λ (l : List ℕ). encoding x ++ l) (sym (one_text encoding y)) ∙ sym (flat_map-cons encoding x (y ∷ []))

pub frame_text : (before rows following : List Command) →
    flat_map encoding before ++ (flat_map encoding rows ++ flat_map encoding following) ≡ flat_map encoding (before ++ (rows ++ following))
frame_text before rows following = more_text encoding before (rows ++ following) _ (more_text encoding rows following _ refl)

pub whole_text : (first : Command) (mend before rows following : List Command) →
    encoding first ++ (flat_map encoding mend ++ (flat_map encoding before ++ (flat_map encoding rows ++ flat_map encoding following)))
    ≡ flat_map encoding (first ∷ (mend ++ (before ++ (rows ++ following))))
whole_text first mend before rows following =
    ap (λ (l : List ℕ). encoding first ++ l) (more_text encoding mend (before ++ (rows ++ following)) _ (frame_text before rows following))
    ∙ sym (flat_map-cons encoding first (mend ++ (before ++ (rows ++ following))))

pub mend_text : (area : Rect) → encoding (place area.x area.y) ++ (csi ++ (codes "0" ++ (codes "m" ++ grave))) ≡ flat_map encoding (mend area)
unfolding encoding
mend_text area =
    let move = place area.x area.y in
    ap (λ (l : List ℕ). encoding move ++ l) (two_text (paint []) (print grave)) ∙ sym (flat_map-cons encoding move (paint [] ∷ print grave ∷ []))
