-- A printable ASCII character at the beginning of a text.
use Rattle.std.proofs.Common.{◌≡◌, ℕ, ◌<◌, ◌≤◌, ◌==◌, ◌&&◌, Bool, true, false, not, List, [], ◌∷◌, ◌++◌, length, take, drop, slice_index, refl, sym, ap, ◌∙◌, arith}
use Rattle.std.specs.Prelude.{nat_le}
use Rattle.std.specs.Str.{IsUtf8}
use Rattle.std.proofs.lemmas.Bool.Decides.{nat_tests}
use Rattle.std.proofs.lemmas.List.{length-drop, take-append-drop, take_more}
use Rattle.tui_clusters.specs.Width.{width_of}
use Rattle.tui_clusters.specs.Plain.{IsPlainFirst}
use Rattle.tui_clusters.specs.Printable.{is_printable}
use Rattle.tui_clusters.proofs.OneByte.{byte_width, printable_blank, printable_range, printable_shown}
use Rattle.unicode_segmentation.specs.Grapheme.{graphemes}
use Rattle.tui_line_places.specs.Next.{IsHiddenUpTo, IsNextShown}
use Rattle.tui_line_places.specs.Places.{is_newline}
use Rattle.tui_line_places.proofs.ShownClusters.{goes_on-refl, next_shown}

no_newline : (b : ℕ) → 32 ≤ b → is_newline (b ∷ []) ≡ false
no_newline b low = grind (arith, nat_tests)

fits : (w : ℕ) → 0 < w → nat_le 1 w ≡ true
fits w some = grind (arith, nat_tests)

pub printable_next : (w : ℕ) (text rest : List ℕ) (blank : Bool) → IsUtf8 text → IsUtf8 rest → 0 < w → 0 < length text → IsPlainFirst text 1 → is_printable (slice_index text 0) ≡ true → rest ≡ drop 1 text
    → blank ≡ (slice_index text 0 == 32) → IsNextShown w text 1 blank rest
printable_next w text rest blank u v some long first printable e blank_is =
    let b = slice_index text 0 in
    let c = take 1 text in
    let one : c ≡ b ∷ [] = take_more text 0 0 (omega arith) in
    let range = printable_range b printable in
    let clusters = first.clusters ∙ ap (λ t. c ∷ t) (ap (graphemes true) (sym e)) in
    let whole = sym (take-append-drop 1 text) ∙ ap (λ t. c ++ t) (sym e) in
    let size = ap length e ∙ length-drop 1 text in
    let here : IsHiddenUpTo w text text = record { goes_on = goes_on-refl text u; shown = refl; no_longer = omega arith } in
    next_shown w text text rest c v here clusters whole (omega arith) 1 blank
    (ap is_newline one ∙ no_newline b range.0)
    (sym (ap width_of one ∙ byte_width b printable))
    (blank_is ∙ sym (printable_blank c b one range.0 range.1))
    (ap (λ n. nat_le 1 w && not n) (printable_shown c b one range.0 range.1) ∙ ap (λ n. n && true) (fits w some))
