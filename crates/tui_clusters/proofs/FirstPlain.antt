-- A plain character that its first bytes identify, before another one or at the end of the text.
use Rattle.std.proofs.Common.{◌≡◌, ℕ, ◌+◌, ◌<◌, ◌≤◌, Bool, true, List, [], ◌++◌, length, length-append, length-drop, take, drop, take_at, get_or, get_or-drop, append-nil, ⊎_elim, sym, ap, subst, ◌∙◌, arith}
use lib.Utf8.{encode}
use Rattle.std.specs.Str.{IsUtf8, IsCharBoundary}
use Rattle.std.proofs.lemmas.Bool.{cases_lt}
use Rattle.std.proofs.lemmas.Str.{IsUtf8-drop, IsUtf8-take, IsCharBoundary-end}
use Rattle.ucd_table.specs.Rows.{Range}
use Rattle.unicode_segmentation.specs.Grapheme.{graphemes}
use Rattle.tui_clusters.specs.Plain.{is_sign_start, plain_len, sign_ranges, known_ranges, IsPlainChar, IsPlainFirst, IsSeam}
use Rattle.tui_clusters.specs.Printable.{is_printable}
use Rattle.tui_clusters.proofs.LeadBytes.{Begins, no_continuation, printable_lead, sign_first, known_first}
use Rattle.tui_clusters.proofs.PlainChars.{graphemes-plain, plain_shown, IsPlainChar-from}
use Rattle.tui_clusters.proofs.Seams.{graphemes-part}

module _ (ranges : List Range) (text : List ℕ) (u : IsUtf8 text) (n : ℕ) (b : Begins ranges text n) where
  first : take n text ≡ encode b.char
  first = ap (take n) b.split ∙ take_at (encode b.char) b.rest n b.size

  fits : n ≤ length text
  fits = let size = ap length b.split ∙ length-append (encode b.char) b.rest in let own = b.size in omega arith

  whole : IsCharBoundary text n → (n < length text → IsSeam text n) → IsPlainFirst text n
  whole cut seam =
      let one : IsPlainChar (take n text) =
      IsPlainChar-from (take n text) [] b.char (IsUtf8-take text n u cut) (first ∙ sym (append-nil (encode b.char))) (omega arith) b.plain in
      record {
        boundary = cut;
        clusters = graphemes-part text n u fits seam ∙ ap (λ t. t ++ graphemes true (drop n text)) (graphemes-plain (take n text) one);
        shown = plain_shown (take n text) one;
      }

  -- at the end of the text
  first_alone : length text ≤ n → IsPlainFirst text n
  first_alone ends =
      let is : n ≡ length text = let f = fits in omega arith in
      whole (subst (λ m. IsCharBoundary text m) (sym is) (IsCharBoundary-end text)) (λ less. absurd (omega arith))

  -- before another one
  seam_of_two : n < length text → 0 < plain_len (get_or text n 0) → IsSeam text n
  seam_of_two less h =
      let cut : IsCharBoundary text n = (fits, λ _ high. no_continuation (get_or text n 0) high h) in
      let here : get_or (drop n text) 0 0 ≡ get_or text n 0 = get_or-drop n text 0 0 ∙ ap (λ i. get_or text i 0) (let e : n + 0 ≡ n = omega arith in e) in
      let next = known_first (drop n text) (plain_len (get_or text n 0)) (IsUtf8-drop text n u cut) (omega (arith, length-drop n text)) (sym (ap plain_len here)) h in
      record {
        boundary = cut;
        front = [];
        last = b.char;
        next = next.char;
        back = next.rest;
        before = first ∙ sym (append-nil (encode b.char));
        after = next.split;
        last_plain = b.plain;
        next_plain = next.plain;
      }

  first_of_two : n < length text → 0 < plain_len (get_or text n 0) → IsPlainFirst text n
  first_of_two less h = let s = seam_of_two less h in whole s.boundary (λ _. s)

-- likewise for the bytes that a function reads
module _ (text bytes : List ℕ) (n : ℕ) (u : IsUtf8 text) (some : 0 < length text) (e : bytes ≡ text) (is : n ≡ plain_len (get_or bytes 0 0)) (h : 0 < n) where
  begun : Begins (known_ranges n) text n
  begun = known_first text n u some (is ∙ ap (λ t. plain_len (get_or t 0 0)) e) h

  pub quick_alone : length bytes ≤ n → IsPlainFirst text n
  quick_alone ends = first_alone (known_ranges n) text u n begun (let size = ap length e in omega arith)

  pub quick_before : (m : ℕ) → n < length bytes → m ≡ plain_len (get_or bytes n 0) → 0 < m → IsPlainFirst text n
  quick_before m less next more =
      let size = ap length e in
      let following = next ∙ ap (λ t. plain_len (get_or t n 0)) e in
      first_of_two (known_ranges n) text u n begun (omega arith) (omega arith)

-- a printable byte before another one, and at the end of the text
pub quick_printable : (text bytes : List ℕ) → IsUtf8 text → 0 < length text → bytes ≡ text → is_printable (get_or bytes 0 0) ≡ true
    → (1 < length bytes → is_printable (get_or bytes 1 0) ≡ true) → IsPlainFirst text 1
quick_printable text bytes u some e first second =
    let one : 1 ≡ plain_len (get_or bytes 0 0) = sym (printable_lead (get_or bytes 0 0) first) in
    ⊎_elim
    (λ less. quick_alone text bytes 1 u some e one (omega arith) (omega arith))
    (λ more. quick_before text bytes 1 u some e one (omega arith) 1 (omega arith) (sym (printable_lead (get_or bytes 1 0) (second (omega arith)))) (omega arith))
    (cases_lt (length bytes) 2)

-- after a sign, before a plain character that its first byte identifies
pub sign_before : (text bytes : List ℕ) (start : Bool) (n : ℕ) → IsUtf8 text → bytes ≡ text → start ≡ is_sign_start (get_or bytes 0 0) (get_or bytes 1 0) → start ≡ true
    → 3 < length text → n ≡ plain_len (get_or bytes 3 0) → 0 < n → IsSeam text 3
sign_before text bytes start n u e is known less following some =
    let next : n ≡ plain_len (get_or text 3 0) = following ∙ ap (λ t. plain_len (get_or t 3 0)) e in
    let begin = sign_first text u (omega arith) (ap (λ t. is_sign_start (get_or t 0 0) (get_or t 1 0)) (sym e) ∙ (sym is ∙ known)) in
    seam_of_two sign_ranges text u 3 begin less (omega arith)
