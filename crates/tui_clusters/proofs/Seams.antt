-- If a text is cut between two plain characters, its clusters are those of the parts.
use Rattle.std.proofs.Common.{◌≡◌, ℕ, suc, ◌+◌, ◌-◌, ◌<◌, ◌≤◌, true, List, [], ◌∷◌, ◌++◌, filter, length, take, drop, get_or, take-append-drop, append-nil, not, inl, inr, false, sym, ap, ap₂, ◌∙◌, arith, rules}
use Rattle.std.specs.Str.{chars, IsAscii, IsUtf8}
use Rattle.std.proofs.lemmas.Bool.{cases_lt, cond-true}
use Rattle.std.proofs.lemmas.List.{drop_all, take_all, take_more}
use Rattle.std.proofs.lemmas.Str.{chars_from_encodes, chars_past_char, encodes-append, encodes-chars, encodes-IsAscii, IsCharBoundary-before_ascii, IsUtf8-drop, IsUtf8-take}
use Rattle.std.proofs.Math.Seq.{drop-cons}
use Rattle.unicode_segmentation.specs.Grapheme.{graphemes, is_grapheme_break}
use Rattle.tui_clusters.specs.Plain.{IsPlainChar, IsSeam}
use Rattle.tui_clusters.specs.Printable.{is_printable}
use Rattle.tui_clusters.specs.Shown.{has_control, is_shown}
use Rattle.tui_clusters.proofs.Boundaries.{graphemes-apart}
use Rattle.tui_clusters.proofs.EmptyText.{graphemes-nil}
use Rattle.tui_clusters.proofs.LeadBytes.{in_one}
use Rattle.tui_clusters.proofs.OneByte.{printable_range}
use Rattle.tui_clusters.proofs.PlainChars.{between, graphemes-plain, plain_shown}

pub graphemes-seam : (text : List ℕ) (i : ℕ) → IsUtf8 text → IsSeam text i → graphemes true text ≡ graphemes true (take i text) ++ graphemes true (drop i text)
graphemes-seam text i u s =
    let front = IsUtf8-take text i u s.boundary in
    let following : chars (drop i text) ≡ s.next ∷ chars s.back = chars_past_char (drop i text) s.back s.next (IsUtf8-drop text i u s.boundary) s.after in
    ap (graphemes true) (sym (take-append-drop i text))
    ∙ graphemes-apart (take i text) (drop i text) front (record {
      front = s.front;
      last = s.last;
      is = sym (chars_from_encodes (s.front ++ s.last ∷ []) (take i text) front (sym s.before));
      boundary = λ before. ap (is_grapheme_break true (s.last ∷ before)) following ∙ between s.last before s.next (chars s.back) s.last_plain s.next_plain;
    })

-- the same if the part may end with the text
pub graphemes-part : (text : List ℕ) (i : ℕ) → IsUtf8 text → i ≤ length text → (i < length text → IsSeam text i) →
    graphemes true text ≡ graphemes true (take i text) ++ graphemes true (drop i text)
graphemes-part text i u within s =
    elim (cases_lt i (length text)) [
      | inl less ↦ graphemes-seam text i u (s less)
      | inr all ↦
          let none = ap (graphemes true) (drop_all i text all) ∙ graphemes-nil in
          sym (ap₂ (λ a b. graphemes true a ++ b) (take_all i text all) none ∙ append-nil (graphemes true text))
    ]

-- between two printable ASCII characters
pub printable_seam : (text : List ℕ) (i : ℕ) → IsUtf8 text → 0 < i → i < length text → is_printable (get_or text (i - 1) 0) ≡ true → is_printable (get_or text i 0) ≡ true → IsSeam text i
printable_seam text i u some within before after =
    let b = get_or text (i - 1) 0 in
    let c = get_or text i 0 in
    let p = take (i - 1) text in
    let (b_low, b_high) = printable_range b before in
    let (c_low, c_high) = printable_range c after in
    let b_ascii : IsAscii (b ∷ []) = one_ascii b (omega arith) in
    let c_ascii : IsAscii (c ∷ []) = one_ascii c (omega arith) in
    let utf8 = IsUtf8-take text (i - 1) u (IsCharBoundary-before_ascii text (i - 1) (omega arith) (omega arith)) in
    let next : i ≡ i - 1 + 1 = omega arith in
    record {
      boundary = IsCharBoundary-before_ascii text i within (omega arith);
      front = chars p;
      last = b;
      next = c;
      back = drop (suc i) text;
      before = ap (λ n. take n text) next ∙ take_more text (i - 1) 0 (omega arith)
          ∙ sym (encodes-append (chars p) (b ∷ []) ∙ ap₂ ◌++◌ (encodes-chars p utf8) (encodes-IsAscii (b ∷ []) b_ascii));
      after = drop-cons text i 0 within ∙ ap (λ t. t ++ drop (suc i) text) (sym (sym (append-nil _) ∙ encodes-IsAscii (c ∷ []) c_ascii));
      last_plain = (in_one b b_low b_high).1;
      next_plain = (in_one c c_low c_high).1;
    }
  where
    one_ascii : (b : ℕ) → b < 128 → IsAscii (b ∷ [])
    one_ascii b low = search (rules, arith)

-- the shown clusters if none come before a text and the text is empty
pub shown-end : (none : List (List ℕ)) (text : List ℕ) → none ≡ [] → length text ≡ 0 → filter is_shown (none ++ graphemes true text) ≡ []
shown-end none [] e l = ap (λ cs. filter is_shown (cs ++ graphemes true [])) e ∙ ap (filter is_shown) graphemes-nil
shown-end none (b ∷ text) e l = absurd (omega (arith, e))

-- the shown clusters if the text begins with a cluster that is shown
pub shown-next : (none left : List (List ℕ)) (text cluster rest : List ℕ) → none ≡ [] → left ≡ [] → graphemes true text ≡ cluster ∷ graphemes true rest → has_control cluster ≡ false
    → filter is_shown (none ++ graphemes true text) ≡ cluster ∷ filter is_shown (left ++ graphemes true rest)
shown-next none left text cluster rest e f first shown =
    let following = filter is_shown (graphemes true rest) in
    ap (λ cs. filter is_shown (cs ++ graphemes true text)) e
    ∙ (ap (filter is_shown) first
    ∙ (cond-true (is_shown cluster) (cluster ∷ following) following (ap not shown) ∙ ap (λ cs. cluster ∷ filter is_shown (cs ++ graphemes true rest)) (sym f)))

-- a plain character, and the text after it
pub shown-plain : (none left : List (List ℕ)) (text part rest : List ℕ) → none ≡ [] → left ≡ [] → graphemes true text ≡ graphemes true part ++ graphemes true rest → IsPlainChar part
    → filter is_shown (none ++ graphemes true text) ≡ part ∷ filter is_shown (left ++ graphemes true rest)
shown-plain none left text part rest e f parts p =
    shown-next none left text part rest e f (parts ∙ ap (λ cs. cs ++ graphemes true rest) (graphemes-plain part p)) (plain_shown part p)

-- a text of one plain character is one cluster
pub lone_cluster : (text : List ℕ) → IsPlainChar text → filter is_shown (graphemes true text) ≡ text ∷ []
lone_cluster text p = ap (filter is_shown) (graphemes-plain text p) ∙ cond-true (is_shown text) (text ∷ []) [] (ap not (plain_shown text p))
