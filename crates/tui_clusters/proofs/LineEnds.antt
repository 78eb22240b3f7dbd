-- The clusters of a text are those of its first line and those of the text after it.
use Rattle.std.proofs.Common.{◌≡◌, ℕ, Bool, true, false, not, ◌||◌, List, [], ◌∷◌, ◌++◌, map, unwrap_or, refl, sym, ap, ◌∙◌, ⊎_elim, arith, rules}
use Rattle.std.specs.Prelude.{if◌then◌else◌, encode_utf8_all}
use Rattle.std.specs.Str.{IsAscii, IsUtf8, chars}
use Rattle.std.proofs.lemmas.Bool.{cases_Bool}
use Rattle.std.proofs.lemmas.Bool.Decides.{nat_tests}
use Rattle.std.proofs.lemmas.Str.{chars-append, chars-IsAscii, encodes-IsAscii, encodes-append, encodes-chars, IsUtf8-from_ascii}
use Rattle.ucd_table.proofs.Facts.{Stepped-everywhere}
use Rattle.ucd_table.proofs.Stepped.{of_ranges, zip_stepped}
use Rattle.ucd_table.specs.Rows.{in_ranges}
use Rattle.ucd_breaks.specs.GraphemeClusterBreak.{grapheme_cluster_break}
use Rattle.ucd_breaks.specs.declared.GraphemeClusterBreak.{GraphemeClusterBreak}
use Rattle.ucd_breaks.specs.declared.GraphemeClusterBreak.TheVariants.{Cr, Lf}
use Rattle.ucd_breaks.proofs.Computing.{ucd_breaks}
use Rattle.ucd_breaks.proofs.GraphemeClusterBreakLemmas.{grapheme_cluster_break_stepped}
use Rattle.unicode_segmentation.specs.Grapheme.{break_by_pair, is_grapheme_break, graphemes}
use Rattle.unicode_segmentation.specs.Segments.{prepend, cut, segments}
use Rattle.tui_clusters.proofs.Boundaries.{graphemes-apart}
use Rattle.tui_clusters.proofs.EmptyText.{graphemes-nil}

abbrev pub EndsInReturn : List ℕ → Type 0
EndsInReturn line = (front : List ℕ) × (line ≡ front ++ 13 ∷ [])

-- the controls that end lines
abbrev is_return : GraphemeClusterBreak → Bool
is_return Cr = true
is_return _ = false

return_only : (c : ℕ) → (not (is_return (grapheme_cluster_break c)) || in_ranges ((13, 13) ∷ []) c) ≡ true
unfolding ucd_breaks
return_only = Stepped-everywhere _ (zip_stepped (λ (g : GraphemeClusterBreak) (r : Bool). not (is_return g) || r) grapheme_cluster_break (in_ranges ((13, 13) ∷ [])) grapheme_cluster_break_stepped (of_ranges ((13, 13) ∷ []) refl)) refl

feed_is : grapheme_cluster_break 10 ≡ Lf
unfolding ucd_breaks
feed_is = refl

return_is : grapheme_cluster_break 13 ≡ Cr
unfolding ucd_breaks
return_is = refl

pair_feed : (g h : GraphemeClusterBreak) (joins : Bool) → h ≡ Lf → is_return g ≡ false → unwrap_or (break_by_pair true g h) joins ≡ true
pair_feed g h joins e r = grind arith

pair_return : (g h : GraphemeClusterBreak) (joins : Bool) → h ≡ Cr → unwrap_or (break_by_pair true g h) joins ≡ true
pair_return g h joins e = grind arith

after_pair : (g h : GraphemeClusterBreak) (joins : Bool) → g ≡ Lf → unwrap_or (break_by_pair true g h) joins ≡ true
after_pair g h joins e = grind arith

joined_pair : (g h : GraphemeClusterBreak) (joins : Bool) → g ≡ Cr → h ≡ Lf → unwrap_or (break_by_pair true g h) joins ≡ false
joined_pair g h joins e f = grind arith

no_return : (c : ℕ) → (c ≡ 13 → ⊥) → is_return (grapheme_cluster_break c) ≡ false
unfolding in_ranges
no_return c other = ⊎_elim
    (λ t. absurd (other (let e : in_ranges ((13, 13) ∷ []) c ≡ true = rw t at (return_only c) in grind (arith, nat_tests))))
    (λ t. t)
    (cases_Bool (is_return (grapheme_cluster_break c)))

before_feed : (x : ℕ) (before ys : List ℕ) → (x ≡ 13 → ⊥) → is_grapheme_break true (x ∷ before) (10 ∷ ys) ≡ true
unfolding is_grapheme_break
before_feed x before ys other = pair_feed (grapheme_cluster_break x) (grapheme_cluster_break 10) _ feed_is (no_return x other)

before_return : (x : ℕ) (before ys : List ℕ) → is_grapheme_break true (x ∷ before) (13 ∷ ys) ≡ true
unfolding is_grapheme_break
before_return x before ys = pair_return (grapheme_cluster_break x) (grapheme_cluster_break 13) _ return_is

after_feed : (before ys : List ℕ) → is_grapheme_break true (10 ∷ before) ys ≡ true
unfolding is_grapheme_break
after_feed before [] = refl
after_feed before (y ∷ ys) = after_pair (grapheme_cluster_break 10) (grapheme_cluster_break y) _ feed_is

return_feed : (before ys : List ℕ) → is_grapheme_break true (13 ∷ before) (10 ∷ ys) ≡ false
unfolding is_grapheme_break
return_feed before ys = joined_pair (grapheme_cluster_break 13) (grapheme_cluster_break 10) _ return_is feed_is

-- a newline is a cluster, together with a carriage return before it
one_feed : graphemes true (10 ∷ []) ≡ (10 ∷ []) ∷ []
unfolding segments cut is_grapheme_break
one_feed =
    let ascii : IsAscii (10 ∷ []) = search (rules, arith) in
    ap (λ cs. map encode_utf8_all (cut (is_grapheme_break true) [] cs [])) (chars-IsAscii (10 ∷ []) ascii) ∙ ap (λ t. t ∷ []) (encodes-IsAscii (10 ∷ []) ascii)

one_return : graphemes true (13 ∷ 10 ∷ []) ≡ (13 ∷ 10 ∷ []) ∷ []
unfolding segments cut
one_return =
    let ascii : IsAscii (13 ∷ 10 ∷ []) = search (rules, arith) in
    let last = cut (is_grapheme_break true) (13 ∷ []) (10 ∷ []) [] in
    ap (λ cs. map encode_utf8_all (cut (is_grapheme_break true) [] cs [])) (chars-IsAscii (13 ∷ 10 ∷ []) ascii)
    ∙ (ap (λ b. map encode_utf8_all (if b then (13 ∷ []) ∷ last else prepend (13 ∷ []) last)) (return_feed [] [])
    ∙ (ap (λ b. map encode_utf8_all (prepend (13 ∷ []) (if b then (10 ∷ []) ∷ [] else prepend (10 ∷ []) []))) (after_feed (13 ∷ []) [])
    ∙ ap (λ t. t ∷ []) (encodes-IsAscii (13 ∷ 10 ∷ []) ascii)))

-- an end of a line, and the text after it
ended : (front following : List ℕ) → IsAscii (front ++ 10 ∷ []) → graphemes true (front ++ 10 ∷ []) ≡ (front ++ 10 ∷ []) ∷ []
    → graphemes true ((front ++ 10 ∷ []) ++ following) ≡ (front ++ 10 ∷ []) ∷ graphemes true following
ended front following ascii one =
    graphemes-apart (front ++ 10 ∷ []) following (IsUtf8-from_ascii (front ++ 10 ∷ []) ascii)
    (record { front = front; last = 10; is = chars-IsAscii (front ++ 10 ∷ []) ascii; boundary = λ before. after_feed before (chars following) })
    ∙ ap (λ t. t ++ graphemes true following) one

-- a line, and an end that no rule joins to its last character
last_of : (x : ℕ) (xs : List ℕ) → (front : List ℕ) × (last : ℕ) × (x ∷ xs ≡ front ++ last ∷ [])
last_of x [] = ([], x, refl)
last_of x (y ∷ xs) = let (front, last, e) = last_of y xs in (x ∷ front, last, ap (λ t. x ∷ t) e)

before_end : (line end : List ℕ) → IsUtf8 line
    → ((front : List ℕ) (last : ℕ) → chars line ≡ front ++ last ∷ [] → (before : List ℕ) → is_grapheme_break true (last ∷ before) (chars end) ≡ true)
    → graphemes true (line ++ end) ≡ graphemes true line ++ graphemes true end
before_end line end u h = from (chars line) refl
  where
    from : (cs : List ℕ) → chars line ≡ cs → graphemes true (line ++ end) ≡ graphemes true line ++ graphemes true end
    from [] e =
        let none : line ≡ [] = sym (encodes-chars line u) ∙ ap encode_utf8_all e in
        ap (λ t. graphemes true (t ++ end)) none ∙ sym (ap (λ t. graphemes true t ++ graphemes true end) none ∙ ap (λ t. t ++ graphemes true end) graphemes-nil)
    from (x ∷ xs) e =
        let (front, last, is) = last_of x xs in
        graphemes-apart line end u (record { front = front; last = last; is = e ∙ is; boundary = h front last (e ∙ is) })

ascii_chars : (c : ℕ) (end following : List ℕ) → IsAscii (c ∷ end) → chars ((c ∷ end) ++ following) ≡ c ∷ (end ++ chars following)
ascii_chars c end following ascii = chars-append (c ∷ end) following (IsUtf8-from_ascii (c ∷ end) ascii) ∙ ap (λ t. t ++ chars following) (chars-IsAscii (c ∷ end) ascii)

char_return : (line : List ℕ) → IsUtf8 line → EndsInReturn (chars line) → EndsInReturn line
char_return line u (front, e) =
    let ascii : IsAscii (13 ∷ []) = search (rules, arith) in
    (encode_utf8_all front, sym (encodes-chars line u) ∙ ap encode_utf8_all e ∙ encodes-append front (13 ∷ []) ∙ ap (λ t. encode_utf8_all front ++ t) (encodes-IsAscii (13 ∷ []) ascii))

pub graphemes-feed : (line following : List ℕ) → IsUtf8 line → (EndsInReturn line → ⊥) → graphemes true (line ++ 10 ∷ following) ≡ graphemes true line ++ (10 ∷ []) ∷ graphemes true following
graphemes-feed line following u h =
    let ascii : IsAscii (10 ∷ []) = search (rules, arith) in
    before_end line (10 ∷ following) u
    (λ front last is before.
    ap (is_grapheme_break true (last ∷ before)) (ascii_chars 10 [] following ascii)
    ∙ before_feed last before (chars following) (λ e. h (char_return line u (front, is ∙ ap (λ c. front ++ c ∷ []) e))))
    ∙ ap (λ t. graphemes true line ++ t) (ended [] following ascii one_feed)

pub graphemes-return : (line following : List ℕ) → IsUtf8 line → graphemes true (line ++ 13 ∷ 10 ∷ following) ≡ graphemes true line ++ (13 ∷ 10 ∷ []) ∷ graphemes true following
graphemes-return line following u =
    let ascii : IsAscii (13 ∷ 10 ∷ []) = search (rules, arith) in
    before_end line (13 ∷ 10 ∷ following) u
    (λ front last is before. ap (is_grapheme_break true (last ∷ before)) (ascii_chars 13 (10 ∷ []) following ascii) ∙ before_return last before (10 ∷ chars following))
    ∙ ap (λ t. graphemes true line ++ t) (ended (13 ∷ []) following ascii one_return)
