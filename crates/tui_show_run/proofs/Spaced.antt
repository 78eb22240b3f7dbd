-- The words of a demonstration are separated by single spaces, and have the fewest lines.
use Rattle.std.proofs.Common.{◌≡◌, ◌≢◌, ℕ, zero, suc, ◌<◌, ◌≤◌, true, false, List, [], ◌∷◌, ◌++◌, length, map, refl, sym, ap, ap₂, subst, ◌∙◌, arith}
use Rattle.std.specs.Prelude.{◌==◌, sum_by}
use Rattle.std.specs.List.{AllByRecursion, join_with_byte, list_all, range_with_len, repeat}
use Rattle.std.proofs.lemmas.Bool.{le-leb}
use Rattle.std.proofs.lemmas.List.{append-nil, length-map, map-append}
use Rattle.std.proofs.lemmas.List.Sums.{sum_by-cons}
use Rattle.std.proofs.lemmas.List.Elements.{All-from_recursion}
use Rattle.tui_cells.specs.Style.{no_style, patched}
use Rattle.tui_clusters.specs.Printable.{is_printable}
use Rattle.tui_clusters.specs.Shown.{clusters, one_byte}
use Rattle.tui_clusters.proofs.OneByte.{byte_width, printable_blank}
use Rattle.tui_clusters.proofs.Runs.{printable_clusters}
use Rattle.tui_para.specs.Division.{IsFewest, IsWord, Spaced, SpacedWithin}
use Rattle.tui_para.specs.Wrapped.{IsUnique, up_to}
use Rattle.tui_para.specs.Hyphens.{wrap}
use Rattle.tui_para.specs.Lines.{glyph_line}
use Rattle.tui_para.specs.WrappedText.{WrappedText, wrap_text}
use Rattle.tui_para.proofs.WithoutSplits.{fewest_lines}
use Rattle.tui_text.specs.Grapheme.{Glyph, glyph_blank, glyph_width}
use Rattle.tui_text.specs.Graphemes.{glyph_in}
use Rattle.tui_text.specs.declared.alignment.Alignment.TheVariants.{Left}
use Rattle.tui_show_run.specs.Demo.Scene.{demo_wrap, one_line}
use Rattle.tui_show_run.specs.Demo.Text.{demo_text, letter, times, word}
use Rattle.tui_show_run.specs.Laws.{DemoIsFewest, graphemes_in, word_graphemes}

-- a letter from a to z
abbrev IsLetter : ℕ → Type 0
IsLetter b = (97 ≤ b) × (b ≤ 122)

abbrev AreLetters : List ℕ → Type 0
AreLetters bs = AllByRecursion IsLetter bs

-- one to twenty letters
record IsShortWord (v : List ℕ) : Type 0 where
  letters : AreLetters v
  some : 0 < length v
  few : length v ≤ 20

-- a byte as a grapheme of the text
abbrev glyph : ℕ → Glyph
glyph b = glyph_in (patched (patched no_style no_style) no_style) (one_byte b)

printable : (b : ℕ) → 32 ≤ b → b ≤ 126 → is_printable b ≡ true
printable b low high = rw (le-leb 32 b low, le-leb b 126 high) refl

letters_printable : (v : List ℕ) → AreLetters v → list_all is_printable v ≡ true
letters_printable [] h = refl
letters_printable (b ∷ bs) h =
    let one = printable b (omega (arith, h.0.0)) (omega (arith, h.0.1)) in
    rw one (letters_printable bs h.1)

all-append : (xs ys : List ℕ) → list_all is_printable xs ≡ true → list_all is_printable ys ≡ true → list_all is_printable (xs ++ ys) ≡ true
all-append [] ys h k = k
all-append (x ∷ xs) ys h k = grind (arith, all-append xs ys)

-- the graphemes of a text of printable bytes
graphemes_are : (text : List ℕ) → list_all is_printable text ≡ true → graphemes_in text ≡ map glyph text
graphemes_are text h =
    let style = patched (patched no_style no_style) no_style in
    append-nil (map (glyph_in style) (clusters text)) ∙ ap (map (glyph_in style)) (printable_clusters text h) ∙ bytes text
  where
    bytes : (bs : List ℕ) → map (glyph_in (patched (patched no_style no_style) no_style)) (map one_byte bs) ≡ map glyph bs
    bytes [] = refl
    bytes (b ∷ bs) = ap (λ (gs : List Glyph). glyph b ∷ gs) (bytes bs)

letter_blank : (b : ℕ) → IsLetter b → glyph_blank (glyph b) ≡ false
letter_blank b h =
    let low : 32 ≤ b = omega (arith, h.0) in
    let high : b ≤ 126 = omega (arith, h.1) in
    let other : (b == 32) ≡ false = grind (arith, h.0) in
    printable_blank (one_byte b) b refl low high ∙ other

is_single_argument : (v : List ℕ) → AreLetters v → up_to glyph_blank (map glyph v) ≡ map glyph v
is_single_argument [] h = refl
is_single_argument (b ∷ bs) h = rw (letter_blank b h.0) (ap (λ (gs : List Glyph). glyph b ∷ gs) (is_single_argument bs h.1))

some_word : (v : List ℕ) → 0 < length v → map glyph v ≢ []
some_word [] some e = omega (arith, some)
some_word (b ∷ bs) some e = cc

word_is : (v : List ℕ) → IsShortWord v → IsWord glyph_blank (map glyph v)
word_is v h = (some_word v h.some, is_single_argument v h.letters)

word_width : (v : List ℕ) → AreLetters v → sum_by glyph_width (map glyph v) ≡ length v
word_width [] h = refl
word_width (b ∷ bs) h =
    let one : glyph_width (glyph b) ≡ 1 = byte_width b (printable b (omega (arith, h.0.0)) (omega (arith, h.0.1))) in
    let cons = sum_by-cons glyph_width (glyph b) (map glyph bs) in
    omega (arith, one, cons, word_width bs h.1)

abbrev AreWords : List (List ℕ) → Type 0
AreWords vs = AllByRecursion IsShortWord vs

joined_printable : (vs : List (List ℕ)) → AreWords vs → list_all is_printable (join_with_byte 32 vs) ≡ true
joined_printable [] h = refl
joined_printable (v ∷ []) h = letters_printable v h.0.letters
joined_printable (v ∷ u ∷ vs) h = all-append v (32 ∷ join_with_byte 32 (u ∷ vs)) (letters_printable v h.0.letters) (joined_printable (u ∷ vs) h.1)

-- words joined by spaces have spaces between them
joined_spaced : (vs : List (List ℕ)) → AreWords vs → Spaced glyph_blank glyph_width (map (map glyph) vs) (map glyph (join_with_byte 32 vs))
joined_spaced [] h = refl
joined_spaced (v ∷ []) h = (word_is v h.0, refl)
joined_spaced (v ∷ u ∷ vs) h = (
  word_is v h.0,
  glyph 32,
  map glyph (join_with_byte 32 (u ∷ vs)),
  map-append glyph v (32 ∷ join_with_byte 32 (u ∷ vs)),
  printable_blank (one_byte 32) 32 refl (omega arith) (omega arith),
  byte_width 32 refl,
  joined_spaced (u ∷ vs) h.1,
)

words_fit : (vs : List (List ℕ)) → AreWords vs → AllByRecursion (λ w. sum_by glyph_width w ≤ 20) (map (map glyph) vs)
words_fit [] h = tt
words_fit (v ∷ vs) h = (omega (arith, word_width v h.0.letters, h.0.few), words_fit vs h.1)

-- the same letter, repeated
repeat_letters : (k c : ℕ) → IsLetter c → AreLetters (repeat k (c ∷ []))
repeat_letters zero c h = tt
repeat_letters (suc k) c h = (h, repeat_letters k c h)

repeat_length : (k c : ℕ) → length (repeat k (c ∷ [])) ≡ k
repeat_length zero c = refl
repeat_length (suc k) c = ap suc (repeat_length k c)

word_short : (n i : ℕ) → IsShortWord (word n i)
word_short n i =
    let c = letter i in
    let k = times n i in
    let len = repeat_length k c in
    record { letters = repeat_letters k c (omega arith, omega arith); some = omega (arith, len); few = omega (arith, len) }

words_short : (n : ℕ) (is : List ℕ) → AreWords (map (word n) is)
words_short n [] = tt
words_short n (i ∷ is) = (word_short n i, words_short n is)

words_are : (n : ℕ) (is : List ℕ) → map (λ (i : ℕ). graphemes_in (word n i)) is ≡ map (map glyph) (map (word n) is)
words_are n [] = refl
words_are n (i ∷ is) =
    ap₂ (λ (gs : List Glyph) (rest : List (List Glyph)). gs ∷ rest) (graphemes_are (word n i) (letters_printable (word n i) (word_short n i).letters)) (words_are n is)

demo_spaced : (n : ℕ) → SpacedWithin glyph_blank glyph_width 20 (word_graphemes n) (graphemes_in (demo_text n))
demo_spaced n =
    let is = range_with_len 0 n in
    let vs = map (word n) is in
    let short = words_short n is in
    let text = graphemes_are (join_with_byte 32 vs) (joined_printable vs short) in
    let Kind : List (List Glyph) → List Glyph → Type 0 = λ ws gs. SpacedWithin glyph_blank glyph_width 20 ws gs in
    let whole : Kind (map (map glyph) vs) (map glyph (join_with_byte 32 vs)) = record {
      spaced = joined_spaced vs short;
      fit = All-from_recursion (λ w. sum_by glyph_width w ≤ 20) (map (map glyph) vs) (words_fit vs short);
    } in
    subst (λ (ws : List (List Glyph)). Kind ws (graphemes_in (demo_text n))) (sym (words_are n is))
    (subst (λ (gs : List Glyph). Kind (map (map glyph) vs) gs) (sym text) whole)

pub demo_is_fewest : ((n : ℕ) → IsUnique (WrappedText 20 demo_wrap Left (one_line (demo_text n))) (wrap_text 20 demo_wrap Left (one_line (demo_text n)))) → DemoIsFewest
demo_is_fewest once n count has =
    let spaced = demo_spaced n in
    let glyphs = graphemes_in (demo_text n) in
    let lines = wrap 20 demo_wrap glyphs in
    let same : has.0 ≡ wrap_text 20 demo_wrap Left (one_line (demo_text n)) = (once n).alone has.0 has.1 in
    let all = ap length (append-nil (map (glyph_line Left) lines)) ∙ length-map lines (glyph_line Left) in
    let some : 0 < 20 = omega arith in
    let is : count ≡ length lines = has.2 ∙ (ap length same ∙ all) in
    (spaced, subst (IsFewest glyph_width (word_graphemes n) 20) (sym is) (fewest_lines 20 demo_wrap (word_graphemes n) glyphs refl some spaced))
