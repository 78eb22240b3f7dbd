-- The heights of records as they are counted.
use Rattle.std.proofs.Common.{◌≡◌, ℕ, zero, suc, ◌+◌, ◌<◌, ◌≤◌, min, max, true, false, ◌==◌, List, [], ◌∷◌, length, map, take, drop, get_or}
use Rattle.std.proofs.Common.{refl, sym, ap, ◌∙◌, subst, arith, inl, inr}
use Rattle.std.specs.Prelude.{All, fold, zip, slice_index}
use Rattle.std.proofs.lemmas.Bool.{cases_lt, cond-false}
use Rattle.std.proofs.lemmas.Bool.Decides.{nat_tests}
use Rattle.std.proofs.lemmas.List.{drop_more, get_or-map, length-map, take_all}
use Rattle.std.proofs.lemmas.List.Elements.{All-from_recursion, recursion_from_All}
use Rattle.std.specs.List.{AllByRecursion}
use Rattle.tui_layout.specs.declared.segment.Segment.{Segment}
use Rattle.tui_para.specs.Hyphens.{at_blanks}
use Rattle.tui_para.specs.Lines.{GlyphLine}
use Rattle.tui_para.specs.Wrapped.{IsUnique}
use Rattle.tui_para.specs.WrappedText.{WrappedText, wrap_text}
use Rattle.tui_pages_lib.specs.Heights.{IsFirstTooTall, heights_of, cell_height, max_lines, record_height}
use Rattle.tui_text.specs.Text.{raw_text}
use Rattle.tui_clusters.specs.Width.{saturated}
use Rattle.tui_text.specs.declared.alignment.Alignment.TheVariants.{Left}

some_test : (w : ℕ) → 0 < w → (w == 0) ≡ false
some_test w h = grind (arith, nat_tests)

pub counted : (w : ℕ) (count : ℕ) (cell : List ℕ) → 0 < w →
    IsUnique (WrappedText w (at_blanks true) Left (raw_text cell)) (wrap_text w (at_blanks true) Left (raw_text cell)) →
    ((lines : List GlyphLine) → WrappedText w (at_blanks true) Left (raw_text cell) lines → count ≡ saturated (length lines)) →
    count ≡ saturated (cell_height w cell)
counted w count cell some once lines =
    let wrapped = wrap_text w (at_blanks true) Left (raw_text cell) in
    lines wrapped once.meets ∙ ap saturated (sym (cond-false _ 0 (length wrapped) (some_test w some)))

-- the maximum of numbers that are limited
greatest_cut : {A : Type 0} (f : A → ℕ) (n : ℕ) (xs : List A) →
    fold max (saturated n) (map (λ x. saturated (f x)) xs) ≡ saturated (fold max n (map f xs))
greatest_cut f n [] = refl
greatest_cut f n (x ∷ xs) =
    let both : max (saturated n) (saturated (f x)) ≡ saturated (max n (f x)) = omega arith in
    ap (λ k. fold max k (map (λ y. saturated (f y)) xs)) both ∙ greatest_cut f (max n (f x)) xs

-- the numbers of lines of the cells, each of them limited
abbrev pub cut_counts : List Segment → List (List ℕ) → List ℕ
cut_counts places cells = map (λ (place, cell). saturated (cell_height place.width cell)) (zip places cells)

pub height_begun : (places : List Segment) (cells : List (List ℕ)) → fold max 1 (cut_counts places cells) ≡ saturated (record_height places cells)
height_begun places cells = greatest_cut (λ (place, cell). cell_height place.width cell) 1 (zip places cells)

-- one more cell, and none
pub height_more : {X : Type 0} (text : X → List ℕ) (places : List Segment) (cells : List X) (i n now next count : ℕ) (p : Segment) (c : X)
    (total : ℕ) → n ≡ min (length places) (length cells) → i < n →
    count ≡ saturated (cell_height (get_or places i p).width (text (get_or cells i c))) → next ≡ max now count →
    fold max now (cut_counts (drop i places) (drop i (map text cells))) ≡ total →
    fold max next (cut_counts (drop (i + 1) places) (drop (i + 1) (map text cells))) ≡ total
height_more text places cells i n now next count p c total end h counts e so_far =
    let later = drop (i + 1) (map text cells) in
    let ps : drop i places ≡ get_or places i p ∷ drop (i + 1) places = drop_more places i p (omega arith) in
    let cs : drop i (map text cells) ≡ text (get_or cells i c) ∷ later =
    drop_more (map text cells) i (text c) (omega (arith, length-map cells text))
    ∙ ap (λ x. x ∷ later) (get_or-map text cells i c (text c) (omega arith)) in
    ap (λ k. fold max k (cut_counts (drop (i + 1) places) later)) (e ∙ ap (max now) counts)
    ∙ (ap (λ xs. fold max now (cut_counts xs (text (get_or cells i c) ∷ later))) (sym ps)
    ∙ (ap (λ xs. fold max now (cut_counts (drop i places) xs)) (sym cs) ∙ so_far))

pub drop_past : {A : Type 0} (n : ℕ) (xs : List A) → length xs ≤ n → drop n xs ≡ []
drop_past zero [] h = refl
drop_past zero (x ∷ xs) h = absurd (omega arith)
drop_past (suc n) [] h = refl
drop_past (suc n) (x ∷ xs) h = drop_past n xs (omega arith)

counts_none : (places : List Segment) (cells : List (List ℕ)) → cells ≡ [] → cut_counts places cells ≡ []
counts_none [] cells e = refl
counts_none (place ∷ places) cells e = ap (cut_counts (place ∷ places)) e

pub height_done : {X : Type 0} (text : X → List ℕ) (places : List Segment) (cells : List X) (i n now total : ℕ) →
    n ≡ min (length places) (length cells) → n ≤ i →
    fold max now (cut_counts (drop i places) (drop i (map text cells))) ≡ total → now ≡ total
height_done text places cells i n now total end h so_far =
    elim (cases_lt i (length places)) [
      | inl more ↦
          ap (fold max now) (sym (counts_none (drop i places) (drop i (map text cells))
          (drop_past i (map text cells) (omega (arith, length-map cells text))))) ∙ so_far
      | inr done ↦
          ap (λ ps. fold max now (cut_counts ps (drop i (map text cells)))) (sym (drop_past i places done)) ∙ so_far
    ]

-- one more height that is not too great
low_next : {X : Type 0} (P : X → Type 0) (xs : List X) (i : ℕ) (d : X) → i < length xs → AllByRecursion P (take i xs) → P (get_or xs i d) →
    AllByRecursion P (take (i + 1) xs)
low_next P [] i d h a p = absurd (omega arith)
low_next P (x ∷ xs) zero d h a p = (p, tt)
low_next P (x ∷ xs) (suc i) d h a p =
    let n : suc (i + 1) ≡ suc i + 1 = omega arith in
    subst (λ j. AllByRecursion P (take j (x ∷ xs))) n (a.0, low_next P xs i d (omega arith) a.1 p)

abbrev pub IsLow : ℕ → Type 0
IsLow height = height ≤ max_lines

pub low_more : (xs : List ℕ) (i d : ℕ) → i < length xs → All IsLow (take i xs) → get_or xs i d ≤ max_lines → All IsLow (take (i + 1) xs)
low_more xs i d h a p =
    All-from_recursion IsLow (take (i + 1) xs) (low_next IsLow xs i d h (recursion_from_All IsLow (take i xs) a) p)

pub low_all : (xs : List ℕ) (i : ℕ) → length xs ≤ i → All IsLow (take i xs) → All IsLow xs
low_all xs i h a = subst (All IsLow) (take_all i xs h) a

-- what is known of the limited heights holds of the heights

take_map : {A B : Type 0} (f : A → B) (n : ℕ) (xs : List A) → take n (map f xs) ≡ map f (take n xs)
take_map f zero xs = refl
take_map f (suc n) [] = refl
take_map f (suc n) (x ∷ xs) = ap (λ ys. f x ∷ ys) (take_map f n xs)

low_heights : (heights : List ℕ) → AllByRecursion IsLow (map saturated heights) → AllByRecursion IsLow heights
low_heights [] a = tt
low_heights (height ∷ heights) a = let bounded = a.0 in (omega arith, low_heights heights a.1)

pub all_low : (heights cut : List ℕ) → cut ≡ map saturated heights → All IsLow cut → All IsLow heights
all_low heights cut e a =
    All-from_recursion IsLow heights (low_heights heights (recursion_from_All IsLow (map saturated heights) (subst (All IsLow) e a)))

same_low : (heights : List ℕ) → AllByRecursion IsLow (map saturated heights) → map saturated heights ≡ heights
same_low [] a = refl
same_low (height ∷ heights) a =
    let bounded = a.0 in
    let same : saturated height ≡ height = omega arith in
    ap (λ h. h ∷ map saturated heights) same ∙ ap (λ hs. height ∷ hs) (same_low heights a.1)

pub not_cut : (heights cut : List ℕ) → cut ≡ map saturated heights → All IsLow cut → cut ≡ heights
not_cut heights cut e a = e ∙ same_low heights (recursion_from_All IsLow (map saturated heights) (subst (All IsLow) e a))

read_map : (n : ℕ) (xs : List ℕ) → n < length xs → slice_index (map saturated xs) n ≡ saturated (slice_index xs n)
read_map n [] h = absurd (omega arith)
read_map zero (x ∷ xs) h = refl
read_map (suc n) (x ∷ xs) h = read_map n xs (omega arith)

pub first_of : (heights cut : List ℕ) (place : ℕ) → cut ≡ map saturated heights → IsFirstTooTall cut place → IsFirstTooTall heights place
first_of heights cut place e f =
    let inside : place < length heights = omega (arith, f.inside, ap length e, length-map heights saturated) in
    let read : slice_index cut place ≡ saturated (slice_index heights place) = ap (λ hs. slice_index hs place) e ∙ read_map place heights inside in
    record {
      inside = inside;
      taller = omega (arith, f.taller, read);
      first = all_low (take place heights) (take place cut) (ap (take place) e ∙ take_map saturated place heights) f.first;
    }

-- each record has at least one line

fold_some : (n : ℕ) (xs : List ℕ) → 0 < n → 0 < fold max n xs
fold_some n [] h = h
fold_some n (x ∷ xs) h = fold_some (max n x) xs (omega arith)

heights_above : (places : List Segment) (records : List (List (List ℕ))) → AllByRecursion (λ height. 0 < height) (heights_of places records)
heights_above places [] = tt
heights_above places (cells ∷ records) =
    (fold_some 1 (map (λ (place, cell). cell_height place.width cell) (zip places cells)) (omega arith), heights_above places records)

pub heights_some : (places : List Segment) (records : List (List (List ℕ))) → All (λ height. 0 < height) (heights_of places records)
heights_some places records = All-from_recursion (λ height. 0 < height) (heights_of places records) (heights_above places records)
