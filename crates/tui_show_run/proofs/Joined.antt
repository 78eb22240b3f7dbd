-- One more letter, one more word, and the length of the words.
use Rattle.std.proofs.Common.{◌≡◌, ℕ, zero, suc, ◌+◌, ◌*◌, ◌%◌, ◌<◌, ◌≤◌, List, [], ◌∷◌, ◌++◌, length, map, get_or, refl, ◌∙◌, ap, sym, add-one, arith}
use Rattle.std.specs.List.{join_with_byte, range_with_len, repeat}
use Rattle.std.proofs.lemmas.List.{append_assoc, append-nil, length-append}
use Rattle.std.proofs.lemmas.List.FromFn.{map-range_with_len_more, length-map-range_with_len}
use Rattle.tui_show_run.specs.Demo.Text.{gap, letter, times, word, words_before}

repeat_more : {A : Type 0} (n : ℕ) (xs : List A) → repeat n xs ++ xs ≡ repeat (suc n) xs
repeat_more zero xs = sym (append-nil xs)
repeat_more (suc n) xs = append_assoc xs (repeat n xs) xs ∙ ap (λ l. xs ++ l) (repeat_more n xs)

-- one more repetition
pub again : {A : Type 0} (old new newer xs : List A) (n : ℕ) → new ≡ old ++ repeat n xs → newer ≡ new ++ xs → newer ≡ old ++ repeat (n + 1) xs
again old new newer xs n h e =
    rw (add-one, ← repeat_more n xs) (e ∙ (ap (λ l. l ++ xs) h ∙ append_assoc old (repeat n xs) xs))

join_more : (c : ℕ) (xs : List (List ℕ)) (y : List ℕ) → 0 < length xs → join_with_byte c (xs ++ y ∷ []) ≡ join_with_byte c xs ++ (c ∷ y)
join_more c [] y some = absurd (omega arith)
join_more c (x ∷ []) y some = refl
join_more c (x ∷ z ∷ xs) y some =
    ap (λ l. x ++ (c ∷ l)) (join_more c (z ∷ xs) y (omega arith)) ∙ sym (append_assoc x (c ∷ join_with_byte c (z ∷ xs)) (c ∷ y))

-- the words before the next one
words_more : (n i : ℕ) → words_before n (i + 1) ≡ words_before n i ++ (gap i ++ word n i)
words_more n zero = refl
words_more n (suc i) =
    let some = length-map-range_with_len (word n) 0 (suc i) in
    let next = map-range_with_len_more (word n) 0 (suc i) (suc i) (omega arith) in
    ap (join_with_byte 32) next ∙ join_more 32 (map (word n) (range_with_len 0 (suc i))) (word n (suc i)) (omega arith)

pub word_more : (n i : ℕ) (a b c : List ℕ) → a ≡ words_before n i → b ≡ a ++ gap i → c ≡ b ++ word n i → c ≡ words_before n (i + 1)
word_more n i a b c h e f =
    f ∙ (ap (λ l. l ++ word n i) (e ∙ ap (λ l. l ++ gap i) h) ∙ (append_assoc (words_before n i) (gap i) (word n i) ∙ sym (words_more n i)))

-- by how much the words so far may exceed five letters each
surplus : ℕ → ℕ
surplus r = get_or (2 ∷ 3 ∷ 0 ∷ 2 ∷ 0 ∷ 3 ∷ 2 ∷ 6 ∷ 6 ∷ []) r 0

-- one more word: nine consecutive words have nine different lengths, 45 letters in all
one_word : (r : ℕ) → r < 9 → 1 + r + surplus ((r + 7) % 9) ≡ 5 + surplus r
unfolding surplus
one_word zero h = refl
one_word (suc zero) h = refl
one_word (suc (suc zero)) h = refl
one_word (suc (suc (suc zero))) h = refl
one_word (suc (suc (suc (suc zero)))) h = refl
one_word (suc (suc (suc (suc (suc zero))))) h = refl
one_word (suc (suc (suc (suc (suc (suc zero)))))) h = refl
one_word (suc (suc (suc (suc (suc (suc (suc zero))))))) h = refl
one_word (suc (suc (suc (suc (suc (suc (suc (suc zero)))))))) h = refl
one_word (suc (suc (suc (suc (suc (suc (suc (suc (suc r))))))))) h = absurd (omega arith)

ahead_most : (r : ℕ) → r < 9 → surplus r ≤ 6
unfolding surplus
ahead_most zero h = omega arith
ahead_most (suc zero) h = omega arith
ahead_most (suc (suc zero)) h = omega arith
ahead_most (suc (suc (suc zero))) h = omega arith
ahead_most (suc (suc (suc (suc zero)))) h = omega arith
ahead_most (suc (suc (suc (suc (suc zero))))) h = omega arith
ahead_most (suc (suc (suc (suc (suc (suc zero)))))) h = omega arith
ahead_most (suc (suc (suc (suc (suc (suc (suc zero))))))) h = omega arith
ahead_most (suc (suc (suc (suc (suc (suc (suc (suc zero)))))))) h = omega arith
ahead_most (suc (suc (suc (suc (suc (suc (suc (suc (suc r))))))))) h = absurd (omega arith)

pub length-repeat : {A : Type 0} (k : ℕ) (x : A) → length (repeat k (x ∷ [])) ≡ k
length-repeat zero x = refl
length-repeat (suc k) x = ap suc (length-repeat k x)

length-gap : (i : ℕ) → length (gap i) ≤ 1
length-gap zero = omega arith
length-gap (suc i) = omega arith

room : (n i : ℕ) → length (words_before n i) + surplus ((7 * i + n) % 9) ≤ 6 * i + 6
room n zero = omega (arith, ahead_most ((7 * 0 + n) % 9) (omega arith))
room n (suc i) =
    let next : (7 * suc i + n) % 9 ≡ ((7 * i + n) % 9 + 7) % 9 = omega arith in
    let more = rw add-one at (ap length (words_more n i)) in
    let sizes = length-append (words_before n i) (gap i ++ word n i) ∙ ap (λ k. length (words_before n i) + k) (length-append (gap i) (word n i)) in
    rw (next, more, sizes, length-repeat (times n i) (letter i))
    (omega (arith, room n i, length-gap i, one_word ((7 * i + n) % 9) (omega arith)))

pub short_text : (n : ℕ) → length (words_before n n) ≤ 6 * n + 6
short_text n = omega (arith, room n n)
