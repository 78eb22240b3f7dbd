-- The lines that `wrap` returns are lines by the definition.
use Rattle.std.proofs.Common.{◌≡◌, ℕ, zero, suc, ◌+◌, ◌-◌, ◌<◌, ◌≤◌, List, [], ◌∷◌, ◌++◌, length, take, drop, Bool, true, false, cond, refl, sym, ap, ◌∙◌, subst, arith, inl, inr, ⊎_elim}
use Rattle.std.specs.Prelude.{◌⊎◌, sum_by, not, nat_le, nat_lt, ◌&&◌}
use Rattle.std.specs.List.{AllByRecursion}
use Rattle.std.proofs.lemmas.List.Sums.{sum_by-cons, sum_by-append}
use Rattle.std.proofs.lemmas.List.{take-append-drop, length-append, append-nil, append_assoc}
use Rattle.std.proofs.lemmas.Bool.{cases_Bool, false≢true, leb-true, leb-false, cond-true, cond-false}
use Rattle.std.proofs.lemmas.Bool.Decides.{nat_tests}
use Rattle.std.proofs.Math.Seq.{drop-append_seam, take-append_seam, take-length, drop-length}
use Rattle.tui_para.specs.Rule.{Rule, ends_piece}
use Rattle.tui_para.specs.Wrapped.{up_to, next_piece, without_blanks, after_break, no_blank, ends_in, begins, IsLine, HasLines, WrapsKept, not_wider, line_start}
use Rattle.tui_para.specs.Places.{goes_on_for, line_len, lines_of, wrap_kept}
use Rattle.tui_para.proofs.Unique.{breaks_there, ends_in-append, piece_ends}

-- a piece goes on with a grapheme that doesn't end it
piece_on : {A : Type 0} (ends : A → Bool) (p : List A) (x : A) (r : List A) → up_to ends p ≡ p → ends x ≡ false → up_to ends (p ++ x ∷ r) ≡ p ++ x ∷ up_to ends r
piece_on ends [] x r e b = rw b refl
piece_on ends (y ∷ p) x r e b = grind (arith, piece_on ends p x r)

-- so do whitespace and a piece after it, unless the grapheme ends the piece
pub next_piece_on : {A : Type 0} (rule : Rule A) (so_far : Bool) (p : List A) (x : A) (r : List A) → so_far ≡ false → next_piece rule p ≡ p →
    (ends_in (no_blank rule.blank) so_far p ≡ true → ends_piece rule x ≡ false) → next_piece rule (p ++ x ∷ r) ≡ p ++ x ∷ cond (rule.blank x) (next_piece rule r) (up_to (ends_piece rule) r)
next_piece_on rule so_far [] x r f e b = ⊎_elim (λ t. rw t refl) (λ t. rw t refl) (cases_Bool (rule.blank x))
next_piece_on rule so_far (y ∷ p) x r f e b =
    grind (arith, piece_on (ends_piece rule) p x r, piece_ends rule true p (inr refl), next_piece_on rule (not (rule.blank y)) p x r)

-- the same for their width
next_piece_wide : {A : Type 0} (rule : Rule A) (p : List A) (x : A) (r : List A) → next_piece rule p ≡ p → (ends_in (no_blank rule.blank) false p ≡ true → ends_piece rule x ≡ false) →
    sum_by rule.size p + rule.size x ≤ sum_by rule.size (next_piece rule (p ++ x ∷ r))
next_piece_wide rule p x r e b =
    let more = cond (rule.blank x) (next_piece rule r) (up_to (ends_piece rule) r) in
    let on = ap (sum_by rule.size) (next_piece_on rule false p x r refl e b) in
    let whole = sum_by-append rule.size p (x ∷ more) in
    let first = sum_by-cons rule.size x more in
    omega arith

next_piece_longer : {A : Type 0} (rule : Rule A) (p : List A) (x : A) → next_piece rule p ≡ p → (ends_in (no_blank rule.blank) false p ≡ true → ends_piece rule x ≡ false) → next_piece rule (p ++ x ∷ []) ≡ p ++ x ∷ []
next_piece_longer rule p x e b = next_piece_on rule false p x [] refl e b ∙ ap (λ t. p ++ x ∷ t) (⊎_elim (λ t. rw t refl) (λ t. rw t refl) (cases_Bool (rule.blank x)))

both_true : (p q : Bool) → (p && q) ≡ true → (p ≡ true) × (q ≡ true)
both_true p q e = (grind (arith, e), grind (arith, e))

in_goes : (p q : Bool) → (p && q) ≡ false → p ≡ true → q ≡ false
in_goes p q e f = grind (arith, e, f)

-- the graphemes that were read: those up to the end of the last piece that has ended, then whitespace and a part of one
-- piece
record Read {A : Type 0} (rule : Rule A) (in_word : Bool) (words n room : ℕ) (line piece rest : List A) : Type 0 where
  words_is : words ≡ length line
  n_is : n ≡ length line + length piece
  in_word_is : in_word ≡ ends_in (no_blank rule.blank) false piece
  one_piece : next_piece rule piece ≡ piece
  room_is : room + (sum_by rule.size line + sum_by rule.size piece) ≡ rule.width
  ended : (words ≡ 0) ⊎ ((ends_in (no_blank rule.blank) false line ≡ true) × (begins (ends_piece rule) (piece ++ rest) ≡ true))

-- one more grapheme, if no piece ends before it
read_more : {A : Type 0} (rule : Rule A) (in_word : Bool) (words n room : ℕ) (line piece : List A) (x : A) (rest : List A) → rule.size x ≤ room → (in_word && ends_piece rule x) ≡ false →
    Read rule in_word words n room line piece (x ∷ rest) → Read rule (not (rule.blank x)) words (suc n) (room - rule.size x) line (piece ++ x ∷ []) rest
read_more rule in_word words n room line piece x rest fits goes r =
    let a = length-append piece (x ∷ []) in
    let b = sum_by-append rule.size piece (x ∷ []) in
    let c = sum_by-cons rule.size x [] in
    let i = r.room_is in
    let j = r.n_is in
    record {
      words_is = r.words_is;
      n_is = omega arith;
      in_word_is = sym (ends_in-append (no_blank rule.blank) false piece (x ∷ []));
      one_piece = next_piece_longer rule piece x r.one_piece (λ t. in_goes in_word (ends_piece rule x) goes (r.in_word_is ∙ t));
      room_is = omega arith;
      ended = ⊎_elim (λ t. inl t) (λ t. inr (t.0, ap (begins (ends_piece rule)) (append_assoc piece (x ∷ []) rest) ∙ t.1)) r.ended;
    }

-- what ends in a word has a grapheme
word_some : {A : Type 0} (blank : A → Bool) (piece : List A) → ends_in (no_blank blank) false piece ≡ true → 0 < length piece
word_some blank [] e = absurd (false≢true e)
word_some blank (x ∷ piece) e = omega arith

ends_any : {A : Type 0} (blank : A → Bool) (so_far : Bool) (piece : List A) → ends_in (no_blank blank) false piece ≡ true → ends_in (no_blank blank) so_far piece ≡ true
ends_any blank so_far [] e = absurd (false≢true e)
ends_any blank so_far (x ∷ piece) e = e

-- if a piece ends, it is added to the line
word_ended : {A : Type 0} (rule : Rule A) (in_word : Bool) (words n room : ℕ) (line piece : List A) (x : A) (rest : List A) → in_word ≡ true → ends_piece rule x ≡ true →
    Read rule in_word words n room line piece (x ∷ rest) → Read rule false n n room (line ++ piece) [] (x ∷ rest) × (0 < n)
word_ended rule in_word words n room line piece x rest e b r =
    let ends = sym r.in_word_is ∙ e in
    let a = length-append line piece in
    let s = sum_by-append rule.size line piece in
    let i = r.room_is in
    let j = r.n_is in
    let some = word_some rule.blank piece ends in (
      record {
        words_is = omega arith;
        n_is = omega arith;
        in_word_is = refl;
        one_piece = refl;
        room_is = omega arith;
        ended = inr (ends_in-append (no_blank rule.blank) false line piece ∙ ends_any rule.blank (ends_in (no_blank rule.blank) false line) piece ends, b);
      },
      omega arith,
    )

some_words : (k n : ℕ) → 0 < k → cond (nat_lt 0 k) k n ≡ k
some_words k n some = grind (arith, nat_tests)

-- the line that was read, if the next grapheme doesn't fit
stops : {A : Type 0} (rule : Rule A) (in_word : Bool) (words n room : ℕ) (line piece : List A) (x : A) (rest : List A) (m : ℕ) → room < rule.size x → (in_word && ends_piece rule x) ≡ false →
    m ≡ cond (nat_lt 0 words) words n → Read rule in_word words n room line piece (x ∷ rest) →
    IsLine rule (take m (line ++ (piece ++ x ∷ rest))) (drop m (line ++ (piece ++ x ∷ rest)))
stops rule in_word words n room [] piece x rest m wide goes e r =
    let z = r.words_is in
    let j = r.n_is in
    let d : m ≡ n = e ∙ ap (λ (k : ℕ). cond (nat_lt 0 k) k n) z in
    let c : m ≡ length piece = omega arith in
    let front : take m (piece ++ x ∷ rest) ≡ piece = ap (λ k. take k (piece ++ x ∷ rest)) c ∙ take-append_seam piece (x ∷ rest) in
    let back : drop m (piece ++ x ∷ rest) ≡ x ∷ rest = ap (λ k. drop k (piece ++ x ∷ rest)) c ∙ drop-append_seam piece (x ∷ rest) in
    let i = r.room_is in
    rw (front, back) (record { fits = omega arith; breaks = inr (inr (inr (record { one_piece = r.one_piece; too_wide = omega arith }))) })
stops rule in_word words n room (y ∷ line) piece x rest m wide goes e r =
    let z = r.words_is in
    let c : m ≡ length (y ∷ line) = e ∙ (some_words words n (omega arith) ∙ z) in
    let front : take m ((y ∷ line) ++ (piece ++ x ∷ rest)) ≡ y ∷ line = ap (λ k. take k ((y ∷ line) ++ (piece ++ x ∷ rest))) c ∙ take-append_seam (y ∷ line) (piece ++ x ∷ rest) in
    let back : drop m ((y ∷ line) ++ (piece ++ x ∷ rest)) ≡ piece ++ x ∷ rest = ap (λ k. drop k ((y ∷ line) ++ (piece ++ x ∷ rest))) c ∙ drop-append_seam (y ∷ line) (piece ++ x ∷ rest) in
    let i = r.room_is in
    let more = next_piece_wide rule piece x rest r.one_piece (λ t. in_goes in_word (ends_piece rule x) goes (r.in_word_is ∙ t)) in
    ⊎_elim
    (λ none. absurd (omega arith))
    (λ ended. rw (front, back) (record { fits = omega arith; breaks = inr (breaks_there rule (rule.width - sum_by rule.size (y ∷ line)) (y ∷ line) (piece ++ x ∷ rest) ended.0 ended.1 (omega arith)) }))
    r.ended

-- if no piece ends: whether the next grapheme fits or not
goes_or_stops : {A : Type 0} (rule : Rule A) (in_word : Bool) (words n room : ℕ) (line piece : List A) (x : A) (rest : List A) (m : ℕ) → (in_word && ends_piece rule x) ≡ false →
    m ≡ cond (nat_le (rule.size x) room) (goes_on_for (ends_piece rule) rule.blank rule.size (not (rule.blank x)) words (suc n) (room - rule.size x) rest) (cond (nat_lt 0 words) words n) →
    Read rule in_word words n room line piece (x ∷ rest) →
    (m ≡ goes_on_for (ends_piece rule) rule.blank rule.size (not (rule.blank x)) words (suc n) (room - rule.size x) rest → Read rule (not (rule.blank x)) words (suc n) (room - rule.size x) line (piece ++ x ∷ []) rest →
    IsLine rule (take m (line ++ ((piece ++ x ∷ []) ++ rest))) (drop m (line ++ ((piece ++ x ∷ []) ++ rest)))) →
    IsLine rule (take m (line ++ (piece ++ x ∷ rest))) (drop m (line ++ (piece ++ x ∷ rest)))
goes_or_stops rule in_word words n room line piece x rest m goes e r next =
    ⊎_elim
    (λ t.
    let c = e ∙ cond-true (nat_le (rule.size x) room) (goes_on_for (ends_piece rule) rule.blank rule.size (not (rule.blank x)) words (suc n) (room - rule.size x) rest) (cond (nat_lt 0 words) words n) t in
    let whole : (piece ++ x ∷ []) ++ rest ≡ piece ++ x ∷ rest = append_assoc piece (x ∷ []) rest in
    subst (λ ys. IsLine rule (take m (line ++ ys)) (drop m (line ++ ys))) whole
    (next c (read_more rule in_word words n room line piece x rest (leb-true (rule.size x) room t) goes r)))
    (λ t.
    let c = e ∙ cond-false (nat_le (rule.size x) room) (goes_on_for (ends_piece rule) rule.blank rule.size (not (rule.blank x)) words (suc n) (room - rule.size x) rest) (cond (nat_lt 0 words) words n) t in
    stops rule in_word words n room line piece x rest m (leb-false (rule.size x) room t) goes c r)
    (cases_Bool (nat_le (rule.size x) room))

-- the line that was read
line_is_read : {A : Type 0} (rule : Rule A) (in_word : Bool) (words n room : ℕ) (line piece rest : List A) (m : ℕ) → m ≡ goes_on_for (ends_piece rule) rule.blank rule.size in_word words n room rest →
    Read rule in_word words n room line piece rest → IsLine rule (take m (line ++ (piece ++ rest))) (drop m (line ++ (piece ++ rest)))
line_is_read rule in_word words n room line piece [] m e r =
    let i = r.room_is in
    let s = sum_by-append rule.size line piece in
    let all : m ≡ length (line ++ piece) = e ∙ (r.n_is ∙ sym (length-append line piece)) in
    rw (append-nil piece, all, take-length (line ++ piece), drop-length (line ++ piece)) (record { fits = omega arith; breaks = inl refl })
line_is_read rule in_word words n room line piece (x ∷ rest) m e r =
    ⊎_elim
    (λ ends.
    let both = both_true in_word (ends_piece rule x) ends in
    let q = (word_ended rule in_word words n room line piece x rest both.0 both.1 r).0 in
    let c : m ≡ cond (nat_le (rule.size x) room) (goes_on_for (ends_piece rule) rule.blank rule.size (not (rule.blank x)) n (suc n) (room - rule.size x) rest) (cond (nat_lt 0 n) n n) =
    e ∙ ap (λ (b : Bool). cond (nat_le (rule.size x) room) (goes_on_for (ends_piece rule) rule.blank rule.size (not (rule.blank x)) (cond b n words) (suc n) (room - rule.size x) rest) (cond (nat_lt 0 (cond b n words)) (cond b n words) n)) ends in
    subst (λ ys. IsLine rule (take m ys) (drop m ys)) (append_assoc line piece (x ∷ rest))
    (goes_or_stops rule false n n room (line ++ piece) [] x rest m refl c q
    (λ f k. line_is_read rule (not (rule.blank x)) n (suc n) (room - rule.size x) (line ++ piece) (x ∷ []) rest m f k)))
    (λ goes.
    let c : m ≡ cond (nat_le (rule.size x) room) (goes_on_for (ends_piece rule) rule.blank rule.size (not (rule.blank x)) words (suc n) (room - rule.size x) rest) (cond (nat_lt 0 words) words n) =
    e ∙ ap (λ (b : Bool). cond (nat_le (rule.size x) room) (goes_on_for (ends_piece rule) rule.blank rule.size (not (rule.blank x)) (cond b n words) (suc n) (room - rule.size x) rest) (cond (nat_lt 0 (cond b n words)) (cond b n words) n)) goes in
    goes_or_stops rule in_word words n room line piece x rest m goes c r
    (λ f k. line_is_read rule (not (rule.blank x)) words (suc n) (room - rule.size x) line (piece ++ x ∷ []) rest m f k))
    (cases_Bool (in_word && ends_piece rule x))

-- every list begins with a line
pub line_is : {A : Type 0} (rule : Rule A) (xs : List A) (m : ℕ) → m ≡ line_len (ends_piece rule) rule.blank rule.size rule.width xs → IsLine rule (take m xs) (drop m xs)
line_is rule xs m e = line_is_read rule false 0 0 rule.width [] [] xs m e
    (record { words_is = refl; n_is = refl; in_word_is = refl; one_piece = refl; room_is = omega arith; ended = inl refl })

-- each grapheme fits
abbrev pub AllFit : {A : Type 0} → (A → ℕ) → ℕ → List A → Type 0
AllFit size w xs = AllByRecursion (λ x. size x ≤ w) xs

pub all_fit-kept : {A : Type 0} (size : A → ℕ) (w : ℕ) (xs : List A) → AllFit size w (not_wider size w xs)
all_fit-kept size w [] = tt
all_fit-kept size w (x ∷ xs) =
    ⊎_elim (λ b. rw b (leb-true (size x) w b, all_fit-kept size w xs)) (λ b. rw b (all_fit-kept size w xs)) (cases_Bool (nat_le (size x) w))

pub all_fit-drop : {A : Type 0} (size : A → ℕ) (w m : ℕ) (xs : List A) → AllFit size w xs → AllFit size w (drop m xs)
all_fit-drop size w zero xs h = h
all_fit-drop size w (suc m) [] h = h
all_fit-drop size w (suc m) (x ∷ xs) h = all_fit-drop size w m xs h.1

all_fit-after_break : {A : Type 0} (rule : Rule A) (room : ℕ) (xs : List A) → AllFit rule.size rule.width xs → AllFit rule.size rule.width (after_break rule room xs)
all_fit-after_break rule room [] h = h
all_fit-after_break rule room (x ∷ xs) h =
    ⊎_elim
    (λ b. rw b (⊎_elim (λ c. rw c (all_fit-after_break rule (room - rule.size x) xs h.1)) (λ c. rw c h.1) (cases_Bool (nat_le (rule.size x) room))))
    (λ b. rw b h)
    (cases_Bool (rule.blank x))

all_fit-line_start : {A : Type 0} (rule : Rule A) (trim : Bool) (xs : List A) → AllFit rule.size rule.width xs → AllFit rule.size rule.width (line_start rule.blank trim xs)
all_fit-line_start rule false xs h = h
all_fit-line_start rule true [] h = h
all_fit-line_start rule true (x ∷ xs) h = ⊎_elim (λ b. rw b (all_fit-line_start rule true xs h.1)) (λ b. rw b h) (cases_Bool (rule.blank x))

length-after_break : {A : Type 0} (rule : Rule A) (room : ℕ) (xs : List A) → length (after_break rule room xs) ≤ length xs
length-after_break rule room [] = omega arith
length-after_break rule room (x ∷ xs) = grind (arith, length-after_break rule (room - rule.size x) xs)

length-without_blanks : {A : Type 0} (blank : A → Bool) (xs : List A) → length (without_blanks blank xs) ≤ length xs
length-without_blanks blank [] = omega arith
length-without_blanks blank (x ∷ xs) = grind (arith, length-without_blanks blank xs)

length-line_start : {A : Type 0} (blank : A → Bool) (trim : Bool) (xs : List A) → length (line_start blank trim xs) ≤ length xs
length-line_start blank false xs = omega arith
length-line_start blank true xs = length-without_blanks blank xs

-- a line before something that fits is not empty
pub line_some : {A : Type 0} (rule : Rule A) (k after : List A) → IsLine rule k after → AllFit rule.size rule.width after → (after ≡ []) ⊎ (0 < length k)
line_some rule (x ∷ k) after l h = inr (omega arith)
line_some rule [] [] l h = inl refl
line_some rule [] (y ∷ after) l h =
    ⊎_elim (λ n. inl n) (⊎_elim (λ soft. absurd (let b = soft.word_before in cc)) (⊎_elim (λ hyphen. absurd (let b = hyphen.word_before in cc)) (λ hard. absurd (let t = hard.too_wide in omega (arith, h.0))))) l.breaks

pub lines_are : {A : Type 0} (rule : Rule A) (n : ℕ) (xs : List A) → length xs ≤ n → AllFit rule.size rule.width xs → HasLines rule xs (lines_of rule n xs)
lines_are rule zero [] l h = refl
lines_are rule (suc n) [] l h = refl
lines_are rule zero (x ∷ xs) l h = absurd (omega arith)
lines_are rule (suc n) (x ∷ xs) l h =
    let s = line_start rule.blank rule.trim (x ∷ xs) in
    let k = line_len (ends_piece rule) rule.blank rule.size rule.width s in
    let line = line_is rule s k refl in
    let fit = all_fit-drop rule.size rule.width k s (all_fit-line_start rule rule.trim (x ∷ xs) h) in
    let rest = after_break rule (rule.width - sum_by rule.size (take k s)) (drop k s) in
    let p = ap length (take-append-drop k s) in
    let q = length-append (take k s) (drop k s) in
    let shorter = length-line_start rule.blank rule.trim (x ∷ xs) in
    let less = length-after_break rule (rule.width - sum_by rule.size (take k s)) (drop k s) in
    let some = line_some rule (take k s) (drop k s) line fit in
    let l' : length rest ≤ n = ⊎_elim (λ e. let z = ap length e in omega arith) (λ e. omega arith) some in
    (λ e. cc, rest, record { after = drop k s; joined = sym (take-append-drop k s); line_is = line; rest_is = refl }, lines_are rule n rest l' (all_fit-after_break rule (rule.width - sum_by rule.size (take k s)) (drop k s) fit))

pub wrap_kept_is : {A : Type 0} (rule : Rule A) (xs : List A) → AllFit rule.size rule.width xs → WrapsKept rule xs (wrap_kept rule xs)
wrap_kept_is rule [] h = inl (refl, refl)
wrap_kept_is rule (x ∷ xs) h = inr (λ e. cc, lines_are rule (length (x ∷ xs)) (x ∷ xs) (omega arith) h)
