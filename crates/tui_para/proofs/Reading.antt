-- What a counter says about the graphemes that were read.
use Rattle.std.proofs.Common.{◌≡◌, ℕ, ◌+◌, ◌-◌, ◌<◌, ◌≤◌, List, [], ◌∷◌, ◌++◌, length, Bool, true, false, cond, refl, sym, ap, ◌∙◌, arith, inl, inr, ⊎_elim}
use Rattle.std.specs.Prelude.{◌≢◌, ◌⊎◌, ◌||◌, sum_by, nat_le, not}
use Rattle.std.proofs.lemmas.List.{append_assoc}
use Rattle.std.proofs.lemmas.List.Sums.{sum_by-cons, sum_by-append, sum_by_push}
use Rattle.std.proofs.lemmas.Bool.{cases_Bool, le-leb, lt-leb, cond-true, cond-false, or_left, or_right, or_from, false≢true}
use Rattle.tui_para.specs.Rule.{Rule, ends_piece}
use Rattle.tui_para.specs.declared.counting.counter.Counter.{Counter}
use Rattle.tui_para.specs.Wrapped.{up_to, next_piece, without_blanks, after_break, ends_in, no_blank, begins, IsNextLine, HasLines, line_start}
use Rattle.tui_para.specs.Counting.{end_word, add_blank, skip_blank, add_letter}
use Rattle.tui_para.proofs.Unique.{breaks_there, ends_in-append, piece_ends}
use Rattle.tui_para.proofs.Filled.{append_cons}

-- all are whitespace
abbrev pub AllBlank : {A : Type 0} → (A → Bool) → List A → Type 0
AllBlank blank [] = Unit {0}
AllBlank blank (x ∷ xs) = (blank x ≡ true) × AllBlank blank xs

-- the beginning of a piece: no whitespace, then graphemes that don't end it
abbrev pub IsPiece : {A : Type 0} → Rule A → List A → Type 0
IsPiece rule [] = Unit {0}
IsPiece rule (y ∷ ys) = (rule.blank y ≡ false) × (up_to (ends_piece rule) ys ≡ ys)

-- what is still to be read, without the whitespace that is dropped at a line's beginning
abbrev pub to_come : {A : Type 0} → (A → Bool) → Bool → Counter → List A → List A
to_come blank trim c zs = cond (c.begun || c.in_word) zs (line_start blank trim zs)

-- after the last line that has ended comes `here`, of which `zs` is still to be read
pub record Reads {A : Type 0} (rule : Rule A) (c : Counter) (here zs : List A) : Type 0 where
  pub front : List A
  pub gap : List A
  pub part : List A
  pub start : line_start rule.blank rule.trim here ≡ front ++ (gap ++ (part ++ to_come rule.blank rule.trim c zs))
  pub used_is : sum_by rule.size front + sum_by rule.size gap + sum_by rule.size part ≡ c.used
  pub part_is : sum_by rule.size part ≡ c.word
  pub blanks : AllBlank rule.blank gap
  pub letters : IsPiece rule part
  pub begun : ((c.begun ≡ true) × (ends_in (no_blank rule.blank) false front ≡ true) × (begins (ends_piece rule) (gap ++ (part ++ zs)) ≡ true)) ⊎ ((c.begun ≡ false) × (front ≡ []))
  pub in_word : ((c.in_word ≡ true) × (part ≢ [])) ⊎ ((c.in_word ≡ false) × (part ≡ []))
  pub some : ((c.some ≡ true) × (here ≢ [])) ⊎ ((c.some ≡ false) × (here ≡ zs))
  pub fits : c.used ≤ rule.width

-- the lines that have ended and the lines of what comes after them are n together
pub record Counts {A : Type 0} (rule : Rule A) (c : Counter) (zs : List A) (n : ℕ) : Type 0 where
  pub here : List A
  pub reads : Reads rule c here zs
  pub lines : (lines : List (List A)) → HasLines rule here lines → c.lines + length lines ≡ n

-- if a line has just ended
abbrev pub fresh : {A : Type 0} (rule : Rule A) (n : ℕ) (zs : List A) → Reads rule (record { lines = n; some = false; begun = false; in_word = false; used = 0; word = 0 }) zs zs
fresh rule n zs = record {
  front = [];
  gap = [];
  part = [];
  start = refl;
  used_is = refl;
  part_is = refl;
  blanks = tt;
  letters = tt;
  begun = inr (refl, refl);
  in_word = inr (refl, refl);
  some = inr (refl, refl);
  fits = omega arith;
}

-- what is still to be read, if a line or a word is under way
pub going : {A : Type 0} (blank : A → Bool) (trim : Bool) (c : Counter) (zs : List A) → (c.begun ≡ true) ⊎ (c.in_word ≡ true) → to_come blank trim c zs ≡ zs
going blank trim c zs h = cond-true (c.begun || c.in_word) zs (line_start blank trim zs) (⊎_elim (λ b. or_left c.begun c.in_word b) (λ i. or_right c.begun c.in_word i) h)

pub not_going : {A : Type 0} (blank : A → Bool) (trim : Bool) (c : Counter) (zs : List A) → c.begun ≡ false → c.in_word ≡ false → to_come blank trim c zs ≡ line_start blank trim zs
not_going blank trim c zs b i = cond-false (c.begun || c.in_word) zs (line_start blank trim zs) (or_from c.begun c.in_word b i)

pub to_letter : {A : Type 0} (blank : A → Bool) (trim : Bool) (c : Counter) (x : A) (zs : List A) → blank x ≡ false → to_come blank trim c (x ∷ zs) ≡ x ∷ zs
to_letter blank false c x zs h = ⊎_elim (λ b. cond-true (c.begun || c.in_word) (x ∷ zs) (x ∷ zs) b) (λ b. cond-false (c.begun || c.in_word) (x ∷ zs) (x ∷ zs) b) (cases_Bool (c.begun || c.in_word))
to_letter blank true c x zs h =
    let e : line_start blank true (x ∷ zs) ≡ x ∷ zs = cond-false (blank x) (without_blanks blank zs) (x ∷ zs) h in
    ⊎_elim (λ b. cond-true (c.begun || c.in_word) (x ∷ zs) (line_start blank true (x ∷ zs)) b) (λ b. cond-false (c.begun || c.in_word) (x ∷ zs) (line_start blank true (x ∷ zs)) b ∙ e) (cases_Bool (c.begun || c.in_word))

pub untrimmed : {A : Type 0} (blank : A → Bool) (c : Counter) (zs : List A) → to_come blank false c zs ≡ zs
untrimmed blank c zs = ⊎_elim (λ b. cond-true (c.begun || c.in_word) zs zs b) (λ b. cond-false (c.begun || c.in_word) zs zs b) (cases_Bool (c.begun || c.in_word))

letters_end : {A : Type 0} (rule : Rule A) (so_far : Bool) (part : List A) → part ≢ [] → IsPiece rule part → ends_in (no_blank rule.blank) so_far part ≡ true
letters_end rule so_far [] some h = absurd (some refl)
letters_end rule so_far (y ∷ ys) some h = ap (λ b. ends_in (no_blank rule.blank) (not b) ys) h.0 ∙ piece_ends rule true ys (inr refl) h.1

pub word_ended : {A : Type 0} (rule : Rule A) (c : Counter) (here : List A) (x : A) (zs : List A) → ends_piece rule x ≡ true → c.in_word ≡ true → Reads rule c here (x ∷ zs) → Reads rule (end_word c) here (x ∷ zs)
word_ended rule c here x zs b i r =
    let some_part : r.part ≢ [] = ⊎_elim (λ t. t.1) (λ t. absurd (cc)) r.in_word in
    let e = ends_in-append (no_blank rule.blank) false r.front (r.gap ++ r.part) in
    let f = ends_in-append (no_blank rule.blank) (ends_in (no_blank rule.blank) false r.front) r.gap r.part in
    let g = letters_end rule (ends_in (no_blank rule.blank) (ends_in (no_blank rule.blank) false r.front) r.gap) r.part some_part r.letters in
    let t : to_come rule.blank rule.trim c (x ∷ zs) ≡ x ∷ zs = going rule.blank rule.trim c (x ∷ zs) (inr i) in
    let s1 = sum_by-append rule.size r.front (r.gap ++ r.part) in
    let s2 = sum_by-append rule.size r.gap r.part in
    let u = r.used_is in
    record {
      front = r.front ++ (r.gap ++ r.part);
      gap = [];
      part = [];
      start = r.start ∙ rw t (simp append_assoc);
      used_is = omega arith;
      part_is = refl;
      blanks = tt;
      letters = tt;
      begun = inl (refl, e ∙ (f ∙ g), b);
      in_word = inr (refl, refl);
      some = r.some;
      fits = r.fits;
    }

-- the whitespace that fits the room is dropped, and one more whitespace grapheme
pub blanks_go : {A : Type 0} (rule : Rule A) (room : ℕ) (gap rest : List A) → AllBlank rule.blank gap → sum_by rule.size gap ≤ room → after_break rule room (gap ++ rest) ≡ after_break rule (room - sum_by rule.size gap) rest
blanks_go rule room [] rest h l =
    let e : room ≡ room - 0 = omega arith in
    ap (λ r. after_break rule r rest) e
blanks_go rule room (x ∷ gap) rest h l =
    let c = sum_by-cons rule.size x gap in
    let e : room - rule.size x - sum_by rule.size gap ≡ room - sum_by rule.size (x ∷ gap) = omega arith in
    let t : nat_le (rule.size x) room ≡ true = le-leb (rule.size x) room (omega arith) in
    cond-true (rule.blank x) (cond (nat_le (rule.size x) room) (after_break rule (room - rule.size x) (gap ++ rest)) (gap ++ rest)) (x ∷ (gap ++ rest)) h.0
    ∙ (cond-true (nat_le (rule.size x) room) (after_break rule (room - rule.size x) (gap ++ rest)) (gap ++ rest) t
    ∙ (blanks_go rule (room - rule.size x) gap rest h.1 (omega arith) ∙ ap (λ r. after_break rule r rest) e))

pub blank_goes : {A : Type 0} (rule : Rule A) (room : ℕ) (x : A) (zs : List A) → rule.blank x ≡ true → room < rule.size x → after_break rule room (x ∷ zs) ≡ zs
blank_goes rule room x zs b l =
    cond-true (rule.blank x) (cond (nat_le (rule.size x) room) (after_break rule (room - rule.size x) zs) zs) (x ∷ zs) b ∙ cond-false (nat_le (rule.size x) room) (after_break rule (room - rule.size x) zs) zs (lt-leb (rule.size x) room l)

pub letter_stays : {A : Type 0} (rule : Rule A) (room : ℕ) (x : A) (zs : List A) → rule.blank x ≡ false → after_break rule room (x ∷ zs) ≡ x ∷ zs
letter_stays rule room x zs b = cond-false (rule.blank x) (cond (nat_le (rule.size x) room) (after_break rule (room - rule.size x) zs) zs) (x ∷ zs) b

-- the next piece has at least this width
piece_has : {A : Type 0} (rule : Rule A) (part : List A) (x : A) (zs : List A) → up_to (ends_piece rule) part ≡ part → ends_piece rule x ≡ false →
    sum_by rule.size part + rule.size x ≤ sum_by rule.size (up_to (ends_piece rule) (part ++ x ∷ zs))
piece_has rule [] x zs h b =
    let c = sum_by-cons rule.size x (up_to (ends_piece rule) zs) in
    rw b (omega arith)
piece_has rule (y ∷ part) x zs h b =
    let c = sum_by-cons rule.size y part in
    let d = sum_by-cons rule.size y (up_to (ends_piece rule) (part ++ x ∷ zs)) in
    grind (arith, piece_has rule part x zs)

pub next_piece_has : {A : Type 0} (rule : Rule A) (gap rest : List A) → AllBlank rule.blank gap → sum_by rule.size gap + sum_by rule.size (next_piece rule rest) ≡ sum_by rule.size (next_piece rule (gap ++ rest))
next_piece_has rule [] rest h = omega arith
next_piece_has rule (y ∷ gap) rest h =
    let i = next_piece_has rule gap rest h.1 in
    let c = sum_by-cons rule.size y gap in
    let d = sum_by-cons rule.size y (next_piece rule (gap ++ rest)) in
    let b = h.0 in
    rw b (omega arith)

pub blank_is_next : {A : Type 0} (rule : Rule A) (x : A) (zs : List A) → rule.blank x ≡ true → rule.size x ≤ sum_by rule.size (next_piece rule (x ∷ zs))
blank_is_next rule x zs b =
    let c = sum_by-cons rule.size x (next_piece rule zs) in
    rw b (omega arith)

-- a letter continues the piece under way, or there is none
abbrev pub LetterGoesOn : {A : Type 0} → Rule A → List A → A → Type 0
LetterGoesOn rule part x = (part ≡ []) ⊎ (ends_piece rule x ≡ false)

pub letters_are_next : {A : Type 0} (rule : Rule A) (part : List A) (x : A) (zs : List A) → IsPiece rule part → rule.blank x ≡ false → LetterGoesOn rule part x →
    sum_by rule.size part + rule.size x ≤ sum_by rule.size (next_piece rule (part ++ x ∷ zs))
letters_are_next rule [] x zs h b goes =
    let c = sum_by-cons rule.size x (up_to (ends_piece rule) zs) in
    rw b (omega arith)
letters_are_next rule (y ∷ part) x zs h b goes =
    let c = sum_by-cons rule.size y part in
    let d = sum_by-cons rule.size y (up_to (ends_piece rule) (part ++ x ∷ zs)) in
    let no = h.0 in
    let has = ⊎_elim (λ e. absurd (cc)) (λ e. piece_has rule part x zs h.1 e) goes in
    rw no (omega arith)

-- whitespace and a part of a piece
pub one_piece_is : {A : Type 0} (rule : Rule A) (gap part : List A) → AllBlank rule.blank gap → IsPiece rule part → next_piece rule (gap ++ part) ≡ gap ++ part
one_piece_is rule [] [] h l = refl
one_piece_is rule [] (x ∷ part) h l = cond-false (rule.blank x) (x ∷ next_piece rule part) (x ∷ up_to (ends_piece rule) part) l.0 ∙ ap (λ t. x ∷ t) l.1
one_piece_is rule (y ∷ gap) part h l =
    let b = h.0 in
    rw b (ap (λ t. y ∷ t) (one_piece_is rule gap part h.1 l))

-- the line that ends where a piece of a word has ended
pub soft_line : {A : Type 0} (rule : Rule A) (c : Counter) (here : List A) (x : A) (zs : List A) (r : Reads rule c here (x ∷ zs)) → c.begun ≡ true → rule.width < c.used + rule.size x → sum_by rule.size r.part + rule.size x ≤ sum_by rule.size (next_piece rule (r.part ++ x ∷ zs)) → IsNextLine rule here r.front (after_break rule (rule.width - sum_by rule.size r.front - sum_by rule.size r.gap) (r.part ++ x ∷ zs))
soft_line rule c here x zs r b o h =
    let u = r.used_is in
    let fits = r.fits in
    let t : to_come rule.blank rule.trim c (x ∷ zs) ≡ x ∷ zs = going rule.blank rule.trim c (x ∷ zs) (inl b) in
    let n = next_piece_has rule r.gap (r.part ++ x ∷ zs) r.blanks in
    let ends : (ends_in (no_blank rule.blank) false r.front ≡ true) × (begins (ends_piece rule) (r.gap ++ (r.part ++ x ∷ zs)) ≡ true) = ⊎_elim (λ q. (q.1, q.2)) (λ q. absurd (cc)) r.begun in
    record {
      after = r.gap ++ (r.part ++ x ∷ zs);
      joined = r.start ∙ ap (λ q. r.front ++ (r.gap ++ (r.part ++ q))) t;
      line_is = record { fits = omega arith; breaks = inr (breaks_there rule (rule.width - sum_by rule.size r.front) r.front (r.gap ++ (r.part ++ x ∷ zs)) ends.0 ends.1 (omega arith)) };
      rest_is = sym (blanks_go rule (rule.width - sum_by rule.size r.front) r.gap (r.part ++ x ∷ zs) r.blanks (omega arith));
    }

-- the line that ends inside its first word, or before it
pub hard_line : {A : Type 0} (rule : Rule A) (c : Counter) (here : List A) (x : A) (zs : List A) (r : Reads rule c here (x ∷ zs)) → c.begun ≡ false → rule.width < c.used + rule.size x → to_come rule.blank rule.trim c (x ∷ zs) ≡ x ∷ zs → IsNextLine rule here (r.gap ++ r.part) (after_break rule (rule.width - sum_by rule.size (r.gap ++ r.part)) (x ∷ zs))
hard_line rule c here x zs r b o t =
    let u = r.used_is in
    let fits = r.fits in
    let nil : r.front ≡ [] = ⊎_elim (λ q. absurd (cc)) (λ q. q.1) r.begun in
    let zero_front = ap (sum_by rule.size) nil in
    let s = sum_by-append rule.size r.gap r.part in
    record {
      after = x ∷ zs;
      joined = r.start ∙ rw (nil, t) (simp append_assoc);
      line_is = record { fits = omega arith; breaks = inr (inr (inr (record { one_piece = one_piece_is rule r.gap r.part r.blanks r.letters; too_wide = omega arith }))) };
      rest_is = refl;
    }

-- if something is still to be read, `here` is not empty
pub here_some : {A : Type 0} (rule : Rule A) (c : Counter) (here : List A) (x : A) (zs : List A) → Reads rule c here (x ∷ zs) → here ≢ []
here_some rule c here x zs r = ⊎_elim (λ s. s.1) (λ s. λ e. (let f : x ∷ zs ≡ [] = sym s.1 ∙ e in cc)) r.some

up_to_push : {A : Type 0} (test : A → Bool) (part : List A) (x : A) → up_to test part ≡ part → test x ≡ false → up_to test (part ++ x ∷ []) ≡ part ++ x ∷ []
up_to_push test [] x h b = grind arith
up_to_push test (y ∷ part) x h b = grind (arith, up_to_push test part x)

pub piece_push : {A : Type 0} (rule : Rule A) (part : List A) (x : A) → IsPiece rule part → rule.blank x ≡ false → LetterGoesOn rule part x → IsPiece rule (part ++ x ∷ [])
piece_push rule [] x h b goes = (b, refl)
piece_push rule (y ∷ part) x h b goes = (h.0, up_to_push (ends_piece rule) part x h.1 (⊎_elim (λ e. absurd (cc)) (λ e. e) goes))

pub blank_push : {A : Type 0} (blank : A → Bool) (gap : List A) (x : A) → AllBlank blank gap → blank x ≡ true → AllBlank blank (gap ++ x ∷ [])
blank_push blank [] x h b = (b, tt)
blank_push blank (y ∷ gap) x h b = (h.0, blank_push blank gap x h.1 b)

abbrev pub letter_added : {A : Type 0} (rule : Rule A) (c : Counter) (here : List A) (x : A) (zs : List A) → rule.blank x ≡ false → c.used + rule.size x ≤ rule.width → (r : Reads rule c here (x ∷ zs)) → LetterGoesOn rule r.part x → Reads rule (add_letter c (rule.size x)) here zs
letter_added rule c here x zs b o r goes =
    let u = r.used_is in
    let p = r.part_is in
    let s = sum_by_push rule.size r.part x in
    let e : r.part ++ x ∷ zs ≡ (r.part ++ x ∷ []) ++ zs = sym (append_assoc r.part (x ∷ []) zs) in
    let t = to_letter rule.blank rule.trim c x zs b in
    let v : to_come rule.blank rule.trim (add_letter c (rule.size x)) zs ≡ zs = going rule.blank rule.trim (add_letter c (rule.size x)) zs (inr refl) in
    let same : r.part ++ to_come rule.blank rule.trim c (x ∷ zs) ≡ (r.part ++ x ∷ []) ++ to_come rule.blank rule.trim (add_letter c (rule.size x)) zs = ap (λ q. r.part ++ q) t ∙ (e ∙ ap (λ q. (r.part ++ x ∷ []) ++ q) (sym v)) in
    record {
      front = r.front;
      gap = r.gap;
      part = r.part ++ x ∷ [];
      start = r.start ∙ ap (λ q. r.front ++ (r.gap ++ q)) same;
      used_is = omega arith;
      part_is = omega arith;
      blanks = r.blanks;
      letters = piece_push rule r.part x r.letters b goes;
      begun = ⊎_elim (λ q. inl (q.0, q.1, ap (λ y. begins (ends_piece rule) (r.gap ++ y)) (sym e) ∙ q.2)) (λ q. inr q) r.begun;
      in_word = inl (refl, append_cons r.part x []);
      some = inl (refl, here_some rule c here x zs r);
      fits = omega arith;
    }

pub blank_added : {A : Type 0} (rule : Rule A) (c : Counter) (here : List A) (x : A) (zs : List A) → rule.blank x ≡ true → c.in_word ≡ false → c.used + rule.size x ≤ rule.width → to_come rule.blank rule.trim c (x ∷ zs) ≡ x ∷ zs → to_come rule.blank rule.trim (add_blank c (rule.size x)) zs ≡ zs → Reads rule c here (x ∷ zs) → Reads rule (add_blank c (rule.size x)) here zs
blank_added rule c here x zs b i o t u r =
    let n = r.used_is in
    let nil : r.part ≡ [] = ⊎_elim (λ q. absurd (cc)) (λ q. q.1) r.in_word in
    let zero_part = ap (sum_by rule.size) nil in
    let s = sum_by_push rule.size r.gap x in
    let e : r.gap ++ x ∷ zs ≡ (r.gap ++ x ∷ []) ++ zs = sym (append_assoc r.gap (x ∷ []) zs) in
    let same : r.gap ++ (r.part ++ to_come rule.blank rule.trim c (x ∷ zs)) ≡ (r.gap ++ x ∷ []) ++ to_come rule.blank rule.trim (add_blank c (rule.size x)) zs = rw (nil, t, u) e in
    record {
      front = r.front;
      gap = r.gap ++ x ∷ [];
      part = [];
      start = r.start ∙ ap (λ q. r.front ++ q) same;
      used_is = omega arith;
      part_is = ap (sum_by rule.size) (sym nil) ∙ r.part_is;
      blanks = blank_push rule.blank r.gap x r.blanks b;
      letters = tt;
      begun = ⊎_elim (λ q. inl (q.0, q.1, ap (begins (ends_piece rule)) (sym e ∙ ap (λ y. r.gap ++ (y ++ x ∷ zs)) (sym nil)) ∙ q.2)) (λ q. inr q) r.begun;
      in_word = inr (i, refl);
      some = inl (refl, here_some rule c here x zs r);
      fits = omega arith;
    }

pub start_skips : {A : Type 0} (blank : A → Bool) (trim : Bool) (x : A) (zs : List A) → trim ≡ true → blank x ≡ true → line_start blank trim (x ∷ zs) ≡ line_start blank trim zs
start_skips blank true x zs t b = cond-true (blank x) (without_blanks blank zs) (x ∷ zs) b
start_skips blank false x zs t b = absurd (false≢true t)

pub blank_skipped : {A : Type 0} (rule : Rule A) (c : Counter) (here : List A) (x : A) (zs : List A) → rule.trim ≡ true → rule.blank x ≡ true → c.in_word ≡ false → c.begun ≡ false → Reads rule c here (x ∷ zs) → Reads rule (skip_blank c) here zs
blank_skipped rule c here x zs tr b i f r =
    let nil : r.part ≡ [] = ⊎_elim (λ q. absurd (cc)) (λ q. q.1) r.in_word in
    let t : to_come rule.blank rule.trim c (x ∷ zs) ≡ to_come rule.blank rule.trim (skip_blank c) zs =
    not_going rule.blank rule.trim c (x ∷ zs) f i ∙ (start_skips rule.blank rule.trim x zs tr b ∙ sym (not_going rule.blank rule.trim (skip_blank c) zs f i)) in
    record {
      front = r.front;
      gap = r.gap;
      part = r.part;
      start = r.start ∙ ap (λ q. r.front ++ (r.gap ++ (r.part ++ q))) t;
      used_is = r.used_is;
      part_is = r.part_is;
      blanks = r.blanks;
      letters = r.letters;
      begun = ⊎_elim (λ q. absurd (cc)) (λ q. inr q) r.begun;
      in_word = inr (i, nil);
      some = inl (refl, here_some rule c here x zs r);
      fits = r.fits;
    }
