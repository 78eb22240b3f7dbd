-- The counter counts the lines.
use Rattle.std.proofs.Common.{◌≡◌, ℕ, ◌+◌, ◌≤◌, List, [], ◌∷◌, ◌++◌, length, Bool, true, false, cond, refl, sym, ap, ◌∙◌, subst, arith, inl, inr, ⊎_elim, Option, None, Some}
use Rattle.std.specs.Prelude.{max}
use Rattle.std.proofs.lemmas.Bool.{cases_Bool, ltb-true, ltb-false, cond-true, cond-false}
use Rattle.std.specs.List.{AllByRecursion}
use Rattle.tui_para.specs.Rule.{Rule, ends_piece}
use Rattle.tui_para.specs.declared.counting.counter.Counter.{Counter}
use Rattle.tui_para.specs.declared.counting.line_end.LineEnd.{LineEnd}
use Rattle.tui_para.specs.declared.counting.line_end.LineEnd.TheVariants.{BeforeWord, WithinWord, AfterBlank}
use Rattle.tui_para.specs.Wrapped.{without_blanks, HasLines, WrapsKept, line_start}
use Rattle.tui_para.specs.Counting.{end_word, end_line, break_before_word, add_letter, overflows, after_word, after_piece, ended_with, read_at, step, steps, counted, no_lines}
use Rattle.tui_para.proofs.Reading.{IsPiece, LetterGoesOn, Reads, Counts, fresh, to_letter, word_ended, letter_added}
use Rattle.tui_para.proofs.InLine.{HasFirstLine, PieceGoesOn, StepOutcome, left_out, took_blank, took_letter, at_blank, in_word, before_word, ends_in_word, goes_on, last_line, step_outcome}
use Rattle.tui_para.proofs.Unique.{same_lines}
use Rattle.tui_para.proofs.Filled.{append_cons}
use Rattle.tui_para.proofs.Parts.{lines_some}

-- a line that ends is counted
line_ends : {A : Type 0} (rule : Rule A) (m n : ℕ) (here rest : List A) → HasFirstLine rule here rest → ((lines : List (List A)) → HasLines rule here lines → m + length lines ≡ n)
    → (lines : List (List A)) → HasLines rule rest lines → m + 1 + length lines ≡ n
line_ends rule m n here rest f h = λ lines g. let e = h (f.line ∷ lines) (f.some, rest, f.next, g) in omega arith

module _ {A : Type 0} (rule : Rule A) (x : A) (zs : List A) (n : ℕ) (small : rule.size x ≤ rule.width) where
  -- a grapheme of a word is read, and the line has room for it
  letter_read : (c : Counter) → rule.blank x ≡ false → c.used + rule.size x ≤ rule.width → (h : Counts rule c (x ∷ zs) n) → LetterGoesOn rule h.reads.part x → Counts rule (add_letter c (rule.size x)) zs n
  letter_read c b room h goes = record { here = h.here; reads = letter_added rule c h.here x zs b room h.reads goes; lines = h.lines }

  -- a line ends before it
  line_read : (m : ℕ) (here : List A) → rule.blank x ≡ false → HasFirstLine rule here (x ∷ zs) → ((lines : List (List A)) → HasLines rule here lines → m + length lines ≡ n)
      → Counts rule (add_letter (end_line (record no_lines { lines = m })) (rule.size x)) zs n
  line_read m here b f h =
      letter_read (record no_lines { lines = m + 1 }) b (omega arith) (record { here = x ∷ zs; reads = fresh rule (m + 1) (x ∷ zs); lines = line_ends rule m n here (x ∷ zs) f h }) (inl refl)

  -- a line ends before its word
  word_read : (c : Counter) (h : Counts rule c (x ∷ zs) n) → rule.blank x ≡ false → LetterGoesOn rule h.reads.part x → HasFirstLine rule h.here (h.reads.part ++ x ∷ zs)
      → Counts rule (ended_with rule.width c (rule.size x) BeforeWord) zs n
  word_read c h b goes f =
      let r = h.reads in
      let d = break_before_word c in
      let u = r.used_is in
      let p = r.part_is in
      let fits = r.fits in
      let along : Reads rule d (r.part ++ x ∷ zs) (x ∷ zs) = record {
        front = [];
        gap = [];
        part = r.part;
        start = start_stays r.part rule.trim r.letters ∙ ap (λ q. r.part ++ q) (sym (to_letter rule.blank rule.trim d x zs b));
        used_is = omega arith;
        part_is = r.part_is;
        blanks = tt;
        letters = r.letters;
        begun = inr (refl, refl);
        in_word = r.in_word;
        some = inl (refl, append_cons r.part x zs);
        fits = omega arith;
      } in
      let lines = line_ends rule c.lines n h.here (r.part ++ x ∷ zs) f h.lines in
      let e = λ (full : Bool). Counts rule (add_letter (cond full (end_line d) d) (rule.size x)) zs n in
      ⊎_elim
      (λ o. subst e (sym o) (line_read (c.lines + 1) (r.part ++ x ∷ zs) b (ends_in_word rule d (r.part ++ x ∷ zs) x zs along b refl (ltb-true rule.width (c.word + rule.size x) o)) lines))
      (λ o. subst e (sym o) (letter_read d b (ltb-false rule.width (c.word + rule.size x) o) (record { here = r.part ++ x ∷ zs; reads = along; lines = lines }) goes))
      (cases_Bool (overflows rule.width d (rule.size x)))
    where
      start_stays : (part : List A) (trim : Bool) → IsPiece rule part → line_start rule.blank trim (part ++ x ∷ zs) ≡ part ++ x ∷ zs
      start_stays part false l = refl
      start_stays [] true l = cond-false (rule.blank x) (without_blanks rule.blank zs) (x ∷ zs) b
      start_stays (y ∷ part) true l = cond-false (rule.blank y) (without_blanks rule.blank (part ++ x ∷ zs)) (y ∷ (part ++ x ∷ zs)) l.0

  counted_on : (c : Counter) (h : Counts rule c (x ∷ zs) n) (goes : LetterGoesOn rule h.reads.part x) (end : Option LineEnd) (k : Counter) → StepOutcome rule c h.here x zs h.reads end k
      → Counts rule (read_at rule.width c (rule.size x) k end) zs n
  counted_on c h goes None k (left_out i q) = record { here = h.here; reads = q; lines = h.lines }
  counted_on c h goes None k (took_blank i q) = record { here = h.here; reads = q; lines = h.lines }
  counted_on c h goes None k (took_letter b g room) = letter_read c b room h g
  counted_on c h goes (Some AfterBlank) _ (at_blank k f) = record { here = zs; reads = fresh rule (c.lines + 1) zs; lines = line_ends rule c.lines n h.here zs f h.lines }
  counted_on c h goes (Some WithinWord) _ (in_word k b f) = line_read c.lines h.here b f h.lines
  counted_on c h goes (Some BeforeWord) _ (before_word k b f) = word_read c h b goes f

after_word_read : {A : Type 0} (rule : Rule A) (c : Counter) (x : A) (zs : List A) (n : ℕ) → ends_piece rule x ≡ true → Counts rule c (x ∷ zs) n → Counts rule (after_word c) (x ∷ zs) n × ((after_word c).in_word ≡ false)
after_word_read rule c x zs n b h =
    let e = λ (d : Counter). Counts rule d (x ∷ zs) n × (d.in_word ≡ false) in
    ⊎_elim
    (λ i. subst e (sym (cond-true c.in_word (end_word c) c i)) (record { here = h.here; reads = word_ended rule c h.here x zs b i h.reads; lines = h.lines }, refl))
    (λ i. subst e (sym (cond-false c.in_word (end_word c) c i)) (h, i))
    (cases_Bool c.in_word)

-- if the grapheme ends the piece under way, this has ended
after_end : {A : Type 0} (rule : Rule A) (c : Counter) (x : A) (zs : List A) (n : ℕ) → Counts rule c (x ∷ zs) n →
    Counts rule (cond (ends_piece rule x) (after_word c) c) (x ∷ zs) n × PieceGoesOn rule (cond (ends_piece rule x) (after_word c) c) x
after_end rule c x zs n h =
    let e = λ (d : Counter). Counts rule d (x ∷ zs) n × PieceGoesOn rule d x in
    ⊎_elim
    (λ ends. let a = after_word_read rule c x zs n ends h in subst e (sym (cond-true (ends_piece rule x) (after_word c) c ends)) (a.0, inl a.1))
    (λ goes. subst e (sym (cond-false (ends_piece rule x) (after_word c) c goes)) (h, inr goes))
    (cases_Bool (ends_piece rule x))

pub step_counts : {A : Type 0} (rule : Rule A) (c : Counter) (x : A) (zs : List A) (n : ℕ) → rule.size x ≤ rule.width → Counts rule c (x ∷ zs) n →
    Counts rule (step rule.width rule.trim c (rule.size x) (ends_piece rule x) (rule.blank x)) zs n
step_counts rule c x zs n small h =
    let d = after_piece c (ends_piece rule x) in
    let a = after_end rule c x zs n h in
    counted_on rule x zs n small d a.0 (goes_on rule d a.0.here x zs a.0.reads a.1) _ _ (step_outcome rule d a.0.here x zs a.0.reads a.1)

steps_count : {A : Type 0} (rule : Rule A) (c : Counter) (zs : List A) (n : ℕ) → AllByRecursion (λ x. rule.size x ≤ rule.width) zs → Counts rule c zs n → Counts rule (steps rule c zs) [] n
steps_count rule c [] n a h = h
steps_count rule c (x ∷ zs) n a h = steps_count rule (step rule.width rule.trim c (rule.size x) (ends_piece rule x) (rule.blank x)) zs n a.1 (step_counts rule c x zs n a.0 h)

-- at the end the count is the number of lines
pub counted_is : {A : Type 0} (rule : Rule A) (c : Counter) (n : ℕ) → Counts rule c [] n → counted c ≡ n
counted_is rule c n h = ⊎_elim
    (λ s.
    let l = last_line rule c h.here h.reads s.1 in
    let e = h.lines (l.line ∷ []) (s.1, [], l.next, refl) in
    rw s.0 e)
    (λ s. rw s.0 (h.lines [] s.1))
    h.reads.some

-- the counter counts the lines
pub counts_lines : {A : Type 0} (rule : Rule A) (xs : List A) (lines : List (List A)) → AllByRecursion (λ x. rule.size x ≤ rule.width) xs → HasLines rule xs lines → counted (steps rule no_lines xs) ≡ length lines
counts_lines rule xs lines a h =
    counted_is rule (steps rule no_lines xs) (length lines)
    (steps_count rule no_lines xs (length lines) a (record {
      here = xs;
      reads = fresh rule 0 xs;
      lines = λ ls g. (let e = ap length (same_lines rule ls lines xs xs refl g h) in omega arith);
    }))

-- the number of lines of graphemes that fit, from the counter: one line if there are no graphemes
pub wrap_count : {A : Type 0} (rule : Rule A) (xs : List A) (lines : List (List A)) → AllByRecursion (λ x. rule.size x ≤ rule.width) xs → WrapsKept rule xs lines →
    length lines ≡ max (counted (steps rule no_lines xs)) 1
wrap_count rule xs lines fit h =
    let n = counted (steps rule no_lines xs) in
    ⊎_elim
    (λ t.
    let z : n ≡ 0 = ap (λ ys. counted (steps rule no_lines ys)) t.0 in
    let one = ap length t.1 in
    omega arith)
    (λ t.
    let k = counts_lines rule xs lines fit t.1 in
    let p = lines_some rule xs lines t.1 t.0 in
    omega arith)
    h
