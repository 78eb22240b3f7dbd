-- Where the line under way ends, and how it continues until then.
use Rattle.std.proofs.Common.{◌≡◌, ℕ, ◌+◌, ◌-◌, ◌<◌, ◌≤◌, List, [], ◌∷◌, ◌++◌, Bool, true, false, cond, not, ◌&&◌, ◌||◌, Option, None, Some, refl, sym, ap, ◌∙◌, subst, arith, inl, inr, ⊎_elim}
use Rattle.std.specs.Prelude.{◌≢◌, ◌⊎◌, sum_by}
use Rattle.std.proofs.lemmas.List.{append_assoc}
use Rattle.std.proofs.lemmas.List.Sums.{sum_by-append}
use Rattle.std.proofs.lemmas.Bool.{cases_Bool, ltb-true, ltb-false, cond-true, cond-false, and_parts, and_cases, not-true, not-false, or_right, or_from, false≢true}
use Rattle.tui_para.specs.Rule.{Rule, ends_piece}
use Rattle.tui_para.specs.declared.counting.counter.Counter.{Counter}
use Rattle.tui_para.specs.declared.counting.line_end.LineEnd.{LineEnd}
use Rattle.tui_para.specs.declared.counting.line_end.LineEnd.TheVariants.{BeforeWord, WithinWord, AfterBlank}
use Rattle.tui_para.specs.Wrapped.{next_piece, after_break, IsNextLine, line_start}
use Rattle.tui_para.specs.Counting.{Fits, end_word, add_blank, skip_blank, add_letter, overflows, after_piece, left_from, line_end, no_lines, read_in}
use Rattle.tui_para.proofs.Reading.{IsPiece, fresh, LetterGoesOn, Reads, to_come, going, to_letter, untrimmed, word_ended, blank_goes, letter_stays, blank_is_next, letters_are_next, soft_line, hard_line, here_some, letter_added, blank_added, blank_skipped}

-- the graphemes begin with a line, and `rest` is left after it
pub record HasFirstLine {A : Type 0} (rule : Rule A) (xs rest : List A) : Type 0 where
  pub some : xs ≢ []
  pub line : List A
  pub next : IsNextLine rule xs line rest

-- if a piece is under way, the grapheme doesn't end it
abbrev pub PieceGoesOn : {A : Type 0} → Rule A → Counter → A → Type 0
PieceGoesOn rule c x = (c.in_word ≡ false) ⊎ (ends_piece rule x ≡ false)

module _ {A : Type 0} (rule : Rule A) (c : Counter) (here : List A) where
  -- the last line, if nothing is left to be read
  pub last_line : Reads rule c here [] → here ≢ [] → HasFirstLine rule here []
  last_line r some =
      let u = r.used_is in
      let fits = r.fits in
      let s1 = sum_by-append rule.size r.front (r.gap ++ r.part) in
      let s2 = sum_by-append rule.size r.gap r.part in
      let t : to_come rule.blank rule.trim c [] ≡ [] = nothing rule.blank rule.trim (c.begun || c.in_word) in
      record {
        some = some;
        line = r.front ++ (r.gap ++ r.part);
        next = record { after = []; joined = r.start ∙ rw t (simp append_assoc); line_is = record { fits = omega arith; breaks = inl refl }; rest_is = refl };
      }
    where
      nothing : {B : Type 0} (blank : B → Bool) (trim b : Bool) → cond b [] (line_start blank trim []) ≡ []
      nothing blank true true = refl
      nothing blank true false = refl
      nothing blank false true = refl
      nothing blank false false = refl

  module _ (x : A) (zs : List A) (r : Reads rule c here (x ∷ zs)) where
    no_part : c.in_word ≡ false → r.part ≡ []
    no_part i = ⊎_elim (λ q. absurd (cc)) (λ q. q.1) r.in_word

    -- a line ends at whitespace
    pub ends_at_blank : rule.blank x ≡ true → c.in_word ≡ false → rule.width < c.used + rule.size x → to_come rule.blank rule.trim c (x ∷ zs) ≡ x ∷ zs → HasFirstLine rule here zs
    ends_at_blank b i o t =
        let u = r.used_is in
        let fits = r.fits in
        let whole : r.part ++ x ∷ zs ≡ x ∷ zs = ap (λ q. q ++ x ∷ zs) (no_part i) in
        let zero_part = ap (sum_by rule.size) (no_part i) in
        let wide : sum_by rule.size r.part + rule.size x ≤ sum_by rule.size (next_piece rule (r.part ++ x ∷ zs)) = (let k = blank_is_next rule x zs b in rw whole (omega arith)) in
        ⊎_elim
        (λ y.
        let room = rule.width - sum_by rule.size r.front - sum_by rule.size r.gap in
        let rest : after_break rule room (r.part ++ x ∷ zs) ≡ zs = ap (after_break rule room) whole ∙ blank_goes rule room x zs b (omega arith) in
        record { some = here_some rule c here x zs r; line = r.front; next = subst (IsNextLine rule here r.front) rest (soft_line rule c here x zs r y o wide) })
        (λ y.
        let s = sum_by-append rule.size r.gap r.part in
        let nil_front : r.front ≡ [] = ⊎_elim (λ q. absurd (cc)) (λ q. q.1) r.begun in
        let zero_front = ap (sum_by rule.size) nil_front in
        let rest = blank_goes rule (rule.width - sum_by rule.size (r.gap ++ r.part)) x zs b (omega arith) in
        record { some = here_some rule c here x zs r; line = r.gap ++ r.part; next = subst (IsNextLine rule here (r.gap ++ r.part)) rest (hard_line rule c here x zs r y o t) })
        (cases_Bool c.begun)

    pub goes_on : PieceGoesOn rule c x → LetterGoesOn rule r.part x
    goes_on = ⊎_elim (λ i. inl (no_part i)) (λ e. inr e)

    -- a line ends before the word under way
    pub ends_before_word : rule.blank x ≡ false → PieceGoesOn rule c x → c.begun ≡ true → rule.width < c.used + rule.size x → HasFirstLine rule here (r.part ++ x ∷ zs)
    ends_before_word b goes y o =
        let l = soft_line rule c here x zs r y o (letters_are_next rule r.part x zs r.letters b (goes_on goes)) in
        let rest = break_stays r.part (rule.width - sum_by rule.size r.front - sum_by rule.size r.gap) r.letters in
        record { some = here_some rule c here x zs r; line = r.front; next = subst (IsNextLine rule here r.front) rest l }
      where
        break_stays : (part : List A) (room : ℕ) → IsPiece rule part → after_break rule room (part ++ x ∷ zs) ≡ part ++ x ∷ zs
        break_stays [] room l = letter_stays rule room x zs b
        break_stays (y ∷ part) room l = letter_stays rule room y (part ++ x ∷ zs) l.0

    -- a line ends within a word
    pub ends_in_word : rule.blank x ≡ false → c.begun ≡ false → rule.width < c.used + rule.size x → HasFirstLine rule here (x ∷ zs)
    ends_in_word b y o =
        let l = hard_line rule c here x zs r y o (to_letter rule.blank rule.trim c x zs b) in
        let rest = letter_stays rule (rule.width - sum_by rule.size (r.gap ++ r.part)) x zs b in
        record { some = here_some rule c here x zs r; line = r.gap ++ r.part; next = subst (IsNextLine rule here (r.gap ++ r.part)) rest l }

    -- whitespace is dropped only before a line's first word
    nothing_left_out : (rule.trim && not c.begun) ≡ false → (to_come rule.blank rule.trim c (x ∷ zs) ≡ x ∷ zs) × (to_come rule.blank rule.trim (add_blank c (rule.size x)) zs ≡ zs)
    nothing_left_out y = ⊎_elim
        (λ f. subst (λ t. (to_come rule.blank t c (x ∷ zs) ≡ x ∷ zs) × (to_come rule.blank t (add_blank c (rule.size x)) zs ≡ zs)) (sym f) (untrimmed rule.blank c (x ∷ zs), untrimmed rule.blank (add_blank c (rule.size x)) zs))
        (λ f. (going rule.blank rule.trim c (x ∷ zs) (inl (not-false c.begun f)), going rule.blank rule.trim (add_blank c (rule.size x)) zs (inl (not-false c.begun f))))
        (and_cases rule.trim (not c.begun) y)

-- a grapheme comes: either the line ends and leaves this, or the counter becomes this
pub data StepOutcome {A : Type 0} (rule : Rule A) (c : Counter) (here : List A) (x : A) (zs : List A) (r : Reads rule c here (x ∷ zs)) : Option LineEnd → Counter → Type 0 where
  left_out : c.in_word ≡ false → Reads rule (skip_blank c) here zs → StepOutcome rule c here x zs r None (skip_blank c)
  took_blank : c.in_word ≡ false → Reads rule (add_blank c (rule.size x)) here zs → StepOutcome rule c here x zs r None (add_blank c (rule.size x))
  took_letter : rule.blank x ≡ false → LetterGoesOn rule r.part x → c.used + rule.size x ≤ rule.width → StepOutcome rule c here x zs r None (add_letter c (rule.size x))
  at_blank : (k : Counter) → HasFirstLine rule here zs → StepOutcome rule c here x zs r (Some AfterBlank) k
  in_word : (k : Counter) → rule.blank x ≡ false → HasFirstLine rule here (x ∷ zs) → StepOutcome rule c here x zs r (Some WithinWord) k
  before_word : (k : Counter) → rule.blank x ≡ false → HasFirstLine rule here (r.part ++ x ∷ zs) → StepOutcome rule c here x zs r (Some BeforeWord) k

module _ {A : Type 0} (rule : Rule A) (c : Counter) (here : List A) (x : A) (zs : List A) (r : Reads rule c here (x ∷ zs)) where
  abbrev Goes : Bool → Type 0
  Goes blank = StepOutcome rule c here x zs r (line_end rule.width rule.trim c (rule.size x) blank) (read_in rule.trim c (rule.size x) blank)

  blank_comes : rule.blank x ≡ true → c.in_word ≡ false → Goes true
  blank_comes b i =
      let full = overflows rule.width c (rule.size x) in
      let e = λ (out : Bool). StepOutcome rule c here x zs r (cond out None (cond full (Some AfterBlank) None)) (cond out (skip_blank c) (add_blank c (rule.size x))) in
      ⊎_elim
      (λ y.
      let parts = and_parts rule.trim (not c.begun) y in
      subst e (sym y) (left_out i (blank_skipped rule c here x zs parts.0 b i (not-true c.begun parts.1) r)))
      (λ y.
      let t = nothing_left_out rule c here x zs r y in
      subst e (sym y) (⊎_elim
      (λ o. subst (λ (f : Bool). StepOutcome rule c here x zs r (cond f (Some AfterBlank) None) (add_blank c (rule.size x))) (sym o)
      (at_blank (add_blank c (rule.size x)) (ends_at_blank rule c here x zs r b i (ltb-true rule.width (c.used + rule.size x) o) t.0)))
      (λ o. subst (λ (f : Bool). StepOutcome rule c here x zs r (cond f (Some AfterBlank) None) (add_blank c (rule.size x))) (sym o)
      (took_blank i (blank_added rule c here x zs b i (ltb-false rule.width (c.used + rule.size x) o) t.0 t.1 r)))
      (cases_Bool full)))
      (cases_Bool (rule.trim && not c.begun))

  letter_comes : rule.blank x ≡ false → PieceGoesOn rule c x → Goes false
  letter_comes b goes =
      let full = overflows rule.width c (rule.size x) in
      let k = add_letter c (rule.size x) in
      let e = λ (f : Bool). StepOutcome rule c here x zs r (cond f (Some (cond c.begun BeforeWord WithinWord)) None) k in
      ⊎_elim
      (λ o.
      let wide = ltb-true rule.width (c.used + rule.size x) o in
      subst e (sym o) (⊎_elim
      (λ y. subst (λ (f : Bool). StepOutcome rule c here x zs r (Some (cond f BeforeWord WithinWord)) k) (sym y) (before_word k b (ends_before_word rule c here x zs r b goes y wide)))
      (λ y. subst (λ (f : Bool). StepOutcome rule c here x zs r (Some (cond f BeforeWord WithinWord)) k) (sym y) (in_word k b (ends_in_word rule c here x zs r b y wide)))
      (cases_Bool c.begun)))
      (λ o. subst e (sym o) (took_letter b (goes_on rule c here x zs r goes) (ltb-false rule.width (c.used + rule.size x) o)))
      (cases_Bool full)

  pub step_outcome : PieceGoesOn rule c x → Goes (rule.blank x)
  step_outcome goes = ⊎_elim
      (λ b.
      let over : c.in_word ≡ false = ⊎_elim (λ i. i) (λ g. absurd (false≢true (sym g ∙ or_right (rule.split x) (rule.blank x) b))) goes in
      subst Goes (sym b) (blank_comes b over))
      (λ b. subst Goes (sym b) (letter_comes b goes))
      (cases_Bool (rule.blank x))

-- the counter describes the line under way, and `word` is the list of graphemes from the beginning of its last piece
pub record LineState {A : Type 0} (rule : Rule A) (c : Counter) (here word zs : List A) : Type 0 where
  pub reads : Reads rule c here zs
  pub word_is : c.in_word ≡ true → word ≡ reads.part ++ zs

-- the line ends and leaves this, or continues with this counter
abbrev pub NextLineState : {A : Type 0} → Rule A → List A → List A → A → List A → Option LineEnd → Counter → Type 0
NextLineState rule here word x zs None k = LineState rule k here word zs
NextLineState rule here word x zs (Some end) k = HasFirstLine rule here (left_from end word (x ∷ zs) zs)

next_line_state : {A : Type 0} (rule : Rule A) (c : Counter) (here word : List A) (x : A) (zs : List A) (r : Reads rule c here (x ∷ zs)) → (rule.blank x ≡ false → word ≡ r.part ++ x ∷ zs)
    → (end : Option LineEnd) (k : Counter) → StepOutcome rule c here x zs r end k → NextLineState rule here word x zs end k
next_line_state rule c here word x zs r e None k (left_out i q) = record { reads = q; word_is = λ t. absurd (false≢true (sym i ∙ t)) }
next_line_state rule c here word x zs r e None k (took_blank i q) = record { reads = q; word_is = λ t. absurd (false≢true (sym i ∙ t)) }
next_line_state rule c here word x zs r e None k (took_letter b goes room) =
    record { reads = letter_added rule c here x zs b room r goes; word_is = λ t. e b ∙ sym (append_assoc r.part (x ∷ []) zs) }
next_line_state rule c here word x zs r e (Some AfterBlank) _ (at_blank k f) = f
next_line_state rule c here word x zs r e (Some WithinWord) _ (in_word k b f) = f
next_line_state rule c here word x zs r e (Some BeforeWord) _ (before_word k b f) = subst (HasFirstLine rule here) (sym (e b)) f

-- if the grapheme ends the piece under way, that piece has ended; otherwise the word goes on with the grapheme
record Ready {A : Type 0} (rule : Rule A) (here word : List A) (x : A) (zs : List A) (c : Counter) : Type 0 where
  reads : Reads rule c here (x ∷ zs)
  goes : PieceGoesOn rule c x
  word_is : rule.blank x ≡ false → word ≡ reads.part ++ x ∷ zs

-- if no words are split, and `word` begins where the last piece does, or with this grapheme if none is under way
pub line_state_step : {A : Type 0} (rule : Rule A) (c : Counter) (here before word : List A) (x : A) (zs : List A) → rule.split x ≡ false → word ≡ cond c.in_word before (x ∷ zs) → LineState rule c here before (x ∷ zs)
    → (let d = after_piece c (ends_piece rule x) in NextLineState rule here word x zs (line_end rule.width rule.trim d (rule.size x) (rule.blank x)) (read_in rule.trim d (rule.size x) (rule.blank x)))
line_state_step rule c here before word x zs whole word_is s =
    let d = after_piece c (ends_piece rule x) in
    let ready : Ready rule here word x zs d = ⊎_elim
    (λ b.
    let ends : ends_piece rule x ≡ true = or_right (rule.split x) (rule.blank x) b in
    subst (λ (t : Bool). Ready rule here word x zs (after_piece c t)) (sym ends) (⊎_elim
    (λ i. subst (Ready rule here word x zs) (sym (cond-true c.in_word (end_word c) c i)) (record { reads = word_ended rule c here x zs ends i s.reads; goes = inl refl; word_is = λ f. absurd (false≢true (sym f ∙ b)) }))
    (λ i. subst (Ready rule here word x zs) (sym (cond-false c.in_word (end_word c) c i)) (record { reads = s.reads; goes = inl i; word_is = λ f. absurd (false≢true (sym f ∙ b)) }))
    (cases_Bool c.in_word)))
    (λ b.
    let goes : ends_piece rule x ≡ false = or_from (rule.split x) (rule.blank x) whole b in
    let part : word ≡ s.reads.part ++ x ∷ zs = ⊎_elim
    (λ i. word_is ∙ cond-true c.in_word before (x ∷ zs) i ∙ s.word_is i)
    (λ i. word_is ∙ cond-false c.in_word before (x ∷ zs) i ∙ ap (λ p. p ++ x ∷ zs) (sym (no_part rule c here x zs s.reads i)))
    (cases_Bool c.in_word) in
    subst (λ (t : Bool). Ready rule here word x zs (after_piece c t)) (sym goes) (record { reads = s.reads; goes = inr goes; word_is = λ f. part }))
    (cases_Bool (rule.blank x)) in
    next_line_state rule d here word x zs ready.reads ready.word_is _ _ (step_outcome rule d here x zs ready.reads ready.goes)

-- before any grapheme is read
pub line_state_first : {A : Type 0} (rule : Rule A) (xs word : List A) → LineState rule no_lines xs word xs
line_state_first rule xs word = record { reads = fresh rule 0 xs; word_is = λ i. absurd (false≢true i) }

module _ {A : Type 0} (rule : Rule A) (c : Counter) (here word zs : List A) (s : LineState rule c here word zs) where
  pub fits_in : Fits rule.width c
  fits_in = let u = s.reads.used_is in let p = s.reads.part_is in (s.reads.fits, omega arith)

  -- if all graphemes are read, there is a last line unless there are none
  pub all_read : zs ≡ [] → (here ≡ []) ⊎ HasFirstLine rule here []
  all_read none =
      let r = subst (Reads rule c here) none s.reads in
      ⊎_elim (λ t. inr (last_line rule c here r t.1)) (λ t. inl t.1) r.some
