-- At most one list of lines.
use Rattle.std.proofs.Common.{◌≡◌, ℕ, ◌-◌, ◌<◌, ◌≤◌, List, [], ◌∷◌, ◌++◌, Bool, true, false, refl, sym, ap, ◌∙◌, subst, arith, inl, inr, ⊎_elim}
use Rattle.std.specs.Prelude.{◌≢◌, ◌⊎◌, sum_by, not}
use Rattle.std.proofs.lemmas.List.Sums.{sum_by-cons, sum_by-append}
use Rattle.std.proofs.lemmas.List.{append_cancel_left}
use Rattle.std.proofs.lemmas.Bool.{cases_Bool}
use Rattle.tui_para.specs.Rule.{Rule, ends_piece}
use Rattle.tui_para.specs.Wrapped.{up_to, next_piece, no_blank, ends_in, begins, Breaks, IsLine, IsNextLine, HasLines, WrapsKept, line_start}

-- a piece ends between the two lists; `p` stands in for the end of the first one if it is empty
abbrev pub EndsPiece : {A : Type 0} → Rule A → Bool → List A → List A → Type 0
EndsPiece rule p d a = (ends_in (no_blank rule.blank) p d ≡ true) × (begins (ends_piece rule) a ≡ true)

-- this holds at a soft break and at a hyphen break
module _ {A : Type 0} (rule : Rule A) where
  pub begins_blank : (a : List A) → begins rule.blank a ≡ true → begins (ends_piece rule) a ≡ true
  begins_blank [] h = h
  begins_blank (x ∷ a) h = grind (arith, h)

  pub begins_split : (a : List A) → begins rule.split a ≡ true → begins (ends_piece rule) a ≡ true
  begins_split [] h = h
  begins_split (x ∷ a) h = grind (arith, h)

  -- conversely, if a piece ends and what follows is too wide, there is such a break
  pub breaks_there : (room : ℕ) (line after : List A) → ends_in (no_blank rule.blank) false line ≡ true → begins (ends_piece rule) after ≡ true →
      room < sum_by rule.size (next_piece rule after) → Breaks rule room line after
  breaks_there room line [] word next wide = absurd (cc)
  breaks_there room line (x ∷ after) word next wide = ⊎_elim
      (λ split. inr (inl (record { word_before = word; next = split; too_wide = wide })))
      (λ no_split. inl (record { word_before = word; next = grind (arith, next, no_split); too_wide = wide }))
      (cases_Bool (rule.split x))

-- a piece doesn't continue past its end
piece_stops : {A : Type 0} (test : A → Bool) (k : List A) (y : A) (ys : List A) → test y ≡ true → up_to test (k ++ y ∷ ys) ≡ k ++ y ∷ ys → ⊥
piece_stops test [] y ys b e = grind (arith, b, e)
piece_stops test (x ∷ k) y ys b e = grind (arith, piece_stops test k y ys b)

one_piece_stops : {A : Type 0} (rule : Rule A) (so_far : Bool) (k : List A) (y : A) (ys : List A) → so_far ≡ false → EndsPiece rule so_far k (y ∷ ys) → next_piece rule (k ++ y ∷ ys) ≡ k ++ y ∷ ys → ⊥
one_piece_stops rule so_far [] y ys f d e = grind arith
one_piece_stops rule so_far (x ∷ k) y ys f d e = grind (arith, piece_stops (ends_piece rule) k y ys d.1, one_piece_stops rule (not (rule.blank x)) k y ys)

-- a piece ends at the latest where what follows it begins with a grapheme that ends it
piece_within : {A : Type 0} (test : A → Bool) (size : A → ℕ) (d a : List A) → (a ≡ []) ⊎ (begins test a ≡ true) → sum_by size (up_to test (d ++ a)) ≤ sum_by size d
piece_within test size [] [] h = omega arith
piece_within test size [] (x ∷ a) h = grind arith
piece_within test size (x ∷ d) a h = grind (arith, piece_within test size d a h, sum_by-cons size x d, sum_by-cons size x (up_to test (d ++ a)))

next_piece_within : {A : Type 0} (rule : Rule A) (so_far : Bool) (d a : List A) → (a ≡ []) ⊎ ((so_far ≡ false) × EndsPiece rule so_far d a) → sum_by rule.size (next_piece rule (d ++ a)) ≤ sum_by rule.size d
next_piece_within rule so_far [] [] h = omega arith
next_piece_within rule so_far [] (x ∷ a) h = grind arith
next_piece_within rule so_far (x ∷ d) a h =
    let c = sum_by-cons rule.size x d in
    let u = sum_by-cons rule.size x (up_to (ends_piece rule) (d ++ a)) in
    let v = sum_by-cons rule.size x (next_piece rule (d ++ a)) in
    grind (arith, piece_within (ends_piece rule) rule.size d a, next_piece_within rule (not (rule.blank x)) d a, c, u, v)

pub ends_in-append : {A : Type 0} (test : A → Bool) (so_far : Bool) (xs ys : List A) → ends_in test so_far (xs ++ ys) ≡ ends_in test (ends_in test so_far xs) ys
ends_in-append test so_far [] ys = refl
ends_in-append test so_far (x ∷ xs) ys = ends_in-append test (test x) xs ys

-- a piece doesn't end in whitespace
pub piece_ends : {A : Type 0} (rule : Rule A) (so_far : Bool) (v : List A) → (v ≢ []) ⊎ (so_far ≡ true) → up_to (ends_piece rule) v ≡ v → ends_in (no_blank rule.blank) so_far v ≡ true
piece_ends rule so_far [] n e = grind arith
piece_ends rule so_far (x ∷ v) n e = grind (arith, piece_ends rule (not (rule.blank x)) v)

-- if a line breaks, no longer list is a line too
no_longer : {A : Type 0} (rule : Rule A) (k : List A) (y : A) (ys a : List A) → IsLine rule k (y ∷ ys ++ a) → IsLine rule (k ++ y ∷ ys) a → ⊥
no_longer rule k y ys a l m =
    let e = sum_by-append rule.size k (y ∷ ys) in
    let f = sum_by-cons rule.size y ys in
    -- the line ends where a piece ends, before something that is too wide
    let at_piece : EndsPiece rule false k (y ∷ ys ++ a) → rule.width - sum_by rule.size k < sum_by rule.size (next_piece rule (y ∷ ys ++ a)) → ⊥ =
    λ ends wide.
    let longer_ends : ends_in (no_blank rule.blank) false (k ++ y ∷ ys) ≡ true → begins (ends_piece rule) a ≡ true → ⊥ =
    λ word next. (let i = next_piece_within rule false (y ∷ ys) a (inr (refl, (sym (ends_in-append (no_blank rule.blank) false k (y ∷ ys)) ∙ word, next))) in omega arith) in
    ⊎_elim
    (λ n. let i = next_piece_within rule false (y ∷ ys) a (inl n) in omega arith)
    (⊎_elim
    (λ soft. longer_ends soft.word_before (begins_blank rule a soft.next))
    (⊎_elim
    (λ hyphen. longer_ends hyphen.word_before (begins_split rule a hyphen.next))
    (λ hard. one_piece_stops rule false k y ys refl ends hard.one_piece)))
    m.breaks in
    ⊎_elim
    (λ n. cc)
    (⊎_elim
    (λ soft. at_piece (soft.word_before, begins_blank rule (y ∷ ys ++ a) soft.next) soft.too_wide)
    (⊎_elim
    (λ hyphen. at_piece (hyphen.word_before, begins_split rule (y ∷ ys ++ a) hyphen.next) hyphen.too_wide)
    (λ hard. let t = hard.too_wide in omega arith)))
    l.breaks

-- two prefixes of one list are the same, or one of them is longer
abbrev pub Prefixes : {A : Type 0} → List A → List A → List A → List A → Type 0
Prefixes {A} k a m b = (k ≡ m) ⊎ (((y : A) × (ys : List A) × (m ≡ k ++ y ∷ ys) × (a ≡ y ∷ ys ++ b)) ⊎ ((y : A) × (ys : List A) × (k ≡ m ++ y ∷ ys) × (b ≡ y ∷ ys ++ a)))

pub prefixes : {A : Type 0} (k a m b : List A) → k ++ a ≡ m ++ b → Prefixes k a m b
prefixes [] a [] b e = inl refl
prefixes [] a (y ∷ m) b e = inr (inl (y, m, refl, e))
prefixes (y ∷ k) a [] b e = inr (inr (y, k, refl, sym e))
prefixes (x ∷ k) a (y ∷ m) b e =
    let h : x ≡ y = cc in
    let t : k ++ a ≡ m ++ b = cc in
    ⊎_elim (λ s. inl (cc)) (⊎_elim (λ s. inr (inl (s.0, s.1, cc s.2, s.3))) (λ s. inr (inr (s.0, s.1, cc s.2, s.3)))) (prefixes k a m b t)

-- a list begins with at most one line
pub same_line : {A : Type 0} (rule : Rule A) (k a m b : List A) → k ++ a ≡ m ++ b → IsLine rule k a → IsLine rule m b → k ≡ m
same_line rule k a m b e l n =
    ⊎_elim (λ s. s)
    (⊎_elim
    (λ s. absurd (no_longer rule k s.0 s.1 b (subst (λ t. IsLine rule k t) s.3 l) (subst (λ t. IsLine rule t b) s.2 n)))
    (λ s. absurd (no_longer rule m s.0 s.1 a (subst (λ t. IsLine rule m t) s.3 n) (subst (λ t. IsLine rule t a) s.2 l))))
    (prefixes k a m b e)

pub same_next : {A : Type 0} (rule : Rule A) (xs ys k m r t : List A) → xs ≡ ys → IsNextLine rule xs k r → IsNextLine rule ys m t → (k ≡ m) × (r ≡ t)
same_next rule xs ys k m r t e h g =
    let whole : k ++ h.after ≡ m ++ g.after = sym h.joined ∙ (ap (line_start rule.blank rule.trim) e ∙ g.joined) in
    let line = same_line rule k h.after m g.after whole h.line_is g.line_is in
    let after : h.after ≡ g.after = append_cancel_left k h.after g.after (whole ∙ ap (λ t. t ++ g.after) (sym line)) in
    let rest : r ≡ t = cc (h.rest_is, g.rest_is) in
    (line, rest)

-- and at most one list of lines
pub same_lines : {A : Type 0} (rule : Rule A) (ks ms : List (List A)) (xs ys : List A) → xs ≡ ys → HasLines rule xs ks → HasLines rule ys ms → ks ≡ ms
same_lines rule [] [] xs ys e h g = refl
same_lines rule [] (m ∷ ms) xs ys e h g = absurd (g.0 (sym e ∙ h))
same_lines rule (k ∷ ks) [] xs ys e h g = absurd (h.0 (e ∙ g))
same_lines rule (k ∷ ks) (m ∷ ms) xs ys e h g =
    let n = same_next rule xs ys k m h.1 g.1 e h.2 g.2 in
    let rest = same_lines rule ks ms h.1 g.1 n.1 h.3 g.3 in
    cc

pub same_kept : {A : Type 0} (rule : Rule A) (xs : List A) (ks ms : List (List A)) → WrapsKept rule xs ks → WrapsKept rule xs ms → ks ≡ ms
same_kept rule xs ks ms =
    ⊎_elim
    (λ h. ⊎_elim (λ g. h.1 ∙ sym g.1) (λ g. absurd (g.0 h.0)))
    (λ h. ⊎_elim (λ g. absurd (h.0 g.0)) (λ g. same_lines rule ks ms xs xs refl h.1 g.1))
