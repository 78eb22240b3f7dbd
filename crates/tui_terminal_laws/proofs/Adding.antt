-- Adding to a pen.
use Rattle.std.proofs.Common.{◌≡◌, ℕ, ◌+◌, ◌<◌, ◌≤◌, Bool, true, false, not, ◌&&◌, ◌||◌, List, [], ◌∷◌, ◌++◌, length, cond, refl, sym, ap, ◌∙◌, append_assoc, inl, inr, arith}
use Rattle.std.specs.Prelude.{slice_set}
use Rattle.std.proofs.lemmas.Bool.{and_parts, cases_Bool, cond-true, cond-false, true≢false}
use Rattle.tui_cells.specs.Same.{same_color}
use Rattle.tui_cells.specs.contracts.color.ColorPartialEq as color
use Rattle.tui_cells.specs.declared.color.Color.{Color}
use Rattle.tui_cells.specs.declared.color.Color.TheVariants.{Rgb, Indexed}
use Rattle.tui_terminal_model.specs.Pens.{add_all, added, adds_of, background_added, color_parameters, foreground_added, has_name, is_bright, marks_added, marks_of, marks_stay, only_adds, parameters, then_background_added}
use Rattle.tui_terminal_model.specs.Sends.{IsSafe, IsSafeSetting}
use Rattle.tui_terminal_model.specs.Terminal.{Pen, Setting, Tty, add, back, front, mark, pen_after, run}
use Rattle.tui_terminal_laws.proofs.Depths.{mark_few, parameters_append}
use Rattle.tui_terminal_laws.proofs.Lists.{Each, Each-all, Each-append}
use Rattle.tui_terminal_laws.proofs.Pen.{pen_from, run_append, steps, then_more, with_pen}

abbrev inked : Color → Color → List Bool → Pen
inked f b ms = record { fg = f; bg = b; marks = ms }

-- ---- marks

set_at : (before after : List Bool) (a c : Bool) → slice_set (before ++ a ∷ after) (length before) c ≡ before ++ c ∷ after
set_at [] after a c = refl
set_at (m ∷ before) after a c = ap (λ (l : List Bool). m ∷ l) (set_at before after a c)

one_mark : (before after : List Bool) (a b : Bool) (f g : Color) → (not a || b) ≡ true →
    pen_after (cond (not a && b) (mark (length before) ∷ []) []) (inked f g (before ++ a ∷ after)) ≡ inked f g (before ++ b ∷ after)
one_mark before after true true f g stays = refl
one_mark before after true false f g stays = absurd (true≢false (sym stays))
one_mark before after false true f g stays = ap (inked f g) (set_at before after false true)
one_mark before after false false f g stays = refl

long_one : (before : List Bool) (b : Bool) → length (before ++ b ∷ []) ≡ length before + 1
long_one [] b = refl
long_one (m ∷ before) b = let more = long_one before b in omega (arith, more)

marks_set : (before ms ns : List Bool) (f g : Color) → marks_stay ms ns ≡ true → length ms ≡ length ns →
    pen_after (marks_added (length before) ms ns) (inked f g (before ++ ms)) ≡ inked f g (before ++ ns)
marks_set before [] [] f g stay long = refl
marks_set before [] (b ∷ ns) f g stay long = absurd (omega arith)
marks_set before (a ∷ ms) [] f g stay long = absurd (omega arith)
marks_set before (a ∷ ms) (b ∷ ns) f g stay long =
    let both = and_parts (not a || b) (marks_stay ms ns) stay in
    let there = marks_set (before ++ b ∷ []) ms ns f g both.1 (omega arith) in
    let more : pen_after (marks_added (length before + 1) ms ns) (inked f g (before ++ b ∷ ms)) ≡ inked f g (before ++ b ∷ ns) =
    (λ i. pen_after (marks_added (sym (long_one before b) i) ms ns) (inked f g (sym (append_assoc before (b ∷ []) ms) i)))
    ∙ (there ∙ ap (inked f g) (append_assoc before (b ∷ []) ns)) in
    then_more (cond (not a && b) (mark (length before) ∷ []) []) _ _ _ _ (one_mark before ms a b f g both.0) more

-- ---- colours

front_more : (f h g : Color) (ms : List Bool) → pen_after (foreground_added f h) (inked f g ms) ≡ inked h g ms
front_more f h g ms = elim (cases_Bool (color.TheImpl.ghosts.eq f h)) [
  | inl same ↦
      ap (λ (ss : List Setting). pen_after ss (inked f g ms)) (cond-true _ [] (front h ∷ []) same)
      ∙ ap (λ (c : Color). inked c g ms) (same_color f h same)
  | inr other ↦ ap (λ (ss : List Setting). pen_after ss (inked f g ms)) (cond-false _ [] (front h ∷ []) other)
]

back_more : (g h f : Color) (ms : List Bool) → pen_after (background_added g h) (inked f g ms) ≡ inked f h ms
back_more g h f ms = elim (cases_Bool (color.TheImpl.ghosts.eq g h)) [
  | inl same ↦
      ap (λ (ss : List Setting). pen_after ss (inked f g ms)) (cond-true _ [] (back h ∷ []) same)
      ∙ ap (λ (c : Color). inked f c ms) (same_color g h same)
  | inr other ↦ ap (λ (ss : List Setting). pen_after ss (inked f g ms)) (cond-false _ [] (back h ∷ []) other)
]

-- ---- the commands

all_added : (knows : List ℕ → Bool) (ss : List Setting) (p : Pen) (t : Tty) → t.whole ≡ true →
    run knows (add_all ss) (with_pen p t) ≡ with_pen (pen_after ss p) t
all_added knows [] p t whole = refl
all_added knows (s ∷ ss) p t whole = steps knows (add s ss) (with_pen p t) whole

-- the background colour is set with the other settings, or by itself
with_back : (knows : List ℕ → Bool) (named : Bool) (ms fs bs : List Setting) (p q r : Pen) (t : Tty) → t.whole ≡ true →
    pen_after ms p ≡ q → pen_after fs q ≡ r → (u : Pen) → pen_after bs r ≡ u →
    run knows (add_all (ms ++ (fs ++ cond named bs [])) ++ cond named [] (add_all bs)) (with_pen p t) ≡ with_pen u t
with_back knows true ms fs bs p q r t whole first second u third =
    run_append knows (add_all (ms ++ (fs ++ bs))) [] (with_pen p t)
    ∙ (all_added knows (ms ++ (fs ++ bs)) p t whole
    ∙ ap (λ (k : Pen). with_pen k t) (then_more ms (fs ++ bs) p q u first (then_more fs bs q r u second third)))
with_back knows false ms fs bs p q r t whole first second u third =
    let front_set : run knows (add_all (ms ++ (fs ++ []))) (with_pen p t) ≡ with_pen r t =
    all_added knows (ms ++ (fs ++ [])) p t whole
    ∙ ap (λ (k : Pen). with_pen k t) (then_more ms (fs ++ []) p q r first (then_more fs [] q r r second refl)) in
    run_append knows (add_all (ms ++ (fs ++ []))) (add_all bs) (with_pen p t)
    ∙ (ap (run knows (add_all bs)) front_set
    ∙ (all_added knows bs r t whole ∙ ap (λ (k : Pen). with_pen k t) third))

pub pen_added : (knows : List ℕ → Bool) (f g h k : Color) (m n : ℕ) (t : Tty) → t.whole ≡ true → only_adds (pen_from f g m) (pen_from h k n) ≡ true →
    run knows (adds_of (pen_from f g m) (pen_from h k n)) (with_pen (pen_from f g m) t) ≡ with_pen (pen_from h k n) t
pen_added knows f g h k m n t whole adds =
    let dull = and_parts (not (is_bright f || is_bright g)) _ adds in
    let both = and_parts (marks_stay (marks_of m) (marks_of n)) _ dull.1 in
    with_back knows (has_name k) (marks_added 0 (marks_of m) (marks_of n)) (foreground_added f h) (background_added g k)
    (pen_from f g m) (inked f g (marks_of n)) (inked h g (marks_of n)) t whole
    (marks_set [] (marks_of m) (marks_of n) f g both.0 refl) (front_more f h g (marks_of n)) (pen_from h k n) (back_more g k h (marks_of n))

-- ---- each sequence is safe

mark_safe : (b : Bool) (k : ℕ) → k < 9 → Each IsSafeSetting (cond b (mark k ∷ []) [])
mark_safe true k lt = (lt, tt)
mark_safe false k lt = tt

marks_safe : (k : ℕ) (ms ns : List Bool) → k + length ms ≤ 9 → Each IsSafeSetting (marks_added k ms ns)
marks_safe k [] bs le = tt
marks_safe k (a ∷ ms) [] le = tt
marks_safe k (a ∷ ms) (b ∷ ns) le =
    Each-append IsSafeSetting (cond (not a && b) (mark k ∷ []) []) _ (mark_safe (not a && b) k (omega arith)) (marks_safe (k + 1) ms ns (omega arith))

marks_few : (k : ℕ) (ms ns : List Bool) → parameters (marks_added k ms ns) ≤ length ms
marks_few k [] bs = omega arith
marks_few k (a ∷ ms) [] = omega arith
marks_few k (a ∷ ms) (b ∷ ns) =
    let one = mark_few (not a && b) k in
    let more = marks_few (k + 1) ms ns in
    let sum = parameters_append (cond (not a && b) (mark k ∷ []) []) (marks_added (k + 1) ms ns) in
    omega (arith, one, more, sum)

color_few : (c : Color) → color_parameters c ≤ 5
unfolding color_parameters
color_few (Rgb r g b) = omega arith
color_few (Indexed n) = omega arith
color_few c = omega arith

name_few : (c : Color) → has_name c ≡ true → color_parameters c ≤ 1
unfolding color_parameters has_name
name_few (Rgb r g b) is = absurd (true≢false (sym is))
name_few (Indexed n) is = absurd (true≢false (sym is))
name_few c is = omega arith

-- settings in one sequence
record AreFew (most : ℕ) (ss : List Setting) : Type 0 where
  safe : Each IsSafeSetting ss
  few : parameters ss ≤ most

front_safe : (b : Bool) (c : Color) → AreFew 5 (cond b [] (front c ∷ []))
front_safe true c = record { safe = tt; few = omega arith }
front_safe false c = let few = color_few c in record { safe = (tt, tt); few = omega (arith, few) }

back_few : (b : Bool) (most : ℕ) (c : Color) → color_parameters c ≤ most → AreFew most (cond b [] (back c ∷ []))
back_few true most c few = record { safe = tt; few = omega arith }
back_few false most c few = record { safe = (tt, tt); few = omega (arith, few) }

named_safe : (b : Bool) (d : Bool) (c : Color) → has_name c ≡ d → AreFew 1 (cond d (cond b [] (back c ∷ [])) [])
named_safe b true c is = back_few b 1 c (name_few c is)
named_safe b false c is = record { safe = tt; few = omega arith }

few_append : (m n : ℕ) (ss us : List Setting) → AreFew m ss → AreFew n us → AreFew (m + n) (ss ++ us)
few_append m n ss us a b =
    let sum = parameters_append ss us in record { safe = Each-append IsSafeSetting ss us a.safe b.safe; few = omega (arith, sum, a.few, b.few) }

all_safe : (most : ℕ) (ss : List Setting) → most ≤ 16 → AreFew most ss → Each IsSafe (add_all ss)
all_safe most [] le few = tt
all_safe most (s ∷ ss) le few = ((Each-all IsSafeSetting (s ∷ ss) few.safe, omega (arith, few.few)), tt)

background_safe : (d : Bool) (a b : Color) → Each IsSafe (cond d [] (add_all (background_added a b)))
background_safe true a b = tt
background_safe false a b = all_safe 5 (background_added a b) (omega arith) (back_few (color.TheImpl.ghosts.eq a b) 5 b (color_few b))

-- the background colour of a whole pen
pub back_safe : (d : Bool) (c : Color) → Each IsSafe (cond d [] (add (back c) [] ∷ []))
back_safe true c = tt
back_safe false c = all_safe 5 (back c ∷ []) (omega arith) (back_few false 5 c (color_few c))

pub adds_safe : (f g h k : Color) (m n : ℕ) → Each IsSafe (adds_of (pen_from f g m) (pen_from h k n))
adds_safe f g h k m n =
    let marks = marks_added 0 (marks_of m) (marks_of n) in
    let marked : AreFew 9 marks = record { safe = marks_safe 0 (marks_of m) (marks_of n) (omega arith); few = marks_few 0 (marks_of m) (marks_of n) } in
    let fronted : AreFew 5 (foreground_added f h) = front_safe (color.TheImpl.ghosts.eq f h) h in
    let backed : AreFew 1 (cond (has_name k) (background_added g k) []) = named_safe (color.TheImpl.ghosts.eq g k) (has_name k) k refl in
    Each-append IsSafe (add_all (added (pen_from f g m) (pen_from h k n))) (then_background_added g k)
    (all_safe 15 (added (pen_from f g m) (pen_from h k n)) (omega arith) (few_append 9 6 marks _ marked (few_append 5 1 (foreground_added f h) _ fronted backed)))
    (background_safe (has_name k) g k)
