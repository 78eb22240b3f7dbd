-- The commands of a pen set it, whatever the pen was before.
use Rattle.std.proofs.Common.{◌≡◌, ℕ, Bool, true, false, List, [], ◌∷◌, ◌++◌, refl, ap, ◌∙◌, inl, inr}
use Rattle.std.specs.Prelude.{if◌then◌else◌, Some}
use Rattle.std.proofs.lemmas.Bool.{cases_Bool, cond-true, cond-false}
use Rattle.tui_cells.specs.declared.color.Color.{Color}
use Rattle.tui_cells.specs.declared.color.Color.TheVariants.{Reset}
use Rattle.tui_terminal_model.specs.Pens.{IsPen, background_of, first_pen, foreground_of, has, has_name, marks_from, marks_of, paints_of, settings_of, then_background}
use Rattle.tui_terminal_model.specs.Terminal.{Command, Pen, Setting, Tty, add, after, back, mark, mended, paint, pen_after, rest, run, step}

after_append : (xs ys : List Setting) (p : Pen) → pen_after (xs ++ ys) p ≡ pen_after ys (pen_after xs p)
after_append [] ys p = refl
after_append (x ∷ xs) ys p = after_append xs ys _

front_set : (c : Color) (ms : List Bool) (b : Color) → pen_after (foreground_of c) (record { fg = Reset; bg = b; marks = ms }) ≡ record { fg = c; bg = b; marks = ms }
unfolding foreground_of
front_set Reset ms b = refl
front_set c ms b = refl

back_set : (c : Color) (ms : List Bool) (f : Color) → pen_after (background_of c) (record { fg = f; bg = Reset; marks = ms }) ≡ record { fg = f; bg = c; marks = ms }
unfolding background_of
back_set Reset ms f = refl
back_set c ms f = refl

abbrev plain : List Bool → Pen
plain ms = record { fg = Reset; bg = Reset; marks = ms }

abbrev if_mark : ℕ → Bool → List Setting
if_mark k b = if b then mark k ∷ [] else []

one0 : (a : Bool) → pen_after (if_mark 0 a) rest ≡ plain (a ∷ false ∷ false ∷ false ∷ false ∷ false ∷ false ∷ false ∷ false ∷ [])
one0 true = refl
one0 false = refl

one1 : (a b : Bool) → pen_after (if_mark 1 b) (plain (a ∷ false ∷ false ∷ false ∷ false ∷ false ∷ false ∷ false ∷ false ∷ [])) ≡ plain (a ∷ b ∷ false ∷ false ∷ false ∷ false ∷ false ∷ false ∷ false ∷ [])
one1 a true = refl
one1 a false = refl

one2 : (a b c : Bool) → pen_after (if_mark 2 c) (plain (a ∷ b ∷ false ∷ false ∷ false ∷ false ∷ false ∷ false ∷ false ∷ [])) ≡ plain (a ∷ b ∷ c ∷ false ∷ false ∷ false ∷ false ∷ false ∷ false ∷ [])
one2 a b true = refl
one2 a b false = refl

one3 : (a b c d : Bool) → pen_after (if_mark 3 d) (plain (a ∷ b ∷ c ∷ false ∷ false ∷ false ∷ false ∷ false ∷ false ∷ [])) ≡ plain (a ∷ b ∷ c ∷ d ∷ false ∷ false ∷ false ∷ false ∷ false ∷ [])
one3 a b c true = refl
one3 a b c false = refl

one4 : (a b c d e : Bool) → pen_after (if_mark 4 e) (plain (a ∷ b ∷ c ∷ d ∷ false ∷ false ∷ false ∷ false ∷ false ∷ [])) ≡ plain (a ∷ b ∷ c ∷ d ∷ e ∷ false ∷ false ∷ false ∷ false ∷ [])
one4 a b c d true = refl
one4 a b c d false = refl

one5 : (a b c d e f : Bool) → pen_after (if_mark 5 f) (plain (a ∷ b ∷ c ∷ d ∷ e ∷ false ∷ false ∷ false ∷ false ∷ [])) ≡ plain (a ∷ b ∷ c ∷ d ∷ e ∷ f ∷ false ∷ false ∷ false ∷ [])
one5 a b c d e true = refl
one5 a b c d e false = refl

one6 : (a b c d e f g : Bool) → pen_after (if_mark 6 g) (plain (a ∷ b ∷ c ∷ d ∷ e ∷ f ∷ false ∷ false ∷ false ∷ [])) ≡ plain (a ∷ b ∷ c ∷ d ∷ e ∷ f ∷ g ∷ false ∷ false ∷ [])
one6 a b c d e f true = refl
one6 a b c d e f false = refl

one7 : (a b c d e f g h : Bool) → pen_after (if_mark 7 h) (plain (a ∷ b ∷ c ∷ d ∷ e ∷ f ∷ g ∷ false ∷ false ∷ [])) ≡ plain (a ∷ b ∷ c ∷ d ∷ e ∷ f ∷ g ∷ h ∷ false ∷ [])
one7 a b c d e f g true = refl
one7 a b c d e f g false = refl

one8 : (a b c d e f g h k : Bool) → pen_after (if_mark 8 k) (plain (a ∷ b ∷ c ∷ d ∷ e ∷ f ∷ g ∷ h ∷ false ∷ [])) ≡ plain (a ∷ b ∷ c ∷ d ∷ e ∷ f ∷ g ∷ h ∷ k ∷ [])
one8 a b c d e f g h true = refl
one8 a b c d e f g h false = refl

-- some settings, and then others
pub then_more : (xs ys : List Setting) (p q r : Pen) → pen_after xs p ≡ q → pen_after ys q ≡ r → pen_after (xs ++ ys) p ≡ r
then_more xs ys p q r e f = after_append xs ys p ∙ (ap (pen_after ys) e ∙ f)

all_marks : (a b c d e f g h k : Bool) → pen_after (marks_from 0 (a ∷ b ∷ c ∷ d ∷ e ∷ f ∷ g ∷ h ∷ k ∷ [])) rest ≡ plain (a ∷ b ∷ c ∷ d ∷ e ∷ f ∷ g ∷ h ∷ k ∷ [])
all_marks a b c d e f g h k =
    then_more (if_mark 0 a) _ rest _ _ (one0 a)
    (then_more (if_mark 1 b) _ _ _ _ (one1 a b)
    (then_more (if_mark 2 c) _ _ _ _ (one2 a b c)
    (then_more (if_mark 3 d) _ _ _ _ (one3 a b c d)
    (then_more (if_mark 4 e) _ _ _ _ (one4 a b c d e)
    (then_more (if_mark 5 f) _ _ _ _ (one5 a b c d e f)
    (then_more (if_mark 6 g) _ _ _ _ (one6 a b c d e f g)
    (then_more (if_mark 7 h) _ _ _ _ (one7 a b c d e f g h)
    (then_more (if_mark 8 k) [] _ _ _ (one8 a b c d e f g h k) refl))))))))

abbrev pub pen_from : Color → Color → ℕ → Pen
pen_from f b m = record { fg = f; bg = b; marks = marks_of m }

pub settings_give : (f b : Color) (m : ℕ) → pen_after (settings_of (pen_from f b m)) rest ≡ pen_from f b m
settings_give f b m =
    then_more (marks_from 0 (marks_of m)) (foreground_of f ++ background_of b) rest (plain (marks_of m)) (pen_from f b m)
    (all_marks (has m 1) (has m 2) (has m 4) (has m 8) (has m 16) (has m 32) (has m 64) (has m 128) (has m 256))
    (then_more (foreground_of f) (background_of b) (plain (marks_of m)) (pen_from f Reset m) (pen_from f b m)
    (front_set f (marks_of m) Reset)
    (back_set b (marks_of m) f))

-- ---- the commands

abbrev pub with_pen : Pen → Tty → Tty
with_pen pen t = record t { pen = Some pen }

-- commands, and then others
pub run_append : (knows : List ℕ → Bool) (xs ys : List Command) (t : Tty) → run knows (xs ++ ys) t ≡ run knows ys (run knows xs t)
run_append knows [] ys t = refl
run_append knows (x ∷ xs) ys t = run_append knows xs ys _

-- a command if nothing was cut short
pub steps : (knows : List ℕ → Bool) (c : Command) (t : Tty) → t.whole ≡ true → after knows c t ≡ step knows c t
steps knows c t whole = cond-true t.whole (step knows c t) (mended knows c t) whole

back_sets : (knows : List ℕ → Bool) (f b : Color) (m : ℕ) (t : Tty) → t.whole ≡ true →
    run knows (then_background b) (with_pen (first_pen (pen_from f b m)) t) ≡ with_pen (pen_from f b m) t
back_sets knows f b m t whole =
    let start : Tty = with_pen (first_pen (pen_from f b m)) t in
    elim (cases_Bool (has_name b)) [
      | inl named ↦
          ap (λ (cs : List Command). run knows cs start) (cond-true (has_name b) [] (add (back b) [] ∷ []) named)
          ∙ (λ i. with_pen (pen_from f (cond-true (has_name b) b Reset named i) m) t)
      | inr other ↦
          ap (λ (cs : List Command). run knows cs start) (cond-false (has_name b) [] (add (back b) [] ∷ []) other)
          ∙ steps knows (add (back b) []) start whole
    ]

pub pen_set : (knows : List ℕ → Bool) (f b : Color) (m : ℕ) (t : Tty) → t.whole ≡ true → run knows (paints_of (pen_from f b m)) t ≡ with_pen (pen_from f b m) t
pen_set knows f b m t whole =
    let first = settings_of (first_pen (pen_from f b m)) in
    ap (run knows (then_background b)) (steps knows (paint first) t whole ∙ ap (λ (q : Pen). with_pen q t) (settings_give f (if has_name b then b else Reset) m))
    ∙ back_sets knows f b m t whole

named_or_rest : (b : Color) → has_name (if has_name b then b else Reset) ≡ true
unfolding has_name
named_or_rest b = elim (cases_Bool (has_name b)) [
  | inl named ↦ ap has_name (cond-true (has_name b) b Reset named) ∙ named
  | inr other ↦ ap has_name (cond-false (has_name b) b Reset other)
]

-- the pen after the first sequence is one that a paint can set
pub first_is : (f b : Color) (m : ℕ) → IsPen (first_pen (pen_from f b m))
first_is f b m = record { nine = refl; name = named_or_rest b }
