-- The bytes of commands, part by part.
use Rattle.std.proofs.Common.{◌≡◌, ℕ, ◌+◌, Bool, true, false, List, [], ◌∷◌, ◌++◌, flat_map, refl, sym, ap, subst, ◌∙◌, append_assoc}
use Rattle.std.proofs.lemmas.List.{append-nil}
use Rattle.std.proofs.lemmas.Grind.{flat_map-append}
use Rattle.std.proofs.lemmas.List.Concat.{flat_map-cons}
use Rattle.std.specs.Prelude.{codes, decimal, if◌then◌else◌}
use Rattle.std.proofs.lemmas.Bool.{cond-true, cond-false}
use Rattle.tui_io.specs.Causes.{Observed}
use Rattle.tui_io.specs.Prints.{PrintState, Prints}
use Rattle.tui_cells.specs.declared.color.Color.{Color}
use Rattle.tui_cells.specs.declared.color.Color.TheVariants.{Reset}
use Rattle.tui_terminal_model.specs.Pens.{background_of, foreground_of, has_name, marks_from, then_background}
use Rattle.tui_terminal_model.specs.Encoding.{background_text, csi, foreground_text, next_setting_text, encoding}
use Rattle.tui_terminal_model.specs.Terminal.{Command, Setting, add, back, front, mark, paint, print}
use Rattle.tui_terminal.specs.Marks.{mark_if}

-- the same bytes, written differently
pub Prints-text : {a b : Observed} {x y : PrintState} {s t : List ℕ} → s ≡ t → Prints a b x y s → Prints a b x y t
Prints-text {a} {b} {x} {y} e g = subst (Prints a b x y) e g

-- one element
pub one_text : {X : Type 0} (f : X → List ℕ) (x : X) → flat_map f (x ∷ []) ≡ f x
one_text f x = flat_map-cons f x [] ∙ append-nil (f x)

-- a part, and the parts after it
pub more_text : {X : Type 0} (f : X → List ℕ) (xs ys : List X) (text : List ℕ) → text ≡ flat_map f ys → flat_map f xs ++ text ≡ flat_map f (xs ++ ys)
more_text f xs ys text e = ap (λ (l : List ℕ). flat_map f xs ++ l) e ∙ sym (flat_map-append f xs ys)

-- ---- colours

pub front_other : (c : Color) → (c ≡ Reset → ⊥) → codes ";" ++ foreground_text c ≡ flat_map next_setting_text (foreground_of c)
unfolding foreground_of
front_other Reset other = absurd (other refl)
front_other c other = sym (one_text next_setting_text (front c))

pub back_other : (c : Color) → (c ≡ Reset → ⊥) → codes ";" ++ background_text c ≡ flat_map next_setting_text (background_of c)
unfolding background_of
back_other Reset other = absurd (other refl)
back_other c other = sym (one_text next_setting_text (back c))

pub front_rest : (c : Color) → c ≡ Reset → [] ≡ flat_map next_setting_text (foreground_of c)
unfolding foreground_of
front_rest c e = sym (ap (λ (k : Color). flat_map next_setting_text (foreground_of k)) e)

pub back_rest : (c : Color) → c ≡ Reset → [] ≡ flat_map next_setting_text (background_of c)
unfolding background_of
back_rest c e = sym (ap (λ (k : Color). flat_map next_setting_text (background_of k)) e)

-- a background colour by itself, or none
pub reached_off : (c : Color) (b : Bool) → b ≡ has_name c → b ≡ true → [] ≡ flat_map encoding (then_background c)
reached_off c b is on = sym (ap (flat_map encoding) (cond-true (has_name c) [] (add (back c) [] ∷ []) (sym is ∙ on)))

pub reached_on : (c : Color) (b : Bool) → b ≡ has_name c → b ≡ false → csi ++ (background_text c ++ codes "m") ≡ flat_map encoding (then_background c)
unfolding encoding
reached_on c b is off = sym (ap (flat_map encoding) (cond-false (has_name c) [] (add (back c) [] ∷ []) (sym is ∙ off)) ∙ one_text encoding (add (back c) []))

-- a whole paint, and what comes after it
pub paint_text : (ms fs bs : List Setting) (more : List Command) →
    csi ++ (codes "0" ++ (flat_map next_setting_text ms ++ (flat_map next_setting_text fs ++ (flat_map next_setting_text bs ++ (codes "m" ++ flat_map encoding more)))))
    ≡ flat_map encoding (paint (ms ++ (fs ++ bs)) ∷ more)
unfolding encoding
paint_text ms fs bs more =
    let f = flat_map next_setting_text in
    let m = codes "m" in
    let rest = flat_map encoding more in
    let inner : f ms ++ (f fs ++ f bs) ≡ f (ms ++ (fs ++ bs)) = more_text next_setting_text ms (fs ++ bs) _ (more_text next_setting_text fs bs _ refl) in
    let all : f ms ++ (f fs ++ (f bs ++ (m ++ rest))) ≡ (f (ms ++ (fs ++ bs)) ++ m) ++ rest =
    ap (λ (l : List ℕ). f ms ++ l) (sym (append_assoc (f fs) (f bs) (m ++ rest)))
    ∙ (sym (append_assoc (f ms) (f fs ++ f bs) (m ++ rest))
    ∙ (ap (λ (l : List ℕ). l ++ (m ++ rest)) inner ∙ sym (append_assoc (f (ms ++ (fs ++ bs))) m rest))) in
    ap (λ (l : List ℕ). 27 ∷ 91 ∷ 48 ∷ l) all ∙ sym (flat_map-cons encoding (paint (ms ++ (fs ++ bs))) more)

-- ---- marks

pub mark_on : (k : ℕ) (b : Bool) → b ≡ true → codes ";" ++ decimal (k + 1) ≡ flat_map next_setting_text (mark_if k b)
mark_on k b e = sym (ap (flat_map next_setting_text) (cond-true b (mark k ∷ []) [] e) ∙ one_text next_setting_text (mark k))

pub mark_off : (k : ℕ) (b : Bool) → b ≡ false → [] ≡ flat_map next_setting_text (mark_if k b)
mark_off k b e = sym (ap (flat_map next_setting_text) (cond-false b (mark k ∷ []) [] e))

pub marks_text : (a b c d e f g h k : Bool) →
    flat_map next_setting_text (mark_if 0 a) ++ (flat_map next_setting_text (mark_if 1 b) ++ (flat_map next_setting_text (mark_if 2 c)
    ++ (flat_map next_setting_text (mark_if 3 d) ++ (flat_map next_setting_text (mark_if 4 e) ++ (flat_map next_setting_text (mark_if 5 f)
    ++ (flat_map next_setting_text (mark_if 6 g) ++ (flat_map next_setting_text (mark_if 7 h) ++ flat_map next_setting_text (mark_if 8 k))))))))
    ≡ flat_map next_setting_text (marks_from 0 (a ∷ b ∷ c ∷ d ∷ e ∷ f ∷ g ∷ h ∷ k ∷ []))
marks_text a b c d e f g h k =
    let t = next_setting_text in
    more_text t (mark_if 0 a) _ _ (more_text t (mark_if 1 b) _ _ (more_text t (mark_if 2 c) _ _ (more_text t (mark_if 3 d) _ _
    (more_text t (mark_if 4 e) _ _ (more_text t (mark_if 5 f) _ _ (more_text t (mark_if 6 g) _ _ (more_text t (mark_if 7 h) (mark_if 8 k ++ []) _
    (ap (flat_map t) (sym (append-nil (mark_if 8 k)))))))))))

-- ---- commands that may be left out

pub left_out : (b : Bool) (cs : List Command) → b ≡ true → [] ≡ flat_map encoding (if b then [] else cs)
left_out b cs e = sym (ap (flat_map encoding) (cond-true b [] cs e))

pub not_left_out : (b : Bool) (cs : List Command) → b ≡ false → flat_map encoding cs ≡ flat_map encoding (if b then [] else cs)
not_left_out b cs e = sym (ap (flat_map encoding) (cond-false b [] cs e))

-- one of two lists of commands
pub first_of : (b : Bool) (xs ys : List Command) → b ≡ true → flat_map encoding xs ≡ flat_map encoding (if b then xs else ys)
first_of b xs ys e = sym (ap (flat_map encoding) (cond-true b xs ys e))

pub second_of : (b : Bool) (xs ys : List Command) → b ≡ false → flat_map encoding ys ≡ flat_map encoding (if b then xs else ys)
second_of b xs ys e = sym (ap (flat_map encoding) (cond-false b xs ys e))

-- the commands of a cell
pub piece_text : (ms ps : List Command) (symbol : List ℕ) → flat_map encoding ms ++ (flat_map encoding ps ++ symbol) ≡ flat_map encoding (ms ++ (ps ++ print symbol ∷ []))
unfolding encoding
piece_text ms ps symbol = more_text encoding ms (ps ++ print symbol ∷ []) _ (more_text encoding ps (print symbol ∷ []) symbol (sym (one_text encoding (print symbol))))
