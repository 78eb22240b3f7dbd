-- Typed characters, one more at a time.
use Rattle.std.proofs.Common.{◌≡◌, ℕ, Bool, true, false, ◌&&◌, List, [], ◌∷◌, ◌++◌, if◌then◌else◌, refl}
use Rattle.tui_input.specs.State.{TypedText, typed, typed_all}

pub typed_more : (s : TypedText) (cs : List ℕ) (c : ℕ) → typed_all s (cs ++ c ∷ []) ≡ typed (typed_all s cs) c
unfolding typed_all
typed_more s [] c = refl
typed_more s (d ∷ cs) c = typed_more (typed s d) cs c

-- a character for which there is no room; one that is accepted; one that is not
pub is_full : (room wanted : Bool) (t s : TypedText) → room ≡ false → (if room && wanted then t else s) ≡ s
is_full true wanted t s e = cc
is_full false wanted t s e = refl

pub is_taken : (room wanted : Bool) (t s : TypedText) → room ≡ true → wanted ≡ true → (if room && wanted then t else s) ≡ t
is_taken true true t s e f = refl
is_taken true false t s e f = cc
is_taken false wanted t s e f = cc

pub is_left : (room wanted : Bool) (t s : TypedText) → room ≡ true → wanted ≡ false → (if room && wanted then t else s) ≡ s
is_left true true t s e f = cc
is_left true false t s e f = refl
is_left false wanted t s e f = cc
