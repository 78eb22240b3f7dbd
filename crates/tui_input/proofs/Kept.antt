-- Every edit keeps the invariant of inputs.
use Rattle.std.proofs.Common.{◌≡◌, ℕ, ◌+◌, ◌<◌, ◌≤◌, Bool, true, false, not, ◌&&◌, ◌||◌, nat_lt, List, [], ◌++◌, length, take, drop, slice_range, refl, sym, ap, ap₂, subst, ◌∙◌, arith, append-nil, length-append, length-take-le}
use Rattle.std.specs.Prelude.{encode_utf8}
use Rattle.std.specs.Char.{is_control}
use Rattle.std.specs.List.{list_any}
use Rattle.std.specs.Str.{IsUtf8, IsCharBoundary, chars}
use Rattle.std.proofs.lemmas.Bool.Decides.{nat_tests}
use Rattle.std.proofs.lemmas.List.{take-append-drop}
use Rattle.std.proofs.lemmas.List.Folds.{drop_split, list_any-append}
use Rattle.std.proofs.lemmas.Str.{chars-nil, chars-append, IsUtf8-append, IsUtf8-drop, IsUtf8-take, IsUtf8-between, IsUtf8-nil, IsCharBoundary-at_seam, IsCharBoundary-start, IsCharBoundary-end}
use Rattle.unicode_segmentation.proofs.TextLemmas.{chars-encode_utf8}
use Rattle.tui_clusters.specs.Shown.{has_control}
use Rattle.tui_input.specs.State.{TypedText, IsInput, input_at, has_room, text_of}

-- a text of at most `most` characters, none of them a control character
record IsPlain (text : List ℕ) (most : ℕ) : Type 0 where
  plain : has_control text ≡ false
  few : length (chars text) ≤ most

either : (a b : Bool) → a ≡ false → b ≡ false → (a || b) ≡ false
either a b e f = grind arith

pub left_of : (a b : Bool) → (a || b) ≡ false → a ≡ false
left_of a b e = grind arith

pub right_of : (a b : Bool) → (a || b) ≡ false → b ≡ false
right_of a b e = grind arith

pub plain-append : (x y : List ℕ) → IsUtf8 x → has_control (x ++ y) ≡ (has_control x || has_control y)
unfolding has_control
plain-append x y u = ap (list_any is_control) (chars-append x y u) ∙ list_any-append is_control (chars x) (chars y)

few-append : (x y : List ℕ) → IsUtf8 x → length (chars (x ++ y)) ≡ length (chars x) + length (chars y)
few-append x y u = ap length (chars-append x y u) ∙ length-append (chars x) (chars y)

no_control : has_control [] ≡ false
unfolding has_control
no_control = ap (list_any is_control) chars-nil

pub kept_empty : (text : List ℕ) (most : ℕ) → text ≡ [] → IsInput text 0 most
kept_empty text most e =
    let none = ap length (ap chars e ∙ chars-nil) in
    record { place = subst (λ t. IsCharBoundary t 0) (sym e) (IsCharBoundary-start [] IsUtf8-nil); plain = ap has_control e ∙ no_control; few = omega arith }

-- a part of such a text; and what remains of it without a part in the middle
without_middle : (x y z text : List ℕ) (most : ℕ) → IsUtf8 x → IsUtf8 y → text ≡ x ++ (y ++ z) → IsPlain text most → IsPlain (x ++ z) most
without_middle x y z text most ux uy e h =
    let one = sym (ap has_control e ∙ plain-append x (y ++ z) ux) ∙ h.plain in
    let two = sym (plain-append y z uy) ∙ right_of (has_control x) (has_control (y ++ z)) one in
    let count = ap (λ t. length (chars t)) e ∙ few-append x (y ++ z) ux in
    let rest = few-append y z uy in
    let left = few-append x z ux in
    let few = h.few in
    record { plain = plain-append x z ux ∙ either (has_control x) (has_control z) (left_of (has_control x) (has_control (y ++ z)) one) (right_of (has_control y) (has_control z) two); few = omega arith }

pub kept_cut : (text new : List ℕ) (at most from to : ℕ) → IsUtf8 text → IsInput text at most → from ≤ to → IsCharBoundary text from → IsCharBoundary text to
    → new ≡ (take from text ++ []) ++ drop to text → IsInput new from most
kept_cut text new at most from to u h le start end e =
    let x = take from text in
    let y = slice_range text from to in
    let z = drop to text in
    let parts : text ≡ x ++ (y ++ z) = sym (take-append-drop from text) ∙ ap (λ t. x ++ t) (drop_split text from to le) in
    let is : new ≡ x ++ z = e ∙ ap (λ t. t ++ z) (append-nil x) in
    let p = without_middle x y z text most (IsUtf8-take text from u start) (IsUtf8-between text from to u le start end) parts
    (record { plain = h.plain; few = h.few }) in
    let long : length x ≡ from = length-take-le from text start.0 in
    let few = p.few in
    let same = ap (λ t. length (chars t)) is in
    record {
      place = subst (IsCharBoundary new) long (IsCharBoundary-at_seam new x z is (IsUtf8-drop text to u end));
      plain = ap has_control is ∙ p.plain;
      few = omega arith;
    }

pub same_text : (s : TypedText) (b : List ℕ) (at most first : ℕ) (pasting : Bool) → input_at b at most first pasting ≡ s → text_of s ≡ b
same_text s b at most first pasting e = sym (ap text_of e) ∙ take-append-drop at b

pub kept_front : (text new : List ℕ) (at most : ℕ) → IsUtf8 text → IsInput text at most → new ≡ take at text → IsInput new at most
kept_front text new at most u h e =
    let long : length new ≡ at = ap length e ∙ length-take-le at text h.place.0 in
    let ux = IsUtf8-take text at u h.place in
    let parts = sym (take-append-drop at text) in
    let plain = sym (ap has_control parts ∙ plain-append (take at text) (drop at text) ux) ∙ h.plain in
    let count = ap (λ t. length (chars t)) parts ∙ few-append (take at text) (drop at text) ux in
    let same = ap (λ t. length (chars t)) e in
    let few = h.few in
    record {
      place = subst (IsCharBoundary new) long (IsCharBoundary-end new);
      plain = ap has_control e ∙ left_of _ _ plain;
      few = omega arith;
    }

is_taken : (control room : Bool) → (not control && room) ≡ true → (control ≡ false) × (room ≡ true)
is_taken true room e = grind arith
is_taken false room e = (refl, e)

room_is : (n most : ℕ) → nat_lt n most ≡ true → n < most
room_is n most e = grind (arith, nat_tests)

one_plain : (c : ℕ) → IsUtf8 (encode_utf8 c) → is_control c ≡ false → has_control (encode_utf8 c) ≡ false
unfolding has_control
one_plain c uc f = ap (list_any is_control) (chars-encode_utf8 c uc) ∙ either (is_control c) false f refl

pub kept_inserted : (s : TypedText) (b new : List ℕ) (at most first c n : ℕ) (pasting : Bool) → IsUtf8 b → IsUtf8 (encode_utf8 c) → IsInput b at most
    → input_at b at most first pasting ≡ s → has_room s c ≡ true → new ≡ (take at b ++ encode_utf8 c) ++ drop at b → n ≡ length (encode_utf8 c) → IsInput new (at + n) most
kept_inserted s b new at most first c n pasting u uc h v t e w =
    let taken_and_plain = is_taken (is_control c) _ (ap (λ s. has_room s c) v ∙ t) in
    let whole = take-append-drop at b in
    let room = room_is _ _ taken_and_plain.1 in
    let size = ap (λ t. length (chars t)) whole in
    let x = take at b in
    let y = encode_utf8 c in
    let z = drop at b in
    let ux = IsUtf8-take b at u h.place in
    let uxy = IsUtf8-append x y ux uc in
    let plain = sym (ap has_control (sym whole) ∙ plain-append x z ux) ∙ h.plain in
    let count = ap (λ t. length (chars t)) (sym whole) ∙ few-append x z ux in
    let one = ap length (chars-encode_utf8 c uc) in
    let more = few-append x y ux in
    let all = few-append (x ++ y) z uxy in
    let same = ap (λ t. length (chars t)) e in
    let long : length (x ++ y) ≡ at + n = length-append x y ∙ ap₂ ◌+◌ (length-take-le at b h.place.0) (sym w) in
    record {
      place = subst (IsCharBoundary new) long (IsCharBoundary-at_seam new (x ++ y) z e (IsUtf8-drop b at u h.place));
      plain = ap has_control e ∙ plain-append (x ++ y) z uxy
          ∙ either _ _ (plain-append x y ux ∙ either _ _ (left_of _ _ plain) (one_plain c uc taken_and_plain.0)) (right_of _ _ plain);
      few = omega arith;
    }
