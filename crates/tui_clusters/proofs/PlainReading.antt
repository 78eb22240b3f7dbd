-- Reading a text up to an index between two plain characters.
use Rattle.std.proofs.Common.{◌≡◌, ℕ, ◌+◌, ◌-◌, ◌<◌, Bool, true, List, [], ◌∷◌, ◌++◌, length, length-append, take, drop, take_at, drop_at, append-nil, append_assoc, refl, sym, ap, subst, ◌∙◌, arith}
use Rattle.std.specs.Prelude.{encode_utf8, encode_utf8_all}
use Rattle.std.specs.Str.{IsUtf8, IsCharBoundary}
use Rattle.std.proofs.lemmas.Str.{encodes-append, length-le-encodes, IsCharBoundary-at_seam}
use Rattle.tui_clusters.specs.Plain.{is_plain, IsSeam}

-- what was read of a text, and whether its last character is known to be plain
pub record IsRead (text rest : List ℕ) (plain : Bool) : Type 0 where
  pub front : List ℕ
  pub split : text ≡ encode_utf8_all front ++ rest
  pub ended : plain ≡ true → (init : List ℕ) × (last : ℕ) × (front ≡ init ++ last ∷ []) × (is_plain last ≡ true)

pub IsRead-more : (text rest following : List ℕ) (was plain : Bool) (c : ℕ) → IsRead text rest was → rest ≡ encode_utf8 c ++ following → plain ≡ is_plain c → IsRead text following plain
IsRead-more text rest following was plain c r e p =
    let front = encode_utf8_all r.front in
    let more : encode_utf8_all (r.front ++ c ∷ []) ≡ front ++ encode_utf8 c = encodes-append r.front (c ∷ []) ∙ ap (λ t. front ++ t) (append-nil (encode_utf8 c)) in record {
      front = r.front ++ c ∷ [];
      split = r.split ∙ (ap (λ t. front ++ t) e ∙ (sym (append_assoc front (encode_utf8 c) following) ∙ ap (λ t. t ++ following) (sym more)));
      ended = λ h. (r.front, c, refl, sym p ∙ h);
    }

-- if the last character that was read is plain, some bytes were read
pub IsRead-some : (text rest : List ℕ) (was : Bool) → IsRead text rest was → was ≡ true → 0 < length text - length rest
IsRead-some text rest was r h =
    let l = r.ended h in
    let size = ap length r.split ∙ length-append (encode_utf8_all r.front) rest in
    let chars = length-le-encodes r.front in
    let some : length r.front ≡ length l.0 + 1 = ap length l.2 ∙ length-append l.0 (l.1 ∷ []) in
    omega arith

pub IsRead-seam : (text rest following : List ℕ) (was : Bool) (c at : ℕ) → IsUtf8 rest → IsRead text rest was → was ≡ true → rest ≡ encode_utf8 c ++ following → is_plain c ≡ true
    → at ≡ length text - length rest → IsSeam text at
IsRead-seam text rest following was c at u r h e p is =
    let l = r.ended h in
    let front = encode_utf8_all r.front in
    let size : length text ≡ length front + length rest = ap length r.split ∙ length-append front rest in
    let place : at ≡ length front = omega arith in record {
      boundary = subst (λ n. IsCharBoundary text n) (sym place) (IsCharBoundary-at_seam text front rest r.split u);
      front = l.0;
      last = l.1;
      next = c;
      back = following;
      before = ap (λ n. take n text) place ∙ (ap (take (length front)) r.split ∙ (take_at front rest (length front) refl ∙ ap encode_utf8_all l.2));
      after = ap (λ n. drop n text) place ∙ (ap (drop (length front)) r.split ∙ (drop_at front rest (length front) refl ∙ e));
      last_plain = l.3;
      next_plain = p;
    }
