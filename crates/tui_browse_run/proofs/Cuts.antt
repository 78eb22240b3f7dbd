-- Pieces, one after another.
use Rattle.std.proofs.Common.{◌≡◌, ◌≢◌, ◌==◌, ℕ, ◌+◌, ◌*◌, ◌≤◌, Bool, true, false, List, [], ◌∷◌, ◌++◌, length, take, drop, map, Bor, refl, sym, ap, subst, ◌∙◌, arith, inl, inr}
use Rattle.std.proofs.lemmas.Bool.Decides.{nat_tests}
use Rattle.std.proofs.lemmas.List.{append-nil, append_assoc, length-append, length-take-le, map-append, take-append-drop}
use Rattle.std.specs.List.{flat_map}
use Rattle.std.proofs.lemmas.Grind.{flat_map-append}
use Rattle.std.proofs.lemmas.List.Sums.{count_by-le-length}
use Rattle.tui_browse_run.specs.Pieces.{AreAllPieces, HasMorePieces, ArePieces, IsPieceEnd, PieceData, line_feeds, is_line_feed, no_pieces, one_more, piece_data}
use Rattle.tui_browse_run.specs.declared.piece.TextPiece.{TextPiece}

-- the first `count` pieces of a text
pub record HasCut (text : List ℕ) (count : ℕ) (pieces : List PieceData) (line : ℕ) (rest : List ℕ) : Type 0 where
  pub are : ArePieces text pieces line rest
  pub counted : length pieces ≡ count
  pub low : line ≤ 1 + count * 65536

pub first_cut : (text : List ℕ) → HasCut text 0 [] 1 text
first_cut text = record { are = no_pieces; counted = refl; low = omega arith }

-- a piece is no longer than allowed
piece_short : (text : List ℕ) (n : ℕ) → IsPieceEnd text n → n ≤ 65536
piece_short text n ends = elim ends [ inl lines ↦ lines.holds.fits.short | inr chars ↦ chars.1.holds.fits.short ]

piece_within : (text : List ℕ) (n : ℕ) → IsPieceEnd text n → n ≤ length text
piece_within text n ends = elim ends [ inl lines ↦ lines.holds.fits.within | inr chars ↦ chars.1.holds.fits.within ]

-- and has no more line feeds than bytes
pub few_feeds : (text : List ℕ) (n : ℕ) → IsPieceEnd text n → line_feeds (take n text) ≤ 65536
few_feeds text n ends =
    let short = piece_short text n ends in
    let within = piece_within text n ends in
    omega (arith, count_by-le-length is_line_feed (take n text), length-take-le n text within)

pub next_cut : (text : List ℕ) (count : ℕ) (pieces : List PieceData) (line : ℕ) (rest : List ℕ) (n : ℕ) → HasCut text count pieces line rest → IsPieceEnd rest n →
    HasCut text (count + 1) (pieces ++ record { line = line; body = take n rest } ∷ []) (line + line_feeds (take n rest)) (drop n rest)
next_cut text count pieces line rest n h ends =
    let within = piece_within rest n ends in
    let whole : rest ≡ take n rest ++ drop n rest = sym (take-append-drop n rest) in
    let len : n ≡ length (take n rest) = sym (length-take-le n rest within) in
    let few = few_feeds rest n ends in
    let low = h.low in
    record {
      are = one_more pieces line (take n rest) (drop n rest) (subst (ArePieces text pieces line) whole h.are)
          (subst (λ (xs : List ℕ). IsPieceEnd xs (length (take n rest))) whole (subst (IsPieceEnd rest) len ends));
      counted = length-append pieces (record { line = line; body = take n rest } ∷ []) ∙ ap (λ (k : ℕ). k + 1) h.counted;
      low = omega arith;
    }

-- ---- as the code computes them

pub next_is : (text : List ℕ) (count : ℕ) (items new : List TextPiece) (line : ℕ) (rest after : List ℕ) (n more : ℕ) (body : Bor (List ℕ)) →
    HasCut text count (map piece_data items) line rest → IsPieceEnd rest n → more ≡ line_feeds (take n rest) → body.now ≡ take n rest → after ≡ drop n rest →
    new ≡ items ++ record { line = line; body = body } ∷ [] → HasCut text (count + 1) (map piece_data new) (line + more) after
next_is text count items new line rest after n more body h ends more_is body_is after_is new_is =
    let datas : map piece_data new ≡ map piece_data items ++ record { line = line; body = take n rest } ∷ [] =
    ap (map piece_data) new_is ∙ (map-append piece_data items (record { line = line; body = body } ∷ [])
    ∙ ap (λ (b : List ℕ). map piece_data items ++ record { line = line; body = b } ∷ []) body_is) in
    rw (datas, more_is, after_is) (next_cut text count (map piece_data items) line rest n h ends)

is_nothing : (rest : List ℕ) → (length rest == 0) ≡ true → rest ≡ []
is_nothing [] e = refl
is_nothing (x ∷ xs) e = absurd (grind (arith, nat_tests))

is_something : (rest : List ℕ) → (length rest == 0) ≡ false → rest ≢ []
is_something [] e is = absurd (grind (arith, nat_tests))
is_something (x ∷ xs) e is = absurd (let none = ap length is in omega arith)

-- the pieces joined are the text
joins : (text : List ℕ) (pieces : List PieceData) (line : ℕ) (rest : List ℕ) → ArePieces text pieces line rest →
    flat_map (λ (p : PieceData). p.body) pieces ++ rest ≡ text
joins text _ _ _ no_pieces = refl
joins text _ _ _ (one_more pieces line body rest before ends) =
    let all : flat_map (λ (p : PieceData). p.body) (pieces ++ record { line = line; body = body } ∷ []) ≡ flat_map (λ (p : PieceData). p.body) pieces ++ body =
    flat_map-append (λ (p : PieceData). p.body) pieces (record { line = line; body = body } ∷ [])
    ∙ ap (λ (b : List ℕ). flat_map (λ (p : PieceData). p.body) pieces ++ b) (append-nil body) in
    ap (λ (b : List ℕ). b ++ rest) all ∙ (append_assoc (flat_map (λ (p : PieceData). p.body) pieces) body rest ∙ joins text pieces line (body ++ rest) before)

pub all_cut : (text : List ℕ) (count : ℕ) (items : List TextPiece) (line : ℕ) (rest : List ℕ) (b : Bool) → HasCut text count (map piece_data items) line rest →
    count ≤ 1000 → b ≡ (length rest == 0) → b ≡ true → AreAllPieces text (map piece_data items)
all_cut text count items line rest b h few is empty =
    let are = subst (ArePieces text (map piece_data items) line) (is_nothing rest (sym is ∙ empty)) h.are in
    record {
      line = line;
      are = are;
      few = let counted = h.counted in omega arith;
      joined = sym (append-nil (flat_map (λ (p : PieceData). p.body) (map piece_data items))) ∙ joins text (map piece_data items) line [] are;
    }

pub many_cut : (text : List ℕ) (count : ℕ) (items : List TextPiece) (line : ℕ) (rest : List ℕ) (b : Bool) → HasCut text count (map piece_data items) line rest →
    count ≡ 1000 → b ≡ (length rest == 0) → b ≡ false → HasMorePieces text
many_cut text count items line rest b h full is some = record {
  pieces = map piece_data items;
  line = line;
  rest = rest;
  are = h.are;
  full = h.counted ∙ full;
  more = is_something rest (sym is ∙ some);
}
