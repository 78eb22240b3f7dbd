-- The first index from which on clusters fit, and the first cluster to show.
use Rattle.std.proofs.Common.{◌≡◌, ℕ, ◌+◌, ◌-◌, ◌<◌, ◌≤◌, zero, suc, min, max, Bool, true, false, List, [], ◌∷◌, ◌++◌, length, take, drop, slice_range, refl, sym, ap, ◌∙◌, arith, append_assoc, append-nil, length-append, drop_at, ⊎_elim}
use Rattle.std.proofs.lemmas.Bool.{cases_lt}
use Rattle.std.proofs.lemmas.Bool.Decides.{nat_tests}
use Rattle.std.proofs.lemmas.List.{take-append-drop}
use Rattle.std.proofs.lemmas.List.Folds.{drop_split}
use Rattle.std.proofs.lemmas.List.Sums.{sum_by-append, sum_by-cons}
use Rattle.std.specs.Prelude.{Option, nat_le, nat_lt, if◌then◌else◌}
use Rattle.tui_clusters.specs.Width.{width_of}
use Rattle.tui_input.specs.Scroll.{columns, columns_from, cursor_columns, highest, lowest, scrolled, shown, start_in, IsScrolled, MovesLeast}
use Rattle.tui_input.specs.State.{TypedText}
use Rattle.tui_layout.specs.Window.{distance}

-- the least index from which on clusters fit in `room` columns
record IsLowest (room : ℕ) (pieces : List (List ℕ)) (start : ℕ) : Type 0 where
  within : start ≤ length pieces
  fits : columns_from pieces start ≤ room
  lowest : (other : ℕ) → other < start → room < columns_from pieces other

columns_fall : (ps : List (List ℕ)) (j k : ℕ) → j ≤ k → columns_from ps k ≤ columns_from ps j
columns_fall ps j k le =
    let split = ap columns (drop_split ps j k le) ∙ sum_by-append width_of (slice_range ps j k) (drop k ps) in
    omega arith

-- ---- counting from the end

-- the clusters from index `start` on leave `free` of `room` columns
pub record IsCounting (room : ℕ) (ps left : List (List ℕ)) (start free : ℕ) : Type 0 where
  pub following : List (List ℕ)
  pub parts : ps ≡ left ++ following
  pub start_is : start ≡ length left
  pub room_is : free + columns following ≡ room

fits_now : (n room a : ℕ) → n ≤ room → (if nat_le n room then 0 else a) ≡ 0
fits_now n room a le = grind (arith, nat_tests)

fits_later : (n room a : ℕ) → room < n → (if nat_le n room then 0 else a) ≡ a
fits_later n room a lt = grind (arith, nat_tests)

-- the least index is the first one from which on they fit
lowest_is : (room : ℕ) (ps : List (List ℕ)) (k : ℕ) → IsLowest room ps k → k ≡ start_in room ps
unfolding start_in
lowest_is room [] k h = let none = h.within in omega arith
lowest_is room (c ∷ cs) zero h = sym (fits_now (columns (c ∷ cs)) room (suc (start_in room cs)) h.fits)
lowest_is room (c ∷ cs) (suc k) h =
    let wide = h.lowest 0 (omega arith) in
    let inside = h.within in
    let rest : IsLowest room cs k =
    record { within = omega arith; fits = h.fits; lowest = λ other lt. h.lowest (suc other) (omega arith) } in
    ap suc (lowest_is room cs k rest) ∙ sym (fits_later (columns (c ∷ cs)) room (suc (start_in room cs)) wide)

module _ (room : ℕ) (ps : List (List ℕ)) where
  pub IsCounting-init : (left : List (List ℕ)) (start : ℕ) → left ≡ ps → start ≡ length ps → IsCounting room ps left start room
  IsCounting-init left start e n =
      record { following = []; parts = sym e ∙ sym (append-nil left); start_is = n ∙ ap length (sym e); room_is = omega arith }

  pub IsCounting-step : (left front : List (List ℕ)) (last : List ℕ) (start free next rest : ℕ) → IsCounting room ps left start free
      → left ≡ front ++ last ∷ [] → width_of last ≤ free → next ≡ start - 1 → rest ≡ free - width_of last → IsCounting room ps front next rest
  IsCounting-step left front last start free next rest h e le n f =
      let size = ap length e ∙ length-append front (last ∷ []) in
      let was = h.start_is in
      let free_is = h.room_is in
      let more = sum_by-cons width_of last h.following in
      record {
        following = last ∷ h.following;
        parts = h.parts ∙ ap (λ t. t ++ h.following) e ∙ append_assoc front (last ∷ []) h.following;
        start_is = omega arith;
        room_is = omega arith;
      }

  at_left : (left following : List (List ℕ)) (start : ℕ) → ps ≡ left ++ following → start ≡ length left → drop start ps ≡ following
  at_left left following start e n = ap (drop start) e ∙ drop_at left following start (sym n)

  pub IsCounting-some : (left front : List (List ℕ)) (last : List ℕ) (start free : ℕ) → IsCounting room ps left start free → left ≡ front ++ last ∷ []
      → 1 ≤ start
  IsCounting-some left front last start free h e =
      let size = ap length e ∙ length-append front (last ∷ []) in let was = h.start_is in omega arith

  pub IsCounting-stop : (left front : List (List ℕ)) (last : List ℕ) (start free : ℕ) → IsCounting room ps left start free → left ≡ front ++ last ∷ []
      → free < width_of last → start ≡ start_in room ps
  IsCounting-stop left front last start free h e wide =
      let size = ap length e ∙ length-append front (last ∷ []) in
      let was = h.start_is in
      let free_is = h.room_is in
      let more = sum_by-cons width_of last h.following in
      let all = ap length h.parts ∙ length-append left h.following in
      let here = ap columns (at_left left h.following start h.parts h.start_is) in
      let before : start - 1 ≡ length front = omega arith in
      let one = ap columns (at_left front (last ∷ h.following) (start - 1) (h.parts ∙ ap (λ t. t ++ h.following) e ∙ append_assoc front (last ∷ []) h.following) before) in
      lowest_is room ps start (record {
        within = omega arith;
        fits = omega arith;
        lowest = λ other lt. let fall = columns_fall ps other (start - 1) (omega arith) in omega arith;
      })

  pub IsCounting-end : (left : List (List ℕ)) (start free : ℕ) → IsCounting room ps left start free → left ≡ [] → start ≡ start_in room ps
  IsCounting-end left start free h e =
      let was = h.start_is ∙ ap length e in
      let free_is = h.room_is in
      let all = ap length h.parts ∙ length-append left h.following in
      let here = ap columns (at_left left h.following start h.parts h.start_is) in
      lowest_is room ps start (record { within = omega arith; fits = omega arith; lowest = λ other lt. absurd (omega arith) })

-- ---- the index that is chosen

first_fits : (room : ℕ) (c : List ℕ) (cs : List (List ℕ)) (b : Bool) → nat_le (columns (c ∷ cs)) room ≡ b → IsLowest room cs (start_in room cs)
    → IsLowest room (c ∷ cs) (if b then 0 else suc (start_in room cs))
first_fits room c cs true e h = record { within = omega arith; fits = grind (arith, nat_tests); lowest = λ other lt. absurd (omega arith) }
first_fits room c cs false e h =
    let inside = h.within in
    let wide : room < columns (c ∷ cs) = grind (arith, nat_tests) in
    record { within = omega arith; fits = h.fits; lowest = λ other lt. before other lt wide }
  where
    before : (other : ℕ) → other < suc (start_in room cs) → room < columns (c ∷ cs) → room < columns_from (c ∷ cs) other
    before zero lt wide = wide
    before (suc k) lt wide = h.lowest k (omega arith)

start_lowest : (room : ℕ) (ps : List (List ℕ)) → IsLowest room ps (start_in room ps)
unfolding start_in
start_lowest room [] = record { within = omega arith; fits = omega arith; lowest = λ other lt. absurd (omega arith) }
start_lowest room (c ∷ cs) = first_fits room c cs (nat_le (columns (c ∷ cs)) room) refl (start_lowest room cs)

-- if the text after the cursor takes `following` columns: the greatest index from which on no column stays empty that text
-- could fill
record IsHighest (width following low high : ℕ) (ps : List (List ℕ)) : Type 0 where
  within : high ≤ length ps
  above : low ≤ high
  filled : (other : ℕ) → other < high → width ≤ columns_from ps other + following
  free : (other : ℕ) → high < other → other ≤ length ps → columns_from ps high + following < width

is_highest : (width following kept : ℕ) (ps : List (List ℕ)) (b : Bool) → nat_lt following width ≡ b → kept ≤ max following 1
    → IsHighest width following (start_in (width - kept) ps) (if b then start_in (width - 1 - following) ps else length ps) ps
is_highest width following kept ps true e k =
    let lt : following < width = grind (arith, nat_tests) in
    let high = start_lowest (width - 1 - following) ps in
    let low = start_lowest (width - kept) ps in
    let fits = high.fits in
    record {
      within = high.within;
      above = ⊎_elim (λ (lower : start_in (width - 1 - following) ps < start_in (width - kept) ps). let wide = low.lowest _ lower in absurd (omega arith)) (λ le. le)
          (cases_lt (start_in (width - 1 - following) ps) (start_in (width - kept) ps));
      filled = λ other earlier. let wide = high.lowest other earlier in omega arith;
      free = λ other later inside. omega arith;
    }
is_highest width following kept ps false e k =
    let le : width ≤ following = grind (arith, nat_tests) in
    let low = start_lowest (width - kept) ps in
    record {
      within = omega arith;
      above = low.within;
      filled = λ other earlier. omega arith;
      free = λ other later inside. absurd (omega arith);
    }

-- the columns reserved for the cursor are at most those of the text after it, or one
kept_of : (ps : List (List ℕ)) → max (columns (take 1 ps)) 1 ≤ max (columns ps) 1
kept_of ps =
    let split = ap columns (sym (take-append-drop 1 ps)) ∙ sum_by-append width_of (take 1 ps) (drop 1 ps) in
    omega arith

nearest : (low old first other high : ℕ) → low ≤ high → first ≡ min (max old low) high → low ≤ other → other ≤ high → distance first old ≤ distance other old
nearest low old first other high a e b c = omega arith

module _ (mask : Option (List ℕ)) (width : ℕ) (s : TypedText) where
  moves_least : (first : ℕ) → first ≡ min (max s.first (lowest mask width s)) (highest mask width s) → MovesLeast mask width s first
  moves_least first e =
      let ps = shown mask s.before in
      let following = columns (shown mask s.after) in
      let low = start_lowest (width - cursor_columns mask s) ps in
      let high = is_highest width following (cursor_columns mask s) ps (nat_lt following width) refl (kept_of (shown mask s.after)) in
      let above = high.above in
      let inside = high.within in
      let fits = low.fits in
      let fall = columns_fall ps (lowest mask width s) first (omega arith) in
      record {
        is_valid = record { within = omega arith; fits = omega arith; filled = λ other lt. high.filled other (omega arith) };
        least = λ other g.
            let there = g.fits in
            let place = g.within in
            let from : lowest mask width s ≤ other =
            ⊎_elim (λ (lt : other < lowest mask width s). let wide = low.lowest other lt in absurd (omega arith)) (λ le. le) (cases_lt other (lowest mask width s)) in
            let to : other ≤ highest mask width s =
            ⊎_elim (λ (lt : highest mask width s < other). let room = high.free other lt place in let full = g.filled (highest mask width s) lt in absurd (omega arith))
            (λ le. le) (cases_lt (highest mask width s) other) in
            nearest (lowest mask width s) s.first first other (highest mask width s) above e from to;
      }

  pub is_scrolled : IsScrolled mask width s (scrolled mask width s)
  is_scrolled =
      let moves = moves_least _ refl in
      let fits = moves.is_valid.fits in
      record { moves = moves; seen = λ some. omega arith; whole = λ le. omega arith }
