-- Lines have the same indices among graphemes and among their images under a function.
use Rattle.std.proofs.Common.{◌≡◌, ℕ, suc, ◌+◌, ◌-◌, List, [], ◌∷◌, length, take, drop, Bool, true, false, cond, map, refl, sym, ap, ◌∙◌, arith, ⊎_elim, ◌<◌, min}
use Rattle.std.specs.Prelude.{sum_by, not, nat_le, nat_lt, ◌&&◌}
use Rattle.std.specs.List.{between}
use Rattle.std.proofs.lemmas.List.{drop-drop, drop-map, take-map, take-append-drop, length-drop, length-take}
use Rattle.std.proofs.lemmas.List.Sums.{sum_by-cons}
use Rattle.tui_para.specs.Rule.{Rule, ends_piece}
use Rattle.tui_para.specs.Wrapped.{without_blanks, after_break, line_start, IsNextLine}
use Rattle.tui_para.specs.Places.{blanks_len, start_len, dropped_len, goes_on_for, line_len}
use Rattle.tui_para.proofs.Greedy.{AllFit, all_fit-drop, line_is, line_some}

-- without the whitespace at the beginning, by the number of its graphemes
module _ {A : Type 0} (rule : Rule A) where
  without_blanks-drop : (xs : List A) → without_blanks rule.blank xs ≡ drop (blanks_len rule.blank xs) xs
  without_blanks-drop [] = refl
  without_blanks-drop (x ∷ xs) = grind (arith, without_blanks-drop xs)

  pub line_start-drop : (trim : Bool) (xs : List A) → line_start rule.blank trim xs ≡ drop (start_len rule.blank trim xs) xs
  line_start-drop true xs = without_blanks-drop xs
  line_start-drop false xs = refl

  pub after_break-drop : (room : ℕ) (xs : List A) → after_break rule room xs ≡ drop (dropped_len rule.blank rule.size room xs) xs
  after_break-drop room [] = refl
  after_break-drop room (x ∷ xs) = grind (arith, after_break-drop (room - rule.size x) xs)

-- numbers of graphemes are the same for their images
module _ {A B : Type 0} (f : A → B) (ends blank : B → Bool) (size : B → ℕ) where
  blanks_len-map : (xs : List A) → blanks_len blank (map f xs) ≡ blanks_len (λ x. blank (f x)) xs
  blanks_len-map [] = refl
  blanks_len-map (x ∷ xs) = ap (λ n. cond (blank (f x)) (suc n) 0) (blanks_len-map xs)

  pub start_len-map : (trim : Bool) (xs : List A) → start_len blank trim (map f xs) ≡ start_len (λ x. blank (f x)) trim xs
  start_len-map trim xs = ap (λ n. cond trim n 0) (blanks_len-map xs)

  pub dropped_len-map : (room : ℕ) (xs : List A) → dropped_len blank size room (map f xs) ≡ dropped_len (λ x. blank (f x)) (λ x. size (f x)) room xs
  dropped_len-map room [] = refl
  dropped_len-map room (x ∷ xs) = ap (λ n. cond (blank (f x)) (suc (cond (nat_le (size (f x)) room) n 0)) 0) (dropped_len-map (room - size (f x)) xs)

  pub goes_on_for-map : (in_word : Bool) (pieces n room : ℕ) (xs : List A) →
      goes_on_for ends blank size in_word pieces n room (map f xs) ≡ goes_on_for (λ x. ends (f x)) (λ x. blank (f x)) (λ x. size (f x)) in_word pieces n room xs
  goes_on_for-map in_word pieces n room [] = refl
  goes_on_for-map in_word pieces n room (x ∷ xs) =
      let ended = cond (in_word && ends (f x)) n pieces in
      ap (λ k. cond (nat_le (size (f x)) room) k (cond (nat_lt 0 ended) ended n)) (goes_on_for-map (not (blank (f x))) ended (suc n) (room - size (f x)) xs)

  pub sum_by-map : (xs : List A) → sum_by size (map f xs) ≡ sum_by (λ x. size (f x)) xs
  sum_by-map [] = refl
  sum_by-map (x ∷ xs) = sum_by-cons size (f x) (map f xs) ∙ (ap (λ n. size (f x) + n) (sum_by-map xs) ∙ sym (sum_by-cons (λ x. size (f x)) x xs))

-- the rule for graphemes, from that for their images
abbrev pub seen_by : {A B : Type 0} → (A → B) → Rule B → Rule A
seen_by f rule = record { blank = λ x. rule.blank (f x); split = λ x. rule.split (f x); size = λ x. rule.size (f x); width = rule.width; trim = rule.trim }

-- the next line of graphemes, at the indices that their images give
pub next_placed : {A B : Type 0} (f : A → B) (rule : Rule B) (xs : List A) (ms ys zs : List B) (start len room n : ℕ) →
    map f xs ≡ ms → start ≡ start_len rule.blank rule.trim ms → ys ≡ drop start ms → len ≡ line_len (ends_piece rule) rule.blank rule.size rule.width ys → room + sum_by rule.size (take len ys) ≡ rule.width →
    zs ≡ drop len ys → n ≡ dropped_len rule.blank rule.size room zs → IsNextLine (seen_by f rule) xs (between start (start + len) xs) (drop (start + len + n) xs)
next_placed f rule xs ms ys zs start len room n view starts rest lasts leaves after drops =
    let seen_rule = seen_by f rule in
    let s = drop start xs in
    let seen : ys ≡ map f s = rest ∙ (ap (drop start) (sym view) ∙ drop-map f start xs) in
    let start_is : start ≡ start_len seen_rule.blank rule.trim xs = starts ∙ (ap (start_len rule.blank rule.trim) (sym view) ∙ start_len-map f (ends_piece rule) rule.blank rule.size rule.trim xs) in
    let len_is : len ≡ line_len (ends_piece seen_rule) seen_rule.blank seen_rule.size rule.width s = lasts ∙ (ap (line_len (ends_piece rule) rule.blank rule.size rule.width) seen ∙ goes_on_for-map f (ends_piece rule) rule.blank rule.size false 0 0 rule.width s) in
    let width : sum_by rule.size (take len ys) ≡ sum_by seen_rule.size (take len s) =
    ap (λ t. sum_by rule.size (take len t)) seen ∙ (ap (sum_by rule.size) (take-map f len s) ∙ sum_by-map f (ends_piece rule) rule.blank rule.size (take len s)) in
    let room_is : room ≡ rule.width - sum_by seen_rule.size (take len s) = omega arith in
    let n_is : n ≡ dropped_len seen_rule.blank seen_rule.size room (drop len s) =
    drops ∙ (ap (dropped_len rule.blank rule.size room) (after ∙ (ap (drop len) seen ∙ drop-map f len s)) ∙ dropped_len-map f (ends_piece rule) rule.blank rule.size room (drop len s)) in
    let long : start + len - start ≡ len = omega arith in
    let line : between start (start + len) xs ≡ take len s = ap (λ k. take k s) long in
    let left : drop (start + len + n) xs ≡ drop n (drop len s) = sym (ap (drop n) (drop-drop len start xs) ∙ drop-drop n (start + len) xs) in
    rw (line, left) (record {
      after = drop len s;
      joined = line_start-drop seen_rule rule.trim xs ∙ (ap (λ k. drop k xs) (sym start_is) ∙ sym (take-append-drop len s));
      line_is = line_is seen_rule s len len_is;
      rest_is = ap (λ k. drop k (drop len s)) n_is ∙ (sym (after_break-drop seen_rule room (drop len s)) ∙ ap (λ r. after_break seen_rule r (drop len s)) room_is);
    })

-- the next line uses something up
pub next_moves : {A : Type 0} (rule : Rule A) (xs ys : List A) (start len : ℕ) →
    AllFit rule.size rule.width xs → ys ≡ drop start xs → len ≡ line_len (ends_piece rule) rule.blank rule.size rule.width ys → 0 < length xs → 0 < start + len
next_moves rule xs ys start len fit rest lasts some =
    let long : length ys ≡ length xs - start = ap length rest ∙ length-drop start xs in
    let left : length (drop len ys) ≡ length ys - len = length-drop len ys in
    let front : length (take len ys) ≡ min len (length ys) = length-take len ys in
    let fits : AllFit rule.size rule.width (drop len ys) = all_fit-drop rule.size rule.width len ys (rw rest (all_fit-drop rule.size rule.width start xs fit)) in
    ⊎_elim
    (λ e. let z = ap length e in omega arith)
    (λ l. omega arith)
    (line_some rule (take len ys) (drop len ys) (line_is rule ys len lasts) fits)
