-- The marks for the numbers of an order.
use Rattle.std.proofs.Common.{◌≡◌, ℕ, ◌+◌, ◌<◌, ◌≤◌, ◌==◌, Bool, true, false, if◌then◌else◌, List, length, get_or, set, take, All}
use Rattle.std.proofs.Common.{refl, sym, ap, ◌∙◌, subst, arith, inl, inr}
use Rattle.std.specs.Prelude.{◌≢◌, ◌⊎◌, ◌↔◌, IsTrue, not, count_by}
use Rattle.std.specs.List.{list_any}
use Rattle.std.proofs.lemmas.List.Folds.{Any-from_list_any, list_any_at}
use Rattle.std.proofs.lemmas.List.{get_or_default, get_or-set_other, get_or-set_same, length-set}
use Rattle.std.proofs.lemmas.List.Elements.{All-get_or, All-more}
use Rattle.std.proofs.lemmas.List.Sums.{count_by_more_no, count_by_more_yes, sum_by-take-le}
use Rattle.std.proofs.lemmas.Bool.{false≢true, cases_Bool, cases_eq, cond-true, cond-false, eq-eqb, ne_eqb}
use Rattle.tui_scene.specs.Redraw.{IsOrder}
use Rattle.tui_panes_lib.specs.Order.{AreMarked}

-- one more number
pub marked_more : (marks : List Bool) (order : List ℕ) (k leaf : ℕ) → k < length order → leaf ≡ get_or order k 0 → leaf < length marks →
    get_or marks leaf false ≡ false → AreMarked marks (take k order) → AreMarked (set marks leaf true) (take (k + 1) order)
marked_more marks order k leaf within at below free so_far = record {
  below = subst (λ n. All (λ i. i < n) (take (k + 1) order)) (sym (length-set marks leaf true))
      (All-more (λ i. i < length marks) order k 0 within so_far.below (subst (λ n. n < length marks) at below));
  counts = λ i lt. by_place i (omega (arith, length-set marks leaf true)) (cases_eq leaf i);
}
  where
    by_place : (i : ℕ) → i < length marks → (leaf ≡ i) ⊎ (leaf ≢ i) → count_by (λ j. j == i) (take (k + 1) order) ≡ (if get_or (set marks leaf true) i false then 1 else 0)
    by_place i lt (inl here) =
        let now : get_or (set marks leaf true) i false ≡ true = subst (λ n. get_or (set marks leaf true) n false ≡ true) here (get_or-set_same marks leaf true false below) in
        let was : count_by (λ j. j == i) (take k order) ≡ 0 = so_far.counts i lt ∙ cond-false _ _ _ (subst (λ n. get_or marks n false ≡ false) here free) in
        count_by_more_yes (λ j. j == i) order k 0 within (eq-eqb (get_or order k 0) i (sym at ∙ here)) ∙ ap (λ n. n + 1) was
        ∙ sym (cond-true _ _ _ now)
    by_place i lt (inr other) =
        count_by_more_no (λ j. j == i) order k 0 within (ne_eqb (get_or order k 0) i (λ e. other (at ∙ e))) ∙ so_far.counts i lt
        ∙ ap (λ b. if b then 1 else 0) (sym (get_or-set_other marks leaf i true false (λ e. other (sym e))))

-- a number without a mark
pub past : (n k leaf : ℕ) (order : List ℕ) → k < length order → leaf ≡ get_or order k 0 → n ≤ leaf → IsOrder n order → ⊥
past n k leaf order within at ge is =
    let lt : get_or order k 0 < n = All-get_or (λ i. i < n) order k 0 within is.below in
    absurd (omega (arith, at))

-- a number that occurs for the second time
pub twice : (marks : List Bool) (order : List ℕ) (n k leaf : ℕ) → k < length order → leaf ≡ get_or order k 0 → leaf < length marks → length marks ≡ n →
    get_or marks leaf false ≡ true → AreMarked marks (take k order) → IsOrder n order → ⊥
twice marks order n k leaf within at below long marked so_far is =
    let was : count_by (λ j. j == leaf) (take k order) ≡ 1 = so_far.counts leaf below ∙ cond-true _ _ _ marked in
    let now = count_by_more_yes (λ j. j == leaf) order k 0 within (eq-eqb (get_or order k 0) leaf (sym at)) in
    let most = sum_by-take-le (λ j. if j == leaf then 1 else 0) order (k + 1) in
    absurd (omega (arith, was, now, most, is.once leaf (omega arith)))

-- all numbers are marked
all_marked : (marks : List Bool) (order : List ℕ) (p : Bool → Bool) → p false ≡ true → AreMarked marks order → list_any p marks ≡ false →
    IsOrder (length marks) order
all_marked marks order p finds so_far none = record { below = so_far.below; once = λ i lt. by_mark i lt (cases_Bool (get_or marks i false)) }
  where
    by_mark : (i : ℕ) → i < length marks → (get_or marks i false ≡ true) ⊎ (get_or marks i false ≡ false) → count_by (λ j. j == i) order ≡ 1
    by_mark i lt (inl marked) = so_far.counts i lt ∙ cond-true _ _ _ marked
    by_mark i lt (inr free) = absurd (false≢true (sym none ∙ list_any_at p marks i false lt (ap p free ∙ finds)))

-- a number is not marked
one_free : (marks : List Bool) (order : List ℕ) (p : Bool → Bool) → p true ≡ false → AreMarked marks order → list_any p marks ≡ true →
    IsOrder (length marks) order → ⊥
one_free marks order p finds so_far some is =
    let found = Any-from_list_any p marks some in
    by_mark found.0 found.2 (ap p (get_or_default marks found.0 false found.1 found.2 ∙ found.3) ∙ found.4) (cases_Bool (get_or marks found.0 false))
  where
    by_mark : (i : ℕ) → i < length marks → p (get_or marks i false) ≡ true → (get_or marks i false ≡ true) ⊎ (get_or marks i false ≡ false) → ⊥
    by_mark i lt at (inl marked) = false≢true (sym finds ∙ (ap p (sym marked) ∙ at))
    by_mark i lt at (inr free) = absurd (omega (arith, is.once i lt, so_far.counts i lt ∙ cond-false _ _ _ free))

pub decided : (marks : List Bool) (order : List ℕ) (n : ℕ) (p : Bool → Bool) (some : Bool) → p false ≡ true → p true ≡ false → length marks ≡ n →
    some ≡ list_any p marks → AreMarked marks order → IsTrue (not some) ↔ IsOrder n order
decided marks order n p true finds only long is so_far =
    (λ e. absurd (let k = e in cc), λ k. absurd (one_free marks order p only so_far (sym is) (subst (λ m. IsOrder m order) (sym long) k)))
decided marks order n p false finds only long is so_far =
    (λ e. subst (λ m. IsOrder m order) long (all_marked marks order p finds so_far (sym is)), λ k. refl)
