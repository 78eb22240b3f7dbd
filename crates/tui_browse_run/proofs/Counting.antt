-- Line feeds, counted byte by byte.
use Rattle.std.proofs.Common.{◌≡◌, ◌≢◌, ℕ, ◌+◌, ◌-◌, ◌<◌, ◌≤◌, true, false, List, length, take, refl, sym, ap, subst, ◌∙◌, arith, inl, inr}
use Rattle.std.specs.Prelude.{slice_index}
use Rattle.std.proofs.lemmas.Bool.{cases_lt}
use Rattle.std.proofs.lemmas.Bool.Decides.{nat_tests}
use Rattle.std.proofs.lemmas.List.{take_all}
use Rattle.std.proofs.lemmas.List.Sums.{count_by_more_yes, count_by_more_no}
use Rattle.tui_browse_run.specs.Cuts.{AreWholeLines}
use Rattle.tui_browse_run.specs.Pieces.{line_feeds, is_line_feed}

-- The whole lines of some bytes, as in `AreWholeLines`, after counting the first i bytes. They are fewer lines than a
-- piece may have.
pub record HasCounted (bytes : List ℕ) (i n count : ℕ) : Type 0 where
  pub before : n ≤ i
  pub below : count < 1000
  pub counted : count ≡ line_feeds (take n bytes)
  pub all : line_feeds (take i bytes) ≡ count
  pub ends : 0 < n → slice_index bytes (n - 1) ≡ 10
  pub none : (k : ℕ) → n ≤ k → k < i → slice_index bytes k ≢ 10

is_feed_yes : (b : ℕ) → b ≡ 10 → is_line_feed b ≡ true
is_feed_yes b e = grind (arith, nat_tests)

is_feed_no : (b : ℕ) → b ≢ 10 → is_line_feed b ≡ false
is_feed_no b e = grind (arith, nat_tests)

pub feeds_yes : (bytes : List ℕ) (i : ℕ) → i < length bytes → slice_index bytes i ≡ 10 → line_feeds (take (i + 1) bytes) ≡ line_feeds (take i bytes) + 1
feeds_yes bytes i within e = count_by_more_yes is_line_feed bytes i 0 within (is_feed_yes (slice_index bytes i) e)

pub feeds_no : (bytes : List ℕ) (i : ℕ) → i < length bytes → slice_index bytes i ≢ 10 → line_feeds (take (i + 1) bytes) ≡ line_feeds (take i bytes)
feeds_no bytes i within e = count_by_more_no is_line_feed bytes i 0 within (is_feed_no (slice_index bytes i) e)

pub first_counted : (bytes : List ℕ) → HasCounted bytes 0 0 0
first_counted bytes = record { before = omega arith; below = omega arith; counted = refl; all = refl; ends = λ some. absurd (omega arith); none = λ k from to. absurd (omega arith) }

pub feed_counted : (bytes : List ℕ) (i n count : ℕ) → HasCounted bytes i n count → i < length bytes → slice_index bytes i ≡ 10 → count + 1 < 1000 →
    HasCounted bytes (i + 1) (i + 1) (count + 1)
feed_counted bytes i n count h within e below =
    let one = feeds_yes bytes i within e in
    let all : line_feeds (take (i + 1) bytes) ≡ count + 1 = one ∙ ap (λ (k : ℕ). k + 1) h.all in
    let place : i + 1 - 1 ≡ i = omega arith in
    record {
      before = omega arith;
      below = below;
      counted = sym all;
      all = all;
      ends = λ some. rw place e;
      none = λ k from to. absurd (omega arith);
    }

pub other_counted : (bytes : List ℕ) (i n count : ℕ) → HasCounted bytes i n count → i < length bytes → slice_index bytes i ≢ 10 →
    HasCounted bytes (i + 1) n count
other_counted bytes i n count h within e = record {
  before = let before = h.before in omega arith;
  below = h.below;
  counted = h.counted;
  all = feeds_no bytes i within e ∙ h.all;
  ends = h.ends;
  none = λ k from to. elim (cases_lt k i) [
    | inl below ↦ h.none k from below
    | inr above ↦ let same : k ≡ i = omega arith in subst (λ (j : ℕ). slice_index bytes j ≢ 10) (sym same) e
  ];
}

pub full_lines : (bytes : List ℕ) (i n count : ℕ) → HasCounted bytes i n count → i < length bytes → slice_index bytes i ≡ 10 → count + 1 ≡ 1000 →
    AreWholeLines bytes (i + 1) (count + 1)
full_lines bytes i n count h within e full =
    let one = feeds_yes bytes i within e in
    let all : line_feeds (take (i + 1) bytes) ≡ count + 1 = one ∙ ap (λ (k : ℕ). k + 1) h.all in
    let place : i + 1 - 1 ≡ i = omega arith in
    record {
      within = omega arith;
      few = omega arith;
      counted = sym all;
      ends = λ some. rw place e;
      all = λ below. absurd (omega arith);
      none = λ below k from to. absurd (omega arith);
    }

pub lines_counted : (bytes : List ℕ) (i n count : ℕ) → HasCounted bytes i n count → i ≡ length bytes → AreWholeLines bytes n count
lines_counted bytes i n count h is = record {
  within = let before = h.before in omega arith;
  few = let below = h.below in omega arith;
  counted = h.counted;
  ends = h.ends;
  all = λ below. ap line_feeds (sym (ap (λ (k : ℕ). take k bytes) is ∙ take_all (length bytes) bytes (omega arith))) ∙ h.all;
  none = λ below k from to. h.none k from (omega (arith, is));
}
