-- An accepted size is large enough for a pager.
use Rattle.std.proofs.Common.{◌≡◌, ℕ, ◌≤◌, Option, Some, None, Ok, refl, subst, option_and_then}
use Rattle.serde_json.specs.Data.{Data, Items, no_items, item}
use Rattle.serde_json.specs.Find.{as_array, get}
use Rattle.tui_json.specs.Members.{◌>>=◌, pair_in, pair_of}
use Rattle.tui_json.specs.Number.{within}
use Rattle.tui_json.specs.Refusals.{or_reject}
use Rattle.tui_json.proofs.Bounds.{within_bounds}
use Rattle.tui_pager_run.specs.Input.{required, size_of}
use Rattle.tui_pager_run.specs.Refusals.{bad_input, field_name}
use Rattle.tui_pager_run.specs.declared.bad_input.BadInput.{BadInput}
use Rattle.tui_pager_run.specs.declared.field.PagerField.{PagerField}

-- a field in a range is at least its lower bound
pub field_least : (low high : ℕ) (field : PagerField) (d : Data) (n : ℕ) → required (within low high) None field d ≡ Ok n → low ≤ n
field_least low high field d n is = by_member (get (field_name field) d) is
  where
    refusal : BadInput
    refusal = bad_input None field

    by_kind : (o : Option ℕ) (found : Data) → within low high found ≡ o → or_reject refusal o ≡ Ok n → low ≤ n
    by_kind (Some m) found e h = let same : m ≡ n = cc in subst (λ (k : ℕ). low ≤ k) same (within_bounds low high m found e).0
    by_kind None found e h = absurd cc

    by_member : (o : Option Data) → or_reject refusal (option_and_then (within low high) o) ≡ Ok n → low ≤ n
    by_member (Some found) h = by_kind (within low high found) found refl h
    by_member None h = absurd cc

abbrev Least : ℕ × ℕ → Type 0
Least p = (12 ≤ p.0) × (5 ≤ p.1)

-- a width and a height in their ranges are at least the lower bounds
pub size_least : (d : Data) (p : ℕ × ℕ) → size_of d ≡ Some p → (12 ≤ p.0) × (5 ≤ p.1)
unfolding pair_of
size_least d p is = by_array (as_array d) is
  where
    by_kinds : (a b : Data) (x y : Option ℕ) → within 12 200 a ≡ x → within 5 100 b ≡ y → (x >>= λ w. y >>= λ h. Some (w, h)) ≡ Some p → Least p
    by_kinds a b (Some w) (Some h) e f g =
        let same : (w, h) ≡ p = cc in subst Least same ((within_bounds 12 200 w a e).0, (within_bounds 5 100 h b f).0)
    by_kinds a b (Some w) None e f g = absurd cc
    by_kinds a b None y e f g = absurd cc

    by_items : (ds : Items) → pair_in (within 12 200) (within 5 100) ds ≡ Some p → Least p
    by_items no_items g = absurd cc
    by_items (item a no_items) g = absurd cc
    by_items (item a (item b no_items)) g = by_kinds a b (within 12 200 a) (within 5 100 b) refl refl g
    by_items (item a (item b (item c ds))) g = absurd cc

    by_array : (o : Option Items) → option_and_then (pair_in (within 12 200) (within 5 100)) o ≡ Some p → Least p
    by_array (Some ds) g = by_items ds g
    by_array None g = absurd cc
