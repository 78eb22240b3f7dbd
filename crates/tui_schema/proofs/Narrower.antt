-- Kinds that allow less than others: what is not of the one kind is not of the other.
use Rattle.std.proofs.Common.{Bool, true, false, nat_le, cond, ◌≡◌, ℕ, ◌+◌, List, [], ◌∷◌, Option, Some, None, option_map, option_and_then, refl, ◌∙◌}
use Rattle.std.proofs.Math.Dec.{leb-zero}
use Rattle.std.specs.List.{position_from}
use Rattle.serde_json.specs.Data.{Data, Items, null, boolean, number, string, array, object, no_items, item}
use Rattle.serde_json.specs.Find.{get}
use Rattle.tui_json.specs.Constraint.{constraint_of}
use Rattle.tui_json.specs.Members.{◌>>=◌, each_of, if_any, list_of, optional_member, unless_null}
use Rattle.tui_json.specs.Number.{u16_of, within}
use Rattle.tui_layout.specs.declared.constraint.Constraint.{Constraint}
use Rattle.tui_layout.specs.declared.fraction.Fraction.{Fraction}
use Rattle.tui_schema.specs.Kinds.Fraction.{fraction_of, is_share, share_of}
use Rattle.tui_schema.specs.Kinds.TableWidth.{table_width_of}
use Rattle.tui_table.specs.Widths.{first_above_100, is_above_100}

-- a value that is not of a kind is not of one that allows less
pub less : {A B : Type 0} (kind : Data → Option A) (narrow : Data → Option B) (name : List ℕ) (d : Data) →
    ((m : Data) → kind m ≡ None → narrow m ≡ None) → optional_member kind name d ≡ None → optional_member narrow name d ≡ None
less {A} kind narrow name d none e = by_value (option_and_then unless_null (get name d)) e
  where
    by_kind : (m : Data) (x : Option A) → kind m ≡ x → option_map Some x ≡ None → option_map Some (narrow m) ≡ None
    by_kind m None is e = rw (none m is) refl
    by_kind m (Some a) is e = cc

    by_value : (found : Option Data) → if_any kind found ≡ None → if_any narrow found ≡ None
    by_value None e = cc
    by_value (Some m) e = by_kind m (kind m) refl e

-- a value of a kind that is not of one that allows less
pub rest : {A B : Type 0} (kind : Data → Option A) (narrow : Data → Option B) (name : List ℕ) (d : Data) (a : A) →
    ((m : Data) → kind m ≡ Some a → narrow m ≡ None) → optional_member kind name d ≡ Some (Some a) → optional_member narrow name d ≡ None
rest {A} kind narrow name d a none e = by_value (option_and_then unless_null (get name d)) e
  where
    same : (b : A) → option_map Some (Some b) ≡ Some (Some a) → Some b ≡ Some a
    same b e = cc

    by_kind : (m : Data) (x : Option A) → kind m ≡ x → option_map Some x ≡ Some (Some a) → option_map Some (narrow m) ≡ None
    by_kind m None is e = cc
    by_kind m (Some b) is e = rw (none m (is ∙ same b e)) refl

    by_value : (found : Option Data) → if_any kind found ≡ Some (Some a) → if_any narrow found ≡ None
    by_value None e = cc
    by_value (Some m) e = by_kind m (kind m) refl e

-- what is not a share
pub no_share : (m : Data) → fraction_of m ≡ None → share_of m ≡ None
unfolding share_of
no_share m none = rw none refl

pub above_one : (f : Fraction) → is_share f ≡ false → (m : Data) → fraction_of m ≡ Some f → share_of m ≡ None
unfolding share_of
above_one f above m is = rw (is, above) refl

-- what is not a percentage
pub no_percent : (m : Data) → u16_of m ≡ None → within 0 100 m ≡ None
unfolding within
no_percent m none = rw none refl

pub above_hundred : (n : ℕ) → nat_le n 100 ≡ false → (m : Data) → u16_of m ≡ Some n → within 0 100 m ≡ None
unfolding within
above_hundred n above m is = rw (is, leb-zero n, above) refl

-- widths that are not widths of a table
no_width : (m : Data) → constraint_of m ≡ None → table_width_of m ≡ None
unfolding table_width_of
no_width m none = rw none refl

above_width : (m : Data) (width : Constraint) → constraint_of m ≡ Some width → is_above_100 width ≡ true → table_width_of m ≡ None
unfolding table_width_of
above_width m width is above = rw (is, above) refl

-- one after another
none_then : {A B : Type 0} (x : Option A) (rest : Option (List B)) (f : A → List B → List B) → rest ≡ None →
    (x >>= λ a. rest >>= λ others. Some (f a others)) ≡ None
none_then None rest f none = refl
none_then (Some a) rest f none = rw none refl

no_widths_in : (ds : Items) → each_of constraint_of ds ≡ None → each_of table_width_of ds ≡ None
unfolding each_of
no_widths_in no_items e = cc
no_widths_in (item m ds) e = by_first (no_widths_in ds) (constraint_of m) refl e
  where
    by_rest : (width : Constraint) (those : Option (List Constraint)) → each_of constraint_of ds ≡ those →
        (those >>= λ others. Some (width ∷ others)) ≡ None → each_of constraint_of ds ≡ None
    by_rest width None is e = is
    by_rest width (Some others) is e = cc

    by_first : (each_of constraint_of ds ≡ None → each_of table_width_of ds ≡ None) → (first : Option Constraint) → constraint_of m ≡ first →
        (first >>= λ width. each_of constraint_of ds >>= λ others. Some (width ∷ others)) ≡ None → each_of table_width_of (item m ds) ≡ None
    by_first later None is e = rw (no_width m is) refl
    by_first later (Some width) is e = none_then (table_width_of m) (each_of table_width_of ds) (λ width others. width ∷ others)
        (later (by_rest width (each_of constraint_of ds) refl e))

pub no_widths : (m : Data) → list_of constraint_of m ≡ None → list_of table_width_of m ≡ None
unfolding list_of
no_widths null e = refl
no_widths (boolean b) e = refl
no_widths (number n) e = refl
no_widths (string s) e = refl
no_widths (array ds) e = no_widths_in ds e
no_widths (object ms) e = refl

above_in : (ds : Items) (widths : List Constraint) (k place : ℕ) → each_of constraint_of ds ≡ Some widths →
    position_from is_above_100 k widths ≡ Some place → each_of table_width_of ds ≡ None
unfolding each_of
above_in no_items [] k place is above = cc
above_in no_items (w ∷ ws) k place is above = cc
above_in (item m ds) [] k place is above = cc
above_in (item m ds) (w ∷ ws) k place is above = by_first (above_in ds ws (k + 1) place) (constraint_of m) refl is
  where
    Later : Type 0
    Later = each_of constraint_of ds ≡ Some ws → position_from is_above_100 (k + 1) ws ≡ Some place → each_of table_width_of ds ≡ None

    by_test : Later → (b : Bool) → is_above_100 w ≡ b → constraint_of m ≡ Some w → each_of constraint_of ds ≡ Some ws →
        cond b (Some k) (position_from is_above_100 (k + 1) ws) ≡ Some place → each_of table_width_of (item m ds) ≡ None
    by_test later true test is so e = rw (above_width m w is test) refl
    by_test later false test is so e = none_then (table_width_of m) (each_of table_width_of ds) (λ width others. width ∷ others) (later so e)

    first : (width : Constraint) (others : List Constraint) → Some (width ∷ others) ≡ Some (w ∷ ws) → Some width ≡ Some w
    first width others e = cc

    others_are : (width : Constraint) (others : List Constraint) → Some (width ∷ others) ≡ Some (w ∷ ws) → Some others ≡ Some ws
    others_are width others e = cc

    by_rest : Later → (width : Constraint) (those : Option (List Constraint)) → constraint_of m ≡ Some width → each_of constraint_of ds ≡ those →
        (those >>= λ others. Some (width ∷ others)) ≡ Some (w ∷ ws) → each_of table_width_of (item m ds) ≡ None
    by_rest later width None is so e = cc
    by_rest later width (Some others) is so e =
        by_test later (is_above_100 w) refl (is ∙ first width others e) (so ∙ others_are width others e) above

    by_first : Later → (found : Option Constraint) → constraint_of m ≡ found →
        (found >>= λ width. each_of constraint_of ds >>= λ others. Some (width ∷ others)) ≡ Some (w ∷ ws) → each_of table_width_of (item m ds) ≡ None
    by_first later None is e = cc
    by_first later (Some width) is e = by_rest later width (each_of constraint_of ds) is refl e

pub above_widths : (widths : List Constraint) (place : ℕ) → first_above_100 widths ≡ Some place → (m : Data) → list_of constraint_of m ≡ Some widths →
    list_of table_width_of m ≡ None
unfolding list_of
above_widths widths place above null is = cc
above_widths widths place above (boolean b) is = cc
above_widths widths place above (number n) is = cc
above_widths widths place above (string s) is = cc
above_widths widths place above (array ds) is = above_in ds widths 0 place is above
above_widths widths place above (object ms) is = cc
