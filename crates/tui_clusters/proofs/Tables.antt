-- What holds of each character of some ranges, computed over the steps of the tables.
use Rattle.std.proofs.Common.{◌≡◌, ℕ, Bool, true, false, not, ◌&&◌, ◌||◌, List}
use Rattle.ucd_table.specs.Rows.{Range, in_ranges}
use Rattle.ucd_table.proofs.StepsLemmas.{range_rows, rises_from}
use Rattle.ucd_table.proofs.Stepped.{Stepped, of_ranges, zip_stepped}
use Rattle.ucd_table.proofs.Facts.{Stepped-everywhere, always, ends_by}

abbrev pub where_in : List Range → (ℕ → Bool) → ℕ → Bool
where_in ranges test c = not (in_ranges ranges c) || test c

abbrev pub where_in_stepped : (ranges : List Range) (test : ℕ → Bool) → rises_from 0 (range_rows ranges) ≡ true → Stepped test → Stepped (where_in ranges test)
where_in_stepped ranges test rises s = zip_stepped (λ inside holds. not inside || holds) (in_ranges ranges) test (of_ranges ranges rises) s

-- each passes the test
abbrev pub all_pass : (p : ℕ → Bool) → Stepped p → Bool
all_pass p s = always p s && (ends_by 0x11_0000 s.steps && s.default)

pub all_in : (ranges : List Range) (test : ℕ → Bool) (rises : rises_from 0 (range_rows ranges) ≡ true) (s : Stepped test)
    → all_pass (where_in ranges test) (where_in_stepped ranges test rises s) ≡ true → (c : ℕ) → in_ranges ranges c ≡ true → test c ≡ true
all_in ranges test rises s ok c h = inside (in_ranges ranges c) (test c) (Stepped-everywhere (where_in ranges test) (where_in_stepped ranges test rises s) ok c) h
  where
    inside : (p q : Bool) → (not p || q) ≡ true → p ≡ true → q ≡ true
    inside true q h e = h
    inside false q h e = cc
