-- The size of the pages of an input.
use Rattle.std.proofs.Common.{◌≡◌, ℕ, ◌≤◌, Bool, true, false, ◌&&◌, cond, List, Option, Some, None, Result, Ok, Err, refl, subst, arith}
use Rattle.std.specs.Prelude.{nat_le, option_and_then}
use Rattle.std.proofs.lemmas.Bool.Decides.{nat_tests}
use Rattle.serde_json.specs.Data.{Data}
use Rattle.serde_json.specs.Find.{as_str, get}
use Rattle.tui_json.specs.Members.{member}
use Rattle.tui_json.specs.Number.{between, u16_of, within}
use Rattle.tui_json.specs.Refusals.{◌>>=◌, or_reject}
use Rattle.tui_json.specs.Members.{elements_within}
use Rattle.tui_json.specs.Refusals.{numbered}
use Rattle.tui_pages_run.specs.Input.{InputData, SheetData, column_of, input_of, record_of, required, sheet_of}
use Rattle.tui_pages_run.specs.Refusals.{bad_input, field_name}
use Rattle.tui_pages_run.specs.declared.field.ReportField.TheVariants as fields
use Rattle.tui_pages_run.specs.declared.refusal.PagesRefusal.{PagesRefusal}

between_least : (bounded high m n : ℕ) → between bounded high m ≡ Some n → bounded ≤ n
between_least bounded high m n is = by_test (nat_le bounded m && nat_le m high) refl is
  where
    by_test : (b : Bool) → nat_le bounded m && nat_le m high ≡ b → cond b (Some m) None ≡ Some n → bounded ≤ n
    by_test true e found = let same : m ≡ n = cc in grind (arith, nat_tests)
    by_test false e found = absurd cc

within_least : (bounded high : ℕ) (d : Data) (n : ℕ) → within bounded high d ≡ Some n → bounded ≤ n
unfolding within
within_least bounded high d n is = by_number (u16_of d) is
  where
    by_number : (o : Option ℕ) → option_and_then (between bounded high) o ≡ Some n → bounded ≤ n
    by_number (Some m) found = between_least bounded high m n found
    by_number None found = absurd cc

-- a field in a range is at least its lower bound
required_least : (bounded high : ℕ) (key : List ℕ) (refusal : PagesRefusal) (d : Data) (n : ℕ) →
    or_reject refusal (member (within bounded high) key d) ≡ Ok n → bounded ≤ n
required_least bounded high key refusal d n is = by_member (get key d) is
  where
    by_found : (o : Option ℕ) → ((m : ℕ) → o ≡ Some m → bounded ≤ m) → or_reject refusal o ≡ Ok n → bounded ≤ n
    by_found (Some m) least found = let same : m ≡ n = cc in subst (λ (k : ℕ). bounded ≤ k) same (least m refl)
    by_found None least found = absurd cc

    by_member : (o : Option Data) → or_reject refusal (option_and_then (within bounded high) o) ≡ Ok n → bounded ≤ n
    by_member (Some found) h = by_found (within bounded high found) (λ m e. within_least bounded high found m e) h
    by_member None h = absurd cc

pub bind_ok : {A B R : Type 0} (r : Result A R) (f : A → Result B R) (y : B) → (r >>= f) ≡ Ok y → (x : A) × (r ≡ Ok x) × (f x ≡ Ok y)
bind_ok (Ok x) f y is = (x, refl, is)
bind_ok (Err e) f y is = absurd cc

sheet_least : (d : Data) (s : SheetData) → sheet_of d ≡ Ok s → (1 ≤ s.width) × (4 ≤ s.height)
unfolding sheet_of
sheet_least d s is =
    let w = bind_ok (required (within 1 200) None fields.Width d) (λ width. required (within 4 200) None fields.Height d >>= λ height.
    required as_str None fields.Title d >>= λ title. Ok (record { width = width; height = height; title = title })) s is in
    let h = bind_ok (required (within 4 200) None fields.Height d) (λ height.
    required as_str None fields.Title d >>= λ title. Ok (record { width = w.0; height = height; title = title })) s w.2 in
    let t = bind_ok (required as_str None fields.Title d) (λ title. Ok (record { width = w.0; height = h.0; title = title })) s h.2 in
    let made : SheetData = record { width = w.0; height = h.0; title = t.0 } in
    let same : made ≡ s = one_ok made s (Ok made) refl t.2 in
    let wide = required_least 1 200 (field_name fields.Width) (bad_input None fields.Width) d w.0 w.1 in
    let high = required_least 4 200 (field_name fields.Height) (bad_input None fields.Height) d h.0 h.1 in
    subst (λ (x : SheetData). (1 ≤ x.width) × (4 ≤ x.height)) same (wide, high)
  where
    one_ok : (a b : SheetData) (r : Result SheetData PagesRefusal) → r ≡ Ok a → r ≡ Ok b → a ≡ b
    one_ok a b r e f = cc

-- the pages of an accepted input are large enough
pub input_least : (d : Data) (input : InputData) → input_of d ≡ Ok input → (1 ≤ input.sheet.width) × (4 ≤ input.sheet.height)
unfolding input_of
input_least d input is =
    let s = bind_ok (sheet_of d) (λ sheet. required (elements_within 1 32) None fields.Columns d >>= λ values. numbered column_of 0 values >>= λ columns.
    required (elements_within 0 10000) None fields.Records d >>= λ others. numbered record_of 0 others >>= λ records.
    Ok (record { sheet = sheet; columns = columns; records = records })) input is in
    let v = bind_ok (required (elements_within 1 32) None fields.Columns d) (λ values. numbered column_of 0 values >>= λ columns.
    required (elements_within 0 10000) None fields.Records d >>= λ others. numbered record_of 0 others >>= λ records.
    Ok (record { sheet = s.0; columns = columns; records = records })) input s.2 in
    let c = bind_ok (numbered column_of 0 v.0) (λ columns. required (elements_within 0 10000) None fields.Records d >>= λ others.
    numbered record_of 0 others >>= λ records. Ok (record { sheet = s.0; columns = columns; records = records })) input v.2 in
    let o = bind_ok (required (elements_within 0 10000) None fields.Records d) (λ others.
    numbered record_of 0 others >>= λ records. Ok (record { sheet = s.0; columns = c.0; records = records })) input c.2 in
    let r = bind_ok (numbered record_of 0 o.0) (λ records. Ok (record { sheet = s.0; columns = c.0; records = records })) input o.2 in
    let made : InputData = record { sheet = s.0; columns = c.0; records = r.0 } in
    subst (λ (x : InputData). (1 ≤ x.sheet.width) × (4 ≤ x.sheet.height)) (one_ok made input (Ok made) refl r.2) (sheet_least d s.0 s.1)
  where
    one_ok : (a b : InputData) (r : Result InputData PagesRefusal) → r ≡ Ok a → r ≡ Ok b → a ≡ b
    one_ok a b r e f = cc
