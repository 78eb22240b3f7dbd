-- The fields as items of the list, of two lines each.
use Rattle.std.proofs.Common.{◌≡◌, ℕ, ◌+◌, ◌*◌, ◌<◌, ◌≤◌, zero, suc, List, [], ◌∷◌, ◌++◌, Option, length, get_or, map, take, sum, refl, sym, ap, ap₂, ◌∙◌, arith}
use Rattle.std.proofs.lemmas.List.{length-map, length-take-le, map-append, take_more}
use Rattle.std.proofs.lemmas.List.Sums.{sum_by-cons}
use Rattle.std.specs.Prelude.{◌==◌, slice_index}
use Rattle.tui_form_lib.specs.Field.{FieldData, field_data}
use Rattle.tui_form_lib.specs.Lines.{field_item, is_reported, items_from}
use Rattle.tui_form_lib.specs.declared.field.FormField.{FormField}
use Rattle.tui_layout.proofs.Totals.{total-prefix_sum}
use Rattle.tui_layout.specs.Sums.{total}
use Rattle.tui_lists.specs.ListItem.{ListItemData, heights_of, list_item_data}
use Rattle.tui_lists.specs.declared.list.item.ListItem.{ListItem}

items_more : (reported : Option ℕ) (focus k : ℕ) (fs : List FieldData) (f : FieldData) →
    items_from reported focus k (fs ++ f ∷ []) ≡ items_from reported focus k fs ++ field_item (is_reported reported (k + length fs)) (k + length fs == focus) f ∷ []
items_more reported focus k [] f =
    let same : k ≡ k + 0 = omega arith in
    ap (λ (n : ℕ). field_item (is_reported reported n) (n == focus) f ∷ []) same
items_more reported focus k (g ∷ gs) f =
    let later : k + 1 + length gs ≡ k + suc (length gs) = omega arith in
    ap (λ (is : List ListItemData). field_item (is_reported reported k) (k == focus) g ∷ is)
    (items_more reported focus (k + 1) gs f ∙ ap (λ (n : ℕ). items_from reported focus (k + 1) gs ++ field_item (is_reported reported n) (n == focus) f ∷ []) later)

-- one more item in a loop over the fields
pub one_more : (reported : Option ℕ) (focus : ℕ) (fields : List FormField) (i : ℕ) (x : FormField) (items new : List ListItem) (item : ListItem) →
    i < length fields → x ≡ get_or fields i x → map list_item_data items ≡ items_from reported focus 0 (map field_data (take i fields)) →
    list_item_data item ≡ field_item (is_reported reported i) (i == focus) (field_data x) → new ≡ items ++ item ∷ [] →
    map list_item_data new ≡ items_from reported focus 0 (map field_data (take (i + 1) fields))
one_more reported focus fields i x items new item lt is before item_is new_is =
    let front = map field_data (take i fields) in
    let more : map field_data (take (i + 1) fields) ≡ front ++ field_data x ∷ [] =
    ap (map field_data) (take_more fields i x lt) ∙ (map-append field_data (take i fields) (get_or fields i x ∷ []) ∙ ap (λ (z : FormField). front ++ field_data z ∷ []) (sym is)) in
    let count : 0 + length front ≡ i = omega (arith, length-map (take i fields) field_data, length-take-le i fields (omega arith)) in
    let grown = items_more reported focus 0 front (field_data x) in
    ap (map list_item_data) new_is ∙ (map-append list_item_data items (item ∷ []) ∙ (ap₂ (λ (a : List ListItemData) (b : ListItemData). a ++ b ∷ []) before item_is
    ∙ sym (ap (items_from reported focus 0) more ∙ (grown
    ∙ ap (λ (n : ℕ). items_from reported focus 0 front ++ field_item (is_reported reported n) (n == focus) (field_data x) ∷ []) count))))

-- as many items as fields
pub length-items : (reported : Option ℕ) (focus k : ℕ) (fs : List FieldData) → length (items_from reported focus k fs) ≡ length fs
length-items reported focus k [] = refl
length-items reported focus k (f ∷ fs) = ap (λ (n : ℕ). suc n) (length-items reported focus (k + 1) fs)

-- an item has two lines
pub low : (reported : Option ℕ) (focus k : ℕ) (fs : List FieldData) (place : ℕ) → slice_index (heights_of (items_from reported focus k fs)) place ≤ 2
low reported focus k [] place = omega arith
low reported focus k (f ∷ fs) zero = omega arith
low reported focus k (f ∷ fs) (suc place) = low reported focus (k + 1) fs place

first_sum : (reported : Option ℕ) (focus k : ℕ) (fs : List FieldData) (n : ℕ) → n ≤ length fs → sum (take n (heights_of (items_from reported focus k fs))) ≡ 2 * n
first_sum reported focus k fs zero le = refl
first_sum reported focus k [] (suc n) le = absurd (omega arith)
first_sum reported focus k (f ∷ fs) (suc n) le =
    let rest = take n (heights_of (items_from reported focus (k + 1) fs)) in
    omega (arith, sum_by-cons (λ (h : ℕ). h) 2 rest, first_sum reported focus (k + 1) fs n (omega arith))

-- the items from one index to another have two rows each
pub rows_of : (reported : Option ℕ) (focus : ℕ) (fs : List FieldData) (a b : ℕ) → a ≤ b → b ≤ length fs →
    2 * a + total (heights_of (items_from reported focus 0 fs)) a b ≡ 2 * b
rows_of reported focus fs a b le within =
    omega (arith, first_sum reported focus 0 fs a (omega arith), first_sum reported focus 0 fs b within, total-prefix_sum (heights_of (items_from reported focus 0 fs)) a b le)
