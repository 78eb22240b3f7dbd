-- Which names are listed, and how they are displayed.
use Rattle.std.proofs.Common.{◌≡◌, ℕ, ◌+◌, Bool, true, false, ◌||◌, cond, List, [], ◌∷◌, ◌++◌, ◌⊎◌, inl, inr, Option, Some, option_map, All, Decides, drop, length, map, slice_get, string_bytes, unwrap_or, refl, sym, ap, ap₂, ◌∙◌, subst, arith}
use Rattle.std.proofs.lemmas.Bool.{false≢true}
use Rattle.std.proofs.lemmas.Bool.Decides.{Decides-eqb}
use Rattle.std.proofs.lemmas.List.{append-nil, map-append, map-id}
use Rattle.std.proofs.lemmas.List.Elements.{All-push}
use Rattle.std.proofs.lemmas.List.FromFn.{filter_of_map_range_with_len_more}
use Rattle.std.proofs.lemmas.Slice.Eq.{starts_is}
use Rattle.std.proofs.lemmas.Str.{encodes-append}
use Rattle.std.specs.Prelude.{nat_eq}
use Rattle.std.specs.Char.{encode_utf8}
use Rattle.std.specs.List.{filter, range_with_len, starts_with}
use Rattle.std.specs.Str.{encode_utf8_all}
use Rattle.std.specs.Str.Iter.{HasSubslice}
use Rattle.tui_files_lib.specs.Naming.{label_of, shown_char}
use Rattle.tui_files_lib.specs.Rows.{contains_filter, is_wanted, is_wanted_at, row_label, row_place}
use Rattle.tui_files_lib.specs.declared.folders.Name.{Name}
use Rattle.tui_files_lib.specs.declared.rows.NameRow.{NameRow}

-- ---- a displayed text, one character longer
pub shown_more : (cs : List ℕ) (c d : ℕ) (before after : List ℕ) → before ≡ encode_utf8_all (map shown_char cs) → d ≡ shown_char c →
    after ≡ before ++ encode_utf8 d → after ≡ encode_utf8_all (map shown_char (cs ++ c ∷ []))
shown_more cs c d before after so_far shown longer =
    let split = ap encode_utf8_all (map-append shown_char cs (c ∷ [])) ∙ encodes-append (map shown_char cs) (shown_char c ∷ []) in
    let last = ap (λ (bs : List ℕ). encode_utf8_all (map shown_char cs) ++ bs) (append-nil (encode_utf8 (shown_char c))) in
    longer ∙ ap₂ (λ (bs : List ℕ) (e : ℕ). bs ++ encode_utf8 e) so_far shown ∙ sym (split ∙ last)

-- ---- a text that contains another one
Begins : List ℕ → List ℕ → Type 0
Begins text filter_text = (rest : List ℕ) × (text ≡ filter_text ++ rest)

begins_decides : (text filter_text : List ℕ) → Decides (starts_with nat_eq text filter_text) (Begins text filter_text)
unfolding Begins
begins_decides text filter_text =
    let reported = starts_is Decides-eqb text filter_text (starts_with nat_eq text filter_text) refl in
    (λ holds. (drop (length filter_text) text, reported.0 holds), λ begins. reported.1 begins.0 begins.1)

or_decides : (p q : Bool) (P Q R : Type 0) → Decides p P → Decides q Q → (P → R) → (Q → R) → (R → P ⊎ Q) → Decides (p || q) R
or_decides true q P Q R left right one other back = (λ _. one (left.0 refl), λ _. refl)
or_decides false q P Q R left right one other back =
    (λ holds. other (right.0 holds), λ r. elim (back r) [ inl x ↦ absurd (false≢true (left.1 x)) | inr y ↦ right.1 y ])

first_or_later : (c : ℕ) (text filter_text before rest : List ℕ) → c ∷ text ≡ before ++ (filter_text ++ rest) → Begins (c ∷ text) filter_text ⊎ HasSubslice text filter_text
unfolding Begins
first_or_later c text filter_text [] rest e = inl (rest, e)
first_or_later c text filter_text (d ∷ before) rest e = inr (before, rest, ap (drop 1) e)

of_none : (filter_text before rest : List ℕ) → [] ≡ before ++ (filter_text ++ rest) → Begins [] filter_text
unfolding Begins
of_none filter_text [] rest e = (rest, e)
of_none filter_text (d ∷ before) rest e = absurd cc

pub filter_decides : (filter_text text : List ℕ) → Decides (contains_filter filter_text text) (HasSubslice text filter_text)
unfolding Begins
filter_decides filter_text [] =
    let reported = begins_decides [] filter_text in
    (λ holds. ([], (reported.0 holds).0, (reported.0 holds).1), λ has. reported.1 (of_none filter_text has.0 has.1 has.2))
filter_decides filter_text (c ∷ text) = or_decides (starts_with nat_eq (c ∷ text) filter_text) (contains_filter filter_text text) (Begins (c ∷ text) filter_text) (HasSubslice text filter_text)
    (HasSubslice (c ∷ text) filter_text) (begins_decides (c ∷ text) filter_text) (filter_decides filter_text text) (λ begins. ([], begins.0, begins.1))
    (λ has. (c ∷ has.0, has.1, ap (λ (t : List ℕ). c ∷ t) has.2)) (λ has. first_or_later c text filter_text has.0 has.1 has.2)

-- ---- the rows of the names before an index, and of the name at it
range_more : (p : ℕ → Bool) (n : ℕ) → filter p (range_with_len 0 (n + 1)) ≡ filter p (range_with_len 0 n) ++ cond (p n) (n ∷ []) []
range_more p n =
    sym (ap (filter p) (map-id (range_with_len 0 (n + 1)))) ∙ filter_of_map_range_with_len_more p (λ (k : ℕ). k) 0 n n (omega arith)
    ∙ ap (λ (ns : List ℕ). filter p ns ++ cond (p n) (n ∷ []) []) (map-id (range_with_len 0 n))

wanted_is : (hidden : Bool) (filter_text : List ℕ) (names : List Name) (place : ℕ) (name : Name) (takes answer : Bool) → slice_get names place ≡ Some name →
    takes ≡ is_wanted hidden filter_text (string_bytes name.text) → takes ≡ answer → is_wanted_at hidden filter_text names place ≡ answer
wanted_is hidden filter_text names place name takes answer at takes_is takes_so =
    ap (λ (o : Option Name). unwrap_or (option_map (λ (n : Name). is_wanted hidden filter_text (string_bytes n.text)) o) false) at ∙ sym takes_is ∙ takes_so

-- it passes the filter
pub places_with : (hidden : Bool) (filter_text : List ℕ) (names : List Name) (place : ℕ) (name : Name) (takes : Bool) (rows after : List NameRow) (row : NameRow) →
    slice_get names place ≡ Some name → takes ≡ is_wanted hidden filter_text (string_bytes name.text) → takes ≡ true →
    map row_place rows ≡ filter (is_wanted_at hidden filter_text names) (range_with_len 0 place) → row.place ≡ place → after ≡ rows ++ row ∷ [] →
    map row_place after ≡ filter (is_wanted_at hidden filter_text names) (range_with_len 0 (place + 1))
places_with hidden filter_text names place name takes rows after row at takes_is takes_it so_far here longer =
    let test = is_wanted_at hidden filter_text names in
    let wanted = wanted_is hidden filter_text names place name takes true at takes_is takes_it in
    let filtered_is = ap (λ (b : Bool). filter test (range_with_len 0 place) ++ cond b (place ∷ []) []) wanted in
    ap (map row_place) longer ∙ map-append row_place rows (row ∷ []) ∙ ap₂ (λ (ps : List ℕ) (p : ℕ). ps ++ p ∷ []) so_far here ∙ sym (range_more test place ∙ filtered_is)

pub labels_with : (names : List Name) (place : ℕ) (name : Name) (rows after : List NameRow) (row : NameRow) → slice_get names place ≡ Some name →
    All (λ (r : NameRow). option_map label_of (slice_get names r.place) ≡ Some (row_label r)) rows → row.place ≡ place → row_label row ≡ label_of name →
    after ≡ rows ++ row ∷ [] → All (λ (r : NameRow). option_map label_of (slice_get names r.place) ≡ Some (row_label r)) after
labels_with names place name rows after row at so_far here label longer =
    let shown = ap (λ (p : ℕ). option_map label_of (slice_get names p)) here ∙ ap (option_map label_of) at ∙ ap Some (sym label) in
    subst (λ (rs : List NameRow). All (λ (r : NameRow). option_map label_of (slice_get names r.place) ≡ Some (row_label r)) rs) (sym longer)
    (All-push (λ (r : NameRow). option_map label_of (slice_get names r.place) ≡ Some (row_label r)) rows row so_far shown)

-- it does not
pub places_without : (hidden : Bool) (filter_text : List ℕ) (names : List Name) (place : ℕ) (name : Name) (takes : Bool) (rows : List NameRow) →
    slice_get names place ≡ Some name → takes ≡ is_wanted hidden filter_text (string_bytes name.text) → takes ≡ false →
    map row_place rows ≡ filter (is_wanted_at hidden filter_text names) (range_with_len 0 place) →
    map row_place rows ≡ filter (is_wanted_at hidden filter_text names) (range_with_len 0 (place + 1))
places_without hidden filter_text names place name takes rows at takes_is leaves so_far =
    let test = is_wanted_at hidden filter_text names in
    let wanted = wanted_is hidden filter_text names place name takes false at takes_is leaves in
    let filtered_is = ap (λ (b : Bool). filter test (range_with_len 0 place) ++ cond b (place ∷ []) []) wanted in
    so_far ∙ sym (range_more test place ∙ filtered_is ∙ append-nil (filter test (range_with_len 0 place)))
