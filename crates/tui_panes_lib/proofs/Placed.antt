-- The panes of the code are placed part by part.
use mathlib.Core.Former.{Count}
use Rattle.std.proofs.Common.{◌≡◌, ℕ, suc, ◌+◌, ◌<◌, ◌≤◌, List, [], ◌∷◌, ◌++◌, length, get_or, drop, refl, sym, ap, ◌∙◌, subst, arith, Result, Ok, Err, OnOk, Vec, Global}
use Rattle.std.proofs.lemmas.List.{append_assoc, append-nil, drop_more}
use Rattle.std.proofs.lemmas.List.Elements.{All-get_or}
use Rattle.tui_cells.specs.declared.rect.Rect.{Rect}
use Rattle.tui_layout.specs.Columns.{AreInOrder, columns_of}
use Rattle.tui_layout.specs.declared.constraint.Constraint.{Constraint}
use Rattle.tui_layout.specs.declared.direction.Direction.{Direction}
use Rattle.tui_layout.specs.declared.direction.Direction.TheVariants.{Horizontal, Vertical}
use Rattle.tui_layout.specs.declared.flex.Flex.{Flex}
use Rattle.tui_layout.specs.declared.segment.Segment.{Segment}
use Rattle.tui_layout.proofs.Placing.{length-made}
use Rattle.tui_scene.specs.Item.{PlacedData, item_data}
use Rattle.tui_scene.specs.declared.item.Item.{Item}
use Rattle.tui_panes_lib.specs.Place.{split, part, sizes_of, side_of, part_of, place_in, place_parts, origin_of}
use Rattle.tui_panes_lib.specs.Pane.{pane_data, parts_data, parts_of, sizes_data}
use Rattle.tui_panes_lib.specs.declared.pane.Part.{Part}
use Rattle.tui_panes_lib.specs.declared.pane.Pane.{Pane, Leaf, Split, Split', Row_of-Part, end_of-Part, more_of-Part, items-the_row-Part, items_hidden-the_row-Part-0}

parts_row : (n : _) (row : Row_of-Part n) → parts_data row ≡ parts_of (items-the_row-Part n row)
parts_row n end_of-Part = refl
parts_row n (more_of-Part size pane rest) = ap (part size (pane_data pane)) (parts_row _ rest)

abbrev row_of : Pane → (n : Count) × Row_of-Part n
row_of (Split' _ _ _ _ row) = (_, row)
row_of _ = (_, end_of-Part)

pub split_is : (direction : Direction) (spacing : ℕ) (flex : Flex) (parts : Vec Part Global) → pane_data (Split direction spacing flex parts) ≡ split direction spacing flex (parts_of parts.items)
split_is direction spacing flex parts =
    let row = row_of (Split direction spacing flex parts) in
    ap (split direction spacing flex) (parts_row row.0 row.1 ∙ ap parts_of (items_hidden-the_row-Part-0 parts))

pub sizes_are : (ps : List Part) → sizes_of (parts_of ps) ≡ sizes_data ps
sizes_are [] = refl
sizes_are (p ∷ ps) = ap (λ cs. p.size ∷ cs) (sizes_are ps)

length-sizes : (ps : List Part) → length (sizes_data ps) ≡ length ps
length-sizes [] = refl
length-sizes (p ∷ ps) = ap suc (length-sizes ps)

length-columns : (size spacing : ℕ) (cs : List Constraint) (flex : Flex) → length (columns_of size spacing cs flex) ≡ length cs
unfolding columns_of
length-columns size spacing cs flex = length-made _ cs

-- there are as many columns as parts
pub same_length : (size spacing : ℕ) (flex : Flex) (sizes : List Constraint) (columns : List Segment) (ps qs : List Part) → sizes ≡ sizes_data ps → columns ≡ columns_of size spacing sizes flex → qs ≡ ps
    → 0 + length qs ≡ length columns
same_length size spacing flex sizes columns ps qs e f g =
    omega (arith, ap length f, length-columns size spacing sizes flex, ap length e, length-sizes ps, ap length g)

-- a column is inside its side
pub column_inside : (direction : Direction) (area : Rect) (spacing side i : ℕ) (columns : List Segment) (column : Segment) → AreInOrder side spacing columns → i < length columns
    → column ≡ get_or columns i column → column.start + column.width ≤ side
column_inside direction area spacing side i columns column order h e =
    subst (λ (s : Segment). s.start + s.width ≤ side) (sym e) (All-get_or (λ (s : Segment). s.start + s.width ≤ side) columns i column h order.inside)

pub near_fits : (direction : Direction) (area : Rect) (side : ℕ) (column : Segment) → side ≡ side_of direction area → column.start + column.width ≤ side
    → area.x + area.width ≤ 65535 → area.y + area.height ≤ 65535 → origin_of direction area + column.start < 65536
near_fits Horizontal area side column e h a b = omega arith
near_fits Vertical area side column e h a b = omega arith

-- a leaf
pub leaf_placed : {T E : Type 0} (result : Result T E) (area : Rect) (pane : Pane) (item : Item) (old new : List PlacedData) → pane ≡ Leaf item
    → OnOk result (new ≡ old ++ record { area = area; item = item_data item } ∷ []) → OnOk result (new ≡ old ++ place_in area (pane_data pane))
unfolding place_in
leaf_placed (Ok x) area pane item old new is e = e ∙ ap (λ p. old ++ place_in area (pane_data p)) (sym is)
leaf_placed (Err x) area pane item old new is e = tt

-- one more part
pub part_placed : (direction : Direction) (area r : Rect) (at : ℕ) (columns : List Segment) (column : Segment) (p : Part) (items rest : List Part) (scene next goal : List PlacedData)
    → at < length columns → column ≡ get_or columns at column → items ≡ p ∷ rest → r ≡ part_of direction area column → next ≡ scene ++ place_in r (pane_data p.pane)
    → scene ++ place_parts direction area (drop at columns) (parts_of items) ≡ goal → next ++ place_parts direction area (drop (at + 1) columns) (parts_of rest) ≡ goal
unfolding place_parts
part_placed direction area r at columns column p items rest scene next goal h e f g n so_far =
    let there : place_parts direction area (drop at columns) (parts_of items) ≡ place_in r (pane_data p.pane) ++ place_parts direction area (drop (at + 1) columns) (parts_of rest) =
    ap (λ ps. place_parts direction area (drop at columns) (parts_of ps)) f
    ∙ ap (λ cs. place_parts direction area cs (parts_of (p ∷ rest))) (drop_more columns at column h)
    ∙ ap (λ (c : Segment). place_in (part_of direction area c) (pane_data p.pane) ++ place_parts direction area (drop (at + 1) columns) (parts_of rest)) (sym e)
    ∙ ap (λ q. place_in q (pane_data p.pane) ++ place_parts direction area (drop (at + 1) columns) (parts_of rest)) (sym g) in
    ap (λ ps. ps ++ place_parts direction area (drop (at + 1) columns) (parts_of rest)) n
    ∙ append_assoc scene (place_in r (pane_data p.pane)) (place_parts direction area (drop (at + 1) columns) (parts_of rest))
    ∙ ap (λ ps. scene ++ ps) (sym there) ∙ so_far

none_left : (ps : List Part) → length ps ≡ 0 → ps ≡ []
none_left [] e = refl
none_left (p ∷ ps) e = absurd (omega arith)

-- all parts are placed
pub pane_placed : (direction : Direction) (area : Rect) (spacing at side : ℕ) (flex : Flex) (sizes : List Constraint) (columns : List Segment) (pane : Pane) (parts : Vec Part Global) (items first : List Part) (scene old : List PlacedData)
    → pane ≡ Split direction spacing flex parts → first ≡ parts.items → sizes ≡ sizes_data parts.items → side ≡ side_of direction area → columns ≡ columns_of side spacing sizes flex → length items ≡ 0
    → scene ++ place_parts direction area (drop at columns) (parts_of items) ≡ old ++ place_parts direction area columns (parts_of first) → scene ≡ old ++ place_in area (pane_data pane)
unfolding place_in place_parts
pane_placed direction area spacing at side flex sizes columns pane parts items first scene old is f s d c none so_far =
    sym (append-nil scene)
    ∙ ap (λ ps. scene ++ place_parts direction area (drop at columns) (parts_of ps)) (sym (none_left items none))
    ∙ so_far
    ∙ ap (λ ps. old ++ place_parts direction area columns (parts_of ps)) f
    ∙ ap (λ cs. old ++ place_parts direction area cs (parts_of parts.items)) (c ∙ ap (λ n. columns_of n spacing sizes flex) d ∙ ap (λ ss. columns_of (side_of direction area) spacing ss flex) (s ∙ sym (sizes_are parts.items)))
    ∙ ap (λ p. old ++ place_in area p) (sym (split_is direction spacing flex parts) ∙ ap pane_data (sym is))
