-- How deep a pane is, part by part.
use Rattle.std.proofs.Common.{◌≡◌, ℕ, ◌+◌, ◌-◌, ◌<◌, ◌≤◌, max, Bool, true, false, ◌&&◌, List, ◌∷◌, length, get_or, drop, refl, sym, ap, ◌∙◌, arith, Vec, Global}
use Rattle.std.specs.Prelude.{nat_le}
use Rattle.std.proofs.lemmas.List.{drop_all, drop_more}
use Rattle.std.proofs.lemmas.Bool.Decides.{nat_tests}
use Rattle.tui_layout.specs.declared.direction.Direction.{Direction}
use Rattle.tui_layout.specs.declared.flex.Flex.{Flex}
use Rattle.tui_scene.specs.declared.item.Item.{Item}
use Rattle.tui_panes_lib.specs.Levels.{levels, parts_levels}
use Rattle.tui_panes_lib.specs.Pane.{pane_data, parts_of}
use Rattle.tui_panes_lib.specs.Place.{PaneData, leaf, split}
use Rattle.tui_panes_lib.specs.declared.pane.Pane.{Pane, Leaf, Split}
use Rattle.tui_panes_lib.specs.declared.pane.Part.{Part}
use Rattle.tui_panes_lib.proofs.Placed.{split_is}

max_within : (a b limit : ℕ) → nat_le (max a b) limit ≡ (nat_le a limit && nat_le b limit)
max_within a b limit = grind (arith, nat_tests)

one_more : (n limit : ℕ) → 0 < limit → nat_le n (limit - 1) ≡ nat_le (n + 1) limit
one_more n limit some = grind (arith, nat_tests)

past : (n : ℕ) → nat_le (n + 1) 0 ≡ false
past n = grind (arith, nat_tests)

some_within : (limit : ℕ) → 0 < limit → nat_le 1 limit ≡ true
some_within limit some = grind (arith, nat_tests)

nothing_within : (limit : ℕ) → nat_le 0 limit ≡ true
nothing_within limit = grind (arith, nat_tests)

-- each pane has at least one level
pub none_within : (pane : PaneData) → false ≡ nat_le (levels pane) 0
unfolding levels parts_levels
none_within (leaf item) = refl
none_within (split direction spacing flex parts) = sym (past (parts_levels parts))

pub leaf_within : (pane : Pane) (item : Item) (limit : ℕ) → pane ≡ Leaf item → 0 < limit → true ≡ nat_le (levels (pane_data pane)) limit
unfolding levels parts_levels
leaf_within pane item limit is some = sym (ap (λ p. nat_le (levels (pane_data p)) limit) is ∙ some_within limit some)

pub split_within : (pane : Pane) (direction : Direction) (spacing : ℕ) (flex : Flex) (parts : Vec Part Global) (limit : ℕ) (result : Bool) →
    pane ≡ Split direction spacing flex parts → 0 < limit → result ≡ nat_le (parts_levels (parts_of parts.items)) (limit - 1) →
    result ≡ nat_le (levels (pane_data pane)) limit
unfolding levels parts_levels
split_within pane direction spacing flex parts limit result is some e =
    e ∙ one_more (parts_levels (parts_of parts.items)) limit some
    ∙ ap (λ p. nat_le (levels p) limit) (sym (ap pane_data is ∙ split_is direction spacing flex parts))

-- the first of the remaining parts, and the parts after it
part_within : (parts : List Part) (i limit : ℕ) (p : Part) → i < length parts → p ≡ get_or parts i p →
    nat_le (parts_levels (parts_of (drop i parts))) limit
    ≡ (nat_le (levels (pane_data p.pane)) limit && nat_le (parts_levels (parts_of (drop (i + 1) parts))) limit)
unfolding levels parts_levels
part_within parts i limit p lt e =
    ap (λ ps. nat_le (parts_levels (parts_of ps)) limit) (drop_more parts i p lt ∙ ap (λ q. q ∷ drop (i + 1) parts) (sym e))
    ∙ max_within (levels (pane_data p.pane)) (parts_levels (parts_of (drop (i + 1) parts))) limit

pub within_more : (parts : List Part) (i limit : ℕ) (p : Part) (all passes : Bool) → i < length parts → p ≡ get_or parts i p →
    all ≡ nat_le (parts_levels (parts_of (drop i parts))) limit → passes ≡ nat_le (levels (pane_data p.pane)) limit → passes ≡ true →
    all ≡ nat_le (parts_levels (parts_of (drop (i + 1) parts))) limit
within_more parts i limit p all passes lt e so_far is yes_passes =
    so_far ∙ part_within parts i limit p lt e
    ∙ ap (λ b. b && nat_le (parts_levels (parts_of (drop (i + 1) parts))) limit) (sym is ∙ yes_passes)

pub too_deep : (parts : List Part) (i limit : ℕ) (p : Part) (all passes : Bool) → i < length parts → p ≡ get_or parts i p →
    all ≡ nat_le (parts_levels (parts_of (drop i parts))) limit → passes ≡ nat_le (levels (pane_data p.pane)) limit → passes ≡ false → false ≡ all
too_deep parts i limit p all passes lt e so_far is fails =
    sym (so_far ∙ part_within parts i limit p lt e
    ∙ ap (λ b. b && nat_le (parts_levels (parts_of (drop (i + 1) parts))) limit) (sym is ∙ fails))

pub all_within : (parts : List Part) (i limit : ℕ) (all : Bool) → length parts ≤ i → all ≡ nat_le (parts_levels (parts_of (drop i parts))) limit → true ≡ all
unfolding parts_levels
all_within parts i limit all le so_far =
    sym (so_far ∙ ap (λ ps. nat_le (parts_levels (parts_of ps)) limit) (drop_all i parts le) ∙ nothing_within limit)
