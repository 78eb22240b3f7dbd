-- Laws: colours, attributes and styles that `==` calls equal are the same. Colours and attributes are equal to
-- themselves.
use Rattle.std.specs.Prelude.{◌≡◌, ℕ, ◌==◌, Bool, true, Option, Some, None, refl}
use Rattle.std.specs.contracts.prelude.OptionPartialEq as options
use Rattle.std.proofs.Common.{arith, rules}
use Rattle.std.proofs.lemmas.Bool.{and_from, and_parts}
use Rattle.std.proofs.lemmas.Bool.Decides.{nat_tests}
use Rattle.tui_cells.specs.contracts.attributes.AttributesPartialEq as attributes
use Rattle.tui_cells.specs.contracts.color.Color as color_type
use Rattle.tui_cells.specs.contracts.color.ColorPartialEq as color
use Rattle.tui_cells.specs.contracts.style.StylePartialEq as style
use Rattle.tui_cells.specs.declared.attributes.Attributes.{Attributes}
use Rattle.tui_cells.specs.declared.color.Color.{Color}
use Rattle.tui_cells.specs.declared.color.Color.TheVariants as colors
use Rattle.tui_cells.specs.declared.style.Style.{Style}

-- colours that `==` calls equal are the same
pub same_color : (a b : Color) → color.TheImpl.ghosts.eq a b ≡ true → a ≡ b
same_color a b e = Prim.search rules

abbrev eq_colors : Option Color → Option Color → Bool
eq_colors a b = (options.TheImpl.ghosts color_type.the_row color.TheImpl.ghosts color.TheImpl.dict).eq a b

same_colors : (a b : Option Color) → eq_colors a b ≡ true → a ≡ b
same_colors None None e = refl
same_colors None (Some y) e = Prim.search (rules, e)
same_colors (Some x) None e = Prim.search (rules, e)
same_colors (Some x) (Some y) e = Prim.search (rules, same_color x y e)

-- so are attributes
pub same_attributes : (a b : Attributes) → attributes.TheImpl.ghosts.eq a b ≡ true → a ≡ b
same_attributes a b e =
    let first = and_parts (color.TheImpl.ghosts.eq a.fg b.fg) _ e in
    let second = and_parts (color.TheImpl.ghosts.eq a.bg b.bg) _ first.1 in
    Prim.search (rules, same_color a.fg b.fg first.0, same_color a.bg b.bg second.0, second.1)

-- so are styles
pub same_style : (a b : Style) → style.TheImpl.ghosts.eq a b ≡ true → a ≡ b
same_style a b e =
    let first = and_parts (eq_colors a.fg b.fg) _ e in
    let second = and_parts (eq_colors a.bg b.bg) _ first.1 in
    Prim.search (rules, same_colors a.fg b.fg first.0, same_colors a.bg b.bg second.0, second.1)

own_number : (a : ℕ) → (a == a) ≡ true
own_number a = Prim.grind (arith, nat_tests)

color_self : (a : Color) → color.TheImpl.ghosts.eq a a ≡ true
color_self (colors.Rgb r g b) = and_from _ _ (own_number r) (and_from _ _ (own_number g) (own_number b))
color_self (colors.Indexed n) = own_number n
color_self c = refl

-- attributes are equal to themselves
pub attributes_self : (a : Attributes) → attributes.TheImpl.ghosts.eq a a ≡ true
attributes_self a = and_from _ _ (color_self a.fg) (and_from _ _ (color_self a.bg) (own_number a.modifier.bits))
