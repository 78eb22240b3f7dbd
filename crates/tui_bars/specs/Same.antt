-- Laws: bars of a sparkline that `==` calls equal are the same.
use Rattle.std.specs.Prelude.{◌≡◌, ℕ, Bool, true, Option, Some, None, refl}
use Rattle.std.specs.contracts.prelude.OptionPartialEq as options
use denote.Builtin as builtin
use Rattle.std.proofs.Common.{rules}
use Rattle.std.proofs.lemmas.Bool.{and_parts}
use Rattle.std.specs.contracts.prelude.U64PartialEq as prelude
use Rattle.tui_bars.specs.contracts.sparkline_bar.SparklineBarPartialEq as bar
use Rattle.tui_bars.specs.declared.sparkline_bar.SparklineBar.{SparklineBar}
use Rattle.tui_cells.specs.contracts.style.Style as style_type
use Rattle.tui_cells.specs.contracts.style.StylePartialEq as style
use Rattle.tui_cells.specs.declared.style.Style.{Style}
use Rattle.tui_cells.specs.Same.{same_style}

abbrev eq_styles : Option Style → Option Style → Bool
eq_styles a b = (options.TheImpl.ghosts style_type.the_row style.TheImpl.ghosts style.TheImpl.dict).eq a b

same_styles : (a b : Option Style) → eq_styles a b ≡ true → a ≡ b
same_styles None None e = refl
same_styles None (Some y) e = Prim.search (rules, e)
same_styles (Some x) None e = Prim.search (rules, e)
same_styles (Some x) (Some y) e = Prim.search (rules, same_style x y e)

abbrev eq_values : Option ℕ → Option ℕ → Bool
eq_values a b = (options.TheImpl.ghosts builtin.u64 prelude.TheImpl.ghosts prelude.TheImpl.dict).eq a b

same_values : (a b : Option ℕ) → eq_values a b ≡ true → a ≡ b
same_values None None e = refl
same_values None (Some y) e = Prim.search (rules, e)
same_values (Some x) None e = Prim.search (rules, e)
same_values (Some x) (Some y) e = Prim.search (rules, e)

-- bars that `==` calls equal are the same
pub same_bar : (a b : SparklineBar) → bar.TheImpl.ghosts.eq a b ≡ true → a ≡ b
same_bar a b e =
    let both = and_parts (eq_values a.value b.value) _ e in
    Prim.search (rules, same_values a.value b.value both.0, same_styles a.style b.style both.1)
