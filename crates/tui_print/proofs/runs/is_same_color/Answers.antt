use Rattle.std.proofs.Common.{◌≡◌, true, subst}
use Rattle.tui_cells.specs.declared.color.Color.{Color}
use Rattle.tui_print.proofs.Equality.{color_eq, color_eq-one, color_eq-self}
use Rattle.tui_print.proofs.runs.is_same_color.Goals as goal

pub returns : goal.returns
returns c =
    let is : c.eq.result ≡ color_eq c.args.a c.args.b = c.eq.ensures in
    rw is (λ yes. color_eq-one c.args.a c.args.b yes, λ e. subst (λ (b : Color). color_eq c.args.a b ≡ true) e (color_eq-self c.args.a))
