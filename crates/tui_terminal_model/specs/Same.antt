-- Laws: outputs of a terminal that `==` calls equal are the same.
use Rattle.std.specs.Prelude.{◌≡◌, true}
use Rattle.std.proofs.Common.{rules}
use Rattle.std.proofs.lemmas.Bool.{and_parts}
use Rattle.tui_terminal_model.specs.contracts.depth.DepthPartialEq as depth
use Rattle.tui_terminal_model.specs.contracts.output.OutputPartialEq as output
use Rattle.tui_terminal_model.specs.contracts.widths.KnownWidthsPartialEq as widths
use Rattle.tui_terminal_model.specs.declared.depth.Depth.{Depth}
use Rattle.tui_terminal_model.specs.declared.output.Output.{Output}
use Rattle.tui_terminal_model.specs.declared.widths.KnownWidths.{KnownWidths}

same_depth : (a b : Depth) → depth.TheImpl.ghosts.eq a b ≡ true → a ≡ b
same_depth a b e = Prim.search rules

same_widths : (a b : KnownWidths) → widths.TheImpl.ghosts.eq a b ≡ true → a ≡ b
same_widths a b e = Prim.search rules

-- outputs that `==` calls equal are the same
pub same_output : (a b : Output) → output.TheImpl.ghosts.eq a b ≡ true → a ≡ b
same_output a b e =
    let first = and_parts (depth.TheImpl.ghosts.eq a.depth b.depth) _ e in
    let second = and_parts (widths.TheImpl.ghosts.eq a.widths b.widths) _ first.1 in
    Prim.search (rules, same_depth a.depth b.depth first.0, same_widths a.widths b.widths second.0, second.1)
