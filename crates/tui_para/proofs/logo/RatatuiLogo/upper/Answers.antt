use Rattle.std.proofs.Common.{ap, sym}
use Rattle.tui_para.specs.Logo.{upper_line}
use Rattle.tui_para.specs.declared.size.Size.TheVariants.{Tiny, Small}
use Rattle.tui_para.proofs.LogoAllocationFree.{upper_allocation_free}
use Rattle.tui_para.proofs.logo.RatatuiLogo.upper.Goals as goal

pub returns-in-Tiny-clause-is : goal.returns-in-Tiny-clause-is
unfolding lib.Utf8.encode
returns-in-Tiny-clause-is c = ap upper_line (sym c.in-Tiny.is)

pub returns-in-Tiny-clause-allocation_free : goal.returns-in-Tiny-clause-allocation_free
unfolding lib.Utf8.encode
returns-in-Tiny-clause-allocation_free c = upper_allocation_free Tiny

pub returns-in-Small-clause-is : goal.returns-in-Small-clause-is
unfolding lib.Utf8.encode
returns-in-Small-clause-is c = ap upper_line (sym c.in-Small.is)

pub returns-in-Small-clause-allocation_free : goal.returns-in-Small-clause-allocation_free
unfolding lib.Utf8.encode
returns-in-Small-clause-allocation_free c = upper_allocation_free Small
