use Rattle.std.proofs.Common.{subst, arith}
use Rattle.std.specs.Option.{option_copied}
use Rattle.tui_bars.proofs.AllocationFreeNumbers.{decimal_allocation_free}
use Rattle.tui_bars.specs.AllocationFreeCharts.{IsAllocationFreeValue}
use Rattle.tui_bars.proofs.bar.Bar.value_text.Goals as goal

pub returns-in-Some-clause-allocation_free : goal.returns-in-Some-clause-allocation_free
returns-in-Some-clause-allocation_free c = λ direction allocation_free. subst (λ o. IsAllocationFreeValue direction (option_copied o)) c.in-Some.is allocation_free

pub returns-in-None-clause-allocation_free : goal.returns-in-None-clause-allocation_free
returns-in-None-clause-allocation_free c = λ direction allocation_free. rw c.format.ensures.text (decimal_allocation_free direction c.args.self.now.value (omega arith))
