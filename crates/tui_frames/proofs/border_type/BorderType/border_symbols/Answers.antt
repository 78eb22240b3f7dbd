use Rattle.std.proofs.Common.{ap, sym}
use Rattle.tui_frames.specs.BorderType.{symbols_of}
use Rattle.tui_frames.proofs.border_type.BorderType.border_symbols.Goals as goal

pub returns-in-Plain : goal.returns-in-Plain
unfolding lib.Utf8.encode
returns-in-Plain c = ap symbols_of (sym c.in-Plain.is)

pub returns-in-Rounded : goal.returns-in-Rounded
unfolding lib.Utf8.encode
returns-in-Rounded c = ap symbols_of (sym c.in-Rounded.is)

pub returns-in-Double : goal.returns-in-Double
unfolding lib.Utf8.encode
returns-in-Double c = ap symbols_of (sym c.in-Double.is)

pub returns-in-Thick : goal.returns-in-Thick
unfolding lib.Utf8.encode
returns-in-Thick c = ap symbols_of (sym c.in-Thick.is)

pub returns-in-LightDoubleDashed : goal.returns-in-LightDoubleDashed
unfolding lib.Utf8.encode
returns-in-LightDoubleDashed c = ap symbols_of (sym c.in-LightDoubleDashed.is)

pub returns-in-HeavyDoubleDashed : goal.returns-in-HeavyDoubleDashed
unfolding lib.Utf8.encode
returns-in-HeavyDoubleDashed c = ap symbols_of (sym c.in-HeavyDoubleDashed.is)

pub returns-in-LightTripleDashed : goal.returns-in-LightTripleDashed
unfolding lib.Utf8.encode
returns-in-LightTripleDashed c = ap symbols_of (sym c.in-LightTripleDashed.is)

pub returns-in-HeavyTripleDashed : goal.returns-in-HeavyTripleDashed
unfolding lib.Utf8.encode
returns-in-HeavyTripleDashed c = ap symbols_of (sym c.in-HeavyTripleDashed.is)

pub returns-in-LightQuadrupleDashed : goal.returns-in-LightQuadrupleDashed
unfolding lib.Utf8.encode
returns-in-LightQuadrupleDashed c = ap symbols_of (sym c.in-LightQuadrupleDashed.is)

pub returns-in-HeavyQuadrupleDashed : goal.returns-in-HeavyQuadrupleDashed
unfolding lib.Utf8.encode
returns-in-HeavyQuadrupleDashed c = ap symbols_of (sym c.in-HeavyQuadrupleDashed.is)

pub returns-in-QuadrantInside : goal.returns-in-QuadrantInside
unfolding lib.Utf8.encode
returns-in-QuadrantInside c = ap symbols_of (sym c.in-QuadrantInside.is)

pub returns-in-QuadrantOutside : goal.returns-in-QuadrantOutside
unfolding lib.Utf8.encode
returns-in-QuadrantOutside c = ap symbols_of (sym c.in-QuadrantOutside.is)
