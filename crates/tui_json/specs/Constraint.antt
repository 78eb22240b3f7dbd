-- Column widths: a number, or an object with one of several members.
use Rattle.std.specs.Prelude.{ℕ, List, Option, Some, None, option_map, option_and_then, codes}
use Rattle.serde_json.specs.Data.{Data}
use Rattle.serde_json.specs.Find.{as_array, get}
use Rattle.tui_layout.specs.declared.constraint.Constraint.{Constraint}
use Rattle.tui_layout.specs.declared.constraint.Constraint.TheVariants.{Length, Min, Max, Percentage, Fill, Ratio}
use Rattle.tui_json.specs.Faults.{FaultData, WantedData, ◌or◌, fault_of, given_member_fault, no_parts, number, pair_fault, two_values, words}
use Rattle.tui_json.specs.Members.{pair_of}
use Rattle.tui_json.specs.Number.{u16_of, u32_of}

-- a member as its kind if it is there, even as null; otherwise something else
abbrev member_or : {A : Type 0} → (Data → Option A) → List ℕ → Data → Option A → Option A
member_or {A = A} kind name d other = by_member (get name d)
  where
    by_member : Option Data → Option A
    by_member (Some found) = kind found
    by_member None = other

abbrev of_u16 : (ℕ → Constraint) → Data → Option Constraint
of_u16 make d = option_map make (u16_of d)

-- an array of two numbers as a ratio
abbrev pub ratio_of : Data → Option Constraint
ratio_of d = option_map (λ p. Ratio p.0 p.1) (pair_of u32_of u32_of d)

-- the first of these members that is there decides which constraint it is; a number is a length
unfoldable pub constraint_of : Data → Option Constraint
constraint_of d = member_or (of_u16 Length) (codes "length") d (member_or (of_u16 Min) (codes "min") d (member_or (of_u16 Max) (codes "max") d
    (member_or (of_u16 Percentage) (codes "percentage") d (member_or (of_u16 Fill) (codes "fill") d (member_or ratio_of (codes "ratio") d
    (of_u16 Length d))))))

abbrev pub a_constraint : WantedData
a_constraint = words (codes "a whole number from 0 to 65535, or an object with `length`, `min`, `max`, `percentage`, `fill` or `ratio`")

-- a number that is not of its kind
abbrev pub short_fault : Data → Option FaultData
short_fault = fault_of u16_of (number 0 65535) no_parts

abbrev pub long_fault : Data → Option FaultData
long_fault = fault_of u32_of (number 0 4294967295) no_parts

-- a ratio that is not two numbers
abbrev pub ratio_fault : Data → Option FaultData
ratio_fault = fault_of (pair_of u32_of u32_of) two_values (λ d. option_and_then (pair_fault long_fault long_fault) (as_array d))

-- the member that decides, if it is not of its kind
abbrev pub constraint_fault : Data → Option FaultData
constraint_fault d =
    given_member_fault short_fault (codes "length") d
    or given_member_fault short_fault (codes "min") d
    or given_member_fault short_fault (codes "max") d
    or given_member_fault short_fault (codes "percentage") d
    or given_member_fault short_fault (codes "fill") d
    or given_member_fault ratio_fault (codes "ratio") d
