-- Border symbols joined with those that are already there.
use Rattle.std.specs.Prelude.{◌≡◌, ◌⊎◌, true, false, ℕ, List, Option, None, Some, IsSome, unwrap_or}
use Rattle.std.specs.Option.{option_or}
use Rattle.tui_cells.specs.declared.arms.Arms.{Arms}
use Rattle.tui_cells.specs.declared.merge_strategy.MergeStrategy.{MergeStrategy}
use Rattle.tui_cells.specs.declared.merge_strategy.MergeStrategy.TheVariants.{Replace, Exact, Fuzzy}
use Rattle.tui_cells.specs.Arms.{all_agree, has_arm, has_double, joined_arms, lightened_arms}
use Rattle.tui_cells.specs.BoxDrawing.{known_arms, plain_arms, plain_with}

-- the joined arms, if both have arms
abbrev pub both_arms : Option Arms → Option Arms → Option Arms
both_arms (Some old) (Some new) = Some (joined_arms old new)
both_arms None new = None
both_arms (Some old) None = None

-- the plain symbol with the arms, if there are arms and such a symbol; else the new symbol
abbrev pub exact_for : Option Arms → List ℕ → List ℕ
exact_for (Some arms) new = unwrap_or (plain_with arms) new
exact_for None new = new

-- likewise, but if there is no such symbol, the plain symbol with light arms in place of double ones
abbrev pub fuzzy_for : Option Arms → List ℕ → List ℕ
fuzzy_for (Some arms) new = unwrap_or (option_or (plain_with arms) (plain_with (lightened_arms arms))) new
fuzzy_for None new = new

-- only plain symbols are joined
unfoldable pub exact : List ℕ → List ℕ → List ℕ
exact old new = exact_for (both_arms (plain_arms old) (plain_arms new)) new

-- dashed and rounded symbols are joined too
unfoldable pub fuzzy : List ℕ → List ℕ → List ℕ
fuzzy old new = fuzzy_for (both_arms (known_arms old) (known_arms new)) new

-- an old and a new symbol joined
abbrev pub merged : MergeStrategy → List ℕ → List ℕ → List ℕ
merged Replace old new = new
merged Exact old new = exact old new
merged Fuzzy old new = fuzzy old new

-- each set of light and heavy arms has a plain symbol
abbrev pub EveryJoinExists : Type 0
EveryJoinExists = (a : Arms) → has_arm a ≡ true → has_double a ≡ false → IsSome (plain_with a)

-- so any two symbols that have arms join to a plain one, once double arms become light ones
abbrev pub FuzzyAlwaysJoins : Type 0
FuzzyAlwaysJoins = (old new : List ℕ) (a b : Arms) → known_arms old ≡ Some a → known_arms new ≡ Some b →
    IsSome (plain_with (lightened_arms (joined_arms a b)))

-- if the old or the new symbol has no arms, the result is the new symbol
abbrev pub UnknownGivesNew : Type 0
UnknownGivesNew = (strategy : MergeStrategy) (old new : List ℕ) → (known_arms old ≡ None) ⊎ (known_arms new ≡ None) →
    merged strategy old new ≡ new

-- both Exact and Fuzzy join an old and a new symbol to this one
abbrev pub JoinTo : List ℕ → List ℕ → List ℕ → Type 0
JoinTo old new symbol = (merged Exact old new ≡ symbol) × (merged Fuzzy old new ≡ symbol)

-- two plain symbols give the plain symbol that has the joined arms, if there is one
abbrev pub PlainSymbolsJoin : Type 0
PlainSymbolsJoin = (old new symbol : List ℕ) (a b : Arms) → plain_arms old ≡ Some a → plain_arms new ≡ Some b →
    plain_with (joined_arms a b) ≡ Some symbol → JoinTo old new symbol

-- in the other order they give the same symbol, if no direction has two different arms
abbrev pub EitherOrderJoins : Type 0
EitherOrderJoins = (old new symbol : List ℕ) (a b : Arms) → plain_arms old ≡ Some a → plain_arms new ≡ Some b →
    plain_with (joined_arms a b) ≡ Some symbol → all_agree a b ≡ true → JoinTo new old symbol
