-- The keys by their names.
use Rattle.std.specs.Prelude.{[], ◌∷◌, refl}
use Rattle.tui_json.specs.Named.{Names}
use Rattle.tui_pager_lib.specs.Key as key
use Rattle.tui_pager_lib.specs.declared.key.Key.{Key}
use Rattle.tui_pager_lib.specs.declared.key.Key.TheVariants.{Up, Down, PageUp, PageDown, First, Last, LineUp, LineDown, BodyTop, BodyEnd}

-- the names of all keys
abbrev pub keys : Names Key
keys = record {
  name = key.name_of;
  values = Up ∷ Down ∷ PageUp ∷ PageDown ∷ First ∷ Last ∷ LineUp ∷ LineDown ∷ BodyTop ∷ BodyEnd ∷ [];
  found = elim [
    | Up ↦ refl
    | Down ↦ refl
    | PageUp ↦ refl
    | PageDown ↦ refl
    | First ↦ refl
    | Last ↦ refl
    | LineUp ↦ refl
    | LineDown ↦ refl
    | BodyTop ↦ refl
    | BodyEnd ↦ refl
  ];
}
