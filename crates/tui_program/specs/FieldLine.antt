-- The lines that reject a field.
use Rattle.std.specs.Prelude.{ℕ, List, ◌++◌, Option, Some, None, codes, decimal}

-- the line for a field of the input itself, or of its item with a number
unfoldable pub refused_field : List ℕ → Option ℕ → List ℕ
refused_field name None = codes "refused: field " ++ (name ++ codes "\n")
refused_field name (Some i) = codes "refused: field " ++ (name ++ (codes " at " ++ (decimal i ++ codes "\n")))

-- the line for a field of the scene, or of the part of it with this name and number
unfoldable pub refused_in_scene : List ℕ → Option ℕ → List ℕ → List ℕ
refused_in_scene part None name = codes "refused: scene field " ++ (name ++ codes "\n")
refused_in_scene part (Some i) name = codes "refused: " ++ (part ++ (codes " " ++ (decimal i ++ (codes " field " ++ (name ++ codes "\n")))))
