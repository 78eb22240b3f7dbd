-- What is left of a list after its first line.
use Rattle.std.specs.Prelude.{◌≡◌, ℕ, Bool, false, List, [], ◌∷◌}
use Rattle.tui_para.specs.Places.{wrap_kept}
use Rattle.tui_para.specs.Rule.{Rule}
use Rattle.tui_clusters.specs.Blank.{is_blank_text}
use Rattle.tui_clusters.specs.Width.{width_of}

-- the wrapping rule for clusters, if lines break at whitespace only
abbrev pub cluster_rule : ℕ → Bool → Rule (List ℕ)
cluster_rule w trim = record { blank = is_blank_text; split = λ _. false; size = width_of; width = w; trim = trim }

-- the lines of what is left after a line: none if nothing is left
abbrev pub lines_after : {A : Type 0} → Rule A → List A → List (List A)
lines_after rule [] = []
lines_after rule (x ∷ xs) = wrap_kept rule (x ∷ xs)

-- the lines are `first`, then those of what is left after it
pub record FirstThen {A : Type 0} (rule : Rule A) (xs rest : List A) : Type 0 where
  pub first : List A
  pub lines_are : wrap_kept rule xs ≡ first ∷ lines_after rule rest
