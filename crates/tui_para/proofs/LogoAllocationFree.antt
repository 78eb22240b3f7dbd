-- The graphemes of the logo fit in their cells without an allocation.
use Rattle.std.proofs.Common.{◌≡◌, Bool, true, refl, ℕ, List, [], ◌∷◌, All}
use Rattle.std.specs.Prelude.{nat_le, length}
use Rattle.std.specs.List.{list_all}
use Rattle.std.proofs.lemmas.Bool.{and_parts, leb-true}
use Rattle.std.proofs.lemmas.List.Elements.{All-cons, All-nil}
use Rattle.tui_cells.specs.Cell.{IsAllocationFree}
use Rattle.tui_clusters.specs.Shown.{clusters}
use Rattle.tui_text.specs.Line.{raw_line}
use Rattle.tui_text.specs.Setting.{AreAllocationFree}
use Rattle.tui_text.specs.Span.{raw_span}
use Rattle.tui_clusters.proofs.Computing.{clusters_of_text}
use Rattle.tui_para.specs.declared.size.Size.{Size}
use Rattle.tui_para.specs.declared.size.Size.TheVariants.{Tiny, Small}
use Rattle.tui_para.specs.Logo.{upper_line, lower_line}

abbrev is_allocation_free : List ℕ → Bool
is_allocation_free text = nat_le (length text) 8

all_allocation_free : (texts : List (List ℕ)) → list_all is_allocation_free texts ≡ true → All IsAllocationFree texts
all_allocation_free [] e = All-nil IsAllocationFree
all_allocation_free (t ∷ ts) e = let both = and_parts (is_allocation_free t) _ e in All-cons IsAllocationFree t ts (leb-true _ _ both.0) (all_allocation_free ts both.1)

raw_allocation_free : (text : List ℕ) → list_all is_allocation_free (clusters text) ≡ true → AreAllocationFree (raw_line text).spans
raw_allocation_free text e = All-cons (λ s. All IsAllocationFree (clusters s.content)) (raw_span text) [] (all_allocation_free (clusters text) e) (All-nil _)

upper_short : (size : Size) → list_all is_allocation_free (clusters (upper_line size)) ≡ true
unfolding clusters_of_text
upper_short Tiny = refl
upper_short Small = refl

lower_short : (size : Size) → list_all is_allocation_free (clusters (lower_line size)) ≡ true
unfolding clusters_of_text
lower_short Tiny = refl
lower_short Small = refl

pub upper_allocation_free : (size : Size) → AreAllocationFree (raw_line (upper_line size)).spans
upper_allocation_free size = raw_allocation_free (upper_line size) (upper_short size)

pub lower_allocation_free : (size : Size) → AreAllocationFree (raw_line (lower_line size)).spans
lower_allocation_free size = raw_allocation_free (lower_line size) (lower_short size)
