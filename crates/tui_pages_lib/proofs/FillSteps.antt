-- A page takes a piece that fits, and ends before one that does not.
use Rattle.std.proofs.Common.{◌≡◌, ℕ, ◌+◌, ◌<◌, ◌≤◌, List, [], ◌∷◌, ◌++◌, true, false, arith}
use Rattle.std.specs.Prelude.{nat_le}
use Rattle.std.proofs.lemmas.Bool.{cond-true, cond-false}
use Rattle.std.proofs.lemmas.Bool.Decides.{nat_tests}
use Rattle.tui_pages_lib.specs.declared.piece.Piece.{Piece}
use Rattle.tui_pages_lib.specs.Pages.{size_of, lines_on}
use Rattle.tui_pages_lib.specs.Filling.{fill}

pub le_test : (a b : ℕ) → a ≤ b → nat_le a b ≡ true
le_test a b h = grind (arith, nat_tests)

pub gt_test : (a b : ℕ) → b < a → nat_le a b ≡ false
gt_test a b h = grind (arith, nat_tests)

pub fill_fits : (room : ℕ) (page : List Piece) (p : Piece) (ps : List Piece) → lines_on page + size_of p ≤ room
    → fill room page (p ∷ ps) ≡ fill room (page ++ p ∷ []) ps
unfolding fill
fill_fits room page p ps h = cond-true _ _ _ (le_test (lines_on page + size_of p) room h)

pub fill_wide : (room : ℕ) (page : List Piece) (p : Piece) (ps : List Piece) → room < lines_on page + size_of p
    → fill room page (p ∷ ps) ≡ page ∷ fill room (p ∷ []) ps
unfolding fill
fill_wide room page p ps h = cond-false _ _ _ (gt_test (lines_on page + size_of p) room h)
