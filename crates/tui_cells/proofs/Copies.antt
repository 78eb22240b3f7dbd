-- Copied cells.
use Rattle.std.proofs.Common.{◌≡◌, inl, inr, ℕ, ◌<◌, Bool, ◌||◌, List, [], length, get_or, Result, Ok, Err, OnOk, OnErr, sym, ◌∙◌, subst, arith}
use Rattle.std.specs.List.{All}
use Rattle.std.proofs.lemmas.Bool.{or_parts}
use Rattle.std.proofs.lemmas.List.Elements.{All-from_get_or, All-get_or}
use Rattle.tui_cells.specs.Buffer.{IsScreen}
use Rattle.tui_cells.specs.Cell.{IsUnstyled, Look, blank}
use Rattle.tui_cells.specs.Copying.{ArePartialRowCopies, IsPartialRowCopy}
use Rattle.tui_cells.specs.Representation.{IsBuffer, IsRow, row_cells}
use Rattle.tui_cells.specs.declared.rect.Rect.{Rect}
use Rattle.tui_cells.proofs.Making.{kept_row, made_row}

-- what holds of all elements of two lists holds of a list that takes each element from one of them
all_either : {X : Type 0} (P : X → Type 0) (d : X) (source old new : List X) → length new ≡ length old → length old ≡ length source →
    ((i : ℕ) → i < length new → P (get_or old i d) → P (get_or source i d) → P (get_or new i d)) → All P source → All P old → All P new
all_either P d source old new len high each a b = All-from_get_or P new d
    (λ i lt. each i lt (All-get_or P old i d (omega (arith, len, lt)) b) (All-get_or P source i d (omega (arith, len, high, lt)) a))

rests : {T E : Type 0} (r : Result T E) (source old new : List Look) → length new ≡ length source → length old ≡ length source →
    OnOk r (new ≡ source) → OnErr r (IsPartialRowCopy source old new) → All IsUnstyled source → All IsUnstyled old → All IsUnstyled new
rests (Ok k) source old new len high ok err a b = subst (All IsUnstyled) (sym ok) a
rests (Err k) source old new len high ok err a b =
    all_either IsUnstyled blank source old new err.len high
    (λ i lt was is. elim (err.cells i) [ inl e ↦ subst IsUnstyled (sym e) was | inr e ↦ subst IsUnstyled (sym e) is ]) a b

-- a row whose cells were copied
pub copied_row : {T E : Type 0} (r : Result T E) (width room width' room' : ℕ) (styled styled' : Bool) (source kept old made new : List Look) →
    IsRow width room styled old → IsRow width' room' styled' kept → source ≡ kept → made ≡ row_cells width old → length made ≡ length source → length new ≡ length source →
    OnOk r (new ≡ source) → OnErr r (IsPartialRowCopy source made new) → (room'' : ℕ) → IsRow width room'' (styled || styled') new
copied_row r width room width' room' styled styled' source kept old made new is other source_is made_is high len ok err room'' =
    let now = made_row is made_is in
    kept_row width room'' (styled || styled') new (len ∙ (sym high ∙ now.0))
    (λ off. let parts = or_parts styled styled' off in rests r source made new len high ok err (subst (All IsUnstyled) (sym source_is) (other.rest parts.1)) (now.1 parts.0))

-- a buffer whose rows were copied
pub copied_buffer : {T E : Type 0} (r : Result T E) (area : Rect) (source old new : List (List Look)) (blanks others : List Look) →
    IsBuffer area old blanks → IsBuffer area source others → OnOk r (new ≡ source) → OnErr r (ArePartialRowCopies source old new) → IsBuffer area new blanks
copied_buffer (Ok k) area source old new blanks others is other ok err =
    record { screen = subst (λ rows. IsScreen (record { area = area; rows = rows })) (sym ok) other.screen; blank_row = is.blank_row }
copied_buffer (Err k) area source old new blanks others is other ok err = record {
  screen = record {
    high = err.len ∙ is.screen.high;
    wide = all_either (λ row. length row ≡ area.width) [] source old new err.len (is.screen.high ∙ sym other.screen.high)
        (λ y lt was to. (err.rows y).len ∙ was) other.screen.wide is.screen.wide;
    right = is.screen.right;
    bottom = is.screen.bottom;
  };
  blank_row = is.blank_row;
}
