-- The cells of an area outside a base, one side after another.
use Rattle.std.proofs.Common.{
  ◌≡◌,
  ℕ,
  ◌<◌,
  Bool,
  true,
  false,
  ◌&&◌,
  ◌||◌,
  not,
  List,
  [],
  ◌∷◌,
  Result,
  Ok,
  Err,
  OnOk,
  OnErr,
  if◌then◌else◌,
  refl,
  ◌∙◌,
  sym,
  arith,
}
use Rattle.std.proofs.lemmas.Bool.Decides.{nat_tests}
use Rattle.tui_cells.specs.declared.rect.Rect.{Rect}
use Rattle.tui_cells.specs.declared.style.Style.{Style}
use Rattle.tui_cells.specs.Buffer.{Screen}
use Rattle.tui_cells.specs.Cell.{Edit, Look, set_style, edited, write}
use Rattle.tui_cells.specs.Layers.{KeptOutside, Painted, over}
use Rattle.tui_cells.specs.Rect.{covers, intersection_of}
use Rattle.tui_cells.specs.Stays.{StayIn-over}
use Rattle.tui_cells.proofs.Painting.{KeptOutside-weaker, Painted-kept, Painted-over, Painted-region, Painted-same}
use Rattle.tui_cells.proofs.Regions.{covers_both}
use Rattle.tui_frames.specs.Shadow.{in_shadow}
use Rattle.tui_frames.specs.Sides.{side_of}
use Rattle.tui_frames.specs.declared.shadow.parts.Side.{Side}
use Rattle.tui_frames.specs.declared.shadow.parts.Side.TheVariants.{Above, Below, LeftOf, RightOf}

-- no two sides of a base overlap
above_below : (base : Rect) (x y : ℕ) → (covers (side_of base Above) x y && covers (side_of base Below) x y) ≡ false
above_below base x y = grind (arith, nat_tests)

above_left : (base : Rect) (x y : ℕ) → (covers (side_of base Above) x y && covers (side_of base LeftOf) x y) ≡ false
above_left base x y = grind (arith, nat_tests)

below_left : (base : Rect) (x y : ℕ) → (covers (side_of base Below) x y && covers (side_of base LeftOf) x y) ≡ false
below_left base x y = grind (arith, nat_tests)

above_right : (base : Rect) (x y : ℕ) → (covers (side_of base Above) x y && covers (side_of base RightOf) x y) ≡ false
above_right base x y = grind (arith, nat_tests)

below_right : (base : Rect) (x y : ℕ) → (covers (side_of base Below) x y && covers (side_of base RightOf) x y) ≡ false
below_right base x y = grind (arith, nat_tests)

left_right : (base : Rect) (x y : ℕ) → (covers (side_of base LeftOf) x y && covers (side_of base RightOf) x y) ≡ false
left_right base x y = grind (arith, nat_tests)

-- a position outside the base lies on a side of it
sides : (base : Rect) (x y : ℕ) → x < 65535 → y < 65535 →
    not (covers base x y)
    ≡ (((covers (side_of base Above) x y || covers (side_of base Below) x y) || covers (side_of base LeftOf) x y) || covers (side_of base RightOf) x y)
sides base x y p q = grind (arith, nat_tests)

near : (area : Rect) (x y : ℕ) → covers area x y ≡ true → (x < 65535) × (y < 65535)
near area x y e = (grind (arith, nat_tests), grind (arith, nat_tests))

apart_two : (a s t : Bool) → (s && t) ≡ false → ((a && s) && (a && t)) ≡ false
apart_two a s t e = grind arith

apart_three : (a s t u : Bool) → (s && u) ≡ false → (t && u) ≡ false → (((a && s) || (a && t)) && (a && u)) ≡ false
apart_three a s t u e f = grind arith

apart_four : (a s t u v : Bool) → (s && v) ≡ false → (t && v) ≡ false → (u && v) ≡ false → ((((a && s) || (a && t)) || (a && u)) && (a && v)) ≡ false
apart_four a s t u v e f g = grind arith

all_four : (a b s t u v : Bool) → (a ≡ true → not b ≡ (((s || t) || u) || v)) → ((((a && s) || (a && t)) || (a && u)) || (a && v)) ≡ (a && not b)
all_four true b s t u v e = sym (e refl)
all_four false b s t u v e = refl

abbrev on : Rect → Rect → Side → ℕ → ℕ → Bool
on area base side x y = covers area x y && covers (side_of base side) x y

-- a part, with its region as two tests
part_of : (area base : Rect) (side : Side) (es : List Edit) (a b : Screen) →
    Painted (over (covers (intersection_of area (side_of base side))) es) a b → Painted (over (on area base side) es) a b
part_of area base side es a b p =
    Painted-region (covers (intersection_of area (side_of base side))) (on area base side) es a b p (λ x y. covers_both area (side_of base side) x y)

abbrev two : Rect → Rect → ℕ → ℕ → Bool
two area base x y = on area base Above x y || on area base Below x y

abbrev three : Rect → Rect → ℕ → ℕ → Bool
three area base x y = two area base x y || on area base LeftOf x y

abbrev four : Rect → Rect → ℕ → ℕ → Bool
four area base x y = three area base x y || on area base RightOf x y

-- the same edits on the four sides are those edits in the area outside the base
pub four_painted : (area base : Rect) (es : List Edit) (a b c d e : Screen) →
    Painted (over (covers (intersection_of area (side_of base Above))) es) a b →
    Painted (over (covers (intersection_of area (side_of base Below))) es) b c →
    Painted (over (covers (intersection_of area (side_of base LeftOf))) es) c d →
    Painted (over (covers (intersection_of area (side_of base RightOf))) es) d e →
    Painted (over (in_shadow area base) es) a e
four_painted area base es a b c d e p q r s =
    let second : Painted (over (two area base) es) a c =
    Painted-over (on area base Above) (on area base Below) (two area base) es a b c (part_of area base Above es a b p) (part_of area base Below es b c q)
    (λ x y. (apart_two (covers area x y) _ _ (above_below base x y), refl)) in
    let third : Painted (over (three area base) es) a d =
    Painted-over (two area base) (on area base LeftOf) (three area base) es a c d second (part_of area base LeftOf es c d r)
    (λ x y. (apart_three (covers area x y) _ _ _ (above_left base x y) (below_left base x y), refl)) in
    let fourth : Painted (over (four area base) es) a e =
    Painted-over (three area base) (on area base RightOf) (four area base) es a d e third (part_of area base RightOf es d e s)
    (λ x y. (apart_four (covers area x y) _ _ _ _ (above_right base x y) (below_right base x y) (left_right base x y), refl)) in
    Painted-region (four area base) (in_shadow area base) es a e fourth
    (λ x y. all_four (covers area x y) (covers base x y) _ _ _ _ (λ h. sides base x y (near area x y h).0 (near area x y h).1))

-- a part lies in the area and outside the base
part_in : (area base : Rect) (side : Side) (x y : ℕ) → in_shadow area base x y ≡ false → covers (intersection_of area (side_of base side)) x y ≡ false
part_in area base side x y out =
    covers_both area (side_of base side) x y ∙ apart (covers area x y) (covers base x y) (covers (side_of base side) x y) out (beside base side x y)
  where
    apart : (a b s : Bool) → (a && not b) ≡ false → (b && s) ≡ false → (a && s) ≡ false
    apart a b s e f = grind arith

    beside : (base : Rect) (side : Side) (x y : ℕ) → (covers base x y && covers (side_of base side) x y) ≡ false
    beside base Above x y = grind (arith, nat_tests)
    beside base Below x y = grind (arith, nat_tests)
    beside base LeftOf x y = grind (arith, nat_tests)
    beside base RightOf x y = grind (arith, nat_tests)

-- edits of a region keep all cells outside it
pub over_kept : (R : ℕ → ℕ → Bool) (es : List Edit) (a b : Screen) → Painted (over R es) a b → KeptOutside R a b
over_kept R es a b p = Painted-kept (StayIn-over R es) p

-- what keeps all cells outside a side, and edits of a side, keep all cells outside the shadow
pub outside_kept : (area base : Rect) (side : Side) (a b : Screen) → KeptOutside (covers (intersection_of area (side_of base side))) a b →
    KeptOutside (in_shadow area base) a b
outside_kept area base side a b p = KeptOutside-weaker (part_in area base side) p

pub edits_kept : (area base : Rect) (side : Side) (es : List Edit) (a b : Screen) →
    Painted (over (covers (intersection_of area (side_of base side))) es) a b → KeptOutside (in_shadow area base) a b
edits_kept area base side es a b p = outside_kept area base side a b (over_kept _ es a b p)

-- whatever the result, filling a side keeps all cells outside the shadow
pub side_kept : {T E : Type 0} (result : Result T E) (area base : Rect) (side : Side) (es : List Edit) (a b : Screen) →
    OnOk result (Painted (over (covers (intersection_of area (side_of base side))) es) a b) →
    OnErr result (KeptOutside (covers (intersection_of area (side_of base side))) a b) → KeptOutside (in_shadow area base) a b
side_kept (Ok x) area base side es a b p q = edits_kept area base side es a b p
side_kept (Err x) area base side es a b p q = outside_kept area base side a b q

-- a symbol and a style can be set in either order
pub swapped : (R : ℕ → ℕ → Bool) (text : List ℕ) (style : Style) (a b : Screen) →
    Painted (over R (write text ∷ set_style style ∷ [])) a b → Painted (over R (set_style style ∷ write text ∷ [])) a b
swapped R text style a b p = Painted-same (λ x y c. either (R x y) c) p
  where
    either : (r : Bool) (c : Look) →
        (if r then edited (set_style style) (if r then edited (write text) c else c) else (if r then edited (write text) c else c))
        ≡ (if r then edited (write text) (if r then edited (set_style style) c else c) else (if r then edited (set_style style) c else c))
    either true c = refl
    either false c = refl
