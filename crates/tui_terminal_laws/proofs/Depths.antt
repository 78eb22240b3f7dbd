-- Colours by depth, and how many parameters a sequence has.
use Rattle.std.proofs.Common.{◌≡◌, ℕ, zero, suc, ◌+◌, ◌*◌, ◌≤◌, ◌<◌, Bool, true, false, List, [], ◌∷◌, ◌++◌, length, cond, get_or, refl, sym, subst, ◌∙◌, inl, inr, arith}
use Rattle.std.specs.Prelude.{nat_le, nat_lt, if◌then◌else◌}
use native.Mathlib.Nat.{mul-le-mul}
use Rattle.std.proofs.lemmas.Bool.{cases_Bool, cond-true, cond-false, leb-true, leb-false, lt-ltb, ltb-true, ltb-false, true≢false}
use Rattle.tui_cells.specs.declared.color.Color.{Color}
use Rattle.tui_cells.specs.declared.color.Color.TheVariants as colors
use Rattle.tui_terminal_model.specs.declared.depth.Depth.TheVariants as depths
use Rattle.tui_terminal_model.specs.Colours.{Channels, Named, black, color_at, cube_color, cube_channels, distance, gap, grays, level, level_at, channels_at, named_at, nearer, nearest_in_cube, nearest_in_palette, nearest_named, nearest_of, other_names, palette_color, sixteen_color, square}
use Rattle.tui_terminal_model.specs.Pens.{background_of, color_parameters, foreground_of, has_name, marks_from, parameters}
use Rattle.tui_terminal_model.specs.Symbols.{is_common}
use Rattle.tui_terminal_model.specs.Terminal.{Setting, back, front, mark}
use Rattle.tui_terminal_laws.specs.Laws.{DepthsRest, DrawingWidthsAreKnown, FewParameters, NamesStay, NearestInPalette, NearestName, TrueChangesNothing, drawing_symbols}
use Rattle.tui_terminal_laws.proofs.Lists.{Each, Each-all, Each-list_all, In, In-from}

-- ---- each depth leaves its own colours unchanged

-- what holds for each colour holds for the nearest
nearer_has : (P : Named → Type 0) (c : Channels) (a b : Named) → P a → P b → P (nearer c a b)
nearer_has P c a b x y = elim (cases_Bool (nat_le (distance c a.channels) (distance c b.channels))) [
  | inl on ↦ subst P (sym (cond-true _ a b on)) x
  | inr off ↦ subst P (sym (cond-false _ a b off)) y
]

nearest_has : (P : Named → Type 0) (c : Channels) (best : Named) (ns : List Named) → P best → Each P ns → P (nearest_of c best ns)
unfolding nearest_of
nearest_has P c best [] is all = is
nearest_has P c best (n ∷ ns) is all = nearest_has P c (nearer c best n) ns (nearer_has P c best n is all.0) all.1

abbrev IsNamed : Named → Type 0
IsNamed n = has_name n.color ≡ true

all_named : Each IsNamed other_names
unfolding other_names has_name
all_named = (refl, (refl, (refl, (refl, (refl, (refl, (refl, (refl, (refl, (refl, (refl, (refl, (refl, (refl, (refl, tt)))))))))))))))

black_named : IsNamed black
unfolding has_name
black_named = refl

get_named : (ns : List Named) (k : ℕ) → Each IsNamed ns → IsNamed (get_or ns k black)
get_named [] k all = black_named
get_named (n ∷ ns) zero all = all.0
get_named (n ∷ ns) (suc k) all = get_named ns k all.1

nearest_has_name : (c : Channels) → has_name (nearest_named c) ≡ true
nearest_has_name c = nearest_has IsNamed c black other_names black_named all_named

at_has_name : (n : ℕ) → has_name (named_at n) ≡ true
unfolding named_at
at_has_name n = get_named (black ∷ other_names) n (black_named, all_named)

either_named : (b : Bool) (x y : Color) → has_name x ≡ true → has_name y ≡ true → has_name (cond b x y) ≡ true
either_named true x y a c = a
either_named false x y a c = c

sixteen_named : (c : Color) → has_name (sixteen_color c) ≡ true
unfolding sixteen_color has_name
sixteen_named (colors.Rgb r g b) = nearest_has_name (record { red = r; green = g; blue = b })
sixteen_named (colors.Indexed n) = either_named (nat_lt n 16) (named_at n) (nearest_named (channels_at n)) (at_has_name n) (nearest_has_name (channels_at n))
sixteen_named c = refl

sixteen_stays : (c : Color) → has_name c ≡ true → sixteen_color c ≡ c
unfolding sixteen_color has_name
sixteen_stays (colors.Rgb r g b) is = absurd (true≢false (sym is))
sixteen_stays (colors.Indexed n) is = absurd (true≢false (sym is))
sixteen_stays c is = refl

palette_stays : (c : Color) → has_name c ≡ true → palette_color c ≡ c
unfolding palette_color has_name
palette_stays (colors.Rgb r g b) is = absurd (true≢false (sym is))
palette_stays c is = refl

abbrev Rests : Named → Type 0
Rests n = palette_color n.color ≡ n.color

grays_rest : Each Rests grays
unfolding grays palette_color
grays_rest = (refl, (refl, (refl, (refl, (refl, (refl, (refl, (refl, (refl, (refl, (refl, (refl, (refl, (refl, (refl, (refl, (refl, (refl, (refl, (refl, (refl, (refl, (refl, (refl, tt))))))))))))))))))))))))

cube_rests : (r g b : ℕ) → Rests (cube_color r g b)
unfolding palette_color
cube_rests r g b = refl

light_rests : (c : Channels) → Rests (nearest_in_palette c)
light_rests c = nearest_has Rests c (nearest_in_cube c) grays (cube_rests (level_at c.red) (level_at c.green) (level_at c.blue)) grays_rest

palette_rests : (c : Color) → palette_color (palette_color c) ≡ palette_color c
unfolding palette_color
palette_rests (colors.Rgb r g b) = light_rests (record { red = r; green = g; blue = b })
palette_rests c = refl

pub depths_rest : DepthsRest
unfolding color_at
depths_rest depths.None c = refl
depths_rest depths.Sixteen c = sixteen_stays (sixteen_color c) (sixteen_named c)
depths_rest depths.Palette c = palette_rests c
depths_rest depths.True c = refl

pub true_changes_nothing : TrueChangesNothing
unfolding color_at
true_changes_nothing c = refl

pub names_stay : NamesStay
unfolding color_at
names_stay c is = (sixteen_stays c is, palette_stays c is)

-- ---- the nearest of the sixteen

nearer_is : (c : Channels) (a b : Named) → (distance c (nearer c a b).channels ≤ distance c a.channels) × (distance c (nearer c a b).channels ≤ distance c b.channels)
nearer_is c a b = elim (cases_Bool (nat_le (distance c a.channels) (distance c b.channels))) [
  | inl on ↦
      let low = leb-true (distance c a.channels) (distance c b.channels) on in
      subst (λ (n : Named). (distance c n.channels ≤ distance c a.channels) × (distance c n.channels ≤ distance c b.channels)) (sym (cond-true _ a b on)) (omega arith, low)
  | inr off ↦
      let high = leb-false (distance c a.channels) (distance c b.channels) off in
      subst (λ (n : Named). (distance c n.channels ≤ distance c a.channels) × (distance c n.channels ≤ distance c b.channels)) (sym (cond-false _ a b off)) (omega (arith, high), omega arith)
]

nearest_is : (c : Channels) (best : Named) (ns : List Named) (n : Named) → In n (best ∷ ns) → distance c (nearest_of c best ns).channels ≤ distance c n.channels
unfolding nearest_of
nearest_is c best [] n (inl e) = subst (λ (k : Named). distance c best.channels ≤ distance c k.channels) e (omega arith)
nearest_is c best [] n (inr none) = absurd none
nearest_is c best (m ∷ ns) n (inl e) =
    let more = nearest_is c (nearer c best m) ns (nearer c best m) (inl refl) in
    let low = (nearer_is c best m).0 in
    subst (λ (k : Named). distance c (nearest_of c (nearer c best m) ns).channels ≤ distance c k.channels) e (omega (arith, more, low))
nearest_is c best (m ∷ ns) n (inr (inl e)) =
    let more = nearest_is c (nearer c best m) ns (nearer c best m) (inl refl) in
    let low = (nearer_is c best m).1 in
    subst (λ (k : Named). distance c (nearest_of c (nearer c best m) ns).channels ≤ distance c k.channels) e (omega (arith, more, low))
nearest_is c best (m ∷ ns) n (inr (inr there)) = nearest_is c (nearer c best m) ns n (inr there)

pub nearest_name : NearestName
nearest_name c n has = nearest_is c black other_names n (In-from n (black ∷ other_names) has)

-- ---- the nearest of the palette

level_suc : (j : ℕ) → level (suc j) ≡ 95 + 40 * j
level_suc j =
    let some : nat_lt 0 (suc j) ≡ true = lt-ltb 0 (suc j) (omega arith) in
    cond-true (nat_lt 0 (suc j)) (55 + 40 * suc j) 0 some ∙ omega arith

near_low : (v i : ℕ) → v < 48 → gap v 0 ≤ gap v (level i)
near_low v zero lt = omega arith
near_low v (suc j) lt = subst (λ b. gap v 0 ≤ gap v b) (sym (level_suc j)) (omega arith)

near_first : (v i : ℕ) → 48 ≤ v → v < 115 → gap v 95 ≤ gap v (level i)
near_first v zero low high = omega arith
near_first v (suc j) low high = subst (λ b. gap v 95 ≤ gap v b) (sym (level_suc j)) (omega arith)

near_within : (v k i : ℕ) → 75 + 40 * k ≤ v → v < 115 + 40 * k → 1 ≤ k → gap v (95 + 40 * k) ≤ gap v (level i)
near_within v k zero low high some = omega arith
near_within v k (suc j) low high some = subst (λ b. gap v (95 + 40 * k) ≤ gap v b) (sym (level_suc j)) (omega arith)

near_last : (v i : ℕ) → i ≤ 5 → 235 ≤ v → gap v 255 ≤ gap v (level i)
near_last v zero le low = omega arith
near_last v (suc j) le low = subst (λ b. gap v 255 ≤ gap v b) (sym (level_suc j)) (omega arith)

level_near : (v i : ℕ) → i ≤ 5 → gap v (level (level_at v)) ≤ gap v (level i)
unfolding level_at
level_near v i le =
    let G : ℕ → Type 0 = λ k. gap v (level k) ≤ gap v (level i) in
    let t4 : ℕ = if nat_lt v 235 then 4 else 5 in
    let t3 : ℕ = if nat_lt v 195 then 3 else t4 in
    let t2 : ℕ = if nat_lt v 155 then 2 else t3 in
    let t1 : ℕ = if nat_lt v 115 then 1 else t2 in
    elim (cases_Bool (nat_lt v 48)) [
      | inl a ↦ subst G (sym (cond-true (nat_lt v 48) 0 t1 a)) (near_low v i (ltb-true v 48 a))
      | inr a ↦ subst G (sym (cond-false (nat_lt v 48) 0 t1 a)) (elim (cases_Bool (nat_lt v 115)) [
        | inl b ↦ subst G (sym (cond-true (nat_lt v 115) 1 t2 b)) (near_first v i (ltb-false v 48 a) (ltb-true v 115 b))
        | inr b ↦ subst G (sym (cond-false (nat_lt v 115) 1 t2 b)) (elim (cases_Bool (nat_lt v 155)) [
          | inl c ↦ subst G (sym (cond-true (nat_lt v 155) 2 t3 c)) (near_within v 1 i (ltb-false v 115 b) (ltb-true v 155 c) (omega arith))
          | inr c ↦ subst G (sym (cond-false (nat_lt v 155) 2 t3 c)) (elim (cases_Bool (nat_lt v 195)) [
            | inl d ↦ subst G (sym (cond-true (nat_lt v 195) 3 t4 d)) (near_within v 2 i (ltb-false v 155 c) (ltb-true v 195 d) (omega arith))
            | inr d ↦ subst G (sym (cond-false (nat_lt v 195) 3 t4 d)) (elim (cases_Bool (nat_lt v 235)) [
              | inl e ↦ subst G (sym (cond-true (nat_lt v 235) 4 5 e)) (near_within v 3 i (ltb-false v 195 d) (ltb-true v 235 e) (omega arith))
              | inr e ↦ subst G (sym (cond-false (nat_lt v 235) 4 5 e)) (near_last v i le (ltb-false v 235 e))
            ])
          ])
        ])
      ])
    ]

sum_of_three : (a b c x y z : ℕ) → a ≤ x → b ≤ y → c ≤ z → a + (b + c) ≤ x + (y + z)
sum_of_three a b c x y z p q r = omega arith

square_grows : (a b : ℕ) → a ≤ b → square a ≤ square b
square_grows a b le = mul-le-mul le le

cube_near : (c : Channels) (r g b : ℕ) → r ≤ 5 → g ≤ 5 → b ≤ 5 → distance c (nearest_in_cube c).channels ≤ distance c (cube_channels r g b)
unfolding distance cube_channels
cube_near c r g b x y z =
    sum_of_three _ _ _ _ _ _
    (square_grows (gap c.red (level (level_at c.red))) (gap c.red (level r)) (level_near c.red r x))
    (square_grows (gap c.green (level (level_at c.green))) (gap c.green (level g)) (level_near c.green g y))
    (square_grows (gap c.blue (level (level_at c.blue))) (gap c.blue (level b)) (level_near c.blue b z))

pub nearest_in_all : NearestInPalette
nearest_in_all c =
    let first = nearest_is c (nearest_in_cube c) grays (nearest_in_cube c) (inl refl) in
    record {
      in_cube = λ r g b x y z. let near = cube_near c r g b x y z in omega (arith, first, near);
      in_grays = λ n has. nearest_is c (nearest_in_cube c) grays n (inr (In-from n grays has));
    }

-- ---- parameters

pub parameters_append : (xs ys : List Setting) → parameters (xs ++ ys) ≡ parameters xs + parameters ys
parameters_append [] ys = omega arith
parameters_append (mark k ∷ xs) ys = let more = parameters_append xs ys in omega (arith, more)
parameters_append (front c ∷ xs) ys = let more = parameters_append xs ys in omega (arith, more)
parameters_append (back c ∷ xs) ys = let more = parameters_append xs ys in omega (arith, more)

pub mark_few : (b : Bool) (k : ℕ) → parameters (cond b (mark k ∷ []) []) ≤ 1
mark_few true k = omega arith
mark_few false k = omega arith

marks_few : (k : ℕ) (bs : List Bool) → parameters (marks_from k bs) ≤ length bs
marks_few k [] = omega arith
marks_few k (b ∷ bs) =
    let one = mark_few b k in
    let more = marks_few (k + 1) bs in
    let sum = parameters_append (cond b (mark k ∷ []) []) (marks_from (k + 1) bs) in
    omega (arith, one, more, sum)

front_few : (c : Color) → parameters (foreground_of c) ≤ 5
unfolding foreground_of color_parameters
front_few colors.Reset = omega arith
front_few c = omega arith

back_few : (c : Color) → has_name c ≡ true → parameters (background_of c) ≤ 1
unfolding background_of color_parameters has_name
back_few (colors.Rgb r g b) is = absurd (true≢false (sym is))
back_few (colors.Indexed n) is = absurd (true≢false (sym is))
back_few c is = omega arith

pub few_parameters : FewParameters
few_parameters p is =
    let a = marks_few 0 p.marks in
    let b = front_few p.fg in
    let c = back_few p.bg is.name in
    let d = parameters_append (marks_from 0 p.marks) (foreground_of p.fg ++ background_of p.bg) in
    let e = parameters_append (foreground_of p.fg) (background_of p.bg) in
    let nine = is.nine in
    omega (arith, a, b, c, d, e, nine)

-- ---- symbols that widgets draw with

pub drawing_widths_are_known : DrawingWidthsAreKnown
unfolding is_common lib.Utf8.encode
drawing_widths_are_known = Each-all (λ s. is_common s ≡ true) drawing_symbols (Each-list_all is_common drawing_symbols refl)
