-- The nearest of a table's colours.
use Rattle.std.proofs.Common.{◌≡◌, ℕ, ◌+◌, ◌<◌, ◌≤◌, List, ◌∷◌, length, get_or, drop, slice_index_or, refl, sym, ap, ◌∙◌, add-one, drop-cons, arith}
use Rattle.std.proofs.Math.ListN.{drop_of_length-le}
use Rattle.std.proofs.lemmas.List.{get_or-map, length-map}
use Rattle.tui_terminal.specs.Shades.{all_named, named_of}
use Rattle.tui_terminal.specs.declared.shade.Shade.{Shade}
use Rattle.tui_terminal_model.specs.Colours.{Channels, Named, black, nearer, nearest_of, named_at, other_names}

-- one more of the other colours is compared
pub nearest_more : (c : Channels) (best : Named) (others : List Shade) (i : ℕ) (d : Shade) → i < length others →
    nearest_of c best (all_named (drop i others)) ≡ nearest_of c (nearer c best (named_of (get_or others i d))) (all_named (drop (i + 1) others))
unfolding nearest_of
nearest_more c best others i d lt = rw (drop-cons others i d lt, add-one) refl

pub nearest_all : (c : Channels) (best : Named) (others : List Shade) (i : ℕ) → length others ≤ i →
    nearest_of c best (all_named (drop i others)) ≡ best
unfolding nearest_of
nearest_all c best others i past = ap (λ (l : List Shade). nearest_of c best (all_named l)) (drop_of_length-le others past)

-- the sixteen named colours
pub names_long : (names : List Shade) → all_named names ≡ black ∷ other_names → length names ≡ 16
unfolding other_names
names_long names is = sym (length-map names named_of) ∙ ap length is

pub name_is : (names : List Shade) (n : ℕ) (d : Shade) → all_named names ≡ black ∷ other_names → n < 16 → (slice_index_or names n d).color ≡ named_at n
unfolding named_at
name_is names n d is lt =
    let within : n < length names = omega (arith, names_long names is) in
    ap (λ (s : Named). s.color) (sym (get_or-map named_of names n d black within) ∙ ap (λ (all : List Named). get_or all n black) is)
