-- Settings of a pen in a sequence.
use Rattle.std.proofs.Common.{◌≡◌, ℕ, ◌+◌, ◌-◌, ◌^◌, ◌<◌, ◌==◌, true, false, List, [], ◌∷◌, ◌++◌, get_or, flat_map, if◌then◌else◌, refl, sym, ap, ap₂, subst, ◌∙◌, arith}
use Rattle.std.specs.Prelude.{decimal, nat_lt}
use Rattle.std.proofs.lemmas.Bool.{and_parts, cond-true, cond-false}
use Rattle.std.proofs.lemmas.Bool.Decides.{nat_tests}
use Rattle.std.specs.Fmt.{digits}
use Rattle.std.specs.List.{list_all}
use Rattle.std.proofs.lemmas.List.{append-nil}
use Rattle.std.proofs.lemmas.List.Concat.{flat_map-cons}
use Rattle.tui_cells.specs.declared.color.Color.{Color}
use Rattle.tui_cells.specs.declared.color.Color.TheVariants as colors
use Rattle.tui_terminal_laws.specs.Reading.{IsSmallSetting, color_numbers}
use Rattle.tui_terminal_model.specs.Sends.{IsSafeSetting}
use Rattle.tui_terminal_model.specs.Encoding.{background_text, foreground_text, next_setting_text, setting_text}
use Rattle.tui_terminal_model.specs.Terminal.{Setting, mark, front, back}
use Rattle.tui_terminal_laws.proofs.Lists.{All-each, Each, Each-append}
use Rattle.tui_terminal_laws.proofs.Numbers.{is_low, texts, texts_both, texts_low, texts_same}

-- the numbers of a setting
unfoldable pub of_color : ℕ → Color → List ℕ
of_color k colors.Reset = (k + 9) ∷ []
of_color k colors.Black = (k + 0) ∷ []
of_color k colors.Red = (k + 1) ∷ []
of_color k colors.Green = (k + 2) ∷ []
of_color k colors.Yellow = (k + 3) ∷ []
of_color k colors.Blue = (k + 4) ∷ []
of_color k colors.Magenta = (k + 5) ∷ []
of_color k colors.Cyan = (k + 6) ∷ []
of_color k colors.Gray = (k + 7) ∷ []
of_color k colors.DarkGray = (k + 60) ∷ []
of_color k colors.LightRed = (k + 61) ∷ []
of_color k colors.LightGreen = (k + 62) ∷ []
of_color k colors.LightYellow = (k + 63) ∷ []
of_color k colors.LightBlue = (k + 64) ∷ []
of_color k colors.LightMagenta = (k + 65) ∷ []
of_color k colors.LightCyan = (k + 66) ∷ []
of_color k colors.White = (k + 67) ∷ []
of_color k (colors.Rgb red green blue) = (k + 8) ∷ 2 ∷ red ∷ green ∷ blue ∷ []
of_color k (colors.Indexed n) = (k + 8) ∷ 5 ∷ n ∷ []

abbrev pub numbers : Setting → List ℕ
numbers (mark k) = (k + 1) ∷ []
numbers (front c) = of_color 30 c
numbers (back c) = of_color 40 c

-- the bytes of a setting are those of its numbers
last_text : (b : ℕ) → decimal b ≡ decimal b ++ []
last_text b = sym (append-nil (decimal b))

three : (r g b : ℕ) → decimal r ++ (59 ∷ (decimal g ++ (59 ∷ decimal b))) ≡ decimal r ++ texts (g ∷ b ∷ [])
three r g b = ap (λ (l : List ℕ). decimal r ++ (59 ∷ (decimal g ++ (59 ∷ l)))) (last_text b)

front_is : (c : Color) → 59 ∷ foreground_text c ≡ texts (of_color 30 c)
unfolding foreground_text of_color digits
front_is colors.Reset = refl
front_is colors.Black = refl
front_is colors.Red = refl
front_is colors.Green = refl
front_is colors.Yellow = refl
front_is colors.Blue = refl
front_is colors.Magenta = refl
front_is colors.Cyan = refl
front_is colors.Gray = refl
front_is colors.DarkGray = refl
front_is colors.LightRed = refl
front_is colors.LightGreen = refl
front_is colors.LightYellow = refl
front_is colors.LightBlue = refl
front_is colors.LightMagenta = refl
front_is colors.LightCyan = refl
front_is colors.White = refl
front_is (colors.Rgb red green blue) = ap (λ (l : List ℕ). 59 ∷ 51 ∷ 56 ∷ 59 ∷ 50 ∷ 59 ∷ l) (three red green blue)
front_is (colors.Indexed n) = ap (λ (l : List ℕ). 59 ∷ 51 ∷ 56 ∷ 59 ∷ 53 ∷ 59 ∷ l) (last_text n)

back_is : (c : Color) → 59 ∷ background_text c ≡ texts (of_color 40 c)
unfolding background_text of_color digits
back_is colors.Reset = refl
back_is colors.Black = refl
back_is colors.Red = refl
back_is colors.Green = refl
back_is colors.Yellow = refl
back_is colors.Blue = refl
back_is colors.Magenta = refl
back_is colors.Cyan = refl
back_is colors.Gray = refl
back_is colors.DarkGray = refl
back_is colors.LightRed = refl
back_is colors.LightGreen = refl
back_is colors.LightYellow = refl
back_is colors.LightBlue = refl
back_is colors.LightMagenta = refl
back_is colors.LightCyan = refl
back_is colors.White = refl
back_is (colors.Rgb red green blue) = ap (λ (l : List ℕ). 59 ∷ 52 ∷ 56 ∷ 59 ∷ 50 ∷ 59 ∷ l) (three red green blue)
back_is (colors.Indexed n) = ap (λ (l : List ℕ). 59 ∷ 52 ∷ 56 ∷ 59 ∷ 53 ∷ 59 ∷ l) (last_text n)

pub setting_is : (s : Setting) → 59 ∷ setting_text s ≡ texts (numbers s)
setting_is (mark k) = ap (λ (l : List ℕ). 59 ∷ l) (last_text (k + 1))
setting_is (front c) = front_is c
setting_is (back c) = back_is c

pub settings_are : (ss : List Setting) → flat_map next_setting_text ss ≡ texts (flat_map numbers ss)
settings_are [] = refl
settings_are (s ∷ ss) =
    flat_map-cons next_setting_text s ss
    ∙ (ap₂ (λ (k l : List ℕ). k ++ l) (setting_is s) (settings_are ss)
    ∙ (sym (texts_both (numbers s) (flat_map numbers ss)) ∙ ap texts (sym (flat_map-cons numbers s ss))))

-- ---- a setting can be read back from its numbers

record Read : Type 0 where
  first : Setting
  others : List ℕ

-- a result that no setting has
nothing : Read
nothing = record { first = mark 9; others = [] }

plain_colors : List Color
plain_colors =
    colors.Black ∷ colors.Red ∷ colors.Green ∷ colors.Yellow ∷ colors.Blue ∷ colors.Magenta ∷ colors.Cyan ∷ colors.Gray ∷ colors.Reset ∷ colors.Reset ∷ []

bright_colors : List Color
bright_colors =
    colors.DarkGray ∷ colors.LightRed ∷ colors.LightGreen ∷ colors.LightYellow ∷ colors.LightBlue ∷ colors.LightMagenta ∷ colors.LightCyan ∷ colors.White ∷ []

plain : ℕ → Color
plain n = get_or plain_colors n colors.Reset

bright : ℕ → Color
bright n = get_or bright_colors n colors.Reset

setting_at : ℕ → Setting
setting_at n =
    if n == 0 then mark 9 else if nat_lt n 10 then mark (n - 1) else if nat_lt n 40 then front (plain (n - 30)) else if nat_lt n 60 then back (plain (n - 40))
    else if nat_lt n 100 then front (bright (n - 90)) else back (bright (n - 100))

indexed : (Color → Setting) → List ℕ → Read
indexed f [] = nothing
indexed f (n ∷ ns) = record { first = f (colors.Indexed n); others = ns }

by_lights : (Color → Setting) → List ℕ → Read
by_lights f (r ∷ g ∷ b ∷ ns) = record { first = f (colors.Rgb r g b); others = ns }
by_lights f _ = nothing

long : (Color → Setting) → List ℕ → Read
long f [] = nothing
long f (k ∷ ns) = if k == 5 then indexed f ns else by_lights f ns

read : List ℕ → Read
read [] = nothing
read (n ∷ ns) = if n == 38 then long front ns else if n == 48 then long back ns else record { first = setting_at n; others = ns }

mark_at : (k : ℕ) → k < 9 → setting_at (k + 1) ≡ mark k
unfolding setting_at
mark_at k lt =
    let a : (k + 1 == 0) ≡ false = grind (arith, nat_tests) in
    let b : nat_lt (k + 1) 10 ≡ true = grind (arith, nat_tests) in
    let c : k + 1 - 1 ≡ k = omega arith in
    cond-false (k + 1 == 0) (mark 9) _ a ∙ (cond-true (nat_lt (k + 1) 10) (mark (k + 1 - 1)) _ b ∙ ap mark c)

mark_read : (k : ℕ) (more : List ℕ) → k < 9 → read ((k + 1) ∷ more) ≡ record { first = mark k; others = more }
unfolding read nothing
mark_read k more lt =
    let a : (k + 1 == 38) ≡ false = grind (arith, nat_tests) in
    let b : (k + 1 == 48) ≡ false = grind (arith, nat_tests) in
    let is : Read = record { first = setting_at (k + 1); others = more } in
    cond-false (k + 1 == 38) (long front more) _ a ∙ (cond-false (k + 1 == 48) (long back more) is b ∙ ap (λ (s : Setting). read_of s more) (mark_at k lt))
  where
    read_of : Setting → List ℕ → Read
    read_of s more = record { first = s; others = more }

reads : (s : Setting) (more : List ℕ) → IsSafeSetting s → read (numbers s ++ more) ≡ record { first = s; others = more }
unfolding read of_color setting_at plain bright plain_colors bright_colors long indexed by_lights
reads (mark k) more safe = mark_read k more safe
reads (front colors.Reset) more safe = refl
reads (front colors.Black) more safe = refl
reads (front colors.Red) more safe = refl
reads (front colors.Green) more safe = refl
reads (front colors.Yellow) more safe = refl
reads (front colors.Blue) more safe = refl
reads (front colors.Magenta) more safe = refl
reads (front colors.Cyan) more safe = refl
reads (front colors.Gray) more safe = refl
reads (front colors.DarkGray) more safe = refl
reads (front colors.LightRed) more safe = refl
reads (front colors.LightGreen) more safe = refl
reads (front colors.LightYellow) more safe = refl
reads (front colors.LightBlue) more safe = refl
reads (front colors.LightMagenta) more safe = refl
reads (front colors.LightCyan) more safe = refl
reads (front colors.White) more safe = refl
reads (front (colors.Rgb red green blue)) more safe = refl
reads (front (colors.Indexed n)) more safe = refl
reads (back colors.Reset) more safe = refl
reads (back colors.Black) more safe = refl
reads (back colors.Red) more safe = refl
reads (back colors.Green) more safe = refl
reads (back colors.Yellow) more safe = refl
reads (back colors.Blue) more safe = refl
reads (back colors.Magenta) more safe = refl
reads (back colors.Cyan) more safe = refl
reads (back colors.Gray) more safe = refl
reads (back colors.DarkGray) more safe = refl
reads (back colors.LightRed) more safe = refl
reads (back colors.LightGreen) more safe = refl
reads (back colors.LightYellow) more safe = refl
reads (back colors.LightBlue) more safe = refl
reads (back colors.LightMagenta) more safe = refl
reads (back colors.LightCyan) more safe = refl
reads (back colors.White) more safe = refl
reads (back (colors.Rgb red green blue)) more safe = refl
reads (back (colors.Indexed n)) more safe = refl

-- ---- and so can several

-- two settings, and the numbers after them
record AreSame (s t : Setting) (ns ms : List ℕ) : Type 0 where
  setting : s ≡ t
  others : ns ≡ ms

same_setting : (s t : Setting) (ns ms : List ℕ) → IsSafeSetting s → IsSafeSetting t → numbers s ++ ns ≡ numbers t ++ ms → AreSame s t ns ms
same_setting s t ns ms a b e =
    let is = sym (reads s ns a) ∙ (ap read e ∙ reads t ms b) in
    record { setting = ap (λ (r : Read). r.first) is; others = ap (λ (r : Read). r.others) is }

-- numbers that are not those of a setting
no_setting : (s : Setting) (ns none : List ℕ) → IsSafeSetting s → (read none).first ≡ mark 9 → none ≡ numbers s ++ ns → ⊥
no_setting s ns none safe is e = not_nine s safe (ap (λ (r : Read). r.first) (sym (reads s ns safe)) ∙ (ap (λ (l : List ℕ). (read l).first) (sym e) ∙ is))
  where
    place_of : Setting → ℕ
    place_of (mark k) = k
    place_of s = 0

    not_nine : (s : Setting) → IsSafeSetting s → s ≡ mark 9 → ⊥
    not_nine s safe e = absurd (omega (arith, subst IsSafeSetting e safe))

pub same_settings : (ss ts : List Setting) → Each IsSafeSetting ss → Each IsSafeSetting ts → flat_map numbers ss ≡ flat_map numbers ts → ss ≡ ts
unfolding read nothing
same_settings [] [] a b e = refl
same_settings [] (t ∷ ts) a b e = absurd (no_setting t (flat_map numbers ts) [] b.0 refl (e ∙ flat_map-cons numbers t ts))
same_settings (s ∷ ss) [] a b e = absurd (no_setting s (flat_map numbers ss) [] a.0 refl (sym e ∙ flat_map-cons numbers s ss))
same_settings (s ∷ ss) (t ∷ ts) a b e =
    let both = same_setting s t (flat_map numbers ss) (flat_map numbers ts) a.0 b.0 (sym (flat_map-cons numbers s ss) ∙ (e ∙ flat_map-cons numbers t ts)) in
    ap₂ (λ (k : Setting) (ks : List Setting). k ∷ ks) both.setting (same_settings ss ts a.1 b.1 both.others)

-- the numbers of a paint begin with 0, which no setting does
pub no_zero : (s : Setting) (ss ts : List Setting) → IsSafeSetting s → 0 ∷ flat_map numbers ts ≡ flat_map numbers (s ∷ ss) → ⊥
unfolding read setting_at nothing
no_zero s ss ts safe e = no_setting s (flat_map numbers ss) (0 ∷ flat_map numbers ts) safe refl (e ∙ flat_map-cons numbers s ss)

-- ---- their numbers are small

small_color : (k : ℕ) (c : Color) → k < 41 → Each (λ n. n < 2 ^ 64) (color_numbers c) → Each (λ n. n < 2 ^ 64) (of_color k c)
unfolding of_color color_numbers
small_color k colors.Reset lt h = (omega (arith, lt), tt)
small_color k colors.Black lt h = (omega (arith, lt), tt)
small_color k colors.Red lt h = (omega (arith, lt), tt)
small_color k colors.Green lt h = (omega (arith, lt), tt)
small_color k colors.Yellow lt h = (omega (arith, lt), tt)
small_color k colors.Blue lt h = (omega (arith, lt), tt)
small_color k colors.Magenta lt h = (omega (arith, lt), tt)
small_color k colors.Cyan lt h = (omega (arith, lt), tt)
small_color k colors.Gray lt h = (omega (arith, lt), tt)
small_color k colors.DarkGray lt h = (omega (arith, lt), tt)
small_color k colors.LightRed lt h = (omega (arith, lt), tt)
small_color k colors.LightGreen lt h = (omega (arith, lt), tt)
small_color k colors.LightYellow lt h = (omega (arith, lt), tt)
small_color k colors.LightBlue lt h = (omega (arith, lt), tt)
small_color k colors.LightMagenta lt h = (omega (arith, lt), tt)
small_color k colors.LightCyan lt h = (omega (arith, lt), tt)
small_color k colors.White lt h = (omega (arith, lt), tt)
small_color k (colors.Rgb red green blue) lt h = (omega (arith, lt), (omega arith, h))
small_color k (colors.Indexed n) lt h = (omega (arith, lt), (omega arith, h))

small_setting : (s : Setting) → IsSafeSetting s → IsSmallSetting s → Each (λ n. n < 2 ^ 64) (numbers s)
small_setting (mark k) safe h = (omega (arith, safe), tt)
small_setting (front c) safe h = small_color 30 c (omega arith) (All-each (λ n. n < 2 ^ 64) (color_numbers c) h)
small_setting (back c) safe h = small_color 40 c (omega arith) (All-each (λ n. n < 2 ^ 64) (color_numbers c) h)

pub small_settings : (ss : List Setting) → Each IsSafeSetting ss → Each IsSmallSetting ss → Each (λ n. n < 2 ^ 64) (flat_map numbers ss)
small_settings [] a b = tt
small_settings (s ∷ ss) a b =
    subst (Each (λ n. n < 2 ^ 64)) (sym (flat_map-cons numbers s ss)) (Each-append (λ n. n < 2 ^ 64) (numbers s) (flat_map numbers ss) (small_setting s a.0 b.0) (small_settings ss a.1 b.1))

-- their bytes
pub same_texts : (ss ts : List Setting) → Each IsSafeSetting ss → Each IsSafeSetting ts → Each IsSmallSetting ss → Each IsSmallSetting ts →
    flat_map next_setting_text ss ≡ flat_map next_setting_text ts → ss ≡ ts
same_texts ss ts a b c d e =
    same_settings ss ts a b
    (texts_same (flat_map numbers ss) (flat_map numbers ts) (small_settings ss a c) (small_settings ts b d) (sym (settings_are ss) ∙ (e ∙ settings_are ts)))

-- a paint has other bytes than an addition
pub no_zero_text : (s : Setting) (ss ts : List Setting) → Each IsSafeSetting (s ∷ ss) → Each IsSafeSetting ts → Each IsSmallSetting (s ∷ ss) → Each IsSmallSetting ts →
    48 ∷ flat_map next_setting_text ts ≡ setting_text s ++ flat_map next_setting_text ss → ⊥
unfolding digits
no_zero_text s ss ts a b c d e =
    let zero_is : 59 ∷ 48 ∷ flat_map next_setting_text ts ≡ texts (0 ∷ flat_map numbers ts) = ap (λ (l : List ℕ). 59 ∷ 48 ∷ l) (settings_are ts) in
    let other : flat_map next_setting_text (s ∷ ss) ≡ 59 ∷ (setting_text s ++ flat_map next_setting_text ss) = flat_map-cons next_setting_text s ss in
    let same = sym zero_is ∙ (ap (λ (l : List ℕ). 59 ∷ l) e ∙ (sym other ∙ settings_are (s ∷ ss))) in
    no_zero s ss ts a.0 (texts_same (0 ∷ flat_map numbers ts) (flat_map numbers (s ∷ ss)) (omega arith, small_settings ts b d) (small_settings (s ∷ ss) a c) same)

-- additions
pub same_added : (s t : Setting) (ss ts : List Setting) → Each IsSafeSetting (s ∷ ss) → Each IsSafeSetting (t ∷ ts) → Each IsSmallSetting (s ∷ ss) → Each IsSmallSetting (t ∷ ts) →
    setting_text s ++ flat_map next_setting_text ss ≡ setting_text t ++ flat_map next_setting_text ts → s ∷ ss ≡ t ∷ ts
same_added s t ss ts a b c d e =
    let first : flat_map next_setting_text (s ∷ ss) ≡ 59 ∷ (setting_text s ++ flat_map next_setting_text ss) = flat_map-cons next_setting_text s ss in
    let second : flat_map next_setting_text (t ∷ ts) ≡ 59 ∷ (setting_text t ++ flat_map next_setting_text ts) = flat_map-cons next_setting_text t ts in
    same_texts (s ∷ ss) (t ∷ ts) a b c d (first ∙ (ap (λ (l : List ℕ). 59 ∷ l) e ∙ sym second))

-- no byte of theirs ends a sequence
pub settings_low : (ss : List Setting) → Each IsSafeSetting ss → Each IsSmallSetting ss → list_all is_low (flat_map next_setting_text ss) ≡ true
settings_low ss a b = ap (list_all is_low) (settings_are ss) ∙ texts_low (flat_map numbers ss) (small_settings ss a b)

pub added_low : (s : Setting) (ss : List Setting) → Each IsSafeSetting (s ∷ ss) → Each IsSmallSetting (s ∷ ss) →
    list_all is_low (setting_text s ++ flat_map next_setting_text ss) ≡ true
added_low s ss a b =
    let is : 59 ∷ (setting_text s ++ flat_map next_setting_text ss) ≡ flat_map next_setting_text (s ∷ ss) = sym (flat_map-cons next_setting_text s ss) in
    (and_parts true (list_all is_low (setting_text s ++ flat_map next_setting_text ss)) (ap (list_all is_low) is ∙ settings_low (s ∷ ss) a b)).1
