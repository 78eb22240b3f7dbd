-- Only one list of commands has these bytes, except for where one of two adjacent prints ends.
use Rattle.std.proofs.Common.{◌≡◌, ℕ, ◌+◌, ◌<◌, ◌≤◌, Bool, true, false, not, ◌&&◌, ◌||◌, ◌==◌, List, [], ◌∷◌, ◌++◌, length, get_or, flat_map, if◌then◌else◌, refl, sym, ap, ap₂, subst, ◌∙◌, append_assoc, arith}
use Rattle.std.specs.Prelude.{nat_le}
use Rattle.std.specs.List.{list_all}
use Rattle.std.proofs.lemmas.Bool.{and_from, and_parts}
use Rattle.std.proofs.lemmas.Bool.Decides.{nat_tests}
use Rattle.std.proofs.lemmas.List.{append_cancel_left, length-append}
use Rattle.std.proofs.lemmas.List.Concat.{flat_map-cons}
use Rattle.std.proofs.lemmas.List.Folds.{list_all-append}
use Rattle.tui_terminal_laws.specs.Reading.{HasOneReading, IsSmall, IsSmallSetting, joined, print_before}
use Rattle.tui_terminal_model.specs.Pens.{IsPen, background_of, foreground_of, marks_from, settings_of}
use Rattle.tui_terminal_model.specs.Sends.{Begins, IsSafe, IsSafeSetting}
use Rattle.tui_terminal_model.specs.Symbols.{is_quiet, is_quiet_byte, is_quiet_from}
use Rattle.tui_terminal_model.specs.Encoding.{encoding, reset_modes_text}
use Rattle.tui_terminal_model.specs.Terminal.{Pen, mark, Command, reset_modes, place, across, paint, add, print, set_mode}
use Rattle.tui_cells.specs.declared.color.Color.{Color}
use Rattle.tui_cells.specs.declared.color.Color.TheVariants as colors
use Rattle.tui_terminal_laws.proofs.Lists.{All-each, Each, Each-append}
use Rattle.tui_terminal_laws.proofs.Splitting.{Stops, split}
use Rattle.tui_terminal_laws.proofs.Controls.{IsControl, IsKnown, control_begins, controls_apart}

-- ---- which commands

-- a byte of a symbol that is sent
abbrev is_text : ℕ → Bool
is_text b = nat_le 0x20 b

-- a command that its bytes determine; a print has at least one byte, and none below 0x20
abbrev IsDetermined : Command → Type 0
IsDetermined (print symbol) = (0 < length symbol) × (list_all is_text symbol ≡ true)
IsDetermined c = IsKnown c

text_byte : (after : Bool) (b : ℕ) → is_quiet_byte after b ≡ true → is_text b ≡ true
text_byte after b e = (and_parts (nat_le 0x20 b) (not (b == 0x7F)) (and_parts (nat_le 0x20 b && not (b == 0x7F)) (not after || nat_le 0xA0 b) e).0).0

text_from : (after : Bool) (bs : List ℕ) → is_quiet_from after bs ≡ true → list_all is_text bs ≡ true
text_from after [] e = refl
text_from after (b ∷ bs) e =
    let both = and_parts (is_quiet_byte after b) (is_quiet_from (b == 0xC2) bs) e in
    and_from (is_text b) (list_all is_text bs) (text_byte after b both.0) (text_from (b == 0xC2) bs both.1)

text_of : (symbol : List ℕ) → is_quiet symbol ≡ true → list_all is_text symbol ≡ true
unfolding is_quiet
text_of symbol e = text_from false symbol e

-- the settings of a pen
safe_mark : (k : ℕ) (b : Bool) → k < 9 → Each IsSafeSetting (if b then mark k ∷ [] else [])
safe_mark k true lt = (lt, tt)
safe_mark k false lt = tt

safe_marks : (k : ℕ) (bs : List Bool) → k + length bs ≤ 9 → Each IsSafeSetting (marks_from k bs)
safe_marks k [] le = tt
safe_marks k (b ∷ bs) le = Each-append IsSafeSetting (if b then mark k ∷ [] else []) (marks_from (k + 1) bs) (safe_mark k b (omega (arith, le))) (safe_marks (k + 1) bs (omega (arith, le)))

safe_front : (c : Color) → Each IsSafeSetting (foreground_of c)
unfolding foreground_of
safe_front colors.Reset = tt
safe_front colors.Black = (tt, tt)
safe_front colors.Red = (tt, tt)
safe_front colors.Green = (tt, tt)
safe_front colors.Yellow = (tt, tt)
safe_front colors.Blue = (tt, tt)
safe_front colors.Magenta = (tt, tt)
safe_front colors.Cyan = (tt, tt)
safe_front colors.Gray = (tt, tt)
safe_front colors.DarkGray = (tt, tt)
safe_front colors.LightRed = (tt, tt)
safe_front colors.LightGreen = (tt, tt)
safe_front colors.LightYellow = (tt, tt)
safe_front colors.LightBlue = (tt, tt)
safe_front colors.LightMagenta = (tt, tt)
safe_front colors.LightCyan = (tt, tt)
safe_front colors.White = (tt, tt)
safe_front (colors.Rgb red green blue) = (tt, tt)
safe_front (colors.Indexed n) = (tt, tt)

safe_back : (c : Color) → Each IsSafeSetting (background_of c)
unfolding background_of
safe_back colors.Reset = tt
safe_back colors.Black = (tt, tt)
safe_back colors.Red = (tt, tt)
safe_back colors.Green = (tt, tt)
safe_back colors.Yellow = (tt, tt)
safe_back colors.Blue = (tt, tt)
safe_back colors.Magenta = (tt, tt)
safe_back colors.Cyan = (tt, tt)
safe_back colors.Gray = (tt, tt)
safe_back colors.DarkGray = (tt, tt)
safe_back colors.LightRed = (tt, tt)
safe_back colors.LightGreen = (tt, tt)
safe_back colors.LightYellow = (tt, tt)
safe_back colors.LightBlue = (tt, tt)
safe_back colors.LightMagenta = (tt, tt)
safe_back colors.LightCyan = (tt, tt)
safe_back colors.White = (tt, tt)
safe_back (colors.Rgb red green blue) = (tt, tt)
safe_back (colors.Indexed n) = (tt, tt)

safe_pen : (p : Pen) → IsPen p → Each IsSafeSetting (settings_of p)
safe_pen p is =
    let nine = is.nine in
    Each-append IsSafeSetting (marks_from 0 p.marks) (foreground_of p.fg ++ background_of p.bg) (safe_marks 0 p.marks (omega (arith, nine)))
    (Each-append IsSafeSetting (foreground_of p.fg) (background_of p.bg) (safe_front p.fg) (safe_back p.bg))

determined : (c : Command) → IsSafe c → IsSmall c → IsDetermined c
determined reset_modes safe small = tt
determined (place x y) safe small = small
determined (across x) safe small = small
determined (paint ss) safe small = (subst (Each IsSafeSetting) (sym safe.1.1) (safe_pen safe.0 safe.1.0), All-each IsSmallSetting ss small)
determined (add s ss) safe small = (All-each IsSafeSetting (s ∷ ss) safe.0, All-each IsSmallSetting (s ∷ ss) small)
determined (print symbol) safe small = (safe.0, text_of symbol safe.1)
determined (set_mode mode on) safe small = safe

pub all_determined : (cs : List Command) → Each IsSafe cs → Each IsSmall cs → Each IsDetermined cs
all_determined [] a b = tt
all_determined (c ∷ cs) a b = (determined c a.0 b.0, all_determined cs a.1 b.1)

-- ---- the first command

data Kind (c : Command) : Type 0 where
  tames : c ≡ reset_modes → Kind c
  prints : (symbol : List ℕ) → c ≡ print symbol → Kind c
  controls : IsControl c → IsKnown c → Kind c

kind_of : (c : Command) → IsDetermined c → Kind c
kind_of reset_modes h = tames refl
kind_of (print symbol) h = prints symbol refl
kind_of (place x y) h = controls tt h
kind_of (across x) h = controls tt h
kind_of (paint ss) h = controls tt h
kind_of (add s ss) h = controls tt h
kind_of (set_mode mode on) h = controls tt h

first : List ℕ → ℕ
first bs = get_or bs 0 0

tame_first : (c : Command) (more : List ℕ) → c ≡ reset_modes → first (encoding c ++ more) ≡ 24
unfolding encoding reset_modes_text first
tame_first c more e = ap (λ (d : Command). first (encoding d ++ more)) e

control_first : (c : Command) (more : List ℕ) → IsControl c → first (encoding c ++ more) ≡ 27
unfolding first
control_first c more h = ap first (control_begins c more h)

text_first : (symbol more : List ℕ) → 0 < length symbol → list_all is_text symbol ≡ true → 32 ≤ first (symbol ++ more)
unfolding first
text_first [] more some e = absurd (omega (arith, some))
text_first (b ∷ bs) more some e = let on = (and_parts (is_text b) (list_all is_text bs) e).0 in grind (arith, nat_tests)

print_first : (c : Command) (symbol more : List ℕ) → c ≡ print symbol → IsDetermined c → 32 ≤ first (encoding c ++ more)
unfolding encoding
print_first c symbol more e h =
    let is : IsDetermined (print symbol) = subst IsDetermined e h in
    subst (λ (d : Command). 32 ≤ first (encoding d ++ more)) (sym e) (text_first symbol more is.0 is.1)

-- two lists of bytes that begin with commands, not both of them prints
record AreOne (c d : Command) (xs ys : List ℕ) : Type 0 where
  command : c ≡ d
  others : xs ≡ ys

abbrev Prints : Command → Command → List ℕ → List ℕ → Type 0
Prints c d xs ys = (s t : List ℕ) → c ≡ print s → d ≡ print t → s ++ xs ≡ t ++ ys → (s ≡ t) × (xs ≡ ys)

both_print : (c d : Command) (s t xs ys : List ℕ) → c ≡ print s → d ≡ print t → Prints c d xs ys → encoding c ++ xs ≡ encoding d ++ ys → AreOne c d xs ys
unfolding encoding
both_print c d s t xs ys a b p e =
    let both = p s t a b (sym (ap (λ (k : Command). encoding k ++ xs) a) ∙ (e ∙ ap (λ (k : Command). encoding k ++ ys) b)) in
    record { command = a ∙ (ap (λ (l : List ℕ). print l) both.0 ∙ sym b); others = both.1 }

both_tame : (c d : Command) (xs ys : List ℕ) → c ≡ reset_modes → d ≡ reset_modes → encoding c ++ xs ≡ encoding d ++ ys → AreOne c d xs ys
both_tame c d xs ys a b e = record {
  command = a ∙ sym b;
  others = append_cancel_left (encoding reset_modes) xs ys (sym (ap (λ (k : Command). encoding k ++ xs) a) ∙ (e ∙ ap (λ (k : Command). encoding k ++ ys) b));
}

first_same : (m n : ℕ) (c d : Command) (xs ys : List ℕ) → first (encoding c ++ xs) ≡ m → first (encoding d ++ ys) ≡ n → encoding c ++ xs ≡ encoding d ++ ys → m ≡ n
first_same m n c d xs ys a b e = sym a ∙ (ap first e ∙ b)

apart : (c d : Command) (xs ys : List ℕ) → Kind c → Kind d → IsDetermined c → IsDetermined d → Prints c d xs ys → encoding c ++ xs ≡ encoding d ++ ys → AreOne c d xs ys
apart c d xs ys (tames a) (tames b) k l p e = both_tame c d xs ys a b e
apart c d xs ys (prints s a) (prints t b) k l p e = both_print c d s t xs ys a b p e
apart c d xs ys (controls a m) (controls b n) k l p e = let both = controls_apart c d xs ys a b m n e in record { command = both.0; others = both.1 }
apart c d xs ys (tames a) (prints t b) k l p e =
    let x = tame_first c xs a in let y = print_first d t ys b l in let z = ap first e in absurd (omega (arith, x, y, z))
apart c d xs ys (tames a) (controls b n) k l p e = absurd (omega (arith, first_same 24 27 c d xs ys (tame_first c xs a) (control_first d ys b) e))
apart c d xs ys (prints s a) (tames b) k l p e =
    let x = print_first c s xs a k in let y = tame_first d ys b in let z = ap first e in absurd (omega (arith, x, y, z))
apart c d xs ys (prints s a) (controls b n) k l p e =
    let x = print_first c s xs a k in let y = control_first d ys b in let z = ap first e in absurd (omega (arith, x, y, z))
apart c d xs ys (controls a m) (tames b) k l p e = absurd (omega (arith, first_same 27 24 c d xs ys (control_first c xs a) (tame_first d ys b) e))
apart c d xs ys (controls a m) (prints t b) k l p e =
    let x = control_first c xs a in let y = print_first d t ys b l in let z = ap first e in absurd (omega (arith, x, y, z))

some_first : (c : Command) (more : List ℕ) → Kind c → IsDetermined c → 24 ≤ first (encoding c ++ more)
some_first c more (tames a) h = let x = tame_first c more a in omega (arith, x)
some_first c more (prints s a) h = let x = print_first c s more a h in omega (arith, x)
some_first c more (controls a m) h = let x = control_first c more a in omega (arith, x)

no_text : (c : Command) (cs : List Command) → IsDetermined c → [] ≡ flat_map encoding (c ∷ cs) → ⊥
unfolding first
no_text c cs h e =
    let x = some_first c (flat_map encoding cs) (kind_of c h) h in
    let y = ap first (e ∙ flat_map-cons encoding c cs) in
    absurd (omega (arith, x, y))

-- ---- lists in which the prints can be read back

-- if two lists begin with a print and have the same bytes, these prints are the same
pub record Reads (P : List Command → Type 0) : Type 0 where
  pub more : (c : Command) (cs : List Command) → P (c ∷ cs) → P cs
  pub prints : (s t : List ℕ) (cs ds : List Command) → P (print s ∷ cs) → P (print t ∷ ds) → Each IsDetermined (print s ∷ cs) → Each IsDetermined (print t ∷ ds) →
      s ++ flat_map encoding cs ≡ t ++ flat_map encoding ds → (s ≡ t) × (flat_map encoding cs ≡ flat_map encoding ds)

pub one_reading : (P : List Command → Type 0) → Reads P → (cs ds : List Command) → P cs → P ds → Each IsDetermined cs → Each IsDetermined ds →
    flat_map encoding cs ≡ flat_map encoding ds → cs ≡ ds
one_reading P reads [] [] p q a b e = refl
one_reading P reads [] (d ∷ ds) p q a b e = absurd (no_text d ds b.0 e)
one_reading P reads (c ∷ cs) [] p q a b e = absurd (no_text c cs a.0 (sym e))
one_reading P reads (c ∷ cs) (d ∷ ds) p q a b e =
    let xs = flat_map encoding cs in
    let ys = flat_map encoding ds in
    let determined_first : (k : Command) (ks : List Command) (s : List ℕ) → k ≡ print s → Each IsDetermined (k ∷ ks) → Each IsDetermined (print s ∷ ks) = λ k ks s is h. subst (λ j. Each IsDetermined (j ∷ ks)) is h in
    let alike : Prints c d xs ys = λ s t is also same.
    reads.prints s t cs ds (subst (λ j. P (j ∷ cs)) is p) (subst (λ j. P (j ∷ ds)) also q) (determined_first c cs s is a) (determined_first d ds t also b) same in
    let both = apart c d xs ys (kind_of c a.0) (kind_of d b.0) a.0 b.0 alike (sym (flat_map-cons encoding c cs) ∙ (e ∙ flat_map-cons encoding d ds)) in
    ap₂ (λ (k : Command) (ks : List Command). k ∷ ks) both.command (one_reading P reads cs ds (reads.more c cs p) (reads.more d ds q) a.1 b.1 both.others)

-- ---- adjacent prints joined into one

-- no print comes right after another one
abbrev AreJoined : List Command → Type 0
AreJoined [] = Unit {0}
AreJoined (print symbol ∷ cs) = Begins cs × AreJoined cs
AreJoined (c ∷ cs) = AreJoined cs

joined_more : (c : Command) (cs : List Command) → AreJoined (c ∷ cs) → AreJoined cs
joined_more reset_modes cs h = h
joined_more (place x y) cs h = h
joined_more (across x) cs h = h
joined_more (paint ss) cs h = h
joined_more (add s ss) cs h = h
joined_more (print symbol) cs h = h.1
joined_more (set_mode mode on) cs h = h

before_joined : (symbol : List ℕ) (cs : List Command) → AreJoined cs → AreJoined (print_before symbol cs)
before_joined symbol [] h = (tt, tt)
before_joined symbol (reset_modes ∷ cs) h = (tt, h)
before_joined symbol (place x y ∷ cs) h = (tt, h)
before_joined symbol (across x ∷ cs) h = (tt, h)
before_joined symbol (paint ss ∷ cs) h = (tt, h)
before_joined symbol (add s ss ∷ cs) h = (tt, h)
before_joined symbol (print next ∷ cs) h = h
before_joined symbol (set_mode mode on ∷ cs) h = (tt, h)

joined_are : (cs : List Command) → AreJoined (joined cs)
joined_are [] = tt
joined_are (reset_modes ∷ cs) = joined_are cs
joined_are (place x y ∷ cs) = joined_are cs
joined_are (across x ∷ cs) = joined_are cs
joined_are (paint ss ∷ cs) = joined_are cs
joined_are (add s ss ∷ cs) = joined_are cs
joined_are (print symbol ∷ cs) = before_joined symbol (joined cs) (joined_are cs)
joined_are (set_mode mode on ∷ cs) = joined_are cs

-- their bytes determine them, and are the same as before
record IsSameText (cs ds : List Command) : Type 0 where
  all : Each IsDetermined ds
  text : flat_map encoding ds ≡ flat_map encoding cs

determined_both : (symbol next : List ℕ) → IsDetermined (print symbol) → IsDetermined (print next) → IsDetermined (print (symbol ++ next))
determined_both symbol next a b =
    let some = a.0 in
    (omega (arith, some, length-append symbol next), list_all-append is_text symbol next ∙ and_from (list_all is_text symbol) (list_all is_text next) a.1 b.1)

before_same : (symbol : List ℕ) (cs : List Command) → IsDetermined (print symbol) → Each IsDetermined cs → IsSameText (print symbol ∷ cs) (print_before symbol cs)
unfolding encoding
before_same symbol [] a b = record { all = (a, tt); text = refl }
before_same symbol (reset_modes ∷ cs) a b = record { all = (a, b); text = refl }
before_same symbol (place x y ∷ cs) a b = record { all = (a, b); text = refl }
before_same symbol (across x ∷ cs) a b = record { all = (a, b); text = refl }
before_same symbol (paint ss ∷ cs) a b = record { all = (a, b); text = refl }
before_same symbol (add s ss ∷ cs) a b = record { all = (a, b); text = refl }
before_same symbol (set_mode mode on ∷ cs) a b = record { all = (a, b); text = refl }
before_same symbol (print next ∷ cs) a b = record {
  all = (determined_both symbol next a b.0, b.1);
  text =
      flat_map-cons encoding (print (symbol ++ next)) cs
      ∙ (append_assoc symbol next (flat_map encoding cs)
      ∙ (ap (λ (l : List ℕ). symbol ++ l) (sym (flat_map-cons encoding (print next) cs)) ∙ sym (flat_map-cons encoding (print symbol) (print next ∷ cs))));
}

more_same : (c : Command) (cs ds : List Command) → IsDetermined c → IsSameText cs ds → IsSameText (c ∷ cs) (c ∷ ds)
more_same c cs ds h same = record {
  all = (h, same.all);
  text = flat_map-cons encoding c ds ∙ (ap (λ (l : List ℕ). encoding c ++ l) same.text ∙ sym (flat_map-cons encoding c cs));
}

print_same : (symbol : List ℕ) (cs ds : List Command) → IsDetermined (print symbol) → IsSameText cs ds → IsSameText (print symbol ∷ cs) (print_before symbol ds)
print_same symbol cs ds h same =
    let here = before_same symbol ds h same.all in
    record { all = here.all; text = here.text ∙ (more_same (print symbol) cs ds h same).text }

joined_same : (cs : List Command) → Each IsDetermined cs → IsSameText cs (joined cs)
joined_same [] h = record { all = tt; text = refl }
joined_same (reset_modes ∷ cs) h = more_same reset_modes cs (joined cs) h.0 (joined_same cs h.1)
joined_same (place x y ∷ cs) h = more_same (place x y) cs (joined cs) h.0 (joined_same cs h.1)
joined_same (across x ∷ cs) h = more_same (across x) cs (joined cs) h.0 (joined_same cs h.1)
joined_same (paint ss ∷ cs) h = more_same (paint ss) cs (joined cs) h.0 (joined_same cs h.1)
joined_same (add s ss ∷ cs) h = more_same (add s ss) cs (joined cs) h.0 (joined_same cs h.1)
joined_same (set_mode mode on ∷ cs) h = more_same (set_mode mode on) cs (joined cs) h.0 (joined_same cs h.1)
joined_same (print symbol ∷ cs) h = print_same symbol cs (joined cs) h.0 (joined_same cs h.1)

-- after a print the next byte belongs to no symbol
stops_at : (bs : List ℕ) → first bs < 32 → Stops is_text bs
unfolding first
stops_at [] lt = tt
stops_at (b ∷ bs) lt = grind (arith, nat_tests)

low_first : (c : Command) (more : List ℕ) → Kind c → ((symbol : List ℕ) → c ≡ print symbol → ⊥) → first (encoding c ++ more) < 32
low_first c more (tames a) other = let x = tame_first c more a in omega (arith, x)
low_first c more (prints s a) other = absurd (other s a)
low_first c more (controls a m) other = let x = control_first c more a in omega (arith, x)

begins_not : (c : Command) (cs : List Command) (symbol : List ℕ) → Begins (c ∷ cs) → c ≡ print symbol → ⊥
begins_not c cs symbol h e = subst (λ (d : Command). Begins (d ∷ cs)) e h

stops_text : (cs : List Command) → Begins cs → Each IsDetermined cs → Stops is_text (flat_map encoding cs)
stops_text [] h all = tt
stops_text (c ∷ cs) h all =
    subst (Stops is_text) (sym (flat_map-cons encoding c cs))
    (stops_at (encoding c ++ flat_map encoding cs) (low_first c (flat_map encoding cs) (kind_of c all.0) (λ symbol e. begins_not c cs symbol h e)))

joined_read : Reads AreJoined
joined_read = record {
  more = joined_more;
  prints = λ s t cs ds p q a b e.
      split is_text s t (flat_map encoding cs) (flat_map encoding ds) a.0.1 b.0.1 (stops_text cs p.0 a.1) (stops_text ds q.0 b.1) e;
}

pub has_one_reading : HasOneReading
has_one_reading cs ds safe_cs safe_ds small_cs small_ds e =
    let a = joined_same cs (all_determined cs (All-each IsSafe cs safe_cs) (All-each IsSmall cs small_cs)) in
    let b = joined_same ds (all_determined ds (All-each IsSafe ds safe_ds) (All-each IsSmall ds small_ds)) in
    one_reading AreJoined joined_read (joined cs) (joined ds) (joined_are cs) (joined_are ds) a.all b.all (a.text ∙ (e ∙ sym b.text))
