-- Control sequences: ESC, [, parameters and a final byte.
use Rattle.std.proofs.Common.{◌≡◌, ℕ, ◌+◌, ◌^◌, ◌<◌, Bool, true, false, List, [], ◌∷◌, ◌++◌, length, get_or, flat_map, if◌then◌else◌, inl, inr, ◌⊎◌, refl, sym, ap, ap₂, ◌∙◌, append_assoc, arith}
use Rattle.std.specs.Prelude.{decimal}
use Rattle.std.specs.List.{list_all}
use Rattle.std.proofs.lemmas.Fmt.{decimal_injective}
use Rattle.tui_terminal_laws.specs.Reading.{IsSmallSetting}
use Rattle.tui_terminal_model.specs.Sends.{IsSafeMode, IsSafeSetting}
use Rattle.tui_terminal_model.specs.Encoding.{mode_text, next_setting_text, setting_text, encoding, switch_text}
use Rattle.tui_terminal_model.specs.Terminal.{Setting, Mode, autowrap, visible, synchronizing, bracketed, alternate, Command, reset_modes, place, across, paint, add, print, set_mode}
use Rattle.tui_terminal_laws.proofs.Lists.{Each}
use Rattle.tui_terminal_laws.proofs.Splitting.{same_rest, split}
use Rattle.tui_terminal_laws.proofs.Numbers.{both_low, digits_are, is_digit, is_low, number_low}
use Rattle.tui_terminal_laws.proofs.Settings.{added_low, no_zero_text, same_added, same_texts, settings_low}

-- a command that is a control sequence
abbrev pub IsControl : Command → Type 0
IsControl reset_modes = ⊥
IsControl (print symbol) = ⊥
IsControl _ = Unit {0}

-- its settings and numbers can be read back from its bytes
abbrev AreKnown : List Setting → Type 0
AreKnown ss = Each IsSafeSetting ss × Each IsSmallSetting ss

abbrev pub IsKnown : Command → Type 0
IsKnown (place x y) = (x + 1 < 2 ^ 64) × (y + 1 < 2 ^ 64)
IsKnown (across x) = x + 1 < 2 ^ 64
IsKnown (paint ss) = AreKnown ss
IsKnown (add s ss) = AreKnown (s ∷ ss)
IsKnown (set_mode mode on) = IsSafeMode mode
IsKnown _ = Unit {0}

abbrev parameters : Command → List ℕ
parameters reset_modes = []
parameters (print symbol) = []
parameters (place x y) = decimal (y + 1) ++ (59 ∷ decimal (x + 1))
parameters (across x) = decimal (x + 1)
parameters (paint ss) = 48 ∷ flat_map next_setting_text ss
parameters (add s ss) = setting_text s ++ flat_map next_setting_text ss
parameters (set_mode mode on) = 63 ∷ mode_text mode

abbrev switch : Bool → ℕ
switch on = if on then 104 else 108

abbrev final : Command → ℕ
final reset_modes = 0
final (print symbol) = 0
final (place x y) = 72
final (across x) = 71
final (paint ss) = 109
final (add s ss) = 109
final (set_mode mode on) = switch on

-- ---- its bytes

switched : (on : Bool) → switch_text on ≡ switch on ∷ []
switched true = refl
switched false = refl

control_text : (c : Command) → IsControl c → encoding c ≡ 27 ∷ 91 ∷ (parameters c ++ final c ∷ [])
unfolding encoding
control_text (place x y) h = ap (λ (l : List ℕ). 27 ∷ 91 ∷ l) (sym (append_assoc (decimal (y + 1)) (59 ∷ decimal (x + 1)) (72 ∷ [])))
control_text (across x) h = refl
control_text (paint ss) h = refl
control_text (add s ss) h = ap (λ (l : List ℕ). 27 ∷ 91 ∷ l) (sym (append_assoc (setting_text s) (flat_map next_setting_text ss) (109 ∷ [])))
control_text (set_mode mode on) h = ap (λ (l : List ℕ). 27 ∷ 91 ∷ 63 ∷ (mode_text mode ++ l)) (switched on)
control_text reset_modes h = absurd h
control_text (print symbol) h = absurd h

pub control_begins : (c : Command) (more : List ℕ) → IsControl c → encoding c ++ more ≡ 27 ∷ 91 ∷ (parameters c ++ final c ∷ more)
control_begins c more h =
    ap (λ (l : List ℕ). l ++ more) (control_text c h) ∙ ap (λ (l : List ℕ). 27 ∷ 91 ∷ l) (append_assoc (parameters c) (final c ∷ []) more)

-- its final byte differs from the bytes before it
mode_low : (mode : Mode) → list_all is_low (63 ∷ mode_text mode) ≡ true
mode_low autowrap = refl
mode_low visible = refl
mode_low synchronizing = refl
mode_low bracketed = refl
mode_low alternate = refl

low : (c : Command) → IsKnown c → list_all is_low (parameters c) ≡ true
low (place x y) h = both_low (decimal (y + 1)) (59 ∷ decimal (x + 1)) (number_low (y + 1) h.1) (number_low (x + 1) h.0)
low (across x) h = number_low (x + 1) h
low (paint ss) h = settings_low ss h.0 h.1
low (add s ss) h = added_low s ss h.0 h.1
low (set_mode mode on) h = mode_low mode
low reset_modes h = refl
low (print symbol) h = refl

high : (c : Command) → IsControl c → is_low (final c) ≡ false
high (place x y) h = refl
high (across x) h = refl
high (paint ss) h = refl
high (add s ss) h = refl
high (set_mode mode true) h = refl
high (set_mode mode false) h = refl
high reset_modes h = absurd h
high (print symbol) h = absurd h

-- ---- two control sequences

same_place : (x y v w : ℕ) → IsKnown (place x y) → IsKnown (place v w) → parameters (place x y) ≡ parameters (place v w) → place x y ≡ place v w
same_place x y v w a b e =
    let both = split is_digit (decimal (y + 1)) (decimal (w + 1)) (59 ∷ decimal (x + 1)) (59 ∷ decimal (v + 1)) (digits_are (y + 1) a.1) (digits_are (w + 1) b.1) refl refl e in
    let row : y + 1 ≡ w + 1 = decimal_injective (y + 1) (w + 1) a.1 b.1 both.0 in
    let column : x + 1 ≡ v + 1 = decimal_injective (x + 1) (v + 1) a.0 b.0 (same_rest 59 59 (decimal (x + 1)) (decimal (v + 1)) both.1) in
    let row_is : y ≡ w = omega (arith, row) in
    let column_is : x ≡ v = omega (arith, column) in
    ap₂ (λ m n. place m n) column_is row_is

same_across : (x v : ℕ) → x + 1 < 2 ^ 64 → v + 1 < 2 ^ 64 → decimal (x + 1) ≡ decimal (v + 1) → across x ≡ across v
same_across x v a b e =
    let column : x + 1 ≡ v + 1 = decimal_injective (x + 1) (v + 1) a b e in
    let is : x ≡ v = omega (arith, column) in
    ap (λ n. across n) is

add_of : List Setting → Command
add_of [] = reset_modes
add_of (s ∷ ss) = add s ss

same_add : (s t : Setting) (ss ts : List Setting) → s ∷ ss ≡ t ∷ ts → add s ss ≡ add t ts
unfolding add_of
same_add s t ss ts e = ap add_of e

same_mode : (m n : Mode) → IsSafeMode m → IsSafeMode n → 63 ∷ mode_text m ≡ 63 ∷ mode_text n → m ≡ n
same_mode visible visible a b e = refl
same_mode synchronizing synchronizing a b e = refl
same_mode visible synchronizing a b e = absurd (omega (arith, ap length e))
same_mode synchronizing visible a b e = absurd (omega (arith, ap length e))
same_mode visible autowrap a b e = absurd b
same_mode visible bracketed a b e = absurd b
same_mode visible alternate a b e = absurd b
same_mode synchronizing autowrap a b e = absurd b
same_mode synchronizing bracketed a b e = absurd b
same_mode synchronizing alternate a b e = absurd b
same_mode autowrap n a b e = absurd a
same_mode bracketed n a b e = absurd a
same_mode alternate n a b e = absurd a

same_switch : (on off : Bool) → switch on ≡ switch off → on ≡ off
same_switch true true e = refl
same_switch false false e = refl
same_switch true false e = absurd (omega (arith, e))
same_switch false true e = absurd (omega (arith, e))

-- no other command has the final byte of one that sets or resets a mode
no_switch : (n : ℕ) (on : Bool) → n < 104 ⊎ 108 < n → n ≡ switch on → ⊥
no_switch n true (inl lt) e = absurd (omega (arith, e, lt))
no_switch n true (inr lt) e = absurd (omega (arith, e, lt))
no_switch n false (inl lt) e = absurd (omega (arith, e, lt))
no_switch n false (inr lt) e = absurd (omega (arith, e, lt))

same_control : (c d : Command) → IsControl c → IsControl d → IsKnown c → IsKnown d → parameters c ≡ parameters d → final c ≡ final d → c ≡ d
same_control (place x y) (place v w) a b k l e f = same_place x y v w k l e
same_control (across x) (across v) a b k l e f = same_across x v k l e
same_control (paint ss) (paint ts) a b k l e f = ap (λ us. paint us) (same_texts ss ts k.0 l.0 k.1 l.1 (same_rest 48 48 (flat_map next_setting_text ss) (flat_map next_setting_text ts) e))
same_control (add s ss) (add t ts) a b k l e f = same_add s t ss ts (same_added s t ss ts k.0 l.0 k.1 l.1 e)
same_control (set_mode m on) (set_mode n off) a b k l e f = ap₂ (λ i j. set_mode i j) (same_mode m n k l e) (same_switch on off f)
same_control (paint ss) (add t ts) a b k l e f = absurd (no_zero_text t ts ss l.0 k.0 l.1 k.1 e)
same_control (add s ss) (paint ts) a b k l e f = absurd (no_zero_text s ss ts k.0 l.0 k.1 l.1 (sym e))
same_control (place x y) (across v) a b k l e f = absurd (omega (arith, f))
same_control (place x y) (paint ts) a b k l e f = absurd (omega (arith, f))
same_control (place x y) (add t ts) a b k l e f = absurd (omega (arith, f))
same_control (place x y) (set_mode n off) a b k l e f = absurd (no_switch 72 off (inl (omega arith)) f)
same_control (across x) (place v w) a b k l e f = absurd (omega (arith, f))
same_control (across x) (paint ts) a b k l e f = absurd (omega (arith, f))
same_control (across x) (add t ts) a b k l e f = absurd (omega (arith, f))
same_control (across x) (set_mode n off) a b k l e f = absurd (no_switch 71 off (inl (omega arith)) f)
same_control (paint ss) (place v w) a b k l e f = absurd (omega (arith, f))
same_control (paint ss) (across v) a b k l e f = absurd (omega (arith, f))
same_control (paint ss) (set_mode n off) a b k l e f = absurd (no_switch 109 off (inr (omega arith)) f)
same_control (add s ss) (place v w) a b k l e f = absurd (omega (arith, f))
same_control (add s ss) (across v) a b k l e f = absurd (omega (arith, f))
same_control (add s ss) (set_mode n off) a b k l e f = absurd (no_switch 109 off (inr (omega arith)) f)
same_control (set_mode m on) (place v w) a b k l e f = absurd (no_switch 72 on (inl (omega arith)) (sym f))
same_control (set_mode m on) (across v) a b k l e f = absurd (no_switch 71 on (inl (omega arith)) (sym f))
same_control (set_mode m on) (paint ts) a b k l e f = absurd (no_switch 109 on (inr (omega arith)) (sym f))
same_control (set_mode m on) (add t ts) a b k l e f = absurd (no_switch 109 on (inr (omega arith)) (sym f))
same_control reset_modes d a b k l e f = absurd a
same_control (print symbol) d a b k l e f = absurd a
same_control c reset_modes a b k l e f = absurd b
same_control c (print symbol) a b k l e f = absurd b

-- of two lists of bytes that begin with a control sequence, these are the same if the lists are
pub controls_apart : (c d : Command) (xs ys : List ℕ) → IsControl c → IsControl d → IsKnown c → IsKnown d → encoding c ++ xs ≡ encoding d ++ ys → (c ≡ d) × (xs ≡ ys)
controls_apart c d xs ys a b k l e =
    let first = parameters c ++ final c ∷ xs in
    let second = parameters d ++ final d ∷ ys in
    let is : 27 ∷ 91 ∷ first ≡ 27 ∷ 91 ∷ second = sym (control_begins c xs a) ∙ (e ∙ control_begins d ys b) in
    let both = split is_low (parameters c) (parameters d) (final c ∷ xs) (final d ∷ ys) (low c k) (low d l) (high c a) (high d b)
    (same_rest 91 91 first second (same_rest 27 27 (91 ∷ first) (91 ∷ second) is)) in
    (same_control c d a b k l both.0 (ap (λ (l : List ℕ). get_or l 0 0) both.1), same_rest (final c) (final d) xs ys both.1)
