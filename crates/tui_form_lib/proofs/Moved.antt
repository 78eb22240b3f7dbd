-- An event that a value does not use changes nothing.
use Rattle.std.proofs.Common.{◌≡◌, ℕ, Bool, true, false, length, Option, None, Some, refl, ap, arith}
use Rattle.std.specs.Prelude.{◌||◌, is_some, if◌then◌else◌}
use Rattle.std.proofs.lemmas.Bool.Decides.{nat_tests}
use Rattle.std.specs.Option.{option_or}
use Rattle.tui_form_lib.specs.Value.{ValueData, check, choice, chosen_by, typed_value, value_after, value_takes}
use Rattle.tui_input.specs.State.{TypedText}
use Rattle.tui_input.specs.Taking.{commanded, is_command, is_key, keyed, pasted}
use Rattle.tui_keys.specs.declared.event.Event.{Event}
use Rattle.tui_keys.specs.declared.event.Event.TheVariants as events

ctrl_rests : (s : TypedText) (c : ℕ) → is_command c ≡ false → commanded s c ≡ s
ctrl_rests s c no_ = grind (arith, nat_tests)

key_rests : (s : TypedText) (e : Event) → is_key e ≡ false → keyed s e ≡ s
key_rests s (events.Char c) no_ = cc
key_rests s events.Enter no_ = refl
key_rests s events.Tab no_ = refl
key_rests s events.BackTab no_ = refl
key_rests s events.Backspace no_ = cc
key_rests s events.Esc no_ = refl
key_rests s events.Up no_ = refl
key_rests s events.Down no_ = refl
key_rests s events.Left no_ = cc
key_rests s events.Right no_ = cc
key_rests s events.Home no_ = cc
key_rests s events.End no_ = cc
key_rests s events.PageUp no_ = refl
key_rests s events.PageDown no_ = refl
key_rests s events.Insert no_ = refl
key_rests s events.Delete no_ = cc
key_rests s (events.F n) no_ = refl
key_rests s (events.Ctrl c) no_ = ctrl_rests s c no_
key_rests s (events.Alt c) no_ = refl
key_rests s (events.With m k) no_ = refl
key_rests s events.PasteBegin no_ = cc
key_rests s events.PasteEnd no_ = refl
key_rests s (events.Resize width height) no_ = refl
key_rests s events.Tick no_ = refl
key_rests s events.Unknown no_ = refl

text_rests_if : (s : TypedText) (e : Event) (pasting : Bool) → (pasting || is_key e) ≡ false → (if pasting then pasted s e else keyed s e) ≡ s
text_rests_if s e true no_ = cc
text_rests_if s e false no_ = key_rests s e no_

or_rests : (by chosen : Option ℕ) → is_some by ≡ false → option_or by chosen ≡ chosen
or_rests None chosen no_ = refl
or_rests (Some p) chosen no_ = cc

pub value_rests : (v : ValueData) (e : Event) → value_takes v e ≡ false → value_after v e ≡ v
value_rests (typed_value text is_masked) e no_ = ap (λ (s : TypedText). typed_value s is_masked) (text_rests_if text e text.pasting no_)
value_rests (choice texts chosen) e no_ = ap (choice texts) (or_rests (chosen_by (length texts) chosen e) chosen no_)
value_rests (check is_on) e no_ = rw no_ refl
