use Rattle.std.proofs.Common.{◌≡◌, length, refl, sym, ◌∙◌, arith}
use Rattle.tui_clusters.proofs.LeadBytes.{sign_plain}
use Rattle.tui_clusters.proofs.PlainChars.{lone_char_is, no_char_in_nothing, IsPlainChar-from}
use Rattle.tui_clusters.proofs.plain.is_plain_char.Goals as goal

pub returns-then-is_sign : goal.returns-then-is_sign
returns-then-is_sign c = (λ _. sign_plain c.args.text.now (c.is_sign.ensures c.if-is_sign.true), λ _. refl)

pub returns-then-is_empty : goal.returns-then-is_empty
returns-then-is_empty c =
    let none : length c.in-Some.rest.now ≡ 0 = grind (arith, c.is_empty.ensures) in (
      λ h. IsPlainChar-from c.args.text.now c.in-Some.rest.now c.in-Some.c c.utf8.text c.in-Some.ensures.split none (sym c.is_plain.ensures ∙ h),
      λ p. c.is_plain.ensures ∙ (lone_char_is c.args.text.now c.in-Some.rest.now c.in-Some.c c.utf8.text c.in-Some.ensures.split p).1,
    )

pub returns-else-is_empty : goal.returns-else-is_empty
returns-else-is_empty c =
    (λ h. cc, λ p. let none = (lone_char_is c.args.text.now c.in-Some.rest.now c.in-Some.c c.utf8.text c.in-Some.ensures.split p).0 in grind (arith, c.is_empty.ensures))

pub returns-in-None : goal.returns-in-None
returns-in-None c = (λ h. cc, λ p. absurd (no_char_in_nothing c.args.text.now (c.split_first.ensures.none c.in-None.is) p))
