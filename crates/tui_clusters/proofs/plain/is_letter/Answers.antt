use Rattle.std.proofs.Common.{◌≡◌, length, get_or, sym, ap, ap₂, ◌∙◌, arith, ◌||◌}
use Rattle.tui_clusters.specs.Plain.{plain_len}
use Rattle.tui_clusters.proofs.LeadBytes.{leads_two, letter_bytes, letter_lead, known_char}
use Rattle.tui_clusters.proofs.plain.is_letter.Goals as goal

pub returns-then-bytes-ne2 : goal.returns-then-bytes-ne2
returns-then-bytes-ne2 c = (λ h. cc, λ p. absurd (omega (arith, ap length c.as_bytes-bytes.ensures.value, (letter_bytes c.args.text.now p).0)))

pub returns : goal.returns
returns c =
    let size : length c.args.text.now ≡ 2 = omega (arith, ap length c.as_bytes-bytes.ensures.value) in
    let tests = ap₂ ◌||◌ (sym c.is_within.ensures) (sym c.is_within-2.ensures) in (
      λ h.
          known_char c.args.text.now 2 c.utf8.text size (omega arith)
          (ap (λ t. plain_len (get_or t 0 0)) (sym c.as_bytes-bytes.ensures.value) ∙ letter_lead _ (tests ∙ h)),
      λ p. sym tests ∙ (ap (λ t. leads_two (get_or t 0 0)) c.as_bytes-bytes.ensures.value ∙ (letter_bytes c.args.text.now p).1),
    )
