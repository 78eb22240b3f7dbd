use Rattle.std.proofs.Common.{◌≡◌, length, get_or, sym, ap, ◌∙◌, arith}
use Rattle.tui_clusters.specs.Plain.{plain_len}
use Rattle.tui_clusters.proofs.LeadBytes.{ideograph_lead, known_char}
use Rattle.tui_clusters.proofs.plain.is_ideograph.Goals as goal

pub returns : goal.returns
returns c = λ h.
    let size : length c.args.text.now ≡ 3 = omega (arith, ap length c.as_bytes-bytes.ensures.value) in
    known_char c.args.text.now 3 c.utf8.text size (omega arith)
    (ap (λ t. plain_len (get_or t 0 0)) (sym c.as_bytes-bytes.ensures.value) ∙ ideograph_lead _ (sym c.is_within.ensures ∙ h))
