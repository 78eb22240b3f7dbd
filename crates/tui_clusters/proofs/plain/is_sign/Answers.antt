use Rattle.std.proofs.Common.{◌≡◌, length, get_or, sym, ap, ◌∙◌, arith}
use Rattle.tui_clusters.specs.Plain.{is_sign_start}
use Rattle.tui_clusters.proofs.LeadBytes.{sign_char}
use Rattle.tui_clusters.proofs.plain.is_sign.Goals as goal

pub returns : goal.returns
returns c = λ h.
    let size : length c.args.text.now ≡ 3 = omega (arith, ap length c.as_bytes-bytes.ensures.value) in
    sign_char c.args.text.now c.utf8.text size
    (ap (λ t. is_sign_start (get_or t 0 0) (get_or t 1 0)) (sym c.as_bytes-bytes.ensures.value) ∙ (sym c.is_sign_start.ensures ∙ h))
