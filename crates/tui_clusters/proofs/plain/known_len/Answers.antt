use Rattle.std.proofs.Common.{arith}
use Rattle.tui_clusters.proofs.FirstPlain.{quick_alone, quick_before}
use Rattle.tui_clusters.proofs.plain.known_len.Goals as goal

pub returns-then-len-bytes : goal.returns-then-len-bytes
returns-then-len-bytes c =
    λ some. quick_alone c.args.text.now c.as_bytes-bytes.result.now c.plain_len-len.result c.utf8.text c.requires c.as_bytes-bytes.ensures.value c.plain_len-len.ensures some (omega arith)

pub returns-then-plain_len-gt0 : goal.returns-then-plain_len-gt0
returns-then-plain_len-gt0 c =
    λ some. quick_before c.args.text.now c.as_bytes-bytes.result.now c.plain_len-len.result c.utf8.text c.requires c.as_bytes-bytes.ensures.value c.plain_len-len.ensures some
    c.plain_len.result (omega arith) c.plain_len.ensures (omega arith)
