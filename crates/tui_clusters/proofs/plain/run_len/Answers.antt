use Rattle.std.proofs.Common.{rules}
use Rattle.tui_clusters.proofs.Runs.{shorter_run}
use Rattle.tui_clusters.proofs.plain.run_len.Goals as goal

pub returns-then-plain_len-eq0-clause-run : goal.returns-then-plain_len-eq0-clause-run
returns-then-plain_len-eq0-clause-run c = shorter_run c.args.text.now c.as_bytes-bytes.result.now c.printable_len-end.result _
    c.as_bytes-bytes.ensures.value c.printable_len-end.ensures.printable (search rules) (search rules)
