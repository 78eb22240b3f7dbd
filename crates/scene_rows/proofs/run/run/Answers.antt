use Rattle.scene_rows.proofs.run.run.Goals as goal

pub returns : goal.returns
returns c = (
  c.end-status.new.source.left,
  c.end-status.new.source.io_errors,
  rw (c.new-source.ensures, c.in_ok-sink.ensures) at c.end-status.ensures,
)
