use Rattle.tui_frames.proofs.shadow.Shadow.light_shade.Goals as goal

pub returns : goal.returns
unfolding lib.Utf8.encode
returns c = c.symbol.ensures
