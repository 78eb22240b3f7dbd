use Rattle.tui_system.proofs.environment.depth.Goals as goal

pub returns : goal.returns
returns g c = record {
  no_color = _;
  colorterm = _;
  term = _;
  texts = (c.in_ok-no_color.ensures, c.in_ok-colorterm.ensures, c.in_ok-term.ensures);
  is = rw (c.as_str.ensures.value, c.as_str-2.ensures.value, c.as_str-3.ensures.value) at c.depth_of.ensures;
}
