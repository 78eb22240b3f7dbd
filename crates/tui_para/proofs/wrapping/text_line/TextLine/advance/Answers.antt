use Rattle.std.proofs.Common.{◌≡◌, None, refl, rules}
use Rattle.tui_para.proofs.PartsRead.{HasRead-none, HasRead-then, found_none, found_part}
use Rattle.tui_para.proofs.wrapping.text_line.TextLine.advance.Goals as goal

pub lines-init : goal.lines-init
lines-init g c = record { ready = c.requires; read = HasRead-none g.I.Iterator.next_gives c.args.self.now }

pub returns-in-Some-clause-found : goal.returns-in-Some-clause-found
returns-in-Some-clause-found g c =
    let e = c.pass.ensures in
    found_part g.I.Iterator.next_gives c.args.self.now c.lines.self c.pass.new.self c.in-Some.line c.pass.result e.source e.line e.width e.wrap e.is_new e.place e.part
    c.lines.invariant.read c.in-Some.ensures.some

pub returns-then-is_none-clause-found : goal.returns-then-is_none-clause-found
returns-then-is_none-clause-found g c =
    let ends : c.lines.self.source ≡ None = search rules in
    let (old, gone) = c.in_default.ensures.none refl ends in
    found_none g.I.Iterator.next_gives c.args.self.now c.lines.self c.lines.invariant.read ends old gone

pub lines-preserved : goal.lines-preserved
lines-preserved g c = record {
  ready = c.in_ok-read_more.ensures.ready;
  read = HasRead-then g.I.Iterator.next_gives c.args.self.now c.lines.self c.read_more.new.self c.lines.invariant.read c.in_ok-read_more.ensures.read;
}
