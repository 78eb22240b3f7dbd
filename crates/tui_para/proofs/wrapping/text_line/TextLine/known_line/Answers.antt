use Rattle.std.proofs.Common.{◌≡◌, ◌+◌, ◌-◌, ◌<◌, [], ap, take, drop, length, inl, inr, rules, arith}
use Rattle.std.proofs.lemmas.List.{drop_all, length-drop, length-map}
use Rattle.std.specs.Prelude.{◌⊎◌}
use Rattle.tui_para.specs.Mark.{mark_of, size_of}
use Rattle.tui_para.specs.Marked.{splits_of}
use Rattle.tui_para.proofs.FirstLines.{empty_place, first_known, if_some}
use Rattle.tui_para.proofs.WithSplits.{seen_columns}
use Rattle.tui_para.proofs.Parts.{seen_from, seen_fit, seen_width}
use Rattle.tui_para.proofs.wrapping.text_line.TextLine.known_line.Goals.{else-line-rest-via-then-line-rest+else-is_some, else-line-rest-via-else-line-rest}
use Rattle.tui_para.proofs.wrapping.text_line.TextLine.known_line.Goals as goal

pub next_line-line-requires : goal.next_line-line-requires
next_line-line-requires g c =
    let s = c.args.self.now in
    seen_fit mark_of (splits_of s.line) _ s.place (ap (λ ms. take (length ms - s.place) (drop s.place ms)) c.marks-marks.ensures) size_of s.width s.fit

pub returns-then-self-len-clause-some : goal.returns-then-self-len-clause-some
returns-then-self-len-clause-some g c =
    let s = c.args.self.now in
    let gone : drop s.place (splits_of s.line) ≡ [] = let long = c.len.ensures in let far = c.if-self-len.true in drop_all s.place (splits_of s.line) (omega arith) in
    if_some _ _ c.empty_line.result (λ p is. empty_place s p is.2 is.0 is.1 gone) c.empty_line.ensures.some

pub returns-clause-some : goal.returns-clause-some
returns-clause-some g c =
    let s = c.args.self.now in
    let line = c.next_line-line.result in
    let rest = ap (λ ms. take (length ms - s.place) (drop s.place ms)) c.marks-marks.ensures in
    let seen = seen_from mark_of (splits_of s.line) _ s.place rest in
    let many = ap length seen in
    let all = length-map (drop s.place (splits_of s.line)) mark_of in
    let long = length-drop s.place (splits_of s.line) in
    let near : s.place < length (splits_of s.line) = let read = c.len.ensures in let far = c.if-self-len.false in omega arith in
    let (ordered, before, within) = c.next_line-line.ensures.order in
    record {
      order = omega arith;
      within = (omega arith, omega arith);
      columns = seen_columns (splits_of s.line) (s.place + line.start) (s.place + line.end) line.width (seen_width mark_of (splits_of s.line) _ s.place rest size_of line.start line.end line.width c.next_line-line.ensures.width);
      first = λ glyphs ended.
          let known : (line.next < length (drop s.place (splits_of s.line))) ⊎ (glyphs ≡ []) = elim c.else-line-rest.branch [
            | else-line-rest-via-then-line-rest+else-is_some w ↦ inr (ended (search rules))
            | else-line-rest-via-else-line-rest w ↦ inl (let past = w.if-line-rest.false in omega arith)
          ] in
          first_known s glyphs line.start line.end line.next line.width near (c.next_line-line.ensures.line (drop s.place (splits_of s.line)) seen) known;
    }
