use Rattle.std.proofs.Common.{rules, ◌≡◌, [], ◌++◌, take, ap, ◌∙◌, append_assoc, List, ℕ}
use Rattle.std.proofs.lemmas.List.{take-append-drop}
use Rattle.tui_io.proofs.Outside.{WritesIf-then}
use Rattle.tui_io.proofs.Printing.{put_with}
use Rattle.tui_io.proofs.print.Print.extend_past.Goals as goal

pub returns-else-rest-lt-ROOM : goal.returns-else-rest-lt-ROOM
returns-else-rest-lt-ROOM g c =
    let inside = c.self-else-rest-lt-ROOM.inside in
    let old = c.args.self.now in
    let first = c.split_at.result.0.now in
    let rest = c.split_at.result.1.now in
    let empty : take inside.len inside.bytes ≡ [] = search rules in
    let ok_so_far : c.put.new.self.ok_so_far ≡ inside.ok_so_far = search rules in
    let gathered : c.add_all.new.self.bytes ≡ old.bytes ++ first = search rules in
    let before : c.add_all.new.self.ok_so_far ≡ old.ok_so_far = search rules in
    let whole : first ++ rest ≡ c.args.bytes.now = rw (c.split_at.ensures.front, c.split_at.ensures.back) (take-append-drop _ _) in
    let both = append_assoc old.bytes first rest ∙ ap (λ (l : List ℕ). old.bytes ++ l) whole in
    let start = rw (before, gathered, ok_so_far) at c.put.ensures.writes_if in
    let all = rw both at (WritesIf-then start c.write_if-self-inside.ensures) in
    record { passed = rw empty (put_with _ _ _ _ old.bytes c.args.bytes.now all) }
