use Rattle.std.proofs.Common.{◌≡◌, ◌∙◌, ap, length, rules, sym}
use Rattle.std.specs.Prelude.{vec_len}
use Rattle.std.proofs.lemmas.List.{length-map}
use Rattle.tui_pager_lib.specs.Entry.{entry_data}
use Rattle.tui_pager_lib.proofs.contents.Contents.len.Goals as goal

pub returns : goal.returns
returns c =
    let count : vec_len c.self.inside.entries ≡ length c.self.inside.entries.items = search rules in
    c.len.ensures ∙ (count ∙ (sym (length-map c.self.inside.entries.items entry_data) ∙ ap length c.self.view_is))
