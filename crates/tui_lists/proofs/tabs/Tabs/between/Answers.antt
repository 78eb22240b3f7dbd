use Rattle.std.proofs.Common.{◌≡◌, length, refl, rules}
use Rattle.std.specs.Prelude.{vec_len}
use Rattle.std.proofs.lemmas.List.{length-map}
use Rattle.tui_text.specs.Line.{line_data}
use Rattle.tui_lists.proofs.tabs.Tabs.between.Goals as goal

pub returns : goal.returns
unfolding lib.Utf8.encode
returns c =
    let titles = c.args.titles in
    let count : vec_len titles ≡ length titles.items = search rules in
    rw (c.selected_in-selected.ensures, c.len.ensures, c.new.ensures, c.reversed.ensures, c.raw.ensures, length-map titles.items line_data, count) refl
