use Rattle.std.proofs.Common.{◌∙◌, ap, length, map, subst, sym, List}
use Rattle.std.proofs.lemmas.List.{length-map}
use Rattle.tui_pager_lib.specs.Entry.{EntryData, entry_data}
use Rattle.tui_pager_lib.specs.Laws.{SelectsEntry}
use Rattle.tui_pager_lib.specs.Screen.{body_of}
use Rattle.tui_pager_lib.proofs.contents.Contents.body.Goals as goal

pub selected_body-requires : goal.selected_body-requires
selected_body-requires c =
    let here = ap (map entry_data) c.deref.ensures.value ∙ c.self.view_is in
    subst (λ n. SelectsEntry n c.args.selected) (ap length (sym here) ∙ length-map c.deref.result.now entry_data) c.requires

pub returns : goal.returns
returns c =
    let here = ap (map entry_data) c.deref.ensures.value ∙ c.self.view_is in
    c.selected_body.ensures ∙ ap (λ (es : List EntryData). body_of es c.args.selected) here
