use Rattle.tui_schema.proofs.FieldsExplained.{item_found, scene_found}
use Rattle.tui_schema.proofs.FieldsLead.{item_leads, scene_leads}
use Rattle.tui_schema.proofs.laws.explained_law.Goals as goal

pub returns : goal.returns
returns c = record {
  scenes = record { found = scene_found; leads = λ d bad. scene_leads bad d };
  items = record { found = item_found; leads = item_leads };
}
