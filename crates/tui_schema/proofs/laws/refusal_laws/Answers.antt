use Rattle.std.proofs.Common.{rules}
use Rattle.tui_schema.proofs.Same.{same_bad_field, same_error, same_field}
use Rattle.tui_schema.proofs.laws.refusal_laws.Goals as goal

pub returns : goal.returns
returns c = record {
  field = same_field;
  bad_field = same_bad_field;
  error = same_error;
  field_clone = search rules;
  bad_field_clone = search rules;
  error_clone = search rules;
}
