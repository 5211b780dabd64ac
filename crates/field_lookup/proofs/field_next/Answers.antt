use Rattle.field_lookup.proofs.Fields.{stepped}
use Rattle.field_lookup.proofs.field_next.Goals as goal

pub returns : goal.returns
returns c = let a = c.args in let told = stepped a.cursor a.page.now _ c.step_at.ensures in record { value = told.0; page_value = told.1.0; page_value_2 = told.1.1 }
