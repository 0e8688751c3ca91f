use Rattle.areas.proofs.Putting.{puts_then}
use Rattle.line_text.proofs.telling.put_field.Goals as goal

pub returns : goal.returns
returns c = puts_then c.put.ensures.put c.put_number.ensures
