use Rattle.plan.proofs.Plans.{plan_lawful}
use Rattle.plan.proofs.table.Table.close.Goals as goal

pub returns-in-Ok-clause-laws : goal.returns-in-Ok-clause-laws
returns-in-Ok-clause-laws c = plan_lawful c.with_bins.result

pub returns-in-Err-clause-laws : goal.returns-in-Err-clause-laws
returns-in-Err-clause-laws c = plan_lawful c.without_bins.result
