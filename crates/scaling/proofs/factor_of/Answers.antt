use Rattle.scaling.proofs.Laws.{is_float, divided}
use Rattle.scaling.proofs.factor_of.Goals as goal

pub int_to_float-result : goal.int_to_float-result
int_to_float-result c = is_float _ c.requires

pub returns : goal.returns
returns c = divided _ c.requires
