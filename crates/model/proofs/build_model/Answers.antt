use native.Mathlib.Omega.{arith}
use Rattle.model.proofs.Laws.{mesh_ready}
use Rattle.model.proofs.build_model.Goals as goal

pub finish-requires : goal.finish-requires
finish-requires c = (mesh_ready c.build-a.ensures c.in-Ok.is, omega arith)
