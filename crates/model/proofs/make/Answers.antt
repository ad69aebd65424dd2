use native.Mathlib.Omega.{arith}
use mathlib.Core.Path.{sym}
use lib.Seq.{length-take-le}
use Rattle.pdb_reader.proofs.Fits.{written_fits}
use borrow.Author.Rules.{rules}
use Rattle.model.proofs.make.Goals as goal

pub slice_bounds-build_model-end : goal.slice_bounds-build_model-end
slice_bounds-build_model-end c = omega (arith, c.job-1.given, written_fits c.read_pdb-a.ensures c.in-Ok.is)

pub slice_bounds-build_model-end-in-Ok : goal.slice_bounds-build_model-end-in-Ok
slice_bounds-build_model-end-in-Ok c = sym (length-take-le _ _ (omega (arith, c.job-1.given, written_fits c.read_pdb-a.ensures c.in-Ok.is)))
