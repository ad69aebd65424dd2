use native.Mathlib.Omega.{arith}
use mathlib.Core.Path.{sym}
use lib.Seq.{length-take-le}
use Rattle.pdb_reader.proofs.Fits.{written_fits}
use borrow.Author.Rules.{rules}
use Rattle.ribbon_job.proofs.write_job.Goals as goal

pub slice_bounds-send-end : goal.slice_bounds-send-end
slice_bounds-send-end c = omega (arith, c.job-1.given, written_fits c.read_pdb-a.ensures c.in-Ok.is)

pub slice_bounds-send-end-in-Ok : goal.slice_bounds-send-end-in-Ok
slice_bounds-send-end-in-Ok c = sym (length-take-le _ _ (omega (arith, c.job-1.given, written_fits c.read_pdb-a.ensures c.in-Ok.is)))
