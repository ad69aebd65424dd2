use Prim.Native.Nat.{ℕ, ◌-◌}
use mathlib.Core.Bool.{Bool}
use mathlib.Core.Path.{◌≡◌, ◌∙◌, ap}
use native.Mathlib.Omega.{arith}
use Rattle.scratch.proofs.Laws.{fill_empty}
use Rattle.protein.specs.Job.{job_of}
use Rattle.tubes.specs.Tubes.{loose}
use Rattle.coils.specs.Coils.{covered_in}
use Rattle.coils.proofs.Laws.{tables_kept, tables_again, covered_kept, loose_turn, from_bit}
use Rattle.coils.proofs.mark_loose.Goals as goal

pub overflow_cast-n : goal.overflow_cast-n
overflow_cast-n c = omega (arith, c.well_formed, c.struct_known-1)

pub overflow_mul-marks : goal.overflow_mul-marks
overflow_mul-marks c = omega (arith, c.requires.0.few_residues)

pub loop-r-init : goal.loop-r-init
loop-r-init c = (omega arith, fill_empty _ _ _)

pub is_loose-requires : goal.is_loose-requires
is_loose-requires c =
    let pre = c.requires in
    let loop = c.loop-r in
    let args = c.args in
    let J = job_of args.b.now args.h in
    let cov = covered_in args.t.now args.h.residues in
    (pre.0, tables_again J cov _ _ (tables_kept J cov loop.r _ _ loop.invariant.0 pre.1 loop.invariant.1) (covered_kept J cov loop.r _ _ loop.invariant.0 loop.invariant.1), omega arith, pre.2)

pub overflow_add-t : goal.overflow_add-t
overflow_add-t c = omega (arith, c.requires.0.few_residues)

pub offset_bounds-t-marks : goal.offset_bounds-t-marks
offset_bounds-t-marks c = omega (arith, c.requires.0.few_residues)

pub bounds-t-marks : goal.bounds-t-marks
bounds-t-marks c = omega (arith, c.loop-r.invariant.1.size, c.requires.1.size)

pub loop-r-preserved : goal.loop-r-preserved
loop-r-preserved c =
    let args = c.args in
    let J = job_of args.b.now args.h in
    let cov = covered_in args.t.now args.h.residues in
    let loop = c.loop-r in (
      omega arith,
      loose_turn J cov loop.r _ _ _ _ (omega arith) c.requires.1.size loop.invariant.1 (c.from-v.ensures ∙ from_bit _)
          (c.is_loose.ensures ∙ ap (λ (k : ℕ → Bool). loose J k loop.r) (covered_kept J cov loop.r _ _ loop.invariant.0 loop.invariant.1)),
    )

pub shape_of-t : goal.shape_of-t
shape_of-t c = c.loop-r.invariant.1.size

pub returns : goal.returns
returns c = let q : c.loop-r.r ≡ c.args.h.residues = omega arith in rw q at c.loop-r.invariant.1
