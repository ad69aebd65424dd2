use Rattle.tables.specs.declared.Want.TheVariants.{Chain}
use Rattle.tables.proofs.Laws.{grow_at, grow_same, grow_set, code_none, code_some}
use Rattle.scratch.proofs.Laws.{fill_start}
use Prim.Native.Nat.{ℕ, ◌-◌, ◌+◌}
use mathlib.Core.Path.{◌≡◌, ap, ◌∙◌}
use native.Mathlib.Omega.{arith}
use borrow.Author.Rules.{rules}
use Rattle.tables.specs.Wants.{gives}
use Rattle.protein.specs.Job.{job_of}
use Rattle.tables.proofs.to_chains.Goals.{then-a-ne0, else-a-ne0}
use Rattle.lists.proofs.Searches.{last_le}
use Rattle.tables.proofs.to_chains.Goals as goal

pub loop-i-init : goal.loop-i-init
loop-i-init c = (search rules, fill_start _ _ _ _ (λ r l. absurd (omega arith)))

pub offset_bounds-t-i : goal.offset_bounds-t-i
offset_bounds-t-i c = omega (arith, c.loop-i.invariant.1.size, c.well_formed.1.1.0.1)

pub bounds-t-i : goal.bounds-t-i
bounds-t-i c = omega (arith, c.loop-i.invariant.1.size)

pub overflow_cast-a : goal.overflow_cast-a
overflow_cast-a c = omega (arith, c.type_inv.t c.loop-i.i)

pub chain-requires : goal.chain-requires
chain-requires c =
    let args = c.args in
    let loop = c.loop-i in
    (c.requires.whole.0, omega (arith, grow_at _ _ _ _ loop.invariant.1, c.requires.by_index loop.i (omega arith), last_le (gives (job_of args.b.now args.h) Chain loop.i) args.h.atoms))

pub offset_bounds-t-i-then-a-ne0 : goal.offset_bounds-t-i-then-a-ne0
offset_bounds-t-i-then-a-ne0 c = omega (arith, c.loop-i.invariant.1.size, c.well_formed.1.1.0.1)

pub bounds-t-i-then-a-ne0 : goal.bounds-t-i-then-a-ne0
bounds-t-i-then-a-ne0 c = omega (arith, c.loop-i.invariant.1.size)

pub loop-i-preserved : goal.loop-i-preserved
loop-i-preserved c =
    let args = c.args in
    let loop = c.loop-i in
    let q = grow_at _ _ _ _ loop.invariant.1 ∙ c.requires.by_index loop.i (omega arith) in
    elim c.if-a-ne0.branch [
      | then-a-ne0 w ↦ (omega arith, rw w.t-is (grow_set _ _ _ _ loop.invariant.1 _ (omega arith) (ap (λ (k : ℕ). k + 1) w.chain.ensures.0 ∙ code_some (job_of args.b.now args.h) _ _ q w.if-a-ne0.true)))
      | else-a-ne0 w ↦ (omega arith, rw w.t-is (grow_same _ _ _ _ loop.invariant.1 (code_none (job_of args.b.now args.h) _ _ q w.if-a-ne0.false)))
    ]

pub shape_of-t : goal.shape_of-t
shape_of-t c = c.loop-i.invariant.1.size

pub returns : goal.returns
returns c = let q : c.loop-i.i ≡ c.args.h.residues = omega arith in rw q at c.loop-i.invariant.1
