use borrow.Author.Tests.{lt-ltb, le-ltb, eq-eqb, ne_eqb}
use Rattle.job.specs.Check.{sizes}
use Rattle.job.proofs.check_sizes.Goals as goal

pub returns-then-b-lt13 : goal.returns-then-b-lt13
unfolding sizes
returns-then-b-lt13 c = simp (lt-ltb _ _ c.if-b-lt13.true)

pub returns-then-u32_at-b : goal.returns-then-u32_at-b
unfolding sizes
returns-then-u32_at-b c = simp (le-ltb _ _ c.if-b-lt13.false, ← c.u32_at.ensures.0, ne_eqb _ _ c.if-u32_at-b.true)

pub returns-then-v-ne1 : goal.returns-then-v-ne1
unfolding sizes
returns-then-v-ne1 c = simp (le-ltb _ _ c.if-b-lt13.false, ← c.u32_at.ensures.0, eq-eqb _ _ c.if-u32_at-b.false, ne_eqb _ _ c.if-v-ne1.true)

pub returns-then-chains-gt255 : goal.returns-then-chains-gt255
unfolding sizes
returns-then-chains-gt255 c = simp (le-ltb _ _ c.if-b-lt13.false, ← c.u32_at.ensures.0, eq-eqb _ _ c.if-u32_at-b.false, eq-eqb _ _ c.if-v-ne1.false, ← c.u16_at-chains.ensures.0, lt-ltb _ _ c.if-chains-gt255.true)

pub returns-then-residues-gt16384 : goal.returns-then-residues-gt16384
unfolding sizes
returns-then-residues-gt16384 c = simp (le-ltb _ _ c.if-b-lt13.false, ← c.u32_at.ensures.0, eq-eqb _ _ c.if-u32_at-b.false, eq-eqb _ _ c.if-v-ne1.false, ← c.u16_at-chains.ensures.0, le-ltb _ _ c.if-chains-gt255.false, ← c.u16_at-residues.ensures.0, lt-ltb _ _ c.if-residues-gt16384.true)

pub returns-then-b-chains : goal.returns-then-b-chains
unfolding sizes
returns-then-b-chains c = simp (le-ltb _ _ c.if-b-lt13.false, ← c.u32_at.ensures.0, eq-eqb _ _ c.if-u32_at-b.false, eq-eqb _ _ c.if-v-ne1.false, ← c.u16_at-chains.ensures.0, le-ltb _ _ c.if-chains-gt255.false, ← c.u16_at-residues.ensures.0, le-ltb _ _ c.if-residues-gt16384.false, ← c.u16_at-segments.ensures.0, ← c.u16_at-atoms.ensures.0, ne_eqb _ _ c.if-b-chains.true)

pub returns : goal.returns
unfolding sizes
returns c = simp (le-ltb _ _ c.if-b-lt13.false, ← c.u32_at.ensures.0, eq-eqb _ _ c.if-u32_at-b.false, eq-eqb _ _ c.if-v-ne1.false, ← c.u16_at-chains.ensures.0, le-ltb _ _ c.if-chains-gt255.false, ← c.u16_at-residues.ensures.0, le-ltb _ _ c.if-residues-gt16384.false, ← c.u16_at-segments.ensures.0, ← c.u16_at-atoms.ensures.0, eq-eqb _ _ c.if-b-chains.false)
