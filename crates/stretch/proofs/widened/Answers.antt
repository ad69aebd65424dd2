use native.Mathlib.Omega.{arith}
use Rattle.stretch.proofs.widened.Goals as goal

pub returns-then-p-r : goal.returns-then-p-r
returns-then-p-r c = record {
  low = λ m l f. f (omega arith);
  high = λ m l f. let z = f (omega arith) in omega (arith, z);
  keeps = λ k i. absurd (omega (arith, i.0, i.1));
  has = λ l. (omega arith, omega arith);
}

pub returns-then-p-r-2 : goal.returns-then-p-r-2
returns-then-p-r-2 c = record {
  low = λ m l f. l;
  high = λ m l f. let z = f (omega arith) in omega (arith, z);
  keeps = λ k i. (i.0, omega (arith, i.1));
  has = λ l. (omega arith, omega arith);
}
