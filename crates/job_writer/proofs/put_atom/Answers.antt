use Prim.Native.Nat.{◌+◌}
use mathlib.Core.Path.{◌≡◌, refl}
use native.Mathlib.Omega.{arith}
use Rattle.job_writer.specs.Job.{atom_bytes}
use Rattle.numbers.proofs.Laws.{seq, len16, len32}
use borrow.Author.Rules.{rules}
use Rattle.job_writer.proofs.put_atom.Goals as goal

pub returns : goal.returns
unfolding atom_bytes
returns c =
    let a = c.args.at in
    let h : a + 5 ≡ a + 4 + 1 = omega arith in
    let i : a + 7 ≡ a + 5 + 2 = omega arith in
    let j : a + 9 ≡ a + 7 + 2 = omega arith in
    seq _ _ _ _ 4 _ _ (len32 _) refl c.put_u32.ensures
    (seq _ _ _ _ 1 _ _ refl h c.put_byte.ensures
    (seq _ _ _ _ 2 _ _ (len16 _) i c.put_u16.ensures
    (seq _ _ _ _ 2 _ _ (len16 _) j c.put_u16-2.ensures c.put_point.ensures)))
