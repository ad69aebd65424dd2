use Prim.Native.Nat.{◌+◌}
use mathlib.Core.Path.{◌≡◌, refl, ◌∙◌, ap}
use native.Mathlib.Omega.{arith}
use Rattle.lists.specs.Put.{put}
use Rattle.numbers.proofs.Laws.{seq}
use Rattle.vectors.specs.declared.Vec3.{Vec3}
use Rattle.little.specs.Little.{le_vec}
use Rattle.little.proofs.Laws.{long_vec}
use Rattle.facets.proofs.Laws.{facet_is}
use borrow.Author.Rules.{rules}
use Rattle.facets.proofs.put_facet.Goals as goal

pub returns : goal.returns
returns c =
    let args = c.args in
    let a = args.at in
    let h : a + 24 ≡ a + 12 + 12 = omega arith in
    let j : a + 36 ≡ a + 24 + 12 = omega arith in
    let k : a + 48 ≡ a + 36 + 12 = omega arith in
    seq _ _ _ _ 12 _ _ (long_vec _) refl (c.put_vec.ensures ∙ ap (λ (v : Vec3). put args.out.now a (le_vec v)) c.facet_normal.ensures)
    (seq _ _ _ _ 12 _ _ (long_vec _) h c.put_vec-2.ensures
    (seq _ _ _ _ 12 _ _ (long_vec _) j c.put_vec-3.ensures
    (seq _ _ _ _ 12 _ _ (long_vec _) k c.put_vec-4.ensures c.put_zeros.ensures)))
    ∙ ap (put args.out.now a) (facet_is args.a args.b args.c)
