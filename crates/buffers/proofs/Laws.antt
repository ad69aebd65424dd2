-- Laws of room: a length is divided where the definition multiplies, and where no buffer is too short there is room. Assumes nothing.
use Prim.Native.Nat.{ℕ, ◌*◌, ◌/◌, ◌<◌, ◌≤◌}
use mathlib.Core.Bool.{Bool, true, false}
use mathlib.Core.Path.{◌≡◌, refl, sym}
use native.Mathlib.Omega.{arith}
use lib.ListN.{length}
use lib.Dec.{ltb}
use borrow.Author.Tests.{lt-ltb, le-ltb, ltb-true, ltb-false}
use Rattle.lists.proofs.Bools.{or_left, or_rest}
use Rattle.buffers.specs.declared.Counts.{Counts}
use Rattle.buffers.specs.Outs.{Outs, Room, sizes_of, tight}

-- ---- n places for each of c, in a buffer of l: by division
module _ (l c : ℕ) where
  pub short3 : l / 3 < c → ltb l (3 * c) ≡ true
  short3 h = lt-ltb l (3 * c) (omega arith)

  pub long3 : c ≤ l / 3 → ltb l (3 * c) ≡ false
  long3 h = le-ltb l (3 * c) (omega arith)

  pub short5 : l / 5 < c → ltb l (5 * c) ≡ true
  short5 h = lt-ltb l (5 * c) (omega arith)

  pub long5 : c ≤ l / 5 → ltb l (5 * c) ≡ false
  long5 h = le-ltb l (5 * c) (omega arith)

  pub same6 : ltb (l / 6) c ≡ ltb l (6 * c)
  same6 = go (ltb (l / 6) c) refl
    where
      go : (b : Bool) → ltb (l / 6) c ≡ b → b ≡ ltb l (6 * c)
      go true e = sym (lt-ltb l (6 * c) (omega (arith, ltb-true (l / 6) c e)))
      go false e = sym (le-ltb l (6 * c) (omega (arith, ltb-false (l / 6) c e)))

-- no buffer is too short: there is room
pub roomy : (c : Counts) (o : Outs) → tight c (sizes_of o) ≡ false → Room c.tubes c.vertices c.triangles o
unfolding tight
roomy c o e =
    let e1 = or_rest (ltb (length o.positions) (3 * c.vertices)) _ e in
    let e2 = or_rest (ltb (length o.normals) (3 * c.vertices)) _ e1 in
    let e3 = or_rest (ltb (length o.tags) c.vertices) _ e2 in
    let e4 = or_rest (ltb (length o.triangles) (3 * c.triangles)) _ e3 in
    let e5 = or_rest (ltb (length o.tubes) (5 * c.tubes)) _ e4 in
    record {
      positions = ltb-false (length o.positions) (3 * c.vertices) (or_left (ltb (length o.positions) (3 * c.vertices)) _ e);
      normals = ltb-false (length o.normals) (3 * c.vertices) (or_left (ltb (length o.normals) (3 * c.vertices)) _ e1);
      tags = ltb-false (length o.tags) c.vertices (or_left (ltb (length o.tags) c.vertices) _ e2);
      triangles = ltb-false (length o.triangles) (3 * c.triangles) (or_left (ltb (length o.triangles) (3 * c.triangles)) _ e3);
      tubes = ltb-false (length o.tubes) (5 * c.tubes) (or_left (ltb (length o.tubes) (5 * c.tubes)) _ e4);
      boxes = ltb-false (length o.boxes) (6 * c.tubes) e5;
    }

-- and where there is room none is too short
pub not_tight : (c : Counts) (o : Outs) → Room c.tubes c.vertices c.triangles o → tight c (sizes_of o) ≡ false
unfolding tight
not_tight c o R =
    rw (
      le-ltb (length o.positions) (3 * c.vertices) R.positions,
      le-ltb (length o.normals) (3 * c.vertices) R.normals,
      le-ltb (length o.tags) c.vertices R.tags,
      le-ltb (length o.triangles) (3 * c.triangles) R.triangles,
      le-ltb (length o.tubes) (5 * c.tubes) R.tubes,
      le-ltb (length o.boxes) (6 * c.tubes) R.boxes,
    )
