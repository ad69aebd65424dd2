-- The boxes of a mesh in its buffers, each beside the vertices of its tube. Assumes nothing.
use Prim.Native.Nat.{ℕ, ◌*◌, ◌<◌}
use mathlib.Core.Bool.{false}
use mathlib.Core.List.{List}
use mathlib.Core.Path.{◌≡◌, refl, ◌∙◌}
use native.Mathlib.Omega.{arith}
use lib.Ieee.{Float, is_nan}
use Rattle.lists.proofs.Any.{part_place}
use Rattle.boxes.specs.Box.{box_of}
use Rattle.boxes.proofs.Standing as boxes
use Rattle.boxes.proofs.Standing.{Boxed, Touched}
use Rattle.protein.specs.Protein.{Protein}
use Rattle.tubes.specs.Tubes.{Tube}
use Rattle.mesh.specs.Mesh.{size_of, box_by, tube_positions, tube_box, tube_words}
use Rattle.buffers.specs.Outs.{Outs}
use Rattle.buffers.specs.declared.Counts.{Counts}
use Rattle.room.specs.Room.{Buffers}
use Rattle.std.specs.Prelude.{Ok}
use Rattle.promises.specs.Calls.{Builds}
use Rattle.promises.specs.Meshes.{TubeStands, vertices_for}
use Rattle.promises.specs.Boxes.{residues_of, first_vertex, VertexOf, coordinate, least_of, greatest_of, Inside, Between, FirstOfEquals, Apart, Below}
use Rattle.promises.proofs.Together as calls

-- a tube's box is that of its positions
box_is_lem : (P : Protein) (u : Tube) → tube_box P u ≡ box_of (tube_positions P u)
unfolding tube_box box_by tube_positions
box_is_lem P u = refl

-- tube k's first vertex and its residues, by its record
module _ (P : Protein) (u : Tube) (k v t : ℕ) (o : Outs) (S : TubeStands P u k v t o) where
  pub first_is : first_vertex o k ≡ v
  unfolding tube_words
  first_is = part_place o.tubes (5 * k) 5 3 0 S.words.there (omega arith)

  pub residues_is : residues_of o k ≡ size_of u
  unfolding tube_words
  residues_is = part_place o.tubes (5 * k) 5 2 0 S.words.there (omega arith)

  boxed_tube : Boxed (tube_positions P u) o.positions o.boxes (first_vertex o k) (vertices_for (residues_of o k)) k
  boxed_tube = rw (first_is, residues_is) (record {
    nonempty = omega (arith, S.two);
    size = S.positions.long;
    vertices = S.positions.there;
    box = S.box.there ∙ box_is_lem P u;
  })

-- a mesh's box k, and the vertices of its tube
pub boxed : (s : List ℕ) (b b' : Buffers) (c : Counts) (k : ℕ) → Builds s b (Ok c) b' → k < c.tubes
    → (xs : List Float) × Boxed xs b'.outs.positions b'.outs.boxes (first_vertex b'.outs k) (vertices_for (residues_of b'.outs k)) k
boxed s b b' c k B h =
    let t = calls.there s b b' c B k h in
    (tube_positions _ t.0, boxed_tube _ t.0 k _ _ b'.outs (calls.stands s b b' c k t.0 B t.1))

module _ (s : List ℕ) (b b' : Buffers) (c : Counts) (k a : ℕ) (B : Builds s b (Ok c) b') (h : k < c.tubes) (axis : a < 3) where
  pub inside : (j : ℕ) → VertexOf b'.outs k j → Inside b'.outs k a j
  inside j J = let i = boxes.tube_holds (boxed s b b' c k B h).1 a axis j J.from J.below in record { low = i.0; high = i.1 }

  pub between : (j : ℕ) → VertexOf b'.outs k j → is_nan (coordinate b'.outs (first_vertex b'.outs k) a) ≡ false → is_nan (coordinate b'.outs j a) ≡ false
      → Between b'.outs k a j
  between j J n m = let i = boxes.tube_between (boxed s b b' c k B h).1 a axis j J.from J.below n m in record { low = i.0; high = i.1 }

  pub nan_shows : (is_nan (least_of b'.outs k a) ≡ is_nan (coordinate b'.outs (first_vertex b'.outs k) a))
      × (is_nan (greatest_of b'.outs k a) ≡ is_nan (coordinate b'.outs (first_vertex b'.outs k) a))
  nan_shows = boxes.tube_nan (boxed s b b' c k B h).1 a axis

  first_of : (x : Float) → Touched b'.outs.positions (first_vertex b'.outs k) (vertices_for (residues_of b'.outs k)) a x → FirstOfEquals b'.outs k a x
  first_of x t = record {
    at = t.0;
    vertex = record { from = t.1; below = t.2 };
    same = t.3;
    earlier = λ i I l. t.4 i I.from l;
  }

  pub touched : FirstOfEquals b'.outs k a (least_of b'.outs k a) × FirstOfEquals b'.outs k a (greatest_of b'.outs k a)
  touched = let t = boxes.tube_touched (boxed s b b' c k B h).1 a axis in (first_of _ t.0, first_of _ t.1)

pub apart : (s : List ℕ) (b b' : Buffers) (c : Counts) (k i : ℕ) (t : List ℕ) (d d' : Buffers) (e : Counts) (m j a : ℕ)
    → Builds s b (Ok c) b' → k < c.tubes → Builds t d (Ok e) d' → m < e.tubes → a < 3 → Apart b'.outs k d'.outs m a
    → VertexOf b'.outs k i → VertexOf d'.outs m j → Below (coordinate b'.outs i a) (coordinate d'.outs j a)
apart s b b' c k i t d d' e m j a B h D l axis A I J =
    let r = boxes.tubes_apart (boxed s b b' c k B h).1 (boxed t d d' e m D l).1 a axis A i j I.from I.below J.from J.below in
    record { less = r.2; unequal = r.0; not_above = r.1 }
