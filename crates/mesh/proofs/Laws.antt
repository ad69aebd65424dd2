-- Laws of a tube's scratch: what is loaded, and what the shape reads of it. Assumes nothing.
use Prim.Native.Nat.{ℕ, zero, suc, ◌-◌, ◌*◌, ◌≤◌, ◌<◌}
use mathlib.Core.Bool.{Bool, true, false, cond}
use mathlib.Core.List.{List, [], ◌∷◌, ◌++◌}
use mathlib.Core.Path.{◌≡◌, refl, ◌∙◌, ap, fun_ext}
use native.Mathlib.Omega.{arith}
use lib.ListN.{length, get_or, take, drop, length-append, get_or-eq_default}
use lib.Seq.{take_at, drop_at}
use lib.Dec.{eqb, ltb}
use lib.Ieee.{Float}
use borrow.Author.Tests.{eqb-false, ltb-true, ltb-false}
use Rattle.lists.specs.Put.{put}
use Rattle.lists.proofs.Puts.{next, put_all}
use Rattle.vectors.specs.declared.Vec3.{Vec3}
use Rattle.vectors.specs.Vec.{vec_at, floats}
use Rattle.vectors.proofs.Flat.{floats_at, length_floats}
use Rattle.shape.specs.declared.Kind.{Kind}
use Rattle.shape.specs.declared.Kind.TheVariants.{Sheet}
use Rattle.shape.specs.declared.Oxygen.TheVariants.{At, Missing}
use Rattle.curve.specs.Residues.{oxygen_at}
use Rattle.skin.specs.Tube.{positions_of, normals_of, tags_of}
use Rattle.skin.proofs.Laws.{length_positions_of}
use Rattle.boxes.specs.declared.Bounds.{Bounds}
use Rattle.boxes.specs.Box.{box_of}
use Rattle.boxes.specs.Bounds.{bounds_of}
use Rattle.boxes.proofs.Laws.{bounds_box}
use Rattle.rings.specs.Post.{Began}
use Rattle.edges.specs.Tube.{vertex_count, tube}
use Rattle.edges.proofs.Theorems.{vertex_count_lem}
use Rattle.mesh.specs.Mesh.{kind_of, spot_of, spots, air_at, positions_by, normals_by, box_by}
use Rattle.buffers.specs.Outs.{Outs, outs}
use Rattle.mesh.specs.Outs.{written_by}

pub kind_sheet : (k : ℕ) → (k ≡ 0 → ⊥) → (k ≡ 1 → ⊥) → Sheet ≡ kind_of k
unfolding kind_of
kind_sheet zero a b = absurd (a refl)
kind_sheet (suc zero) a b = absurd (b refl)
kind_sheet (suc (suc k)) a b = refl

pub spot_some : (place : ℕ → Vec3) (a : ℕ) → (a ≡ 0 → ⊥) → place a ≡ spot_of place a
unfolding spot_of
spot_some place zero h = absurd (h refl)
spot_some place (suc a) h = refl

pub length_spots : (place : ℕ → Vec3) (atoms : List ℕ) → length (spots place atoms) ≡ 3 * length atoms
unfolding spots
length_spots place atoms = length_floats (λ (i : ℕ). spot_of place (get_or atoms i 0)) (length atoms)

pub spots_at : (place : ℕ → Vec3) (atoms : List ℕ) (i : ℕ) → i < length atoms → vec_at (spots place atoms) i ≡ spot_of place (get_or atoms i 0)
unfolding spots
spots_at place atoms i h = floats_at (λ (j : ℕ). spot_of place (get_or atoms j 0)) (length atoms) i h

-- what the shape reads as oxygens: those that the table names
pub airs : (place : ℕ → Vec3) (atoms : List ℕ) → oxygen_at atoms (spots place atoms) ≡ air_at place atoms
unfolding oxygen_at air_at
airs place atoms = fun_ext (λ i. go i (eqb (get_or atoms i 0) 0) refl)
  where
    past : (i : ℕ) → (get_or atoms i 0 ≡ 0 → ⊥) → i < length atoms
    past i h = by (ltb i (length atoms)) refl
      where
        by : (b : Bool) → ltb i (length atoms) ≡ b → i < length atoms
        by true e = ltb-true i (length atoms) e
        by false e = absurd (h (get_or-eq_default atoms 0 (ltb-false i (length atoms) e)))

    go : (i : ℕ) (b : Bool) → eqb (get_or atoms i 0) 0 ≡ b
        → cond b Missing (At (vec_at (spots place atoms) i).x (vec_at (spots place atoms) i).y (vec_at (spots place atoms) i).z)
        ≡ cond b Missing (At (place (get_or atoms i 0)).x (place (get_or atoms i 0)).y (place (get_or atoms i 0)).z)
    go i true e = refl
    go i false e =
        let n = eqb-false (get_or atoms i 0) 0 e in
        rw (spots_at place atoms i (past i n), ← spot_some place (get_or atoms i 0) n)

-- both loads: the whole course
pub course_is : (place : ℕ → Vec3) (alphas oxygens : List ℕ) (c₀ c c' : List Float) → length oxygens ≡ length alphas → length c₀ ≡ 6 * length alphas
    → c ≡ put c₀ 0 (spots place alphas) → c' ≡ put c (3 * length alphas) (spots place oxygens) → c' ≡ spots place alphas ++ spots place oxygens
course_is place alphas oxygens c₀ c c' n w e f =
    let a = length_spots place alphas in
    let o = length_spots place oxygens in
    next c₀ c 0 (3 * length alphas) (spots place alphas) (spots place oxygens) f e (omega arith)
    ∙ put_all c₀ (spots place alphas ++ spots place oxygens) refl (omega (arith, length-append (spots place alphas) (spots place oxygens)))

-- the whole of a tube, from what each writer left: `c` is the loaded course, and d the box that the vertices were written with
pub written_is : (place : ℕ → Vec3) (kind first : ℕ) (alphas oxygens : List ℕ) (k v t : ℕ) (o : Outs) (c : List Float) (x : Kind) (d : Bounds) {p n b : List Float} {g y r : List ℕ}
    → 2 ≤ length alphas
    → c ≡ spots place alphas ++ spots place oxygens
    → x ≡ kind_of kind
    → b ≡ put o.boxes (6 * k) (floats d.low ++ floats d.high)
    → Began o.positions o.normals o.tags v
    (positions_of x (take (3 * length alphas) c) (oxygen_at oxygens (drop (3 * length alphas) c)) (length alphas))
    (normals_of x (take (3 * length alphas) c) (oxygen_at oxygens (drop (3 * length alphas) c)) (length alphas))
    (tags_of first (length alphas)) d p n g
    → y ≡ put o.triangles (3 * t) (tube 8 8 v (length alphas))
    → r ≡ put o.tubes (5 * k) (kind ∷ first ∷ length alphas ∷ v ∷ t ∷ [])
    → outs p n g y r b ≡ written_by place kind first alphas oxygens k v t o
unfolding written_by positions_by normals_by box_by
written_is place kind first alphas oxygens k v t o c x d {p} {n} {b} {g} {y} {r} two e q hb w hy hr =
    let l = length_spots place alphas in
    let a : take (3 * length alphas) c ≡ spots place alphas = ap (take (3 * length alphas)) e ∙ take_at (spots place alphas) (spots place oxygens) _ l in
    let z : drop (3 * length alphas) c ≡ spots place oxygens = ap (drop (3 * length alphas)) e ∙ drop_at (spots place alphas) (spots place oxygens) _ l in
    let i : oxygen_at oxygens (drop (3 * length alphas) c) ≡ air_at place oxygens = ap (oxygen_at oxygens) z ∙ airs place oxygens in
    let hp : p ≡ put o.positions (3 * v) (positions_of (kind_of kind) (spots place alphas) (air_at place oxygens) (length alphas)) = rw (a, i, q) at w.pos in
    let hn : n ≡ put o.normals (3 * v) (normals_of (kind_of kind) (spots place alphas) (air_at place oxygens) (length alphas)) = rw (a, i, q) at w.norm in
    let hg : g ≡ put o.tags v (tags_of first (length alphas)) = w.tag in
    let hd : d ≡ bounds_of (positions_of (kind_of kind) (spots place alphas) (air_at place oxygens) (length alphas)) = rw (a, i, q) at w.box in
    let hx : floats d.low ++ floats d.high ≡ box_of (positions_of (kind_of kind) (spots place alphas) (air_at place oxygens) (length alphas)) =
    bounds_box (vertex_count (length alphas) - 1) _ (length_positions_of (kind_of kind) (spots place alphas) (air_at place oxygens) (length alphas) two ∙ omega (arith, vertex_count_lem (length alphas) two)) hd in
    cc
