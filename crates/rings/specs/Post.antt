-- What the writers of vertices ask for and promise, over the three buffers at once and the box of the tube that they write.
use Rattle.std.specs.Prelude.{◌≡◌, List, ℕ, ◌*◌, ◌≤◌, length, Float}
use Rattle.lists.specs.Put.{put}
use Rattle.vectors.specs.Vec.{vec_at}
use Rattle.boxes.specs.declared.Bounds.{Bounds}
use Rattle.boxes.specs.Bounds.{grown_by, single}

-- there is room for v vertices
pub record VertexRoom (p n : List Float) (t : List ℕ) (v : ℕ) : Type 0 where
  pub pos : 3 * v ≤ length p
  pub norm : 3 * v ≤ length n
  pub tag : v ≤ length t

-- from vertex v on, xs is written to the positions, ys to the normals and zs to the tags, and nothing else changed; the box, which was b, is grown to
-- c by the vertices xs
pub record Wrote (b : Bounds) (p₀ n₀ : List Float) (t₀ : List ℕ) (v : ℕ) (xs ys : List Float) (zs : List ℕ) (c : Bounds) (p n : List Float) (t : List ℕ) : Type 0 where
  pub pos : p ≡ put p₀ (3 * v) xs
  pub norm : n ≡ put n₀ (3 * v) ys
  pub tag : t ≡ put t₀ v zs
  pub box : c ≡ grown_by b xs

-- the same of the first vertices of a tube: c is their box
abbrev pub Began : List Float → List Float → List ℕ → ℕ → List Float → List Float → List ℕ → Bounds → List Float → List Float → List ℕ → Type 0
Began p₀ n₀ t₀ v xs ys zs c p n t = Wrote (single (vec_at xs 0)) p₀ n₀ t₀ v xs ys zs c p n t
