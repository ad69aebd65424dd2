-- The vertices of one tube, as the flat lists that its buffers hold: a function of its kind, its C-alphas and its oxygens alone.
use Rattle.std.specs.Prelude.{List, [], ◌∷◌, ◌++◌, ℕ, ◌+◌, ◌*◌, ◌-◌, replicate, Float}
use Rattle.std.specs.Float.Ieee.{neg}
use Rattle.vectors.specs.declared.Vec3.{Vec3}
use Rattle.vectors.specs.Vec.{vscale, one, floats, eight}
use Rattle.lists.specs.Put.{upto}
use Rattle.shape.specs.declared.Kind.{Kind}
use Rattle.shape.specs.declared.Oxygen.{Oxygen}
use Rattle.curve.specs.Residues.{guides_of, points_of}
use Rattle.curve.specs.Samples.{frame_at, ring_at, tag_at}
use Rattle.caps.specs.Caps.{end_normal}

-- 01: 'Vertices: ring, start centre, later rings, end centre', and 'There are 8(n-1)+1 samples', a ring each: ring 0 and 8(n-1) later ones
unfoldable pub ordered : {A : Type 0} → ℕ → (ℕ → List A) → List A → List A → List A
ordered n ring start end = ((ring 0 ++ start) ++ upto (λ (s : ℕ). ring (s + 1)) (8 * (n - 1))) ++ end

-- what sample s writes, over n spline points p and n guides g
unfoldable pub ring_positions : Kind → List Float → List Float → ℕ → ℕ → List Float
ring_positions kind p g n s = eight (ring_at kind p g n s).positions

unfoldable pub ring_normals : Kind → List Float → List Float → ℕ → ℕ → List Float
ring_normals kind p g n s = eight (ring_at kind p g n s).normals

unfoldable pub ring_tags : ℕ → ℕ → ℕ → List ℕ
ring_tags first n s = replicate 8 (tag_at first n s)

-- 01: 'Start cap normal: the negated first tangent'
unfoldable pub start_normal : List Float → List Float → ℕ → Vec3
start_normal p g n = vscale (frame_at p g n 0).tangent (neg one)

unfoldable pub skin_positions : Kind → List Float → List Float → ℕ → List Float
skin_positions kind p g n =
    ordered n (ring_positions kind p g n) (floats (frame_at p g n 0).position) (floats (frame_at p g n (8 * (n - 1))).position)

unfoldable pub skin_normals : Kind → List Float → List Float → ℕ → List Float
skin_normals kind p g n = ordered n (ring_normals kind p g n) (floats (start_normal p g n)) (floats (end_normal p g n))

-- THE shape of a tube: of its kind, its n C-alphas and its oxygens
unfoldable pub positions_of : Kind → List Float → (ℕ → Oxygen) → ℕ → List Float
positions_of kind ca o n = skin_positions kind (points_of kind ca n) (guides_of kind ca o n) n

unfoldable pub normals_of : Kind → List Float → (ℕ → Oxygen) → ℕ → List Float
normals_of kind ca o n = skin_normals kind (points_of kind ca n) (guides_of kind ca o n) n

-- 01: 'start centre as its ring; end centre: the last residue'
unfoldable pub tags_of : ℕ → ℕ → List ℕ
tags_of first n = ordered n (ring_tags first n) (tag_at first n 0 ∷ []) ((first + (n - 1)) ∷ [])
