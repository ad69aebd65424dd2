-- What a tube's vertices are written from.
use Rattle.std.specs.Prelude.{◌≡◌, List, ℕ, ◌+◌, ◌*◌, ◌≤◌, ◌<◌, ◌^◌, length, Float}
use Rattle.shape.specs.declared.Kind.{Kind}
use Rattle.shape.specs.declared.Spoke.{Spoke}
use Rattle.shape.specs.Ring.{half_sizes, spokes_of}

-- n spline points and n guides of a tube whose first residue is first, and the spokes of its kind
pub record Course (p g : List Float) (n first : ℕ) (kind : Kind) (spokes : List Spoke) : Type 0 where
  pub two : 2 ≤ n
  pub most : n ≤ 16384
  pub points : length p ≡ 3 * n
  pub guides : length g ≡ 3 * n
  pub low : first + n < 2 ^ 32
  pub same : spokes ≡ spokes_of (half_sizes kind)

-- n C-alphas and n oxygens in one slice, with a flag for each oxygen
pub record Residues (flags : List ℕ) (course : List Float) (n first : ℕ) : Type 0 where
  pub two : 2 ≤ n
  pub most : n ≤ 16384
  pub flagged : n ≤ length flags
  pub both : length course ≡ 6 * n
  pub low : first + n < 2 ^ 32
