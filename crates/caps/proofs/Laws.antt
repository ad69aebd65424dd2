-- Which normal an end cap has: its chord's direction, and where that has none, the tangent at the end of the last span. Assumes nothing.
use Rattle.std.specs.Prelude.{Option, Some, None, unwrap_or}
use mathlib.Core.Path.{◌≡◌, ap, ◌∙◌}
use mathlib.Core.Bool.{Bool, false, cond}
use mathlib.Core.List.{List}
use Prim.Native.Nat.{ℕ, ◌+◌, ◌-◌, ◌*◌, ◌/◌, ◌%◌}
use native.Mathlib.Omega.{arith}
use borrow.Author.Tests.{le-ltb}
use lib.Dec.{ltb}
use lib.IntN.{pos}
use lib.Ieee.{Float, binary32, of_int}
use Rattle.vectors.specs.declared.Vec3.{Vec3}
use Rattle.vectors.specs.Vec.{vzero, lit, one, f/, direction_of, normalised}
use Rattle.vectors.proofs.Directions.{normalised_is}
use Rattle.shape.specs.Spline.{catmull_rom_tangent, of4}
use Rattle.shape.specs.Guide.{directed}
use Rattle.curve.specs.Samples.{span_of, span_at, param_at, frame_of, frame_at}
use Rattle.caps.specs.Caps.{chord, end_normal_by, end_normal}

module _ (p g : List Float) (n : ℕ) where
  -- where the chord has a direction, the Rust's answer
  pub chord_kept : (v : Vec3) → direction_of (chord p n) ≡ Some v → (end_normal p g n ≡ v) × (normalised (chord p n) ≡ v)
  unfolding end_normal end_normal_by
  chord_kept v e = (ap (λ (d : Option Vec3). unwrap_or d (frame_at p g n (8 * (n - 1))).tangent) e, normalised_is (chord p n) ∙ ap (λ (d : Option Vec3). unwrap_or d vzero) e)

  -- and 'an end cap then takes the last sample's tangent'
  pub tangent_taken : direction_of (chord p n) ≡ None → end_normal p g n ≡ (frame_at p g n (8 * (n - 1))).tangent
  unfolding end_normal end_normal_by
  tangent_taken e = ap (λ (d : Option Vec3). unwrap_or d (frame_at p g n (8 * (n - 1))).tangent) e

-- 01: 'the last uses span n-2 with t = 1'
past : (n : ℕ) → ltb (8 * (n - 1) / 8 + 1) n ≡ false
past n = le-ltb (8 * (n - 1) / 8 + 1) n (omega arith)

pub last_tangent_lem : (p g : List Float) (n : ℕ) → (frame_at p g n (8 * (n - 1))).tangent ≡ directed (of4 catmull_rom_tangent (span_of p n (n - 2)) one)
unfolding frame_at frame_of span_at param_at
last_tangent_lem p g n =
    ap (λ (b : Bool). directed (of4 catmull_rom_tangent (span_of p n (cond b (8 * (n - 1) / 8) (n - 2))) (cond b (f/ (of_int binary32 (pos (8 * (n - 1) % 8))) (lit 0x41000000)) one))) (past n)
