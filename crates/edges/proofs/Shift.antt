-- The triangles numbered from o are those numbered from 0, with o added to each corner. Assumes nothing.
use mathlib.Core.Path.{◌≡◌, refl, sym, ap, ap₂, ◌∙◌}
use mathlib.Core.Bool.{Bool, true, false}
use mathlib.Core.List.{List, [], ◌∷◌, ◌++◌, map, map-append}
use Prim.Native.Nat.{ℕ, zero, suc, ◌+◌, ◌*◌, ◌-◌}
use native.Mathlib.Nat.{add_assoc}
use native.Mathlib.Omega.{arith}
use mathlib.Core.Logic.{⊎_elim}
use Rattle.lists.specs.Put.{upto}
use Rattle.edges.specs.Tube.{cap_side, band_side, cap, band, ring, band_at, start_centre, end_centre, stack, tube, vertices, mesh, renumbered}
use Rattle.edges.proofs.Count.{lt_or_le}
use Rattle.edges.proofs.Two.{under_two, from_two_lem}
use Rattle.lists.proofs.Puts.{map_upto}

module _ (p o : ℕ) where
  abbrev up : ℕ → ℕ
  up c = o + c

  ring_up : (j : ℕ) → up (ring p 0 j) ≡ ring p o j
  unfolding ring
  ring_up zero = omega arith
  ring_up (suc j) = omega arith

  cap_side_up : (inward : Bool) (c a k : ℕ) → map up (cap_side p inward c a k) ≡ cap_side p inward (up c) (up a) k
  cap_side_up true c a k = simp add_assoc
  cap_side_up false c a k = simp add_assoc

  cap_up : (inward : Bool) (c a : ℕ) → map up (cap p inward c a) ≡ cap p inward (up c) (up a)
  unfolding cap
  cap_up inward c a = map_upto up (cap_side p inward c a) (cap_side p inward (up c) (up a)) p (cap_side_up inward c a)

  band_up : (a b : ℕ) → map up (band p a b) ≡ band p (up a) (up b)
  unfolding band
  band_up a b = map_upto up (band_side p a b) (band_side p (up a) (up b)) p (λ k. simp add_assoc)

  pub stack_up : (m : ℕ) → map up (stack p 0 m) ≡ stack p o m
  unfolding stack
  stack_up m =
      let s = cap p true (start_centre p 0) 0 in
      let u = upto (band_at p 0) m in
      let e = cap p false (end_centre p 0 m) (ring p 0 m) in
      map-append up (s ++ u) e ∙ ap (λ (z : List ℕ). z ++ map up e) (map-append up s u)
      ∙ ap₂ ◌++◌
      (ap₂ ◌++◌ (cap_up true (start_centre p 0) 0 ∙ ap₂ (cap p true) (omega arith) (omega arith))
      (map_upto up (band_at p 0) (band_at p o) m (λ j. band_up (ring p 0 j) (ring p 0 (suc j)) ∙ ap₂ (band p) (ring_up j) (ring_up (suc j)))))
      (cap_up false (end_centre p 0 m) (ring p 0 m) ∙ ap₂ (cap p false) (omega arith) (ring_up m))

  pub tube_up : (d n : ℕ) → map up (tube p d 0 n) ≡ tube p d o n
  tube_up d n = ⊎_elim
      (λ h. ap (map up) (under_two p d 0 n h).3 ∙ sym (under_two p d o n h).3)
      (λ h. ap (map up) (from_two_lem p d 0 n h) ∙ stack_up (d * (n - 1)) ∙ sym (from_two_lem p d o n h))
      (lt_or_le n 2)

-- what was numbered k after o is numbered k after q
renumbered_up : (o q k : ℕ) (l : List ℕ) → renumbered o q (map (λ c. o + k + c) l) ≡ map (λ c. q + k + c) l
unfolding renumbered
renumbered_up o q k [] = refl
renumbered_up o q k (c ∷ l) = ap₂ (λ (a : ℕ) (m : List ℕ). a ∷ m) (omega arith) (renumbered_up o q k l)

tube_moved : (p d n o q k : ℕ) → renumbered o q (tube p d (o + k) n) ≡ tube p d (q + k) n
tube_moved p d n o q k = ap (renumbered o q) (sym (tube_up p (o + k) d n)) ∙ renumbered_up o q k (tube p d 0 n) ∙ tube_up p (q + k) d n

pub mesh_moved : (p d o q k : ℕ) (ns : List ℕ) → renumbered o q (mesh p d (o + k) ns) ≡ mesh p d (q + k) ns
unfolding mesh renumbered
mesh_moved p d o q k [] = refl
mesh_moved p d o q k (n ∷ ns) =
    map-append (λ c. c - o + q) (tube p d (o + k) n) (mesh p d (o + k + vertices p d n) ns)
    ∙ ap₂ ◌++◌ (tube_moved p d n o q k)
    (ap (λ (v : ℕ). renumbered o q (mesh p d v ns)) (omega arith) ∙ mesh_moved p d o q (k + vertices p d n) ns ∙ ap (λ (v : ℕ). mesh p d v ns) (omega arith))
