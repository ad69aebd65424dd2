-- Of an accepted job: check 8 keeps every coordinate within 16384, so each C-alpha of a tube is at most 2 ^ 14 in size, and the caps of every tube have normals that are finite and not dark. Assumes nothing.
use Rattle.std.specs.Prelude.{None}
use Prim.Native.Nat.{ℕ, zero, suc, ◌-◌, ◌*◌, ◌≤◌}
use mathlib.Core.Bool.{Bool, true, false, not, ◌||◌, false≢true}
use mathlib.Core.List.{List, [], ◌∷◌, map}
use mathlib.Core.Path.{◌≡◌, refl, sym, ◌∙◌, ap, subst}
use native.Mathlib.Omega.{arith}
use borrow.Author.Tests.{leb-true}
use lib.Dec.{lit≤}
use lib.ListN.{length, get_or}
use lib.Ieee.{Float, nan, inf, fin, binary32, binary64, up, down, le, of_bits}
use lib.Ieee.Fits.{down_pos}
use Rattle.floats.specs.Floats.{narrowed}
use Rattle.lists.proofs.Bools.{or_left, or_rest}
use Rattle.lists.proofs.Searches.{first_le, last_le}
use Rattle.vectors.specs.declared.Vec3.{Vec3}
use Rattle.vectors.specs.Vec.{vsub, vec_at, direction_of}
use Rattle.vectors.proofs.Flat.{floats_at}
use Rattle.sizes.proofs.Most.{Real, Real3, vmore, round_real, self_nowhere}
use Rattle.numbers.specs.Bytes.{u64_at}
use Rattle.protein.specs.Layout.{x_at, y_at, z_at}
use Rattle.protein.specs.Job.{Job, job_of}
use Rattle.protein.specs.Places.{coordinate_at, place_of}
use Rattle.protein.specs.Protein.{protein_of}
use Rattle.protein.specs.declared.Head.{Head}
use Rattle.job.specs.Coordinate.{within}
use Rattle.job.specs.Check.{bad_coordinate}
use Rattle.job.proofs.Accepted.{Accepted}
use Rattle.job.proofs.Coordinate.{ranged, within_is, ranged_fin}
use Rattle.tables.specs.Wants.{gives}
use Rattle.tables.specs.declared.Want.TheVariants.{Alpha, SegmentAlpha}
use Rattle.tubes.specs.declared.Source.{Source}
use Rattle.tubes.specs.declared.Source.TheVariants.{Coils, Segment}
use Rattle.tubes.specs.Tubes.{Tube, coil_alpha, segment_alpha, alpha_of}
use Rattle.mesh.specs.Mesh.{size_of, kind_of, alphas_of, spot_of, spots}
use Rattle.caps.specs.Caps.{chord, end_normal}
use Rattle.skin.specs.Tube.{start_normal}
use Rattle.promises.proofs.Tubes.{length_alphas}
use Rattle.cap_theorems.specs.Caps.{points_in, guides_in, last_chord}
use Rattle.cap_theorems.proofs.Within.{Within, Normal, points_within, start_cap_lem, end_cap_lem}

-- ---- a coordinate that passes check 8

ranged_real : (v : Float) → ranged v ≡ true → Real 14 v
unfolding ranged le
ranged_real nan e = absurd (false≢true e)
ranged_real (inf true) e = absurd (false≢true e)
ranged_real (inf false) e = absurd (false≢true e)
ranged_real (fin t n d) e = omega (arith, leb-true (n * up d * 1) (16384 * down d) (sym (ranged_fin t n d) ∙ e))

-- and narrowing keeps it
narrowed_real : (x : Float) → Real 14 x → Real 14 (narrowed binary32 x)
unfolding narrowed
narrowed_real nan h = absurd h
narrowed_real (inf s) h = absurd h
narrowed_real (fin s m e) h = round_real binary32 14 s (m * up e) (down e) (lit≤ tt) (down_pos e) h

kept : (b : Bool) → not b ≡ false → b ≡ true
kept true e = refl
kept false e = sym e

coordinate_real : (s : List ℕ) (at : ℕ) → not (within (u64_at s at)) ≡ false → Real 14 (coordinate_at s at)
unfolding coordinate_at
coordinate_real s at e = narrowed_real (of_bits binary64 (u64_at s at)) (ranged_real _ (sym (within_is (u64_at s at)) ∙ kept _ e))

-- ---- an atom, counted from 1

place_real : (s : List ℕ) (h : Head) (a : ℕ) → bad_coordinate s h a ≡ false → Real3 14 (place_of s h (suc a))
unfolding bad_coordinate place_of
place_real s h a e =
    let z : suc a - 1 ≡ a = omega arith in
    let out : ℕ → Bool = λ at. not (within (u64_at s at)) in
    let r = or_rest (out (x_at h a)) (out (y_at h a) || out (z_at h a)) e in
    rw z (coordinate_real s (x_at h a) (or_left (out (x_at h a)) (out (y_at h a) || out (z_at h a)) e), coordinate_real s (y_at h a) (or_left (out (y_at h a)) (out (z_at h a)) r), coordinate_real s (z_at h a) (or_rest (out (y_at h a)) (out (z_at h a)) r))

-- or the place of none
spot_real : (s : List ℕ) (h : Head) (q : List ℕ) → Accepted s h q → (a : ℕ) → a ≤ h.atoms → Real3 14 (spot_of (place_of s h) a)
unfolding spot_of of_bits
spot_real s h q A zero l = (lit≤ tt, lit≤ tt, lit≤ tt)
spot_real s h q A (suc a) l = place_real s h a (A.coordinates a l)

-- ---- a tube's C-alphas

alpha_few : (J : Job) (source : Source) (r : ℕ) → alpha_of J source r ≤ J.atoms
unfolding alpha_of coil_alpha segment_alpha
alpha_few J Coils r = first_le (gives J Alpha r) J.atoms
alpha_few J (Segment i g) r = last_le (gives J (SegmentAlpha g) r) J.atoms

map_few : (g : ℕ → ℕ) (n : ℕ) → ((r : ℕ) → g r ≤ n) → (l : List ℕ) (i : ℕ) → get_or (map g l) i 0 ≤ n
map_few g n h [] i = omega arith
map_few g n h (x ∷ xs) zero = h x
map_few g n h (x ∷ xs) (suc i) = map_few g n h xs i

module _ (s : List ℕ) (h : Head) (q : List ℕ) (A : Accepted s h q) (u : Tube) where
  spots_within : Within 30 (spots (place_of s h) (alphas_of (protein_of s h) u)) (size_of u)
  unfolding spots alphas_of
  spots_within i l =
      let few = map_few (alpha_of (job_of s h) u.source) h.atoms (alpha_few (job_of s h) u.source) u.residues i in
      let at = floats_at (λ (j : ℕ). spot_of (place_of s h) (get_or (alphas_of (protein_of s h) u) j 0)) (length (alphas_of (protein_of s h) u)) i (omega (arith, length_alphas (protein_of s h) u)) in
      subst (Real3 30) (sym at) (vmore 14 30 (spot_of (place_of s h) (get_or (alphas_of (protein_of s h) u) i 0)) (lit≤ tt) (spot_real s h q A (get_or (alphas_of (protein_of s h) u) i 0) few))

  points_real : 2 ≤ size_of u → Within 39 (points_in (protein_of s h) u) (size_of u)
  unfolding points_in
  points_real two = points_within (kind_of u.kind) _ (size_of u) spots_within

  -- two spline points that coincide have no direction between them
  pub coincide : 2 ≤ size_of u → vec_at (points_in (protein_of s h) u) (size_of u - 1) ≡ vec_at (points_in (protein_of s h) u) (size_of u - 2) → direction_of (last_chord (protein_of s h) u) ≡ None
  unfolding chord
  coincide two e =
      let p = points_in (protein_of s h) u in
      ap (λ (v : Vec3). direction_of (vsub v (vec_at p (size_of u - 2)))) e ∙ self_nowhere 39 (vec_at p (size_of u - 2)) (points_real two (size_of u - 2) (omega arith))

  -- ---- THE caps of a tube
  pub start_normal_lem : 2 ≤ size_of u → Normal (start_normal (points_in (protein_of s h) u) (guides_in (protein_of s h) u) (size_of u))
  unfolding points_in
  start_normal_lem two = start_cap_lem (kind_of u.kind) _ (guides_in (protein_of s h) u) (size_of u) two spots_within

  pub end_normal_lem : 2 ≤ size_of u → Normal (end_normal (points_in (protein_of s h) u) (guides_in (protein_of s h) u) (size_of u))
  unfolding points_in
  end_normal_lem two = end_cap_lem (kind_of u.kind) _ (guides_in (protein_of s h) u) (size_of u) two spots_within
