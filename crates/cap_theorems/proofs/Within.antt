-- A cap's normal is finite and not dark where the C-alphas are finite and at most 2 ^ 30 in size, far above check 8's 16384: the sizes of what it is computed from.
-- Assumes nothing.
use Rattle.std.specs.Prelude.{Option, Some, None}
use mathlib.Core.Path.{◌≡◌, refl, sym, ap, ◌∙◌, subst}
use mathlib.Core.Logic.{inl, inr}
use mathlib.Core.Bool.{Bool, true, false, cond, ◌||◌, beq, true≢false, false≢true}
use mathlib.Core.List.{List}
use Prim.Native.Nat.{ℕ, suc, ◌+◌, ◌-◌, ◌*◌, ◌^◌, ◌≤◌, ◌<◌}
use native.Mathlib.Omega.{arith}
use borrow.Author.Tests.{lt-ltb, eqb-false}
use lib.IntN.{pos, negsuc}
use lib.Dec.{T, eqb, eqb→eq, lit≤}
use lib.Ieee.{Float, nan, inf, fin, binary32, up, down, eq, lt, neg, of_bits, of_int, div}
use lib.Ieee.Fits.{and_l, down_pos}
use Rattle.vectors.specs.declared.Vec3.{Vec3}
use Rattle.vectors.specs.Vec.{vadd, vsub, vscale, vlength, vzero, vec_at, lit, one, f/, f*, direction_of, normalised}
use Rattle.vectors.proofs.Directions.{along}
use Rattle.sizes.proofs.Least.{zero_f, zero_is}
use Rattle.sizes.proofs.Lengths.{Shines, scaled_shines, turned_shines}
use Rattle.sizes.proofs.Most.{Real, Real3, vmore, mul_real, neg_real, vadd_real, vsub_real, vscale_real, length_finite, scaled_real}
use Rattle.shape.specs.declared.Kind.{Kind}
use Rattle.shape.specs.declared.Kind.TheVariants.{Coil, Helix, Sheet}
use Rattle.shape.specs.Spline.{two, three, four, five, bend, twist, catmull_rom_tangent, of4}
use Rattle.shape.specs.Guide.{yaxis, tiny, directed, weighted, smooth_position}
use Rattle.smooth.specs.Pass.{position_pass, repeated, smooth_positions}
use Rattle.smooth.proofs.Laws.{position_at}
use Rattle.curve.specs.Residues.{points_of}
use Rattle.curve.specs.Samples.{before_of, after_of, span_of, span_at, param_at, frame_of, frame_at}
use Rattle.caps.specs.Caps.{chord, end_normal}
use Rattle.skin.specs.Tube.{start_normal}
use Rattle.caps.proofs.Laws.{chord_kept, tangent_taken, last_tangent_lem}

-- ---- a vector over its length

-- finite, and not dark
abbrev pub Normal : Vec3 → Type 0
Normal v = Real3 127 v × Shines v

-- where the length is not 0
scaled : (a : Vec3) → Real3 52 a → eq (vlength a) (lit 0) ≡ false → Normal (vscale a (f/ one (vlength a)))
scaled a h k = (scaled_real a h k, scaled_shines a k (length_finite a (vmore 52 62 a (lit≤ tt) h)))

-- a length that equals 0 is below 1e-8
tiny_is : tiny ≡ fin false 11258999 (negsuc 49)
unfolding of_bits
tiny_is = refl

zero_below : (l : Float) → eq l zero_f ≡ true → lt l (fin false 11258999 (negsuc 49)) ≡ true
unfolding eq lt
zero_below nan e = absurd (false≢true e)
zero_below (inf s) e = absurd (false≢true e)
zero_below (fin s m d) e = go s (eqb→eq (m * up d * 1) (0 * 1 * down d) (and_l (eqb (m * up d * 1) (0 * 1 * down d)) (beq s false || eqb (m * up d * 1) 0) (subst T (sym e) tt)))
  where
    less : (a b : ℕ) → 0 < b → a * 1 ≡ 0 * 1 * b → a * 2 ^ 50 < 11258999 * 1 * b
    less a b h k = omega arith

    some : (a b : ℕ) → 0 < b → 0 < a + 11258999 * 1 * b
    some a b h = omega arith

    go : (s : Bool) → m * up d * 1 ≡ 0 * 1 * down d → lt (fin s m d) (fin false 11258999 (negsuc 49)) ≡ true
    go false h = lt-ltb (m * up d * 2 ^ 50) (11258999 * 1 * down d) (less (m * up d) (down d) (down_pos d) h)
    go true h = lt-ltb 0 (m * up d * 2 ^ 50 + 11258999 * 1 * down d) (some (m * up d * 2 ^ 50) (down d) (down_pos d))

-- so what a tangent is taken from has a length that is not 0, or is too short, and then it is (0, 1, 0)
yaxis_normal : Normal yaxis
unfolding of_bits eq
yaxis_normal = ((lit≤ tt, lit≤ tt, lit≤ tt), inr (inl (lit≤ tt)))

directed_normal : (v : Vec3) → Real3 52 v → Normal (directed v)
unfolding directed normalised
directed_normal v f = go (lt (vlength v) tiny) (eq (vlength v) (lit 0)) refl refl
  where
    go : (p q : Bool) → lt (vlength v) tiny ≡ p → eq (vlength v) (lit 0) ≡ q → Normal (cond p yaxis (cond q vzero (vscale v (f/ one (vlength v)))))
    go true q h k = yaxis_normal
    go false true h k = absurd (true≢false (sym (zero_below (vlength v) (sym (ap (eq (vlength v)) zero_is) ∙ k)) ∙ sym (ap (lt (vlength v)) tiny_is) ∙ h))
    go false false h k = scaled v f k

-- ---- the derivative of a span, whose control points are at most 2 ^ 41: a sum adds one power of two, a product the other's

one_real : Real 0 one
unfolding of_bits
one_real = lit≤ tt

two_real : Real 1 two
unfolding of_bits
two_real = lit≤ tt

three_real : Real 2 three
unfolding of_bits
three_real = lit≤ tt

four_real : Real 2 four
unfolding of_bits
four_real = lit≤ tt

five_real : Real 3 five
unfolding of_bits
five_real = lit≤ tt

quarter_real : Real 0 (lit 0x3e800000)
unfolding of_bits
quarter_real = lit≤ tt

module _ (a b c d : Vec3) (p : Real3 41 a) (q : Real3 41 b) (r : Real3 41 c) (s : Real3 41 d) where
  bend_real : Real3 47 (bend a b c d)
  unfolding bend
  bend_real =
      let a2 = vscale a two in
      let b5 = vscale b five in
      let c4 = vscale c four in
      vsub_real 46 (vadd (vsub a2 b5) c4) d (lit≤ tt)
      (vadd_real 45 (vsub a2 b5) c4 (lit≤ tt)
      (vsub_real 44 a2 b5 (lit≤ tt) (vmore 42 44 a2 (lit≤ tt) (vscale_real 41 1 a two (lit≤ tt) p two_real)) (vscale_real 41 3 b five (lit≤ tt) q five_real))
      (vmore 43 45 c4 (lit≤ tt) (vscale_real 41 2 c four (lit≤ tt) r four_real)))
      (vmore 41 46 d (lit≤ tt) s)

  twist_real : Real3 46 (twist a b c d)
  unfolding twist
  twist_real =
      let a1 = vscale a (neg one) in
      let b3 = vscale b three in
      let c3 = vscale c three in
      vadd_real 45 (vsub (vadd a1 b3) c3) d (lit≤ tt)
      (vsub_real 44 (vadd a1 b3) c3 (lit≤ tt)
      (vadd_real 43 a1 b3 (lit≤ tt) (vmore 41 43 a1 (lit≤ tt) (vscale_real 41 0 a (neg one) (lit≤ tt) p (neg_real 0 one one_real))) (vscale_real 41 2 b three (lit≤ tt) q three_real))
      (vmore 43 44 c3 (lit≤ tt) (vscale_real 41 2 c three (lit≤ tt) r three_real)))
      (vmore 41 45 d (lit≤ tt) s)

  slope_real : (t : Float) → Real 0 t → Real3 50 (catmull_rom_tangent a b c d t)
  unfolding catmull_rom_tangent
  slope_real t h =
      let x = vsub c a in
      let y = vscale (bend a b c d) (f* two t) in
      let z = vscale (twist a b c d) (f* three (f* t t)) in
      vadd_real 49 (vadd x y) z (lit≤ tt)
      (vadd_real 48 x y (lit≤ tt) (vmore 42 48 x (lit≤ tt) (vsub_real 41 c a (lit≤ tt) r p))
      (vscale_real 47 1 (bend a b c d) (f* two t) (lit≤ tt) bend_real (mul_real binary32 1 0 two t (lit≤ tt) two_real h)))
      (vmore 48 49 z (lit≤ tt) (vscale_real 46 2 (twist a b c d) (f* three (f* t t)) (lit≤ tt) twist_real (mul_real binary32 2 0 three (f* t t) (lit≤ tt) three_real (mul_real binary32 0 0 t t (lit≤ tt) h h))))

zero_real : Real 0 (f/ (of_int binary32 (pos 0)) (lit 0x41000000))
unfolding of_bits of_int div
zero_real = lit≤ tt

-- the first sample's tangent: that of span 0 where t is 0 / 8
first_tangent : (p g : List Float) (n : ℕ) → 2 ≤ n → (frame_at p g n 0).tangent ≡ directed (of4 catmull_rom_tangent (span_of p n 0) (f/ (of_int binary32 (pos 0)) (lit 0x41000000)))
unfolding frame_at frame_of span_at param_at
first_tangent p g n N =
    ap (λ (b : Bool). directed (of4 catmull_rom_tangent (span_of p n (cond b 0 (n - 2))) (cond b (f/ (of_int binary32 (pos 0)) (lit 0x41000000)) one))) (lt-ltb 1 n N)

-- ---- n vectors of a flat list, each at most 2 ^ k

abbrev pub Within : ℕ → List Float → ℕ → Type 0
Within k p n = (i : ℕ) → i < n → Real3 k (vec_at p i)

either : (k : ℕ) (b : Bool) (v w : Vec3) → Real3 k v → Real3 k w → Real3 k (cond b v w)
either k true v w h e = h
either k false v w h e = e

-- a point that is extended linearly
beyond : (v w : Vec3) → Real3 39 v → Real3 39 w → Real3 41 (vadd v (vsub v w))
beyond v w p q = vadd_real 40 v (vsub v w) (lit≤ tt) (vmore 39 40 v (lit≤ tt) p) (vsub_real 39 v w (lit≤ tt) p q)

module _ (p : List Float) (n : ℕ) (N : 2 ≤ n) (h : Within 39 p n) where
  -- the derivative at parameter t of span i
  slope_at : (i : ℕ) (t : Float) → i + 1 < n → Real 0 t → Real3 50 (of4 catmull_rom_tangent (span_of p n i) t)
  unfolding span_of
  slope_at i t l T0 =
      let a = vec_at p i in
      let b = vec_at p (i + 1) in
      let A : Real3 39 a = h i (omega arith) in
      let B : Real3 39 b = h (i + 1) l in
      slope_real (before_of p i a b) a b (after_of p n i a b)
      (either 41 (eqb i 0) (vadd a (vsub a b)) (vec_at p (i - 1)) (beyond a b A B) (vmore 39 41 (vec_at p (i - 1)) (lit≤ tt) (h (i - 1) (omega arith))))
      (vmore 39 41 a (lit≤ tt) A) (vmore 39 41 b (lit≤ tt) B)
      (after (eqb (i + 2) n) refl (beyond b a B A))
      t T0
    where
      after : (e : Bool) → eqb (i + 2) n ≡ e → Real3 41 (vadd (vec_at p (i + 1)) (vsub (vec_at p (i + 1)) (vec_at p i)))
          → Real3 41 (cond e (vadd (vec_at p (i + 1)) (vsub (vec_at p (i + 1)) (vec_at p i))) (vec_at p (i + 2)))
      after true e r = r
      after false e r = vmore 39 41 (vec_at p (i + 2)) (lit≤ tt) (h (i + 2) (omega (arith, eqb-false (i + 2) n e)))

  chord_real : Real3 40 (chord p n)
  unfolding chord
  chord_real = vsub_real 39 (vec_at p (n - 1)) (vec_at p (n - 2)) (lit≤ tt) (h (n - 1) (omega arith)) (h (n - 2) (omega arith))

  -- ---- THE start cap, over spline points
  start_within : (g : List Float) → Normal (start_normal p g n)
  unfolding start_normal
  start_within g =
      let s = of4 catmull_rom_tangent (span_of p n 0) (f/ (of_int binary32 (pos 0)) (lit 0x41000000)) in
      let d = directed_normal s (vmore 50 52 s (lit≤ tt) (slope_at 0 _ (omega arith) zero_real)) in
      subst (λ (v : Vec3). Normal (vscale v (neg one))) (sym (first_tangent p g n N))
      (vscale_real 127 0 (directed s) (neg one) (lit≤ tt) d.0 (neg_real 0 one one_real), turned_shines (directed s) d.1)

  -- ---- THE end cap
  end_within : (g : List Float) → Normal (end_normal p g n)
  end_within g = go (direction_of (chord p n)) refl
    where
      go : (d : Option Vec3) → direction_of (chord p n) ≡ d → Normal (end_normal p g n)
      go (Some v) e =
          let k = along (chord p n) v e in
          subst Normal (sym ((chord_kept p g n v e).0 ∙ k.1)) (scaled (chord p n) (vmore 40 52 (chord p n) (lit≤ tt) chord_real) k.0)
      go None e =
          let s = of4 catmull_rom_tangent (span_of p n (n - 2)) one in
          subst Normal (sym (tangent_taken p g n e ∙ last_tangent_lem p g n)) (directed_normal s (vmore 50 52 s (lit≤ tt) (slope_at (n - 2) one (omega arith) one_real)))

-- ---- smoothing: one pass adds three powers at most

smoothed : (k : ℕ) (a b c : Vec3) → k + 3 ≤ 127 → Real3 k a → Real3 k b → Real3 k c → Real3 (k + 3) (smooth_position a b c)
unfolding smooth_position weighted
smoothed k a b c K p q r =
    let b2 = vscale b two in
    let s = vadd (vadd a b2) c in
    vmore (suc (suc (k + 1)) + 0) (k + 3) (vscale s (lit 0x3e800000)) (omega arith)
    (vscale_real (suc (suc (k + 1))) 0 s (lit 0x3e800000) (omega arith)
    (vadd_real (suc (k + 1)) (vadd a b2) c (omega arith)
    (vadd_real (k + 1) a b2 (omega arith) (vmore k (k + 1) a (omega arith) p) (vscale_real k 1 b two (omega arith) q two_real)) (vmore k (suc (k + 1)) c (omega arith) r))
    quarter_real)

pass_within : (k n : ℕ) (p : List Float) → k + 3 ≤ 127 → Within k p n → Within (k + 3) (position_pass n p) n
pass_within k n p K h i l = subst (Real3 (k + 3)) (sym (position_at n p i l)) (go (eqb i 0) (eqb (i + 1) n) refl refl)
  where
    inner : Bool → Bool → Vec3
    inner u v = cond (u || v) (vec_at p i) (smooth_position (vec_at p (i - 1)) (vec_at p i) (vec_at p (i + 1)))

    more : Real3 (k + 3) (vec_at p i)
    more = vmore k (k + 3) (vec_at p i) (omega arith) (h i l)

    go : (u v : Bool) → eqb i 0 ≡ u → eqb (i + 1) n ≡ v → Real3 (k + 3) (inner u v)
    go true v e f = more
    go false true e f = more
    go false false e f = smoothed k _ _ _ K (h (i - 1) (omega arith)) (h i l) (h (i + 1) (omega (arith, eqb-false (i + 1) n f)))

pub points_within : (kind : Kind) (ca : List Float) (n : ℕ) → Within 30 ca n → Within 39 (points_of kind ca n) n
unfolding points_of smooth_positions repeated
points_within Coil ca n h i l = vmore 30 39 (vec_at ca i) (lit≤ tt) (h i l)
points_within Helix ca n h i l = vmore 30 39 (vec_at ca i) (lit≤ tt) (h i l)
points_within Sheet ca n h i l = pass_within 36 n _ (lit≤ tt) (pass_within 33 n _ (lit≤ tt) (pass_within 30 n ca (lit≤ tt) h)) i l

-- ---- THE caps, over C-alphas: whatever guides there are
pub start_cap_lem : (kind : Kind) (ca g : List Float) (n : ℕ) → 2 ≤ n → Within 30 ca n → Normal (start_normal (points_of kind ca n) g n)
start_cap_lem kind ca g n N h = start_within (points_of kind ca n) n N (points_within kind ca n h) g

pub end_cap_lem : (kind : Kind) (ca g : List Float) (n : ℕ) → 2 ≤ n → Within 30 ca n → Normal (end_normal (points_of kind ca n) g n)
end_cap_lem kind ca g n N h = end_within (points_of kind ca n) n N (points_within kind ca n h) g
