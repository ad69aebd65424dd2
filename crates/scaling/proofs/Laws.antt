-- Laws of scales as they are written, of the factor, and of scaled lists. Assumes nothing.
use Prim.Native.Nat.{ℕ, suc, ◌+◌, ◌*◌, ◌-◌, ◌^◌, ◌<◌, ◌≤◌}
use mathlib.Core.Bool.{Bool, true, false, ◌&&◌, cond}
use mathlib.Core.Path.{◌≡◌, refl, sym, ap, ◌∙◌}
use mathlib.Core.List.{List, [], ◌∷◌, ◌++◌, append-nil}
use native.Mathlib.Numerals.{add-one}
use native.Mathlib.Nat.{mul_assoc, mul_comm, mul-pos, mul-le-mul, pow-le-pow_right, zero-add}
use native.Mathlib.Omega.{arith}
use lib.Dec.{T, eqb, leb, lit<, le→leb}
use lib.Ieee.{Float, nan, inf, fin, binary32, unlike, up, down, round, mul, div, of_int, of_bits, in_float, fits}
use lib.Ieee.Back.{round_whole}
use lib.Ieee.Exact.{HasValue}
use lib.Ieee.Fits.{down_pos}
use lib.Ieee.Scale.{round_same}
use lib.IntN.{pos}
use lib.ListN.{length, take, drop, get_or, set, drop_of_length-le, length-map, get_or-map}
use lib.Seq.{drop-cons, take-suc-set, drop-set-lt, append_snoc, take_all, ext_get_or}
use borrow.Author.Tests.{leb-true, le-leb, lt-leb, ne_eqb}
use Rattle.pdb_fields.specs.Numbers.{run, is_digit, decimal, lead}
use Rattle.pdb_fields.specs.Post.{Digits}
use Rattle.pdb_fields.proofs.Laws.{small}
use Rattle.buffers.specs.declared.Counts.{Counts}
use Rattle.buffers.specs.Outs.{Outs, sizes}
use Rattle.consistency.specs.Consistent.{consistent_in, consistent}
use Rattle.std.specs.Prelude.{Some, None}
use Rattle.scaling.specs.Scale.{front, point, back, formed, thousandths, within, factor_in, factor, scaled, scaled_mesh}
use Rattle.scaling.proofs.One.{times_one}

-- ---- as it is written

-- which test of the form fails, or that all but the last hold
module _ (d p e n : ℕ) where
  pub no_front : d < 1 → false ≡ formed d p e n
  no_front h = rw (lt-leb 1 d h)

  pub long_front : 1 ≤ d → 4 < d → false ≡ formed d p e n
  long_front h g = rw (le-leb 1 d h, lt-leb d 4 g)

  pub no_back : 1 ≤ d → d ≤ 4 → e < p → false ≡ formed d p e n
  no_back h g b = rw (le-leb 1 d h, le-leb d 4 g, lt-leb p e b)

  pub long_back : 1 ≤ d → d ≤ 4 → p ≤ e → 3 * p < e → false ≡ formed d p e n
  long_back h g b a = rw (le-leb 1 d h, le-leb d 4 g, le-leb p e b, lt-leb e (3 * p) a)

  pub all_there : 1 ≤ d → d ≤ 4 → p ≤ e → e ≤ 3 * p → eqb (d + p + e) n ≡ formed d p e n
  all_there h g b a = rw (le-leb 1 d h, le-leb d 4 g, le-leb p e b, le-leb e (3 * p) a)

  -- nothing that is longer than eight bytes is a scale
  pub too_long : p ≤ 1 → 8 < n → false ≡ formed d p e n
  too_long h g = go (leb 1 d) (leb d 4) (leb p e) (leb e (3 * p)) (leb-true d 4) (leb-true e (3 * p))
    where
      go : (a b c f : Bool) → (b ≡ true → d ≤ 4) → (f ≡ true → e ≤ 3 * p) → false ≡ (a && (b && (c && (f && eqb (d + p + e) n))))
      go false b c f x y = refl
      go true false c f x y = refl
      go true true false f x y = refl
      go true true true false x y = refl
      go true true true true x y =
          let s = x refl in
          let t = y refl in
          sym (ne_eqb (d + p + e) n (λ z. omega arith))

pub lead_small : (b : ℕ) (l : List ℕ) → lead b l ≤ 1
lead_small b [] = omega arith
lead_small b (x ∷ l) = go (eqb x b)
  where
    go : (t : Bool) → cond t 1 0 ≤ 1
    go true = omega arith
    go false = omega arith

pub long_bad : (l : List ℕ) → 8 < length l → None ≡ factor_in l
unfolding factor_in
long_bad l h = ap (λ (t : Bool). cond t (within (thousandths l)) None) (too_long (front l) (point l) (back l) (length l) (lead_small 46 (drop (front l) l)) h)

-- a number of thousandths, and what makes one of it
pub no_scale : (m : ℕ) → m < 1 → None ≡ within m
no_scale m h = rw (lt-leb 1 m h)

pub large_scale : (m : ℕ) → 1 ≤ m → 1000000 < m → None ≡ within m
large_scale m h g = rw (le-leb 1 m h, lt-leb m 1000000 g)

pub good_scale : (m : ℕ) → 1 ≤ m → m ≤ 1000000 → Some m ≡ within m
good_scale m h g = rw (le-leb 1 m h, le-leb m 1000000 g)

pub tens_at : (n e : ℕ) → e ≡ n → 10 ^ (3 - n) ≡ 10 ^ (3 - e)
tens_at n e h = rw h

pub tens_past : (e : ℕ) → 3 ≤ e → 1 ≡ 10 ^ (3 - e)
tens_past e h = let z : 3 - e ≡ 0 = omega arith in rw z

pub ten_up : (v k p : ℕ) → v < 10 ^ k → v < 10 ^ (k + p)
ten_up v k p h = let g : 10 ^ k ≤ 10 ^ (k + p) = pow-le-pow_right (lit< tt) (omega arith) in omega arith

pub product_small : (v k t : ℕ) → v < 10 ^ k → k ≤ 8 → t ≤ 1000 → v * t < 2 ^ 64
product_small v k t h g f =
    let b = small v k h g in
    let p : v * t ≤ 100000000 * 1000 = mul-le-mul {n₁ = v} {m₁ = t} {n₂ = 100000000} {m₂ = 1000} (omega arith) f in
    omega arith

-- what has been read of it, as the code has it
module _ (l : List ℕ) (d v p e w : ℕ) (hd : Digits l 0 0 d v) (hp : p ≡ lead 46 (drop d l)) (he : Digits l (d + p) v e w) where
  front_is : front l ≡ d
  front_is = sym (hd.end ∙ zero-add (front l))

  point_is : point l ≡ p
  point_is = ap (λ (n : ℕ). lead 46 (drop n l)) front_is ∙ sym hp

  at_is : front l + point l ≡ d + p
  at_is = omega (arith, front_is, point_is)

  back_is : back l ≡ e - (d + p)
  back_is = ap (λ (n : ℕ). run is_digit (drop n l)) at_is ∙ omega (arith, he.end)

  value_is : thousandths l ≡ w * 10 ^ (3 - (e - (d + p)))
  unfolding thousandths
  value_is =
      ap (λ (n : ℕ). decimal (decimal 0 (take (front l) l)) (take (run is_digit (drop n l)) (drop n l)) * 10 ^ (3 - back l)) at_is
      ∙ ap (λ (n : ℕ). decimal n (take (run is_digit (drop (d + p) l)) (drop (d + p) l)) * 10 ^ (3 - back l)) (sym hd.number)
      ∙ ap (λ (n : ℕ). n * 10 ^ (3 - back l)) (sym he.number)
      ∙ ap (λ (n : ℕ). w * 10 ^ (3 - n)) back_is

  form_is : formed (front l) (point l) (back l) (length l) ≡ formed d p (e - (d + p)) (length l)
  form_is = ap (λ (n : ℕ). formed n (point l) (back l) (length l)) front_is ∙ ap (λ (n : ℕ). formed d n (back l) (length l)) point_is ∙ ap (λ (n : ℕ). formed d p n (length l)) back_is

  pub factor_bad : formed d p (e - (d + p)) (length l) ≡ false → None ≡ factor_in l
  unfolding factor_in
  factor_bad f = sym (ap (λ (t : Bool). cond t (within (thousandths l)) None) (form_is ∙ f))

  pub factor_good : formed d p (e - (d + p)) (length l) ≡ true → within (w * 10 ^ (3 - (e - (d + p)))) ≡ factor_in l
  unfolding factor_in
  factor_good f = sym (ap (λ (t : Bool). cond t (within (thousandths l)) None) (form_is ∙ f) ∙ ap within value_is)

pub good_within : (l : List ℕ) (m : ℕ) → factor_in l ≡ Some m → (1 ≤ m) × (m ≤ 1000000)
unfolding factor_in
good_within l m = go (formed (front l) (point l) (back l) (length l)) (leb 1 t) (leb t 1000000) (leb-true 1 t) (leb-true t 1000000)
  where
    t : ℕ
    t = thousandths l

    go : (f a b : Bool) → (a ≡ true → 1 ≤ t) → (b ≡ true → t ≤ 1000000) → cond f (cond (a && b) (Some t) None) None ≡ Some m → (1 ≤ m) × (m ≤ 1000000)
    go true true true x y e =
        let q : t ≡ m = cc in
        let p = x refl in
        let r = y refl in
        (omega arith, omega arith)
    go true true false x y e = absurd (let z : ◌≡◌ {A = ℕ} 0 1 = cc in omega arith)
    go true false b x y e = absurd (let z : ◌≡◌ {A = ℕ} 0 1 = cc in omega arith)
    go false a b x y e = absurd (let z : ◌≡◌ {A = ℕ} 0 1 = cc in omega arith)

-- ---- the factor

-- a whole number up to 16,777,216 is an f32 exactly
pub is_float : (m : ℕ) → m ≤ 1000000 → T (in_float binary32 (pos m))
unfolding in_float
is_float m h = le→leb m (2 ^ 24) (omega arith)

thousand : of_bits binary32 0x447A0000 ≡ fin false 125 (pos 3)
unfolding of_bits
thousand = refl

div_thousand : (x : Float) (n : ℕ) → HasValue x false n 1 → div binary32 x (fin false 125 (pos 3)) ≡ round binary32 false n 1000
unfolding div
div_thousand nan n v = absurd v
div_thousand (inf t) n v = absurd v
div_thousand (fin t m e) n v =
    ap (λ (s : Bool). round binary32 (unlike s false) (m * up e * 1) (1000 * down e)) v.0
    ∙ round_same binary32 false (m * up e * 1) (1000 * down e) n 1000 (mul-pos (lit< tt) (down_pos e)) (lit< tt)
    (ap (λ (x : ℕ). x * 1000) v.1 ∙ mul_assoc n (down e) 1000 ∙ ap (λ (x : ℕ). n * x) (mul_comm (down e) 1000))

-- so its quotient by 1000 rounds once
pub divided : (m : ℕ) → m ≤ 1000000 → div binary32 (of_int binary32 (pos m)) (of_bits binary32 0x447A0000) ≡ factor m
unfolding factor of_int
divided m h = ap (div binary32 (round binary32 false m 1)) thousand ∙ div_thousand (round binary32 false m 1) m (round_whole binary32 false m (omega arith))

-- ---- scaled coordinates

-- what has been scaled, and what is left: one coordinate further on, and past the end
module _ (k : Float) (l : List Float) where
  pub scaled_turn : (i : ℕ) → i < length l
      → take (i + 1) (set l i (mul binary32 (get_or l i nan) k)) ++ scaled k (drop (i + 1) (set l i (mul binary32 (get_or l i nan) k)))
      ≡ take i l ++ scaled k (drop i l)
  unfolding scaled
  scaled_turn i h =
      rw (
        add-one,
        take-suc-set l i (mul binary32 (get_or l i nan) k) h,
        drop-set-lt (suc i) l i (mul binary32 (get_or l i nan) k) (omega arith),
        drop-cons l i nan h,
      ) (append_snoc (take i l) (mul binary32 (get_or l i nan) k) (scaled k (drop (suc i) l)))

  pub scaled_over : (i : ℕ) → length l ≤ i → l ≡ take i l ++ scaled k (drop i l)
  unfolding scaled
  scaled_over i h = rw (drop_of_length-le l h, take_all i l h) (sym (append-nil l))

pub scaled_length : (k : Float) (l : List Float) → length (scaled k l) ≡ length l
unfolding scaled
scaled_length k l = length-map l (λ (x : Float). mul binary32 x k)

pub scaled_place : (k : Float) (l : List Float) (i : ℕ) → get_or (scaled k l) i nan ≡ mul binary32 (get_or l i nan) k
unfolding scaled mul
scaled_place k l i = get_or-map (λ (x : Float). mul binary32 x k) l i nan

-- times 1
one_is : factor 1000 ≡ fin false 1 (pos 0)
unfolding factor round
one_is = refl

pub scaled_one : (l : List Float) → ((i : ℕ) → T (fits binary32 (get_or l i nan))) → scaled (factor 1000) l ≡ l
scaled_one l f =
    ext_get_or nan (scaled (factor 1000) l) l (scaled_length (factor 1000) l)
    (λ i _. scaled_place (factor 1000) l i ∙ ap (mul binary32 (get_or l i nan)) one_is ∙ times_one binary32 (get_or l i nan) (f i))

-- ---- a mesh, of which nothing but the number of its coordinates matters
pub same_consistency : (p d : ℕ) (k : Float) (o : Outs) (c : Counts) → consistent p d (scaled_mesh k o) c ≡ consistent p d o c
same_consistency p d k o c =
    ap (λ (n : ℕ). consistent_in p d (sizes n (length o.normals) (length o.tags) (length o.triangles) (length o.tubes) (length o.boxes)) o.tubes o.triangles c)
    (scaled_length k o.positions)
