-- A scale that is written as the sentence says is taken for the number that it says. Assumes nothing.
use Prim.Native.Nat.{ℕ, zero, suc, ◌+◌, ◌*◌, ◌-◌, ◌^◌, ◌≤◌}
use mathlib.Core.Bool.{Bool, true, false, cond, ◌&&◌}
use mathlib.Core.Logic.{◌⊎◌, inl, inr}
use mathlib.Core.List.{List, [], ◌∷◌, ◌++◌}
use mathlib.Core.Path.{◌≡◌, refl, sym, ap, ◌∙◌}
use native.Mathlib.Nat.{add-zero}
use native.Mathlib.Omega.{arith}
use lib.Dec.{T, eqb, leb, leb→le, eqb→eq}
use lib.Ieee.Fits.{and_l, and_r}
use lib.ListN.{length, take, drop, length-append, length-drop, take-append-drop}
use lib.Seq.{take-length, drop-length, take-append_seam, drop-append_seam, drop-append-add, drop-drop, length-take-le}
use borrow.Author.Tests.{eq-eqb, eqb-true}
use Rattle.pdb_fields.specs.Numbers.{run, is_digit, decimal, lead}
use Rattle.std.specs.Prelude.{Some, None}
use Rattle.scaling.specs.Scale.{front, point, back, formed, thousandths, within, factor_in}
use Rattle.scaling.specs.Written.{Digital, Pointed}
use Rattle.scaling.proofs.Laws.{all_there, lead_small}

-- digits end where another byte stands
run_to : (t : ℕ → Bool) (a b : List ℕ) (x : ℕ) → run t a ≡ length a → t x ≡ false → run t (a ++ x ∷ b) ≡ length a
unfolding run
run_to t [] b x h e = rw e
run_to t (y ∷ a) b x h e = go (t y) h (λ r. run_to t a b x r e)
  where
    go : (c : Bool) → cond c (suc (run t a)) 0 ≡ suc (length a) → (run t a ≡ length a → run t (a ++ x ∷ b) ≡ length a) → cond c (suc (run t (a ++ x ∷ b))) 0 ≡ suc (length a)
    go true h f = ap suc (f (omega arith))
    go false h f = absurd (omega arith)

-- digits a in front, p points, digits b behind: the number is that of a and b in a row
module _ (l a b : List ℕ) (p : ℕ) (f : front l ≡ length a) (q : lead 46 (drop (length a) l) ≡ p) (r : drop (length a + p) l ≡ b) (d : run is_digit b ≡ length b) (t : take (length a) l ≡ a) where
  point_is : point l ≡ p
  point_is = ap (λ (n : ℕ). lead 46 (drop n l)) f ∙ q

  rest_is : drop (front l + point l) l ≡ b
  rest_is = let e : front l + point l ≡ length a + p = omega (arith, f, point_is) in ap (λ (n : ℕ). drop n l) e ∙ r

  back_is : back l ≡ length b
  back_is = ap (run is_digit) rest_is ∙ d

  value_is : thousandths l ≡ decimal (decimal 0 a) b * 10 ^ (3 - length b)
  unfolding thousandths
  value_is =
      ap (λ (n : ℕ). decimal (decimal 0 (take n l)) (take (back l) (drop (front l + point l) l)) * 10 ^ (3 - back l)) f
      ∙ ap (λ (m : List ℕ). decimal (decimal 0 m) (take (back l) (drop (front l + point l) l)) * 10 ^ (3 - back l)) t
      ∙ ap (λ (m : List ℕ). decimal (decimal 0 a) (take (back l) m) * 10 ^ (3 - back l)) rest_is
      ∙ ap (λ (n : ℕ). decimal (decimal 0 a) (take n b) * 10 ^ (3 - n)) back_is
      ∙ ap (λ (m : List ℕ). decimal (decimal 0 a) m * 10 ^ (3 - length b)) (take-length b)

  written : 1 ≤ length a → length a ≤ 4 → p ≤ length b → length b ≤ 3 * p → length a + p + length b ≡ length l
      → factor_in l ≡ within (decimal (decimal 0 a) b * 10 ^ (3 - length b))
  unfolding factor_in
  written h₁ h₂ h₃ h₄ n =
      ap (λ (k : ℕ). cond (formed k (point l) (back l) (length l)) (within (thousandths l)) None) f
      ∙ ap (λ (k : ℕ). cond (formed (length a) k (back l) (length l)) (within (thousandths l)) None) point_is
      ∙ ap (λ (k : ℕ). cond (formed (length a) p k (length l)) (within (thousandths l)) None) back_is
      ∙ ap (λ (c : Bool). cond c (within (thousandths l)) None) (sym (all_there (length a) p (length b) (length l) h₁ h₂ h₃ h₄) ∙ eq-eqb (length a + p + length b) (length l) n)
      ∙ ap within value_is

pub whole_taken : (a : List ℕ) → Digital 4 a → factor_in a ≡ within (decimal 0 a * 1000)
unfolding run decimal
whole_taken a d =
    written a a [] 0 d.digits (ap (lead 46) (drop-length a)) (ap (λ (n : ℕ). drop n a) (add-zero (length a)) ∙ drop-length a) refl (take-length a)
    d.some d.few (omega arith) (omega arith) (omega arith)

pub point_taken : (a b : List ℕ) → Digital 4 a → Digital 3 b → factor_in (a ++ 46 ∷ b) ≡ within (decimal (decimal 0 a) b * 10 ^ (3 - length b))
point_taken a b d e =
    written (a ++ 46 ∷ b) a b 1 (run_to is_digit a b 46 d.digits refl) (ap (lead 46) (drop-append_seam a (46 ∷ b))) (drop-append-add a (46 ∷ b) 1) e.digits
    (take-append_seam a (46 ∷ b)) d.some d.few e.some (omega (arith, e.few)) (omega (arith, length-append a (46 ∷ b)))

-- ---- and nothing else is taken

-- the digits in front are digits alone
run_taken : (t : ℕ → Bool) (l : List ℕ) → run t (take (run t l) l) ≡ length (take (run t l) l)
unfolding run
run_taken t [] = refl
run_taken t (x ∷ l) = go (t x) refl (run_taken t l)
  where
    go : (c : Bool) → t x ≡ c → run t (take (run t l) l) ≡ length (take (run t l) l)
        → run t (take (cond c (suc (run t l)) 0) (x ∷ l)) ≡ length (take (cond c (suc (run t l)) 0) (x ∷ l))
    go true e h = rw e (ap suc h)
    go false e h = refl

-- where a point stands in front
led : (l : List ℕ) → lead 46 l ≡ 1 → l ≡ 46 ∷ drop 1 l
led [] e = absurd (omega arith)
led (x ∷ l) e = go (eqb x 46) refl e
  where
    go : (c : Bool) → eqb x 46 ≡ c → ◌≡◌ {A = ℕ} (cond c 1 0) 1 → x ∷ l ≡ 46 ∷ l
    go true h e = ap (λ (n : ℕ). n ∷ l) (eqb-true x 46 h)
    go false h e = absurd (omega arith)

form_means : (d p e n : ℕ) → T (formed d p e n) → (1 ≤ d) × (d ≤ 4) × (p ≤ e) × (e ≤ 3 * p) × (d + p + e ≡ n)
form_means d p e n h =
    let a = and_r (leb 1 d) (leb d 4 && (leb p e && (leb e (3 * p) && eqb (d + p + e) n))) h in
    let b = and_r (leb d 4) (leb p e && (leb e (3 * p) && eqb (d + p + e) n)) a in
    let c = and_r (leb p e) (leb e (3 * p) && eqb (d + p + e) n) b in (
      leb→le 1 d (and_l (leb 1 d) (leb d 4 && (leb p e && (leb e (3 * p) && eqb (d + p + e) n))) h),
      leb→le d 4 (and_l (leb d 4) (leb p e && (leb e (3 * p) && eqb (d + p + e) n)) a),
      leb→le p e (and_l (leb p e) (leb e (3 * p) && eqb (d + p + e) n) b),
      leb→le e (3 * p) (and_l (leb e (3 * p)) (eqb (d + p + e) n) c),
      eqb→eq (d + p + e) n (and_r (leb e (3 * p)) (eqb (d + p + e) n) c),
    )

formed_good : (l : List ℕ) (m : ℕ) → factor_in l ≡ Some m → T (formed (front l) (point l) (back l) (length l))
unfolding factor_in
formed_good l m = go (formed (front l) (point l) (back l) (length l))
  where
    go : (c : Bool) → cond c (within (thousandths l)) None ≡ Some m → T c
    go true e = tt
    go false e = absurd (let z : ◌≡◌ {A = ℕ} 0 1 = cc in omega arith)

pub only_so : (l : List ℕ) (m : ℕ) → factor_in l ≡ Some m → Digital 4 l ⊎ Pointed l (take (front l) l) (drop (front l + 1) l)
only_so l m g = go (point l) refl (lead_small 46 (drop (front l) l))
  where
    h : (1 ≤ front l) × (front l ≤ 4) × (point l ≤ back l) × (back l ≤ 3 * point l) × (front l + point l + back l ≡ length l)
    h = form_means (front l) (point l) (back l) (length l) (formed_good l m g)

    go : (p : ℕ) → point l ≡ p → p ≤ 1 → Digital 4 l ⊎ Pointed l (take (front l) l) (drop (front l + 1) l)
    go zero e s = inl (record { digits = omega (arith, h); some = omega (arith, h); few = omega (arith, h) })
    go (suc zero) e s =
        let k : length (take (front l) l) ≡ front l = length-take-le (front l) l (omega (arith, h)) in
        let w : back l ≡ run is_digit (drop (front l + 1) l) = ap (λ (n : ℕ). run is_digit (drop (front l + n) l)) e in
        let z : length (drop (front l + 1) l) ≡ length l - (front l + 1) = length-drop (front l + 1) l in
        inr (record {
          bytes = sym (take-append-drop (front l) l) ∙ ap (λ (x : List ℕ). take (front l) l ++ x) (led (drop (front l) l) e ∙ ap (λ (x : List ℕ). 46 ∷ x) (drop-drop 1 (front l) l));
          front = record { digits = run_taken is_digit l; some = omega (arith, h, k); few = omega (arith, h, k) };
          back = record { digits = omega (arith, h, w, z, e); some = omega (arith, h, z, e); few = omega (arith, h, z, e) };
        })
    go (suc (suc p)) e s = absurd (omega arith)
