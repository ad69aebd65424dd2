-- A number with three decimal places in at most eight columns is below ten million thousandths, a whole one in five below 100,000. Assumes nothing.
use Prim.Native.Nat.{ℕ, zero, suc, ◌+◌, ◌-◌, ◌*◌, ◌^◌, ◌<◌, ◌≤◌}
use mathlib.Core.Bool.{Bool, true, false, cond}
use mathlib.Core.Path.{◌≡◌, refl, sym, ap, ◌∙◌, subst}
use mathlib.Core.List.{List, [], ◌∷◌}
use native.Mathlib.Nat.{mul_assoc, pow-succ'}
use native.Mathlib.Omega.{arith}
use lib.Dec.{eqb, leb, leb→le}
use lib.ListN.{length, take, drop, length-drop}
use lib.Seq.{drop-drop}
use borrow.Author.Tests.{eqb-true, leb-true}
use Rattle.pdb_fields.specs.Numbers.{run, is_blank, is_digit, decimal, lead, blank, fraction, whole, thousandths}
use Rattle.pdb_fields.specs.declared.Signed.{Signed}
use Rattle.pdb_fields.proofs.Laws.{good}
use Rattle.lists.proofs.Bools.{and_both}
use Rattle.std.specs.Prelude.{Some, None}

-- digits in front are no more than the list is long
run_le : (t : ℕ → Bool) (l : List ℕ) → run t l ≤ length l
unfolding run
run_le t [] = omega arith
run_le t (b ∷ l) = go (t b) (run_le t l)
  where
    go : (c : Bool) → run t l ≤ length l → cond c (suc (run t l)) 0 ≤ suc (length l)
    go true h = omega arith
    go false h = omega arith

-- k digits behind a number below the bound stand for less than the bound times ten to the k
grows : (k : ℕ) (l : List ℕ) (v bound : ℕ) → k ≤ run is_digit l → v < bound → decimal v (take k l) < bound * 10 ^ k
unfolding run decimal
grows zero l v bound h b = omega arith
grows (suc k) [] v bound h b = absurd (omega arith)
grows (suc k) (x ∷ l) v bound h b = go (is_digit x) refl h (grows k l)
  where
    go : (t : Bool) → is_digit x ≡ t → suc k ≤ cond t (suc (run is_digit l)) 0 → ((v' b' : ℕ) → k ≤ run is_digit l → v' < b' → decimal v' (take k l) < b' * 10 ^ k)
        → decimal (10 * v + (x - 48)) (take k l) < bound * 10 ^ suc k
    go true e q f =
        let d : x ≤ 57 = leb-true x 57 (and_both (leb 48 x) (leb x 57) e).1 in
        subst (λ (n : ℕ). decimal (10 * v + (x - 48)) (take k l) < n) (mul_assoc bound 10 (10 ^ k) ∙ ap (λ (n : ℕ). bound * n) (sym (pow-succ' 10 k)))
        (f (10 * v + (x - 48)) (bound * 10) (omega arith) (omega arith))
    go false e q f = absurd (omega arith)

pow_ten : (d m : ℕ) → d ≤ m → 10 ^ d ≤ 10 ^ m
pow_ten zero zero h = leb→le _ _ tt
pow_ten (suc d) zero h = absurd (omega arith)
pow_ten zero (suc m) h = omega (arith, pow-succ' 10 m, pow_ten zero m (omega arith))
pow_ten (suc d) (suc m) h = omega (arith, pow-succ' 10 d, pow-succ' 10 m, pow_ten d m (omega arith))

-- a number with a point and three digits, in at most eight columns
module _ (u : List ℕ) (d : ℕ) (ed : d ≡ run is_digit u) (long : length u ≤ 8) (f : fraction (drop d u) ≡ true) where
  three : run is_digit (drop 1 (drop d u)) ≡ 3
  three = eqb-true _ 3 (and_both _ _ (and_both (eqb (lead 46 (drop d u)) 1) _ f).1).0

  few : d ≤ 4
  few = omega (arith, three, run_le is_digit (drop 1 (drop d u)), length-drop 1 (drop d u), length-drop d u)

  below : decimal (decimal 0 (take d u)) (take 3 (drop 1 (drop d u))) < 10000000
  below =
      let a : decimal 0 (take d u) < 1 * 10 ^ d = grows d u 0 1 (omega (arith, ed)) (omega arith) in
      let b : 10 ^ d ≤ 10 ^ 4 = pow_ten d 4 few in
      let c : decimal 0 (take d u) < 10000 = omega arith in
      grows 3 (drop 1 (drop d u)) (decimal 0 (take d u)) 10000 (omega (arith, three)) c

  same_three : take 3 (drop (d + 1) u) ≡ take 3 (drop 1 (drop d u))
  same_three = ap (take 3) (sym (drop-drop 1 d u))

pub thousandths_small : (l : List ℕ) (n : Signed) → length l ≤ 8 → thousandths l ≡ Some n → n.size < 10000000
unfolding thousandths
thousandths_small l n long e =
    let s = drop (run is_blank l) l in
    let u = drop (lead 45 s) s in
    let w : length u ≤ 8 = omega (arith, length-drop (run is_blank l) l, length-drop (lead 45 s) s) in
    go u w (eqb (lead 45 s) 1) (eqb (run is_digit u) 0) (fraction (drop (run is_digit u) u)) refl e
  where
    go : (u : List ℕ) → length u ≤ 8 → (k : Bool) (a b : Bool) → fraction (drop (run is_digit u) u) ≡ b
        → cond a None (cond b (good k (decimal (decimal 0 (take (run is_digit u) u)) (take 3 (drop (run is_digit u + 1) u)))) None) ≡ Some n → n.size < 10000000
    go u w k true b f q = absurd (let z : ◌≡◌ {A = ℕ} 0 1 = cc in omega arith)
    go u w k false false f q = absurd (let z : ◌≡◌ {A = ℕ} 0 1 = cc in omega arith)
    go u w k false true f q =
        let z : decimal (decimal 0 (take (run is_digit u) u)) (take 3 (drop (run is_digit u + 1) u)) ≡ n.size = cc in
        subst (λ (x : ℕ). x < 10000000) (ap (decimal (decimal 0 (take (run is_digit u) u))) (sym (same_three u (run is_digit u) refl w f)) ∙ z) (below u (run is_digit u) refl w f)

pub whole_small : (l : List ℕ) (n : Signed) → length l ≤ 5 → whole l ≡ Some n → n.size < 100000
unfolding whole
whole_small l n long e =
    let s = drop (run is_blank l) l in
    let u = drop (lead 45 s) s in
    let w : length u ≤ 5 = omega (arith, length-drop (run is_blank l) l, length-drop (lead 45 s) s) in
    go u w (eqb (lead 45 s) 1) (eqb (run is_digit u) 0) (blank (drop (run is_digit u) u)) e
  where
    go : (u : List ℕ) → length u ≤ 5 → (k a b : Bool) → cond a None (cond b (good k (decimal 0 (take (run is_digit u) u))) None) ≡ Some n → n.size < 100000
    go u w k true b q = absurd (let z : ◌≡◌ {A = ℕ} 0 1 = cc in omega arith)
    go u w k false false q = absurd (let z : ◌≡◌ {A = ℕ} 0 1 = cc in omega arith)
    go u w k false true q =
        let z : decimal 0 (take (run is_digit u) u) ≡ n.size = cc in
        let d = run is_digit u in
        let a : decimal 0 (take d u) < 1 * 10 ^ d = grows d u 0 1 (omega arith) (omega arith) in
        let b : 10 ^ d ≤ 10 ^ 5 = pow_ten d 5 (omega (arith, run_le is_digit u)) in
        subst (λ (x : ℕ). x < 100000) z (omega arith)
