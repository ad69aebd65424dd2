-- Laws of the tests: that shares overlap or leave a buffer. Assumes nothing.
use Prim.Native.Nat.{ℕ, ◌+◌, ◌-◌, ◌<◌, ◌≤◌}
use mathlib.Core.Bool.{Bool, true, false, ◌&&◌, ◌||◌, and_comm, and-true, and-false}
use mathlib.Core.Path.{◌≡◌, refl, sym}
use mathlib.Core.Logic.{inl, inr, ⊎_elim}
use native.Mathlib.Omega.{arith}
use lib.Dec.{ltb}
use borrow.Author.Tests.{lt-ltb, le-ltb, ltb-true, ltb-false}
use Rattle.lists.proofs.Bools.{and_no, or_no}
use Rattle.shares.specs.declared.Share.{Share}
use Rattle.shares.specs.Shares.{leaves, meets, bad_share, Clear}

-- ---- what the code tests

-- a difference below a length, for a sum
by_difference : (n a k : ℕ) → a ≤ n → ltb (n - a) k ≡ ltb n (a + k)
by_difference n a k h = go (ltb (n - a) k) refl
  where
    go : (t : Bool) → ltb (n - a) k ≡ t → t ≡ ltb n (a + k)
    go true e = sym (lt-ltb n (a + k) (omega (arith, h, ltb-true (n - a) k e)))
    go false e = sym (le-ltb n (a + k) (omega (arith, h, ltb-false (n - a) k e)))

module _ (n : ℕ) (s : Share) where
  -- one that starts past the end leaves
  pub leaves_past : n < s.start → true ≡ leaves n s
  unfolding leaves
  leaves_past h = sym (lt-ltb n (s.start + s.len) (omega arith))

  -- otherwise it is the room behind its start that decides
  pub leaves_room : s.start ≤ n → ltb (n - s.start) s.len ≡ leaves n s
  unfolding leaves
  leaves_room h = by_difference n s.start s.len h

module _ (a b : Share) where
  -- an empty one overlaps nothing
  pub meets_none : a.len ≡ 0 → false ≡ meets a b
  unfolding meets
  meets_none e = rw (le-ltb 0 a.len (omega arith))

  pub meets_none_2 : b.len ≡ 0 → false ≡ meets a b
  unfolding meets
  meets_none_2 e = rw (le-ltb 0 b.len (omega arith), and-false)

  -- of two that are not, the first to start reaches the other
  pub meets_first : (a.len ≡ 0 → ⊥) → (b.len ≡ 0 → ⊥) → a.start < b.start → ltb (b.start - a.start) a.len ≡ meets a b
  unfolding meets
  meets_first f g h =
      rw (lt-ltb 0 a.len (omega arith), lt-ltb 0 b.len (omega arith), lt-ltb a.start (b.start + b.len) (omega arith))
      (by_difference b.start a.start a.len (omega arith))

  pub meets_second : (a.len ≡ 0 → ⊥) → (b.len ≡ 0 → ⊥) → b.start ≤ a.start → ltb (a.start - b.start) b.len ≡ meets a b
  unfolding meets
  meets_second f g h =
      rw (lt-ltb 0 a.len (omega arith), lt-ltb 0 b.len (omega arith), lt-ltb b.start (a.start + a.len) (omega arith), and-true)
      (by_difference a.start b.start b.len h)

-- ---- what the tests mean

-- one that does not leave the buffer lies in it, and the other way
pub leaves_not : (n : ℕ) (s : Share) → leaves n s ≡ false → s.start + s.len ≤ n
unfolding leaves
leaves_not n s e = ltb-false n (s.start + s.len) e

pub not_leaves : (n : ℕ) (s : Share) → s.start + s.len ≤ n → leaves n s ≡ false
unfolding leaves
not_leaves n s h = le-ltb n (s.start + s.len) h

module _ (a b : Share) where
  -- two that do not overlap: one is empty, or one ends before the other starts
  pub meets_not : meets a b ≡ false → Clear a b
  unfolding meets
  meets_not e =
      ⊎_elim (λ p. inl (omega (arith, ltb-false 0 a.len p)))
      (λ q. inr
      (⊎_elim (λ p. inl (omega (arith, ltb-false 0 b.len p)))
      (λ r. inr
      (⊎_elim (λ p. inr (ltb-false a.start (b.start + b.len) p)) (λ p. inl (ltb-false b.start (a.start + a.len) p))
      (and_no (ltb a.start (b.start + b.len)) _ r)))
      (and_no (ltb 0 b.len) _ q)))
      (and_no (ltb 0 a.len) _ e)

  ends_before : a.start + a.len ≤ b.start → meets a b ≡ false
  unfolding meets
  ends_before h = rw (le-ltb b.start (a.start + a.len) h) (simp and-false)

  starts_behind : b.start + b.len ≤ a.start → meets a b ≡ false
  unfolding meets
  starts_behind h = rw (le-ltb a.start (b.start + b.len) h) (simp and-false)

  -- and the other way
  pub not_meets : Clear a b → meets a b ≡ false
  not_meets w = ⊎_elim (λ e. sym (meets_none a b e)) (⊎_elim (λ e. sym (meets_none_2 a b e)) (⊎_elim ends_before starts_behind)) w

  -- whose comes first does not matter
  pub meets_sym : meets a b ≡ meets b a
  unfolding meets
  meets_sym = go (ltb 0 a.len) (ltb 0 b.len) (ltb a.start (b.start + b.len)) (ltb b.start (a.start + a.len))
    where
      go : (x y u v : Bool) → (x && (y && (u && v))) ≡ (y && (x && (v && u)))
      go true true u v = and_comm u v
      go true false u v = refl
      go false true u v = refl
      go false false u v = refl

module _ (n : ℕ) (a b : Share) where
  -- two that pass lie in the buffer and do not overlap
  pub bad_not : bad_share n a b ≡ false → (a.start + a.len ≤ n) × (b.start + b.len ≤ n) × Clear a b
  unfolding bad_share
  bad_not e =
      let p = or_no (leaves n a) _ e in
      let q = or_no (leaves n b) (meets a b) p.1 in
      (leaves_not n a p.0, leaves_not n b q.0, meets_not a b q.1)

  -- and the other way
  pub not_bad : a.start + a.len ≤ n → b.start + b.len ≤ n → Clear a b → bad_share n a b ≡ false
  unfolding bad_share
  not_bad f g w = rw (not_leaves n a f, not_leaves n b g, not_meets a b w)

  -- whose comes first does not matter
  pub bad_swap : bad_share n a b ≡ bad_share n b a
  unfolding bad_share
  bad_swap = rw (meets_sym a b) (go (leaves n a) (leaves n b) (meets b a))
    where
      go : (x y z : Bool) → (x || (y || z)) ≡ (y || (x || z))
      go true true z = refl
      go true false z = refl
      go false true z = refl
      go false false z = refl
