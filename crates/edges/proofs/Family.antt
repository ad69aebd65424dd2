-- Families of edges: those that go from a + k to g k, for each k below n. Assumes nothing.
use mathlib.Core.Path.{◌≡◌, refl}
use mathlib.Core.Logic.{◌⊎◌, inl, inr}
use Prim.Native.Nat.{ℕ, zero, suc, ◌+◌, ◌≤◌, ◌<◌}
use native.Mathlib.Nat.{eq-or-lt_of_le}
use native.Mathlib.Omega.{arith}
use Rattle.edges.specs.Sound.{is}
use Rattle.edges.proofs.Count.{is_or, is_same, sum}

-- how many edges of the family go from x to y
abbrev pub family : ℕ → (ℕ → ℕ) → ℕ → ℕ → ℕ → ℕ
family a g n x y = sum (λ k. is x y (a + k, g k)) n

-- where an edge of the family is: its number
pub record Member (a : ℕ) (g : ℕ → ℕ) (n x y : ℕ) : Type 0 where
  pub at : ℕ
  pub small : at < n
  pub source : x ≡ a + at
  pub target : y ≡ g at

later : {a : ℕ} {g : ℕ → ℕ} {n x y : ℕ} → Member a g n x y → Member a g (suc n) x y
later m = record { at = m.at; small = omega arith; source = m.source; target = m.target }

-- each edge stands at most once in a family, and at its number only
pub family_or : (a : ℕ) (g : ℕ → ℕ) (n x y : ℕ) → (family a g n x y ≡ 0) ⊎ ((family a g n x y ≡ 1) × Member a g n x y)
unfolding sum
family_or a g zero x y = inl refl
family_or a g (suc n) x y = go (family_or a g n x y) (is_or x y (a + n) (g n))
  where
    go : (family a g n x y ≡ 0) ⊎ ((family a g n x y ≡ 1) × Member a g n x y)
        → (is x y (a + n, g n) ≡ 0) ⊎ ((is x y (a + n, g n) ≡ 1) × (x ≡ a + n) × (y ≡ g n))
        → (family a g (suc n) x y ≡ 0) ⊎ ((family a g (suc n) x y ≡ 1) × Member a g (suc n) x y)
    go (inl e) (inl f) = inl (omega arith)
    go (inl e) (inr f) = inr (omega arith, record { at = n; small = omega arith; source = f.1; target = f.2 })
    go (inr e) (inl f) = inr (omega arith, later e.1)
    go (inr e) (inr f) = absurd (omega arith)

pub family_once : (a : ℕ) (g : ℕ → ℕ) (n x y : ℕ) → family a g n x y ≤ 1
family_once a g n x y = go (family_or a g n x y)
  where
    go : (family a g n x y ≡ 0) ⊎ ((family a g n x y ≡ 1) × Member a g n x y) → family a g n x y ≤ 1
    go (inl e) = omega arith
    go (inr e) = omega arith

pub member : (a : ℕ) (g : ℕ → ℕ) (n x y : ℕ) → 0 < family a g n x y → Member a g n x y
member a g n x y h = go (family_or a g n x y)
  where
    go : (family a g n x y ≡ 0) ⊎ ((family a g n x y ≡ 1) × Member a g n x y) → Member a g n x y
    go (inl e) = absurd (omega arith)
    go (inr e) = e.1

pub family_hit : (a : ℕ) (g : ℕ → ℕ) (n k : ℕ) → k < n → 0 < family a g n (a + k) (g k)
unfolding sum
family_hit a g zero k h = absurd (omega arith)
family_hit a g (suc n) k h = go (family_hit a g n k) (eq-or-lt_of_le h)
  where
    go : (k < n → 0 < family a g n (a + k) (g k)) → (suc k ≡ suc n) ⊎ (suc k < suc n) → 0 < family a g (suc n) (a + k) (g k)
    go before (inl e) = let f : k ≡ n = omega arith in rw (← f) (omega (arith, is_same (a + k) (g k)))
    go before (inr l) = omega (arith, before (omega arith))
