-- The search for a line's end, 16 bytes at a time. Assumes nothing.
use Prim.Native.Nat.{ℕ, zero, suc, ◌+◌, ◌-◌, ◌<◌, ◌≤◌}
use mathlib.Core.Bool.{Bool, true, false}
use mathlib.Core.Path.{◌≡◌, refl, sym, subst}
use mathlib.Core.List.{List}
use native.Mathlib.Nat.{le_trans}
use native.Mathlib.Omega.{arith}
use lib.Dec.{ltb}
use lib.ListN.{length, take, drop, get_or}
use borrow.Author.Tests.{ltb-true, ltb-false}
use Rattle.pdb_lines.specs.Lines.{lines}
use Rattle.pdb_lines.specs.Post.{ending, Plain}
use Rattle.pdb_lines.proofs.Laws.{ontos, start, turn, ending_not}

-- a bound of the first k bytes, and of one more
pub bound_more : (s : List ℕ) (i k n m : ℕ) → ((j : ℕ) → j < k → n ≤ get_or s (i + j) 0) → m ≤ n → m ≤ get_or s (i + k) 0 → (j : ℕ) → j < k + 1 → m ≤ get_or s (i + j) 0
bound_more s i k n m h l b j q = go (ltb j k) refl
  where
    go : (t : Bool) → ltb j k ≡ t → m ≤ get_or s (i + j) 0
    go true e = le_trans l (h j (ltb-true j k e))
    go false e =
        let z : k ≡ j = omega (arith, ltb-false j k e) in
        subst (λ (x : ℕ). m ≤ get_or s (i + x) 0) z b

pub plain_start : (s : List ℕ) (at : ℕ) → at ≤ length s → Plain s at at
plain_start s at h = record { start = omega arith; end = h; none = λ k l r. absurd (omega arith) }

-- 16 places more
pub plain_more : (s : List ℕ) (at i n : ℕ) → Plain s at i → i + 16 ≤ length s → ((k : ℕ) → k < 16 → n ≤ get_or s (i + k) 0) → 13 < n → Plain s at (i + 16)
plain_more s at i n P h b g = record { start = omega (arith, P.start); end = h; none = λ k l r. go k l r (ltb k i) refl }
  where
    there : (k : ℕ) → i ≤ k → k < i + 16 → n ≤ get_or s k 0
    there k l r =
        let j : i + (k - i) ≡ k = omega arith in
        subst (λ (m : ℕ). n ≤ get_or s m 0) j (b (k - i) (omega arith))

    go : (k : ℕ) → at ≤ k → k < i + 16 → (t : Bool) → ltb k i ≡ t → ending (drop k s) ≡ 0
    go k l r true q = P.none k l (ltb-true k i q)
    go k l r false q =
        let d = there k (ltb-false k i q) r in
        sym (ending_not s k (omega arith) (λ z. absurd (omega arith)) (λ z. absurd (omega arith)))

-- where no line ends, the bytes stand in front of the line that follows
turns : (s : List ℕ) (at d : ℕ) → ((k : ℕ) → at ≤ k → k < at + d → ending (drop k s) ≡ 0) → at + d ≤ length s
    → lines (drop at s) ≡ ontos (take (at + d - at) (drop at s)) (lines (drop (at + d) s))
turns s at zero h l = subst (λ (i : ℕ). lines (drop at s) ≡ ontos (take (i - at) (drop at s)) (lines (drop i s))) (omega arith) (start s at)
turns s at (suc d) h l =
    subst (λ (i : ℕ). lines (drop at s) ≡ ontos (take (i - at) (drop at s)) (lines (drop i s))) (omega arith)
    (turn s at (at + d) (omega arith) (omega arith) (h (at + d) (omega arith) (omega arith)) (turns s at d (λ k a b. h k a (omega arith)) (omega arith)))

pub plain_lines : (s : List ℕ) (at i : ℕ) → Plain s at i → lines (drop at s) ≡ ontos (take (i - at) (drop at s)) (lines (drop i s))
plain_lines s at i P =
    let j : at + (i - at) ≡ i = omega (arith, P.start) in
    subst (λ (i : ℕ). lines (drop at s) ≡ ontos (take (i - at) (drop at s)) (lines (drop i s))) j
    (turns s at (i - at) (λ k l r. P.none k l (omega arith)) (omega (arith, P.end)))
