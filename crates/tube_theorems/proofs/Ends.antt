-- What is covered: by a segment of two frames or more, hidden or not, and only where there is a C-alpha. Assumes nothing.
use Prim.Native.Nat.{ℕ, zero, suc, ◌<◌, ◌≤◌}
use mathlib.Core.Bool.{Bool, true, false, ◌||◌, or-true}
use mathlib.Core.Path.{◌≡◌, refl}
use mathlib.Core.Logic.{⊎_elim}
use native.Mathlib.Nat.{le_of_suc-le-suc, eq-or-lt_of_le}
use native.Mathlib.Omega.{arith}
use lib.ListN.{length}
use lib.Dec.{eqb, ltb}
use borrow.Author.Tests.{ltb-false, lt-ltb, le-ltb, ne_eqb, not-true}
use Rattle.tables.specs.Wants.{gives, wants}
use Rattle.protein.specs.Job.{Job, Segments}
use Rattle.stretch.specs.Stretch.{range}
use Rattle.stretch.specs.declared.Range.{Range}
use Rattle.tables.specs.declared.Want.TheVariants.{Alpha, SegmentAlpha}
use Rattle.tubes.specs.Tubes.{coil_alpha, segment_alpha, frames, counts, any, takes, covered}
use Rattle.tubes.proofs.Laws.{given_above}
use Rattle.lists.proofs.Bools.{and_left, and_right}
use Rattle.lists.proofs.Searches.{Some, last_some, some_first}

pub any_some : (t : ℕ → Bool) (n : ℕ) → any t n ≡ true → Some t n
unfolding any
any_some t zero e = let z : ◌≡◌ {A = ℕ} 0 1 = cc in absurd (omega arith)
any_some t (suc n) e = go (any_some t n) (any t n) refl e
  where
    go : (any t n ≡ true → Some t n) → (b : Bool) → any t n ≡ b → (b || t n) ≡ true → Some t (suc n)
    go all true q h = let s = all q in (s.0, (omega (arith, s.1.0), s.1.1))
    go all false q h = (n, (omega arith, h))

pub some_any : (t : ℕ → Bool) (n i : ℕ) → i < n → t i ≡ true → any t n ≡ true
unfolding any
some_any t zero i l e = absurd (omega arith)
some_any t (suc n) i l e = ⊎_elim (λ q. rw (← q, e) (or-true (any t i))) (λ m. rw (some_any t n i m e)) (eq-or-lt_of_le (le_of_suc-le-suc l))

-- a segment's C-alpha is a C-alpha
alpha_of_lem : (J : Job) (g : Range) (r a : ℕ) → gives J (SegmentAlpha g) r a ≡ true → gives J Alpha r a ≡ true
unfolding gives wants
alpha_of_lem J g r a e =
    let x = and_left (eqb (J.residue a) r) _ e in
    let y = and_left (eqb (J.role a) 1) _ (and_right (eqb (J.residue a) r) _ e) in
    rw (x, y)

pub segment_placed : (J : Job) (g : Range) (r : ℕ) → 0 < segment_alpha J g r → 0 < coil_alpha J r
unfolding segment_alpha coil_alpha
segment_placed J g r h =
    let a = last_some (gives J (SegmentAlpha g) r) J.atoms h in
    some_first (gives J Alpha r) J.atoms a.0 a.1.0 (alpha_of_lem J g r a.0 a.1.1)

-- the segment that covers a residue
pub covered_some : (J : Job) (G : Segments) (r : ℕ) → covered J G r ≡ true
    → (i : ℕ) × ((i < G.count) × ((2 ≤ length (frames J (range G i))) × (0 < segment_alpha J (range G i) r)))
unfolding covered counts
covered_some J G r e =
    let s = any_some (λ i. takes J (range G i) r) G.count (and_right (ltb r J.residues) _ e) in
    (s.0, (s.1.0, (ltb-false _ _ (not-true _ (and_left _ _ s.1.1)), given_above _ (and_right (counts J (range G s.0)) _ s.1.1))))

pub covered_any : (J : Job) (G : Segments) (r i : ℕ) → r < J.residues → i < G.count → 2 ≤ length (frames J (range G i)) → 0 < segment_alpha J (range G i) r → covered J G r ≡ true
unfolding covered counts
covered_any J G r i below l two h =
    rw (lt-ltb r J.residues below)
    (some_any (λ k. takes J (range G k) r) G.count i l (rw (le-ltb (length (frames J (range G i))) 2 two, ne_eqb (segment_alpha J (range G i) r) 0 (λ e. omega arith))))
