-- Laws of what scratch words hold, one store or one turn of a loop at a time. Assumes nothing.
use Prim.Native.Nat.{ℕ, ◌+◌, ◌-◌, ◌<◌, ◌≤◌}
use mathlib.Core.Bool.{Bool, true, false}
use mathlib.Core.List.{List}
use mathlib.Core.Path.{◌≡◌, refl, sym, ◌∙◌, ap}
use mathlib.Core.Logic.{◌≢◌, ⊎_elim}
use native.Mathlib.Nat.{zero-add, add-zero, eq-or-lt_of_le, le_of_suc-le-suc}
use native.Mathlib.Omega.{arith}
use lib.ListN.{length, get_or, set, length-set, replicate, length-replicate}
use lib.Seq.{get_or-set_same, get_or-set_other}
use lib.Dec.{eqb}
use borrow.Author.Tests.{eqb-true, eqb-false}
use Rattle.scratch.specs.Scratch.{Filled, Both, Kept}
use native.Mathlib.Numerals.{add-one}
use Rattle.std.proofs.lemmas.List.{get_or-replicate}
use Rattle.lists.specs.Put.{put}
use Rattle.lists.proofs.Puts.{length_put, get_d_put_in, get_d_put_before, get_d_put_past}
use Rattle.lists.proofs.Bools.{clash}

-- a store at r₀'s place makes the table that of g, where g differs from f at r₀ alone
pub fill_set : (f g : ℕ → ℕ) (base n : ℕ) (t₀ t : List ℕ) (r₀ v : ℕ) → Filled f base n t₀ t → r₀ < n → base + n ≤ length t₀
    → g r₀ ≡ v → ((r : ℕ) → r < n → r ≢ r₀ → g r ≡ f r) → Filled g base n t₀ (set t (base + r₀) v)
fill_set f g base n t₀ t r₀ v F l fits here there = record {
  size = length-set t (base + r₀) v ∙ F.size;
  entry = λ r h. go r h (eqb r r₀) refl;
  before = λ j h. get_or-set_other t (base + r₀) j v 0 (λ e. omega arith) ∙ F.before j h;
  after = λ j h. get_or-set_other t (base + r₀) j v 0 (λ e. omega arith) ∙ F.after j h;
}
  where
    go : (r : ℕ) → r < n → (b : Bool) → eqb r r₀ ≡ b → get_or (set t (base + r₀) v) (base + r) 0 ≡ g r
    go r h true e =
        let q = eqb-true r r₀ e in
        let z = F.size in
        rw q (get_or-set_same t (base + r₀) v 0 (omega arith) ∙ sym here)
    go r h false e =
        let q = eqb-false r r₀ e in
        get_or-set_other t (base + r₀) (base + r) v 0 (λ p. q (omega arith)) ∙ F.entry r h ∙ sym (there r h q)

pub fill_same : (f g : ℕ → ℕ) (base n : ℕ) (t₀ t : List ℕ) → Filled f base n t₀ t → ((r : ℕ) → r < n → g r ≡ f r) → Filled g base n t₀ t
fill_same f g base n t₀ t F same = record {
  size = F.size;
  entry = λ r h. F.entry r h ∙ sym (same r h);
  before = F.before;
  after = F.after;
}

pub fill_start : (f : ℕ → ℕ) (base n : ℕ) (t : List ℕ) → ((r : ℕ) → r < n → get_or t (base + r) 0 ≡ f r) → Filled f base n t t
fill_start f base n t h = record { size = refl; entry = h; before = λ j l. refl; after = λ j l. refl }

-- the table of all residues
pub fill_all : (f : ℕ → ℕ) (base n : ℕ) (t₀ t : List ℕ) → Filled (λ r. f (0 + r)) (base + 0) (n - 0) t₀ t → Filled f base n t₀ t
fill_all f base n t₀ t F =
    let all : n - 0 ≡ n = omega arith in
    fill_same _ f base n t₀ t (rw (add-zero, all) at F) (λ r l. ap f (sym (zero-add r)))

-- a table that grows by one place
pub fill_extend : (f : ℕ → ℕ) (base i : ℕ) (t₀ t : List ℕ) → Filled f base i t₀ t → base + i < length t₀ → Filled f base (i + 1) t₀ (set t (base + i) (f i))
fill_extend f base i t₀ t F l =
    let z = F.size in
    record {
      size = length-set t (base + i) (f i) ∙ F.size;
      entry = λ r h. ⊎_elim
          (λ e. rw e (get_or-set_same t (base + i) (f i) 0 (omega arith)))
          (λ m. get_or-set_other t (base + i) (base + r) (f i) 0 (λ e. omega arith) ∙ F.entry r m)
          (eq-or-lt_of_le (le_of_suc-le-suc (rw add-one at h)));
      before = λ j h. get_or-set_other t (base + i) j (f i) 0 (λ e. omega arith) ∙ F.before j h;
      after = λ j h. get_or-set_other t (base + i) j (f i) 0 (λ e. omega arith) ∙ F.after j (omega arith);
    }

-- the same where the place has its value already
pub fill_leave : (f : ℕ → ℕ) (base i : ℕ) (t₀ t : List ℕ) → Filled f base i t₀ t → f i ≡ get_or t₀ (base + i) 0 → Filled f base (i + 1) t₀ t
fill_leave f base i t₀ t F q = record {
  size = F.size;
  entry = λ r h. ⊎_elim
      (λ e. rw e (F.after (base + i) (omega arith) ∙ sym q))
      (λ m. F.entry r m)
      (eq-or-lt_of_le (le_of_suc-le-suc (rw add-one at h)));
  before = F.before;
  after = λ j h. F.after j (omega arith);
}

-- one store
pub fill_one : (v at : ℕ) (t : List ℕ) → at < length t → Filled (λ i. v) at 1 t (set t at v)
fill_one v at t l = record {
  size = length-set t at v;
  entry = λ r h. let z : at + r ≡ at = omega arith in rw z (get_or-set_same t at v 0 l);
  before = λ j h. get_or-set_other t at j v 0 (λ e. omega arith);
  after = λ j h. get_or-set_other t at j v 0 (λ e. omega arith);
}

-- a turn of a copy of n places to others behind them
pub copy_turn : (from to i n : ℕ) (t₀ t : List ℕ) → Filled (λ k. get_or t₀ (from + k) 0) to i t₀ t → i < n → from + n ≤ to → to + n ≤ length t₀
    → Filled (λ k. get_or t₀ (from + k) 0) to (i + 1) t₀ (set t (to + i) (get_or t (from + i) 0))
copy_turn from to i n t₀ t F l a b = rw (F.before (from + i) (omega arith)) (fill_extend (λ k. get_or t₀ (from + k) 0) to i t₀ t F (omega arith))

pub fill_empty : (f : ℕ → ℕ) (base : ℕ) (t : List ℕ) → Filled f base 0 t t
fill_empty f base t = record { size = refl; entry = λ r h. absurd (omega arith); before = λ j h. refl; after = λ j h. refl }

pub kept_refl : (lo hi : ℕ) (t : List ℕ) → Kept lo hi t t
kept_refl lo hi t = record { size = refl; before = λ j h. refl; after = λ j h. refl }

-- in wider bounds, and one step after another
pub kept_wide : (lo hi lo' hi' : ℕ) (t u : List ℕ) → lo' ≤ lo → hi ≤ hi' → Kept lo hi t u → Kept lo' hi' t u
kept_wide lo hi lo' hi' t u a b K = record {
  size = K.size;
  before = λ j h. K.before j (omega arith);
  after = λ j h. K.after j (omega arith);
}

pub kept_then : (lo hi lo' hi' : ℕ) (t u v : List ℕ) → lo' ≤ lo → hi ≤ hi' → Kept lo' hi' t u → Kept lo hi u v → Kept lo' hi' t v
kept_then lo hi lo' hi' t u v a b K L = record {
  size = L.size ∙ K.size;
  before = λ j h. L.before j (omega arith) ∙ K.before j h;
  after = λ j h. L.after j (omega arith) ∙ K.after j h;
}

-- a table that is filled anew
pub fill_again : (f g : ℕ → ℕ) (base n : ℕ) (t₀ t₁ t₂ : List ℕ) → Filled f base n t₀ t₁ → Filled g base n t₁ t₂ → Filled g base n t₀ t₂
fill_again f g base n t₀ t₁ t₂ F G = record {
  size = G.size ∙ F.size;
  entry = G.entry;
  before = λ j l. G.before j l ∙ F.before j l;
  after = λ j l. G.after j l ∙ F.after j l;
}

-- the tables as they stand, and one step after another
pub both_now : (full : Bool) (f g : ℕ → ℕ) (a o n : ℕ) (t₀ t : List ℕ) → Both full f g a o n t₀ t → Both full f g a o n t t
both_now full f g a o n t₀ t B = record { size = refl; first = B.first; second = B.second; before = λ j h. refl; after = λ j h. refl }

pub both_again : (full : Bool) (f g f' g' : ℕ → ℕ) (a o n : ℕ) (t₀ t t' : List ℕ) → Both full f g a o n t₀ t → Both full f' g' a o n t t' → Both full f' g' a o n t₀ t'
both_again full f g f' g' a o n t₀ t t' B C = record {
  size = C.size ∙ B.size;
  first = C.first;
  second = C.second;
  before = λ j h. C.before j h ∙ B.before j h;
  after = λ j h. C.after j h ∙ B.after j h;
}

pub both_same : (full : Bool) (f g f' g' : ℕ → ℕ) (a o n : ℕ) (t₀ t : List ℕ) → Both full f g a o n t₀ t → ((r : ℕ) → r < n → f' r ≡ f r) → ((r : ℕ) → r < n → g' r ≡ g r) → Both full f' g' a o n t₀ t
both_same full f g f' g' a o n t₀ t B u v = record {
  size = B.size;
  first = λ r h. B.first r h ∙ sym (u r h);
  second = λ e r h. B.second e r h ∙ sym (v r h);
  before = B.before;
  after = B.after;
}

-- tables that were cleared: the first alone, or both
pub both_one : (full : Bool) (f g : ℕ → ℕ) (a o n : ℕ) (t₀ t : List ℕ) → a + n ≤ o → full ≡ false → Filled f a n t₀ t → Both full f g a o n t₀ t
both_one full f g a o n t₀ t apart q F = record { size = F.size; first = F.entry; second = λ e. clash e q; before = F.before; after = λ j h. F.after j (omega arith) }

pub both_two : (full : Bool) (f g : ℕ → ℕ) (a o n : ℕ) (t₀ t₁ t₂ : List ℕ) → a + n ≤ o → Filled f a n t₀ t₁ → Filled g o n t₁ t₂ → Both full f g a o n t₀ t₂
both_two full f g a o n t₀ t₁ t₂ apart F G = record {
  size = G.size ∙ F.size;
  first = λ r h. G.before (a + r) (omega arith) ∙ F.entry r h;
  second = λ _. G.entry;
  before = λ j h. G.before j (omega arith) ∙ F.before j h;
  after = λ j h. G.after j h ∙ F.after j (omega arith);
}

-- a write of one value in n places
pub fill_put : (x base n : ℕ) (t : List ℕ) {t' : List ℕ} → t' ≡ put t base (replicate n x) → base + n ≤ length t → Filled (λ r. x) base n t t'
fill_put x base n t e h =
    let m = length-replicate n x in
    rw e
    (record {
      size = length_put t base (replicate n x);
      entry = λ r l. get_d_put_in t base (replicate n x) r 0 (omega arith) (omega arith) ∙ get_or-replicate n r x 0 l;
      before = λ j l. get_d_put_before t base (replicate n x) j 0 l;
      after = λ j l. get_d_put_past t base (replicate n x) j 0 (omega arith);
    })
