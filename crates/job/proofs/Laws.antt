-- Laws of the checks: a search's answer in their ladder, and what a job is that passes them. Assumes nothing.
use Prim.Native.Nat.{ℕ, zero, suc, ◌+◌, ◌-◌, ◌*◌, ◌/◌, ◌%◌, ◌<◌, ◌≤◌}
use mathlib.Core.Bool.{Bool, true, false, cond, not, ◌||◌}
use mathlib.Core.Path.{◌≡◌, refl, sym, ap, subst}
use native.Mathlib.Omega.{arith}
use Rattle.job.specs.declared.Refusal.{Refusal}
use Rattle.job.specs.declared.Refusal.TheVariants.{BadLength, BadVersion, BadCounts, BadSize}
use lib.Dec.{ltb, eqb}
use Rattle.lists.specs.Search.{first}
use Rattle.lists.proofs.Searches.{first_none, is_first}
use Rattle.lists.proofs.Bools.{or_no}
use lib.ListN.{length, drop, length-drop}
use lib.Seq.{length-take-le}
use Rattle.numbers.specs.Bytes.{u8_at, u16_at, u32_at}
use Rattle.std.specs.Prelude.{Option, None, Some, MatchOption, Result, Ok, Err}
use Rattle.protein.specs.declared.Head.{Head}
use Rattle.protein.specs.Layout.{Whole, length_field, version_of, head_of, records_of, job_size}
use Rattle.protein.specs.Job.{segments_of}
use borrow.Author.Tests.{eqb-true, ltb-false, not-false, le-ltb, eq-eqb}
use mathlib.Core.List.{List}
use Rattle.job.specs.Check.{found, or_first, sizes, contents, check, unshared, shared_sizes, check_shared}
use Rattle.job.proofs.Accepted.{both, check_parts, shared_parts}

-- what a search answers that stops at the first number taken, or takes none
module _ (t : ℕ → Bool) (n : ℕ) where
  pub found_at : (i : ℕ) → i < n → ((k : ℕ) → k < i → t k ≡ false) → t i ≡ true → Some i ≡ found (first t n)
  found_at i l h e = ap found (sym (is_first t n i (record { below = l; taken = e; before = h })))

  pub found_none : ((k : ℕ) → k < n → t k ≡ false) → None ≡ found (first t n)
  found_none h = ap found (sym (first_none t n h))

-- and what a search answers that says `No k` of a number that it does not take, and `Yes k` of the one that it takes
pub found_first : (t : ℕ → Bool) (n : ℕ) (No Yes : ℕ → Type 0) (r : Option ℕ)
    → MatchOption r ((k : ℕ) → k < n → No k) (λ i. (i < n) × Yes i × ((k : ℕ) → k < i → No k))
    → ((k : ℕ) → No k → t k ≡ false) → ((k : ℕ) → Yes k → t k ≡ true) → r ≡ found (first t n)
found_first t n No Yes None h f g = found_none t n (λ k l. f k (h k l))
found_first t n No Yes (Some i) h f g = found_at t n i h.0 (λ k l. f k (h.2 k l)) (g i h.1)

-- a search's answer in the ladder of checks
pub or_first_some : (v : ℕ) (f : ℕ → Refusal) (rest : Result Head Refusal) (i : ℕ) → Some i ≡ found v → Err (f i) ≡ or_first v f rest
or_first_some zero f rest i e = let z : ◌≡◌ {A = ℕ} 0 1 = cc in absurd (omega arith)
or_first_some (suc v) f rest i e = let q : i ≡ v = cc in ap (λ (k : ℕ). Err (f k)) q

pub or_first_none : (v : ℕ) (f : ℕ → Refusal) (rest : Result Head Refusal) → None ≡ found v → rest ≡ or_first v f rest
or_first_none zero f rest e = refl
or_first_none (suc v) f rest e = let z : ◌≡◌ {A = ℕ} 0 1 = cc in absurd (omega arith)

-- one rung of the ladder: a job that is fine passed its test
rung : (b : Bool) (r : Refusal) (rest : Result Head Refusal) (h : Head) → cond b (Err r) rest ≡ Ok h → (b ≡ false) × (rest ≡ Ok h)
rung true r rest h e = let z : ◌≡◌ {A = ℕ} 0 1 = cc in absurd (omega arith)
rung false r rest h e = (refl, e)

pub sizes_whole : (s : List ℕ) (h : Head) → sizes s ≡ Ok h → Whole s h
unfolding sizes
sizes_whole s h e =
    let r1 = rung (ltb (length s) 13) BadLength _ h e in
    let r2 = rung (not (eqb (u32_at s 0) (length s - 4))) BadLength _ h r1.1 in
    let r3 = rung (not (eqb (u8_at s 4) 1)) (BadVersion (u8_at s 4)) _ h r2.1 in
    let r4 = rung (ltb 255 (u16_at s 5)) BadCounts _ h r3.1 in
    let r5 = rung (ltb 16384 (u16_at s 7)) BadCounts _ h r4.1 in
    let r6 = rung (not (eqb (length s) (job_size (head_of s)))) BadSize (Ok (head_of s)) h r5.1 in
    let f : ◌≡◌ {A = Result Head Refusal} (Ok (head_of s)) (Ok h) = r6.1 in
    let q : h ≡ head_of s = cc in
    record {
      head = q;
      size = rw q (eqb-true _ _ (not-false _ r6.0));
      few_chains = rw q (ltb-false _ _ r4.0);
      few_residues = rw q (ltb-false _ _ r5.0);
    }

-- and its length field and its version are right
pub sizes_fields : (s : List ℕ) (h : Head) → sizes s ≡ Ok h → (length_field s ≡ length s - 4) × (version_of s ≡ 1)
unfolding sizes
sizes_fields s h e =
    let r1 = rung (ltb (length s) 13) BadLength _ h e in
    let r2 = rung (not (eqb (u32_at s 0) (length s - 4))) BadLength _ h r1.1 in
    let r3 = rung (not (eqb (u8_at s 4) 1)) (BadVersion (u8_at s 4)) _ h r2.1 in
    (eqb-true _ _ (not-false _ r2.0), eqb-true _ _ (not-false _ r3.0))

-- the other way: what passes 1 to 4
pub sizes_fine : (s : List ℕ) → 13 ≤ length s → length_field s ≡ length s - 4 → version_of s ≡ 1 → (head_of s).chains ≤ 255 → (head_of s).residues ≤ 16384 → length s ≡ job_size (head_of s)
    → sizes s ≡ Ok (head_of s)
unfolding sizes
sizes_fine s h₁ h₂ h₃ h₄ h₅ h₆ =
    rw (
      le-ltb (length s) 13 h₁,
      eq-eqb (u32_at s 0) (length s - 4) h₂,
      eq-eqb (u8_at s 4) 1 h₃,
      le-ltb 255 (u16_at s 5) h₄,
      le-ltb 16384 (u16_at s 7) h₅,
      eq-eqb (length s) (job_size (head_of s)) h₆,
    )

-- a job that passes the checks is whole
pub check_whole : (s : List ℕ) (h : Head) → check s ≡ Ok h → Whole s h
check_whole s h e = sizes_whole s h (check_parts s h e).0

-- a job whose sizes are refused is
pub check_refused : (s : List ℕ) (r : Refusal) → sizes s ≡ Err r → check s ≡ Err r
unfolding check
check_refused s r e = rw e

-- the checks of a job whose sizes are right are those of its contents
pub check_contents_of : (s : List ℕ) (h : Head) → sizes s ≡ Ok h → check s ≡ contents s h (records_of s h)
unfolding check
check_contents_of s h e = rw e

-- the records of a whole job: as long as its counts say, so S of them
module _ (s : List ℕ) (h : Head) (w : Whole s h) where
  pub records_length : length (records_of s h) ≡ 9 * h.segments
  records_length =
      let d = length-drop (13 + h.chains) s in
      length-take-le (9 * h.segments) (drop (13 + h.chains) s) (omega (arith, w.size))

  pub records_count : (segments_of (records_of s h)).count ≡ h.segments
  records_count = omega (arith, records_length)

-- ---- 02 §5: a shared job, and one party's records
pub unshared_not : (h : Head) (n : ℕ) → unshared h n ≡ false → (h.segments ≡ 0) × (n % 9 ≡ 0) × (n / 9 ≤ 65535)
unfolding unshared
unshared_not h n e =
    let a = or_no (not (eqb h.segments 0)) (not (eqb (n % 9) 0) || ltb 65535 (n / 9)) e in
    let b = or_no (not (eqb (n % 9) 0)) (ltb 65535 (n / 9)) a.1 in
    (eqb-true _ _ (not-false _ a.0), eqb-true _ _ (not-false _ b.0), ltb-false _ _ b.1)

module _ (s : List ℕ) (n : ℕ) (h : Head) where
  -- what passes 1 to 4 of a shared job passes those of a job
  pub shared_passes : shared_sizes s n ≡ Ok h → (sizes s ≡ Ok h) × (unshared h n ≡ false)
  unfolding shared_sizes
  shared_passes e =
      let b = both (sizes s) (λ k. cond (unshared k n) (Err BadSize) (Ok k)) h e in
      let r = rung (unshared b.counts n) BadSize (Ok b.counts) h b.others in
      let f : ◌≡◌ {A = Result Head Refusal} (Ok b.counts) (Ok h) = r.1 in
      let k : b.counts ≡ h = cc in
      subst (λ (k : Head). (sizes s ≡ Ok k) × (unshared k n ≡ false)) k (b.first_ones, r.0)

  pub shared_sizes_lem : shared_sizes s n ≡ Ok h → Whole s h × (h.segments ≡ 0) × (n % 9 ≡ 0) × (n / 9 ≤ 65535)
  shared_sizes_lem e =
      let p = shared_passes e in
      let u = unshared_not h n p.1 in
      (sizes_whole s h p.0, u.0, u.1, u.2)

pub shared_whole : (s q : List ℕ) (h : Head) → check_shared s q ≡ Ok h → Whole s h × (h.segments ≡ 0) × (length q % 9 ≡ 0) × (length q / 9 ≤ 65535)
shared_whole s q h e = shared_sizes_lem s (length q) h (shared_parts s q h e).0

-- the answer of its checks by those of the sizes: the same refusal, 4, or what the contents are
module _ (s q : List ℕ) where
  pub shared_refused : (r : Refusal) → sizes s ≡ Err r → check_shared s q ≡ Err r
  unfolding check_shared shared_sizes
  shared_refused r e = rw e

  pub shared_unshared : (h : Head) → sizes s ≡ Ok h → unshared h (length q) ≡ true → check_shared s q ≡ Err BadSize
  unfolding check_shared shared_sizes
  shared_unshared h e u = rw (e, u)

  pub shared_contents : (h : Head) → sizes s ≡ Ok h → unshared h (length q) ≡ false → check_shared s q ≡ contents s h q
  unfolding check_shared shared_sizes
  shared_contents h e u = rw (e, u)
