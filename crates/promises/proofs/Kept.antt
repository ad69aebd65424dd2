-- How the promises are kept: by a refusal of checks 1 to 8, and by what comes after them. The calls' own proofs use these. Assumes nothing.
use Prim.Native.Nat.{ℕ}
use mathlib.Core.List.{List}
use mathlib.Core.Path.{◌≡◌, sym, ◌∙◌, ap}
use lib.ListN.{length}
use Rattle.protein.specs.Protein.{protein_of}
use Rattle.protein.specs.declared.Head.{Head}
use Rattle.job.specs.Check.{check}
use Rattle.std.specs.Prelude.{Result, Ok, Err}
use Rattle.buffers.specs.declared.Counts.{Counts}
use Rattle.promises.specs.declared.Plan.{Plan}
use Rattle.job.specs.declared.Refusal.{Refusal}
use Rattle.room.specs.Room.{Scratch, Buffers, lent, scratch_past}
use Rattle.promises.specs.Calls.{job_tubes, build_checks, build_answer, outs_by, outs_after, plan_checks, plan_answer, scratch_after, Builds, Plans}
use Rattle.promises.proofs.Checks.{build_refused, outs_refused, plan_refused, scratch_refused}

pub builds_refused : (s : List ℕ) (b : Buffers) (r : Refusal) → check s ≡ Err r → Builds s b (Err r) b
builds_refused s b r e =
    let a : Err r ≡ build_answer s (lent b) = sym (build_refused s e (lent b)) in
    let o : b.outs ≡ outs_after s (lent b) b.outs = sym (outs_refused s e (lent b) b.outs) in
    let c : b.scratch ≡ scratch_after s b.scratch = sym (scratch_refused s e b.scratch) in
    record { answer = cc; outputs = cc; scratch = cc }

pub plans_refused : (s : List ℕ) (k : ℕ) (c : Scratch) (r : Refusal) → check s ≡ Err r → Plans s k c (Err r) c
plans_refused s k c r e =
    let a : Err r ≡ plan_answer s k (length c.words) (length c.floats) = sym (plan_refused s e k _ _) in
    let d : c ≡ scratch_after s c = sym (scratch_refused s e c) in
    record { answer = cc; scratch = cc }

module _ (s : List ℕ) (h : Head) (p : check s ≡ Ok h) where
  build_is : (b : Buffers) → build_answer s (lent b) ≡ build_checks h (job_tubes s h) (lent b)
  unfolding build_answer
  build_is b = rw p

  outs_are : (b : Buffers) → outs_after s (lent b) b.outs ≡ outs_by (build_checks h (job_tubes s h) (lent b)) (protein_of s h) (job_tubes s h) b.outs
  unfolding outs_after
  outs_are b = rw p

  plan_is : (k : ℕ) (c : Scratch) → plan_answer s k (length c.words) (length c.floats) ≡ plan_checks h (job_tubes s h) k (length c.words) (length c.floats)
  unfolding plan_answer
  plan_is k c = rw p

  scratch_is : (c : Scratch) → scratch_after s c ≡ scratch_past h c
  unfolding scratch_after
  scratch_is c = rw p

  pub builds_passed : (b b' : Buffers) (r : Result Counts Refusal) → r ≡ build_checks h (job_tubes s h) (lent b) → b'.outs ≡ outs_by r (protein_of s h) (job_tubes s h) b.outs
      → b'.scratch ≡ scratch_past h b.scratch → Builds s b r b'
  builds_passed b b' r e w f =
      let a : r ≡ build_answer s (lent b) = e ∙ sym (build_is b) in
      let o : b'.outs ≡ outs_after s (lent b) b.outs = w ∙ ap (λ (x : Result Counts Refusal). outs_by x (protein_of s h) (job_tubes s h) b.outs) e ∙ sym (outs_are b) in
      let c : b'.scratch ≡ scratch_after s b.scratch = f ∙ sym (scratch_is b.scratch) in
      record { answer = cc; outputs = cc; scratch = cc }

  pub plans_passed : (k : ℕ) (c c' : Scratch) (r : Result Plan Refusal) → r ≡ plan_checks h (job_tubes s h) k (length c.words) (length c.floats) → c' ≡ scratch_past h c
      → Plans s k c r c'
  plans_passed k c c' r e f =
      let a : r ≡ plan_answer s k (length c.words) (length c.floats) = e ∙ sym (plan_is k c) in
      let d : c' ≡ scratch_after s c = f ∙ sym (scratch_is c) in
      record { answer = cc; scratch = cc }
