-- What follows from plan's promise, by the exit that was taken. Assumes nothing.
use Prim.Native.Nat.{ℕ, ◌<◌, ◌≤◌}
use mathlib.Core.Bool.{Bool, true, false}
use mathlib.Core.List.{List}
use mathlib.Core.Logic.{⊎_elim}
use mathlib.Core.Path.{◌≡◌, refl, sym, ◌∙◌, ap, subst}
use native.Mathlib.Omega.{arith}
use lib.ListN.{length}
use Rattle.protein.specs.Layout.{head_of}
use Rattle.job.specs.Check.{check}
use Rattle.job.specs.Refusals.{number_of}
use Rattle.std.specs.Prelude.{Result, Ok, Err}
use Rattle.promises.specs.declared.Plan.{Plan}
use Rattle.job.specs.declared.Refusal.{Refusal}
use Rattle.job.specs.declared.Refusal.TheVariants.{NoScratch, TooManyVertices}
use Rattle.walk.specs.declared.Five.{Five}
use Rattle.buffers.specs.declared.Counts.{Counts}
use Rattle.room.specs.Room.{Scratch, short_scratch, too_many, cleared}
use Rattle.promises.specs.Calls.{counts_of, words_at, plan_checks, plan_answer, scratch_after, Plans, with_words}
use Rattle.promises.specs.Meshes.{tubes_in, Passes, Enough, Buildable}
use Rattle.promises.proofs.Told.{planned_is}
use Rattle.promises.proofs.Numbered.{UpTo, checks_numbered}
use Rattle.promises.proofs.Checks.{passes_or_refused, plan_passed, plan_refused, ok_or_not, same_refusal, same_ok, enough, few, left, left_at_nine, emptied}

pub one : {s : List ℕ} {k : ℕ} {c c' c'' : Scratch} {r q : Result Plan Refusal} → Plans s k c r c' → Plans s k c q c'' → (r ≡ q) × (c' ≡ c'')
one P Q = (planned_is P ∙ sym (planned_is Q), P.scratch ∙ sym Q.scratch)

-- ---- which exit plan took

pub data PlanExit (s : List ℕ) (k : ℕ) (c : Scratch) (r : Result Plan Refusal) : Type 0 where
  early : (q : Refusal) → check s ≡ Err q → r ≡ Err q → PlanExit s k c r
  nine : Passes s → short_scratch (head_of s) (length c.words) (length c.floats) ≡ true → r ≡ Err NoScratch → PlanExit s k c r
  ten : Passes s → Enough s c → r ≡ Err TooManyVertices → PlanExit s k c r
  plan : Buildable s c → r ≡ Ok (with_words (counts_of (tubes_in s)) (words_at 0 0 (tubes_in s) k)) → PlanExit s k c r

pub plan_exit : (s : List ℕ) (k : ℕ) (c : Scratch) (r : Result Plan Refusal) → r ≡ plan_answer s k (length c.words) (length c.floats) → PlanExit s k c r
unfolding plan_checks
plan_exit s k c r e = ⊎_elim passed (λ q. early q.0 q.1 (e ∙ plan_refused s q.1 k _ _)) (passes_or_refused s)
  where
    passed : Passes s → PlanExit s k c r
    passed p = by_nine (short_scratch (head_of s) (length c.words) (length c.floats)) refl
      where
        q : r ≡ plan_checks (head_of s) (tubes_in s) k (length c.words) (length c.floats)
        q = e ∙ plan_passed s p k _ _

        by_ten : (x : Bool) → too_many (tubes_in s) ≡ x → short_scratch (head_of s) (length c.words) (length c.floats) ≡ false → PlanExit s k c r
        by_ten true m f = ten p (enough s c f) (q ∙ rw (f, m))
        by_ten false m f = plan (record { passes = p; scratch = enough s c f; limit = few (tubes_in s) m }) (q ∙ rw (f, m))

        by_nine : (x : Bool) → short_scratch (head_of s) (length c.words) (length c.floats) ≡ x → PlanExit s k c r
        by_nine true f = nine p f (q ∙ rw f)
        by_nine false f = by_ten (too_many (tubes_in s)) refl f

pub planned : (s : List ℕ) (k : ℕ) (c c' : Scratch) (n : Counts) (f : Five) → Plans s k c (Ok (with_words n f)) c'
    → Buildable s c × (n ≡ counts_of (tubes_in s)) × (f ≡ words_at 0 0 (tubes_in s) k)
planned s k c c' n f P = go (plan_exit s k c (Ok (with_words n f)) (planned_is P))
  where
    go : PlanExit s k c (Ok (with_words n f)) → Buildable s c × (n ≡ counts_of (tubes_in s)) × (f ≡ words_at 0 0 (tubes_in s) k)
    go (early q e x) = ok_or_not x
    go (nine p e x) = ok_or_not x
    go (ten p e x) = ok_or_not x
    go (plan R x) = let z = same_ok x in (R, ap (λ (p : Plan). p.counts) z, ap (λ (p : Plan). p.words) z)

pub numbers : (s : List ℕ) (k : ℕ) (c c' : Scratch) (q : Refusal) → Plans s k c (Err q) c' → (1 ≤ number_of q) × (number_of q ≤ 10)
numbers s k c c' q P = go (plan_exit s k c (Err q) (planned_is P))
  where
    is : (x : Refusal) → UpTo 10 x → ◌≡◌ {A = Result Plan Refusal} (Err q) (Err x) → UpTo 10 q
    is x h e = subst (UpTo 10) (sym (same_refusal e)) h

    go : PlanExit s k c (Err q) → UpTo 10 q
    go (early x e y) = let z = checks_numbered s x e in is x (z.0, omega (arith, z.1)) y
    go (nine p e y) = is NoScratch (omega arith, omega arith) y
    go (ten p e y) = is TooManyVertices (omega arith, omega arith) y
    go (plan R y) = ok_or_not (sym y)

pub short : (s : List ℕ) (k : ℕ) (c c' : Scratch) (r : Result Plan Refusal) → Passes s → (Enough s c → ⊥) → Plans s k c r c' → r ≡ Err NoScratch
short s k c c' r p never P = go (plan_exit s k c r (planned_is P))
  where
    go : PlanExit s k c r → r ≡ Err NoScratch
    go (early q e y) = ok_or_not (sym p ∙ e)
    go (nine p e y) = y
    go (ten p e y) = absurd (never e)
    go (plan R y) = absurd (never R.scratch)

pub late : (s : List ℕ) (k : ℕ) (c c' : Scratch) (q : Refusal) → Passes s → Plans s k c (Err q) c' → 9 ≤ number_of q
late s k c c' q p P = go (plan_exit s k c (Err q) (planned_is P))
  where
    go : PlanExit s k c (Err q) → 9 ≤ number_of q
    go (early x e y) = ok_or_not (sym p ∙ e)
    go (nine p e y) = omega (arith, ap number_of (same_refusal y))
    go (ten p e y) = omega (arith, ap number_of (same_refusal y))
    go (plan R y) = ok_or_not (sym y)

-- ---- by the refusal's number

module _ (s : List ℕ) (k : ℕ) (c c' : Scratch) (q : Refusal) (P : Plans s k c (Err q) c') where
  pub leaves : number_of q ≤ 9 → c' ≡ c
  leaves h = P.scratch ∙ go (plan_exit s k c (Err q) (planned_is P))
    where
      go : PlanExit s k c (Err q) → scratch_after s c ≡ c
      go (early x e y) = left s c e
      go (nine p e y) = left_at_nine s c p e
      go (ten p e y) = absurd (omega (arith, ap number_of (same_refusal y)))
      go (plan R y) = ok_or_not (sym y)

  pub empties : 9 < number_of q → c' ≡ cleared (head_of s) c
  empties h = P.scratch ∙ go (plan_exit s k c (Err q) (planned_is P))
    where
      go : PlanExit s k c (Err q) → scratch_after s c ≡ cleared (head_of s) c
      go (early x e y) = absurd (omega (arith, ap number_of (same_refusal y), (checks_numbered s x e).1))
      go (nine p e y) = absurd (omega (arith, ap number_of (same_refusal y)))
      go (ten p e y) = emptied s c p e
      go (plan R y) = ok_or_not (sym y)

pub empties_after : (s : List ℕ) (k : ℕ) (c c' : Scratch) (n : Counts) (f : Five) → Plans s k c (Ok (with_words n f)) c' → c' ≡ cleared (head_of s) c
empties_after s k c c' n f P = let R = (planned s k c c' n f P).0 in P.scratch ∙ emptied s c R.passes R.scratch
