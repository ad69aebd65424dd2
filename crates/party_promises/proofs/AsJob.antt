-- 02 §5: a party's call 'answers as the job with those records would in that share'. Assumes nothing.
use Prim.Native.Nat.{ℕ}
use mathlib.Core.Bool.{Bool, cond}
use mathlib.Core.List.{List}
use mathlib.Core.Path.{◌≡◌, refl, sym, ◌∙◌, ap, subst}
use lib.ListN.{length}
use Rattle.protein.specs.Layout.{head_of}
use Rattle.protein.specs.Protein.{Protein, protein_of}
use Rattle.protein.specs.declared.Head.{Head}
use Rattle.tubes.specs.Tubes.{Tube}
use Rattle.job.specs.Check.{check_shared, shared_sizes}
use Rattle.std.specs.Prelude.{Result, Ok, Err}
use Rattle.buffers.specs.declared.Counts.{Counts}
use Rattle.promises.specs.declared.Plan.{Plan}
use Rattle.job.specs.declared.Refusal.{Refusal}
use Rattle.job.proofs.Laws.{shared_sizes_lem}
use Rattle.job.proofs.Accepted.{shared_parts}
use Rattle.joined.specs.Joined.{with_records, with_segments}
use Rattle.joined.proofs.Joined.{joined_records, joined_protein, joined_refused, joined_fine, few_atoms}
use Rattle.buffers.specs.Outs.{Outs, Sizes, sizes_of}
use Rattle.shares.specs.declared.Shares.{Shares}
use Rattle.shares.specs.Shares.{bad_shares, share_of, Fits}
use Rattle.shares.proofs.Laws.{good_fits, sizes_share, share_with}
use Rattle.room.specs.Room.{Lent, Scratch, Buffers, lent, short_scratch, scratch_past}
use Rattle.promises.specs.Calls.{tubes_with, job_tubes, build_checks, filled, outs_by, plan_checks, Builds, Plans}
use Rattle.promises.proofs.Told.{planned_told}
use Rattle.promises.proofs.Kept.{builds_passed, builds_refused, plans_passed, plans_refused}
use Rattle.party_promises.specs.Calls.{share_checks, share_answer, shared_by, share_outs, share_scratch, records_answer, records_scratch, BuildsShare, PlansRecords}
use Rattle.party_promises.specs.Parties.{AllBytes, Shared, PassesShared, GoodShares, in_share}
use Rattle.party_promises.proofs.Ladder.{good_share}
use Rattle.party_promises.proofs.Sharing.{answer_is, filled_sizes}

-- ---- what a party's job passes

-- the counts that checks 1 to 8 hand on are the job's own, and 1 to 4 were passed
pub passed_shared : (s q : List ℕ) (h : Head) → check_shared s q ≡ Ok h → (shared_sizes s (length q) ≡ Ok h) × (h ≡ head_of s)
passed_shared s q h e = let p = (shared_parts s q h e).0 in (p, (shared_sizes_lem s (length q) h p).0.head)

pub passes_by : (s q : List ℕ) (h : Head) → check_shared s q ≡ Ok h → PassesShared s q
passes_by s q h e = e ∙ ap Ok (passed_shared s q h e).1

pub shared_by_lem : (s q : List ℕ) (h : Head) → check_shared s q ≡ Ok h → Shared s q
shared_by_lem s q h e = let p = passed_shared s q h e in p.0 ∙ ap Ok p.1

-- ---- by what the checks answered

module _ (s q : List ℕ) (m k : Shares) where
  module _ (r : Refusal) (e : check_shared s q ≡ Err r) where
    pub answer_refused : (l : Lent) → share_answer s q m k l ≡ Err r
    unfolding share_answer
    answer_refused l = rw e

    pub outs_left : (l : Lent) (o : Outs) → share_outs s q m k l o ≡ o
    unfolding share_outs
    outs_left l o = rw e

    pub scratch_left : (n : Sizes) (c : Scratch) → share_scratch s q m k n c ≡ c
    unfolding share_scratch
    scratch_left n c = rw e

  module _ (h : Head) (e : check_shared s q ≡ Ok h) where
    pub answer_passed : (l : Lent) → share_answer s q m k l ≡ share_checks h (tubes_with s h q) m k l
    unfolding share_answer
    answer_passed l = rw e

    pub outs_passed : (l : Lent) (o : Outs) → share_outs s q m k l o ≡ shared_by (share_checks h (tubes_with s h q) m k l) (protein_of s h) (tubes_with s h q) m o
    unfolding share_outs
    outs_passed l o = rw e

    pub scratch_passed : (n : Sizes) (c : Scratch) → share_scratch s q m k n c ≡ cond (bad_shares n m k) c (scratch_past h c)
    unfolding share_scratch
    scratch_passed n c = rw e

module _ (s q : List ℕ) (r : Refusal) (e : check_shared s q ≡ Err r) where
  pub plan_refused : (t words floats : ℕ) → records_answer s q t words floats ≡ Err r
  unfolding records_answer
  plan_refused t words floats = rw e

  pub plan_left : (c : Scratch) → records_scratch s q c ≡ c
  unfolding records_scratch
  plan_left c = rw e

-- ---- the job with those records

module _ (s q : List ℕ) (h : Head) (e : check_shared s q ≡ Ok h) where
  abbrev J : List ℕ
  J = with_records s q

  abbrev h' : Head
  h' = with_segments q h

  sized : shared_sizes s (length q) ≡ Ok h
  sized = (passed_shared s q h e).0

  -- its tubes are those of the shared job with the records
  tubes_same : job_tubes J h' ≡ tubes_with s h q
  unfolding tubes_with
  tubes_same = rw (joined_records s q h sized, joined_protein s q h sized)

  checks_same : (us : List Tube) (l : Lent) → build_checks h' us l ≡ build_checks h us l
  unfolding build_checks short_scratch
  checks_same us l = refl

  past_same : (c : Scratch) → scratch_past h' c ≡ scratch_past h c
  unfolding short_scratch
  past_same c = refl

  plans_same : (us : List Tube) (t words floats : ℕ) → plan_checks h' us t words floats ≡ plan_checks h us t words floats
  unfolding plan_checks short_scratch
  plans_same us t words floats = refl

  -- ---- build, where the shares are good
  module _ (m k : Shares) (b b' : Buffers) (r : Result Counts Refusal) (B : BuildsShare s q m k b r b') (g : GoodShares b.outs m k) where
    F : Fits m b.outs
    F = (good_fits m k b.outs g).0

    checked : share_checks h (tubes_with s h q) m k (lent b) ≡ build_checks h (tubes_with s h q) (lent (in_share m b))
    checked = good_share h (tubes_with s h q) m k b g

    pub result_is : r ≡ build_checks h (tubes_with s h q) (lent (in_share m b))
    result_is = answer_is B ∙ answer_passed s q m k h e (lent b) ∙ checked

    own : (x : Result Counts Refusal) → share_of m (shared_by x (protein_of s h) (tubes_with s h q) m b.outs) ≡ outs_by x (protein_of s h) (tubes_with s h q) (share_of m b.outs)
    own (Err y) = refl
    own (Ok c) =
        share_with m b.outs (filled (protein_of s h) (tubes_with s h q) (share_of m b.outs)) F
        (filled_sizes (protein_of s h) (tubes_with s h q) (share_of m b.outs) ∙ sizes_share m b.outs F)

    pub outs_are : share_of m b'.outs ≡ outs_by r (protein_of s h) (tubes_with s h q) (share_of m b.outs)
    outs_are =
        ap (share_of m) (B.outputs ∙ outs_passed s q m k h e (lent b) b.outs)
        ∙ own (share_checks h (tubes_with s h q) m k (lent b))
        ∙ ap (λ (x : Result Counts Refusal). outs_by x (protein_of s h) (tubes_with s h q) (share_of m b.outs)) (checked ∙ sym result_is)

    pub scratch_is : b'.scratch ≡ scratch_past h b.scratch
    scratch_is = B.scratch ∙ scratch_passed s q m k h e (sizes_of b.outs) b.scratch ∙ ap (λ (x : Bool). cond x b.scratch (scratch_past h b.scratch)) g

    pub passed_as_job : AllBytes s → Builds J (in_share m b) r (in_share m b')
    passed_as_job bytes =
        builds_passed J h' (joined_fine s q h sized (few_atoms s q h sized bytes) e) (in_share m b) (in_share m b') r
        (result_is ∙ ap (λ (vs : List Tube). build_checks h vs (lent (in_share m b))) (sym tubes_same) ∙ sym (checks_same (job_tubes J h') (lent (in_share m b))))
        (outs_are ∙ ap (λ (vs : List Tube). outs_by r (protein_of s h) vs (share_of m b.outs)) (sym tubes_same)
        ∙ ap (λ (P : Protein). outs_by r P (job_tubes J h') (share_of m b.outs)) (sym (joined_protein s q h sized)))
        (scratch_is ∙ sym (past_same b.scratch))

  -- ---- plan
  pub records_passed : (t words floats : ℕ) → records_answer s q t words floats ≡ plan_checks h (tubes_with s h q) t words floats
  unfolding records_answer
  records_passed t words floats = rw e

  plan_past : (c : Scratch) → records_scratch s q c ≡ scratch_past h c
  unfolding records_scratch
  plan_past c = rw e

  pub passed_plan_as_job : AllBytes s → (t : ℕ) (c c' : Scratch) (r : Result Plan Refusal) → PlansRecords s q t c r c' → Plans J t c r c'
  passed_plan_as_job bytes t c c' r P =
      plans_passed J h' (joined_fine s q h sized (few_atoms s q h sized bytes) e) t c c' r
      (planned_told r _ P.answer ∙ records_passed t _ _ ∙ ap (λ (vs : List Tube). plan_checks h vs t (length c.words) (length c.floats)) (sym tubes_same)
      ∙ sym (plans_same (job_tubes J h') t (length c.words) (length c.floats)))
      (P.scratch ∙ plan_past c ∙ sym (past_same c))

-- ---- all of it: a job with whole records, whatever checks 5 to 8 say of it

pub builds_as_job : (s q : List ℕ) (m k : Shares) (b b' : Buffers) (r : Result Counts Refusal) → AllBytes s → Shared s q → GoodShares b.outs m k → BuildsShare s q m k b r b'
    → Builds (with_records s q) (in_share m b) r (in_share m b')
builds_as_job s q m k b b' r bytes S g B = go (check_shared s q) refl
  where
    go : (c : Result Head Refusal) → check_shared s q ≡ c → Builds (with_records s q) (in_share m b) r (in_share m b')
    go (Ok h) e = passed_as_job s q h e m k b b' r B g bytes
    go (Err x) e =
        let a : Err x ≡ r = sym (answer_is B ∙ answer_refused s q m k x e (lent b)) in
        let o : in_share m b ≡ in_share m b' = sym (left (B.outputs ∙ outs_left s q m k x e (lent b) b.outs) (B.scratch ∙ scratch_left s q m k x e (sizes_of b.outs) b.scratch)) in
        subst (λ (y : Result Counts Refusal). Builds (with_records s q) (in_share m b) y (in_share m b')) a
        (subst (λ (d : Buffers). Builds (with_records s q) (in_share m b) (Err x) d) o
        (builds_refused (with_records s q) (in_share m b) x (joined_refused s q (head_of s) S (few_atoms s q (head_of s) S bytes) x e)))
      where
        left : b'.outs ≡ b.outs → b'.scratch ≡ b.scratch → in_share m b' ≡ in_share m b
        left x y = ap (λ (z : Outs). record { outs = share_of m z; scratch = b'.scratch }) x ∙ ap (λ (z : Scratch). record { outs = share_of m b.outs; scratch = z }) y

pub plans_as_job : (s q : List ℕ) (t : ℕ) (c c' : Scratch) (r : Result Plan Refusal) → AllBytes s → Shared s q → PlansRecords s q t c r c' → Plans (with_records s q) t c r c'
plans_as_job s q t c c' r bytes S P = go (check_shared s q) refl
  where
    go : (x : Result Head Refusal) → check_shared s q ≡ x → Plans (with_records s q) t c r c'
    go (Ok h) e = passed_plan_as_job s q h e bytes t c c' r P
    go (Err x) e =
        let a : Err x ≡ r = sym (planned_told r _ P.answer ∙ plan_refused s q x e t (length c.words) (length c.floats)) in
        let d : c ≡ c' = sym (P.scratch ∙ plan_left s q x e c) in
        subst (λ (y : Result Plan Refusal). Plans (with_records s q) t c y c') a
        (subst (λ (z : Scratch). Plans (with_records s q) t c (Err x) z) d
        (plans_refused (with_records s q) t c x (joined_refused s q (head_of s) S (few_atoms s q (head_of s) S bytes) x e)))
