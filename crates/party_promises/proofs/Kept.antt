-- How the promises are kept: by a refusal of checks 1 to 8, by 20, and by what comes after them. The calls' own proofs use these. Assumes nothing.
use Prim.Native.Nat.{ℕ}
use mathlib.Core.Bool.{Bool, true, cond}
use mathlib.Core.List.{List}
use mathlib.Core.Path.{◌≡◌, refl, sym, ◌∙◌, ap}
use lib.ListN.{length}
use Rattle.protein.specs.Protein.{Protein, protein_of}
use Rattle.protein.specs.declared.Head.{Head}
use Rattle.job.specs.Check.{check_shared}
use Rattle.std.specs.Prelude.{Result, Ok, Err}
use Rattle.buffers.specs.declared.Counts.{Counts}
use Rattle.promises.specs.declared.Plan.{Plan}
use Rattle.job.specs.declared.Refusal.{Refusal}
use Rattle.job.specs.declared.Refusal.TheVariants.{BadShares}
use Rattle.tubes.specs.Tubes.{Tube}
use Rattle.buffers.specs.Outs.{Outs, sizes_of}
use Rattle.shares.specs.declared.Shares.{Shares}
use Rattle.shares.specs.Shares.{bad_shares, share_of, with_share}
use Rattle.shares.proofs.Laws.{with_share_lem}
use Rattle.room.specs.Room.{Scratch, Buffers, lent, scratch_past}
use Rattle.promises.specs.Calls.{tubes_with, build_checks, outs_by, plan_checks}
use Rattle.party_promises.specs.Calls.{share_checks, share_answer, shared_by, share_outs, share_scratch, records_answer, records_scratch, BuildsShare, PlansRecords}
use Rattle.party_promises.specs.Parties.{GoodShares, in_share}
use Rattle.party_promises.proofs.Ladder.{bad_first, good_share}
use Rattle.party_promises.proofs.AsJob.{answer_refused, outs_left, scratch_left, answer_passed, outs_passed, scratch_passed, plan_refused, plan_left, records_passed}

pub share_refused : (s q : List ℕ) (m k : Shares) (b : Buffers) (r : Refusal) → check_shared s q ≡ Err r → BuildsShare s q m k b (Err r) b
share_refused s q m k b r e =
    let a : Err r ≡ share_answer s q m k (lent b) = sym (answer_refused s q m k r e (lent b)) in
    let o : b.outs ≡ share_outs s q m k (lent b) b.outs = sym (outs_left s q m k r e (lent b) b.outs) in
    let c : b.scratch ≡ share_scratch s q m k (sizes_of b.outs) b.scratch = sym (scratch_left s q m k r e (sizes_of b.outs) b.scratch) in
    record { answer = cc; outputs = cc; scratch = cc }

module _ (s q : List ℕ) (m k : Shares) (h : Head) (e : check_shared s q ≡ Ok h) where
  -- 20
  pub share_bad : (b : Buffers) → bad_shares (sizes_of b.outs) m k ≡ true → BuildsShare s q m k b (Err BadShares) b
  share_bad b t =
      let x = bad_first h (tubes_with s h q) m k (lent b) t in
      let a : Err BadShares ≡ share_answer s q m k (lent b) = sym (answer_passed s q m k h e (lent b) ∙ x) in
      let o : b.outs ≡ share_outs s q m k (lent b) b.outs
      = sym (outs_passed s q m k h e (lent b) b.outs ∙ ap (λ (y : Result Counts Refusal). shared_by y (protein_of s h) (tubes_with s h q) m b.outs) x) in
      let c : b.scratch ≡ share_scratch s q m k (sizes_of b.outs) b.scratch
      = sym (scratch_passed s q m k h e (sizes_of b.outs) b.scratch ∙ ap (λ (y : Bool). cond y b.scratch (scratch_past h b.scratch)) t) in
      record { answer = cc; outputs = cc; scratch = cc }

  -- 9 to 11, and the mesh, in the share
  back_by : (r : Result Counts Refusal) (P : Protein) (us : List Tube) (o : Outs) → with_share m o (outs_by r P us (share_of m o)) ≡ shared_by r P us m o
  back_by (Err r) P us o = with_share_lem m o
  back_by (Ok c) P us o = refl

  pub share_passed : (b b' : Buffers) (r : Result Counts Refusal) → GoodShares b.outs m k → r ≡ build_checks h (tubes_with s h q) (lent (in_share m b))
      → b'.outs ≡ with_share m b.outs (outs_by r (protein_of s h) (tubes_with s h q) (share_of m b.outs)) → b'.scratch ≡ scratch_past h b.scratch
      → BuildsShare s q m k b r b'
  share_passed b b' r g e' w f =
      let x : r ≡ share_checks h (tubes_with s h q) m k (lent b) = e' ∙ sym (good_share h (tubes_with s h q) m k b g) in
      let a : r ≡ share_answer s q m k (lent b) = x ∙ sym (answer_passed s q m k h e (lent b)) in
      let o : b'.outs ≡ share_outs s q m k (lent b) b.outs
      = w ∙ back_by r (protein_of s h) (tubes_with s h q) b.outs ∙ ap (λ (y : Result Counts Refusal). shared_by y (protein_of s h) (tubes_with s h q) m b.outs) x
      ∙ sym (outs_passed s q m k h e (lent b) b.outs) in
      let c : b'.scratch ≡ share_scratch s q m k (sizes_of b.outs) b.scratch
      = f ∙ sym (scratch_passed s q m k h e (sizes_of b.outs) b.scratch ∙ ap (λ (y : Bool). cond y b.scratch (scratch_past h b.scratch)) g) in
      record { answer = cc; outputs = cc; scratch = cc }

-- ---- the plan

pub records_refused : (s q : List ℕ) (t : ℕ) (c : Scratch) (r : Refusal) → check_shared s q ≡ Err r → PlansRecords s q t c (Err r) c
records_refused s q t c r e =
    let a : Err r ≡ records_answer s q t (length c.words) (length c.floats) = sym (plan_refused s q r e t (length c.words) (length c.floats)) in
    let d : c ≡ records_scratch s q c = sym (plan_left s q r e c) in
    record { answer = cc; scratch = cc }

module _ (s q : List ℕ) (h : Head) (e : check_shared s q ≡ Ok h) where
  scratch_is : (c : Scratch) → records_scratch s q c ≡ scratch_past h c
  unfolding records_scratch
  scratch_is c = rw e

  pub records_kept : (t : ℕ) (c c' : Scratch) (r : Result Plan Refusal) → r ≡ plan_checks h (tubes_with s h q) t (length c.words) (length c.floats) → c' ≡ scratch_past h c
      → PlansRecords s q t c r c'
  records_kept t c c' r x f =
      let a : r ≡ records_answer s q t (length c.words) (length c.floats) = x ∙ sym (records_passed s q h e t (length c.words) (length c.floats)) in
      let d : c' ≡ records_scratch s q c = f ∙ sym (scratch_is c) in
      record { answer = cc; scratch = cc }
