-- What a call of a party does to the buffers: nothing, or its own share alone; and calls of one party after the other. Assumes nothing.
use Prim.Native.Nat.{ℕ, ◌+◌, ◌≤◌}
use mathlib.Core.Bool.{Bool, true, false}
use mathlib.Core.List.{List}
use mathlib.Core.Logic.{◌⊎◌, inl, inr, ⊎_elim}
use mathlib.Core.Path.{◌≡◌, refl, sym, ◌∙◌, ap, subst}
use lib.ListN.{length}
use Rattle.lists.proofs.Puts.{kept}
use Rattle.protein.specs.declared.Head.{Head}
use Rattle.protein.specs.Protein.{Protein, protein_of}
use Rattle.job.specs.Check.{check_shared}
use Rattle.std.specs.Prelude.{Result, Ok, Err}
use Rattle.job.specs.declared.Refusal.{Refusal}
use Rattle.buffers.specs.declared.Counts.{Counts}
use Rattle.tubes.specs.Tubes.{Tube}
use Rattle.buffers.specs.Outs.{Outs, Sizes, sizes_of}
use Rattle.shares.specs.declared.Share.{Share}
use Rattle.shares.specs.declared.Shares.{Shares}
use Rattle.shares.specs.Shares.{bad_shares, share_sizes, share_of, with_share, within, Fits}
use Rattle.shares.proofs.Laws.{good_fits, sizes_same, sizes_share, sizes_with, share_with, share_apart, length_within, outside}
use Rattle.room.specs.Room.{Lent, Buffers, lent}
use Rattle.promises.specs.Calls.{by_check, tubes_with, build_checks, filled}
use Rattle.promises.proofs.Told.{built_told}
use Rattle.party_promises.specs.Calls.{share_lent, share_checks, share_answer, shared_by, share_outs, BuildsShare}
use Rattle.party_promises.proofs.Ladder.{bad_first, good_then}
use Rattle.party_promises.specs.Parties.{GoodShares, SameOutside, Outside, Called, none, then}

-- what a promise says of an answer's numbers it says of the answer
pub answer_is : {s q : List ℕ} {m k : Shares} {b b' : Buffers} {r : Result Counts Refusal} → BuildsShare s q m k b r b' → r ≡ share_answer s q m k (lent b)
answer_is {r = r} B = built_told r _ B.answer

-- a mesh leaves each buffer as long as it was
pub filled_sizes : (P : Protein) (us : List Tube) (o : Outs) → sizes_of (filled P us o) ≡ sizes_of o
unfolding filled
filled_sizes P us o =
    sizes_same (kept o.positions 0 _ refl) (kept o.normals 0 _ refl) (kept o.tags 0 _ refl) (kept o.triangles 0 _ refl) (kept o.tubes 0 _ refl) (kept o.boxes 0 _ refl)

-- ---- one call

-- the buffers after a call: as they were, or with something as long in the place of the caller's shares, which then passed 20
abbrev pub Wrote : Shares → Shares → Outs → Outs → Type 0
Wrote m k o o' = GoodShares o m k × ((x : Outs) × ((sizes_of x ≡ share_sizes m) × (o' ≡ with_share m o x)))

abbrev pub Did : Shares → Shares → Outs → Outs → Type 0
Did m k o o' = (o' ≡ o) ⊎ Wrote m k o o'

did_by : (m k : Shares) (o : Outs) (P : Protein) (us : List Tube) (h : Head) (l : Lent) → l.outs ≡ sizes_of o → Did m k o (shared_by (share_checks h us m k l) P us m o)
did_by m k o P us h l e = go (bad_shares l.outs m k) refl
  where
    built : bad_shares l.outs m k ≡ false → (r : Result Counts Refusal) → Did m k o (shared_by r P us m o)
    built g (Err r) = inl refl
    built g (Ok c) =
        let good : GoodShares o m k = ap (λ (n : Sizes). bad_shares n m k) (sym e) ∙ g in
        inr (good, (filled P us (share_of m o), (filled_sizes P us (share_of m o) ∙ sizes_share m o (good_fits m k o good).0, refl)))

    go : (t : Bool) → bad_shares l.outs m k ≡ t → Did m k o (shared_by (share_checks h us m k l) P us m o)
    go true g = rw (bad_first h us m k l g) (inl refl)
    go false g = rw (good_then h us m k l g) (built g (build_checks h us (share_lent m l)))

pub did : {s q : List ℕ} {m k : Shares} {b b' : Buffers} {r : Result Counts Refusal} → BuildsShare s q m k b r b' → Did m k b.outs b'.outs
unfolding share_outs
did {s} {q} {m} {k} {b} {b'} B = subst (λ (o : Outs). Did m k b.outs o) (sym B.outputs) (go (check_shared s q))
  where
    go : (c : Result Head Refusal) → Did m k b.outs (by_check c (λ r. b.outs) (λ h. shared_by (share_checks h (tubes_with s h q) m k (lent b)) (protein_of s h) (tubes_with s h q) m b.outs))
    go (Err r) = inl refl
    go (Ok h) = did_by m k b.outs (protein_of s h) (tubes_with s h q) h (lent b) refl

-- the buffers are as long as they were
pub did_sizes : (m k : Shares) (o o' : Outs) → Did m k o o' → sizes_of o' ≡ sizes_of o
did_sizes m k o o' d =
    ⊎_elim (λ e. ap sizes_of e) (λ w. ap sizes_of w.1.1.1 ∙ sizes_with m o w.1.0 (good_fits m k o w.0).0 w.1.1.0) d

-- 'which change nothing in its share'
pub did_other : (m k : Shares) (o o' : Outs) → Did m k o o' → share_of k o' ≡ share_of k o
did_other m k o o' d =
    ⊎_elim
    (λ e. ap (share_of k) e)
    (λ w.
    let f = good_fits m k o w.0 in
    ap (share_of k) w.1.1.1 ∙ share_apart m o w.1.0 f.0 w.1.1.0 k f.1 f.2)
    d

-- every place outside the own share
same_refl : {A : Type 0} (s : Share) (l : List A) → SameOutside s l l
same_refl s l = record { long = refl; same = λ i d h. refl }

pub did_outside : (m k : Shares) (o o' : Outs) → Did m k o o' → Outside m o o'
unfolding with_share
did_outside m k o o' d =
    ⊎_elim
    (λ e. subst (Outside m o) (sym e) (record {
      positions = same_refl _ _;
      normals = same_refl _ _;
      tags = same_refl _ _;
      triangles = same_refl _ _;
      tubes = same_refl _ _;
      boxes = same_refl _ _;
    }))
    (λ w. subst (Outside m o) (sym w.1.1.1) (there w.1.0 (good_fits m k o w.0).0 w.1.1.0))
    d
  where
    one : {A : Type 0} (s : Share) (l xs : List A) (f : s.start + s.len ≤ length l) (n : length xs ≡ s.len) → SameOutside s l (within s l xs)
    one s l xs f n = record { long = length_within s l xs f n; same = outside s l xs f n }

    there : (x : Outs) → Fits m o → sizes_of x ≡ share_sizes m → Outside m o (with_share m o x)
    there x F e = record {
      positions = one m.positions o.positions x.positions F.positions (ap (λ (z : Sizes). z.positions) e);
      normals = one m.normals o.normals x.normals F.normals (ap (λ (z : Sizes). z.normals) e);
      tags = one m.tags o.tags x.tags F.tags (ap (λ (z : Sizes). z.tags) e);
      triangles = one m.triangles o.triangles x.triangles F.triangles (ap (λ (z : Sizes). z.triangles) e);
      tubes = one m.tubes o.tubes x.tubes F.tubes (ap (λ (z : Sizes). z.tubes) e);
      boxes = one m.boxes o.boxes x.boxes F.boxes (ap (λ (z : Sizes). z.boxes) e);
    }

-- ---- calls one after the other

-- any calls of a party leave the buffers as long, and the other's share as it was
pub called_other : (m k : Shares) (o o' : Outs) → Called m k o o' → (sizes_of o' ≡ sizes_of o) × (share_of k o' ≡ share_of k o)
called_other m k _ _ (none o o' e) = (ap sizes_of (sym e), ap (share_of k) (sym e))
called_other m k _ _ (then s q c c' r o p o' B later) =
    let d = did B in
    let rest = called_other m k p o' later in
    (rest.0 ∙ did_sizes m k o p d, rest.1 ∙ did_other m k o p d)

-- ---- what a call answers, and leaves in its own share, is a function of what is there and of the lengths

answer_same : (s q : List ℕ) (m k : Shares) (l l' : Lent) → l ≡ l' → share_answer s q m k l ≡ share_answer s q m k l'
answer_same s q m k l l' e = ap (share_answer s q m k) e

own_by : (m k : Shares) (o p : Outs) (P : Protein) (us : List Tube) (h : Head) (l : Lent) → l.outs ≡ sizes_of o → sizes_of o ≡ sizes_of p → share_of m o ≡ share_of m p
    → share_of m (shared_by (share_checks h us m k l) P us m o) ≡ share_of m (shared_by (share_checks h us m k l) P us m p)
own_by m k o p P us h l e z w = go (bad_shares l.outs m k) refl
  where
    built : bad_shares l.outs m k ≡ false → (r : Result Counts Refusal) → share_of m (shared_by r P us m o) ≡ share_of m (shared_by r P us m p)
    built g (Err r) = w
    built g (Ok c) =
        let F = (good_fits m k o (ap (λ (n : Sizes). bad_shares n m k) (sym e) ∙ g)).0 in
        let G = (good_fits m k p (ap (λ (n : Sizes). bad_shares n m k) (sym (e ∙ z)) ∙ g)).0 in
        share_with m o (filled P us (share_of m o)) F (filled_sizes P us (share_of m o) ∙ sizes_share m o F)
        ∙ ap (filled P us) w
        ∙ sym (share_with m p (filled P us (share_of m p)) G (filled_sizes P us (share_of m p) ∙ sizes_share m p G))

    go : (t : Bool) → bad_shares l.outs m k ≡ t → share_of m (shared_by (share_checks h us m k l) P us m o) ≡ share_of m (shared_by (share_checks h us m k l) P us m p)
    go true g = rw (bad_first h us m k l g) w
    go false g = rw (good_then h us m k l g) (built g (build_checks h us (share_lent m l)))

own_same : (s q : List ℕ) (m k : Shares) (l : Lent) (o p : Outs) → l.outs ≡ sizes_of o → sizes_of o ≡ sizes_of p → share_of m o ≡ share_of m p
    → share_of m (share_outs s q m k l o) ≡ share_of m (share_outs s q m k l p)
unfolding share_outs
own_same s q m k l o p e z w = go (check_shared s q)
  where
    go : (c : Result Head Refusal) → share_of m (by_check c (λ r. o) (λ h. shared_by (share_checks h (tubes_with s h q) m k l) (protein_of s h) (tubes_with s h q) m o))
        ≡ share_of m (by_check c (λ r. p) (λ h. shared_by (share_checks h (tubes_with s h q) m k l) (protein_of s h) (tubes_with s h q) m p))
    go (Err r) = w
    go (Ok h) = own_by m k o p (protein_of s h) (tubes_with s h q) h l e z w

-- two calls of the same job and records, on buffers as long whose own shares hold the same, answer the same and leave the same there
pub alike : {s q : List ℕ} {m k : Shares} {b b' d d' : Buffers} {r t : Result Counts Refusal} → BuildsShare s q m k b r b' → BuildsShare s q m k d t d' → lent b ≡ lent d
    → share_of m b.outs ≡ share_of m d.outs → (r ≡ t) × (share_of m b'.outs ≡ share_of m d'.outs)
alike {s} {q} {m} {k} {b} {b'} {d} {d'} B D e w = (
  answer_is B ∙ answer_same s q m k (lent b) (lent d) e ∙ sym (answer_is D),
  ap (share_of m) B.outputs ∙ own_same s q m k (lent b) b.outs d.outs refl (ap (λ (l : Lent). l.outs) e) w
      ∙ ap (λ (l : Lent). share_of m (share_outs s q m k l d.outs)) e
      ∙ sym (ap (share_of m) D.outputs),
)
