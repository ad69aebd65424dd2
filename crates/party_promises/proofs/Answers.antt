-- The ladder of a party's checks, exit by exit, and what follows from an answer. Assumes nothing.
use Prim.Native.Nat.{ℕ, ◌*◌, ◌<◌, ◌≤◌}
use mathlib.Core.Bool.{Bool, true, false, cond}
use mathlib.Core.List.{List}
use mathlib.Core.Logic.{◌⊎◌, inl, inr, ⊎_elim}
use mathlib.Core.Path.{◌≡◌, refl, sym, ◌∙◌, ap}
use native.Mathlib.Omega.{arith}
use lib.ListN.{length, take}
use Rattle.edges.specs.Sound.{Sound}
use Rattle.protein.specs.Layout.{head_of}
use Rattle.protein.specs.Protein.{protein_of}
use Rattle.protein.specs.declared.Head.{Head}
use Rattle.job.specs.Check.{sizes, unshared, check_shared}
use Rattle.job.specs.Refusals.{number_of}
use Rattle.std.specs.Prelude.{Result, Ok, Err}
use Rattle.promises.specs.declared.Plan.{Plan}
use Rattle.job.specs.declared.Refusal.{Refusal}
use Rattle.job.specs.declared.Refusal.TheVariants.{BadSize, NoScratch, TooManyVertices, NoRoom, BadShares}
use Rattle.job.proofs.Laws.{shared_unshared}
use Rattle.joined.specs.Joined.{with_records}
use Rattle.tubes.specs.Tubes.{Tube}
use Rattle.mesh.specs.Mesh.{vertex_sum, triangle_sum}
use Rattle.buffers.specs.Outs.{Outs, Sizes, sizes_of, tight}
use Rattle.buffers.specs.declared.Counts.{Counts}
use Rattle.shares.specs.declared.Shares.{Shares}
use Rattle.shares.specs.Shares.{bad_shares, share_sizes, share_of, Fits, Apart}
use Rattle.shares.proofs.Laws.{good_fits, fits_good, bad_sym, sizes_share}
use Rattle.room.specs.Room.{Scratch, Buffers, lent, short_scratch, too_many, cleared, scratch_past}
use Rattle.promises.specs.Calls.{words_at, tubes_with, counts_of, build_checks, plan_checks, Builds, with_words}
use Rattle.promises.specs.Meshes.{protein_in, tubes_in, Buildable, Shorter, RoomFor, NoLess, NoShorter, HoldsMesh, SameMesh, TubeAt, TubeStands}
use Rattle.promises.proofs.Told.{planned_told}
use Rattle.promises.proofs.Numbered.{UpTo, shared_numbered}
use Rattle.promises.proofs.Numbered as numbered
use Rattle.promises.proofs.Checks.{ok_or_not, same_refusal}
use Rattle.promises.proofs.Demands as base
use Rattle.party_promises.specs.Calls.{share_checks, shared_by, share_scratch, records_answer, BuildsShare, PlansRecords}
use Rattle.party_promises.specs.Parties.{AllBytes, Shared, PassesShared, GoodShares, in_share, NoShorterShares, at, Called}
use Rattle.party_promises.proofs.Ladder.{bad_first, good_then}
use Rattle.party_promises.proofs.Sharing.{answer_is, called_other, alike}
use Rattle.party_promises.proofs.AsJob.{passes_by, shared_by_lem, answer_refused, outs_left, scratch_left, answer_passed, outs_passed, scratch_passed, plan_refused, records_passed, builds_as_job}

-- ---- one answer

pub one : {s q : List ℕ} {m k : Shares} {b b' b'' : Buffers} {r t : Result Counts Refusal} → BuildsShare s q m k b r b' → BuildsShare s q m k b t b'' → (r ≡ t) × (b' ≡ b'')
one {b' = b'} {b'' = b''} B C = (answer_is B ∙ sym (answer_is C), same (B.outputs ∙ sym C.outputs) (B.scratch ∙ sym C.scratch))
  where
    same : b'.outs ≡ b''.outs → b'.scratch ≡ b''.scratch → b' ≡ b''
    same x y = ap (λ (z : Outs). record { outs = z; scratch = b'.scratch }) x ∙ ap (λ (z : Scratch). record { outs = b''.outs; scratch = z }) y

pub one_plan : {s q : List ℕ} {k : ℕ} {c c' c'' : Scratch} {r t : Result Plan Refusal} → PlansRecords s q k c r c' → PlansRecords s q k c t c'' → (r ≡ t) × (c' ≡ c'')
one_plan {r = r} {t = t} P Q = (planned_told r t (P.answer ∙ sym Q.answer), P.scratch ∙ sym Q.scratch)

-- ---- which exit was taken, with what was found on the way

abbrev short : List ℕ → Buffers → Bool
short s b = short_scratch (head_of s) (length b.scratch.words) (length b.scratch.floats)

pub data Exit (s q : List ℕ) (m k : Shares) (b : Buffers) (r : Result Counts Refusal) : Type 0 where
  early : (x : Refusal) → check_shared s q ≡ Err x → r ≡ Err x → Exit s q m k b r
  bad : PassesShared s q → bad_shares (sizes_of b.outs) m k ≡ true → r ≡ Err BadShares → Exit s q m k b r
  nine : PassesShared s q → GoodShares b.outs m k → short s b ≡ true → r ≡ Err NoScratch → Exit s q m k b r
  later : PassesShared s q → GoodShares b.outs m k → short s b ≡ false → (x : Refusal) → (9 < number_of x) × (number_of x ≤ 11) → r ≡ Err x → Exit s q m k b r
  mesh : PassesShared s q → GoodShares b.outs m k → short s b ≡ false → (c : Counts) → r ≡ Ok c → Exit s q m k b r

pub exit : {s q : List ℕ} {m k : Shares} {b b' : Buffers} {r : Result Counts Refusal} → BuildsShare s q m k b r b' → Exit s q m k b r
unfolding build_checks
exit {s} {q} {m} {k} {b} {r = r} B = go (check_shared s q) refl
  where
    room : PassesShared s q → GoodShares b.outs m k → short s b ≡ false → (us : List Tube) (x : Bool)
        → r ≡ cond x (Err (NoRoom (length us) (vertex_sum us) (triangle_sum us))) (Ok (counts_of us)) → Exit s q m k b r
    room p g f us true e = later p g f (NoRoom (length us) (vertex_sum us) (triangle_sum us)) (omega arith, omega arith) e
    room p g f us false e = mesh p g f (counts_of us) e

    many : PassesShared s q → GoodShares b.outs m k → short s b ≡ false → (us : List Tube) (x y : Bool)
        → r ≡ cond x (Err TooManyVertices) (cond y (Err (NoRoom (length us) (vertex_sum us) (triangle_sum us))) (Ok (counts_of us))) → Exit s q m k b r
    many p g f us true y e = later p g f TooManyVertices (omega arith, omega arith) e
    many p g f us false y e = room p g f us y e

    lends : PassesShared s q → GoodShares b.outs m k → (us : List Tube) (w x y : Bool) → short s b ≡ w
        → r ≡ cond w (Err NoScratch) (cond x (Err TooManyVertices) (cond y (Err (NoRoom (length us) (vertex_sum us) (triangle_sum us))) (Ok (counts_of us)))) → Exit s q m k b r
    lends p g us true x y f e = nine p g f e
    lends p g us false x y f e = many p g f us x y e

    shared : PassesShared s q → (us : List Tube) (v : Bool) → bad_shares (sizes_of b.outs) m k ≡ v → r ≡ share_checks (head_of s) us m k (lent b) → Exit s q m k b r
    shared p us true t e = bad p t (e ∙ bad_first (head_of s) us m k (lent b) t)
    shared p us false t e = lends p t us (short s b) (too_many us) (tight (counts_of us) (share_sizes m)) refl (e ∙ good_then (head_of s) us m k (lent b) t)

    go : (c : Result Head Refusal) → check_shared s q ≡ c → Exit s q m k b r
    go (Err x) e = early x e (answer_is B ∙ answer_refused s q m k x e (lent b))
    go (Ok h) e =
        let p = passes_by s q h e in
        shared p (tubes_with s (head_of s) q) (bad_shares (sizes_of b.outs) m k) refl (answer_is B ∙ answer_passed s q m k (head_of s) p (lent b))

-- ---- a refusal

not_mesh : {A : Type 0} {x : Refusal} {c : Counts} → ◌≡◌ {A = Result Counts Refusal} (Err x) (Ok c) → A
not_mesh e = ok_or_not (sym e)

module _ {s q : List ℕ} {m k : Shares} {b b' : Buffers} {x : Refusal} (B : BuildsShare s q m k b (Err x) b') where
  is : (y : Refusal) → ◌≡◌ {A = Result Counts Refusal} (Err x) (Err y) → number_of x ≡ number_of y
  is y e = ap number_of (same_refusal e)

  pub numbers : ((1 ≤ number_of x) × (number_of x ≤ 11)) ⊎ (number_of x ≡ 20)
  numbers = go (exit B)
    where
      go : Exit s q m k b (Err x) → ((1 ≤ number_of x) × (number_of x ≤ 11)) ⊎ (number_of x ≡ 20)
      go (early y e z) = let n = shared_numbered s q y e in inl (omega (arith, n.0, is y z), omega (arith, n.1, is y z))
      go (bad p t z) = inr (is BadShares z)
      go (nine p g f z) = inl (omega (arith, is NoScratch z), omega (arith, is NoScratch z))
      go (later p g f y n z) = inl (omega (arith, n.0, is y z), omega (arith, n.1, is y z))
      go (mesh p g f c z) = not_mesh z

  -- the answer is no mesh, so nothing was written
  pub untouched : b'.outs ≡ b.outs
  untouched = go (check_shared s q) refl
    where
      go : (c : Result Head Refusal) → check_shared s q ≡ c → b'.outs ≡ b.outs
      go (Err y) e = B.outputs ∙ outs_left s q m k y e (lent b) b.outs
      go (Ok h) e =
          let a : share_checks h (tubes_with s h q) m k (lent b) ≡ Err x = sym (answer_is B ∙ answer_passed s q m k h e (lent b)) in
          B.outputs ∙ outs_passed s q m k h e (lent b) b.outs ∙ ap (λ (y : Result Counts Refusal). shared_by y (protein_of s h) (tubes_with s h q) m b.outs) a

  by_scratch : PassesShared s q → share_scratch s q m k (sizes_of b.outs) b.scratch ≡ cond (bad_shares (sizes_of b.outs) m k) b.scratch (scratch_past (head_of s) b.scratch)
  by_scratch p = scratch_passed s q m k (head_of s) p (sizes_of b.outs) b.scratch

  pub kept : (number_of x ≤ 9) ⊎ (number_of x ≡ 20) → b'.scratch ≡ b.scratch
  kept h = B.scratch ∙ go (exit B)
    where
      late : {A : Type 0} (y : Refusal) → (9 < number_of y) × (number_of y ≤ 11) → ◌≡◌ {A = Result Counts Refusal} (Err x) (Err y) → A
      late y l e = let n = is y e in ⊎_elim (λ i. absurd (omega (arith, l.0))) (λ i. absurd (omega (arith, l.1))) h

      go : Exit s q m k b (Err x) → share_scratch s q m k (sizes_of b.outs) b.scratch ≡ b.scratch
      go (early y e z) = scratch_left s q m k y e (sizes_of b.outs) b.scratch
      go (bad p t z) = by_scratch p ∙ ap (λ (y : Bool). cond y b.scratch (scratch_past (head_of s) b.scratch)) t
      go (nine p g f z) =
          by_scratch p ∙ ap (λ (y : Bool). cond y b.scratch (scratch_past (head_of s) b.scratch)) g
          ∙ ap (λ (y : Bool). cond y b.scratch (cleared (head_of s) b.scratch)) f
      go (later p g f y n z) = late y n z
      go (mesh p g f c z) = not_mesh z

  pub emptied : 9 < number_of x → number_of x < 20 → b'.scratch ≡ cleared (head_of s) b.scratch
  emptied h l = B.scratch ∙ go (exit B)
    where
      go : Exit s q m k b (Err x) → share_scratch s q m k (sizes_of b.outs) b.scratch ≡ cleared (head_of s) b.scratch
      go (early y e z) = let n = shared_numbered s q y e in absurd (omega (arith, n.1, is y z))
      go (bad p t z) = absurd (omega (arith, is BadShares z))
      go (nine p g f z) = absurd (omega (arith, is NoScratch z))
      go (later p g f y n z) =
          by_scratch p ∙ ap (λ (y : Bool). cond y b.scratch (scratch_past (head_of s) b.scratch)) g
          ∙ ap (λ (y : Bool). cond y b.scratch (cleared (head_of s) b.scratch)) f
      go (mesh p g f c z) = not_mesh z

-- ---- a mesh was handed out past all checks

module _ {s q : List ℕ} {m k : Shares} {b b' : Buffers} {c : Counts} (B : BuildsShare s q m k b (Ok c) b') where
  pub ready : PassesShared s q × GoodShares b.outs m k × (short s b ≡ false)
  ready = go (exit B)
    where
      go : Exit s q m k b (Ok c) → PassesShared s q × GoodShares b.outs m k × (short s b ≡ false)
      go (early y e z) = ok_or_not z
      go (bad p t z) = ok_or_not z
      go (nine p g f z) = ok_or_not z
      go (later p g f y n z) = ok_or_not z
      go (mesh p g f d z) = (p, g, f)

  pub emptied_after : b'.scratch ≡ cleared (head_of s) b.scratch
  emptied_after =
      B.scratch ∙ scratch_passed s q m k (head_of s) ready.0 (sizes_of b.outs) b.scratch
      ∙ ap (λ (y : Bool). cond y b.scratch (scratch_past (head_of s) b.scratch)) ready.1
      ∙ ap (λ (y : Bool). cond y b.scratch (cleared (head_of s) b.scratch)) ready.2

pub mesh_as_job : {s q : List ℕ} {m k : Shares} {b b' : Buffers} {c : Counts} → AllBytes s → BuildsShare s q m k b (Ok c) b'
    → Builds (with_records s q) (in_share m b) (Ok c) (in_share m b')
mesh_as_job {s} {q} {m} {k} {b} {b'} {c} y B =
    let R = ready B in
    builds_as_job s q m k b b' (Ok c) y (shared_by_lem s q (head_of s) R.0) R.1 B

-- ---- 4 and 20

pub four : {s q : List ℕ} {m k : Shares} {b b' : Buffers} {r : Result Counts Refusal} {h : Head} → sizes s ≡ Ok h → unshared h (length q) ≡ true → BuildsShare s q m k b r b' → r ≡ Err BadSize
four {s} {q} {m} {k} {b} {h = h} e u B = answer_is B ∙ answer_refused s q m k BadSize (shared_unshared s q h e u) (lent b)

pub twenty : {s q : List ℕ} {m k : Shares} {b b' : Buffers} {r : Result Counts Refusal} → PassesShared s q → bad_shares (sizes_of b.outs) m k ≡ true → BuildsShare s q m k b r b' → r ≡ Err BadShares
twenty {s} {q} {m} {k} {b} p t B = answer_is B ∙ answer_passed s q m k (head_of s) p (lent b) ∙ bad_first (head_of s) (tubes_with s (head_of s) q) m k (lent b) t

pub twenty_means : {s q : List ℕ} {m k : Shares} {b b' : Buffers} → BuildsShare s q m k b (Err BadShares) b' → PassesShared s q × (bad_shares (sizes_of b.outs) m k ≡ true)
twenty_means {s} {q} {m} {k} {b} B = go (exit B)
  where
    go : Exit s q m k b (Err BadShares) → PassesShared s q × (bad_shares (sizes_of b.outs) m k ≡ true)
    go (early y e z) = let n = shared_numbered s q y e in absurd (omega (arith, n.1, ap number_of (same_refusal z)))
    go (bad p t z) = (p, t)
    go (nine p g f z) = absurd (omega (arith, ap number_of (same_refusal z)))
    go (later p g f y n z) = absurd (omega (arith, n.1, ap number_of (same_refusal z)))
    go (mesh p g f d z) = not_mesh z

pub means : (o : Outs) (m k : Shares) → GoodShares o m k → Fits m o × Fits k o × Apart m k
means o m k g = good_fits m k o g

pub by : (o : Outs) (m k : Shares) → Fits m o → Fits k o → Apart m k → GoodShares o m k
by o m k f g a = fits_good m k o f g a

pub for_both : (o : Outs) (m k : Shares) → GoodShares o m k → GoodShares o k m
for_both o m k g = bad_sym k m (sizes_of o) ∙ g

-- ---- isolation

lent_at : (o p : Outs) (c d : Scratch) → sizes_of o ≡ sizes_of p → length c.words ≡ length d.words → length c.floats ≡ length d.floats → lent (at o c) ≡ lent (at p d)
lent_at o p c d e w f =
    ap (λ (z : Sizes). record { outs = z; words = length c.words; floats = length c.floats }) e
    ∙ ap (λ (z : ℕ). record { outs = sizes_of p; words = z; floats = length c.floats }) w
    ∙ ap (λ (z : ℕ). record { outs = sizes_of p; words = length d.words; floats = z }) f

pub isolated : {s q : List ℕ} {m k : Shares} {o o₁ o₂ p₁ p₂ : Outs} {c d c' d' : Scratch} {r t : Result Counts Refusal} {b₁ b₂ : Outs}
    → Called k m o o₁ → BuildsShare s q m k (at o₁ c) r (at b₁ c') → Called k m b₁ p₁
    → Called k m o o₂ → BuildsShare s q m k (at o₂ d) t (at b₂ d') → Called k m b₂ p₂
    → length c.words ≡ length d.words → length c.floats ≡ length d.floats → (r ≡ t) × (share_of m p₁ ≡ share_of m p₂)
isolated {m = m} {k = k} {o} {o₁} {o₂} {p₁} {p₂} {c} {d} {b₁ = b₁} {b₂} X₁ B Y₁ X₂ D Y₂ w f =
    let before₁ = called_other k m o o₁ X₁ in
    let before₂ = called_other k m o o₂ X₂ in
    let own = alike B D (lent_at o₁ o₂ c d (before₁.0 ∙ sym before₂.0) w f) (before₁.1 ∙ sym before₂.1) in
    (own.0, (called_other k m b₁ p₁ Y₁).1 ∙ own.1 ∙ sym (called_other k m b₂ p₂ Y₂).1)

-- ---- demands 2 and 3, in the share

module _ {s q : List ℕ} {m k : Shares} {b b' : Buffers} {c : Counts} (y : AllBytes s) (B : BuildsShare s q m k b (Ok c) b') where
  pub holds : HoldsMesh (protein_in (with_records s q)) (tubes_in (with_records s q)) (share_of m b.outs) (share_of m b'.outs)
  holds = base.mesh_holds (mesh_as_job y B)

  pub stands : {i : ℕ} {u : Tube} → TubeAt (tubes_in (with_records s q)) i u
      → TubeStands (protein_in (with_records s q)) u i (vertex_sum (take i (tubes_in (with_records s q)))) (triangle_sum (take i (tubes_in (with_records s q)))) (share_of m b'.outs)
  stands t = base.tube_stands (mesh_as_job y B) t

  pub closed : Sound 0 c.vertices c.triangles (take (3 * c.triangles) (share_of m b'.outs).triangles)
  closed = base.mesh_closed (mesh_as_job y B)

no_shorter : (m n k l : Shares) (b d : Buffers) → NoShorterShares m n → NoLess b.scratch d.scratch → Fits m b.outs → Fits n d.outs → NoShorter (in_share m b) (in_share n d)
no_shorter m n k l b d N w F G =
    let e = sizes_share m b.outs F in
    let f = sizes_share n d.outs G in
    record {
      positions = omega (arith, N.positions, ap (λ (z : Sizes). z.positions) e, ap (λ (z : Sizes). z.positions) f);
      normals = omega (arith, N.normals, ap (λ (z : Sizes). z.normals) e, ap (λ (z : Sizes). z.normals) f);
      tags = omega (arith, N.tags, ap (λ (z : Sizes). z.tags) e, ap (λ (z : Sizes). z.tags) f);
      triangles = omega (arith, N.triangles, ap (λ (z : Sizes). z.triangles) e, ap (λ (z : Sizes). z.triangles) f);
      tubes = omega (arith, N.tubes, ap (λ (z : Sizes). z.tubes) e, ap (λ (z : Sizes). z.tubes) f);
      boxes = omega (arith, N.boxes, ap (λ (z : Sizes). z.boxes) e, ap (λ (z : Sizes). z.boxes) f);
      scratch = w;
    }

pub longer : {s q : List ℕ} {m k n l : Shares} {b b' d d' : Buffers} {c : Counts} {r : Result Counts Refusal} → AllBytes s → BuildsShare s q m k b (Ok c) b' → NoShorterShares m n
    → NoLess b.scratch d.scratch → GoodShares d.outs n l → BuildsShare s q n l d r d' → (r ≡ Ok c) × SameMesh c (share_of m b'.outs) (share_of n d'.outs)
longer {s} {q} {m} {k} {n} {l} {b} {b'} {d} {d'} {c} {r} y B N w g D =
    let R = ready B in
    base.same_mesh (mesh_as_job y B) (no_shorter m n k l b d N w (good_fits m k b.outs R.1).0 (good_fits n l d.outs g).0)
    (builds_as_job s q n l d d' r y (shared_by_lem s q (head_of s) R.0) g D)

module _ {s q : List ℕ} {m k : Shares} {b b' : Buffers} {r : Result Counts Refusal} (y : AllBytes s) (S : Shared s q) (g : GoodShares b.outs m k) (R : Buildable (with_records s q) b.scratch)
    (B : BuildsShare s q m k b r b') where
  J : Builds (with_records s q) (in_share m b) r (in_share m b')
  J = builds_as_job s q m k b b' r y S g B

  pub refused : Shorter (share_of m b.outs) (counts_of (tubes_in (with_records s q)))
      → r ≡ Err (NoRoom (length (tubes_in (with_records s q))) (vertex_sum (tubes_in (with_records s q))) (triangle_sum (tubes_in (with_records s q))))
  refused h = base.refused_for_room R J h

  pub given : RoomFor (share_of m b.outs) (counts_of (tubes_in (with_records s q))) → r ≡ Ok (counts_of (tubes_in (with_records s q)))
  given h = base.only_for_room R J h

-- ---- the plan

pub plan_numbers : {s q : List ℕ} {k : ℕ} {c c' : Scratch} {x : Refusal} → PlansRecords s q k c (Err x) c' → (1 ≤ number_of x) × (number_of x ≤ 10)
unfolding plan_checks
plan_numbers {s} {q} {k} {c} {x = x} P = go (check_shared s q) refl
  where
    told : Err x ≡ records_answer s q k (length c.words) (length c.floats)
    told = planned_told (Err x) _ P.answer

    go : (d : Result Head Refusal) → check_shared s q ≡ d → UpTo 10 x
    go (Err y) e =
        let n = shared_numbered s q y e in
        numbered.told Err (λ _ _. same_refusal) 10 x y (n.0, omega (arith, n.1)) (sym (told ∙ plan_refused s q y e k (length c.words) (length c.floats)))
    go (Ok h) e =
        let us = tubes_with s h q in
        let plan = Ok (with_words (counts_of us) (words_at 0 0 us k)) in
        numbered.passed Err (λ _ _. same_refusal) 10 x (short_scratch h (length c.words) (length c.floats)) NoScratch (cond (too_many us) (Err TooManyVertices) plan) (omega arith, omega arith)
        (λ f. numbered.passed Err (λ _ _. same_refusal) 10 x (too_many us) TooManyVertices plan (omega arith, omega arith) (λ g. ok_or_not g) f)
        (sym (told ∙ records_passed s q h e k (length c.words) (length c.floats)))
