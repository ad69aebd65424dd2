-- The ladder of checks, exit by exit: which answer there is, and why. Assumes nothing.
use Prim.Native.Nat.{ℕ, ◌*◌, ◌<◌, ◌≤◌}
use mathlib.Core.Bool.{Bool, true, false}
use mathlib.Core.List.{List}
use mathlib.Core.Logic.{◌⊎◌, inl, inr, ⊎_elim}
use mathlib.Core.Path.{◌≡◌, refl, ◌∙◌, ap}
use native.Mathlib.Omega.{arith}
use lib.ListN.{length}
use lib.Dec.{ltb}
use borrow.Author.Tests.{lt-ltb, le-ltb, ltb-true, ltb-false}
use Rattle.protein.specs.Layout.{head_of}
use Rattle.protein.specs.declared.Head.{Head}
use Rattle.job.specs.Check.{check}
use Rattle.std.specs.Prelude.{Result, Ok, Err}
use Rattle.job.specs.declared.Refusal.{Refusal}
use Rattle.job.specs.declared.Refusal.TheVariants.{NoScratch, TooManyVertices, NoRoom}
use Rattle.job.proofs.Laws.{check_whole}
use Rattle.lists.proofs.Bools.{or_by_left, or_by_rest, or_cases, or_none}
use Rattle.tubes.specs.Tubes.{Tube}
use Rattle.mesh.specs.Mesh.{vertex_sum, triangle_sum}
use Rattle.buffers.specs.Outs.{Outs, sizes_of, tight}
use Rattle.buffers.proofs.Laws.{roomy}
use Rattle.buffers.specs.declared.Counts.{Counts}
use Rattle.room.specs.Room.{Lent, Scratch, Buffers, lent, short_scratch, too_many, cleared, scratch_past}
use Rattle.room.proofs.Laws.{long_words, long_floats}
use Rattle.promises.specs.Calls.{counts_of, build_checks, build_answer, outs_by, outs_after, plan_checks, plan_answer, scratch_after}
use Rattle.promises.specs.Meshes.{protein_in, tubes_in, Passes, Enough, Buildable, Shorter, RoomFor, NoLess, NoShorter}

-- ---- checks 1 to 8

-- a job that they hand counts on of passes them, with its own counts
pub passes_by : (s : List ℕ) (h : Head) → check s ≡ Ok h → Passes s
passes_by s h e = e ∙ ap Ok (check_whole s h e).head

-- a job passes them, or is refused by one
pub passes_or_refused : (s : List ℕ) → Passes s ⊎ ((r : Refusal) × (check s ≡ Err r))
passes_or_refused s = go (check s) refl
  where
    go : (c : Result Head Refusal) → check s ≡ c → Passes s ⊎ ((r : Refusal) × (check s ≡ Err r))
    go (Err r) e = inr (r, e)
    go (Ok h) e = inl (passes_by s h e)

module _ (s : List ℕ) (p : Passes s) where
  pub build_passed : (l : Lent) → build_answer s l ≡ build_checks (head_of s) (tubes_in s) l
  unfolding build_answer
  build_passed l = rw p

  pub outs_passed : (l : Lent) (o : Outs) → outs_after s l o ≡ outs_by (build_checks (head_of s) (tubes_in s) l) (protein_in s) (tubes_in s) o
  unfolding outs_after
  outs_passed l o = rw p

  pub plan_passed : (k words floats : ℕ) → plan_answer s k words floats ≡ plan_checks (head_of s) (tubes_in s) k words floats
  unfolding plan_answer
  plan_passed k words floats = rw p

  pub scratch_passed : (c : Scratch) → scratch_after s c ≡ scratch_past (head_of s) c
  unfolding scratch_after
  scratch_passed c = rw p

module _ (s : List ℕ) {r : Refusal} (e : check s ≡ Err r) where
  pub build_refused : (l : Lent) → build_answer s l ≡ Err r
  unfolding build_answer
  build_refused l = rw e

  pub outs_refused : (l : Lent) (o : Outs) → outs_after s l o ≡ o
  unfolding outs_after
  outs_refused l o = rw e

  pub plan_refused : (k words floats : ℕ) → plan_answer s k words floats ≡ Err r
  unfolding plan_answer
  plan_refused k words floats = rw e

  pub scratch_refused : (c : Scratch) → scratch_after s c ≡ c
  unfolding scratch_after
  scratch_refused c = rw e

-- ---- a mesh, a plan or a job's counts are no refusal

pub ok_or_not : {A X : Type 0} {x : X} {r : Refusal} → ◌≡◌ {A = Result X Refusal} (Ok x) (Err r) → A
ok_or_not e = let z : ◌≡◌ {A = ℕ} 0 1 = cc in absurd (omega arith)

pub same_refusal : {X : Type 0} {q r : Refusal} → ◌≡◌ {A = Result X Refusal} (Err q) (Err r) → q ≡ r
same_refusal e = cc

pub same_ok : {X : Type 0} {x y : X} → ◌≡◌ {A = Result X Refusal} (Ok x) (Ok y) → x ≡ y
same_ok e = cc

-- ---- check 9

pub enough : (s : List ℕ) (c : Scratch) → short_scratch (head_of s) (length c.words) (length c.floats) ≡ false → Enough s c
enough s c e = record { words = long_words (head_of s) _ _ e; floats = long_floats (head_of s) _ _ e }

pub not_short : (s : List ℕ) (c : Scratch) → Enough s c → short_scratch (head_of s) (length c.words) (length c.floats) ≡ false
unfolding short_scratch
not_short s c E = or_none (le-ltb (length c.words) _ E.words) (le-ltb (length c.floats) _ E.floats)

pub enough_more : (s : List ℕ) (c d : Scratch) → NoLess c d → Enough s c → Enough s d
enough_more s c d N E = record { words = omega (arith, N.words, E.words); floats = omega (arith, N.floats, E.floats) }

-- ---- the scratch after either call

pub left : (s : List ℕ) (c : Scratch) {r : Refusal} → check s ≡ Err r → scratch_after s c ≡ c
left s c e = scratch_refused s e c

pub left_at_nine : (s : List ℕ) (c : Scratch) → Passes s → short_scratch (head_of s) (length c.words) (length c.floats) ≡ true → scratch_after s c ≡ c
left_at_nine s c p e = scratch_passed s p c ∙ rw e

pub emptied : (s : List ℕ) (c : Scratch) → Passes s → Enough s c → scratch_after s c ≡ cleared (head_of s) c
emptied s c p E = scratch_passed s p c ∙ rw (not_short s c E)

-- ---- check 10

pub few : (us : List Tube) → too_many us ≡ false → vertex_sum us ≤ 1048576
unfolding too_many
few us e = ltb-false 1048576 (vertex_sum us) e

pub not_many : (us : List Tube) → vertex_sum us ≤ 1048576 → too_many us ≡ false
unfolding too_many
not_many us l = le-ltb 1048576 (vertex_sum us) l

pub many_by : (us : List Tube) → 1048576 < vertex_sum us → too_many us ≡ true
unfolding too_many
many_by us h = lt-ltb 1048576 (vertex_sum us) h

-- ---- check 11

module _ (b : Buffers) (c : Counts) where
  abbrev o : Outs
  o = b.outs

  pub tight_shorter : tight c (sizes_of b.outs) ≡ true → Shorter b.outs c
  unfolding tight
  tight_shorter e =
      ⊎_elim (λ p. inl (ltb-true (length o.positions) (3 * c.vertices) p)) (λ e1. inr (⊎_elim (λ p. inl (ltb-true (length o.normals) (3 * c.vertices) p)) (λ e2.
      inr (⊎_elim (λ p. inl (ltb-true (length o.tags) c.vertices p)) (λ e3. inr (⊎_elim (λ p. inl (ltb-true (length o.triangles) (3 * c.triangles) p)) (λ e4.
      inr (⊎_elim (λ p. inl (ltb-true (length o.tubes) (5 * c.tubes) p)) (λ e5. inr (ltb-true (length o.boxes) (6 * c.tubes) e5))
      (or_cases (ltb (length o.tubes) (5 * c.tubes)) _ e4))) (or_cases (ltb (length o.triangles) (3 * c.triangles)) _ e3)))
      (or_cases (ltb (length o.tags) c.vertices) _ e2))) (or_cases (ltb (length o.normals) (3 * c.vertices)) _ e1)))
      (or_cases (ltb (length o.positions) (3 * c.vertices)) _ e)

  pub shorter_tight : Shorter b.outs c → tight c (sizes_of b.outs) ≡ true
  unfolding tight
  shorter_tight h =
      ⊎_elim (λ p. or_by_left _ _ (lt-ltb (length o.positions) (3 * c.vertices) p)) (λ h1. or_by_rest (ltb (length o.positions) (3 * c.vertices)) _
      (⊎_elim (λ p. or_by_left _ _ (lt-ltb (length o.normals) (3 * c.vertices) p)) (λ h2. or_by_rest (ltb (length o.normals) (3 * c.vertices)) _
      (⊎_elim (λ p. or_by_left _ _ (lt-ltb (length o.tags) c.vertices p)) (λ h3. or_by_rest (ltb (length o.tags) c.vertices) _
      (⊎_elim (λ p. or_by_left _ _ (lt-ltb (length o.triangles) (3 * c.triangles) p)) (λ h4. or_by_rest (ltb (length o.triangles) (3 * c.triangles)) _
      (⊎_elim (λ p. or_by_left _ _ (lt-ltb (length o.tubes) (5 * c.tubes) p)) (λ h5. or_by_rest (ltb (length o.tubes) (5 * c.tubes)) _ (lt-ltb (length o.boxes) (6 * c.tubes) h5)) h4)) h3)) h2)) h1)) h

  pub not_tight : (Shorter b.outs c → ⊥) → tight c (sizes_of b.outs) ≡ false
  not_tight never = go (tight c (sizes_of b.outs)) refl
    where
      go : (x : Bool) → tight c (sizes_of b.outs) ≡ x → tight c (sizes_of b.outs) ≡ false
      go true e = absurd (never (tight_shorter e))
      go false e = e

  -- room is what is not too short
  pub room_is : tight c (sizes_of b.outs) ≡ false → RoomFor b.outs c
  room_is e = roomy c b.outs e

  pub room_not : RoomFor b.outs c → Shorter b.outs c → ⊥
  room_not R =
      ⊎_elim (λ p. omega (arith, R.positions)) (⊎_elim (λ p. omega (arith, R.normals)) (⊎_elim (λ p. omega (arith, R.tags))
      (⊎_elim (λ p. omega (arith, R.triangles)) (⊎_elim (λ p. omega (arith, R.tubes)) (λ p. omega (arith, R.boxes))))))

  pub room_or : RoomFor b.outs c ⊎ Shorter b.outs c
  room_or = go (tight c (sizes_of b.outs)) refl
    where
      go : (x : Bool) → tight c (sizes_of b.outs) ≡ x → RoomFor b.outs c ⊎ Shorter b.outs c
      go true e = inr (tight_shorter e)
      go false e = inl (room_is e)

-- room in some buffers is room in longer ones
pub room_more : (b d : Buffers) (c : Counts) → NoShorter b d → RoomFor b.outs c → RoomFor d.outs c
room_more b d c N R = record {
  positions = omega (arith, N.positions, R.positions);
  normals = omega (arith, N.normals, R.normals);
  tags = omega (arith, N.tags, R.tags);
  triangles = omega (arith, N.triangles, R.triangles);
  tubes = omega (arith, N.tubes, R.tubes);
  boxes = omega (arith, N.boxes, R.boxes);
}

-- ---- build's ladder, downward: each exit

module _ (s : List ℕ) (p : Passes s) (b : Buffers) where
  abbrev us : List Tube
  us = tubes_in s

  abbrev short : Bool
  short = short_scratch (head_of s) (length b.scratch.words) (length b.scratch.floats)

  pub at_nine : short ≡ true → build_answer s (lent b) ≡ Err NoScratch
  unfolding build_checks
  at_nine e = build_passed s p (lent b) ∙ rw e

  pub at_ten : short ≡ false → too_many us ≡ true → build_answer s (lent b) ≡ Err TooManyVertices
  unfolding build_checks
  at_ten e m = build_passed s p (lent b) ∙ rw (e, m)

  pub at_eleven : short ≡ false → too_many us ≡ false → tight (counts_of us) (sizes_of b.outs) ≡ true
      → build_answer s (lent b) ≡ Err (NoRoom (length us) (vertex_sum us) (triangle_sum us))
  unfolding build_checks
  at_eleven e m t = build_passed s p (lent b) ∙ rw (e, m, t)

  pub at_mesh : short ≡ false → too_many us ≡ false → tight (counts_of us) (sizes_of b.outs) ≡ false → build_answer s (lent b) ≡ Ok (counts_of us)
  unfolding build_checks
  at_mesh e m t = build_passed s p (lent b) ∙ rw (e, m, t)

-- which exit was taken, with what was found on the way
pub data Exit (s : List ℕ) (b : Buffers) (r : Result Counts Refusal) : Type 0 where
  early : (q : Refusal) → check s ≡ Err q → r ≡ Err q → Exit s b r
  nine : Passes s → short_scratch (head_of s) (length b.scratch.words) (length b.scratch.floats) ≡ true → r ≡ Err NoScratch → Exit s b r
  ten : Passes s → Enough s b.scratch → 1048576 < vertex_sum (tubes_in s) → r ≡ Err TooManyVertices → Exit s b r
  eleven : Buildable s b.scratch → Shorter b.outs (counts_of (tubes_in s))
      → r ≡ Err (NoRoom (length (tubes_in s)) (vertex_sum (tubes_in s)) (triangle_sum (tubes_in s))) → Exit s b r
  mesh : Buildable s b.scratch → tight (counts_of (tubes_in s)) (sizes_of b.outs) ≡ false → r ≡ Ok (counts_of (tubes_in s)) → Exit s b r

many : (us : List Tube) → too_many us ≡ true → 1048576 < vertex_sum us
unfolding too_many
many us e = ltb-true 1048576 (vertex_sum us) e

pub exit : (s : List ℕ) (b : Buffers) (r : Result Counts Refusal) → r ≡ build_answer s (lent b) → Exit s b r
exit s b r e = ⊎_elim passed (λ q. early q.0 q.1 (e ∙ build_refused s q.1 (lent b))) (passes_or_refused s)
  where
    passed : Passes s → Exit s b r
    passed p = by_nine (short_scratch (head_of s) (length b.scratch.words) (length b.scratch.floats)) refl
      where
        by_eleven : (x : Bool) → tight (counts_of (tubes_in s)) (sizes_of b.outs) ≡ x → short_scratch (head_of s) (length b.scratch.words) (length b.scratch.floats) ≡ false
            → too_many (tubes_in s) ≡ false → Exit s b r
        by_eleven true t f m =
            eleven (record { passes = p; scratch = enough s b.scratch f; limit = few (tubes_in s) m }) (tight_shorter b (counts_of (tubes_in s)) t) (e ∙ at_eleven s p b f m t)
        by_eleven false t f m = mesh (record { passes = p; scratch = enough s b.scratch f; limit = few (tubes_in s) m }) t (e ∙ at_mesh s p b f m t)

        by_ten : (x : Bool) → too_many (tubes_in s) ≡ x → short_scratch (head_of s) (length b.scratch.words) (length b.scratch.floats) ≡ false → Exit s b r
        by_ten true m f = ten p (enough s b.scratch f) (many (tubes_in s) m) (e ∙ at_ten s p b f m)
        by_ten false m f = by_eleven (tight (counts_of (tubes_in s)) (sizes_of b.outs)) refl f m

        by_nine : (x : Bool) → short_scratch (head_of s) (length b.scratch.words) (length b.scratch.floats) ≡ x → Exit s b r
        by_nine true f = nine p f (e ∙ at_nine s p b f)
        by_nine false f = by_ten (too_many (tubes_in s)) refl f
