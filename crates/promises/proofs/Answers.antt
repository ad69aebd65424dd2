-- What follows from a promise, by the exit that was taken. Assumes nothing.
use Prim.Native.Nat.{ℕ, ◌<◌, ◌≤◌}
use mathlib.Core.Bool.{Bool, true, false}
use mathlib.Core.List.{List}
use mathlib.Core.Logic.{⊎_elim}
use mathlib.Core.Path.{◌≡◌, refl, sym, ◌∙◌, ap, subst}
use native.Mathlib.Omega.{arith}
use lib.ListN.{length}
use Rattle.protein.specs.Layout.{head_of}
use Rattle.job.specs.Refusals.{number_of}
use Rattle.job.specs.declared.Refusal.{Refusal}
use Rattle.job.specs.declared.Refusal.TheVariants.{NoScratch, TooManyVertices, NoRoom}
use Rattle.mesh.specs.Mesh.{vertex_sum, triangle_sum}
use Rattle.buffers.specs.declared.Counts.{Counts}
use Rattle.room.specs.Room.{Buffers, lent, short_scratch, cleared}
use Rattle.room.proofs.Laws.{buffers_same}
use Rattle.std.specs.Prelude.{Result, Ok, Err}
use Rattle.promises.specs.Calls.{counts_of, build_checks, build_answer, filled, outs_by, scratch_after, Builds}
use Rattle.promises.specs.Meshes.{protein_in, tubes_in, Passes, Enough, Buildable, Shorter, NoShorter, RoomFor, HoldsMesh, SameMesh}
use Rattle.promises.proofs.Told.{built_is}
use Rattle.promises.proofs.Numbered.{UpTo, checks_numbered}
use Rattle.promises.proofs.Tubes.{list_long_of}
use Rattle.promises.proofs.Checks.{passes_or_refused, build_passed, outs_passed, outs_refused, ok_or_not, same_refusal, same_ok, enough, not_short, enough_more, not_many, shorter_tight, not_tight, at_nine, at_eleven, at_mesh, left, left_at_nine, emptied, Exit, early, nine, ten, eleven, mesh, exit, room_is, room_not, room_more, at_ten, many_by}
use Rattle.promises.proofs.Parts.{holds, fronts}

-- ---- one result

pub one : {s : List ℕ} {b b' b'' : Buffers} {r q : Result Counts Refusal} → Builds s b r b' → Builds s b q b'' → (r ≡ q) × (b' ≡ b'')
one {b' = b'} {b'' = b''} B C = (built_is B ∙ sym (built_is C), buffers_same b' b'' (B.outputs ∙ sym C.outputs) (B.scratch ∙ sym C.scratch))

-- ---- a mesh

-- what is known where build answers a mesh
pub record Meshed (s : List ℕ) (b : Buffers) (c : Counts) (b' : Buffers) : Type 0 where
  pub ready : Buildable s b.scratch
  pub room : RoomFor b.outs (counts_of (tubes_in s))
  pub counts : c ≡ counts_of (tubes_in s)
  pub holds : HoldsMesh (protein_in s) (tubes_in s) b.outs b'.outs

written : (s : List ℕ) (b b' : Buffers) (c : Counts) → Builds s b (Ok c) b' → Passes s → b'.outs ≡ filled (protein_in s) (tubes_in s) b.outs
written s b b' c B p =
    let e : build_checks (head_of s) (tubes_in s) (lent b) ≡ Ok c = sym (built_is B ∙ build_passed s p (lent b)) in
    B.outputs ∙ outs_passed s p (lent b) b.outs ∙ ap (λ (x : Result Counts Refusal). outs_by x (protein_in s) (tubes_in s) b.outs) e

pub meshed : (s : List ℕ) (b b' : Buffers) (c : Counts) → Builds s b (Ok c) b' → Meshed s b c b'
meshed s b b' c B = go (exit s b (Ok c) (built_is B))
  where
    go : Exit s b (Ok c) → Meshed s b c b'
    go (early q e x) = ok_or_not x
    go (nine p e x) = ok_or_not x
    go (ten p e m x) = ok_or_not x
    go (eleven r e x) = ok_or_not x
    go (mesh r t x) = record {
      ready = r;
      room = room_is b (counts_of (tubes_in s)) t;
      counts = same_ok x;
      holds = subst (HoldsMesh (protein_in s) (tubes_in s) b.outs) (sym (written s b b' c B r.passes)) (holds (protein_in s) (tubes_in s) b (list_long_of s (head_of s)) t);
    }

-- where a job can be built and there is room, it is
pub built : (s : List ℕ) (b : Buffers) → Buildable s b.scratch → RoomFor b.outs (counts_of (tubes_in s)) → build_answer s (lent b) ≡ Ok (counts_of (tubes_in s))
built s b R room =
    at_mesh s R.passes b (not_short s b.scratch R.scratch) (not_many (tubes_in s) R.limit)
    (not_tight b (counts_of (tubes_in s)) (room_not b (counts_of (tubes_in s)) room))

-- and where there is none, it is refused for room
pub unbuilt : (s : List ℕ) (b : Buffers) → Buildable s b.scratch → Shorter b.outs (counts_of (tubes_in s))
    → build_answer s (lent b) ≡ Err (NoRoom (length (tubes_in s)) (vertex_sum (tubes_in s)) (triangle_sum (tubes_in s)))
unbuilt s b R h = at_eleven s R.passes b (not_short s b.scratch R.scratch) (not_many (tubes_in s) R.limit) (shorter_tight b (counts_of (tubes_in s)) h)

pub longer : (s : List ℕ) (b b' d d' : Buffers) (c : Counts) (r : Result Counts Refusal) → Builds s b (Ok c) b' → NoShorter b d → Builds s d r d' → (r ≡ Ok c) × SameMesh c b'.outs d'.outs
longer s b b' d d' c r B N D =
    let M = meshed s b b' c B in
    let R : Buildable s d.scratch = record { passes = M.ready.passes; scratch = enough_more s b.scratch d.scratch N.scratch M.ready.scratch; limit = M.ready.limit } in
    let e : r ≡ Ok c = built_is D ∙ built s d R (room_more b d (counts_of (tubes_in s)) N M.room) ∙ ap Ok (sym M.counts) in
    let O = meshed s d d' c (subst (λ (x : Result Counts Refusal). Builds s d x d') e D) in (
      e,
      subst (λ (x : Counts). SameMesh x b'.outs d'.outs) (sym M.counts)
          (fronts (protein_in s) (tubes_in s) b.outs b'.outs d.outs d'.outs (list_long_of s (head_of s)) M.holds O.holds),
    )

-- ---- a refusal

pub untouched : (s : List ℕ) (b b' : Buffers) (q : Refusal) → Builds s b (Err q) b' → b'.outs ≡ b.outs
untouched s b b' q B = ⊎_elim passed (λ e. B.outputs ∙ outs_refused s e.1 (lent b) b.outs) (passes_or_refused s)
  where
    passed : Passes s → b'.outs ≡ b.outs
    passed p =
        let e : build_checks (head_of s) (tubes_in s) (lent b) ≡ Err q = sym (built_is B ∙ build_passed s p (lent b)) in
        B.outputs ∙ outs_passed s p (lent b) b.outs ∙ ap (λ (x : Result Counts Refusal). outs_by x (protein_in s) (tubes_in s) b.outs) e

pub numbers : (s : List ℕ) (b b' : Buffers) (q : Refusal) → Builds s b (Err q) b' → (1 ≤ number_of q) × (number_of q ≤ 11)
numbers s b b' q B = go (exit s b (Err q) (built_is B))
  where
    is : (x : Refusal) → UpTo 11 x → ◌≡◌ {A = Result Counts Refusal} (Err q) (Err x) → UpTo 11 q
    is x h e = subst (UpTo 11) (sym (same_refusal e)) h

    go : Exit s b (Err q) → UpTo 11 q
    go (early x e y) = let z = checks_numbered s x e in is x (z.0, omega (arith, z.1)) y
    go (nine p e y) = is NoScratch (omega arith, omega arith) y
    go (ten p e m y) = is TooManyVertices (omega arith, omega arith) y
    go (eleven r e y) = is (NoRoom _ _ _) (omega arith, omega arith) y
    go (mesh r t y) = ok_or_not (sym y)

-- refusal 11 means what it says
pub for_room : (s : List ℕ) (b b' : Buffers) (k v t : ℕ) → Builds s b (Err (NoRoom k v t)) b'
    → Buildable s b.scratch × ((k ≡ length (tubes_in s)) × (v ≡ vertex_sum (tubes_in s)) × (t ≡ triangle_sum (tubes_in s))) × Shorter b.outs (counts_of (tubes_in s))
for_room s b b' k v t B = go (exit s b (Err (NoRoom k v t)) (built_is B))
  where
    other : {A : Type 0} (x : Refusal) → number_of x < 11 → ◌≡◌ {A = Result Counts Refusal} (Err (NoRoom k v t)) (Err x) → A
    other x h e = absurd (omega (arith, ap number_of (same_refusal e)))

    go : Exit s b (Err (NoRoom k v t))
        → Buildable s b.scratch × ((k ≡ length (tubes_in s)) × (v ≡ vertex_sum (tubes_in s)) × (t ≡ triangle_sum (tubes_in s))) × Shorter b.outs (counts_of (tubes_in s))
    go (early x e y) = other x (omega (arith, (checks_numbered s x e).1)) y
    go (nine p e y) = other NoScratch (omega arith) y
    go (ten p e m y) = other TooManyVertices (omega arith) y
    go (eleven r h y) =
        let z : NoRoom k v t ≡ NoRoom (length (tubes_in s)) (vertex_sum (tubes_in s)) (triangle_sum (tubes_in s)) = same_refusal y in
        (r, (cc, cc, cc), h)
    go (mesh r e y) = ok_or_not (sym y)

-- ---- by the refusal's number

module _ (s : List ℕ) (b b' : Buffers) (q : Refusal) (B : Builds s b (Err q) b') where
  pub leaves : number_of q ≤ 9 → b'.scratch ≡ b.scratch
  leaves h = B.scratch ∙ go (exit s b (Err q) (built_is B))
    where
      late : {A : Type 0} (x : Refusal) → 9 < number_of x → ◌≡◌ {A = Result Counts Refusal} (Err q) (Err x) → A
      late x l e = absurd (omega (arith, ap number_of (same_refusal e)))

      go : Exit s b (Err q) → scratch_after s b.scratch ≡ b.scratch
      go (early x e y) = left s b.scratch e
      go (nine p e y) = left_at_nine s b.scratch p e
      go (ten p e m y) = late TooManyVertices (omega arith) y
      go (eleven r e y) = late (NoRoom _ _ _) (omega arith) y
      go (mesh r t y) = ok_or_not (sym y)

  pub empties : 9 < number_of q → b'.scratch ≡ cleared (head_of s) b.scratch
  empties h = B.scratch ∙ go (exit s b (Err q) (built_is B))
    where
      soon : {A : Type 0} (x : Refusal) → number_of x ≤ 9 → ◌≡◌ {A = Result Counts Refusal} (Err q) (Err x) → A
      soon x l e = absurd (omega (arith, ap number_of (same_refusal e)))

      go : Exit s b (Err q) → scratch_after s b.scratch ≡ cleared (head_of s) b.scratch
      go (early x e y) = soon x (omega (arith, (checks_numbered s x e).1)) y
      go (nine p e y) = soon NoScratch (omega arith) y
      go (ten p e m y) = emptied s b.scratch p e
      go (eleven r e y) = emptied s b.scratch r.passes r.scratch
      go (mesh r t y) = ok_or_not (sym y)

pub empties_after : (s : List ℕ) (b b' : Buffers) (c : Counts) → Builds s b (Ok c) b' → b'.scratch ≡ cleared (head_of s) b.scratch
empties_after s b b' c B = let R = (meshed s b b' c B).ready in B.scratch ∙ emptied s b.scratch R.passes R.scratch

-- ---- from the hypotheses to the answer

pub refused : (s : List ℕ) (b b' : Buffers) (r : Result Counts Refusal) → Buildable s b.scratch → Builds s b r b' → Shorter b.outs (counts_of (tubes_in s))
    → r ≡ Err (NoRoom (length (tubes_in s)) (vertex_sum (tubes_in s)) (triangle_sum (tubes_in s)))
refused s b b' r R B h = built_is B ∙ unbuilt s b R h

pub given : (s : List ℕ) (b b' : Buffers) (r : Result Counts Refusal) → Buildable s b.scratch → Builds s b r b' → RoomFor b.outs (counts_of (tubes_in s))
    → r ≡ Ok (counts_of (tubes_in s))
given s b b' r R B room = built_is B ∙ built s b R room

pub too_many : (s : List ℕ) (b b' : Buffers) (r : Result Counts Refusal) → Passes s → Enough s b.scratch → 1048576 < vertex_sum (tubes_in s) → Builds s b r b'
    → r ≡ Err TooManyVertices
too_many s b b' r p E h B = built_is B ∙ at_ten s p b (not_short s b.scratch E) (many_by (tubes_in s) h)

-- a job that passes checks 1 to 8 is refused by a later one
pub late : (s : List ℕ) (b b' : Buffers) (q : Refusal) → Passes s → Builds s b (Err q) b' → 9 ≤ number_of q
late s b b' q p B = go (exit s b (Err q) (built_is B))
  where
    is : (x : Refusal) → 9 ≤ number_of x → ◌≡◌ {A = Result Counts Refusal} (Err q) (Err x) → 9 ≤ number_of q
    is x h e = subst (λ (y : Refusal). 9 ≤ number_of y) (sym (same_refusal e)) h

    go : Exit s b (Err q) → 9 ≤ number_of q
    go (early x e y) = ok_or_not (sym p ∙ e)
    go (nine p e y) = is NoScratch (omega arith) y
    go (ten p e m y) = is TooManyVertices (omega arith) y
    go (eleven r e y) = is (NoRoom _ _ _) (omega arith) y
    go (mesh r t y) = ok_or_not (sym y)

pub short : (s : List ℕ) (b b' : Buffers) (r : Result Counts Refusal) → Passes s → (Enough s b.scratch → ⊥) → Builds s b r b' → r ≡ Err NoScratch
short s b b' r p never B = go (short_scratch (head_of s) (length b.scratch.words) (length b.scratch.floats)) refl
  where
    go : (x : Bool) → short_scratch (head_of s) (length b.scratch.words) (length b.scratch.floats) ≡ x → r ≡ Err NoScratch
    go true e = built_is B ∙ at_nine s p b e
    go false e = absurd (never (enough s b.scratch e))
