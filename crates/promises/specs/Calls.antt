-- What the calls build and plan answer, and what they leave in every lent buffer, on every input: the records `Builds` and `Plans` at the end, which
-- the contracts of the two calls cite and the theorems of proofs/Demands are over. This file, with what it cites, is what a user has to believe.
use Rattle.std.specs.Prelude.{ℕ, zero, suc, ◌+◌, List, [], ◌∷◌, ◌++◌, cond, ◌≡◌, length, Result, Ok, Err}
use Rattle.lists.specs.Put.{put}
use Rattle.job.specs.Check.{check}
use Rattle.job.specs.Refusals.{refusal_numbers}
use Rattle.protein.specs.declared.Head.{Head}
use Rattle.promises.specs.declared.Plan.{Plan}
use Rattle.job.specs.declared.Refusal.{Refusal}
use Rattle.job.specs.declared.Refusal.TheVariants.{NoScratch, TooManyVertices, NoRoom}
use Rattle.tubes.specs.Tubes.{Tube}
use Rattle.tubes.specs.List.{tube_list}
use Rattle.protein.specs.Layout.{records_of}
use Rattle.protein.specs.Job.{segments_of}
use Rattle.protein.specs.Protein.{Protein, protein_of}
use Rattle.mesh.specs.Mesh.{first_of, size_of, vertex_sum, triangle_sum, mesh_positions, mesh_normals, mesh_tags, mesh_triangles, mesh_words, mesh_boxes}
use Rattle.edges.specs.Tube.{vertex_count, triangle_count}
use Rattle.buffers.specs.Outs.{Outs, tight}
use Rattle.walk.specs.declared.Five.{Five}
use Rattle.buffers.specs.declared.Counts.{Counts}
use Rattle.room.specs.Room.{Lent, Scratch, Buffers, lent, no_words, short_scratch, too_many, scratch_past}

-- ---- a job's tubes, and their counts

-- 01's list of the tubes of an accepted job, with the segment records q
unfoldable pub tubes_with : List ℕ → Head → List ℕ → List Tube
tubes_with s h q = tube_list (protein_of s h) (segments_of q)

-- and with the job's own
abbrev pub job_tubes : List ℕ → Head → List Tube
job_tubes s h = tubes_with s h (records_of s h)

-- 'For V vertices, T triangles, K tubes'
abbrev pub counts_of : List Tube → Counts
counts_of us = record { tubes = length us; vertices = vertex_sum us; triangles = triangle_sum us }

-- 'tube k's five words, all five 0 if k is K or more', where v vertices and t triangles stand before the list
unfoldable pub words_at : ℕ → ℕ → List Tube → ℕ → Five
words_at v t [] k = no_words
words_at v t (u ∷ us) zero = record { kind = u.kind; first = first_of u; length = size_of u; vertex = v; triangle = t }
words_at v t (u ∷ us) (suc k) = words_at (v + vertex_count (size_of u)) (t + triangle_count (size_of u)) us k

-- ---- the order of checking: checks 1 to 8, and then

-- what is said of a refusal, or, where no check refused, of the job's counts
abbrev pub by_check : {A : Type 0} → Result Head Refusal → (Refusal → A) → (Head → A) → A
by_check (Err r) refused passed = refused r
by_check (Ok h) refused passed = passed h

-- of the first refusal of checks 1 to 8, and where there is none of the job's counts
abbrev pub after_checks : {A : Type 0} → List ℕ → (Refusal → A) → (Head → A) → A
after_checks s refused passed = by_check (check s) refused passed

-- ---- the build call

-- checks 9 to 11, of a job with the counts h and the tubes us
unfoldable pub build_checks : Head → List Tube → Lent → Result Counts Refusal
build_checks h us l =
    cond (short_scratch h l.words l.floats) (Err NoScratch)
    (cond (too_many us) (Err TooManyVertices)
    (cond (tight (counts_of us) l.outs) (Err (NoRoom (length us) (vertex_sum us) (triangle_sum us)))
    (Ok (counts_of us))))

-- the answer of build: of the job's bytes and of what is lent
unfoldable pub build_answer : List ℕ → Lent → Result Counts Refusal
build_answer s l = after_checks s Err (λ h. build_checks h (job_tubes s h) l)

-- the mesh of the tubes us at the front of each buffer; 'Places past what a call writes stay as they were'
unfoldable pub filled : Protein → List Tube → Outs → Outs
filled P us o = record {
  positions = put o.positions 0 (mesh_positions P us);
  normals = put o.normals 0 (mesh_normals P us);
  tags = put o.tags 0 (mesh_tags us);
  triangles = put o.triangles 0 (mesh_triangles 0 us);
  tubes = put o.tubes 0 (mesh_words 0 0 us);
  boxes = put o.boxes 0 (mesh_boxes P us);
}

-- 'No output buffer changes under a refusal'
abbrev pub outs_by : Result Counts Refusal → Protein → List Tube → Outs → Outs
outs_by (Err r) P us o = o
outs_by (Ok c) P us o = filled P us o

-- the final contents of the six output buffers, which held o
unfoldable pub outs_after : List ℕ → Lent → Outs → Outs
outs_after s l o = after_checks s (λ r. o) (λ h. outs_by (build_checks h (job_tubes s h) l) (protein_of s h) (job_tubes s h) o)

-- ---- the plan call

-- a job's counts, and the words of the tube asked for
abbrev pub with_words : Counts → Five → Plan
with_words c f = record { counts = c; words = f }

-- checks 9 and 10
unfoldable pub plan_checks : Head → List Tube → ℕ → ℕ → ℕ → Result Plan Refusal
plan_checks h us k words floats =
    cond (short_scratch h words floats) (Err NoScratch)
    (cond (too_many us) (Err TooManyVertices)
    (Ok (with_words (counts_of us) (words_at 0 0 us k))))

-- the answer of plan: of the job's bytes, the tube number k and the lengths of the scratch
unfoldable pub plan_answer : List ℕ → ℕ → ℕ → ℕ → Result Plan Refusal
plan_answer s k words floats = after_checks s Err (λ h. plan_checks h (job_tubes s h) k words floats)

-- ---- the scratch after either call

-- 'all scratch after a refusal at or before check 9 .. unchanged'; past it the first 8R and the first 32R places are 0
unfoldable pub scratch_after : List ℕ → Scratch → Scratch
scratch_after s c = after_checks s (λ r. c) (λ h. scratch_past h c)

-- ---- each answer's number and values, by the one table of refusals: 'a definition sets out this paper's number and values for each of its cases'

-- a mesh: 0, K, V and T
abbrev pub built_numbers : Result Counts Refusal → List ℕ
built_numbers (Ok c) = 0 ∷ c.tubes ∷ c.vertices ∷ c.triangles ∷ []
built_numbers (Err r) = refusal_numbers r

-- a tube's five words: 'kind .., first residue, residues n, first vertex, first triangle'
abbrev pub five_words : Five → List ℕ
five_words f = f.kind ∷ f.first ∷ f.length ∷ f.vertex ∷ f.triangle ∷ []

-- a plan: 0, K, V, T and tube k's five words
abbrev pub planned_numbers : Result Plan Refusal → List ℕ
planned_numbers (Ok p) = 0 ∷ p.counts.tubes ∷ p.counts.vertices ∷ p.counts.triangles ∷ five_words p.words
planned_numbers (Err r) = refusal_numbers r ++ (0 ∷ 0 ∷ 0 ∷ 0 ∷ 0 ∷ [])

-- ==== THE PROMISES

-- build, of a job's bytes s with the buffers b lent, answers r and leaves the buffers as b'
pub record Builds (s : List ℕ) (b : Buffers) (r : Result Counts Refusal) (b' : Buffers) : Type 0 where
  pub answer : built_numbers r ≡ built_numbers (build_answer s (lent b))
  pub outputs : b'.outs ≡ outs_after s (lent b) b.outs
  pub scratch : b'.scratch ≡ scratch_after s b.scratch

-- plan, of a job's bytes s and a tube number k with the scratch c lent, answers r and leaves the scratch as c'
pub record Plans (s : List ℕ) (k : ℕ) (c : Scratch) (r : Result Plan Refusal) (c' : Scratch) : Type 0 where
  pub answer : planned_numbers r ≡ planned_numbers (plan_answer s k (length c.words) (length c.floats))
  pub scratch : c' ≡ scratch_after s c
