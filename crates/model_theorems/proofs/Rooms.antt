-- The large room is too short for no job. Assumes nothing.
use Prim.Native.Nat.{ℕ, ◌*◌, ◌<◌, ◌≤◌}
use mathlib.Core.Bool.{true, false}
use mathlib.Core.List.{List, [], ◌∷◌}
use mathlib.Core.Logic.{◌⊎◌, inl, inr, ⊎_elim}
use mathlib.Core.Path.{◌≡◌, sym, ◌∙◌, subst}
use native.Mathlib.Omega.{arith}
use lib.ListN.{length}
use Rattle.edges.proofs.Theorems.{vertex_count_lem}
use Rattle.protein.specs.Layout.{head_of}
use Rattle.job.specs.Refusals.{number_of}
use Rattle.job.specs.declared.Refusal.{Refusal}
use Rattle.job.specs.declared.Refusal.TheVariants.{TooManyVertices}
use Rattle.job.proofs.Laws.{check_whole}
use Rattle.tubes.specs.Tubes.{Tube}
use Rattle.mesh.specs.Mesh.{size_of, vertex_sum}
use Rattle.room.specs.Room.{Buffers}
use Rattle.std.specs.Prelude.{Result, Ok, Err}
use Rattle.buffers.specs.declared.Counts.{Counts}
use Rattle.promises.specs.Calls.{counts_of, Builds}
use Rattle.promises.specs.Meshes.{tubes_in, Passes, Enough, RoomFor}
use Rattle.promises.proofs.Told.{built_is}
use Rattle.promises.proofs.Numbered.{checks_numbered}
use Rattle.promises.proofs.Tubes.{AllLong, list_long_of, long_sums}
use Rattle.promises.proofs.Checks.{Exit, early, nine, ten, eleven, mesh, exit, not_short, room_not, ok_or_not, same_refusal}
use Rattle.promises.proofs.Demands.{past_checks, only_for_room}
use Rattle.pdb_reader.specs.Causes.{Readable, Cause}
use Rattle.pdb_reader.specs.Causes.Cause.{at_12, at_13, at_14, at_15, at_16}
use Rattle.pdb_reader.proofs.Answers.{limited}
use Rattle.pdb_job.specs.Structure.{structure_of}
use Rattle.model_theorems.specs.Large.{LargeRoom, large_job}
use Rattle.std.specs.Prelude.{Err}

-- a tube has two residues or more, and so 74 vertices or more
few_tubes : (us : List Tube) → AllLong us → 74 * length us ≤ vertex_sum us
unfolding vertex_sum
few_tubes [] l = omega arith
few_tubes (u ∷ us) l = let two = l.0 in omega (arith, few_tubes us l.1, vertex_count_lem (size_of u) l.0)

module _ (b : Buffers) (L : LargeRoom b) where
  room_within : (us : List Tube) → AllLong us → vertex_sum us ≤ 1048576 → RoomFor b.outs (counts_of us)
  room_within us l v =
      let k = few_tubes us l in
      let t = (long_sums us l).1 in
      record {
        positions = omega (arith, L.positions);
        normals = omega (arith, L.normals);
        tags = omega (arith, L.tags);
        triangles = omega (arith, L.triangles);
        tubes = omega (arith, L.tubes);
        boxes = omega (arith, L.boxes);
      }

  module _ (s : List ℕ) where
    enough_always : Passes s → Enough s b.scratch
    enough_always p =
        let r = (check_whole s (head_of s) p).few_residues in
        record { words = omega (arith, L.words); floats = omega (arith, L.floats) }

    room_always : vertex_sum (tubes_in s) ≤ 1048576 → RoomFor b.outs (counts_of (tubes_in s))
    room_always v = room_within (tubes_in s) (list_long_of s (head_of s)) v

    pub large_built : {b' : Buffers} {r : Result Counts Refusal} → Passes s → vertex_sum (tubes_in s) ≤ 1048576 → Builds s b r b' → r ≡ Ok (counts_of (tubes_in s))
    large_built p v B = only_for_room (record { passes = p; scratch = enough_always p; limit = v }) B (room_always v)

    -- what is left of the refusals: those of the job itself, and 10
    pub large_refused : {b' : Buffers} {q : Refusal} → Builds s b (Err q) b' → (number_of q ≤ 8) ⊎ ((q ≡ TooManyVertices) × (1048576 < vertex_sum (tubes_in s)))
    large_refused {q = q} B = go (exit s b (Err q) (built_is B))
      where
        go : Exit s b (Err q) → (number_of q ≤ 8) ⊎ ((q ≡ TooManyVertices) × (1048576 < vertex_sum (tubes_in s)))
        go (early x e y) = inl (subst (λ (z : Refusal). number_of z ≤ 8) (sym (same_refusal y)) (checks_numbered s x e).1)
        go (nine p e y) =
            let f : true ≡ false = sym e ∙ not_short s b.scratch (enough_always p) in
            let z : ◌≡◌ {A = ℕ} 0 1 = cc in
            absurd (omega arith)
        go (ten p e m y) = inr (same_refusal y, m)
        go (eleven r h y) = absurd (room_not b (counts_of (tubes_in s)) (room_always r.limit) h)
        go (mesh r t y) = ok_or_not (sym y)

    -- and 10 alone where checks 1 to 8 are passed
    pub large_too_many : {b' : Buffers} {q : Refusal} → Passes s → Builds s b (Err q) b' → (q ≡ TooManyVertices) × (1048576 < vertex_sum (tubes_in s))
    large_too_many p B = ⊎_elim (λ h. absurd (omega (arith, past_checks p B))) (λ m. m) (large_refused B)

-- ---- a job's own bytes

size_most : {s : List ℕ} {n : ℕ} → Readable s n → n ≤ large_job
size_most {s} f =
    let l = limited (structure_of s) f.limits in
    omega (arith, f.size, l.chains, l.segments_are, l.atoms)

pub large_unread : (s : List ℕ) (room : ℕ) (q : Refusal) → large_job ≤ room → Cause s room (Err q) → (12 ≤ number_of q) × (number_of q ≤ 15)
large_unread s room q h (at_12 e) = (omega arith, omega arith)
large_unread s room q h (at_13 e) = (omega arith, omega arith)
large_unread s room q h (at_14 e) = (omega arith, omega arith)
large_unread s room q h (at_15 p) = (omega arith, omega arith)
large_unread s room q h (at_16 c) = absurd (omega (arith, size_most c.file, c.lacks))
