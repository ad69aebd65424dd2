-- The counts of a structure, and the parts of its job. Assumes nothing.
use Prim.Native.Nat.{ℕ, ◌+◌, ◌*◌, ◌≤◌}
use mathlib.Core.Bool.{Bool, true, false}
use mathlib.Core.Path.{◌≡◌, refl, sym, ◌∙◌, subst}
use mathlib.Core.List.{List, map}
use native.Mathlib.Omega.{arith}
use lib.ListN.{replicate, length-map}
use Rattle.lists.specs.Put.{put}
use Rattle.job_writer.specs.Job.{flat, segment_bytes, atom_bytes, head_bytes}
use Rattle.job_writer.proofs.Laws.{job_made}
use Rattle.pdb_file.specs.Reading.{letters}
use Rattle.pdb_survey.specs.Tables.{Marks}
use Rattle.pdb_survey.specs.declared.FileCounts.{FileCounts}
use Rattle.pdb_job.specs.Structure.{Structure, chains_of, structure_size, to_segment, to_atom, structure_job}
use Rattle.pdb_job.specs.Counted.{Counted, Limited}

module _ (x : Structure) (c : FileCounts) (g : ℕ) (C : Counted x c g) where
  -- a file within the limits has no more residues than the tables
  pub not_more : Limited x → c.more ≡ false
  not_more L = go c.more refl
    where
      go : (b : Bool) → c.more ≡ b → c.more ≡ false
      go true q = absurd (omega (arith, C.past q, L.residues))
      go false q = q

  module _ (m : c.more ≡ false) where
    pub size_is : 13 + c.chains + 9 * g + 33 * c.atoms ≡ structure_size x
    size_is = rw (C.chains m, C.segments_are, C.atoms m)

    pub marks_are : (marks : List ℕ) → Marks marks c.chains (letters x.atoms) → Marks marks (chains_of x.atoms) (letters x.atoms)
    marks_are marks M = subst (λ (n : ℕ). Marks marks n (letters x.atoms)) (C.chains m) M

    -- the counts are within the limits, and so is every sum of them
    pub within_limits : Limited x → (c.chains ≤ 255) × (g ≤ 65535) × (c.atoms ≤ 65535)
    within_limits L = (omega (arith, C.chains m, L.chains), omega (arith, C.segments_are, L.segments_are), omega (arith, C.atoms m, L.atoms))

    -- ---- the job's four parts
    pub written : (out b₁ b₂ b₄ : List ℕ) → b₁ ≡ put out 0 (head_bytes 1 33 c.chains c.residues g c.atoms) → b₂ ≡ put b₁ 13 (replicate c.chains 1)
        → b₄ ≡ put (put b₂ (13 + c.chains) (flat segment_bytes (map (to_segment x.atoms) x.segments))) (13 + c.chains + 9 * g) (flat atom_bytes (map (to_atom x.atoms) x.atoms)) → b₄ ≡ put out 0 (structure_job x)
    unfolding structure_job
    written out b₁ b₂ b₄ e₁ e₂ e₄ =
        rw (← C.chains m, ← C.residues m)
        (job_made 1 33 atom_bytes c.chains c.residues g c.atoms (map (to_segment x.atoms) x.segments) (map (to_atom x.atoms) x.atoms)
        (C.segments_are ∙ sym (length-map x.segments (to_segment x.atoms))) (C.atoms m ∙ sym (length-map x.atoms (to_atom x.atoms))) out b₁ b₂ _ b₄ e₁ e₂ refl e₄)
