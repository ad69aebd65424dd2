-- All that a mesh is a function of: what a job says, and where its atoms stand.
use Rattle.std.specs.Prelude.{ℕ, List}
use Rattle.protein.specs.declared.Head.{Head}
use Rattle.vectors.specs.declared.Vec3.{Vec3}
use Rattle.protein.specs.Job.{Job, job_of}
use Rattle.protein.specs.Places.{place_of}

pub record Protein : Type 0 where
  pub job : Job
  pub place : ℕ → Vec3

-- of the bytes of a job with the counts h
abbrev pub protein_of : List ℕ → Head → Protein
protein_of s h = record { job = job_of s h; place = place_of s h }
