-- The counts of a structure, as a survey has them.
use Rattle.std.specs.Prelude.{ℕ, ◌<◌, ◌≤◌, ◌≡◌, true, false, length}
use Rattle.pdb_survey.specs.declared.FileCounts.{FileCounts}
use Rattle.pdb_job.specs.Structure.{Structure, chains_of, residues_of}

-- the counts c and a number of segments are those of the structure x, or c says that it has too many residues
pub record Counted (x : Structure) (c : FileCounts) (segments : ℕ) : Type 0 where
  pub past : c.more ≡ true → 16384 < residues_of x.atoms
  pub few : c.more ≡ false → residues_of x.atoms ≤ 16384
  pub chains : c.more ≡ false → c.chains ≡ chains_of x.atoms
  pub residues : c.more ≡ false → c.residues ≡ residues_of x.atoms
  pub segments_are : segments ≡ length x.segments
  pub atoms : c.more ≡ false → c.atoms ≡ length x.atoms

-- the counts of the structure x fit the head of a job
pub record Limited (x : Structure) : Type 0 where
  pub chains : chains_of x.atoms ≤ 255
  pub residues : residues_of x.atoms ≤ 16384
  pub segments_are : length x.segments ≤ 65535
  pub atoms : length x.atoms ≤ 65535
