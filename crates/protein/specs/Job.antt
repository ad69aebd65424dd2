-- What a job says, apart from its coordinates, as functions of the number of an atom or a chain, and what segment records say, by the number of a segment. No
-- layout of bytes shows above this file: another version of the bytes is another `job_of`.
use Rattle.std.specs.Prelude.{ℕ, zero, suc, ◌/◌, List, Bool, true, ◌&&◌, eqb, ltb, length}
use Rattle.numbers.specs.Bytes.{u8_at, u16_at, u32_at}
use Rattle.protein.specs.Layout.{chain_at, kind_at, start_at, end_at, serial_at, role_at, residue_at, chain_of_at}
use Rattle.protein.specs.declared.Head.{Head}

-- 02 §5: 'Atoms, residues and chains are one shared job'
pub record Job : Type 0 where
  pub atoms : ℕ
  pub residues : ℕ
  pub visible : ℕ → Bool
  pub serial : ℕ → ℕ
  pub role : ℕ → ℕ
  pub residue : ℕ → ℕ
  pub chain : ℕ → ℕ

-- 01, 'Job bytes': 'visible 1 or hidden 0'; 'u32 serial, role .., u16 residue, u16 chain'. A number from C on is of no chain, so that the job is determined by
-- what it says
abbrev pub job_of : List ℕ → Head → Job
job_of s h = record {
  atoms = h.atoms;
  residues = h.residues;
  visible = λ c. ltb c h.chains && eqb (u8_at s (chain_at c)) 1;
  serial = λ a. u32_at s (serial_at h a);
  role = λ a. u8_at s (role_at h a);
  residue = λ a. u16_at s (residue_at h a);
  chain = λ a. u16_at s (chain_of_at h a);
}

-- 'each party has its own segment records': how many there are, and what each says
pub record Segments : Type 0 where
  pub count : ℕ
  pub kind : ℕ → ℕ
  pub start : ℕ → ℕ
  pub stop : ℕ → ℕ

-- 'records of 9 bytes: kind .., u32 start serial, u32 end serial'
abbrev pub segments_of : List ℕ → Segments
segments_of q = record {
  count = length q / 9;
  kind = λ i. u8_at q (kind_at i);
  start = λ i. u32_at q (start_at i);
  stop = λ i. u32_at q (end_at i);
}

-- 'No chain counts as visible': of one more than a chain, or 0
abbrev pub shown_code : Job → ℕ → Bool
shown_code J zero = true
shown_code J (suc c) = J.visible c
