-- Where each field of a job stands: 01, 'Job bytes'. The one place that knows the layout: all else says a field by its name.
use Rattle.std.specs.Prelude.{ℕ, ◌+◌, ◌*◌, ◌≤◌, List, ◌≡◌, length, take, drop}
use Rattle.numbers.specs.Bytes.{u8_at, u16_at, u32_at}
use Rattle.protein.specs.declared.Head.{Head}

-- 'u32: bytes that follow these four. u8 version'
abbrev pub length_field : List ℕ → ℕ
length_field s = u32_at s 0

abbrev pub version_of : List ℕ → ℕ
version_of s = u8_at s 4

-- 'Four u16: chains C, residues R, segments S, atoms A'
abbrev pub head_of : List ℕ → Head
head_of s = record { chains = u16_at s 5; residues = u16_at s 7; segments = u16_at s 9; atoms = u16_at s 11 }

-- 'Then C bytes, visible 1 or hidden 0'
abbrev pub chain_at : ℕ → ℕ
chain_at c = 13 + c

-- 'Then S records of 9 bytes': the part of a job that they are. 02 §5 hands records over by themselves, so what a record says is read from a list of its own
abbrev pub records_of : List ℕ → Head → List ℕ
records_of s h = take (9 * h.segments) (drop (13 + h.chains) s)

-- where they are: 'kind .., u32 start serial, u32 end serial'
abbrev pub kind_at : ℕ → ℕ
kind_at i = 9 * i

abbrev pub start_at : ℕ → ℕ
start_at i = 9 * i + 1

abbrev pub end_at : ℕ → ℕ
end_at i = 9 * i + 5

-- 'Then A records of 33 bytes: u32 serial, role .., u16 residue, u16 chain, x, y, z as f64 bits'
abbrev pub atom_at : Head → ℕ → ℕ
atom_at h a = 13 + h.chains + 9 * h.segments + 33 * a

abbrev pub serial_at : Head → ℕ → ℕ
serial_at h a = atom_at h a

abbrev pub role_at : Head → ℕ → ℕ
role_at h a = atom_at h a + 4

abbrev pub residue_at : Head → ℕ → ℕ
residue_at h a = atom_at h a + 5

abbrev pub chain_of_at : Head → ℕ → ℕ
chain_of_at h a = atom_at h a + 7

abbrev pub x_at : Head → ℕ → ℕ
x_at h a = atom_at h a + 9

abbrev pub y_at : Head → ℕ → ℕ
y_at h a = atom_at h a + 17

abbrev pub z_at : Head → ℕ → ℕ
z_at h a = atom_at h a + 25

-- 'Whole job: 13 + C + 9S + 33A bytes': where an atom after the last would stand
abbrev pub job_size : Head → ℕ
job_size h = atom_at h h.atoms

-- 'For residue or chain, 65535 means none'
abbrev pub none : ℕ
none = 65535

-- what checks 3 and 4 say of a job's counts, and of its size by them
pub record Whole (s : List ℕ) (h : Head) : Type 0 where
  pub head : h ≡ head_of s
  pub size : length s ≡ job_size h
  pub few_chains : h.chains ≤ 255
  pub few_residues : h.residues ≤ 16384
