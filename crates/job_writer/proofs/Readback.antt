-- What was written is read back: the fields of `job` on the bytes of a job, for any length of an atom's record. Assumes nothing.
use Prim.Native.Nat.{ℕ, zero, suc, ◌+◌, ◌*◌, ◌%◌, ◌<◌}
use mathlib.Core.Path.{◌≡◌, refl, sym, ◌∙◌, subst}
use mathlib.Core.List.{List, [], ◌∷◌, ◌++◌}
use native.Mathlib.Nat.{mul-suc, mul-zero, zero-add}
use native.Mathlib.Omega.{arith}
use lib.ListN.{length, take, drop, replicate, length-append, length-replicate, get_or-replicate}
use lib.Seq.{take_at, drop_at, drop-drop}
use Rattle.numbers.specs.Bytes.{u8_at, u16_at, u32_at, u64_at, u16, u32, u64}
use Rattle.numbers.proofs.Laws.{len16, len32, len64}
use Rattle.numbers.proofs.Readback.{Holds, holds_all, holds_moved, holds_front, holds_back, byte_back, u16_back, u32_back, u64_back}
use Rattle.job_writer.specs.Job.{flat, segment_bytes, point, atom_bytes, head_bytes, job_bytes}
use Rattle.job_writer.specs.declared.JobAtom.{JobAtom}
use Rattle.job_writer.specs.declared.JobSegment.{JobSegment}
use Rattle.job_writer.proofs.Laws.{wide_segment, length_head, length_flat}

-- ---- records
-- a segment's fields, read where `job` reads them
pub record SegmentRead (s : List ℕ) (i : ℕ) (g : JobSegment) : Type 0 where
  pub kind : u8_at s i ≡ g.kind
  pub start : u32_at s (i + 1) ≡ g.start % 4294967296
  pub end : u32_at s (i + 5) ≡ g.end % 4294967296

pub segment_read : (s : List ℕ) (i : ℕ) (g : JobSegment) → Holds s i (segment_bytes g) → SegmentRead s i g
unfolding segment_bytes
segment_read s i g h =
    let b = holds_back s i (g.kind ∷ []) (u32 g.start ++ u32 g.end) h 1 refl in
    let c = holds_back s (i + 1) (u32 g.start) (u32 g.end) b 4 (len32 g.start) in
    record {
      kind = byte_back s i g.kind (holds_front s i (g.kind ∷ []) (u32 g.start ++ u32 g.end) h);
      start = u32_back s (i + 1) g.start (holds_front s (i + 1) (u32 g.start) (u32 g.end) b);
      end = u32_back s (i + 5) g.end (holds_moved s (i + 1 + 4) (i + 5) (u32 g.end) (omega arith) c);
    }

-- an atom's
pub record AtomRead (s : List ℕ) (i : ℕ) (a : JobAtom) : Type 0 where
  pub serial : u32_at s i ≡ a.serial % 4294967296
  pub role : u8_at s (i + 4) ≡ a.role
  pub residue : u16_at s (i + 5) ≡ a.residue % 65536
  pub chain : u16_at s (i + 7) ≡ a.chain % 65536
  pub x : u64_at s (i + 9) ≡ a.x % 18446744073709551616
  pub y : u64_at s (i + 17) ≡ a.y % 18446744073709551616
  pub z : u64_at s (i + 25) ≡ a.z % 18446744073709551616

pub atom_read : (s : List ℕ) (i : ℕ) (a : JobAtom) → Holds s i (atom_bytes a) → AtomRead s i a
unfolding atom_bytes point
atom_read s i a h =
    let xs = u64 a.x ++ (u64 a.y ++ u64 a.z) in
    let cs = u16 a.chain ++ xs in
    let rs = u16 a.residue ++ cs in
    let b = holds_back s i (u32 a.serial) ((a.role ∷ []) ++ rs) h 4 (len32 a.serial) in
    let c = holds_moved s (i + 4 + 1) (i + 5) rs (omega arith) (holds_back s (i + 4) (a.role ∷ []) rs b 1 refl) in
    let d = holds_moved s (i + 5 + 2) (i + 7) cs (omega arith) (holds_back s (i + 5) (u16 a.residue) cs c 2 (len16 a.residue)) in
    let e = holds_moved s (i + 7 + 2) (i + 9) xs (omega arith) (holds_back s (i + 7) (u16 a.chain) xs d 2 (len16 a.chain)) in
    let f = holds_moved s (i + 9 + 8) (i + 17) (u64 a.y ++ u64 a.z) (omega arith) (holds_back s (i + 9) (u64 a.x) (u64 a.y ++ u64 a.z) e 8 (len64 a.x)) in
    let g = holds_moved s (i + 17 + 8) (i + 25) (u64 a.z) (omega arith) (holds_back s (i + 17) (u64 a.y) (u64 a.z) f 8 (len64 a.y)) in
    record {
      serial = u32_back s i a.serial (holds_front s i (u32 a.serial) ((a.role ∷ []) ++ rs) h);
      role = byte_back s (i + 4) a.role (holds_front s (i + 4) (a.role ∷ []) rs b);
      residue = u16_back s (i + 5) a.residue (holds_front s (i + 5) (u16 a.residue) cs c);
      chain = u16_back s (i + 7) a.chain (holds_front s (i + 7) (u16 a.chain) xs d);
      x = u64_back s (i + 9) a.x (holds_front s (i + 9) (u64 a.x) (u64 a.y ++ u64 a.z) e);
      y = u64_back s (i + 17) a.y (holds_front s (i + 17) (u64 a.y) (u64 a.z) f);
      z = u64_back s (i + 25) a.z g;
    }

-- record k of a list of records
pub holds_record : {A : Type 0} (f : A → List ℕ) (w : ℕ) → ((x : A) → length (f x) ≡ w) → (s : List ℕ) (l : List A) (i k : ℕ) (x : A) (r : List A)
    → drop k l ≡ x ∷ r → Holds s i (flat f l) → Holds s (i + w * k) (f x)
unfolding flat
holds_record f w wide s [] i zero x r e h = absurd (let z : ◌≡◌ {A = ℕ} 0 1 = cc in omega arith)
holds_record f w wide s [] i (suc k) x r e h = absurd (let z : ◌≡◌ {A = ℕ} 0 1 = cc in omega arith)
holds_record f w wide s (y ∷ l) i zero x r e h =
    let q : y ≡ x = cc in
    holds_moved s i (i + w * 0) (f x) (omega (arith, mul-zero w)) (subst (λ (z : _). Holds s i (f z)) q (holds_front s i (f y) (flat f l) h))
holds_record f w wide s (y ∷ l) i (suc k) x r e h =
    holds_moved s (i + w + w * k) (i + w * suc k) (f x) (omega (arith, mul-suc w k)) (holds_record f w wide s l (i + w) k x r e (holds_back s i (f y) (flat f l) h w (wide y)))

-- segment k, in the records of all
pub segment_there : (gs : List JobSegment) (k : ℕ) (g : JobSegment) (t : List JobSegment) → drop k gs ≡ g ∷ t → Holds (flat segment_bytes gs) (9 * k) (segment_bytes g)
segment_there gs k g t e =
    let q = flat segment_bytes gs in
    holds_moved q (0 + 9 * k) (9 * k) (segment_bytes g) (zero-add (9 * k)) (holds_record segment_bytes 9 wide_segment q gs 0 k g t e (holds_all q))

-- ---- the whole job
module _ {A : Type 0} (version w : ℕ) (bytes : A → List ℕ) (wide : (x : A) → length (bytes x) ≡ w) (c r : ℕ) (gs : List JobSegment) (ats : List A) where
  job : List ℕ
  job = job_bytes version w bytes c r gs ats

  records : List ℕ
  records = flat segment_bytes gs ++ flat bytes ats

  pub job_size_lem : length (job_bytes version w bytes c r gs ats) ≡ 13 + c + 9 * length gs + w * length ats
  unfolding job_bytes
  job_size_lem =
      let a = length-append (head_bytes version w c r (length gs) (length ats)) (replicate c 1 ++ (flat segment_bytes gs ++ flat bytes ats)) in
      let b = length-append (replicate c 1) (flat segment_bytes gs ++ flat bytes ats) in
      let d = length-append (flat segment_bytes gs) (flat bytes ats) in
      omega (arith, a, b, d, length_head version w c r (length gs) (length ats), length-replicate {A = ℕ} c 1, length_flat segment_bytes 9 wide_segment gs, length_flat bytes w wide ats)

  holds_head : Holds job 0 (head_bytes version w c r (length gs) (length ats))
  unfolding job_bytes job
  holds_head = holds_front job 0 (head_bytes version w c r (length gs) (length ats)) (replicate c 1 ++ (flat segment_bytes gs ++ flat bytes ats)) (holds_all job)

  holds_chains : Holds job 13 (replicate c 1 ++ (flat segment_bytes gs ++ flat bytes ats))
  unfolding job_bytes job
  holds_chains =
      holds_back job 0 (head_bytes version w c r (length gs) (length ats)) (replicate c 1 ++ (flat segment_bytes gs ++ flat bytes ats)) (holds_all job) 13
      (length_head version w c r (length gs) (length ats))

  holds_records : Holds job (13 + c) (flat segment_bytes gs ++ flat bytes ats)
  holds_records = holds_back job 13 (replicate c 1) (flat segment_bytes gs ++ flat bytes ats) holds_chains c (length-replicate {A = ℕ} c 1)

  -- the head, where `job` reads it
  pub record HeadRead : Type 0 where
    pub following : u32_at (job_bytes version w bytes c r gs ats) 0 ≡ (9 + c + 9 * length gs + w * length ats) % 4294967296
    pub version_is : u8_at (job_bytes version w bytes c r gs ats) 4 ≡ version
    pub chains : u16_at (job_bytes version w bytes c r gs ats) 5 ≡ c % 65536
    pub residues : u16_at (job_bytes version w bytes c r gs ats) 7 ≡ r % 65536
    pub segments : u16_at (job_bytes version w bytes c r gs ats) 9 ≡ length gs % 65536
    pub atoms : u16_at (job_bytes version w bytes c r gs ats) 11 ≡ length ats % 65536

  pub head_read : HeadRead
  unfolding head_bytes job
  head_read =
      let n = 9 + c + 9 * length gs + w * length ats in
      let ss = u16 (length gs) ++ u16 (length ats) in
      let rs = u16 r ++ ss in
      let cs = u16 c ++ rs in
      let b = holds_back job 0 (u32 n) ((version ∷ []) ++ cs) holds_head 4 (len32 n) in
      let d = holds_back job 4 (version ∷ []) cs b 1 refl in
      let e = holds_back job 5 (u16 c) rs d 2 (len16 c) in
      let f = holds_back job 7 (u16 r) ss e 2 (len16 r) in
      let g = holds_back job 9 (u16 (length gs)) (u16 (length ats)) f 2 (len16 (length gs)) in
      record {
        following = u32_back job 0 n (holds_front job 0 (u32 n) ((version ∷ []) ++ cs) holds_head);
        version_is = byte_back job 4 version (holds_front job 4 (version ∷ []) cs b);
        chains = u16_back job 5 c (holds_front job 5 (u16 c) rs d);
        residues = u16_back job 7 r (holds_front job 7 (u16 r) ss e);
        segments = u16_back job 9 (length gs) (holds_front job 9 (u16 (length gs)) (u16 (length ats)) f);
        atoms = u16_back job 11 (length ats) g;
      }

  pub visible_read : (k : ℕ) → k < c → u8_at (job_bytes version w bytes c r gs ats) (13 + k) ≡ 1
  unfolding job
  visible_read k h =
      (holds_front job 13 (replicate c 1) (flat segment_bytes gs ++ flat bytes ats) holds_chains).at k (subst (λ (n : ℕ). k < n) (sym (length-replicate {A = ℕ} c 1)) h)
      ∙ get_or-replicate {A = ℕ} c k 1 0 h

  -- its segment records, the part of it that a reader of records is handed
  pub records_are : take (9 * length gs) (drop (13 + c) (job_bytes version w bytes c r gs ats)) ≡ flat segment_bytes gs
  unfolding job_bytes
  records_are =
      let front = drop_at (head_bytes version w c r (length gs) (length ats)) (replicate c 1 ++ (flat segment_bytes gs ++ flat bytes ats)) 13 (length_head version w c r (length gs) (length ats)) in
      let chains = drop_at (replicate c 1) (flat segment_bytes gs ++ flat bytes ats) c (length-replicate {A = ℕ} c 1) in
      rw (← drop-drop c 13, front, chains) (take_at (flat segment_bytes gs) (flat bytes ats) (9 * length gs) (length_flat segment_bytes 9 wide_segment gs))

  pub atom_there : (k : ℕ) (a : A) (t : List A) → drop k ats ≡ a ∷ t → Holds (job_bytes version w bytes c r gs ats) (13 + c + 9 * length gs + w * k) (bytes a)
  unfolding job
  atom_there k a t e =
      holds_record bytes w wide job ats (13 + c + 9 * length gs) k a t e
      (holds_back job (13 + c) (flat segment_bytes gs) (flat bytes ats) holds_records (9 * length gs) (length_flat segment_bytes 9 wide_segment gs))
