-- A job as a list of bytes: 01, 'Job bytes', from the writer's side. The version and the length of an atom's record are parameters.
use Rattle.std.specs.Prelude.{ℕ, ◌+◌, ◌*◌, List, [], ◌∷◌, ◌++◌, length, replicate}
use Rattle.numbers.specs.Bytes.{u16, u32, u64}
use Rattle.job_writer.specs.declared.JobAtom.{JobAtom}
use Rattle.job_writer.specs.declared.JobSegment.{JobSegment}

-- the records of a list, one after another
unfoldable pub flat {ℓ} : {A : Type ℓ} → (A → List ℕ) → List A → List ℕ
flat f [] = []
flat f (x ∷ l) = f x ++ flat f l

-- 'kind (0 coil, 1 helix, 2 sheet), u32 start serial, u32 end serial'
unfoldable pub segment_bytes : JobSegment → List ℕ
segment_bytes g = (g.kind ∷ []) ++ (u32 g.start ++ u32 g.end)

-- 'x, y, z as f64 bits'
unfoldable pub point : ℕ → ℕ → ℕ → List ℕ
point x y z = u64 x ++ (u64 y ++ u64 z)

-- 'u32 serial, role (0 other, 1 C-alpha, 2 backbone O), u16 residue, u16 chain, x, y, z': 33 bytes
unfoldable pub atom_bytes : JobAtom → List ℕ
atom_bytes a = u32 a.serial ++ ((a.role ∷ []) ++ (u16 a.residue ++ (u16 a.chain ++ point a.x a.y a.z)))

-- 'u32: bytes that follow these four. u8 version .. Four u16: chains C, residues R, segments S, atoms A', with w bytes an atom
unfoldable pub head_bytes : ℕ → ℕ → ℕ → ℕ → ℕ → ℕ → List ℕ
head_bytes version w c r s a = u32 (9 + c + 9 * s + w * a) ++ ((version ∷ []) ++ (u16 c ++ (u16 r ++ (u16 s ++ u16 a))))

-- THE bytes of a job of c chains, r residues, the segments gs and the atoms ats, w bytes each; 'Every chain is visible' (02 §1)
unfoldable pub job_bytes : {A : Type 0} → ℕ → ℕ → (A → List ℕ) → ℕ → ℕ → List JobSegment → List A → List ℕ
job_bytes version w bytes c r gs ats =
    head_bytes version w c r (length gs) (length ats) ++ (replicate c 1 ++ (flat segment_bytes gs ++ flat bytes ats))
