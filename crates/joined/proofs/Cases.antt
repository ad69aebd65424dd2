-- A worked job, its bytes computed from the definition: of one hidden chain, one residue and one atom, with a helix from atom 7 to atom 7 put in. Assumes nothing.
use Prim.Native.Nat.{ℕ}
use mathlib.Core.Path.{◌≡◌, refl}
use mathlib.Core.List.{List, [], ◌∷◌, ◌++◌}
use Rattle.numbers.specs.Bytes.{u16_at, u16, u32}
use Rattle.joined.specs.Joined.{joined_head, with_records}

-- 'u32 serial, role .., u16 residue, u16 chain, x, y, z': atom 7, a C-alpha of residue 0 in chain 0, at the origin
abbrev atom : List ℕ
atom = 0 ∷ 0 ∷ 0 ∷ 7 ∷ 1 ∷ 0 ∷ 0 ∷ 0 ∷ 0 ∷ 0 ∷ 0 ∷ 0 ∷ 0 ∷ 0 ∷ 0 ∷ 0 ∷ 0 ∷ 0 ∷ 0 ∷ 0 ∷ 0 ∷ 0 ∷ 0 ∷ 0 ∷ 0 ∷ 0 ∷ 0 ∷ 0 ∷ 0 ∷ 0 ∷ 0 ∷ 0 ∷ 0 ∷ []

abbrev helix : List ℕ
helix = 1 ∷ 0 ∷ 0 ∷ 0 ∷ 7 ∷ 0 ∷ 0 ∷ 0 ∷ 7 ∷ []

-- 43 bytes follow, then 52; S is 0, then 1
shared : with_records ((0 ∷ 0 ∷ 0 ∷ 43 ∷ 1 ∷ 0 ∷ 1 ∷ 0 ∷ 1 ∷ 0 ∷ 0 ∷ 0 ∷ 1 ∷ 0 ∷ []) ++ atom) helix
    ≡ (0 ∷ 0 ∷ 0 ∷ 52 ∷ 1 ∷ 0 ∷ 1 ∷ 0 ∷ 1 ∷ 0 ∷ 1 ∷ 0 ∷ 1 ∷ 0 ∷ []) ++ (helix ++ atom)
unfolding with_records joined_head u32 u16 u16_at
shared = refl
