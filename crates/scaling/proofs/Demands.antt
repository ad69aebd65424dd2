-- WHAT A CUSTOMER MAY RELY ON of `--scale MM`, as theorems over specs/Scale. Assumes nothing.
use Prim.Native.Nat.{ℕ, ◌+◌, ◌*◌, ◌-◌, ◌^◌, ◌≤◌}
use mathlib.Core.List.{List, [], ◌∷◌, ◌++◌}
use mathlib.Core.Logic.{◌⊎◌}
use mathlib.Core.Path.{◌≡◌, refl}
use lib.Dec.{T}
use lib.Ieee.{Float, nan, binary32, round, of_bits, mul, fits}
use lib.ListN.{length, get_or, take, drop}
use Rattle.buffers.specs.declared.Counts.{Counts}
use Rattle.buffers.specs.Outs.{Outs}
use Rattle.consistency.specs.Consistent.{consistent}
use Rattle.pdb_fields.specs.Numbers.{run, decimal}
use Rattle.std.specs.Prelude.{Some, None}
use Rattle.scaling.specs.Scale.{front, thousandths, within, factor_in, factor, scaled, scaled_mesh}
use Rattle.scaling.specs.Written.{Digital, Pointed}
use Rattle.scaling.proofs.Laws.{good_within, scaled_length, scaled_place, scaled_one, same_consistency}
use Rattle.scaling.proofs.Written.{whole_taken, point_taken, only_so}

-- ==== What is scaled

-- every coordinate, and once: coordinate i is what it was times k, rounded once; there are as many as there were
pub scaled_at : (k : Float) (l : List Float)
    → (length (scaled k l) ≡ length l) × ((i : ℕ) → get_or (scaled k l) i nan ≡ mul binary32 (get_or l i nan) k)
scaled_at k l = (scaled_length k l, scaled_place k l)

-- a mesh that was consistent is so at every scale, so write_stl takes it as it took it before; and no other becomes so
pub scaled_consistent : (p d : ℕ) (k : Float) (o : Outs) (c : Counts)
    → consistent p d (scaled_mesh k o) c ≡ consistent p d o c
scaled_consistent = same_consistency

-- at a millimetre for an angstrom every f32 stays what it was, a NaN a NaN
pub scaled_by_one : (l : List Float) → ((i : ℕ) → T (fits binary32 (get_or l i nan))) → scaled (factor 1000) l ≡ l
scaled_by_one = scaled_one

-- ==== What is taken

-- one to four digits say their number of millimetres, where it is from 0.001 to 1000
pub takes_whole : (a : List ℕ) → Digital 4 a → factor_in a ≡ within (decimal 0 a * 1000)
takes_whole = whole_taken

-- and with a point and one to three digits behind them, the number that all the digits say, by their places
pub takes_pointed : (a b : List ℕ) → Digital 4 a → Digital 3 b
    → factor_in (a ++ 46 ∷ b) ≡ within (decimal (decimal 0 a) b * 10 ^ (3 - length b))
takes_pointed = point_taken

-- nothing that is written in another way is taken
pub takes_only : (l : List ℕ) (m : ℕ) → factor_in l ≡ Some m
    → Digital 4 l ⊎ Pointed l (take (front l) l) (drop (front l + 1) l)
takes_only = only_so

-- what was taken is 0.001 to 1000
pub factor_means : (l : List ℕ) (m : ℕ) → factor_in l ≡ Some m → (1 ≤ m) × (m ≤ 1000000)
factor_means = good_within

-- '1', '0.5' and '2.5', and the f32 that each is: 1.0, 0.5 and 2.5 exactly
pub takes_one : (factor_in (49 ∷ []) ≡ Some 1000) × (factor 1000 ≡ of_bits binary32 0x3f800000)
unfolding factor_in thousandths run decimal factor round of_bits
takes_one = (refl, refl)

pub takes_half : (factor_in (48 ∷ 46 ∷ 53 ∷ []) ≡ Some 500) × (factor 500 ≡ of_bits binary32 0x3f000000)
unfolding factor_in thousandths run decimal factor round of_bits
takes_half = (refl, refl)

pub takes_more : (factor_in (50 ∷ 46 ∷ 53 ∷ []) ≡ Some 2500) × (factor 2500 ≡ of_bits binary32 0x40200000)
unfolding factor_in thousandths run decimal factor round of_bits
takes_more = (refl, refl)

-- the ends of the range: '0.001', '1000' and '1000.000'
pub takes_least : factor_in (48 ∷ 46 ∷ 48 ∷ 48 ∷ 49 ∷ []) ≡ Some 1
unfolding factor_in thousandths run decimal
takes_least = refl

pub takes_most : (factor_in (49 ∷ 48 ∷ 48 ∷ 48 ∷ []) ≡ Some 1000000)
    × (factor_in (49 ∷ 48 ∷ 48 ∷ 48 ∷ 46 ∷ 48 ∷ 48 ∷ 48 ∷ []) ≡ Some 1000000)
unfolding factor_in thousandths run decimal
takes_most = (refl, refl)

-- ==== What is not: '0' and '1000.001' are past the ends, '0.0004' has four digits behind its point
pub refuses_past : (factor_in (48 ∷ []) ≡ None) × (factor_in (49 ∷ 48 ∷ 48 ∷ 48 ∷ 46 ∷ 48 ∷ 48 ∷ 49 ∷ []) ≡ None)
    × (factor_in (48 ∷ 46 ∷ 48 ∷ 48 ∷ 48 ∷ 52 ∷ []) ≡ None)
unfolding factor_in thousandths run decimal
refuses_past = (refl, refl, refl)

-- nothing at all, '.', '1.', '.5', '+1', '-1' and ' 1'
pub refuses_form : (factor_in [] ≡ None) × (factor_in (46 ∷ []) ≡ None) × (factor_in (49 ∷ 46 ∷ []) ≡ None)
    × (factor_in (46 ∷ 53 ∷ []) ≡ None) × (factor_in (43 ∷ 49 ∷ []) ≡ None) × (factor_in (45 ∷ 49 ∷ []) ≡ None)
    × (factor_in (32 ∷ 49 ∷ []) ≡ None)
unfolding factor_in thousandths run decimal
refuses_form = (refl, refl, refl, refl, refl, refl, refl)
