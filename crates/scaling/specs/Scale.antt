-- The size of a model: how many millimetres an angstrom becomes, how a user writes that, and what it does to coordinates.
use Rattle.std.specs.Prelude.{ℕ, ◌+◌, ◌*◌, ◌-◌, ◌^◌, Bool, false, ◌&&◌, cond, List, map, eqb, leb, Float, length, take, drop, Option, Some, None}
use Rattle.std.specs.Float.{binary32}
use Rattle.std.specs.Float.Ieee.{round, mul}
use Rattle.buffers.specs.Outs.{Outs, outs}
use Rattle.pdb_fields.specs.Numbers.{run, is_digit, decimal, lead}

-- ---- as it is written

-- how many digits stand in front, how many points behind them (1 or 0), and how many digits behind those
abbrev pub front : List ℕ → ℕ
front l = run is_digit l

abbrev pub point : List ℕ → ℕ
point l = lead 46 (drop (front l) l)

abbrev pub back : List ℕ → ℕ
back l = run is_digit (drop (front l + point l) l)

-- 'one to four digits and, if wanted, a point with one to three digits behind it': d digits, p points and e digits (no point: no digit behind it; a point:
-- one to three), and no other of n bytes
abbrev pub formed : ℕ → ℕ → ℕ → ℕ → Bool
formed d p e n = leb 1 d && (leb d 4 && (leb p e && (leb e (3 * p) && eqb (d + p + e) n)))

-- the number, in thousandths: all its digits as one number, and a nought for each digit that is wanting behind the point
unfoldable pub thousandths : List ℕ → ℕ
thousandths l = decimal (decimal 0 (take (front l) l)) (take (back l) (drop (front l + point l) l)) * 10 ^ (3 - back l)

-- 'from 0.001 to 1000'
abbrev pub within : ℕ → Option ℕ
within m = cond (leb 1 m && leb m 1000000) (Some m) None

-- THE definition: what a user's scale says, in thousandths of a millimetre for an angstrom; all else is None
unfoldable pub factor_in : List ℕ → Option ℕ
factor_in l = cond (formed (front l) (point l) (back l) (length l)) (within (thousandths l)) None

-- ---- what it does

-- the f32 nearest to m / 1000; `round` is IEEE 754's one rounding of the exact fraction
unfoldable pub factor : ℕ → Float
factor m = round binary32 false m 1000

-- each coordinate times k, in f32: one multiplication, which rounds once
unfoldable pub scaled : Float → List Float → List Float
scaled k l = map (λ (x : Float). mul binary32 x k) l

-- a mesh with its positions scaled, and all else as it was
abbrev pub scaled_mesh : Float → Outs → Outs
scaled_mesh k o = outs (scaled k o.positions) o.normals o.tags o.triangles o.tubes o.boxes
