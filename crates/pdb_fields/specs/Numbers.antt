-- Numbers in a field: an optional minus and digits between blanks; thousandths end in a point and three digits.
use Rattle.std.specs.Prelude.{ℕ, suc, ◌+◌, ◌*◌, ◌-◌, List, [], ◌∷◌, Bool, ◌&&◌, cond, length, take, drop, eqb, leb, Option, Some, None}
use Rattle.pdb_fields.specs.declared.Signed.{Signed}

-- how many bytes in front pass a test
unfoldable pub run : (ℕ → Bool) → List ℕ → ℕ
run t [] = 0
run t (b ∷ l) = cond (t b) (suc (run t l)) 0

-- a blank is byte 32 alone
abbrev pub is_blank : ℕ → Bool
is_blank b = eqb b 32

-- 0 to 9
abbrev pub is_digit : ℕ → Bool
is_digit b = leb 48 b && leb b 57

-- nothing but blanks
abbrev pub blank : List ℕ → Bool
blank l = eqb (run is_blank l) (length l)

-- the number that digits stand for, v standing before them
unfoldable pub decimal : ℕ → List ℕ → ℕ
decimal v [] = v
decimal v (b ∷ l) = decimal (10 * v + (b - 48)) l

-- 1 where the byte b stands in front
abbrev pub lead : ℕ → List ℕ → ℕ
lead b [] = 0
lead b (x ∷ l) = cond (eqb x b) 1 0

-- blanks, a minus or none, d digits, and what follows: handed on
abbrev pub signed_field : (Bool → List ℕ → ℕ → Option Signed) → List ℕ → Option Signed
signed_field f l =
    let s = drop (run is_blank l) l in
    let u = drop (lead 45 s) s in
    cond (eqb (run is_digit u) 0) None (f (eqb (lead 45 s) 1) u (run is_digit u))

-- a whole number: only blanks follow its digits
abbrev pub end_whole : Bool → List ℕ → ℕ → Option Signed
end_whole m u d = cond (blank (drop d u)) (Some (record { minus = m; size = decimal 0 (take d u) })) None

-- a point, three digits, blanks
abbrev pub fraction : List ℕ → Bool
fraction v = eqb (lead 46 v) 1 && (eqb (run is_digit (drop 1 v)) 3 && blank (drop 4 v))

-- a coordinate: its digits are followed by the fraction's, and the point is left out
abbrev pub end_thousandths : Bool → List ℕ → ℕ → Option Signed
end_thousandths m u d =
    cond (fraction (drop d u)) (Some (record { minus = m; size = decimal (decimal 0 (take d u)) (take 3 (drop (d + 1) u)) })) None

-- 02 §1: 'right: an optional minus and digits between blanks'
unfoldable pub whole : List ℕ → Option Signed
whole l = signed_field end_whole l

-- 'coordinates end in a point and three digits', 'Coordinates are whole thousandths'
unfoldable pub thousandths : List ℕ → Option Signed
thousandths l = signed_field end_thousandths l
