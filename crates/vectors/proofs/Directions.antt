-- What has no direction is normalised to the zero vector, and what has one, to that; and there is none exactly where the length is 0. Assumes nothing.
use Rattle.std.specs.Prelude.{Option, Some, None, unwrap_or}
use mathlib.Core.Path.{◌≡◌, refl, sym, ap}
use mathlib.Core.Bool.{Bool, true, false, cond, true≢false, false≢true}
use lib.Ieee.{Float, eq}
use Rattle.vectors.specs.declared.Vec3.{Vec3}
use Rattle.vectors.specs.Vec.{vscale, vlength, vzero, lit, one, f/, direction_by, direction_of, normalised_by, normalised}

pub normalised_by_is : (a : Vec3) (l : Float) → normalised_by a l ≡ unwrap_or (direction_by a l) vzero
normalised_by_is a l = go (eq l (lit 0))
  where
    go : (b : Bool) → cond b vzero (vscale a (f/ one l)) ≡ unwrap_or (cond b None (Some (vscale a (f/ one l)))) vzero
    go true = refl
    go false = refl

pub normalised_is : (a : Vec3) → normalised a ≡ unwrap_or (direction_of a) vzero
unfolding normalised direction_of
normalised_is a = normalised_by_is a (vlength a)

-- ---- which of the two it is

points : Option Vec3 → Bool
points (Some v) = true
points None = false

-- a vector with a direction: its length is not 0, and the direction is the vector over it
pub along : (a v : Vec3) → direction_of a ≡ Some v → (eq (vlength a) (lit 0) ≡ false) × (v ≡ vscale a (f/ one (vlength a)))
unfolding direction_of points
along a v = go (eq (vlength a) (lit 0)) refl
  where
    go : (b : Bool) → eq (vlength a) (lit 0) ≡ b → cond b None (Some (vscale a (f/ one (vlength a)))) ≡ Some v
        → (eq (vlength a) (lit 0) ≡ false) × (v ≡ vscale a (f/ one (vlength a)))
    go true h k = absurd (false≢true (ap points k))
    go false h k = (h, ap (λ (d : Option Vec3). unwrap_or d vzero) (sym k))

-- 'Normalising a vector of length 0 must say that there is no direction', and no other does
pub nowhere : (a : Vec3) → (direction_of a ≡ None → eq (vlength a) (lit 0) ≡ true) × (eq (vlength a) (lit 0) ≡ true → direction_of a ≡ None)
unfolding direction_of points
nowhere a = (there (eq (vlength a) (lit 0)), λ e. ap (λ (b : Bool). cond b None (Some (vscale a (f/ one (vlength a))))) e)
  where
    there : (b : Bool) → cond b None (Some (vscale a (f/ one (vlength a)))) ≡ None → b ≡ true
    there true e = refl
    there false e = absurd (true≢false (ap points e))
