-- A box taken over one list of vertices and then another, over the turns of a loop, and from the first vertex on. Assumes nothing.
use mathlib.Core.Path.{◌≡◌, refl, sym, ap, ap₂, ◌∙◌}
use mathlib.Core.Bool.{Bool, true, false, cond}
use mathlib.Core.List.{List, [], ◌∷◌, ◌++◌}
use Prim.Native.Nat.{ℕ, suc, ◌+◌, ◌*◌, ◌/◌, ◌<◌}
use native.Mathlib.Numerals.{add-one}
use native.Mathlib.Omega.{arith}
use lib.ListN.{length, get_or, length-append, get_or-append}
use lib.Seq.{get_or-append-add}
use lib.Ieee.{Float, nan, lt}
use Rattle.lists.specs.Put.{upto}
use Rattle.lists.proofs.Puts.{length_upto, upto_more, upto_same}
use Rattle.vectors.specs.declared.Vec3.{Vec3}
use Rattle.vectors.specs.Vec.{floats, vec_at}
use Rattle.boxes.specs.declared.Bounds.{Bounds}
use Rattle.boxes.specs.Box.{along, foremost, foremost_of, more, box_of}
use Rattle.boxes.specs.Bounds.{corner_by, grown_by, bounds_of}

-- ---- the coordinates on an axis

-- a list of m vertices has m of them
pub third : (m : ℕ) {n : ℕ} → n ≡ 3 * m → n / 3 ≡ m
third m e = omega arith

pub along_append : (a m : ℕ) (xs ys : List Float) → a < 3 → length xs ≡ 3 * m → along a (xs ++ ys) ≡ along a xs ++ along a ys
unfolding along
along_append a m xs ys ha h = sym (ap₂ ◌++◌ front back ∙ sum)
  where
    f : List Float → ℕ → List Float
    f l k = get_or l (3 * k + a) nan ∷ []

    front : upto (f xs) (length xs / 3) ≡ upto (f (xs ++ ys)) m
    front = ap (upto (f xs)) (third m h) ∙ upto_same (f xs) (f (xs ++ ys)) m (λ k l. ap (λ (x : Float). x ∷ []) (sym (get_or-append xs ys nan (3 * k + a) (omega arith))))

    back : upto (f ys) (length ys / 3) ≡ upto (λ (j : ℕ). f (xs ++ ys) (m + j)) (length ys / 3)
    back = upto_same (f ys) (λ (j : ℕ). f (xs ++ ys) (m + j)) (length ys / 3) (λ k l. ap (λ (x : Float). x ∷ []) (sym (shifted k)))
      where
        shifted : (k : ℕ) → get_or (xs ++ ys) (3 * (m + k) + a) nan ≡ get_or ys (3 * k + a) nan
        shifted k = let e : 3 * (m + k) + a ≡ length xs + (3 * k + a) = omega arith in rw e (get_or-append-add xs ys (3 * k + a) nan)

    sum : upto (f (xs ++ ys)) m ++ upto (λ (j : ℕ). f (xs ++ ys) (m + j)) (length ys / 3) ≡ upto (f (xs ++ ys)) (length (xs ++ ys) / 3)
    sum =
        let e : m + length ys / 3 ≡ length (xs ++ ys) / 3 = omega (arith, length-append xs ys) in
        upto_more (f (xs ++ ys)) (λ (j : ℕ). f (xs ++ ys) (m + j)) m (length ys / 3) (λ j. refl) ∙ ap (upto (f (xs ++ ys))) e

-- ---- one list after another

foremost_append : (before : Float → Float → Bool) (x : Float) (xs ys : List Float) → foremost before x (xs ++ ys) ≡ foremost before (foremost before x xs) ys
unfolding foremost
foremost_append before x [] ys = refl
foremost_append before x (y ∷ xs) ys = foremost_append before _ xs ys

corner_append : (before : Float → Float → Bool) (m : ℕ) (v : Vec3) (xs ys : List Float) → length xs ≡ 3 * m
    → corner_by before v (xs ++ ys) ≡ corner_by before (corner_by before v xs) ys
unfolding corner_by
corner_append before m v xs ys h =
    rw (
      along_append 0 m xs ys (omega arith) h,
      along_append 1 m xs ys (omega arith) h,
      along_append 2 m xs ys (omega arith) h,
      foremost_append before v.x (along 0 xs) (along 0 ys),
      foremost_append before v.y (along 1 xs) (along 1 ys),
      foremost_append before v.z (along 2 xs) (along 2 ys),
    )

pub grown_append : (m : ℕ) (b : Bounds) (xs ys : List Float) → length xs ≡ 3 * m → grown_by b (xs ++ ys) ≡ grown_by (grown_by b xs) ys
unfolding grown_by
grown_append m b xs ys h = rw (corner_append lt m b.low xs ys h, corner_append more m b.high xs ys h)

-- THE law of a sequence: one list of m vertices, and then another
pub grown_next : (m : ℕ) (b : Bounds) (xs ys : List Float) {c d : Bounds} → d ≡ grown_by c ys → c ≡ grown_by b xs → length xs ≡ 3 * m → d ≡ grown_by b (xs ++ ys)
grown_next m b xs ys e' e h = e' ∙ ap (λ (c : Bounds). grown_by c ys) e ∙ sym (grown_append m b xs ys h)

-- over no vertex
pub grown_none : (b : Bounds) → b ≡ grown_by b []
unfolding grown_by corner_by along upto foremost
grown_none b = refl

-- THE law of a loop: pieces of m vertices each
pub grown_turn : (f : ℕ → List Float) (m : ℕ) → ((k : ℕ) → length (f k) ≡ m * 3) → (b : Bounds) (k : ℕ) {c d : Bounds}
    → d ≡ grown_by c (f k) → c ≡ grown_by b (upto f k) → d ≡ grown_by b (upto f (k + 1))
unfolding upto
grown_turn f m hw b k e' e =
    grown_next (k * m) b (upto f k) (f k) e' e (length_upto f (m * 3) k (λ j _. hw j) ∙ regrouped k m) ∙ ap (λ (n : ℕ). grown_by b (upto f n)) (sym (add-one k))
  where
    regrouped : (k m : ℕ) → k * (m * 3) ≡ 3 * (k * m)
    regrouped k m = omega arith

-- ---- from the first vertex on

-- the first against itself changes nothing
again : (t : Bool) (x : Float) → cond t x x ≡ x
again true x = refl
again false x = refl

from_first : (before : Float → Float → Bool) (x : Float) (l : List Float) → foremost before x (x ∷ l) ≡ foremost_of before (x ∷ l)
unfolding foremost foremost_of
from_first before x l = ap (λ (y : Float). foremost before y l) (again (before x x) x)

first_along : (a m : ℕ) (l : List Float) → length l ≡ 3 * suc m → along a l ≡ get_or l (3 * 0 + a) nan ∷ upto (λ (j : ℕ). get_or l (3 * (1 + j) + a) nan ∷ []) m
unfolding along upto
first_along a m l h =
    let f : ℕ → List Float = λ k. get_or l (3 * k + a) nan ∷ [] in
    let e : suc m ≡ 1 + m = omega arith in
    ap (upto f) (third (suc m) h ∙ e) ∙ sym (upto_more f (λ (j : ℕ). f (1 + j)) 1 m (λ j. refl))

over_first : (before : Float → Float → Bool) (a m : ℕ) (l : List Float) → length l ≡ 3 * suc m
    → foremost before (get_or l (3 * 0 + a) nan) (along a l) ≡ foremost_of before (along a l)
over_first before a m l h = rw (first_along a m l h) (from_first before (get_or l (3 * 0 + a) nan) _)

-- the six floats of the corners over a list are its box
pub bounds_box : (m : ℕ) (l : List Float) {b : Bounds} → length l ≡ 3 * suc m → b ≡ bounds_of l → floats b.low ++ floats b.high ≡ box_of l
unfolding box_of grown_by corner_by vec_at
bounds_box m l h e =
    rw (e, over_first lt 0 m l h, over_first lt 1 m l h, over_first lt 2 m l h, over_first more 0 m l h, over_first more 1 m l h, over_first more 2 m l h)
