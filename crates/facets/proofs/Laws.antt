-- How long facets, heads and files are, and what a loop over facets has written and listed. Assumes nothing.
use Prim.Native.Nat.{ℕ, ◌+◌, ◌*◌, ◌<◌}
use mathlib.Core.Path.{◌≡◌, refl, sym, ◌∙◌, ap, ap₂}
use mathlib.Core.List.{List, [], ◌∷◌, ◌++◌}
use native.Mathlib.Omega.{arith}
use lib.ListN.{length, get_or, take, drop, length-append, length-replicate, replicate, get_or-append}
use lib.Seq.{get_or-take, get_or-drop, drop_at}
use lib.Ieee.{Float}
use Rattle.lists.specs.Put.{put}
use Rattle.lists.proofs.Puts.{length_upto, next, upto_same, upto_more}
use Rattle.vectors.specs.declared.Vec3.{Vec3}
use Rattle.vectors.specs.Vec.{vsub, vcross, normalised, floats}
use Rattle.little.specs.Little.{le16, le32, le_vec, le_vec_at}
use Rattle.little.proofs.Laws.{long32}
use Rattle.facets.specs.Facets.{facet_normal, facet_bytes, corner_at, facet_at, facets_of, stl_head, stl_bytes, stl_size, facet_place, one_normal, one_corners, listed_normals, listed_corners}

pub long_facet : (a b c : Vec3) → length (facet_bytes a b c) ≡ 50
unfolding facet_bytes le_vec le32 le16
long_facet a b c = refl

pub long_at : (ps : List Float) (l : List ℕ) (i : ℕ) → length (facet_at ps l i) ≡ 50
unfolding facet_at
long_at ps l i = long_facet _ _ _

pub long_facets : (ps : List Float) (l : List ℕ) (t : ℕ) → length (facets_of ps l t) ≡ 50 * t
unfolding facets_of
long_facets ps l t = length_upto (facet_at ps l) 50 t (λ k h. long_at ps l k) ∙ omega arith

pub long_head : (t : ℕ) → length (stl_head t) ≡ 84
unfolding stl_head
long_head t = length-append (replicate {A = ℕ} 80 0) (le32 t) ∙ omega (arith, length-replicate {A = ℕ} 80 0, long32 t)

-- '84 + 50T'
pub stl_long : (ps : List Float) (l : List ℕ) (t : ℕ) → length (stl_bytes ps l t) ≡ stl_size t
unfolding stl_bytes
stl_long ps l t = length-append (stl_head t) (facets_of ps l t) ∙ omega (arith, long_head t, long_facets ps l t)

pub long_normal : (s : List ℕ) (i : ℕ) → length (one_normal s i) ≡ 3
unfolding one_normal
long_normal s i = refl

pub long_corners : (s : List ℕ) (i : ℕ) → length (one_corners s i) ≡ 9
unfolding one_corners
long_corners s i = refl

pub long_listed_normals : (s : List ℕ) (t : ℕ) → length (listed_normals s t) ≡ 3 * t
unfolding listed_normals
long_listed_normals s t = length_upto (one_normal s) 3 t (λ k h. long_normal s k) ∙ omega arith

pub long_listed_corners : (s : List ℕ) (t : ℕ) → length (listed_corners s t) ≡ 9 * t
unfolding listed_corners
long_listed_corners s t = length_upto (one_corners s) 9 t (λ k h. long_corners s k) ∙ omega arith

-- ---- a facet from its parts

-- the normal, from two sides and their cross
pub normal_is : (a b c : Vec3) {u v w n : Vec3} → u ≡ vsub b a → v ≡ vsub c a → w ≡ vcross u v → n ≡ normalised w → n ≡ facet_normal a b c
unfolding facet_normal
normal_is a b c p q r e = e ∙ ap normalised (r ∙ ap₂ vcross p q)

-- in the order in which they are written
pub facet_is : (a b c : Vec3) → le_vec (facet_normal a b c) ++ (le_vec a ++ (le_vec b ++ (le_vec c ++ (0 ∷ 0 ∷ [])))) ≡ facet_bytes a b c
unfolding facet_bytes
facet_is a b c = refl

-- three corners that were read make the facet's bytes
pub facet_made : (ps : List Float) (l : List ℕ) (i : ℕ) (a b c : Vec3) → a ≡ corner_at ps l (3 * i) → b ≡ corner_at ps l (3 * i + 1) → c ≡ corner_at ps l (3 * i + 2)
    → facet_bytes a b c ≡ facet_at ps l i
unfolding facet_at
facet_made ps l i a b c p q r = rw (p, q, r)

-- three vectors that were listed make the corners' floats
pub corners_made : (s : List ℕ) (i : ℕ) (l b₁ b₂ b₃ : List Float) (u v w : Vec3) → u ≡ le_vec_at s (facet_place i + 12) → v ≡ le_vec_at s (facet_place i + 24) → w ≡ le_vec_at s (facet_place i + 36)
    → b₁ ≡ put l (9 * i) (floats u) → b₂ ≡ put b₁ (9 * i + 3) (floats v) → b₃ ≡ put b₂ (9 * i + 6) (floats w) → b₃ ≡ put l (9 * i) (one_corners s i)
unfolding one_corners
corners_made s i l b₁ b₂ b₃ u v w p q r e₁ e₂ e₃ =
    next l b₂ (9 * i) (9 * i + 6) (floats u ++ floats v) (floats w) e₃ (next l b₁ (9 * i) (9 * i + 3) (floats u) (floats v) e₂ e₁ refl) refl ∙ rw (p, q, r)

-- ---- of a part of a triangle list

-- where each corner of two lists is the same, so are the facets
pub facets_same : (ps : List Float) (l m : List ℕ) (t : ℕ) → ((j : ℕ) → j < 3 * t → get_or l j 0 ≡ get_or m j 0) → facets_of ps l t ≡ facets_of ps m t
unfolding facets_of facet_at
facets_same ps l m t same = upto_same _ _ t (λ i h. rw (same (3 * i) (omega arith), same (3 * i + 1) (omega arith), same (3 * i + 2) (omega arith)))

-- the facets of the first t triangles are those of the first 3t corners
pub facets_front : (ps : List Float) (l : List ℕ) (t : ℕ) → facets_of ps (take (3 * t) l) t ≡ facets_of ps l t
facets_front ps l t = facets_same ps (take (3 * t) l) l t (λ j h. get_or-take (3 * t) l j 0 h)

-- t triangles and then k more: those of the corners behind 3t
pub facets_split : (ps : List Float) (l : List ℕ) (t k : ℕ) → facets_of ps l (t + k) ≡ facets_of ps l t ++ facets_of ps (drop (3 * t) l) k
unfolding facets_of facet_at
facets_split ps l t k = sym (upto_more (facet_at ps l) (facet_at ps (drop (3 * t) l)) t k shifted)
  where
    at : (a b j : ℕ) → 3 * t + (3 * j + a) ≡ b → get_or (drop (3 * t) l) (3 * j + a) 0 ≡ get_or l b 0
    at a b j e = get_or-drop (3 * t) l (3 * j + a) 0 ∙ ap (λ (i : ℕ). get_or l i 0) e

    first : (j : ℕ) → get_or (drop (3 * t) l) (3 * j) 0 ≡ get_or l (3 * (t + j)) 0
    first j = get_or-drop (3 * t) l (3 * j) 0 ∙ ap (λ (i : ℕ). get_or l i 0) (omega arith)

    shifted : (j : ℕ) → facet_at ps (drop (3 * t) l) j ≡ facet_at ps l (t + j)
    shifted j = rw (first j, at 1 (3 * (t + j) + 1) j (omega arith), at 2 (3 * (t + j) + 2) j (omega arith))

-- two triangle lists one after the other give their facets one after the other: a file can be written block by block
pub facets_join : (ps : List Float) (l r : List ℕ) (t k : ℕ) → length l ≡ 3 * t → facets_of ps (l ++ r) (t + k) ≡ facets_of ps l t ++ facets_of ps r k
facets_join ps l r t k n =
    facets_split ps (l ++ r) t k
    ∙ ap₂ (λ (x y : List ℕ). x ++ y)
    (facets_same ps (l ++ r) l t (λ j h. get_or-append l r 0 j (omega arith)))
    (ap (λ (m : List ℕ). facets_of ps m k) (drop_at l r (3 * t) n))
