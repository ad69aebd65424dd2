-- Vectors of a flat list: after a write; of a list made vector by vector; and that two lists with the same vectors are the same.
use mathlib.Core.Path.{◌≡◌, refl, sym, ap, ◌∙◌}
use mathlib.Core.List.{List, ◌++◌}
use Prim.Native.Nat.{ℕ, zero, suc, ◌+◌, ◌*◌, ◌/◌, ◌%◌, ◌<◌, ◌≤◌}
use native.Mathlib.Omega.{arith}
use native.Mathlib.Nat.{add-zero}
use lib.ListN.{length, get_or, take, drop, get_or-append}
use lib.Seq.{ext_get_or, get_or-take, get_or-drop, get_or-append-add}
use lib.Ieee.{Float, nan}
use Rattle.lists.specs.Put.{put, upto}
use Rattle.lists.proofs.Puts.{length_upto, get_d_put_past, get_d_put_before, get_d_put_in, upto_at, put_all}
use Rattle.vectors.specs.declared.Vec3.{Vec3}
use Rattle.vectors.specs.Vec.{floats, vec_at, floats_of, eight, vpast}

-- a vector past what was written is as it was, and so is one before it
pub vec_past : (l : List Float) (a : ℕ) (xs : List Float) (j : ℕ) → a + length xs ≤ 3 * j → vec_at (put l a xs) j ≡ vec_at l j
unfolding vec_at
vec_past l a xs j h =
    let at : (k : ℕ) → 3 * j ≤ k → get_or (put l a xs) k nan ≡ get_or l k nan = λ k hk. get_d_put_past l a xs k nan (omega arith) in
    rw (at (3 * j) (omega arith), at (3 * j + 1) (omega arith), at (3 * j + 2) (omega arith))

pub vec_before : (l : List Float) (a : ℕ) (xs : List Float) (j : ℕ) → 3 * j + 3 ≤ a → vec_at (put l a xs) j ≡ vec_at l j
unfolding vec_at
vec_before l a xs j h =
    let at : (k : ℕ) → k < a → get_or (put l a xs) k nan ≡ get_or l k nan = λ k hk. get_d_put_before l a xs k nan hk in
    rw (at (3 * j) (omega arith), at (3 * j + 1) (omega arith), at (3 * j + 2) (omega arith))

-- pieces of three floats each: a vector past those written is the old one, and where they fill the list they are the list
pub vec_still : (l : List Float) (a : ℕ) (f : ℕ → List Float) (i j : ℕ) {b : List Float} → ((k : ℕ) → length (f k) ≡ 3)
    → b ≡ put l a (upto f i) → a + 3 * i ≤ 3 * j → vec_at b j ≡ vec_at l j
vec_still l a f i j h3 e h = ap (λ (m : List Float). vec_at m j) e ∙ vec_past l a (upto f i) j (omega (arith, length_upto f 3 i (λ k _. h3 k)))

pub vec_whole : (f : ℕ → List Float) (n m : ℕ) (l : List Float) {b : List Float} → ((k : ℕ) → length (f k) ≡ 3)
    → b ≡ put l 0 (upto f m) → length l ≡ 3 * n → m ≡ n → b ≡ upto f n
vec_whole f n m l h3 e h hm =
    put_all l (upto f n) (e ∙ ap (λ (k : ℕ). put l 0 (upto f k)) hm) (omega (arith, length_upto f 3 n (λ k _. h3 k)))

-- a vector of what is left from 3n on
pub vec_drop : (l : List Float) (n j : ℕ) → vec_at (drop (3 * n) l) j ≡ vec_at l (n + j)
unfolding vec_at
vec_drop l n j =
    let at : (k m : ℕ) → 3 * n + k ≡ m → get_or (drop (3 * n) l) k nan ≡ get_or l m nan =
    λ k m e. get_or-drop (3 * n) l k nan ∙ ap (λ (i : ℕ). get_or l i nan) e in
    rw (at (3 * j) (3 * (n + j)) (omega arith), at (3 * j + 1) (3 * (n + j) + 1) (omega arith), at (3 * j + 2) (3 * (n + j) + 2) (omega arith))

-- a vector that was written is there
pub vec_in : (l : List Float) (i : ℕ) (v : Vec3) → 3 * i + 3 ≤ length l → vec_at (put l (3 * i) (floats v)) i ≡ v
unfolding vec_at
vec_in l i v h =
    let first : get_or (put l (3 * i) (floats v)) (3 * i) nan ≡ v.x =
    ap (λ (k : ℕ). get_or (put l (3 * i) (floats v)) k nan) (sym (add-zero (3 * i))) ∙ get_d_put_in l (3 * i) (floats v) 0 nan (omega arith) h in
    rw (first, get_d_put_in l (3 * i) (floats v) 1 nan (omega arith) h, get_d_put_in l (3 * i) (floats v) 2 nan (omega arith) h)

-- vector i of a list made vector by vector, and how long it is
pub floats_at : (v : ℕ → Vec3) (n i : ℕ) → i < n → vec_at (floats_of v n) i ≡ v i
unfolding vec_at
floats_at v n i h =
    let at : (j k : ℕ) → j < 3 → i * 3 + j ≡ k → get_or (floats_of v n) k nan ≡ get_or (floats (v i)) j nan =
    λ j k hj e. ap (λ (m : ℕ). get_or (floats_of v n) m nan) (sym e) ∙ upto_at (λ (i : ℕ). floats (v i)) 3 n i j nan (λ _. refl) h hj in
    rw (at 0 (3 * i) (omega arith) (omega arith), at 1 (3 * i + 1) (omega arith) (omega arith), at 2 (3 * i + 2) (omega arith) (omega arith))

pub length_floats : (v : ℕ → Vec3) (n : ℕ) → length (floats_of v n) ≡ 3 * n
length_floats v n = omega (arith, length_upto (λ (i : ℕ). floats (v i)) 3 n (λ _ _. refl))

-- eight of them, and the first, of a list that goes on
pub length_eight : (ps : List Vec3) → length (eight ps) ≡ 24
unfolding eight
length_eight ps = length_upto _ 3 8 (λ _ _. refl)

pub first_eight : (ps : List Vec3) (l : List Float) → vec_at (eight ps ++ l) 0 ≡ get_or ps 0 vpast
unfolding eight upto vec_at
first_eight ps l = refl

-- a vector of a list that goes on, the one behind a list, and one of a part of a list
pub vec_front : (xs ys : List Float) (i : ℕ) → 3 * i + 3 ≤ length xs → vec_at (xs ++ ys) i ≡ vec_at xs i
unfolding vec_at
vec_front xs ys i h = rw (get_or-append xs ys nan (3 * i) (omega arith), get_or-append xs ys nan (3 * i + 1) (omega arith), get_or-append xs ys nan (3 * i + 2) (omega arith))

pub vec_last : (l : List Float) (v : Vec3) (i : ℕ) → length l ≡ 3 * i → vec_at (l ++ floats v) i ≡ v
unfolding vec_at
vec_last l v i e =
    let at : (j k : ℕ) → 3 * i + j ≡ k → get_or (l ++ floats v) k nan ≡ get_or (floats v) j nan =
    λ j k q. ap (λ (m : ℕ). get_or (l ++ floats v) m nan) (omega (arith, q, e)) ∙ get_or-append-add l (floats v) j nan in
    rw (at 0 (3 * i) (add-zero (3 * i)), at 1 (3 * i + 1) refl, at 2 (3 * i + 2) refl)

pub vec_part : (l x : List Float) (i n j : ℕ) → take (3 * n) (drop (3 * i) l) ≡ x → j < n → vec_at l (i + j) ≡ vec_at x j
unfolding vec_at
vec_part l x i n j e h =
    let at : (a b : ℕ) → a < 3 * n → 3 * i + a ≡ b → get_or l b nan ≡ get_or x a nan =
    λ a b q r. ap (λ (m : ℕ). get_or l m nan) (sym r) ∙ sym (rw (← e, get_or-take, get_or-drop)) in
    rw (at (3 * j) (3 * (i + j)) (omega arith) (omega arith), at (3 * j + 1) (3 * (i + j) + 1) (omega arith) (omega arith), at (3 * j + 2) (3 * (i + j) + 2) (omega arith) (omega arith))

-- a place of a list is a part of one of its vectors
place : (a b : List Float) (i r : ℕ) → r < 3 → vec_at a i ≡ vec_at b i → get_or a (3 * i + r) nan ≡ get_or b (3 * i + r) nan
unfolding vec_at
place a b i zero h e = rw add-zero (ap (λ (v : Vec3). v.x) e)
place a b i (suc zero) h e = ap (λ (v : Vec3). v.y) e
place a b i (suc (suc zero)) h e = ap (λ (v : Vec3). v.z) e
place a b i (suc (suc (suc r))) h e = absurd (omega arith)

-- two lists of n vectors are the same where their vectors are
pub by_vectors : (n : ℕ) (a b : List Float) → length a ≡ 3 * n → length b ≡ 3 * n → ((i : ℕ) → i < n → vec_at a i ≡ vec_at b i) → a ≡ b
by_vectors n a b ha hb same =
    ext_get_or nan a b (ha ∙ sym hb)
    (λ k h.
    let e : 3 * (k / 3) + k % 3 ≡ k = omega arith in
    let p = place a b (k / 3) (k % 3) (omega arith) (same (k / 3) (omega arith)) in
    rw e at p)
