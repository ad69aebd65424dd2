-- Laws of any list, and of its parts. Assumes nothing.
use Prim.Native.Nat.{ℕ, zero, suc, ◌+◌, ◌-◌, ◌<◌, ◌≤◌}
use mathlib.Core.List.{List, [], ◌∷◌, ◌++◌, map}
use mathlib.Core.Path.{◌≡◌, refl, sym, ◌∙◌, ap, subst}
use native.Mathlib.Nat.{le_of_suc-le-suc}
use native.Mathlib.Omega.{arith}
use lib.ListN.{length, get_or, take, drop, replicate, length-append, length-drop, length-take}
use lib.Seq.{get_or-take, get_or-drop, ext_get_or, take_all, take-nil, take_at, drop-drop, drop_at}

-- a list of no elements is empty
pub no_elements : (l : List ℕ) → length l ≡ 0 → [] ≡ l
no_elements [] e = refl
no_elements (x ∷ l) e = absurd (omega (arith, e))

pub take_le : (k : ℕ) (l : List ℕ) → length (take k l) ≤ k
take_le zero l = omega arith
take_le (suc k) [] = omega arith
take_le (suc k) (x ∷ l) = omega (arith, take_le k l)

pub zeros : (m i : ℕ) → get_or (replicate {A = ℕ} m 0) i 0 ≡ 0
zeros zero i = refl
zeros (suc m) zero = refl
zeros (suc m) (suc i) = zeros m i

pub map_at : (f : ℕ → ℕ) (l : List ℕ) (i : ℕ) → i < length l → get_or (map f l) i 0 ≡ f (get_or l i 0)
map_at f [] i h = absurd (omega arith)
map_at f (x ∷ xs) zero h = refl
map_at f (x ∷ xs) (suc i) h = map_at f xs i (le_of_suc-le-suc h)

pub drop_map : {A B : Type 0} (f : A → B) (k : ℕ) (l : List A) → drop k (map f l) ≡ map f (drop k l)
drop_map f zero l = refl
drop_map f (suc k) [] = refl
drop_map f (suc k) (x ∷ l) = drop_map f k l

-- ---- of a part of a list

-- the part from a on, as the code's loan has it
pub rest : {A : Type 0} (a : ℕ) (l : List A) → take (length l - a) (drop a l) ≡ drop a l
rest a l = take_all (length l - a) (drop a l) (simp length-drop (omega arith))

pub drop_take : (n m : ℕ) (l : List ℕ) → drop n (take m l) ≡ take (m - n) (drop n l)
drop_take zero m l = let z : m - 0 ≡ m = omega arith in rw z
drop_take (suc n) zero l = let z : 0 - suc n ≡ 0 = omega arith in rw z
drop_take (suc n) (suc m) [] = sym (take-nil (suc m - suc n))
drop_take (suc n) (suc m) (x ∷ l) = let z : suc m - suc n ≡ m - n = omega arith in rw z (drop_take n m l)

-- place j of the part of n places from i on, which is x
pub part_place : {A : Type 0} (l : List A) (i n j : ℕ) (d : A) {x : List A} → take n (drop i l) ≡ x → j < n → get_or l (i + j) d ≡ get_or x j d
part_place l i n j d e h = sym (rw (← e, get_or-take, get_or-drop))

-- how long it is, and what its elements are
pub part_length : (l : List ℕ) (p e : ℕ) → p ≤ e → e ≤ length l → length (take (e - p) (drop p l)) ≡ e - p
part_length l p e h k = simp (length-take, length-drop) (omega arith)

pub part_at : (l : List ℕ) (p e i : ℕ) → p ≤ e → e ≤ length l → i < length (take (e - p) (drop p l))
    → (p + i < length l) × (get_or (take (e - p) (drop p l)) i 0 ≡ get_or l (p + i) 0)
part_at l p e i h k m =
    let n = part_length l p e h k in
    let w : i < e - p = omega arith in
    (omega arith, sym (part_place l p (e - p) i 0 refl w))

-- the places of a list in t
pub part_same : (l t : List ℕ) (base : ℕ) → base + length l ≤ length t → ((i : ℕ) → i < length l → get_or t (base + i) 0 ≡ get_or l i 0) → take (length l) (drop base t) ≡ l
part_same l t base fits same =
    ext_get_or 0 (take (length l) (drop base t)) l (simp (length-take, length-drop) (omega arith))
    (λ i h.
    let n : length (take (length l) (drop base t)) ≡ length l = simp (length-take, length-drop) (omega arith) in
    let w : i < length l = omega arith in
    sym (part_place t base (length l) i 0 refl w) ∙ same i w)

-- a list's end is the same where its places are
pub drop_same : (at : ℕ) (t u : List ℕ) → length u ≡ length t → ((j : ℕ) → at ≤ j → get_or u j 0 ≡ get_or t j 0) → drop at u ≡ drop at t
drop_same at t u s same = ext_get_or 0 (drop at u) (drop at t) (length-drop at u ∙ ap (λ (n : ℕ). n - at) s ∙ sym (length-drop at t)) (λ i h. get_or-drop at u i 0 ∙ same (at + i) (omega arith) ∙ sym (get_or-drop at t i 0))

-- and the other way
pub place_behind : {A : Type 0} (n k : ℕ) (l m : List A) (d : A) → drop n l ≡ drop n m → n ≤ k → get_or l k d ≡ get_or m k d
place_behind n k l m d e h =
    let i : k ≡ n + (k - n) = omega (arith, h) in
    rw i (sym (get_or-drop n l (k - n) d) ∙ ap (λ (x : List _). get_or x (k - n) d) e ∙ get_or-drop n m (k - n) d)

-- a list that begins with n places has n, and two that begin with the same have the same front
pub front_long : {A : Type 0} (x r : List A) {l : List A} {n : ℕ} → l ≡ x ++ r → length x ≡ n → n ≤ length l
front_long x r e q = omega (arith, ap length e ∙ length-append x r)

pub front_same : {A : Type 0} (xs r s : List A) (n : ℕ) {x y : List A} → x ≡ xs ++ r → y ≡ xs ++ s → length xs ≡ n → take n x ≡ take n y
front_same xs r s n a b e = ap (take n) a ∙ take_at xs r n e ∙ sym (ap (take n) b ∙ take_at xs s n e)

-- another front of a list leaves what is past it
pub drop_tail : {A : Type 0} (k m : ℕ) (c f : List A) → length c ≡ k → k ≤ m → drop m (c ++ drop k f) ≡ drop m f
drop_tail k m c f e h =
    let j : k + (m - k) ≡ m = omega arith in
    subst (λ (i : ℕ). drop i (c ++ drop k f) ≡ drop i f) j
    (sym (drop-drop (m - k) k (c ++ drop k f)) ∙ ap (drop (m - k)) (drop_at c (drop k f) k e) ∙ drop-drop (m - k) k f)

-- ---- of all elements of a list
abbrev pub AllIn : (ℕ → Type 0) → List ℕ → Type 0
AllIn P [] = Unit
AllIn P (x ∷ xs) = P x × AllIn P xs

pub all_from : (P : ℕ → Type 0) (l : List ℕ) → ((k : ℕ) → k < length l → P (get_or l k 0)) → AllIn P l
all_from P [] h = tt
all_from P (x ∷ xs) h = (h 0 (omega arith), all_from P xs (λ k m. h (suc k) (omega arith)))

pub all_at : (P : ℕ → Type 0) (l : List ℕ) (k : ℕ) → AllIn P l → k < length l → P (get_or l k 0)
all_at P [] k a h = absurd (omega arith)
all_at P (x ∷ xs) zero a h = a.0
all_at P (x ∷ xs) (suc k) a h = all_at P xs k a.1 (omega arith)
