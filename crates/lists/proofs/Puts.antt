-- Laws of `put` and `upto`: what a run of calls, or a loop, has written. Assumes nothing.
use mathlib.Core.Path.{◌≡◌, refl, sym, ap, ap₂, ◌∙◌}
use mathlib.Core.Logic.{⊎_elim}
use mathlib.Core.List.{List, [], ◌∷◌, ◌++◌, map, append_assoc, append-nil, map-append}
use Prim.Native.Nat.{ℕ, zero, suc, ◌+◌, ◌*◌, ◌≤◌, ◌<◌}
use native.Mathlib.Nat.{add-zero, zero-add, add-suc, suc-add, suc-mul, not-suc-le-zero, eq-or-lt_of_le, le_of_suc-le-suc, lt_of_lt_of_le, mul-le-mul_right}
use native.Mathlib.Numerals.{add-one}
use native.Mathlib.Omega.{arith}
use lib.ListN.{length, take, drop, set, get_or, length-append, length-set, length-drop, length-replicate, replicate, drop_of_length-le, get_or-append}
use lib.Seq.{sets, sets-eq, get_or-set_other, get_or-set_same, get_or-append-add, length-take-le, set_comm, take-append_seam, take-set-le, take-suc, take-length, drop_at, drop-drop}
use Rattle.lists.specs.Put.{put, upto}

module _ {ℓ} {A : Type ℓ} where
  pub length_put : (l : List A) (i : ℕ) (xs : List A) → length (put l i xs) ≡ length l
  unfolding put
  length_put l i [] = refl
  length_put l i (x ∷ xs) = length_put (set l i x) (suc i) xs ∙ length-set l i x

  -- two writes one after the other are one
  pub put_put : (l : List A) (i : ℕ) (xs ys : List A) → put (put l i xs) (i + length xs) ys ≡ put l i (xs ++ ys)
  unfolding put
  put_put l i [] ys = ap (λ (k : ℕ). put l k ys) (add-zero i)
  put_put l i (x ∷ xs) ys =
      ap (λ (k : ℕ). put (put (set l i x) (suc i) xs) k ys) (add-suc i (length xs) ∙ sym (suc-add i (length xs)))
      ∙ put_put (set l i x) (suc i) xs ys

  -- the second write's offset known by an equation
  pub put_at : (l : List A) (i j : ℕ) (xs ys : List A) → j ≡ i + length xs → put (put l i xs) j ys ≡ put l i (xs ++ ys)
  put_at l i j xs ys e = ap (λ (k : ℕ). put (put l i xs) k ys) e ∙ put_put l i xs ys

  -- each piece w long
  pub length_upto : (f : ℕ → List A) (w n : ℕ) → ((k : ℕ) → k < n → length (f k) ≡ w) → length (upto f n) ≡ n * w
  unfolding upto
  length_upto f w zero h = omega arith
  length_upto f w (suc n) h = simp (length-append, length_upto f w n (λ k b. h k (omega arith)), h n (omega arith)) (omega arith)

  -- a turn of a loop that writes piece after piece
  pub put_turn : (f : ℕ → List A) (l : List A) (i j k : ℕ) {b : List A} → b ≡ put l i (upto f k) → j ≡ i + length (upto f k)
      → put b j (f k) ≡ put l i (upto f (k + 1))
  unfolding upto
  put_turn f l i j k {b} e h = ap (λ (m : List A). put m j (f k)) e ∙ put_at l i j (upto f k) (f k) h ∙ ap (λ (n : ℕ). put l i (upto f n)) (sym (add-one k))

  -- the same where a piece is one element
  pub length_each : (f : ℕ → A) (n : ℕ) → length (upto (λ (k : ℕ). f k ∷ []) n) ≡ n
  unfolding upto
  length_each f zero = refl
  length_each f (suc n) = simp (length-append, length_each f n) (omega arith)

  pub set_turn : (f : ℕ → A) (l : List A) (i j k : ℕ) {b : List A} {v : A} → b ≡ put l i (upto (λ (k : ℕ). f k ∷ []) k) → v ≡ f k → j ≡ i + k
      → set b j v ≡ put l i (upto (λ (k : ℕ). f k ∷ []) (k + 1))
  unfolding put
  set_turn f l i j k {b} {v} e ev h =
      ap (set b j) ev ∙ put_turn (λ (k : ℕ). f k ∷ []) l i j k e (simp length_each h)

  pub put1 : (l : List A) (j : ℕ) (x : A) → set l j x ≡ put l j (x ∷ [])
  unfolding put
  put1 l j x = refl

  -- three stores in a row are one write
  pub put3 : (l : List A) (j : ℕ) (x y z : A) → set (set (set l j x) (j + 1) y) (j + 2) z ≡ put l j (x ∷ y ∷ z ∷ [])
  unfolding put
  put3 l j x y z = ap (λ (k : ℕ). set (set (set l j x) k y) (j + 2) z) (add-one j) ∙ ap (λ (k : ℕ). set (set (set l j x) (suc j) y) k z) (omega arith)

  -- THE law of a loop: pieces of one width w, b holds the first k, and b' is b with piece k written at its place j
  pub turn : (f : ℕ → List A) (w : ℕ) → ((k : ℕ) → length (f k) ≡ w) → (l : List A) (i j k : ℕ) {b b' : List A}
      → b' ≡ put b j (f k) → b ≡ put l i (upto f k) → j ≡ i + k * w → b' ≡ put l i (upto f (k + 1))
  turn f w hw l i j k {b} e' e h =
      e' ∙ put_turn f l i j k e (h ∙ ap (λ (n : ℕ). i + n) (sym (length_upto f w k (λ n _. hw n))))

  -- the length of what a loop has written so far is the length that the buffer had
  pub kept : (l : List A) (i : ℕ) (xs : List A) {b : List A} → b ≡ put l i xs → length b ≡ length l
  kept l i xs e = ap length e ∙ length_put l i xs

  -- THE law of a sequence: one write after another
  pub next : (l b : List A) (i j : ℕ) (xs ys : List A) {b' : List A}
      → b' ≡ put b j ys → b ≡ put l i xs → j ≡ i + length xs → b' ≡ put l i (xs ++ ys)
  next l b i j xs ys e' e h = e' ∙ ap (λ (m : List A). put m j ys) e ∙ put_at l i j xs ys h

  -- two writes that do not meet may be made in either order
  put_set : (l : List A) (i j : ℕ) (x : A) (ys : List A) → i < j → put (set l i x) j ys ≡ set (put l j ys) i x
  unfolding put
  put_set l i j x [] h = refl
  put_set l i j x (y ∷ ys) h =
      ap (λ (m : List A). put m (suc j) ys) (set_comm l i j x y (λ e. absurd (omega arith))) ∙ put_set (set l j y) i (suc j) x ys (omega arith)

  pub put_apart : (l : List A) (i j : ℕ) (xs ys : List A) → i + length xs ≤ j → put (put l i xs) j ys ≡ put (put l j ys) i xs
  unfolding put
  put_apart l i j [] ys h = refl
  put_apart l i j (x ∷ xs) ys h =
      put_apart (set l i x) (suc i) j xs ys (omega arith) ∙ ap (λ (m : List A). put m (suc i) xs) (put_set l i j x ys (omega arith))

  -- what stands past the written part, and before it, is as it was
  pub get_d_put_past : (l : List A) (i : ℕ) (xs : List A) (k : ℕ) (d : A) → i + length xs ≤ k → get_or (put l i xs) k d ≡ get_or l k d
  unfolding put
  get_d_put_past l i [] k d h = refl
  get_d_put_past l i (x ∷ xs) k d h = get_d_put_past (set l i x) (suc i) xs k d (omega arith) ∙ get_or-set_other l i k x d (omega arith)

  pub get_d_put_before : (l : List A) (i : ℕ) (xs : List A) (k : ℕ) (d : A) → k < i → get_or (put l i xs) k d ≡ get_or l k d
  unfolding put
  get_d_put_before l i [] k d h = refl
  get_d_put_before l i (x ∷ xs) k d h = get_d_put_before (set l i x) (suc i) xs k d (omega arith) ∙ get_or-set_other l i k x d (omega arith)

  -- what was written is there
  pub get_d_put_in : (l : List A) (i : ℕ) (xs : List A) (k : ℕ) (d : A) → k < length xs → i + length xs ≤ length l
      → get_or (put l i xs) (i + k) d ≡ get_or xs k d
  unfolding put
  get_d_put_in l i [] k d h b = absurd (not-suc-le-zero h)
  get_d_put_in l i (x ∷ xs) zero d h b =
      get_d_put_before (set l i x) (suc i) xs (i + 0) d (omega arith) ∙ ap (λ (n : ℕ). get_or (set l i x) n d) (add-zero i) ∙ get_or-set_same l i x d (omega arith)
  get_d_put_in l i (x ∷ xs) (suc k) d h b =
      ap (λ (n : ℕ). get_or (put (set l i x) (suc i) xs) n d) (add-suc i k ∙ sym (suc-add i k))
      ∙ get_d_put_in (set l i x) (suc i) xs k d (omega arith) (simp length-set (omega arith))

  -- the meaning in one line, where there is room
  put_sets : (l : List A) (i : ℕ) (xs : List A) → put l i xs ≡ sets l i xs
  unfolding put
  put_sets l i [] = refl
  put_sets l i (x ∷ xs) = put_sets (set l i x) (suc i) xs

  pub put_eq : (l : List A) (i : ℕ) (xs : List A) → i + length xs ≤ length l → put l i xs ≡ take i l ++ xs ++ drop (i + length xs) l
  put_eq l i xs h = put_sets l i xs ∙ sets-eq xs l i h

  -- the part that was written is what was written
  pub put_there : (l : List A) (i : ℕ) (xs : List A) → i + length xs ≤ length l → take (length xs) (drop i (put l i xs)) ≡ xs
  put_there l i xs h =
      let rest = drop (i + length xs) l in
      ap (λ (m : List A). take (length xs) (drop i m)) (put_eq l i xs h ∙ append_assoc (take i l) xs rest)
      ∙ ap (take (length xs)) (drop_at (take i l) (xs ++ rest) i (length-take-le i l (omega arith))) ∙ take-append_seam xs rest

-- ---- of stores in a row, and of a list that is written whole or to its end

-- two, four and five stores in a row are one write
pub put2 : {A : Type 0} (l : List A) (j : ℕ) (x y : A) → set (set l j x) (j + 1) y ≡ put l j (x ∷ y ∷ [])
unfolding put
put2 l j x y = ap (λ (k : ℕ). set (set l j x) k y) (add-one j)

pub put4 : {A : Type 0} (l : List A) (j : ℕ) (a b c d : A)
    → set (set (set (set l j a) (j + 1) b) (j + 2) c) (j + 3) d ≡ put l j (a ∷ b ∷ c ∷ d ∷ [])
unfolding put
put4 l j a b c d = ap (λ (m : List _). set m (j + 3) d) (put3 l j a b c) ∙ put_at l j (j + 3) (a ∷ b ∷ c ∷ []) (d ∷ []) refl

pub put5 : {A : Type 0} (l : List A) (j : ℕ) (a b c d e : A)
    → set (set (set (set (set l j a) (j + 1) b) (j + 2) c) (j + 3) d) (j + 4) e ≡ put l j (a ∷ b ∷ c ∷ d ∷ e ∷ [])
unfolding put
put5 l j a b c d e = ap (λ (m : List _). set m (j + 4) e) (put4 l j a b c d) ∙ put_at l j (j + 4) (a ∷ b ∷ c ∷ d ∷ []) (e ∷ []) refl

-- a write of a list that is given by an equation, and another after it
pub put_two : {A : Type 0} (l xs ys zs : List A) (i j n : ℕ) → zs ≡ xs → length xs ≡ n → j ≡ i + n → put (put l i zs) j ys ≡ put l i (xs ++ ys)
put_two l xs ys zs i j n e m q = ap (λ (z : List _). put (put l i z) j ys) e ∙ put_at l i j xs ys (q ∙ ap (λ (k : ℕ). i + k) (sym m))

-- a list at the front of a buffer: it, and then the buffer's other places as they were
pub put_front : {A : Type 0} (l xs : List A) (n : ℕ) → length xs ≡ n → n ≤ length l → put l 0 xs ≡ xs ++ drop n l
put_front l xs n e h = put_eq l 0 xs (omega arith) ∙ ap (λ (k : ℕ). xs ++ drop k l) (zero-add (length xs) ∙ e)

-- what is written from a on to the end
pub put_tail : {A : Type 0} (l xs : List A) (a : ℕ) {b : List A} → b ≡ put l a xs → length l ≡ a + length xs → b ≡ take a l ++ xs
put_tail l xs a e h =
    let d : drop (a + length xs) l ≡ [] = drop_of_length-le l {i = a + length xs} (omega arith) in
    e ∙ put_eq l a xs (omega arith) ∙ ap (λ (r : List _). take a l ++ xs ++ r) d ∙ append-nil (take a l ++ xs)

-- what fills the whole list is the list
pub put_all : {A : Type 0} (l xs : List A) {b : List A} → b ≡ put l 0 xs → length l ≡ length xs → b ≡ xs
put_all l xs e h = put_tail l xs 0 e (h ∙ sym (zero-add (length xs)))

-- the part of k places from i on that a call was lent, and filled with xs: the buffer it is a part of
pub put_part : {A : Type 0} (l xs : List A) (i k : ℕ) {ys : List A} → ys ≡ xs → k ≡ length xs → i + length xs ≤ length l
    → take i l ++ (ys ++ drop k (drop i l)) ≡ put l i xs
put_part l xs i k {ys} e n h =
    ap (λ (y : List _). take i l ++ (y ++ drop k (drop i l))) e
    ∙ ap (λ (r : List _). take i l ++ (xs ++ r)) (ap (λ (m : ℕ). drop m (drop i l)) n ∙ drop-drop (length xs) i l)
    ∙ sym (append_assoc (take i l) xs (drop (i + length xs) l)) ∙ sym (put_eq l i xs h)

-- the same of a part of n places that was filled with one value
pub filled_part : {A : Type 0} (l : List A) (i k n : ℕ) (x : A) {ys : List A} → ys ≡ replicate (length (take k (drop i l))) x → k ≡ n → i + n ≤ length l
    → take i l ++ (ys ++ drop k (drop i l)) ≡ put l i (replicate n x)
filled_part l i k n x e q h =
    let m : length (take k (drop i l)) ≡ n = length-take-le k (drop i l) (omega (arith, length-drop i l)) ∙ q in
    let r : n ≡ length (replicate n x) = sym (length-replicate n x) in
    put_part l (replicate n x) i k (e ∙ ap (λ (j : ℕ). replicate j x) m) (q ∙ r) (omega arith)

-- what stands before the written part is as it was
pub take_put : {A : Type 0} (k : ℕ) (l : List A) (i : ℕ) (xs : List A) → k ≤ i → take k (put l i xs) ≡ take k l
unfolding put
take_put k l i [] h = refl
take_put k l i (x ∷ xs) h = take_put k (set l i x) (suc i) xs (omega arith) ∙ take-set-le k l i x h

-- ---- of f 0, f 1, .., f (n - 1), one after the other

-- place j of piece i, of pieces w wide, lies within n of them
pub piece_within : (i n w j : ℕ) → i < n → j < w → i * w + j < n * w
piece_within i n w j b m = lt_of_lt_of_le (let e : suc i * w ≡ i * w + w = suc-mul i w in omega arith) (mul-le-mul_right w b)

-- piece i of pieces of one width
pub upto_at : {A : Type 0} (f : ℕ → List A) (w n i j : ℕ) (d : A) → ((k : ℕ) → length (f k) ≡ w) → i < n → j < w
    → get_or (upto f n) (i * w + j) d ≡ get_or (f i) j d
unfolding upto
upto_at f w zero i j d hw l m = absurd (omega arith)
upto_at f w (suc n) i j d hw l m =
    let z = length_upto f w n (λ k h. hw k) in
    ⊎_elim
    (λ q. rw q (ap (λ (k : ℕ). get_or (upto f n ++ f n) (k + j) d) (sym z) ∙ get_or-append-add (upto f n) (f n) j d))
    (λ b.
    let t : i * w + j < length (upto f n) = rw z (piece_within i n w j b m) in
    get_or-append (upto f n) (f n) d (i * w + j) t ∙ upto_at f w n i j d hw b m)
    (eq-or-lt_of_le (le_of_suc-le-suc l))

-- pieces that are the same
pub upto_same : {A : Type 0} (f g : ℕ → List A) (n : ℕ) → ((k : ℕ) → k < n → f k ≡ g k) → upto f n ≡ upto g n
unfolding upto
upto_same f g zero e = refl
upto_same f g (suc n) e = ap₂ ◌++◌ (upto_same f g n (λ k h. e k (omega arith))) (e n (omega arith))

-- as many pieces as f gives, and then c more
pub upto_more : {A : Type 0} (f g : ℕ → List A) (k c : ℕ) → ((j : ℕ) → g j ≡ f (k + j)) → upto f k ++ upto g c ≡ upto f (k + c)
unfolding upto
upto_more f g k zero e = append-nil (upto f k) ∙ ap (upto f) (sum k)
  where
    sum : (k : ℕ) → k ≡ k + zero
    sum k = omega arith
upto_more f g k (suc c) e =
    sym (append_assoc (upto f k) (upto g c) (g c)) ∙ ap (λ (l : List _). l ++ g c) (upto_more f g k c e)
    ∙ ap (λ (l : List _). upto f (k + c) ++ l) (e c) ∙ ap (upto f) (sum k c)
  where
    sum : (k c : ℕ) → suc (k + c) ≡ k + suc c
    sum k c = omega arith

pub map_upto : {A : Type 0} (h : A → A) (f g : ℕ → List A) (n : ℕ) → ((k : ℕ) → map h (f k) ≡ g k) → map h (upto f n) ≡ upto g n
unfolding upto
map_upto h f g zero e = refl
map_upto h f g (suc n) e = map-append h (upto f n) (f n) ∙ ap₂ ◌++◌ (map_upto h f g n e) (e n)

-- a list is its elements, one after the other
upto_take : (s : List ℕ) (n : ℕ) → n ≤ length s → upto (λ (k : ℕ). get_or s k 0 ∷ []) n ≡ take n s
unfolding upto
upto_take [] zero h = refl
upto_take (x ∷ s) zero h = refl
upto_take s (suc n) h = ap (λ (l : List ℕ). l ++ (get_or s n 0 ∷ [])) (upto_take s n (omega arith)) ∙ sym (take-suc s n 0 (omega arith))

pub upto_all : (s : List ℕ) → upto (λ (k : ℕ). get_or s k 0 ∷ []) (length s) ≡ s
upto_all s = upto_take s (length s) (omega arith) ∙ take-length s

-- n times the same
snoc : (n x : ℕ) → replicate n x ++ (x ∷ []) ≡ replicate (suc n) x
snoc zero x = refl
snoc (suc n) x = ap (λ (l : List ℕ). x ∷ l) (snoc n x)

pub upto_replicate : (x n : ℕ) → replicate n x ≡ upto (λ (j : ℕ). x ∷ []) n
unfolding upto
upto_replicate x zero = refl
upto_replicate x (suc n) = sym (snoc n x) ∙ ap (λ (l : List ℕ). l ++ (x ∷ [])) (upto_replicate x n)
