-- A pass in place and a pass over a clone, turn by turn and entry by entry.
use mathlib.Core.Path.{◌≡◌, refl, sym, ap, subst, ◌∙◌}
use mathlib.Core.List.{List}
use mathlib.Core.Bool.{Bool, true, false, cond}
use mathlib.Core.Logic.{⊎_elim}
use Prim.Native.Nat.{ℕ, zero, suc, ◌+◌, ◌*◌, ◌-◌, ◌<◌, ◌≤◌}
use native.Mathlib.Omega.{arith}
use native.Mathlib.Nat.{add-zero, add-suc, eq-or-lt_of_le}
use native.Mathlib.Numerals.{add-one}
use borrow.Author.Tests.{lt-ltb, le-ltb, eq-eqb, ne_eqb}
use lib.Dec.{ltb, eqb}
use lib.ListN.{length}
use lib.Ieee.{Float}
use Rattle.vectors.specs.declared.Vec3.{Vec3}
use Rattle.vectors.specs.Vec.{floats, vec_at}
use Rattle.lists.specs.Put.{put}
use Rattle.lists.proofs.Puts.{length_put}
use Rattle.lists.proofs.Bools.{or_by_rest}
use Rattle.shape.specs.Guide.{smooth_guide, smooth_position}
use Rattle.smooth.specs.Pass.{vectors, Smoothable, after, at_end, guide_after, guide_pass, position_after, position_pass, repeated, smooth_guides, smooth_positions}
use Rattle.smooth.specs.Turns.{Rule, Underway, over_clone, rust_guides, rust_positions, begun, turn_at, turns}
use Rattle.vectors.proofs.Flat.{vec_past, vec_before, vec_in, floats_at, length_floats, by_vectors}

pub after_le : (n i : ℕ) → i ≤ after n i
after_le n i = at (ltb (i + 1) n)
  where
    at : (t : Bool) → i ≤ cond t (i + 1) i
    at true = omega arith
    at false = omega arith

-- ---- over a clone, and in place

module _ (rule : Rule) (n a : ℕ) (l : List Float) where
  pub length_clone : (k : ℕ) → length (over_clone rule n a k l) ≡ length l
  unfolding over_clone
  length_clone zero = refl
  length_clone (suc k) = length_put (over_clone rule n a k l) (3 * (a + k)) (floats _) ∙ length_clone k

  -- residues that no turn has come to
  pub clone_past : (k j : ℕ) → a + k ≤ j → vec_at (over_clone rule n a k l) j ≡ vec_at l j
  unfolding over_clone
  clone_past zero j h = refl
  clone_past (suc k) j h = vec_past (over_clone rule n a k l) (3 * (a + k)) (floats _) j (omega arith) ∙ clone_past k j (omega arith)

  pub clone_before : (k j : ℕ) → j < a → vec_at (over_clone rule n a k l) j ≡ vec_at l j
  unfolding over_clone
  clone_before zero j h = refl
  clone_before (suc k) j h = vec_before (over_clone rule n a k l) (3 * (a + k)) (floats _) j (omega arith) ∙ clone_before k j h

  -- the others: their rule, of the clone
  pub clone_at : (k j : ℕ) → a ≤ j → j < a + k → 3 * (a + k) ≤ length l
      → vec_at (over_clone rule n a k l) j ≡ rule (vec_at l (j - 1)) (vec_at l j) (vec_at l (after n j))
  unfolding over_clone
  clone_at zero j ha h fits = absurd (omega arith)
  clone_at (suc k) j ha h fits =
      let c = over_clone rule n a k l in
      let le : j ≤ a + k = omega arith in
      let v = rule (vec_at l (a + k - 1)) (vec_at l (a + k)) (vec_at l (after n (a + k))) in
      ⊎_elim
      (λ e. subst (λ (i : ℕ). vec_at (put c (3 * (a + k)) (floats v)) i ≡ rule (vec_at l (i - 1)) (vec_at l i) (vec_at l (after n i))) (sym e)
      (vec_in c (a + k) v (omega (arith, length_clone k))))
      (λ p. vec_before c (3 * (a + k)) (floats v) j (omega arith) ∙ clone_at k j ha p (omega arith))
      (eq-or-lt_of_le le)

  -- 02 §3: after every turn the list is the clone's, and what is kept is the old value of the residue before
  pub in_place : (k : ℕ) → ((turns rule n a k (begun a l)).list ≡ over_clone rule n a k l) × ((turns rule n a k (begun a l)).kept ≡ vec_at l (a + k - 1))
  unfolding over_clone turns turn_at
  in_place zero = (refl, ap (λ (i : ℕ). vec_at l (i - 1)) (sym (add-zero a)))
  in_place (suc k) =
      let h = turns rule n a k (begun a l) in
      let e = in_place k in
      let own : vec_at h.list (a + k) ≡ vec_at l (a + k) = ap (λ (m : List Float). vec_at m (a + k)) e.0 ∙ clone_past k (a + k) (omega arith) in
      let next : vec_at h.list (after n (a + k)) ≡ vec_at l (after n (a + k)) =
      ap (λ (m : List Float). vec_at m (after n (a + k))) e.0 ∙ clone_past k (after n (a + k)) (after_le n (a + k)) in
      (rw (own, next, e.0, e.1), own ∙ ap (vec_at l) (omega arith))

  -- the same of both
  pub in_hands : (k : ℕ) → turns rule n a k (begun a l) ≡ record { list = over_clone rule n a k l; kept = vec_at l (a + k - 1) }
  in_hands k = let e = in_place k in rw (e.0, e.1)

-- What a loop over residues holds after k turns from residue a on: the list b, and prev.
pub record Turned (rule : Rule) (n a k : ℕ) (l b : List Float) (prev : Vec3) : Type 0 where
  pub in_list : b ≡ (turns rule n a k (begun a l)).list
  pub in_hand : prev ≡ (turns rule n a k (begun a l)).kept

pub turned_none : (rule : Rule) (n a : ℕ) (l : List Float) {prev : Vec3} → prev ≡ vec_at l (a - 1) → Turned rule n a 0 l l prev
unfolding turns
turned_none rule n a l e = record { in_list = refl; in_hand = e }

pub turned_long : {rule : Rule} {n a k : ℕ} {l b : List Float} {prev : Vec3} → Turned rule n a k l b prev → length b ≡ length l
turned_long {rule} {n} {a} {k} {l} t = ap length (t.in_list ∙ (in_place rule n a l k).0) ∙ length_clone rule n a l k

-- a turn more, at residue i
pub turned_more : {rule : Rule} {n a k : ℕ} {l b b' : List Float} {prev here next v : Vec3} (i k' : ℕ) → Turned rule n a k l b prev
    → here ≡ vec_at b i → next ≡ vec_at b (after n i) → v ≡ rule prev here next → b' ≡ put b (3 * i) (floats v) → i ≡ a + k → k' ≡ k + 1
    → Turned rule n a k' l b' here
unfolding turns turn_at
turned_more {rule} {n} {a} {k} {l} i k' t eh en ev e' ei ek =
    let e = t.in_list in
    let ep = t.in_hand in
    rw (ek ∙ add-one k) (record { in_list = rw (sym ei) (cc); in_hand = rw (sym ei) (cc) })

-- j turns and then k are j + k turns
pub in_two : (rule : Rule) (n a j k : ℕ) (h : Underway) → turns rule n a (j + k) h ≡ turns rule n (a + j) k (turns rule n a j h)
unfolding turns
in_two rule n a j zero h = ap (λ (i : ℕ). turns rule n a i h) (add-zero j)
in_two rule n a j (suc k) h =
    ap (λ (i : ℕ). turns rule n a i h) (add-suc j k)
    ∙ ap (λ (g : Underway). turn_at rule n (a + (j + k)) g) (in_two rule n a j k h)
    ∙ ap (λ (i : ℕ). turn_at rule n i (turns rule n (a + j) k (turns rule n a j h))) (omega arith)

pub enough : (rule : Rule) (n a : ℕ) (l : List Float) (j k : ℕ)
    → (turns rule n (a + j) k (record { list = over_clone rule n a j l; kept = vec_at l (a + j - 1) })).list ≡ over_clone rule n a (j + k) l
enough rule n a l j k =
    ap (λ (u : Underway). (turns rule n (a + j) k u).list) (sym (in_hands rule n a l j))
    ∙ ap (λ (u : Underway). u.list) (sym (in_two rule n a j k (begun a l))) ∙ (in_place rule n a l (j + k)).0

-- ---- the two passes, entry by entry

pub guide_at : (n : ℕ) (old : List Float) (i : ℕ) → i < n → vec_at (guide_pass n old) i ≡ guide_after n old i
unfolding guide_pass
guide_at n old i h = floats_at (guide_after n old) n i h

pub position_at : (n : ℕ) (old : List Float) (i : ℕ) → i < n → vec_at (position_pass n old) i ≡ position_after n old i
unfolding position_pass
position_at n old i h = floats_at (position_after n old) n i h

pub length_guides : (n : ℕ) (old : List Float) → length (guide_pass n old) ≡ 3 * n
unfolding guide_pass
length_guides n old = length_floats (guide_after n old) n

pub length_positions : (n : ℕ) (old : List Float) → length (position_pass n old) ≡ 3 * n
unfolding position_pass
length_positions n old = length_floats (position_after n old) n

last_is_end : (n i : ℕ) → i + 1 ≡ n → at_end n i ≡ true
last_is_end n i e = or_by_rest (eqb i 0) (eqb (i + 1) n) (eq-eqb (i + 1) n e)

pub at_last : (n : ℕ) (old : List Float) (i : ℕ) → i + 1 ≡ n → position_after n old i ≡ vec_at old i
at_last n old i e = rw (last_is_end n i e)

pub between_ends : (n : ℕ) (old : List Float) (i : ℕ) → 0 < i → i + 1 < n
    → position_after n old i ≡ smooth_position (vec_at old (i - 1)) (vec_at old i) (vec_at old (i + 1))
between_ends n old i h b = rw (ne_eqb i 0 (λ e. omega arith), ne_eqb (i + 1) n (λ e. omega arith))

pub after_inner : (n i : ℕ) → i + 1 < n → after n i ≡ i + 1
after_inner n i h = rw (lt-ltb (i + 1) n h)

pub inner_guide : (n i : ℕ) (old : List Float) → i + 1 < n
    → vec_at (guide_pass n old) i ≡ smooth_guide (vec_at old (i - 1)) (vec_at old i) (vec_at old (i + 1))
inner_guide n i old h =
    guide_at n old i (omega arith) ∙ ap (λ (k : ℕ). smooth_guide (vec_at old (i - 1)) (vec_at old i) (vec_at old k)) (after_inner n i h)

pub first_guide : (n : ℕ) (old : List Float) → 2 ≤ n → vec_at (guide_pass n old) 0 ≡ smooth_guide (vec_at old 0) (vec_at old 0) (vec_at old 1)
first_guide n old h = inner_guide n 0 old (omega arith)

pub last_guide : (n : ℕ) (old : List Float) → 2 ≤ n
    → vec_at (guide_pass n old) (n - 1) ≡ smooth_guide (vec_at old (n - 2)) (vec_at old (n - 1)) (vec_at old (n - 1))
last_guide n old h =
    let e : n - 1 - 1 ≡ n - 2 = omega arith in
    let own : after n (n - 1) ≡ n - 1 = rw (le-ltb (n - 1 + 1) n (omega arith)) in
    guide_at n old (n - 1) (omega arith)
    ∙ ap (λ (k : ℕ). smooth_guide (vec_at old k) (vec_at old (n - 1)) (vec_at old (after n (n - 1)))) e
    ∙ ap (λ (k : ℕ). smooth_guide (vec_at old (n - 2)) (vec_at old (n - 1)) (vec_at old k)) own

pub inner_position : (n i : ℕ) (old : List Float) → 0 < i → i + 1 < n
    → vec_at (position_pass n old) i ≡ smooth_position (vec_at old (i - 1)) (vec_at old i) (vec_at old (i + 1))
inner_position n i old b h = position_at n old i (omega arith) ∙ between_ends n old i b h

pub guides_clone : (n : ℕ) (l : List Float) → length l ≡ 3 * n → over_clone smooth_guide n 0 n l ≡ guide_pass n l
guides_clone n l h =
    by_vectors n (over_clone smooth_guide n 0 n l) (guide_pass n l) (length_clone smooth_guide n 0 l n ∙ h) (length_guides n l)
    (λ i b. clone_at smooth_guide n 0 l n i (omega arith) (omega arith) (omega arith) ∙ sym (guide_at n l i b))

-- both ends, and what stands between them
pub positions_clone : (n : ℕ) (l : List Float) → length l ≡ 3 * n → over_clone smooth_position n 1 (n - 2) l ≡ position_pass n l
positions_clone n l h =
    by_vectors n (over_clone smooth_position n 1 (n - 2) l) (position_pass n l) (length_clone smooth_position n 1 l (n - 2) ∙ h) (length_positions n l)
    (λ i b. entry i b ∙ sym (position_at n l i b))
  where
    entry : (i : ℕ) → i < n → vec_at (over_clone smooth_position n 1 (n - 2) l) i ≡ position_after n l i
    entry zero b = clone_before smooth_position n 1 l (n - 2) 0 (omega arith)
    entry (suc j) b =
        ⊎_elim
        (λ e. clone_past smooth_position n 1 l (n - 2) (suc j) (omega arith) ∙ sym (at_last n l (suc j) (omega arith)))
        (λ p. clone_at smooth_position n 1 l (n - 2) (suc j) (omega arith) (omega arith) (omega arith)
        ∙ ap (λ (k : ℕ). smooth_position (vec_at l (suc j - 1)) (vec_at l (suc j)) (vec_at l k)) (after_inner n (suc j) (omega arith))
        ∙ sym (between_ends n l (suc j) (omega arith) (omega arith)))
        (eq-or-lt_of_le b)

-- the list after the last turn
pub guides_done : {n k : ℕ} {l b : List Float} {prev : Vec3} → Turned smooth_guide n 0 k l b prev → k ≡ n → length l ≡ 3 * n → b ≡ guide_pass n l
guides_done {n} {k} {l} t ek h =
    t.in_list ∙ (in_place smooth_guide n 0 l k).0 ∙ ap (λ (i : ℕ). over_clone smooth_guide n 0 i l) ek ∙ guides_clone n l h

pub positions_done : {n k : ℕ} {l b : List Float} {prev : Vec3} → Turned smooth_position n 1 k l b prev → k ≡ n - 2 → length l ≡ 3 * n → b ≡ position_pass n l
positions_done {n} {k} {l} t ek h =
    t.in_list ∙ (in_place smooth_position n 1 l k).0 ∙ ap (λ (i : ℕ). over_clone smooth_position n 1 i l) ek ∙ positions_clone n l h

-- ---- passes

-- What a loop over passes holds after k of them.
pub record Passed (pass : List Float → List Float) (n k : ℕ) (l b : List Float) : Type 0 where
  pub by_passes : b ≡ repeated pass k l
  pub long : length b ≡ 3 * n

pub passed_none : (pass : List Float → List Float) (n : ℕ) (l : List Float) → length l ≡ 3 * n → Passed pass n 0 l l
unfolding repeated
passed_none pass n l h = record { by_passes = refl; long = h }

-- one pass more
pub passed_more : {pass : List Float → List Float} {n k : ℕ} {l b b' : List Float} → ((m : List Float) → length (pass m) ≡ 3 * n)
    → Passed pass n k l b → b' ≡ pass b → Passed pass n (k + 1) l b'
unfolding repeated
passed_more {pass} {n} {k} {l} {b} long p e = record {
  by_passes = e ∙ ap pass p.by_passes ∙ ap (λ (j : ℕ). repeated pass j l) (sym (add-one k));
  long = ap length e ∙ long b;
}

pub passed_all : {pass : List Float → List Float} {n k : ℕ} {l b : List Float} (passes : ℕ) → Passed pass n k l b → k ≡ passes → b ≡ repeated pass passes l
passed_all {pass} {n} {k} {l} passes p e = p.by_passes ∙ ap (λ (j : ℕ). repeated pass j l) e

-- a passes and then b are a + b passes (02 §9), and so for each of the two smoothings
pub repeated_add : (pass : List Float → List Float) (a b : ℕ) (l : List Float) → repeated pass b (repeated pass a l) ≡ repeated pass (a + b) l
unfolding repeated
repeated_add pass a zero l = ap (λ (k : ℕ). repeated pass k l) (sym (add-zero a))
repeated_add pass a (suc b) l = ap pass (repeated_add pass a b l) ∙ ap (λ (k : ℕ). repeated pass k l) (sym (add-suc a b))

pub guides_in_stages : (a b n : ℕ) (l : List Float) → smooth_guides b n (smooth_guides a n l) ≡ smooth_guides (a + b) n l
unfolding smooth_guides
guides_in_stages a b n l = repeated_add (guide_pass n) a b l

pub positions_in_stages : (a b n : ℕ) (l : List Float) → smooth_positions b n (smooth_positions a n l) ≡ smooth_positions (a + b) n l
unfolding smooth_positions
positions_in_stages a b n l = repeated_add (position_pass n) a b l

-- passes that keep a length, or a vector
module _ (n : ℕ) (pass : List Float → List Float) (long : (l : List Float) → length (pass l) ≡ 3 * n) where
  pub repeated_long : (k : ℕ) (l : List Float) → length l ≡ 3 * n → length (repeated pass k l) ≡ 3 * n
  unfolding repeated
  repeated_long zero l h = h
  repeated_long (suc k) l h = long (repeated pass k l)

  pub repeated_same : (other : List Float → List Float) → ((l : List Float) → length l ≡ 3 * n → other l ≡ pass l)
      → (k : ℕ) (l : List Float) → length l ≡ 3 * n → repeated other k l ≡ repeated pass k l
  unfolding repeated
  repeated_same other same zero l h = refl
  repeated_same other same (suc k) l h = ap other (repeated_same other same k l h) ∙ same (repeated pass k l) (repeated_long k l h)

pub repeated_keeps : (pass : List Float → List Float) (i : ℕ) → ((l : List Float) → vec_at (pass l) i ≡ vec_at l i)
    → (k : ℕ) (l : List Float) → vec_at (repeated pass k l) i ≡ vec_at l i
unfolding repeated
repeated_keeps pass i keeps zero l = refl
repeated_keeps pass i keeps (suc k) l = keeps (repeated pass k l) ∙ repeated_keeps pass i keeps k l

-- ---- lists that may be smoothed

pub vectors_of : (l : List Float) (n : ℕ) → length l ≡ 3 * n → vectors l ≡ n
vectors_of l n h = rw h (omega arith)

pub smoothable : (l : List Float) (n : ℕ) → length l ≡ 3 * n → 2 ≤ n → Smoothable l
smoothable l n h b = record { whole = h ∙ ap (λ (k : ℕ). 3 * k) (sym (vectors_of l n h)); two = rw (vectors_of l n h) b }

-- ---- the Rust's functions

pub guides_rust : (passes n : ℕ) (l : List Float) → length l ≡ 3 * n → smooth_guides passes n l ≡ rust_guides passes n l
unfolding smooth_guides rust_guides
guides_rust passes n l h = sym (repeated_same n (guide_pass n) (length_guides n) (over_clone smooth_guide n 0 n) (guides_clone n) passes l h)

pub positions_rust : (passes n : ℕ) (l : List Float) → length l ≡ 3 * n → smooth_positions passes n l ≡ rust_positions passes n l
unfolding smooth_positions rust_positions
positions_rust passes n l h = sym (repeated_same n (position_pass n) (length_positions n) (over_clone smooth_position n 1 (n - 2)) (positions_clone n) passes l h)

pub long_guides : (passes n : ℕ) (l : List Float) → length l ≡ 3 * n → length (smooth_guides passes n l) ≡ 3 * n
unfolding smooth_guides
long_guides passes n l h = repeated_long n (guide_pass n) (length_guides n) passes l h

pub long_positions : (passes n : ℕ) (l : List Float) → length l ≡ 3 * n → length (smooth_positions passes n l) ≡ 3 * n
unfolding smooth_positions
long_positions passes n l h = repeated_long n (position_pass n) (length_positions n) passes l h

pub first_stays : (passes n : ℕ) (l : List Float) → 1 ≤ n → vec_at (smooth_positions passes n l) 0 ≡ vec_at l 0
unfolding smooth_positions
first_stays passes n l h = repeated_keeps (position_pass n) 0 (λ m. position_at n m 0 h) passes l

pub last_stays : (passes n : ℕ) (l : List Float) → 1 ≤ n → vec_at (smooth_positions passes n l) (n - 1) ≡ vec_at l (n - 1)
unfolding smooth_positions
last_stays passes n l h =
    repeated_keeps (position_pass n) (n - 1) (λ m. position_at n m (n - 1) (omega arith) ∙ at_last n m (n - 1) (omega arith)) passes l
