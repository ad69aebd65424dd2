-- Turns and sequences of the writers of vertices, over plain lists. Assumes nothing.
use mathlib.Core.Path.{◌≡◌, refl}
use mathlib.Core.List.{List, [], ◌++◌}
use Prim.Native.Nat.{ℕ, ◌+◌, ◌*◌, ◌≤◌}
use native.Mathlib.Omega.{arith}
use native.Mathlib.Nat.{mul_assoc}
use lib.Ieee.{Float}
use lib.ListN.{length, get_or}
use Rattle.vectors.specs.declared.Vec3.{Vec3}
use Rattle.vectors.specs.Vec.{eight, vpast}
use Rattle.vectors.proofs.Flat.{first_eight}
use Rattle.lists.specs.Put.{put, upto}
use Rattle.lists.proofs.Puts.{next, turn, kept, length_upto, upto_more}
use Rattle.boxes.specs.declared.Bounds.{Bounds}
use Rattle.boxes.proofs.Laws.{grown_none, grown_next, grown_turn}
use Rattle.boxes.specs.Bounds.{single}
use Rattle.rings.specs.Post.{VertexRoom, Wrote, Began}

-- the three buffers at once: one write after another
pub wrote_next : {b₀ b b' : Bounds} {p₀ n₀ p n p' n' : List Float} {t₀ t t' : List ℕ} (v w : ℕ) (x x' y y' : List Float) (z z' : List ℕ)
    → Wrote b p n t w x' y' z' b' p' n' t' → Wrote b₀ p₀ n₀ t₀ v x y z b p n t
    → w ≡ v + length z → length x ≡ 3 * length z → length y ≡ 3 * length z
    → Wrote b₀ p₀ n₀ t₀ v (x ++ x') (y ++ y') (z ++ z') b' p' n' t'
wrote_next {b₀} v w x x' y y' z z' d a h hx hy = record {
  pos = next _ _ (3 * v) (3 * w) x x' d.pos a.pos (omega arith);
  norm = next _ _ (3 * v) (3 * w) y y' d.norm a.norm (omega arith);
  tag = next _ _ v w z z' d.tag a.tag h;
  box = grown_next (length z) b₀ x x' d.box a.box hx;
}

-- a turn of a loop that writes m vertices a turn to the three
pub wrote_turn : {b₀ b b' : Bounds} {p₀ n₀ p n p' n' : List Float} {t₀ t t' : List ℕ} (f g : ℕ → List Float) (h : ℕ → List ℕ) (m : ℕ)
    → ((k : ℕ) → length (f k) ≡ m * 3) → ((k : ℕ) → length (g k) ≡ m * 3) → ((k : ℕ) → length (h k) ≡ m)
    → (v w k : ℕ) → Wrote b p n t w (f k) (g k) (h k) b' p' n' t' → Wrote b₀ p₀ n₀ t₀ v (upto f k) (upto g k) (upto h k) b p n t
    → w ≡ v + k * m
    → Wrote b₀ p₀ n₀ t₀ v (upto f (k + 1)) (upto g (k + 1)) (upto h (k + 1)) b' p' n' t'
wrote_turn {b₀} f g h m hf hg hh v w k d a e =
    let e3 : 3 * w ≡ 3 * v + k * (m * 3) = omega (arith, mul_assoc k m 3) in
    record {
      pos = turn f (m * 3) hf _ (3 * v) (3 * w) k d.pos a.pos e3;
      norm = turn g (m * 3) hg _ (3 * v) (3 * w) k d.norm a.norm e3;
      tag = turn h m hh _ v w k d.tag a.tag e;
      box = grown_turn f m hf b₀ k d.box a.box;
    }

-- a turn of a loop that writes c times m vertices to the three
pub wrote_more : {b₀ b b' : Bounds} {p₀ n₀ p n p' n' : List Float} {t₀ t t' : List ℕ} (f g f' g' : ℕ → List Float) (h h' : ℕ → List ℕ) (m : ℕ)
    → ((k : ℕ) → length (f k) ≡ m * 3) → ((k : ℕ) → length (g k) ≡ m * 3) → ((k : ℕ) → length (h k) ≡ m)
    → (v w k c : ℕ) → ((j : ℕ) → f' j ≡ f (k + j)) → ((j : ℕ) → g' j ≡ g (k + j)) → ((j : ℕ) → h' j ≡ h (k + j))
    → Wrote b p n t w (upto f' c) (upto g' c) (upto h' c) b' p' n' t' → Wrote b₀ p₀ n₀ t₀ v (upto f k) (upto g k) (upto h k) b p n t
    → w ≡ v + k * m
    → Wrote b₀ p₀ n₀ t₀ v (upto f (k + c)) (upto g (k + c)) (upto h (k + c)) b' p' n' t'
wrote_more f g f' g' h h' m hf hg hh v w k c ef eg eh d a e =
    let lf = length_upto f (m * 3) k (λ j _. hf j) in
    let lg = length_upto g (m * 3) k (λ j _. hg j) in
    let lh = length_upto h m k (λ j _. hh j) in
    let s = mul_assoc k m 3 in
    rw (upto_more f f' k c ef, upto_more g g' k c eg, upto_more h h' k c eh) at
    (wrote_next v w (upto f k) (upto f' c) (upto g k) (upto g' c) (upto h k) (upto h' c) d a (omega arith) (omega arith) (omega arith))

-- the three keep their lengths
pub room : {b₀ b : Bounds} {p₀ n₀ p n : List Float} {t₀ t : List ℕ} (v : ℕ) (x y : List Float) (z : List ℕ) (m : ℕ)
    → Wrote b₀ p₀ n₀ t₀ v x y z b p n t → VertexRoom p₀ n₀ t₀ m → (k : ℕ) → k ≤ m → VertexRoom p n t k
room v x y z m w r k h = record {
  pos = omega (arith, kept _ _ _ w.pos, r.pos);
  norm = omega (arith, kept _ _ _ w.norm, r.norm);
  tag = omega (arith, kept _ _ _ w.tag, r.tag);
}

pub same_room : {b₀ b : Bounds} {p₀ n₀ p n : List Float} {t₀ t : List ℕ} (v : ℕ) (x y : List Float) (z : List ℕ) {m : ℕ}
    → Wrote b₀ p₀ n₀ t₀ v x y z b p n t → VertexRoom p₀ n₀ t₀ m → VertexRoom p n t m
same_room v x y z {m} w r = room v x y z m w r m (omega arith)

pub less : {p n : List Float} {t : List ℕ} (m k : ℕ) → VertexRoom p n t m → k ≤ m → VertexRoom p n t k
less m k r h = record { pos = omega (arith, r.pos); norm = omega (arith, r.norm); tag = omega (arith, r.tag) }

-- nothing is written yet, and the box is as it was
pub wrote_none : (b : Bounds) (p n : List Float) (t : List ℕ) (v : ℕ) → Wrote b p n t v [] [] [] b p n t
unfolding put
wrote_none b p n t v = record { pos = refl; norm = refl; tag = refl; box = grown_none b }

-- a box that was begun with the first vertex of a ring
pub began_ring : {b c : Bounds} {p₀ n₀ p n : List Float} {t₀ t : List ℕ} {v : ℕ} (ps : List Vec3) (l : List Float) {ys : List Float} {zs : List ℕ}
    → b ≡ single (get_or ps 0 vpast) → Wrote b p₀ n₀ t₀ v (eight ps ++ l) ys zs c p n t → Began p₀ n₀ t₀ v (eight ps ++ l) ys zs c p n t
began_ring ps l e w = rw (first_eight ps l, ← e) w
