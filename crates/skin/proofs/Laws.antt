-- A tube's vertices, over plain lists: rings of a span, lengths, and the parts in which the buffers are written. Assumes nothing.
use mathlib.Core.Path.{◌≡◌, refl, sym, ap, ◌∙◌}
use mathlib.Core.List.{List, [], ◌∷◌, ◌++◌, append_assoc}
use Prim.Native.Nat.{ℕ, suc, ◌+◌, ◌*◌, ◌-◌, ◌/◌, ◌%◌, ◌≤◌, ◌<◌}
use native.Mathlib.Omega.{arith}
use lib.Ieee.{Float}
use lib.ListN.{length, take, drop, length-append}
use borrow.Author.Tests.{lt-ltb}
use lib.Seq.{take_at, drop_at, length-take-le}
use Rattle.vectors.specs.declared.Vec3.{Vec3}
use Rattle.vectors.specs.Vec.{floats, vec_at}
use Rattle.boxes.specs.declared.Bounds.{Bounds}
use Rattle.boxes.specs.Bounds.{grown_by, bounds_of}
use Rattle.boxes.proofs.Laws.{grown_next}
use Rattle.rings.specs.Post.{Wrote, Began}
use Rattle.vectors.proofs.Flat.{length_eight, vec_front}
use Rattle.lists.specs.Put.{put, upto}
use Rattle.lists.proofs.Puts.{next, length_upto}
use Rattle.shape.specs.declared.Kind.{Kind}
use Rattle.shape.specs.declared.Spoke.{Spoke}
use Rattle.shape.specs.declared.Oxygen.{Oxygen}
use Rattle.shape.specs.Ring.{half_sizes, spokes_of}
use Rattle.shape.specs.Guide.{between}
use Rattle.curve.specs.declared.Frame.{Frame}
use Rattle.curve.specs.Samples.{span_of, span_at, param_at, frame_of, frame_at}
use Rattle.curve.specs.Residues.{oxygen_at, guides_of, points_of}
use Rattle.curve.proofs.Laws.{length_guides_of, length_points_of}
use Rattle.edges.specs.Tube.{vertex_count}
use Rattle.edges.proofs.Theorems.{vertex_count_lem}
use Rattle.skin.specs.Post.{Course, Residues}
use Rattle.skin.specs.Tube.{ordered, ring_positions, ring_normals, ring_tags, skin_positions, skin_normals, positions_of, normals_of, tags_of}
use Rattle.lists.proofs.Any.{rest}

-- the frame of a sample that lies in the same span as sample `from`, from what that span gives
span_there : (n from j : ℕ) → from % 8 + j < 8 → from / 8 + 1 < n → span_at n (from + j) ≡ from / 8
unfolding span_at
span_there n from j l h = rw (same from j l, lt-ltb (from / 8 + 1) n h)
  where
    same : (from j : ℕ) → from % 8 + j < 8 → (from + j) / 8 ≡ from / 8
    same from j l = omega arith

pub on_span : (p g : List Float) (n from j : ℕ) {q : List Vec3} {a b m : Vec3} {t : Float} {f : Frame} → from % 8 + j < 8 → from / 8 + 1 < n
    → q ≡ span_of p n (from / 8) → a ≡ vec_at g (from / 8) → b ≡ vec_at g (from / 8 + 1) → t ≡ param_at n (from + j) → m ≡ between a b t → f ≡ frame_of q t m
    → f ≡ frame_at p g n (from + j)
unfolding frame_at
on_span p g n from j l h eq ea eb et em ef = ef ∙ rw (em, eq, ea, eb, et, span_there n from j l h)

pub length_positions : (kind : Kind) (p g : List Float) (n s : ℕ) → length (ring_positions kind p g n s) ≡ 24
unfolding ring_positions
length_positions kind p g n s = length_eight _

pub length_normals : (kind : Kind) (p g : List Float) (n s : ℕ) → length (ring_normals kind p g n s) ≡ 24
unfolding ring_normals
length_normals kind p g n s = length_eight _

pub length_tags : (first n s : ℕ) → length (ring_tags first n s) ≡ 8
unfolding ring_tags
length_tags first n s = refl

length_ordered : {A : Type 0} (c d n : ℕ) (ring : ℕ → List A) (start end : List A) → ((s : ℕ) → length (ring s) ≡ c) → length start ≡ d → length end ≡ d
    → length (ordered n ring start end) ≡ c + d + 8 * (n - 1) * c + d
unfolding ordered
length_ordered c d n ring start end hr hs he =
    let lu = length_upto (λ (s : ℕ). ring (s + 1)) c (8 * (n - 1)) (λ s _. hr (s + 1)) in
    simp (length-append, hr, hs, he, lu)

-- a tube has vertex_count n vertices in each of the three
pub length_positions_of : (kind : Kind) (ca : List Float) (o : ℕ → Oxygen) (n : ℕ) → 2 ≤ n → length (positions_of kind ca o n) ≡ 3 * vertex_count n
unfolding positions_of skin_positions
length_positions_of kind ca o n two =
    length_ordered 24 3 n _ _ _ (length_positions kind (points_of kind ca n) (guides_of kind ca o n) n) refl refl ∙ omega (arith, vertex_count_lem n two)

pub length_normals_of : (kind : Kind) (ca : List Float) (o : ℕ → Oxygen) (n : ℕ) → 2 ≤ n → length (normals_of kind ca o n) ≡ 3 * vertex_count n
unfolding normals_of skin_normals
length_normals_of kind ca o n two =
    length_ordered 24 3 n _ _ _ (length_normals kind (points_of kind ca n) (guides_of kind ca o n) n) refl refl ∙ omega (arith, vertex_count_lem n two)

pub length_tags_of : (first n : ℕ) → 2 ≤ n → length (tags_of first n) ≡ vertex_count n
unfolding tags_of
length_tags_of first n two = length_ordered 8 1 n _ _ _ (length_tags first n) refl refl ∙ omega (arith, vertex_count_lem n two)

-- a buffer's list in the three parts in which it is written: the first ring with the start's centre, the rings between, and the last ring with the end's centre
in_parts : {A : Type 0} (n : ℕ) (ring : ℕ → List A) (start end : List A) → 2 ≤ n
    → ((ring 0 ++ start) ++ upto (λ (s : ℕ). ring (s + 1)) (8 * (n - 1) - 1)) ++ (ring (8 * (n - 1)) ++ end) ≡ ordered n ring start end
unfolding ordered upto
in_parts n ring start end h =
    let m : ℕ = 8 * (n - 1) - 1 in
    let u : ℕ → List _ = upto (λ (s : ℕ). ring (s + 1)) in
    let last : 8 * (n - 1) ≡ suc m = omega arith in
    let more : u (8 * (n - 1)) ≡ u m ++ ring (8 * (n - 1)) = ap u last ∙ ap (λ (s : ℕ). u m ++ ring s) (omega arith) in
    rw more (simp append_assoc)

-- one buffer, written in these parts. A ring fills c places and a centre d
parts : {A : Type 0} (c d n : ℕ) (ring : ℕ → List A) (start end l : List A) (i j k : ℕ) {b₁ b₂ b₃ : List A} → 2 ≤ n
    → ((s : ℕ) → length (ring s) ≡ c) → length start ≡ d
    → b₁ ≡ put l i (ring 0 ++ start) → b₂ ≡ put b₁ j (upto (λ (s : ℕ). ring (s + 1)) (8 * (n - 1) - 1)) → b₃ ≡ put b₂ k (ring (8 * (n - 1)) ++ end)
    → j ≡ i + (c + d) → k ≡ j + (8 * (n - 1) - 1) * c
    → b₃ ≡ put l i (ordered n ring start end)
parts c d n ring start end l i j k {b₁} {b₂} h hr hs e₁ e₂ e₃ hj hk =
    let m : ℕ = 8 * (n - 1) - 1 in
    let u : List _ = upto (λ (s : ℕ). ring (s + 1)) m in
    let la : length (ring 0 ++ start) ≡ c + d = length-append (ring 0) start ∙ ap (λ (x : ℕ). x + length start) (hr 0) ∙ ap (λ (x : ℕ). c + x) hs in
    let lu : length u ≡ m * c = length_upto (λ (s : ℕ). ring (s + 1)) c m (λ s _. hr (s + 1)) in
    let s₁ = next l b₁ i j (ring 0 ++ start) u e₂ e₁ (hj ∙ ap (λ (x : ℕ). i + x) (sym la)) in
    let hk' : k ≡ i + length ((ring 0 ++ start) ++ u) =
    omega (arith, length-append (ring 0 ++ start) u, la, lu, hj, hk) in
    next l b₂ i k ((ring 0 ++ start) ++ u) (ring (8 * (n - 1)) ++ end) e₃ s₁ hk' ∙ ap (put l i) (in_parts n ring start end h)

-- the box, taken further in these parts, is that of the whole list from its first vertex on
boxed : (n : ℕ) (ring : ℕ → List Float) (start end : List Float) {b₁ b₂ b₃ : Bounds} → 2 ≤ n → ((s : ℕ) → length (ring s) ≡ 24) → length start ≡ 3
    → b₁ ≡ bounds_of (ring 0 ++ start)
    → b₂ ≡ grown_by b₁ (upto (λ (s : ℕ). ring (s + 1)) (8 * (n - 1) - 1)) → b₃ ≡ grown_by b₂ (ring (8 * (n - 1)) ++ end)
    → b₃ ≡ bounds_of (ordered n ring start end)
boxed n ring start end h hr hs e₁ e₂ e₃ =
    let m : ℕ = 8 * (n - 1) - 1 in
    let u : List Float = upto (λ (s : ℕ). ring (s + 1)) m in
    let la : length (ring 0 ++ start) ≡ 27 = omega (arith, length-append (ring 0) start, hr 0, hs) in
    let lu : length u ≡ m * 24 = length_upto (λ (s : ℕ). ring (s + 1)) 24 m (λ s _. hr (s + 1)) in
    let l : length ((ring 0 ++ start) ++ u) ≡ 3 * (9 + m * 8) = omega (arith, length-append (ring 0 ++ start) u, la, lu) in
    let f : vec_at (ordered n ring start end) 0 ≡ vec_at (ring 0 ++ start) 0 =
    ap (λ (z : List Float). vec_at z 0) (sym (in_parts n ring start end h)) ∙ vec_front ((ring 0 ++ start) ++ u) _ 0 (omega arith) ∙ vec_front (ring 0 ++ start) u 0 (omega arith) in
    let s₁ = grown_next 9 _ (ring 0 ++ start) u e₂ e₁ (la ∙ omega arith) in
    let s₂ = grown_next (9 + m * 8) _ ((ring 0 ++ start) ++ u) (ring (8 * (n - 1)) ++ end) e₃ s₁ l in
    rw (f, ← in_parts n ring start end h) s₂

-- the three buffers and the box, each in its three parts
pub whole : (kind : Kind) (p g : List Float) (n first : ℕ) (sp ep sn en : Vec3) (st et : ℕ) {b₁ b₂ b₃ : Bounds} {p₀ n₀ p₁ n₁ p₂ n₂ p₃ n₃ : List Float} {t₀ t₁ t₂ t₃ : List ℕ}
    (v w e : ℕ) → 2 ≤ n → w ≡ v + 9 → e ≡ w + 8 * (8 * (n - 1) - 1)
    → Began p₀ n₀ t₀ v (ring_positions kind p g n 0 ++ floats sp) (ring_normals kind p g n 0 ++ floats sn) (ring_tags first n 0 ++ (st ∷ [])) b₁ p₁ n₁ t₁
    → Wrote b₁ p₁ n₁ t₁ w (upto (λ (s : ℕ). ring_positions kind p g n (s + 1)) (8 * (n - 1) - 1)) (upto (λ (s : ℕ). ring_normals kind p g n (s + 1)) (8 * (n - 1) - 1)) (upto (λ (s : ℕ). ring_tags first n (s + 1)) (8 * (n - 1) - 1)) b₂ p₂ n₂ t₂
    → Wrote b₂ p₂ n₂ t₂ e (ring_positions kind p g n (8 * (n - 1)) ++ floats ep) (ring_normals kind p g n (8 * (n - 1)) ++ floats en) (ring_tags first n (8 * (n - 1)) ++ (et ∷ [])) b₃ p₃ n₃ t₃
    → Began p₀ n₀ t₀ v (ordered n (ring_positions kind p g n) (floats sp) (floats ep)) (ordered n (ring_normals kind p g n) (floats sn) (floats en)) (ordered n (ring_tags first n) (st ∷ []) (et ∷ [])) b₃ p₃ n₃ t₃
whole kind p g n first sp ep sn en st et {p₀ = p₀} {n₀ = n₀} {t₀ = t₀} v w e h hw he a b c = record {
  pos = parts 24 3 n (ring_positions kind p g n) (floats sp) (floats ep) p₀ (3 * v) (3 * w) (3 * e) h (length_positions kind p g n) refl a.pos b.pos c.pos (omega arith) (omega arith);
  norm = parts 24 3 n (ring_normals kind p g n) (floats sn) (floats en) n₀ (3 * v) (3 * w) (3 * e) h (length_normals kind p g n) refl a.norm b.norm c.norm (omega arith) (omega arith);
  tag = parts 8 1 n (ring_tags first n) (st ∷ []) (et ∷ []) t₀ v w e h (length_tags first n) refl a.tag b.tag c.tag (omega arith) (omega arith);
  box = boxed n (ring_positions kind p g n) (floats sp) (floats ep) h (length_positions kind p g n) refl a.box b.box c.box;
}

-- a course s that has been laid over l, of 6n floats: its two parts are what a tube's skin goes over
module _ (kind : Kind) (flags : List ℕ) (l : List Float) (n first : ℕ) (r : Residues flags l n first) {s : List Float}
    (e : s ≡ points_of kind (take (3 * n) l) n ++ guides_of kind (take (3 * n) l) (oxygen_at flags (drop (3 * n) l)) n) where
  points : length (points_of kind (take (3 * n) l) n) ≡ 3 * n
  points = length_points_of kind (take (3 * n) l) n (length-take-le (3 * n) l (omega (arith, r.both)))

  front : take (3 * n) s ≡ points_of kind (take (3 * n) l) n
  front = ap (take (3 * n)) e ∙ take_at _ _ (3 * n) points

  back : take (length s - 3 * n) (drop (3 * n) s) ≡ guides_of kind (take (3 * n) l) (oxygen_at flags (drop (3 * n) l)) n
  back = rest (3 * n) s ∙ ap (drop (3 * n)) e ∙ drop_at (points_of kind (take (3 * n) l) n) _ (3 * n) points

  pub length_front : length (take (3 * n) s) ≡ 3 * n
  length_front = ap length front ∙ points

  pub laid : {spokes : List Spoke} → spokes ≡ spokes_of (half_sizes kind) → Course (take (3 * n) s) (take (length s - 3 * n) (drop (3 * n) s)) n first kind spokes
  laid h = record {
    two = r.two;
    most = r.most;
    points = length_front;
    guides = ap length back ∙ length_guides_of kind (take (3 * n) l) (oxygen_at flags (drop (3 * n) l)) n;
    low = r.low;
    same = h;
  }

  pub covered : {b : Bounds} {p₀ n₀ p' n' : List Float} {t₀ t' z : List ℕ} {v : ℕ}
      → Began p₀ n₀ t₀ v (skin_positions kind (take (3 * n) s) (take (length s - 3 * n) (drop (3 * n) s)) n) (skin_normals kind (take (3 * n) s) (take (length s - 3 * n) (drop (3 * n) s)) n) z b p' n' t'
      → Began p₀ n₀ t₀ v (positions_of kind (take (3 * n) l) (oxygen_at flags (drop (3 * n) l)) n) (normals_of kind (take (3 * n) l) (oxygen_at flags (drop (3 * n) l)) n) z b p' n' t'
  unfolding positions_of normals_of
  covered w = rw (front, back) at w
