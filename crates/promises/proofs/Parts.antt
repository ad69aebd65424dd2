-- A mesh in its buffers: the six lists at the front, and in them each tube's part. Assumes nothing.
use Prim.Native.Nat.{ℕ, zero, suc, ◌+◌, ◌-◌, ◌*◌, ◌<◌, ◌≤◌}
use mathlib.Core.Bool.{false}
use mathlib.Core.List.{List, [], ◌∷◌, ◌++◌, append_assoc}
use mathlib.Core.Path.{◌≡◌, refl, sym, ◌∙◌, ap, subst}
use native.Mathlib.Nat.{zero-add, add_assoc, add-zero}
use native.Mathlib.Omega.{arith}
use lib.ListN.{length, get_or, take, drop, length-take, length-drop}
use lib.Seq.{take_at, drop_at, length-take-le}
use Rattle.lists.proofs.Any.{front_same, part_place}
use Rattle.lists.proofs.Puts.{put_front}
use Rattle.edges.specs.Sound.{Sound}
use Rattle.edges.specs.Tube.{vertex_count, triangle_count}
use Rattle.edges.proofs.Theorems.{tube_sound, mesh_sound, ribbon_counts, vertex_count_lem, triangle_count_lem}
use Rattle.protein.specs.Protein.{Protein}
use Rattle.tubes.specs.Tubes.{Tube}
use Rattle.mesh.specs.Mesh.{size_of, tube_positions, tube_normals, tube_tags, tube_triangles, tube_words, tube_box, vertex_sum, triangle_sum, mesh_positions, mesh_normals, mesh_tags, mesh_triangles, mesh_words, mesh_boxes}
use Rattle.buffers.specs.Outs.{Outs, sizes_of, tight}
use Rattle.buffers.proofs.Laws.{roomy}
use Rattle.room.specs.Room.{Buffers}
use Rattle.tube_theorems.specs.Listing.{Every}
use Rattle.tube_call.specs.Part.{tube_part}
use Rattle.tube_call.proofs.Laws.{part_in}
use Rattle.promises.specs.Calls.{counts_of, words_at, filled, five_words}
use Rattle.promises.specs.Meshes.{HoldsMesh, SameMesh, TubeAt, Stands, TubeStands, vertices_of, triangles_of}
use Rattle.promises.proofs.Tubes.{AllLong, length_positions, length_normals, length_tags, length_triangles, length_words, length_box}
use Rattle.promises.proofs.Meshes.{length_mesh_positions, length_mesh_normals, length_mesh_tags, length_mesh_triangles, length_mesh_words, length_mesh_boxes, split_positions, split_normals, split_tags, split_triangles, split_words, split_boxes, tube_sizes, triangles_closed, vertices_closed, triangle_sum_closed}

-- ---- the fronts

pub holds : (P : Protein) (us : List Tube) (b : Buffers) → AllLong us → tight (counts_of us) (sizes_of b.outs) ≡ false → HoldsMesh P us b.outs (filled P us b.outs)
unfolding filled
holds P us b long t =
    let R = roomy (counts_of us) b.outs t in
    record {
      positions = put_front _ _ _ (length_mesh_positions P us long) R.positions;
      normals = put_front _ _ _ (length_mesh_normals P us long) R.normals;
      tags = put_front _ _ _ (length_mesh_tags us long) R.tags;
      triangles = put_front _ _ _ (length_mesh_triangles 0 us) R.triangles;
      tubes = put_front _ _ _ (length_mesh_words 0 0 us) R.tubes;
      boxes = put_front _ _ _ (length_mesh_boxes P us) R.boxes;
    }

-- two buffers with one list at their fronts
pub fronts : (P : Protein) (us : List Tube) (o o' p p' : Outs) → AllLong us → HoldsMesh P us o o' → HoldsMesh P us p p' → SameMesh (counts_of us) o' p'
fronts P us o o' p p' long a b = record {
  positions = front_same (mesh_positions P us) _ _ _ a.positions b.positions (length_mesh_positions P us long);
  normals = front_same (mesh_normals P us) _ _ _ a.normals b.normals (length_mesh_normals P us long);
  tags = front_same (mesh_tags us) _ _ _ a.tags b.tags (length_mesh_tags us long);
  triangles = front_same (mesh_triangles 0 us) _ _ _ a.triangles b.triangles (length_mesh_triangles 0 us);
  tubes = front_same (mesh_words 0 0 us) _ _ _ a.tubes b.tubes (length_mesh_words 0 0 us);
  boxes = front_same (mesh_boxes P us) _ _ _ a.boxes b.boxes (length_mesh_boxes P us);
}

-- the triangles of the whole mesh, closed
pub front_closed : (P : Protein) (us : List Tube) (o o' : Outs) → HoldsMesh P us o o' → Sound 0 (vertex_sum us) (triangle_sum us) (take (3 * triangle_sum us) o'.triangles)
front_closed P us o o' H =
    let e : take (3 * triangle_sum us) o'.triangles ≡ mesh_triangles 0 us =
    ap (take (3 * triangle_sum us)) H.triangles ∙ take_at (mesh_triangles 0 us) _ (3 * triangle_sum us) (length_mesh_triangles 0 us) in
    rw e (rw (triangles_closed 0 us) (rw (vertices_closed us, triangle_sum_closed us, zero-add) at (mesh_sound 8 8 0 (tube_sizes us) (omega arith))))

-- ---- a part in the middle

middle : {A : Type 0} (a b c d : List A) (i n : ℕ) {l : List A} → l ≡ (a ++ (b ++ c)) ++ d → length a ≡ i → length b ≡ n → Stands l i n b
middle a b c d i n {l} e p q = record {
  long = q;
  there =
      ap (λ (m : List _). take n (drop i m)) (e ∙ append_assoc a (b ++ c) d) ∙ ap (take n) (drop_at a ((b ++ c) ++ d) i p)
      ∙ ap (take n) (append_assoc b c d) ∙ take_at b (c ++ d) n q;
}

-- each of them is long
split_long : (xs : List Tube) (u : Tube) (ws : List Tube) → AllLong (xs ++ u ∷ ws) → AllLong xs × (2 ≤ size_of u)
split_long [] u ws l = (tt, l.0)
split_long (x ∷ xs) u ws l = let r = split_long xs u ws l.1 in ((l.0, r.0), r.1)

-- the buffer's list, and the rest, with a part of it set out
opened : {A : Type 0} (l m r x : List A) → x ≡ l ++ r → l ≡ m → x ≡ m ++ r
opened l m r x e q = e ∙ ap (λ (y : List _). y ++ r) q

tube_closed : (v : ℕ) (u : Tube) → 2 ≤ size_of u → Sound v (v + vertices_of u) (triangles_of u) (tube_triangles v u)
unfolding tube_triangles
tube_closed v u two =
    let c = ribbon_counts (size_of u) two in
    rw (c.1, c.2) at (tube_sound 8 8 v (size_of u) (omega arith))

module _ (P : Protein) (xs : List Tube) (u : Tube) (ws : List Tube) (o o' : Outs) (long : AllLong (xs ++ u ∷ ws)) (H : HoldsMesh P (xs ++ u ∷ ws) o o') where
  words_stand : Stands o'.tubes (5 * length xs) 5 (tube_words (vertex_sum xs) (triangle_sum xs) u)
  words_stand = middle (mesh_words 0 0 xs) (tube_words (vertex_sum xs) (triangle_sum xs) u)
      (mesh_words (vertex_sum xs + vertex_count (size_of u)) (triangle_sum xs + triangle_count (size_of u)) ws) _ _ _
      (opened _ _ _ _ H.tubes (rw (zero-add (vertex_sum xs), zero-add (triangle_sum xs)) at (split_words 0 0 xs u ws))) (length_mesh_words 0 0 xs) (length_words (vertex_sum xs) (triangle_sum xs) u)

  between : TubeStands P u (length xs) (vertex_sum xs) (triangle_sum xs) o'
  between =
      let L = split_long xs u ws long in
      let two = L.1 in
      let v : vertex_count (size_of u) ≡ vertices_of u = vertex_count_lem (size_of u) two in
      let t : triangle_count (size_of u) ≡ triangles_of u = triangle_count_lem (size_of u) two in
      record {
        two = two;
        positions = middle (mesh_positions P xs) (tube_positions P u) (mesh_positions P ws) _ _ _
            (opened _ _ _ _ H.positions (split_positions P xs u ws)) (length_mesh_positions P xs L.0) (length_positions P u two ∙ ap (λ (n : ℕ). 3 * n) v);
        normals = middle (mesh_normals P xs) (tube_normals P u) (mesh_normals P ws) _ _ _
            (opened _ _ _ _ H.normals (split_normals P xs u ws)) (length_mesh_normals P xs L.0) (length_normals P u two ∙ ap (λ (n : ℕ). 3 * n) v);
        tags = middle (mesh_tags xs) (tube_tags u) (mesh_tags ws) _ _ _
            (opened _ _ _ _ H.tags (split_tags xs u ws)) (length_mesh_tags xs L.0) (length_tags u two ∙ v);
        triangles = middle (mesh_triangles 0 xs) (tube_triangles (vertex_sum xs) u) (mesh_triangles (vertex_sum xs + vertex_count (size_of u)) ws) _ _ _
            (opened _ _ _ _ H.triangles (rw zero-add at (split_triangles 0 xs u ws))) (length_mesh_triangles 0 xs) (length_triangles (vertex_sum xs) u ∙ ap (λ (n : ℕ). 3 * n) t);
        words = words_stand;
        box = middle (mesh_boxes P xs) (tube_box P u) (mesh_boxes P ws) _ _ _
            (opened _ _ _ _ H.boxes (split_boxes P xs u ws)) (length_mesh_boxes P xs) (length_box P u);
        closed = tube_closed (vertex_sum xs) u two;
      }

-- ---- tube k of a list

-- the list set out at tube k
pub at_is : (us : List Tube) (k : ℕ) (u : Tube) → TubeAt us k u → us ≡ take k us ++ u ∷ drop (suc k) us
at_is [] k u e = absurd (omega (arith, ap length e, length-drop {A = Tube} k []))
at_is (x ∷ us) zero u e = e
at_is (x ∷ us) (suc k) u e = ap (λ (l : List Tube). x ∷ l) (at_is us k u e)

pub there : (us : List Tube) (k : ℕ) → k < length us → (u : Tube) × TubeAt us k u
there [] k h = absurd (omega arith)
there (u ∷ us) zero h = (u, refl)
there (u ∷ us) (suc k) h = there us k (omega arith)

at_below : (us : List Tube) (k : ℕ) (u : Tube) → TubeAt us k u → k < length us
at_below us k u e = omega (arith, ap length e, length-drop k us)

-- of one list two first tubes are one
first_same : (x u : Tube) (l : List Tube) → x ∷ l ≡ u ∷ l → x ≡ u
first_same x u l e = cc

pub every_at : (Q : Tube → Type 0) (us : List Tube) (k : ℕ) (u : Tube) → TubeAt us k u → Every Q us → Q u
every_at Q [] k u e q = absurd (omega (arith, at_below [] k u e))
every_at Q (x ∷ us) zero u e q = subst Q (first_same x u us e) q.0
every_at Q (x ∷ us) (suc k) u e q = every_at Q us k u e q.1

-- one tube after another: the next begins where this one ends
pub vertices_on : (us : List Tube) (k : ℕ) (u : Tube) → TubeAt us k u → Every (λ u. 2 ≤ size_of u) us → vertex_sum (take (suc k) us) ≡ vertex_sum (take k us) + vertices_of u
unfolding vertex_sum
vertices_on [] k u e l = absurd (omega (arith, at_below [] k u e))
vertices_on (x ∷ us) zero u e l = subst (λ (y : Tube). vertex_count (size_of x) + 0 ≡ 0 + vertices_of y) (first_same x u us e) (omega (arith, vertex_count_lem (size_of x) l.0))
vertices_on (x ∷ us) (suc k) u e l = let r = vertices_on us k u e l.1 in omega (arith, r)

pub triangles_on : (us : List Tube) (k : ℕ) (u : Tube) → TubeAt us k u → Every (λ u. 2 ≤ size_of u) us → triangle_sum (take (suc k) us) ≡ triangle_sum (take k us) + triangles_of u
unfolding triangle_sum
triangles_on [] k u e l = absurd (omega (arith, at_below [] k u e))
triangles_on (x ∷ us) zero u e l = subst (λ (y : Tube). triangle_count (size_of x) + 0 ≡ 0 + triangles_of y) (first_same x u us e) (omega (arith, triangle_count_lem (size_of x) l.0))
triangles_on (x ∷ us) (suc k) u e l = let r = triangles_on us k u e l.1 in omega (arith, r)

-- tube k of a mesh, in its place
pub stands : (P : Protein) (us : List Tube) (o o' : Outs) (k : ℕ) (u : Tube) → AllLong us → HoldsMesh P us o o' → TubeAt us k u
    → TubeStands P u k (vertex_sum (take k us)) (triangle_sum (take k us)) o'
stands P us o o' k u long H e =
    let q = at_is us k u e in
    let n : length (take k us) ≡ k = length-take-le k us (omega (arith, at_below us k u e)) in
    subst (λ (j : ℕ). TubeStands P u j (vertex_sum (take k us)) (triangle_sum (take k us)) o') n
    (between P (take k us) u (drop (suc k) us) o o' (subst AllLong q long) (subst (λ (l : List Tube). HoldsMesh P l o o') q H))

-- a part that is not empty lies in its buffer
within : (l x : List ℕ) (i n : ℕ) → Stands l i n x → 0 < n → i + n ≤ length l
within l x i n S h = omega (arith, length-take n (drop i l), ap length S.there, S.long, length-drop i l)

-- ---- what the tube call hands out of the buffers of a mesh

pub part_is : (P : Protein) (u : Tube) (k v t : ℕ) (o : Outs) → size_of u ≤ 16384 → TubeStands P u k v t o → tube_part o.tubes o.triangles k ≡ tube_triangles v u
unfolding tube_words
part_is P u k v t o most S =
    let n : get_or o.tubes (5 * k + 2) 0 ≡ size_of u = part_place o.tubes (5 * k) 5 2 0 S.words.there (omega arith) in
    let f : get_or o.tubes (5 * k + 4) 0 ≡ t = part_place o.tubes (5 * k) 5 4 0 S.words.there (omega arith) in
    let two = S.two in
    let w = within o.tubes _ (5 * k) 5 S.words (omega arith) in
    let r = within o.triangles _ (3 * t) (3 * triangles_of u) S.triangles (omega arith) in
    let c : triangle_count (size_of u) ≡ triangles_of u = triangle_count_lem (size_of u) two in
    let m : triangle_count (get_or o.tubes (5 * k + 2) 0) ≡ triangles_of u = ap triangle_count n ∙ c in
    let g = get_or o.tubes (5 * k + 4) 0 in
    let i : 3 * g + 3 * triangle_count (get_or o.tubes (5 * k + 2) 0) - 3 * g ≡ 3 * triangles_of u = omega (arith, m) in
    let j : 3 * g ≡ 3 * t = omega (arith, f) in
    sym (part_in o.tubes o.triangles k (omega (arith, w)) (omega (arith, n, two)) (omega (arith, n, most)) (omega (arith, m, f, r)))
    ∙ ap (λ (i : ℕ). take i (drop (3 * g) o.triangles)) i
    ∙ ap (λ (i : ℕ). take (3 * triangles_of u) (drop i o.triangles)) j
    ∙ S.triangles.there

-- ---- plan's five words

pub words_are : (v t : ℕ) (us : List Tube) (k : ℕ) (u : Tube) → TubeAt us k u
    → five_words (words_at v t us k) ≡ tube_words (v + vertex_sum (take k us)) (t + triangle_sum (take k us)) u
unfolding words_at vertex_sum triangle_sum tube_words
words_are v t [] k u e = absurd (omega (arith, at_below [] k u e))
words_are v t (x ∷ us) zero u e = subst (λ (y : Tube). five_words (words_at v t (x ∷ us) 0) ≡ tube_words (v + 0) (t + 0) y) (first_same x u us e) (rw (add-zero v, add-zero t))
words_are v t (x ∷ us) (suc k) u e =
    words_are (v + vertex_count (size_of x)) (t + triangle_count (size_of x)) us k u e
    ∙ rw (add_assoc v (vertex_count (size_of x)) (vertex_sum (take k us)), add_assoc t (triangle_count (size_of x)) (triangle_sum (take k us)))
