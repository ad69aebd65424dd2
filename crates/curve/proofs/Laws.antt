-- Turns of the loops over a tube's residues, over plain lists and vectors.
use mathlib.Core.Path.{◌≡◌, refl, sym, ap, ◌∙◌}
use mathlib.Core.List.{List, [], ◌++◌, append-nil}
use Prim.Native.Nat.{ℕ, ◌+◌, ◌*◌, ◌-◌, ◌≤◌}
use native.Mathlib.Omega.{arith}
use native.Mathlib.Numerals.{add-one}
use lib.ListN.{length, take, drop, length-drop, drop_of_length-le}
use lib.Seq.{take_at, drop_at, length-take-le}
use lib.Ieee.{Float}
use Rattle.vectors.specs.declared.Vec3.{Vec3}
use Rattle.vectors.specs.Vec.{vadd, floats, vec_at, floats_of}
use Rattle.vectors.proofs.Flat.{vec_still, vec_drop, length_floats}
use Rattle.lists.specs.Put.{put, upto}
use Rattle.lists.proofs.Puts.{turn, put_tail, take_put}
use Rattle.shape.specs.declared.Kind.{Kind}
use Rattle.shape.specs.declared.Kind.TheVariants.{Coil, Helix, Sheet}
use Rattle.shape.specs.declared.Oxygen.{Oxygen}
use Rattle.shape.specs.Guide.{agreeing}
use Rattle.smooth.specs.Pass.{vectors}
use Rattle.smooth.proofs.Laws.{long_guides, long_positions, vectors_of}
use Rattle.curve.specs.Residues.{oxygen_at, raw_at, signed_at, signed, sum_of, same, settled, guides_of, points_of}
use Rattle.lists.proofs.Any.{rest}

next_signed : (raw : ℕ → Vec3) (i : ℕ) → signed_at raw (i + 1) ≡ agreeing (signed_at raw i) (raw (i + 1))
unfolding signed_at
next_signed raw i = rw add-one

pub signed_step : (raw : ℕ → Vec3) (i : ℕ) {prev g v : Vec3} → prev ≡ signed_at raw i → g ≡ raw (i + 1) → v ≡ agreeing prev g → v ≡ signed_at raw (i + 1)
signed_step raw i ep eg ev = let e = next_signed raw i in cc

pub signed_put : (raw : ℕ → Vec3) (l : List Float) (a i : ℕ) {b b' : List Float} {prev : Vec3}
    → prev ≡ signed_at raw i → b ≡ put l a (floats_of (signed_at raw) i) → b' ≡ put b (a + 3 * i) (floats prev) → b' ≡ put l a (floats_of (signed_at raw) (i + 1))
signed_put raw l a i {b} ep e e' =
    turn (λ (k : ℕ). floats (signed_at raw k)) 3 (λ _. refl) l a (a + 3 * i) i (e' ∙ ap (λ (u : Vec3). put b (a + 3 * i) (floats u)) ep) e (omega arith)

pub sum_step : (g : List Float) (i : ℕ) {v v' w : Vec3} → v ≡ sum_of g i → w ≡ vec_at g i → v' ≡ vadd v w → v' ≡ sum_of g (i + 1)
unfolding sum_of
sum_step g i e ew e' = rw add-one (cc)

pub length_same : (v : Vec3) (n : ℕ) → length (same v n) ≡ 3 * n
unfolding same
length_same v n = length_floats (λ (i : ℕ). v) n

-- a residue whose oxygen has not been written over has the same raw guide
pub raw_still : (flags : List ℕ) (n : ℕ) (l : List Float) (f : ℕ → List Float) (i j : ℕ) {b : List Float} → ((k : ℕ) → length (f k) ≡ 3)
    → b ≡ put l (3 * n) (upto f i) → i ≤ j
    → raw_at (take (3 * n) b) (oxygen_at flags (drop (3 * n) b)) n j ≡ raw_at (take (3 * n) l) (oxygen_at flags (drop (3 * n) l)) n j
unfolding raw_at oxygen_at
raw_still flags n l f i j {b} h3 e h =
    let et : take (3 * n) b ≡ take (3 * n) l = ap (take (3 * n)) e ∙ take_put (3 * n) l (3 * n) (upto f i) (omega arith) in
    let ev : vec_at (drop (3 * n) b) j ≡ vec_at (drop (3 * n) l) j = vec_drop b n j ∙ vec_still l (3 * n) f i (n + j) h3 e (omega arith) ∙ sym (vec_drop l n j) in
    rw (et, ev)

-- the guides over the oxygens, whole
pub signed_whole : (flags : List ℕ) (n m : ℕ) (l : List Float) {b : List Float} → b ≡ put l (3 * n) (floats_of (signed_at (raw_at (take (3 * n) l) (oxygen_at flags (drop (3 * n) l)) n)) m)
    → length l ≡ 6 * n → m ≡ n → b ≡ take (3 * n) l ++ signed (take (3 * n) l) (oxygen_at flags (drop (3 * n) l)) n
unfolding signed
signed_whole flags n m l e h hm =
    let raw = raw_at (take (3 * n) l) (oxygen_at flags (drop (3 * n) l)) n in
    put_tail l (floats_of (signed_at raw) n) (3 * n) (e ∙ ap (λ (k : ℕ). put l (3 * n) (floats_of (signed_at raw) k)) hm)
    (omega (arith, length_floats (signed_at raw) n))

pub length_signed : (ca : List Float) (o : ℕ → Oxygen) (n : ℕ) → length (signed ca o n) ≡ 3 * n
unfolding signed
length_signed ca o n = length_floats (signed_at (raw_at ca o n)) n

-- a course s of n vectors and then others, whose first part, or the rest of it, was lent
module _ (n : ℕ) (ca sg : List Float) {s : List Float} (e : s ≡ ca ++ sg) (ha : length ca ≡ 3 * n) where
  front : take (3 * n) s ≡ ca
  front = ap (take (3 * n)) e ∙ take_at ca sg (3 * n) ha

  back : drop (3 * n) s ≡ sg
  back = ap (drop (3 * n)) e ∙ drop_at ca sg (3 * n) ha

  lent_back_lem : (kind : Kind) {g : List Float} → length sg ≡ 3 * n
      → g ≡ settled kind (vectors (take (length s - 3 * n) (drop (3 * n) s))) (take (length s - 3 * n) (drop (3 * n) s))
      → take (3 * n) s ++ (g ++ drop (length s - 3 * n) (drop (3 * n) s)) ≡ ca ++ settled kind n sg
  lent_back_lem kind {g} hs eg =
      let d : drop (length s - 3 * n) (drop (3 * n) s) ≡ [] = drop_of_length-le (drop (3 * n) s) {i = length s - 3 * n} (simp length-drop (omega arith)) in
      let eg' : g ≡ settled kind n sg =
      eg ∙ ap (λ (l : List Float). settled kind (vectors l) l) (rest (3 * n) s ∙ back) ∙ ap (λ (k : ℕ). settled kind k sg) (vectors_of sg n hs) in
      rw (front, d, append-nil g, eg')

  lent_front : (kind : Kind) {p : List Float} → p ≡ points_of kind (take (3 * n) s) (vectors (take (3 * n) s)) → p ++ drop (3 * n) s ≡ points_of kind ca n ++ sg
  lent_front kind {p} ep =
      let ep' : p ≡ points_of kind ca n =
      ep ∙ ap (λ (l : List Float). points_of kind l (vectors l)) front ∙ ap (λ (k : ℕ). points_of kind ca k) (vectors_of ca n ha) in
      rw (ep', back)

-- the two steps of laying a course over a slice l of 6n floats
module _ (flags : List ℕ) (l : List Float) (n : ℕ) (h : length l ≡ 6 * n) where
  alphas : length (take (3 * n) l) ≡ 3 * n
  alphas = length-take-le (3 * n) l (omega arith)

  pub laid_guides : (kind : Kind) {s g : List Float} → s ≡ take (3 * n) l ++ signed (take (3 * n) l) (oxygen_at flags (drop (3 * n) l)) n
      → g ≡ settled kind (vectors (take (length s - 3 * n) (drop (3 * n) s))) (take (length s - 3 * n) (drop (3 * n) s))
      → take (3 * n) s ++ (g ++ drop (length s - 3 * n) (drop (3 * n) s)) ≡ take (3 * n) l ++ guides_of kind (take (3 * n) l) (oxygen_at flags (drop (3 * n) l)) n
  unfolding guides_of
  laid_guides kind e eg =
      let o = oxygen_at flags (drop (3 * n) l) in
      lent_back_lem n (take (3 * n) l) (signed (take (3 * n) l) o n) e alphas kind (length_signed (take (3 * n) l) o n) eg

  pub length_laid : {s : List Float} (g : List Float) → s ≡ take (3 * n) l ++ g → length (take (3 * n) s) ≡ 3 * n
  length_laid g e = ap length (front n (take (3 * n) l) g e alphas) ∙ alphas

  pub laid_points : (kind : Kind) (g : List Float) {s p : List Float} → s ≡ take (3 * n) l ++ g
      → p ≡ points_of kind (take (3 * n) s) (vectors (take (3 * n) s)) → p ++ drop (3 * n) s ≡ points_of kind (take (3 * n) l) n ++ g
  laid_points kind g e ep = lent_front n (take (3 * n) l) g e alphas kind ep

-- both lists of a course have n vectors
pub length_guides_of : (kind : Kind) (ca : List Float) (o : ℕ → Oxygen) (n : ℕ) → length (guides_of kind ca o n) ≡ 3 * n
unfolding guides_of settled
length_guides_of Coil ca o n = long_guides 1 n (signed ca o n) (length_signed ca o n)
length_guides_of Helix ca o n = long_guides 3 n (signed ca o n) (length_signed ca o n)
length_guides_of Sheet ca o n = length_same _ n

pub length_points_of : (kind : Kind) (ca : List Float) (n : ℕ) → length ca ≡ 3 * n → length (points_of kind ca n) ≡ 3 * n
unfolding points_of
length_points_of Coil ca n h = h
length_points_of Helix ca n h = h
length_points_of Sheet ca n h = long_positions 3 n ca h
