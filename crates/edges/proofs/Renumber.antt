-- Other vertex numbers keep every rule. Assumes nothing.
use mathlib.Core.Path.{◌≡◌, refl, sym, ap, ◌∙◌}
use mathlib.Core.List.{List, [], ◌∷◌, map}
use Prim.Native.Nat.{ℕ, zero, suc, ◌+◌, ◌*◌, ◌-◌, ◌≤◌, ◌<◌}
use native.Mathlib.Omega.{arith}
use lib.ListN.{length, get_or, length-map}
use Rattle.edges.specs.Sound.{Edge, edges, CornersIn, EdgesPaired, Sound, MeshPart}
use Rattle.edges.specs.Tube.{renumbered}
use Rattle.edges.proofs.Owned.{edge, length_edges, owned, paired}
use Rattle.lists.proofs.Any.{map_at}

abbrev turn : (ℕ → ℕ) → Edge → Edge
turn f e = (f e.0, f e.1)

edge_map : (f : ℕ → ℕ) (l : List ℕ) (i : ℕ) → i < length (edges l) → edge (map f l) i ≡ turn f (edge l i)
edge_map f [] i h = absurd (omega arith)
edge_map f (a ∷ []) i h = absurd (omega arith)
edge_map f (a ∷ b ∷ []) i h = absurd (omega arith)
edge_map f (a ∷ b ∷ c ∷ l) zero h = refl
edge_map f (a ∷ b ∷ c ∷ l) (suc zero) h = refl
edge_map f (a ∷ b ∷ c ∷ l) (suc (suc zero)) h = refl
edge_map f (a ∷ b ∷ c ∷ l) (suc (suc (suc i))) h = edge_map f l i (omega arith)

edge_ends : (P : ℕ → Type 0) (l : List ℕ) (i : ℕ) → ((j : ℕ) → j < length l → P (get_or l j 0)) → i < length (edges l) → P (edge l i).0 × P (edge l i).1
edge_ends P [] i f h = absurd (omega arith)
edge_ends P (a ∷ []) i f h = absurd (omega arith)
edge_ends P (a ∷ b ∷ []) i f h = absurd (omega arith)
edge_ends P (a ∷ b ∷ c ∷ l) zero f h = (f 0 (omega arith), f 1 (omega arith))
edge_ends P (a ∷ b ∷ c ∷ l) (suc zero) f h = (f 1 (omega arith), f 2 (omega arith))
edge_ends P (a ∷ b ∷ c ∷ l) (suc (suc zero)) f h = (f 2 (omega arith), f 0 (omega arith))
edge_ends P (a ∷ b ∷ c ∷ l) (suc (suc (suc i))) f h = edge_ends P l i (λ j k. f (suc (suc (suc j))) (omega arith)) (omega arith)

back : (o v q a b : ℕ) → (o ≤ a) × (a < v) → (o ≤ b) × (b < v) → a - o + q ≡ b - o + q → a ≡ b
back o v q a b h i r = omega arith

renumber_size : (o q : ℕ) (l : List ℕ) → length (renumbered o q l) ≡ length l
unfolding renumbered
renumber_size o q l = length-map l (λ c. c - o + q)

renumber_within : (o v q : ℕ) (l : List ℕ) → CornersIn o v l → CornersIn q (q + (v - o)) (renumbered o q l)
unfolding renumbered
renumber_within o v q l within i h =
    let f : ℕ → ℕ = λ c. c - o + q in
    let e = length-map l f in
    omega (arith, map_at f l i (omega arith), within i (omega arith))

pub renumber_part : (o v q : ℕ) {t : ℕ} {l : List ℕ} → MeshPart o v t l → MeshPart q (q + (v - o)) t (renumbered o q l)
renumber_part o v q {l} part = record { size = renumber_size o q l ∙ part.size; within = renumber_within o v q l part.within }

pub renumber_paired : (o v q t : ℕ) (l : List ℕ) → length l ≡ 3 * t → CornersIn o v l → EdgesPaired l → EdgesPaired (renumbered o q l)
unfolding renumbered
renumber_paired o v q t l size within rule =
    let f : ℕ → ℕ = λ c. c - o + q in
    let e = length-map l f in
    let k = length_edges t l size in
    let in' : (i : ℕ) → i < length (edges l) → ((o ≤ (edge l i).0) × ((edge l i).0 < v)) × ((o ≤ (edge l i).1) × ((edge l i).1 < v)) =
    λ i h. edge_ends (λ (u : ℕ). (o ≤ u) × (u < v)) l i within h in
    let own = owned t l size rule in
    paired t (map f l) (e ∙ size) (record {
      one = λ i j h g r.
          let u = in' i (omega arith) in
          let u' = in' j (omega arith) in
          let r' : turn f (edge l i) ≡ turn f (edge l j) = sym (edge_map f l i (omega arith)) ∙ r ∙ edge_map f l j (omega arith) in
          let p = back o v q _ _ u.0 u'.0 (ap (λ (d : Edge). d.0) r') in
          let p' = back o v q _ _ u.1 u'.1 (ap (λ (d : Edge). d.1) r') in
          own.one i j (omega arith) (omega arith) (λ z. (p z, p' z));
      twin = λ i h.
          let w = own.twin i (omega arith) in (
            w.0,
            omega (arith, w.1),
            edge_map f l w.0 (omega (arith, w.1)) ∙ ap (turn f) w.2 ∙ ap {B = Edge} (λ (d : Edge). (d.1, d.0)) (sym (edge_map f l i (omega arith))),
          );
    })

pub renumber : (o v q t : ℕ) (l : List ℕ) → Sound o v t l → Sound q (q + (v - o)) t (renumbered o q l)
unfolding renumbered
renumber o v q t l s =
    let f : ℕ → ℕ = λ c. c - o + q in
    let e = length-map l f in
    let m = map_at f l in
    let w = s.within in
    record {
      size = e ∙ s.size;
      within = renumber_within o v q l s.within;
      differ = λ i h.
          let d = s.differ i (omega arith) in (
            λ r. d.0 (back o v q _ _ (w _ (omega arith)) (w _ (omega arith)) (sym (m _ (omega arith)) ∙ r ∙ m _ (omega arith))),
            λ r. d.1 (back o v q _ _ (w _ (omega arith)) (w _ (omega arith)) (sym (m _ (omega arith)) ∙ r ∙ m _ (omega arith))),
            λ r. d.2 (back o v q _ _ (w _ (omega arith)) (w _ (omega arith)) (sym (m _ (omega arith)) ∙ r ∙ m _ (omega arith))),
          );
      paired = renumber_paired o v q t l s.size s.within s.paired;
      used = λ u h i.
          let a = s.used (u - q + o) (omega arith) (omega arith) in
          (a.0, omega (arith, a.1), omega (arith, map_at f l a.0 a.1, a.2));
    }
