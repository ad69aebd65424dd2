-- Each tube of a job's list has two residues or more, and 16,384 at most; how much it gives to each buffer. Assumes nothing.
use Prim.Native.Nat.{ℕ, ◌*◌, ◌≤◌}
use mathlib.Core.List.{List, [], ◌∷◌}
use mathlib.Core.Path.{◌≡◌, refl, ◌∙◌, ap}
use native.Mathlib.Omega.{arith}
use lib.ListN.{length, length-map}
use Rattle.edges.specs.Tube.{vertex_count, triangle_count}
use Rattle.edges.proofs.Theorems.{tube_size, vertex_count_lem, triangle_count_lem}
use Rattle.boxes.specs.Box.{box_of}
use Rattle.skin.proofs.Laws.{length_positions_of, length_normals_of, length_tags_of}
use Rattle.protein.specs.Layout.{records_of}
use Rattle.protein.specs.Job.{Segments, job_of, segments_of}
use Rattle.protein.specs.Places.{far_by}
use Rattle.protein.specs.Protein.{Protein, protein_of}
use Rattle.protein.specs.declared.Head.{Head}
use Rattle.tubes.specs.Tubes.{Tube, alpha_of, tubes}
use Rattle.tubes.specs.List.{tube_list}
use Rattle.mesh.specs.Mesh.{size_of, alphas_of, positions_by, normals_by, box_by, tube_positions, tube_normals, tube_tags, tube_triangles, tube_words, tube_box, vertex_sum, triangle_sum}
use Rattle.tube_theorems.specs.Listing.{Every}
use Rattle.tube_theorems.proofs.Tubes.{every_map, tubes_proper}
use Rattle.promises.specs.Calls.{tubes_with, job_tubes}

-- ---- every tube of a list

abbrev pub AllLong : List Tube → Type 0
AllLong us = Every (λ u. 2 ≤ size_of u) us

pub list_long : (P : Protein) (G : Segments) → AllLong (tube_list P G)
unfolding tube_list
list_long P G = every_map _ _ (λ u p. p.two) (tubes P.job G (far_by P.place)) (tubes_proper P.job G (far_by P.place))

-- the same of a job's bytes with some records
pub long_with : (s : List ℕ) (h : Head) (q : List ℕ) → AllLong (tubes_with s h q)
unfolding tubes_with
long_with s h q = list_long (protein_of s h) (segments_of q)

-- and with its own
pub list_long_of : (s : List ℕ) (h : Head) → AllLong (job_tubes s h)
list_long_of s h = long_with s h (records_of s h)

pub each_most : (s : List ℕ) (h : Head) → h.residues ≤ 16384 → Every (λ u. size_of u ≤ 16384) (job_tubes s h)
unfolding tubes_with tube_list
each_most s h l =
    every_map _ _ (λ u p. let m : size_of u ≤ h.residues = p.most in omega (arith, m)) (tubes (job_of s h) (segments_of (records_of s h)) (far_by (protein_of s h).place))
    (tubes_proper (job_of s h) (segments_of (records_of s h)) (far_by (protein_of s h).place))

-- K and T are bounded by V
pub long_sums : (us : List Tube) → AllLong us → (length us ≤ vertex_sum us) × (triangle_sum us ≤ 2 * vertex_sum us)
unfolding vertex_sum triangle_sum
long_sums [] l = (omega arith, omega arith)
long_sums (u ∷ us) l =
    let r = long_sums us l.1 in
    let v = vertex_count_lem (size_of u) l.0 in
    let w = triangle_count_lem (size_of u) l.0 in
    let two = l.0 in
    (omega (arith, r.0), omega (arith, r.1))

-- ---- what one tube gives to each buffer

module _ (P : Protein) (u : Tube) where
  pub length_alphas : length (alphas_of P u) ≡ size_of u
  unfolding alphas_of
  length_alphas = length-map u.residues (alpha_of P.job u.source)

  module _ (two : 2 ≤ size_of u) where
    pub length_positions : length (tube_positions P u) ≡ 3 * vertex_count (size_of u)
    unfolding tube_positions positions_by
    length_positions = length_positions_of _ _ _ _ (omega (arith, length_alphas)) ∙ ap (λ (k : ℕ). 3 * vertex_count k) length_alphas

    pub length_normals : length (tube_normals P u) ≡ 3 * vertex_count (size_of u)
    unfolding tube_normals normals_by
    length_normals = length_normals_of _ _ _ _ (omega (arith, length_alphas)) ∙ ap (λ (k : ℕ). 3 * vertex_count k) length_alphas

  pub length_box : length (tube_box P u) ≡ 6
  unfolding tube_box box_by box_of
  length_box = refl

pub length_tags : (u : Tube) → 2 ≤ size_of u → length (tube_tags u) ≡ vertex_count (size_of u)
unfolding tube_tags
length_tags u two = length_tags_of _ _ two

pub length_triangles : (v : ℕ) (u : Tube) → length (tube_triangles v u) ≡ 3 * triangle_count (size_of u)
unfolding tube_triangles
length_triangles v u = tube_size 8 8 v (size_of u)

pub length_words : (v t : ℕ) (u : Tube) → length (tube_words v t u) ≡ 5
unfolding tube_words
length_words v t u = refl
