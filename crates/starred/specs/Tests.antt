-- What a bench case of 01 says, as a test that computes, over the definitions that the promises of the calls use. `Case` has one case for each test; Table has
-- the cases. The `unfolding` lines are for antt alone, which computes the tests.
use Rattle.std.specs.Prelude.{ℕ, suc, ◌+◌, ◌*◌, Bool, true, false, not, ◌&&◌, List, [], ◌∷◌, map, eqb, length, take, drop, Result, Ok, Err}
use Rattle.std.specs.Float.{binary32, binary64}
use Rattle.std.specs.Float.Ieee.{to_bits, of_bits, eq}
use Rattle.floats.specs.Floats.{narrowed, root}
use Rattle.vectors.specs.declared.Vec3.{Vec3}
use Rattle.vectors.specs.Vec.{vec, vec_at, lit}
use Rattle.lists.specs.Put.{upto}
use Rattle.lists.specs.Same.{same_list}
use Rattle.edges.specs.Tube.{vertex_count, triangle_count, tube}
use Rattle.edges.specs.Tube as edges
use Rattle.shape.specs.declared.Kind.TheVariants.{Sheet}
use Rattle.shape.specs.Ring.{profile_of}
use Rattle.protein.specs.Places.{far}
use Rattle.protein.specs.Protein.{Protein, protein_of}
use Rattle.protein.specs.declared.Head.{Head}
use Rattle.smooth.specs.Pass.{vectors, smooth_guides, smooth_positions}
use Rattle.curve.specs.Samples.{span_at, param_at}
use Rattle.job.specs.Check.{check}
use Rattle.job.specs.Refusals.{number_of, carried}
use Rattle.job.specs.declared.Refusal.{Refusal}
use Rattle.buffers.specs.declared.Counts.{Counts}
use Rattle.promises.specs.declared.Plan.{Plan}
use Rattle.boxes.specs.Box.{along, foremost, foremost_of, box_of}
use Rattle.skin.specs.Tube.{tags_of}
use Rattle.tubes.specs.Tubes.{Tube}
use Rattle.tubes.specs.declared.Source.{Source}
use Rattle.tubes.specs.declared.Source.TheVariants.{Coils, Segment}
use Rattle.mesh.specs.Mesh.{box_by, tube_box, mesh_positions, mesh_normals, mesh_boxes}
use Rattle.buffers.specs.Outs.{sizes, tight}
use Rattle.room.specs.Room.{Lent, short_scratch, too_many}
use Rattle.promises.specs.Calls.{tubes_with, job_tubes, words_at, build_checks, build_answer, plan_checks, plan_answer}
use Rattle.starred.specs.Opened.{opens_floats, opens_corners, opens_tubes, opens_course, opens_skin, opens_mesh}

-- ---- a job

-- 'The empty 13-byte job, length field 9': the job s has n bytes and begins with these
unfoldable pub is_written : List ℕ → ℕ → List ℕ → Bool
unfolding same_list
is_written s n front = eqb (length s) n && same_list (take (length front) s) front

-- a test of the counts of a job that passes checks 1 to 8
abbrev if_fine : Result Head Refusal → (Head → Bool) → Bool
if_fine (Ok h) t = t h
if_fine (Err r) t = false

-- ---- its tubes

-- the tubes of 01's sentences: 'helix (2,3), coils (0,1,2), (3,4,5)'. The helix is the job's first segment; the serials
-- that a tube's source has beside its number are not compared
abbrev pub helix : List ℕ → Tube
helix residues = record { source = Segment 0 (record { start = 0; stop = 0 }); kind = 1; residues = residues }

abbrev pub coil : List ℕ → Tube
coil residues = record { source = Coils; kind = 0; residues = residues }

abbrev source_number : Source → ℕ
source_number Coils = 0
source_number (Segment i g) = suc i

abbrev same_tube : Tube → Tube → Bool
same_tube u v = eqb (source_number u.source) (source_number v.source) && (eqb u.kind v.kind && same_list u.residues v.residues)

-- the same tubes in the same order
unfoldable pub same_tubes : List Tube → List Tube → Bool
unfolding same_list
same_tubes [] [] = true
same_tubes [] (v ∷ vs) = false
same_tubes (u ∷ us) [] = false
same_tubes (u ∷ us) (v ∷ vs) = same_tube u v && same_tubes us vs

-- 'helix (2,3), coils (0,1,2), (3,4,5)': the job passes the checks, and these are its tubes
unfoldable pub tubes_are : List ℕ → List Tube → Bool
unfolding same_tubes tubes_with opens_tubes
tubes_are s us = if_fine (check s) (λ h. same_tubes (job_tubes s h) us)

-- ---- the answers of build and plan. Scratch is lent for r residues

-- room for v vertices, t triangles and k tubes
abbrev pub room_for : ℕ → ℕ → ℕ → ℕ → Lent
room_for v t k r = record { outs = sizes (3 * v) (3 * v) v (3 * t) (5 * k) (6 * k); words = 8 * r; floats = 32 * r }

abbrev is_mesh : Result Counts Refusal → List ℕ → Bool
is_mesh (Ok c) l = same_list (c.tubes ∷ c.vertices ∷ c.triangles ∷ []) l
is_mesh (Err r) l = false

abbrev is_no_mesh : Result Counts Refusal → ℕ → List ℕ → Bool
is_no_mesh (Ok c) n l = false
is_no_mesh (Err r) n l = eqb n (number_of r) && same_list (carried r) l

-- '350 succeeds': with this room build makes a mesh of these K, V and T
unfoldable pub builds : List ℕ → Lent → List ℕ → Bool
unfolding same_list build_answer build_checks short_scratch too_many tight tubes_with opens_tubes
builds s room l = is_mesh (build_answer s room) l

-- 'Vertex room 349 gives 11', 'the next f64 above gives 8': with this room build refuses with number n, and carries l
unfoldable pub refuses : List ℕ → Lent → ℕ → List ℕ → Bool
unfolding same_list build_answer build_checks short_scratch too_many tight tubes_with opens_tubes
refuses s room n l = is_no_mesh (build_answer s room) n l

abbrev has_totals : Result Plan Refusal → List ℕ → Bool
has_totals (Ok p) l = same_list (p.counts.tubes ∷ p.counts.vertices ∷ p.counts.triangles ∷ []) l
has_totals (Err r) l = false

abbrev has_words : Result Plan Refusal → List ℕ → Bool
has_words (Ok p) five = same_list (p.words.kind ∷ p.words.first ∷ p.words.length ∷ p.words.vertex ∷ p.words.triangle ∷ []) five
has_words (Err r) five = false

abbrev is_no_plan : Result Plan Refusal → ℕ → List ℕ → Bool
is_no_plan (Ok p) n l = false
is_no_plan (Err r) n l = eqb n (number_of r) && same_list (carried r) l

-- 'K, V, T all 0', 'V 350, T 688': plan answers these K, V and T
unfoldable pub totals_are : List ℕ → ℕ → List ℕ → Bool
unfolding same_list plan_answer plan_checks words_at short_scratch too_many tubes_with opens_tubes
totals_are s r l = has_totals (plan_answer s 0 (8 * r) (32 * r)) l

-- 'tube 0 kind 0 residue 0 length 2 vertex 0 triangle 0': plan answers these five words of tube k
unfoldable pub words_are : List ℕ → ℕ → ℕ → List ℕ → Bool
unfolding same_list plan_answer plan_checks words_at short_scratch too_many tubes_with opens_tubes
words_are s r k five = has_words (plan_answer s k (8 * r) (32 * r)) five

-- 'more gives 9': plan refuses with number n, and carries l
unfoldable pub refuses_plan : List ℕ → ℕ → ℕ → List ℕ → Bool
unfolding same_list plan_answer plan_checks words_at short_scratch too_many tubes_with opens_tubes
refuses_plan s r n l = is_no_plan (plan_answer s 0 (8 * r) (32 * r)) n l

-- ---- a tube of n residues

-- 'n = 1 gives none; n = 2 gives .. 74, 144': v vertices and t triangles, of three corners each
unfoldable pub counts_are : ℕ → ℕ → ℕ → Bool
unfolding opens_corners
counts_are n v t = eqb (vertex_count n) v && (eqb (triangle_count n) t && eqb (length (tube 8 8 0 n)) (3 * t))

-- 'n = 2 gives 9 rings': r of them, which with the two centres are all the vertices that have a tag
unfoldable pub rings_are : ℕ → ℕ → Bool
unfolding opens_corners opens_skin
rings_are n r = eqb (edges.rings 8 n) r && eqb (length (tags_of 0 n)) (8 * r + 2)

-- 'First triangles at n = 2: (8,1,0), eight in all, then (0,10,9), (0,1,10); end cap starts (73,65,66)': these corners stand from triangle t on
unfoldable pub corners_are : ℕ → ℕ → List ℕ → Bool
unfolding same_list opens_corners
corners_are n t l = same_list (take (length l) (drop (3 * t) (tube 8 8 0 n))) l

-- 'Tags 0 for vertices 0 to 32, 1 for 33 to 73', where residue 0 is the first
unfoldable pub tags_are : ℕ → List ℕ → Bool
unfolding same_list opens_skin
tags_are n l = same_list (tags_of 0 n) l

-- 'Sheet n = 3: guide half-size at 0.875 is 1.0': at sample s, which is at i + t = s/8, it has the bits b
unfoldable pub half_is : ℕ → ℕ → ℕ → Bool
unfolding opens_skin
half_is n s b = eqb (to_bits binary32 (profile_of Sheet n (span_at n s) (param_at n s)).half_height) b

-- ---- the first vertex

-- a vector has these f32 bits, 'zeros of either sign'
abbrev is_at : Vec3 → ℕ → ℕ → ℕ → Bool
is_at v x y z = eq v.x (lit x) && (eq v.y (lit y) && eq v.z (lit z))

abbrev first_in : Protein → List Tube → ℕ → ℕ → Bool
first_in P us z w = is_at (vec_at (mesh_positions P us) 0) 0 0 z && is_at (vec_at (mesh_normals P us) 0) 0 0 w

-- 'The mesh of the job above has its first vertex at (0,0,-0.25) with normal (0,0,-1)': at (0,0,z) with normal (0,0,w)
unfoldable pub first_vertex_is : List ℕ → ℕ → ℕ → Bool
unfolding tubes_with opens_mesh
first_vertex_is s z w = if_fine (check s) (λ h. first_in (protein_of s h) (job_tubes s h) z w)

-- ---- boxes

-- 'least x, y, z, then greatest x, y, z', 'the earlier of equals is kept': of a flat list of vertices, by their f32 bits
unfoldable pub box_is : List ℕ → List ℕ → Bool
unfolding same_list along foremost foremost_of box_of upto opens_floats
box_is l six = same_list (map (to_bits binary32) (box_of (map (of_bits binary32) l))) six

-- the boxes of a job's tubes, one after the other
unfoldable pub boxes_are : List ℕ → List ℕ → Bool
unfolding same_list along foremost foremost_of box_of box_by tube_box mesh_boxes tubes_with opens_mesh
boxes_are s l = if_fine (check s) (λ h. same_list (map (to_bits binary32) (mesh_boxes (protein_of s h) (job_tubes s h))) l)

-- ---- smoothing

-- 'ends fixed', 02 §3 'Results .. stay': so many passes over a flat list of positions, or of guides, by its f32 bits, leave these bits
unfoldable pub positions_are : ℕ → List ℕ → List ℕ → Bool
unfolding same_list opens_course
positions_are passes old new = same_list (map (to_bits binary32) (smooth_positions passes (vectors (map lit old)) (map lit old))) new

unfoldable pub guides_are : ℕ → List ℕ → List ℕ → Bool
unfolding same_list opens_course
guides_are passes old new = same_list (map (to_bits binary32) (smooth_guides passes (vectors (map lit old)) (map lit old))) new

-- ---- floats

-- 'Step (3,4,0) is not cut; a step of f32 bits 40A00001 along x is': from (0,0,0) to these bits
unfoldable pub is_cut : ℕ → ℕ → ℕ → Bool
unfolding opens_floats
is_cut x y z = far (vec (lit 0) (lit 0) (lit 0)) (vec (lit x) (lit y) (lit z))

-- 'Square root: 2.0 gives 3FB504F3': the root of f32 bits b has the bits r
unfoldable pub root_is : ℕ → ℕ → Bool
unfolding opens_floats
root_is b r = eqb (to_bits binary32 (root binary32 (of_bits binary32 b))) r

-- 'Narrowing: 3FB999999999999A gives 3DCCCCCD': f64 bits b, narrowed, are f32 bits r
unfoldable pub narrowed_is : ℕ → ℕ → Bool
unfolding opens_floats
narrowed_is b r = eqb (to_bits binary32 (narrowed binary32 (of_bits binary64 b))) r

-- ---- a case

pub data Case : Type 0 where
  written : List ℕ → ℕ → List ℕ → Case
  list : List ℕ → List Tube → Case
  totals : List ℕ → ℕ → List ℕ → Case
  words : List ℕ → ℕ → ℕ → List ℕ → Case
  built : List ℕ → Lent → List ℕ → Case
  refused : List ℕ → Lent → ℕ → List ℕ → Case
  unplanned : List ℕ → ℕ → ℕ → List ℕ → Case
  counts : ℕ → ℕ → ℕ → Case
  rings : ℕ → ℕ → Case
  corners : ℕ → ℕ → List ℕ → Case
  tags : ℕ → List ℕ → Case
  half : ℕ → ℕ → ℕ → Case
  first_vertex : List ℕ → ℕ → ℕ → Case
  box boxes : List ℕ → List ℕ → Case
  positions guides : ℕ → List ℕ → List ℕ → Case
  cut kept : ℕ → ℕ → ℕ → Case
  roots narrows : ℕ → ℕ → Case

unfoldable pub case_holds : Case → Bool
unfolding
    is_written tubes_are totals_are words_are builds refuses refuses_plan counts_are rings_are corners_are tags_are half_is first_vertex_is box_is boxes_are positions_are guides_are is_cut root_is narrowed_is
case_holds (written s n front) = is_written s n front
case_holds (list s us) = tubes_are s us
case_holds (totals s r l) = totals_are s r l
case_holds (words s r k five) = words_are s r k five
case_holds (built s room l) = builds s room l
case_holds (refused s room n l) = refuses s room n l
case_holds (unplanned s r n l) = refuses_plan s r n l
case_holds (counts n v t) = counts_are n v t
case_holds (rings n r) = rings_are n r
case_holds (corners n t l) = corners_are n t l
case_holds (tags n l) = tags_are n l
case_holds (half n s b) = half_is n s b
case_holds (first_vertex s z w) = first_vertex_is s z w
case_holds (box l six) = box_is l six
case_holds (boxes s l) = boxes_are s l
case_holds (positions passes old new) = positions_are passes old new
case_holds (guides passes old new) = guides_are passes old new
case_holds (cut x y z) = is_cut x y z
case_holds (kept x y z) = not (is_cut x y z)
case_holds (roots b r) = root_is b r
case_holds (narrows b r) = narrowed_is b r

-- all of them hold
unfoldable pub every : List Case → Bool
unfolding case_holds
every [] = true
every (c ∷ cs) = case_holds c && every cs
