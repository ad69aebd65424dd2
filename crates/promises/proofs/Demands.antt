-- THE DEMANDS, as theorems. Each is over the promises themselves: `Builds s b r b'` is all that the contract of build
-- says (of a job's bytes s, with the buffers b lent, it answers r and leaves the buffers as b'), `Plans s k c r c'` is
-- that of plan (of tube number k, with the scratch c lent), and `Tubed` that of the tube call. Assumes nothing.
-- The definitions are those of specs/Calls, specs/Meshes and specs/Boxes. docs/PROOFS.md quotes each statement, with
-- words.
use Prim.Native.Nat.{ℕ, suc, ◌+◌, ◌*◌, ◌<◌, ◌≤◌}
use mathlib.Core.List.{List}
use mathlib.Core.Bool.{false}
use mathlib.Core.Logic.{◌⊎◌}
use mathlib.Core.Path.{◌≡◌, refl}
use lib.ListN.{length, take}
use lib.Ieee.{Float, lt, is_nan}
use Rattle.edges.specs.Sound.{Sound, occurs}
use Rattle.protein.specs.Layout.{head_of}
use Rattle.job.specs.Refusals.{number_of}
use Rattle.job.specs.declared.Refusal.{Refusal}
use Rattle.job.specs.declared.Refusal.TheVariants.{NoScratch, TooManyVertices, NoRoom}
use Rattle.tubes.specs.Tubes.{Tube}
use Rattle.mesh.specs.Mesh.{tube_triangles, vertex_sum, triangle_sum}
use Rattle.walk.specs.declared.Five.{Five}
use Rattle.buffers.specs.declared.Counts.{Counts}
use Rattle.room.specs.Room.{Scratch, Buffers, lent, no_words, cleared}
use Rattle.tube_call.specs.Part.{Tubed}
use Rattle.tube_call.proofs.Demands as tube
use Rattle.std.specs.Prelude.{Result, Ok, Err}
use Rattle.promises.specs.declared.Plan.{Plan}
use Rattle.promises.specs.Calls.{counts_of, five_words, build_answer, outs_after, plan_answer, scratch_after, with_words}
use Rattle.promises.specs.Calls.{Builds, Plans}
use Rattle.promises.specs.Meshes.{protein_in, tubes_in, Passes, Enough, Buildable}
use Rattle.promises.specs.Meshes.{Shorter, RoomFor, NoLess, NoShorter}
use Rattle.promises.specs.Meshes.{HoldsMesh, SameMesh, TubeAt, Stands, TubeStands, vertices_of, triangles_of}
use Rattle.promises.specs.Boxes.{VertexOf, first_vertex, coordinate, least_of, greatest_of}
use Rattle.promises.specs.Boxes.{Inside, Between, FirstOfEquals, Apart, Below}
use Rattle.promises.proofs.Checks as checks
use Rattle.promises.proofs.Answers as build
use Rattle.promises.proofs.Plans as plan
use Rattle.promises.proofs.Together as calls
use Rattle.promises.proofs.Boxes as boxes
use Rattle.promises.proofs.Models as models

-- ==== Demand 1: 'Every job of bytes and every set of lent buffers gets a mesh or one numbered refusal, with nobody
-- checking first.' The calls have no `requires`, and every function returns: so there is a result, and only one.

-- any two results that a promise allows are equal, in the answer and in every buffer
pub build_determined : {s : List ℕ} {b b' b'' : Buffers} {r q : Result Counts Refusal}
    → Builds s b r b' → Builds s b q b'' → (r ≡ q) × (b' ≡ b'')
build_determined B C = build.one B C

pub plan_determined : {s : List ℕ} {k : ℕ} {c c' c'' : Scratch} {r q : Result Plan Refusal}
    → Plans s k c r c' → Plans s k c q c'' → (r ≡ q) × (c' ≡ c'')
plan_determined P Q = plan.one P Q

pub tube_determined : {tubes triangles : List ℕ} {k : ℕ} {p q : List ℕ}
    → Tubed tubes triangles k p → Tubed tubes triangles k q → p ≡ q
tube_determined T U = tube.tube_determined T U

-- and one is allowed, of every job and every set of lent buffers
pub build_allowed : (s : List ℕ) (b : Buffers) → Builds s b (build_answer s (lent b))
    (record { outs = outs_after s (lent b) b.outs; scratch = scratch_after s b.scratch })
build_allowed s b = record { answer = refl; outputs = refl; scratch = refl }

pub plan_allowed : (s : List ℕ) (k : ℕ) (c : Scratch)
    → Plans s k c (plan_answer s k (length c.words) (length c.floats)) (scratch_after s c)
plan_allowed s k c = record { answer = refl; scratch = refl }

-- a refusal of build has one of 01's numbers 1 to 11, and one of plan's has one of 1 to 10
pub numbered : {s : List ℕ} {b b' : Buffers} {q : Refusal}
    → Builds s b (Err q) b' → (1 ≤ number_of q) × (number_of q ≤ 11)
numbered B = build.numbers _ _ _ _ B

pub plan_numbered : {s : List ℕ} {k : ℕ} {c c' : Scratch} {q : Refusal}
    → Plans s k c (Err q) c' → (1 ≤ number_of q) × (number_of q ≤ 10)
plan_numbered P = plan.numbers _ _ _ _ _ P

-- 'A refusal alters no output place'
pub refused_nothing : {s : List ℕ} {b b' : Buffers} {q : Refusal}
    → Builds s b (Err q) b' → b'.outs ≡ b.outs
refused_nothing B = build.untouched _ _ _ _ B

-- '01 fixes the scratch': as it was after a refusal at or before check 9, and cleared after every other answer
pub scratch_kept : {s : List ℕ} {b b' : Buffers} {q : Refusal}
    → Builds s b (Err q) b' → number_of q ≤ 9 → b'.scratch ≡ b.scratch
scratch_kept B h = build.leaves _ _ _ _ B h

pub scratch_cleared : {s : List ℕ} {b b' : Buffers} {q : Refusal}
    → Builds s b (Err q) b' → 9 < number_of q → b'.scratch ≡ cleared (head_of s) b.scratch
scratch_cleared B h = build.empties _ _ _ _ B h

pub scratch_after_mesh : {s : List ℕ} {b b' : Buffers} {c : Counts}
    → Builds s b (Ok c) b' → b'.scratch ≡ cleared (head_of s) b.scratch
scratch_after_mesh B = build.empties_after _ _ _ _ B

pub plan_scratch_kept : {s : List ℕ} {k : ℕ} {c c' : Scratch} {q : Refusal}
    → Plans s k c (Err q) c' → number_of q ≤ 9 → c' ≡ c
plan_scratch_kept P h = plan.leaves _ _ _ _ _ P h

pub plan_scratch_cleared : {s : List ℕ} {k : ℕ} {c c' : Scratch} {q : Refusal}
    → Plans s k c (Err q) c' → 9 < number_of q → c' ≡ cleared (head_of s) c
plan_scratch_cleared P h = plan.empties _ _ _ _ _ P h

pub scratch_after_plan : {s : List ℕ} {k : ℕ} {c c' : Scratch} {n : Counts} {f : Five}
    → Plans s k c (Ok (with_words n f)) c' → c' ≡ cleared (head_of s) c
scratch_after_plan P = plan.empties_after _ _ _ _ _ _ P

-- a job past every check before 9 is refused by no number before 9
pub past_checks : {s : List ℕ} {b b' : Buffers} {q : Refusal} → Passes s → Builds s b (Err q) b' → 9 ≤ number_of q
past_checks p B = build.late _ _ _ _ p B

pub plan_past_checks : {s : List ℕ} {k : ℕ} {c c' : Scratch} {q : Refusal}
    → Passes s → Plans s k c (Err q) c' → 9 ≤ number_of q
plan_past_checks p P = plan.late _ _ _ _ _ p P

-- check 9 comes before check 10: with too little scratch the refusal is 9, however many vertices there would be
pub short_scratch_lem : {s : List ℕ} {b b' : Buffers} {r : Result Counts Refusal}
    → Passes s → (Enough s b.scratch → ⊥) → Builds s b r b' → r ≡ Err NoScratch
short_scratch_lem p short B = build.short _ _ _ _ p short B

pub plan_short_scratch : {s : List ℕ} {k : ℕ} {c c' : Scratch} {r : Result Plan Refusal}
    → Passes s → (Enough s c → ⊥) → Plans s k c r c' → r ≡ Err NoScratch
plan_short_scratch p short P = plan.short _ _ _ _ _ p short P

-- and with enough it is 10 where the vertices are too many
pub too_many : {s : List ℕ} {b b' : Buffers} {r : Result Counts Refusal}
    → Passes s → Enough s b.scratch → 1048576 < vertex_sum (tubes_in s) → Builds s b r b' → r ≡ Err TooManyVertices
too_many p E many B = build.too_many _ _ _ _ p E many B

-- ==== Demand 2: 'On every accepted job the tubes, positions, normals, residue tags and triangles equal those of the
-- Rust as 01 builds it': of 01's definitions it is proved, of the Rust it is shown by differential runs.

-- where build answers a mesh, the job passed every check, and K, V and T are those of 01's list of its tubes
pub accepted : {s : List ℕ} {b b' : Buffers} {c : Counts}
    → Builds s b (Ok c) b'
    → Buildable s b.scratch × RoomFor b.outs (counts_of (tubes_in s)) × (c ≡ counts_of (tubes_in s))
accepted B = let M = build.meshed _ _ _ _ B in (M.ready, M.room, M.counts)

-- so it is of a plan, but for the room
pub plan_accepted : {s : List ℕ} {k : ℕ} {c c' : Scratch} {n : Counts} {f : Five}
    → Plans s k c (Ok (with_words n f)) c' → Buildable s c × (n ≡ counts_of (tubes_in s))
plan_accepted P = let p = plan.planned _ _ _ _ _ _ P in (p.0, p.1)

-- and each of the six buffers holds 01's list at its front, and every other place is as it was
pub mesh_holds : {s : List ℕ} {b b' : Buffers} {c : Counts}
    → Builds s b (Ok c) b' → HoldsMesh (protein_in s) (tubes_in s) b.outs b'.outs
mesh_holds B = (build.meshed _ _ _ _ B).holds

-- 'Square root and narrowing are proved against IEEE 754': `root_is_nearest` and `narrowed_is_nearest` of floats

-- ==== Demand 3: 'Each mesh handed out holds every tube of 01's list once, in order. A tube of n residues has 64n-54
-- vertices and 128n-112 triangles naming only those vertices; each directed edge occurs once and its reverse once.'

-- tube k of the list: its part of each of the six buffers, behind those of the tubes before it; so many vertices and
-- triangles; closed
pub tube_stands : {s : List ℕ} {b b' : Buffers} {c : Counts} {k : ℕ} {u : Tube}
    → Builds s b (Ok c) b' → TubeAt (tubes_in s) k u
    → TubeStands (protein_in s) u k (vertex_sum (take k (tubes_in s))) (triangle_sum (take k (tubes_in s))) b'.outs
tube_stands B at = calls.stands _ _ _ _ _ _ B at

-- each k below K has a tube. The first begins with vertex 0 and triangle 0, each other where the one before it ends,
-- and the last ends with V and T
pub every_tube : {s : List ℕ} {b b' : Buffers} {c : Counts}
    → Builds s b (Ok c) b' → (k : ℕ) → k < c.tubes → (u : Tube) × TubeAt (tubes_in s) k u
every_tube B k h = calls.there _ _ _ _ B k h

pub one_after_another : (s : List ℕ) (k : ℕ) (u : Tube) → TubeAt (tubes_in s) k u
    → (vertex_sum (take (suc k) (tubes_in s)) ≡ vertex_sum (take k (tubes_in s)) + vertices_of u)
    × (triangle_sum (take (suc k) (tubes_in s)) ≡ triangle_sum (take k (tubes_in s)) + triangles_of u)
one_after_another s k u at = calls.next s k u at

pub last_ends : {s : List ℕ} {b b' : Buffers} {c : Counts} → Builds s b (Ok c) b'
    → (vertex_sum (take c.tubes (tubes_in s)) ≡ c.vertices)
    × (triangle_sum (take c.tubes (tubes_in s)) ≡ c.triangles)
last_ends B = calls.ends _ _ _ _ B

-- the whole mesh: T triangles over the vertices 0 to V - 1, each directed edge once and its reverse once
pub mesh_closed : {s : List ℕ} {b b' : Buffers} {c : Counts}
    → Builds s b (Ok c) b' → Sound 0 c.vertices c.triangles (take (3 * c.triangles) b'.outs.triangles)
mesh_closed B = calls.closed _ _ _ _ B

pub edges_once : {s : List ℕ} {b b' : Buffers} {c : Counts} → Builds s b (Ok c) b'
    → (x y : ℕ) → 0 < occurs x y (take (3 * c.triangles) b'.outs.triangles)
    → (occurs x y (take (3 * c.triangles) b'.outs.triangles) ≡ 1)
    × (occurs y x (take (3 * c.triangles) b'.outs.triangles) ≡ 1)
edges_once B = (calls.closed _ _ _ _ B).paired

-- 'If a job gets a mesh in some buffers, any buffers no shorter get the same mesh', all six of them
pub same_mesh : {s : List ℕ} {b b' d d' : Buffers} {c : Counts} {r : Result Counts Refusal}
    → Builds s b (Ok c) b' → NoShorter b d → Builds s d r d' → (r ≡ Ok c) × SameMesh c b'.outs d'.outs
same_mesh B N D = build.longer _ _ _ _ _ _ _ B N D

-- 'With enough scratch, a job past every check before 9 and within the vertex limit is refused for room exactly when
-- some output buffer is shorter than its mesh needs': then by 11, with K, V and T; and else it gets its mesh
pub refused_for_room : {s : List ℕ} {b b' : Buffers} {r : Result Counts Refusal}
    → Buildable s b.scratch → Builds s b r b' → Shorter b.outs (counts_of (tubes_in s))
    → r ≡ Err (NoRoom (length (tubes_in s)) (vertex_sum (tubes_in s)) (triangle_sum (tubes_in s)))
refused_for_room R B h = build.refused _ _ _ _ R B h

pub only_for_room : {s : List ℕ} {b b' : Buffers} {r : Result Counts Refusal}
    → Buildable s b.scratch → Builds s b r b' → RoomFor b.outs (counts_of (tubes_in s))
    → r ≡ Ok (counts_of (tubes_in s))
only_for_room R B room = build.given _ _ _ _ R B room

-- there is room, or some buffer is shorter, and not both
pub room_or_shorter : (b : Buffers) (c : Counts)
    → (RoomFor b.outs c ⊎ Shorter b.outs c) × (RoomFor b.outs c → Shorter b.outs c → ⊥)
room_or_shorter b c = (checks.room_or b c, checks.room_not b c)

-- and from the answer: refusal 11 says that the job can be built, what its mesh needs, and that some buffer is shorter
pub room_means : {s : List ℕ} {b b' : Buffers} {k v t : ℕ} → Builds s b (Err (NoRoom k v t)) b'
    → Buildable s b.scratch
    × ((k ≡ length (tubes_in s)) × (v ≡ vertex_sum (tubes_in s)) × (t ≡ triangle_sum (tubes_in s)))
    × Shorter b.outs (counts_of (tubes_in s))
room_means B = build.for_room _ _ _ _ _ _ B

-- ==== 02 §2: 'Two models placed by their boxes crossed: rings stand out from the curve. A box now takes the vertices
-- of its tube, caps included ..' On each axis a, 0 for x, 1 for y, 2 for z, and of each tube k, by its record in the
-- buffer.

-- no vertex of a tube is outside its box, whatever floats there are
pub box_holds : {s : List ℕ} {b b' : Buffers} {c : Counts} {k j a : ℕ}
    → Builds s b (Ok c) b' → k < c.tubes → a < 3 → VertexOf b'.outs k j → Inside b'.outs k a j
box_holds B h axis J = boxes.inside _ _ _ _ _ _ B h axis _ J

-- and where it and the tube's first vertex have numbers there, it is from the least to the greatest
pub box_between : {s : List ℕ} {b b' : Buffers} {c : Counts} {k j a : ℕ}
    → Builds s b (Ok c) b' → k < c.tubes → a < 3 → VertexOf b'.outs k j
    → is_nan (coordinate b'.outs (first_vertex b'.outs k) a) ≡ false → is_nan (coordinate b'.outs j a) ≡ false
    → Between b'.outs k a j
box_between B h axis J n m = boxes.between _ _ _ _ _ _ B h axis _ J n m

-- each of a box's six floats is a coordinate of one of the tube's vertices, the first of equals
pub box_touched : {s : List ℕ} {b b' : Buffers} {c : Counts} {k a : ℕ}
    → Builds s b (Ok c) b' → k < c.tubes → a < 3
    → FirstOfEquals b'.outs k a (least_of b'.outs k a) × FirstOfEquals b'.outs k a (greatest_of b'.outs k a)
box_touched B h axis = boxes.touched _ _ _ _ _ _ B h axis

-- it is a NaN exactly where that coordinate of the tube's first vertex is one: any other NaN is passed over
pub box_nan : {s : List ℕ} {b b' : Buffers} {c : Counts} {k a : ℕ}
    → Builds s b (Ok c) b' → k < c.tubes → a < 3
    → (is_nan (least_of b'.outs k a) ≡ is_nan (coordinate b'.outs (first_vertex b'.outs k) a))
    × (is_nan (greatest_of b'.outs k a) ≡ is_nan (coordinate b'.outs (first_vertex b'.outs k) a))
box_nan B h axis = boxes.nan_shows _ _ _ _ _ _ B h axis

-- and no other numbers are such: where the tube's first vertex has a number there, the least is the one number that is
-- a vertex's, the first of equals, and that none is less than; so of the greatest
pub box_only : {s : List ℕ} {b b' : Buffers} {c : Counts} {k a : ℕ} {x : Float}
    → Builds s b (Ok c) b' → k < c.tubes → a < 3
    → is_nan (coordinate b'.outs (first_vertex b'.outs k) a) ≡ false → is_nan x ≡ false
    → FirstOfEquals b'.outs k a x
    → (((j : ℕ) → VertexOf b'.outs k j → lt (coordinate b'.outs j a) x ≡ false) → x ≡ least_of b'.outs k a)
    × (((j : ℕ) → VertexOf b'.outs k j → lt x (coordinate b'.outs j a) ≡ false) → x ≡ greatest_of b'.outs k a)
box_only B h axis n q f = models.only_such _ _ _ _ _ _ _ B h axis n q f

-- two tubes, of one mesh or of two, whose boxes are apart on an axis have no vertex with a number there in common: a
-- coordinate of the one is below every one of the other
pub boxes_apart : {s t : List ℕ} {b b' d d' : Buffers} {c e : Counts} {k m i j a : ℕ}
    → Builds s b (Ok c) b' → k < c.tubes → Builds t d (Ok e) d' → m < e.tubes → a < 3
    → Apart b'.outs k d'.outs m a → VertexOf b'.outs k i → VertexOf d'.outs m j
    → Below (coordinate b'.outs i a) (coordinate d'.outs j a)
boxes_apart B h D l axis A I J = boxes.apart _ _ _ _ _ _ _ _ _ _ _ _ _ B h D l axis A I J

-- a vertex of a tube is one of the mesh's V,
pub vertex_in_mesh : {s : List ℕ} {b b' : Buffers} {c : Counts} {k j : ℕ}
    → Builds s b (Ok c) b' → k < c.tubes → VertexOf b'.outs k j → j < c.vertices
vertex_in_mesh B h J = models.in_mesh _ _ _ _ B _ _ h J

-- and each of these is one of some tube
pub vertex_has_tube : {s : List ℕ} {b b' : Buffers} {c : Counts} {j : ℕ}
    → Builds s b (Ok c) b' → j < c.vertices → (k : ℕ) × (k < c.tubes) × VertexOf b'.outs k j
vertex_has_tube B h = models.has_tube _ _ _ _ B _ h

-- two models: where every box of the one is apart from every box of the other on an axis, they have no vertex with a
-- number there in common
pub models_apart : {s t : List ℕ} {b b' d d' : Buffers} {c e : Counts} {i j a : ℕ}
    → Builds s b (Ok c) b' → Builds t d (Ok e) d' → a < 3
    → ((k m : ℕ) → k < c.tubes → m < e.tubes → Apart b'.outs k d'.outs m a)
    → i < c.vertices → j < e.vertices → Below (coordinate b'.outs i a) (coordinate d'.outs j a)
models_apart B D axis A p q = models.apart _ _ _ _ _ _ _ _ _ _ _ B D axis A p q

-- ==== The calls together: plan, lend what plan says, build, take a tube.

-- buffers with room for what plan answers, and scratch no shorter than plan had, get that mesh
pub plan_then_build : {s : List ℕ} {k : ℕ} {c c' : Scratch} {n : Counts} {f : Five} {b b' : Buffers} {r : Result Counts Refusal}
    → Plans s k c (Ok (with_words n f)) c' → NoLess c b.scratch → RoomFor b.outs n → Builds s b r b' → r ≡ Ok n
plan_then_build P N room B = calls.then_build _ _ _ _ _ _ _ _ _ P N room B

-- and without that room they are refused by 11, with plan's K, V and T
pub plan_then_refused : {s : List ℕ} {k : ℕ} {c c' : Scratch} {n : Counts} {f : Five} {b b' : Buffers} {r : Result Counts Refusal}
    → Plans s k c (Ok (with_words n f)) c' → NoLess c b.scratch → Shorter b.outs n → Builds s b r b'
    → r ≡ Err (NoRoom n.tubes n.vertices n.triangles)
plan_then_refused P N short B = calls.then_refused _ _ _ _ _ _ _ _ _ P N short B

-- who was refused for room, and lends room for the K, V and T that 11 carries, gets that mesh
pub room_then_build : {s : List ℕ} {b b' d d' : Buffers} {k v t : ℕ} {r : Result Counts Refusal}
    → Builds s b (Err (NoRoom k v t)) b' → NoLess b.scratch d.scratch
    → RoomFor d.outs (record { tubes = k; vertices = v; triangles = t }) → Builds s d r d'
    → r ≡ Ok (record { tubes = k; vertices = v; triangles = t })
room_then_build B N room D = calls.room_then _ _ _ _ _ _ _ _ _ B N room D

-- plan's K, V and T are those of the mesh, its five words those of tube k in the tube buffer, and 0 where there is none
pub plan_words : {s : List ℕ} {k : ℕ} {c c' : Scratch} {n m : Counts} {f : Five} {b b' : Buffers}
    → Plans s k c (Ok (with_words n f)) c' → Builds s b (Ok m) b'
    → (n ≡ m) × (k < m.tubes → Stands b'.outs.tubes (5 * k) 5 (five_words f)) × (m.tubes ≤ k → f ≡ no_words)
plan_words P B = calls.words _ _ _ _ _ _ _ _ _ P B

-- the tube call on the buffers that build filled hands out tube k's own triangles, which are closed
pub tube_of_mesh : {s : List ℕ} {b b' : Buffers} {c : Counts} {k : ℕ} {u : Tube} {p : List ℕ}
    → Builds s b (Ok c) b' → TubeAt (tubes_in s) k u → Tubed b'.outs.tubes b'.outs.triangles k p
    → (p ≡ tube_triangles (vertex_sum (take k (tubes_in s))) u)
    × Sound (vertex_sum (take k (tubes_in s))) (vertex_sum (take k (tubes_in s)) + vertices_of u) (triangles_of u) p
tube_of_mesh B at T = calls.part _ _ _ _ _ _ _ B at T
