-- 02 §6, NO CAP NORMAL OF ZERO, as theorems. `Builds s b r b'` is all that the contract of build says (of a job's bytes
-- s, with the buffers b lent, it answers r and leaves the buffers as b'), `BuildsShare s q m k b r b'` all that the one
-- of build_share says. Assumes nothing. The definitions are those of specs/Caps, and `direction_of` of vectors.
-- docs/PROOFS.md quotes each statement, with words.
use Rattle.std.specs.Prelude.{Some, None}
use Prim.Native.Nat.{ℕ, ◌-◌, ◌*◌, ◌<◌}
use mathlib.Core.Bool.{true}
use mathlib.Core.List.{List}
use mathlib.Core.Path.{◌≡◌}
use lib.ListN.{length, take, drop}
use lib.Ieee.{eq}
use Rattle.vectors.specs.declared.Vec3.{Vec3}
use Rattle.vectors.specs.Vec.{vlength, vec_at, lit, one, direction_of, normalised}
use Rattle.vectors.proofs.Directions as directions
use Rattle.shape.specs.Spline.{catmull_rom_tangent, of4}
use Rattle.shape.specs.Guide.{directed}
use Rattle.curve.specs.Samples.{span_of}
use Rattle.caps.proofs.Laws as caps
use Rattle.protein.specs.Protein.{Protein}
use Rattle.tubes.specs.Tubes.{Tube}
use Rattle.mesh.specs.Mesh.{size_of, tube_normals, vertex_sum}
use Rattle.buffers.specs.declared.Counts.{Counts}
use Rattle.shares.specs.declared.Shares.{Shares}
use Rattle.room.specs.Room.{Buffers}
use Rattle.std.specs.Prelude.{Ok}
use Rattle.promises.specs.Calls.{Builds}
use Rattle.promises.specs.Meshes.{protein_in, tubes_in, TubeAt, vertices_of}
use Rattle.party_promises.specs.Calls.{BuildsShare}
use Rattle.party_promises.specs.Parties.{AllBytes, in_share}
use Rattle.party_promises.proofs.Demands as party
use Rattle.cap_theorems.specs.Caps.{start_cap, end_cap, normal_at, Lit}
use Rattle.cap_theorems.specs.Caps.{points_in, guides_in, last_chord, last_tangent, rust_normals}
use Rattle.cap_theorems.proofs.Ends as ends

-- ==== 'No cap normal of zero': in every mesh that is handed out, the normals at the centres of each tube's two caps
-- have three finite components, of which one is not 0.

pub caps_lit : {s : List ℕ} {b b' : Buffers} {c : Counts} {k : ℕ} → Builds s b (Ok c) b' → k < c.tubes
    → Lit (normal_at b'.outs (start_cap b'.outs k)) × Lit (normal_at b'.outs (end_cap b'.outs k))
caps_lit B h = ends.lit _ _ _ _ _ B h

-- so in a party's share
pub share_caps_lit : {s q : List ℕ} {m o : Shares} {b b' : Buffers} {c : Counts} {k : ℕ} → AllBytes s
    → BuildsShare s q m o b (Ok c) b' → k < c.tubes
    → Lit (normal_at (in_share m b').outs (start_cap (in_share m b').outs k))
    × Lit (normal_at (in_share m b').outs (end_cap (in_share m b').outs k))
share_caps_lit y B h = caps_lit (party.mesh_as_job y B) h

-- ==== 'Normalising a vector of length 0 must say that there is no direction', and that of no other vector does: the
-- length as it is computed

pub no_direction : (a : Vec3) → (direction_of a ≡ None → eq (vlength a) (lit 0) ≡ true)
    × (eq (vlength a) (lit 0) ≡ true → direction_of a ≡ None)
no_direction a = directions.nowhere a

-- so of the chord 'when the last two spline points coincide'
pub coincide : {s : List ℕ} {b b' : Buffers} {c : Counts} (k : ℕ) {u : Tube}
    → Builds s b (Ok c) b' → TubeAt (tubes_in s) k u
    → vec_at (points_in (protein_in s) u) (size_of u - 1) ≡ vec_at (points_in (protein_in s) u) (size_of u - 2)
    → direction_of (last_chord (protein_in s) u) ≡ None
coincide k B at e = ends.same_points _ _ _ _ k B _ at e

-- ==== 'an end cap then takes the last sample's tangent'

pub cap_tangent : {s : List ℕ} {b b' : Buffers} {c : Counts} (k : ℕ) {u : Tube}
    → Builds s b (Ok c) b' → TubeAt (tubes_in s) k u → direction_of (last_chord (protein_in s) u) ≡ None
    → normal_at b'.outs (end_cap b'.outs k) ≡ last_tangent (protein_in s) u
cap_tangent k B at e = ends.tangent _ _ _ _ k B _ at e

-- 01: 'the last uses span n-2 with t = 1'
pub last_sample : (P : Protein) (u : Tube)
    → last_tangent P u ≡ directed (of4 catmull_rom_tangent (span_of (points_in P u) (size_of u) (size_of u - 2)) one)
last_sample P u = caps.last_tangent_lem (points_in P u) (guides_in P u) (size_of u)

-- ==== Demand 2 'excepts those three normal words': where the chord has a direction, the cap's normal is that, and all
-- normals of the tube are the Rust's

pub cap_chord : {s : List ℕ} {b b' : Buffers} {c : Counts} (k : ℕ) {u : Tube} {v : Vec3}
    → Builds s b (Ok c) b' → TubeAt (tubes_in s) k u → direction_of (last_chord (protein_in s) u) ≡ Some v
    → (normal_at b'.outs (end_cap b'.outs k) ≡ v) × (normalised (last_chord (protein_in s) u) ≡ v)
cap_chord k B at e = ends.chord_taken _ _ _ _ k B _ at _ e

pub all_the_rusts : (P : Protein) (u : Tube) (v : Vec3)
    → direction_of (last_chord P u) ≡ Some v → tube_normals P u ≡ rust_normals P u
all_the_rusts P u v e = ends.as_rust P u v e

-- and where it has none, all but the last three
pub but_three : {s : List ℕ} {b b' : Buffers} {c : Counts} (k : ℕ) {u : Tube}
    → Builds s b (Ok c) b' → TubeAt (tubes_in s) k u
    → (length (rust_normals (protein_in s) u) ≡ 3 * vertices_of u)
    × (take (3 * (vertices_of u - 1)) (drop (3 * vertex_sum (take k (tubes_in s))) b'.outs.normals)
    ≡ take (3 * (vertices_of u - 1)) (rust_normals (protein_in s) u))
but_three k B at = ends.others _ _ _ _ k B _ at
