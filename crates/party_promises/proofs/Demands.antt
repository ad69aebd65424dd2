-- 02 §5, TWO ANNOTATORS ON ONE STRUCTURE, as theorems. Each is over the promises themselves:
-- `BuildsShare s q m k b r b'` is all that the contract of build_share says (of a shared job's bytes s and the caller's
-- records q, with the caller's shares m and the other's k, where the whole buffers and the scratch held b, it answers r
-- and leaves them as b'), and `PlansRecords s q t c r c'` is that of plan_records. Assumes nothing. The definitions are
-- those of specs/Calls and specs/Parties. docs/PROOFS.md quotes each statement, with words.
use Prim.Native.Nat.{ℕ, ◌*◌, ◌<◌, ◌≤◌}
use mathlib.Core.List.{List}
use mathlib.Core.Bool.{true}
use mathlib.Core.Logic.{◌⊎◌}
use mathlib.Core.Path.{◌≡◌, refl}
use lib.ListN.{length, take}
use Rattle.edges.specs.Sound.{Sound}
use Rattle.protein.specs.Layout.{head_of}
use Rattle.protein.specs.declared.Head.{Head}
use Rattle.job.specs.Check.{sizes, unshared}
use Rattle.job.specs.Refusals.{number_of}
use Rattle.std.specs.Prelude.{Result, Ok, Err}
use Rattle.promises.specs.declared.Plan.{Plan}
use Rattle.job.specs.declared.Refusal.{Refusal}
use Rattle.job.specs.declared.Refusal.TheVariants.{BadSize, NoRoom, BadShares}
use Rattle.joined.specs.Joined.{with_records}
use Rattle.tubes.specs.Tubes.{Tube}
use Rattle.mesh.specs.Mesh.{vertex_sum, triangle_sum}
use Rattle.buffers.specs.Outs.{Outs, sizes_of}
use Rattle.buffers.specs.declared.Counts.{Counts}
use Rattle.shares.specs.declared.Shares.{Shares}
use Rattle.shares.specs.Shares.{bad_shares, share_of, Fits, Apart}
use Rattle.room.specs.Room.{Scratch, Buffers, lent, cleared}
use Rattle.promises.specs.Calls.{counts_of, Builds, Plans}
use Rattle.promises.specs.Meshes.{protein_in, tubes_in, Buildable, Shorter, RoomFor, NoLess}
use Rattle.promises.specs.Meshes.{HoldsMesh, SameMesh, TubeAt, TubeStands}
use Rattle.party_promises.specs.Calls.{share_answer, share_outs, share_scratch, records_answer, records_scratch}
use Rattle.party_promises.specs.Calls.{BuildsShare, PlansRecords}
use Rattle.party_promises.specs.Parties.{AllBytes, Shared, PassesShared, GoodShares, in_share, NoShorterShares}
use Rattle.party_promises.specs.Parties.{Outside, at, Called}
use Rattle.party_promises.proofs.Sharing as sharing
use Rattle.party_promises.proofs.AsJob as job
use Rattle.party_promises.proofs.Answers as answers

-- ==== One answer, and one content of every buffer: whatever job, records, shares and buffers there are.

pub share_determined : {s q : List ℕ} {m k : Shares} {b b' b'' : Buffers} {r t : Result Counts Refusal}
    → BuildsShare s q m k b r b' → BuildsShare s q m k b t b'' → (r ≡ t) × (b' ≡ b'')
share_determined B C = answers.one B C

pub records_determined : {s q : List ℕ} {k : ℕ} {c c' c'' : Scratch} {r t : Result Plan Refusal}
    → PlansRecords s q k c r c' → PlansRecords s q k c t c'' → (r ≡ t) × (c' ≡ c'')
records_determined P Q = answers.one_plan P Q

pub share_allowed : (s q : List ℕ) (m k : Shares) (b : Buffers) → BuildsShare s q m k b (share_answer s q m k (lent b))
    (record {
      outs = share_outs s q m k (lent b) b.outs;
      scratch = share_scratch s q m k (sizes_of b.outs) b.scratch;
    })
share_allowed s q m k b = record { answer = refl; outputs = refl; scratch = refl }

pub records_allowed : (s q : List ℕ) (k : ℕ) (c : Scratch)
    → PlansRecords s q k c (records_answer s q k (length c.words) (length c.floats)) (records_scratch s q c)
records_allowed s q k c = record { answer = refl; scratch = refl }

-- a refusal has one of 1 to 11, or 20; a plan's one of 1 to 10
pub share_numbered : {s q : List ℕ} {m k : Shares} {b b' : Buffers} {x : Refusal} → BuildsShare s q m k b (Err x) b'
    → ((1 ≤ number_of x) × (number_of x ≤ 11)) ⊎ (number_of x ≡ 20)
share_numbered B = answers.numbers B

pub records_numbered : {s q : List ℕ} {k : ℕ} {c c' : Scratch} {x : Refusal}
    → PlansRecords s q k c (Err x) c' → (1 ≤ number_of x) × (number_of x ≤ 10)
records_numbered P = answers.plan_numbers P

-- 'A refusal alters no output place'
pub share_refused_nothing : {s q : List ℕ} {m k : Shares} {b b' : Buffers} {x : Refusal}
    → BuildsShare s q m k b (Err x) b' → b'.outs ≡ b.outs
share_refused_nothing B = answers.untouched B

-- the scratch is as it was after a refusal at or before check 9, and after 20, which stands before it; else cleared
pub share_scratch_kept : {s q : List ℕ} {m k : Shares} {b b' : Buffers} {x : Refusal}
    → BuildsShare s q m k b (Err x) b' → (number_of x ≤ 9) ⊎ (number_of x ≡ 20) → b'.scratch ≡ b.scratch
share_scratch_kept B h = answers.kept B h

pub share_scratch_cleared : {s q : List ℕ} {m k : Shares} {b b' : Buffers} {x : Refusal}
    → BuildsShare s q m k b (Err x) b' → 9 < number_of x → number_of x < 20
    → b'.scratch ≡ cleared (head_of s) b.scratch
share_scratch_cleared B h l = answers.emptied B h l

pub share_scratch_after_mesh : {s q : List ℕ} {m k : Shares} {b b' : Buffers} {c : Counts}
    → BuildsShare s q m k b (Ok c) b' → b'.scratch ≡ cleared (head_of s) b.scratch
share_scratch_after_mesh B = answers.emptied_after B

-- ==== '4 also if S is not 0 or the records are not whole or above 65,535'; '20 shares overlap or leave a buffer, after
-- 8 and before 9'

pub four_for_records : {s q : List ℕ} {m k : Shares} {b b' : Buffers} {r : Result Counts Refusal} {h : Head}
    → sizes s ≡ Ok h → unshared h (length q) ≡ true → BuildsShare s q m k b r b' → r ≡ Err BadSize
four_for_records e u B = answers.four e u B

-- past check 8, whatever the scratch and the room are, bad shares give 20; and 20 is given for nothing else
pub twenty : {s q : List ℕ} {m k : Shares} {b b' : Buffers} {r : Result Counts Refusal}
    → PassesShared s q → bad_shares (sizes_of b.outs) m k ≡ true → BuildsShare s q m k b r b' → r ≡ Err BadShares
twenty p t B = answers.twenty p t B

pub twenty_means : {s q : List ℕ} {m k : Shares} {b b' : Buffers} → BuildsShare s q m k b (Err BadShares) b'
    → PassesShared s q × (bad_shares (sizes_of b.outs) m k ≡ true)
twenty_means B = answers.twenty_means B

-- shares pass it exactly where both parties' lie in their buffers, and in no buffer overlap: one is empty, or one ends
-- before the other starts. It is the same whichever party calls
pub good_means : (o : Outs) (m k : Shares) → GoodShares o m k → Fits m o × Fits k o × Apart m k
good_means o m k g = answers.means o m k g

pub good_by : (o : Outs) (m k : Shares) → Fits m o → Fits k o → Apart m k → GoodShares o m k
good_by o m k f g a = answers.by o m k f g a

pub good_for_both : (o : Outs) (m k : Shares) → GoodShares o m k → GoodShares o k m
good_for_both o m k g = answers.for_both o m k g

-- ==== 'answers as the job with those records would in that share, corners and starts counted from 0 there'

-- past 20 a party's call IS the base's build of that job, on its shares and the scratch: every theorem of build's page
-- holds there. (`AllBytes`: each number of s is below 256, as in every slice of u8.)
pub as_job : {s q : List ℕ} {m k : Shares} {b b' : Buffers} {r : Result Counts Refusal}
    → AllBytes s → Shared s q → GoodShares b.outs m k → BuildsShare s q m k b r b'
    → Builds (with_records s q) (in_share m b) r (in_share m b')
as_job y S g B = job.builds_as_job _ _ _ _ _ _ _ y S g B

pub plan_as_job : {s q : List ℕ} {k : ℕ} {c c' : Scratch} {r : Result Plan Refusal}
    → AllBytes s → Shared s q → PlansRecords s q k c r c' → Plans (with_records s q) k c r c'
plan_as_job y S P = job.plans_as_job _ _ _ _ _ _ y S P

-- a mesh was handed out only past all checks: of it nothing need be known
pub mesh_as_job : {s q : List ℕ} {m k : Shares} {b b' : Buffers} {c : Counts} → AllBytes s
    → BuildsShare s q m k b (Ok c) b' → Builds (with_records s q) (in_share m b) (Ok c) (in_share m b')
mesh_as_job y B = answers.mesh_as_job y B

-- ==== Isolation: 'one party's answer, refusal, counts and written places are the same for any calls of the other given
-- those same shares, which change nothing in its share'

-- every place outside the caller's share stays as it was
pub outside_stays : {s q : List ℕ} {m k : Shares} {b b' : Buffers} {r : Result Counts Refusal}
    → BuildsShare s q m k b r b' → Outside m b.outs b'.outs
outside_stays B = sharing.did_outside _ _ _ _ (sharing.did B)

-- and so nothing changes in the other's share
pub other_untouched : {s q : List ℕ} {m k : Shares} {b b' : Buffers} {r : Result Counts Refusal}
    → BuildsShare s q m k b r b' → share_of k b'.outs ≡ share_of k b.outs
other_untouched B = sharing.did_other _ _ _ _ (sharing.did B)

-- any calls of the other, refused or not, of any jobs and records, with whatever scratch
pub others_untouched : {m k : Shares} {o o' : Outs}
    → Called k m o o' → (sizes_of o' ≡ sizes_of o) × (share_of m o' ≡ share_of m o)
others_untouched C = sharing.called_other _ _ _ _ C

-- THE isolation theorem: in two histories from the same buffers, each with any calls of the other before the party's
-- call and after it, the party's answers are equal, and so is what its shares hold at the end. No hypothesis on shares:
-- where they are bad, every call with them is refused and changes nothing
pub isolated : {s q : List ℕ} {m k : Shares} {o o₁ o₂ p₁ p₂ : Outs} {c d c' d' : Scratch} {r t : Result Counts Refusal}
    {b₁ b₂ : Outs}
    → Called k m o o₁ → BuildsShare s q m k (at o₁ c) r (at b₁ c') → Called k m b₁ p₁
    → Called k m o o₂ → BuildsShare s q m k (at o₂ d) t (at b₂ d') → Called k m b₂ p₂
    → length c.words ≡ length d.words → length c.floats ≡ length d.floats
    → (r ≡ t) × (share_of m p₁ ≡ share_of m p₂)
isolated X₁ B Y₁ X₂ D Y₂ w f = answers.isolated X₁ B Y₁ X₂ D Y₂ w f

-- ==== 'Demands 2 and 3 are read so, where buffers no shorter are shares no shorter that pass 20'

-- the share holds the mesh of 01's list for the job with those records, at its front
pub share_holds : {s q : List ℕ} {m k : Shares} {b b' : Buffers} {c : Counts}
    → AllBytes s → BuildsShare s q m k b (Ok c) b'
    → HoldsMesh (protein_in (with_records s q)) (tubes_in (with_records s q)) (share_of m b.outs) (share_of m b'.outs)
share_holds y B = answers.holds y B

-- every tube once, in order, with 64n-54 vertices and 128n-112 triangles; closed
pub share_tube_stands : {s q : List ℕ} {m k : Shares} {b b' : Buffers} {c : Counts} {i : ℕ} {u : Tube}
    → AllBytes s → BuildsShare s q m k b (Ok c) b' → TubeAt (tubes_in (with_records s q)) i u
    → TubeStands (protein_in (with_records s q)) u i (vertex_sum (take i (tubes_in (with_records s q))))
    (triangle_sum (take i (tubes_in (with_records s q)))) (share_of m b'.outs)
share_tube_stands y B t = answers.stands y B t

pub share_closed : {s q : List ℕ} {m k : Shares} {b b' : Buffers} {c : Counts}
    → AllBytes s → BuildsShare s q m k b (Ok c) b'
    → Sound 0 c.vertices c.triangles (take (3 * c.triangles) (share_of m b'.outs).triangles)
share_closed y B = answers.closed y B

-- shares no shorter that pass 20, in any buffers, with scratch no shorter, get the same mesh
pub same_in_longer_shares : {s q : List ℕ} {m k n l : Shares} {b b' d d' : Buffers} {c : Counts} {r : Result Counts Refusal}
    → AllBytes s → BuildsShare s q m k b (Ok c) b' → NoShorterShares m n → NoLess b.scratch d.scratch
    → GoodShares d.outs n l → BuildsShare s q n l d r d'
    → (r ≡ Ok c) × SameMesh c (share_of m b'.outs) (share_of n d'.outs)
same_in_longer_shares y B N w g D = answers.longer y B N w g D

-- and past every check before 9, 20 among them, with enough scratch and within the vertex limit, which applies to each
-- party alone, a party is refused for room exactly when some share is shorter than its mesh needs
pub share_refused_for_room : {s q : List ℕ} {m k : Shares} {b b' : Buffers} {r : Result Counts Refusal}
    → AllBytes s → Shared s q → GoodShares b.outs m k → Buildable (with_records s q) b.scratch
    → BuildsShare s q m k b r b' → Shorter (share_of m b.outs) (counts_of (tubes_in (with_records s q)))
    → r ≡ Err (NoRoom (length (tubes_in (with_records s q))) (vertex_sum (tubes_in (with_records s q)))
    (triangle_sum (tubes_in (with_records s q))))
share_refused_for_room y S g R B h = answers.refused y S g R B h

pub share_only_for_room : {s q : List ℕ} {m k : Shares} {b b' : Buffers} {r : Result Counts Refusal}
    → AllBytes s → Shared s q → GoodShares b.outs m k → Buildable (with_records s q) b.scratch
    → BuildsShare s q m k b r b' → RoomFor (share_of m b.outs) (counts_of (tubes_in (with_records s q)))
    → r ≡ Ok (counts_of (tubes_in (with_records s q)))
share_only_for_room y S g R B h = answers.given y S g R B h
