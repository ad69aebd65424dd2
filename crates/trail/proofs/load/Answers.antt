use Prim.Native.Nat.{ℕ}
use mathlib.Core.Bool.{Bool}
use mathlib.Core.Path.{◌≡◌, refl, sym, subst}
use native.Mathlib.Omega.{arith}
use lib.ListN.{length}
use Rattle.protein.specs.Job.{job_of, segments_of}
use Rattle.protein.specs.Places.{place_of, far_by}
use Rattle.coils.specs.Coils.{Coiled, loose_list}
use Rattle.trail.specs.Place.{Opened}
use Rattle.scratch.proofs.Laws.{kept_refl}
use Rattle.trail.proofs.Places.{opened, opened_all, gathered, covers_all, covers_still, tables_of, coils_onward, coil_onward, load_segment, load_first, load_coil, load_none, coils_over, moved_as}
use Rattle.trail.proofs.load.Goals as goal

pub next_segment-requires : goal.next_segment-requires
next_segment-requires c =
    let args = c.args in
    let pre = c.requires in
    let J = job_of args.b.now args.h in
    let G = segments_of args.q.now in
    let O = opened J G _ args.c args.c.source _ _ pre.1 refl c.in-Segment.is in
    (pre.0, pre.1.stands.size, pre.1.order, omega (arith, O.all, c.if-c.true), subst (λ (n : ℕ). Opened J G args.c.past n args.scratch.now) O.all O, pre.2)

pub returns-then-c : goal.returns-then-c
returns-then-c c =
    let args = c.args in
    let pre = c.requires in
    let J = job_of args.b.now args.h in
    let G = segments_of args.q.now in
    let O = opened J G _ args.c args.c.source _ _ pre.1 refl c.in-Segment.is in
    (c.next_segment.ensures.0, load_segment J G (far_by (place_of args.b.now args.h)) args.c.source _ _ _ _ args.c.past G.count args.c.all _ _ c.in-Segment.is O.all c.next_segment.ensures.1)

pub list_loose-all-requires : goal.list_loose-all-requires
list_loose-all-requires c =
    let args = c.args in
    let pre = c.requires in
    let J = job_of args.b.now args.h in
    let G = segments_of args.q.now in
    (pre.0, tables_of J G _ _ _ pre.1.stands.size (opened J G _ args.c args.c.source _ _ pre.1 refl c.in-Segment.is), pre.2)

pub enter-run-requires : goal.enter-run-requires
enter-run-requires c =
    let args = c.args in
    let pre = c.requires in
    let J = job_of args.b.now args.h in
    let G = segments_of args.q.now in
    let W = gathered J G _ args.c args.c.source pre.1 refl c.in-Coils.is in
    let e = sym (covers_still J G _ W.coiled) in
    (pre.0, subst (λ (k : ℕ → Bool). Coiled J k args.scratch.now) e W.coiled, subst (λ (k : ℕ → Bool). args.c.all ≡ length (loose_list J k)) e W.all, c.if-c-2.true)

pub returns-then-c-2 : goal.returns-then-c-2
returns-then-c-2 c =
    let args = c.args in
    let pre = c.requires in
    let J = job_of args.b.now args.h in
    let G = segments_of args.q.now in
    let far = far_by (place_of args.b.now args.h) in
    let told = c.in-Coils.is in
    let W = gathered J G _ args.c args.c.source pre.1 refl told in
    let O = coil_onward J G far _ args.c.all args.c.past args.c.order _ _ c.enter-run.result (covers_still J G _ W.coiled) pre.1.order W c.if-c-2.true c.enter-run.ensures in
    (O.0, moved_as J G far _ _ _ _ _ c.coils_place-then-c-2.ensures (load_coil J G far args.c.source args.c.past args.c.all _ _ told O.1))

pub returns-else-c : goal.returns-else-c
returns-else-c c =
    let args = c.args in
    let pre = c.requires in
    let J = job_of args.b.now args.h in
    let G = segments_of args.q.now in
    let far = far_by (place_of args.b.now args.h) in
    let told = c.in-Segment.is in
    let O = opened J G _ args.c args.c.source _ _ pre.1 refl told in
    let p = c.list_loose-all.ensures in
    let N = coils_onward J G far (record { start = 0; stop = 0 }) _ c.list_loose-all.result args.c.order _ _ (covers_all J G args.c.all _ (opened_all J G args.c.past args.c.all _ O pre.1.past c.if-c.false)) pre.1.order p.0 p.1 p.2 in
    (N.0, moved_as J G far _ _ _ _ _ c.coils_place.ensures (load_first J G far args.c.source _ _ _ args.c.past G.count args.c.all _ _ told O.all pre.1.past c.if-c.false N.1))

pub returns-else-c-2 : goal.returns-else-c-2
returns-else-c-2 c =
    let args = c.args in
    let pre = c.requires in
    let J = job_of args.b.now args.h in
    let G = segments_of args.q.now in
    let far = far_by (place_of args.b.now args.h) in
    let told = c.in-Coils.is in
    (kept_refl _ _ _, load_none J G far args.c.source args.c.past told (coils_over J G far args.c.all args.c.past _ (gathered J G _ args.c args.c.source pre.1 refl told) c.if-c-2.false))
