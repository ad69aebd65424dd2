use Rattle.std.proofs.lemmas.Result.{err_from_is_err_and}
use mathlib.Core.Path.{sym, ◌∙◌}
use Rattle.job.proofs.Laws.{shared_whole}
use Rattle.job.proofs.Accepted.{shared_accepted}
use Rattle.buffers.specs.Outs.{outs}
use Rattle.shares.proofs.Laws.{good_fits}
use Rattle.ribbon.proofs.Laws.{chained}
use Rattle.party_promises.proofs.Kept.{share_refused, share_bad, share_passed}
use Rattle.parties.proofs.build_share.Goals as goal

pub returns-then-is_bad_shares : goal.returns-then-is_bad_shares
returns-then-is_bad_shares c =
    share_bad _ _ _ _ _ (sym c.in_ok-h.ensures) _ (sym c.is_bad_shares.ensures ∙ c.if-is_bad_shares.true)

pub build_within-requires : goal.build_within-requires
build_within-requires c =
    let args = c.args in
    let e = sym c.in_ok-h.ensures in
    let w = shared_whole _ _ _ e in
    let o = outs args.positions.now args.normals.now args.tags.now args.triangles.now args.tubes.now args.boxes.now in
    (w.0, chained _ _ _ (shared_accepted _ _ _ e), w.3, (good_fits args.mine args.other o (sym c.is_bad_shares.ensures ∙ c.if-is_bad_shares.false)).0)

pub returns-in_err-h : goal.returns-in_err-h
returns-in_err-h c = let p = err_from_is_err_and c.from_residual.result c.from_residual.ensures.1 in rw (p.1, p.2) (share_refused _ _ _ _ _ _ (sym c.in_err-h.ensures))

pub returns : goal.returns
returns c =
    let f = c.build_within.ensures in
    share_passed _ _ _ _ _ (sym c.in_ok-h.ensures) _ _ _ (sym c.is_bad_shares.ensures ∙ c.if-is_bad_shares.false) f.0 f.1 f.2
