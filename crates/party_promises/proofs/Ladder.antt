-- The order of a party's checks past 8: 20, and then those of the base in the share. Assumes nothing.
use mathlib.Core.Bool.{true, false}
use mathlib.Core.List.{List}
use mathlib.Core.Path.{◌≡◌, sym, ◌∙◌, ap}
use lib.ListN.{length}
use Rattle.protein.specs.declared.Head.{Head}
use Rattle.job.specs.declared.Refusal.TheVariants.{BadShares}
use Rattle.tubes.specs.Tubes.{Tube}
use Rattle.shares.specs.declared.Shares.{Shares}
use Rattle.shares.specs.Shares.{bad_shares}
use Rattle.shares.proofs.Laws.{good_fits, sizes_share}
use Rattle.buffers.specs.Outs.{Sizes}
use Rattle.room.specs.Room.{Lent, Buffers, lent}
use Rattle.std.specs.Prelude.{Err}
use Rattle.promises.specs.Calls.{build_checks}
use Rattle.party_promises.specs.Calls.{share_lent, share_checks}
use Rattle.party_promises.specs.Parties.{GoodShares, in_share}

module _ (h : Head) (us : List Tube) (m k : Shares) (l : Lent) where
  -- bad shares give 20, whatever the scratch and the room are
  pub bad_first : bad_shares l.outs m k ≡ true → share_checks h us m k l ≡ Err BadShares
  unfolding share_checks
  bad_first t = rw t

  pub good_then : bad_shares l.outs m k ≡ false → share_checks h us m k l ≡ build_checks h us (share_lent m l)
  unfolding share_checks
  good_then t = rw t

-- in good shares they are the base's checks of what the party is lent
pub good_share : (h : Head) (us : List Tube) (m k : Shares) (b : Buffers) → GoodShares b.outs m k → share_checks h us m k (lent b) ≡ build_checks h us (lent (in_share m b))
good_share h us m k b g =
    good_then h us m k (lent b) g
    ∙ ap (λ (z : Sizes). build_checks h us (record { outs = z; words = length b.scratch.words; floats = length b.scratch.floats }))
    (sym (sizes_share m b.outs (good_fits m k b.outs g).0))
