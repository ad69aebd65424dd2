use Prim.Native.Nat.{ℕ}
use lib.ListN.{length-replicate}
use Rattle.appearance.proofs.Holding.{empty_index, holding_none}
use Rattle.pdb_notes.proofs.Gathering.{both_counted}
use Rattle.pdb_notes.proofs.left_out.count_residues.Goals as goal

pub gather-modelled-requires : goal.gather-modelled-requires
gather-modelled-requires c = empty_index _ (length-replicate {A = ℕ} 16384 0)

pub gather-resolved-requires : goal.gather-resolved-requires
gather-resolved-requires c = c.gather-modelled.ensures.index.0

pub returns : goal.returns
returns c = record { modelled_value = λ h. both_counted _ _ _ _ _ _ _ _ _ _ (holding_none _ (length-replicate {A = ℕ} 16384 0)) c.gather-modelled.ensures.gains c.gather-resolved.ensures.gains c.gather-resolved.ensures.index.1 h; modelled_le_resolved = c.gather-resolved.ensures.index.1 }
