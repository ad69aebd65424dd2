use native.Mathlib.Omega.{arith}
use Rattle.pdb_job.proofs.Writing.{found_low, first_serial, last_serial, segment_made}
use Rattle.pdb_job.proofs.records.FileTables.to_segment.Goals as goal

pub serial_at-start-requires : goal.serial_at-start-requires
serial_at-start-requires c = (omega arith, found_low _ _ _ _ c.find-a.ensures c.args.self.now.index.index.few)

pub serial_at-end-requires : goal.serial_at-end-requires
serial_at-end-requires c = (omega arith, found_low _ _ _ _ c.find-b.ensures c.args.self.now.index.index.few)

pub returns : goal.returns
returns c = let R = c.args.self.now.residues in
    segment_made _ c.args.g _ _ (first_serial _ _ _ _ _ R _ _ _ c.find-a.ensures c.serial_at-start.ensures) (last_serial _ _ _ _ _ R _ _ _ c.find-b.ensures c.serial_at-end.ensures)
