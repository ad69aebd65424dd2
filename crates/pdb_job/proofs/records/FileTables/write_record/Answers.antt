use native.Mathlib.Omega.{arith}
use mathlib.Core.Path.{ap}
use Rattle.pdb_file.specs.Reading.{atoms_in, segments_in}
use Rattle.pdb_file.proofs.Laws.{no_atom, no_segment}
use Rattle.pdb_job.proofs.Writing.{segment_room, atom_room, counts_are_lem, wrote_segment, wrote_atom, wrote_none}
use borrow.Author.Rules.{rules}
use Rattle.pdb_job.proofs.records.FileTables.write_record.Goals as goal

pub put_segment-requires : goal.put_segment-requires
put_segment-requires c = segment_room _ _ _ _ c.in-ASegment.is c.requires.1

pub to_atom-j-requires : goal.to_atom-j-requires
to_atom-j-requires c = let H = c.requires.0 _ (ap atoms_in c.in-AnAtom.is) in
    (H.0, H.1 (search rules))

pub put_atom-requires : goal.put_atom-requires
put_atom-requires c = atom_room _ _ _ _ c.in-AnAtom.is c.requires.2

pub returns-in-ASegment : goal.returns-in-ASegment
returns-in-ASegment c = let q = counts_are_lem _ _ c.in-ASegment.is in
    (wrote_segment _ _ _ _ _ _ _ _ c.in-ASegment.is c.to_segment-j.ensures c.put_segment.ensures, omega (arith, q.0), omega (arith, q.1))

pub returns-in-AnAtom : goal.returns-in-AnAtom
returns-in-AnAtom c = let q = counts_are_lem _ _ c.in-AnAtom.is in
    (wrote_atom _ _ _ _ _ _ _ _ c.in-AnAtom.is c.to_atom-j.ensures c.put_atom.ensures, omega (arith, q.0), omega (arith, q.1))

pub returns-in_default : goal.returns-in_default
returns-in_default c =
    let a = no_atom _ c.in_default.not-AnAtom in
    let g = no_segment _ c.in_default.not-ASegment in
    (wrote_none _ _ _ _ _ g a, rw g (omega arith), rw a (omega arith))
