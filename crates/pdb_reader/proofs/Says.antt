-- A structure's job says what the structure says, whatever file that came from. Assumes nothing.
use Prim.Native.Nat.{ℕ, suc, ◌+◌, ◌-◌, ◌*◌, ◌%◌, ◌<◌}
use mathlib.Core.Bool.{Bool, true, false, cond}
use mathlib.Core.Path.{◌≡◌, refl, ap, ◌∙◌}
use mathlib.Core.List.{List, [], ◌∷◌, map}
use native.Mathlib.Nat.{mod-eq_of_lt}
use native.Mathlib.Omega.{arith}
use lib.Dec.{eqb}
use lib.Ieee.{binary32, binary64, of_bits}
use lib.ListN.{length, drop, length-map}
use borrow.Author.Tests.{eq-eqb, lt-ltb}
use Rattle.floats.specs.Floats.{narrowed}
use Rattle.lists.proofs.Any.{drop_map}
use Rattle.numbers.specs.Bytes.{u8_at, u64_at}
use Rattle.numbers.proofs.Readback.{holds_moved}
use Rattle.protein.specs.Job.{job_of, segments_of}
use Rattle.protein.specs.Layout.{records_of, atom_at}
use Rattle.protein.specs.Places.{coordinate_at, place_of}
use Rattle.protein.specs.declared.Head.{Head}
use Rattle.job_writer.specs.Job.{flat, segment_bytes, job_bytes, atom_bytes}
use Rattle.job_writer.specs.declared.JobAtom.{JobAtom}
use Rattle.job_writer.specs.declared.JobSegment.{JobSegment}
use Rattle.job_writer.proofs.Laws.{wide_segment, wide_atom, length_flat}
use Rattle.job_writer.proofs.Fine.{Right}
use Rattle.job_writer.proofs.Readback.{visible_read, records_are, segment_there, atom_there, segment_read, atom_read}
use Rattle.pdb_records.specs.declared.AtomLine.{AtomLine}
use Rattle.pdb_file.specs.Faults.{first_atom, last_atom, serial_in}
use Rattle.std.specs.Option.{option_or}
use Rattle.pdb_job.specs.Structure.{Structure, to_atom, to_segment, structure_job}
use Rattle.pdb_reader.specs.Call.{past_limits}
use Rattle.pdb_reader.specs.Says.{head_for, narrow, SegmentSaid, AtomSaid, Says}
use Rattle.pdb_reader.proofs.Answers.{limited}
use Rattle.pdb_reader.proofs.Passes.{Proper, Every, every_at, atom_right}
use Rattle.std.specs.Prelude.{Option, Some, None}

-- ---- a serial that is found is an atom's, and fits four bytes
first_fits : (n : ℕ) (l : List AtomLine) → Every Proper l → serial_in (first_atom n l) < 4294967296
unfolding first_atom
first_fits n [] P = omega arith
first_fits n (a ∷ l) P = go (eqb a.name n) (first_fits n l P.1)
  where
    go : (b : Bool) → serial_in (first_atom n l) < 4294967296 → serial_in (cond b (Some a.serial) (first_atom n l)) < 4294967296
    go true h = P.0.serial
    go false h = h

last_fits : (n : ℕ) (l : List AtomLine) → Every Proper l → serial_in (last_atom n l) < 4294967296
unfolding last_atom
last_fits n [] P = omega arith
last_fits n (a ∷ l) P = go (last_atom n l) (eqb a.name n) (last_fits n l P.1)
  where
    go : (f : Option ℕ) (b : Bool) → serial_in f < 4294967296 → serial_in (option_or f (cond b (Some a.serial) None)) < 4294967296
    go (Some s) b h = h
    go None true h = P.0.serial
    go None false h = omega arith

-- ---- the records of segments
segments_said : (gs : List JobSegment) → (segments_of (flat segment_bytes gs)).count ≡ length gs
segments_said gs = omega (arith, length_flat segment_bytes 9 wide_segment gs)

segment_said : (gs : List JobSegment) (k : ℕ) (g : JobSegment) (t : List JobSegment) → drop k gs ≡ g ∷ t → g.start < 4294967296 → g.end < 4294967296
    → SegmentSaid (segments_of (flat segment_bytes gs)) k g
segment_said gs k g t e l m =
    let r = segment_read (flat segment_bytes gs) (9 * k) g (segment_there gs k g t e) in
    record { kind = r.kind; start = r.start ∙ mod-eq_of_lt l; stop = r.end ∙ mod-eq_of_lt m }

-- ---- the bytes of a job whose counts are h's
module _ (h : Head) (gs : List JobSegment) (ats : List JobAtom) where
  abbrev job : List ℕ
  job = job_bytes 1 33 atom_bytes h.chains h.residues gs ats

  visible_said : (k : ℕ) → k < h.chains → (job_of job h).visible k ≡ true
  visible_said k l = rw (lt-ltb k h.chains l) (eq-eqb (u8_at job (13 + k)) 1 (visible_read 1 33 atom_bytes wide_atom h.chains h.residues gs ats k l))

  -- its records are the segments' own
  records_said : length gs ≡ h.segments → records_of job h ≡ flat segment_bytes gs
  records_said n = rw (← n) (records_are 1 33 atom_bytes wide_atom h.chains h.residues gs ats)

  narrowed_at : (i x : ℕ) → u64_at job i ≡ x % 18446744073709551616 → x < 18446744073709551616 → coordinate_at job i ≡ narrow x
  unfolding coordinate_at narrow
  narrowed_at i x e l = ap (λ (n : ℕ). narrowed binary32 (of_bits binary64 n)) (e ∙ mod-eq_of_lt l)

  atom_said : length gs ≡ h.segments → h.chains < 65536 → h.residues < 65536 → (k : ℕ) (a : JobAtom) (t : List JobAtom) → drop k ats ≡ a ∷ t → a.serial < 4294967296
      → Right h.chains h.residues a → AtomSaid (job_of job h) (place_of job h (suc k)) k a
  unfolding place_of
  atom_said n c r k a t e l p =
      let i = atom_at h k in
      let q : suc k - 1 ≡ k = omega arith in
      let b = atom_there 1 33 atom_bytes wide_atom h.chains h.residues gs ats k a t e in
      let d = atom_read job i a (holds_moved job (13 + h.chains + 9 * length gs + 33 * k) i (atom_bytes a) (omega (arith, n)) b) in
      record {
        serial = d.serial ∙ mod-eq_of_lt l;
        role = d.role;
        residue = d.residue ∙ mod-eq_of_lt (omega (arith, p.residue, r));
        chain = d.chain ∙ mod-eq_of_lt (omega (arith, p.chain, c));
        place = rw (q, narrowed_at (i + 9) a.x d.x p.x.small, narrowed_at (i + 17) a.y d.y p.y.small, narrowed_at (i + 25) a.z d.z p.z.small);
      }

-- THE law for a reader: the job of proper atoms, within the limits, says of each atom and each segment what the structure says
pub structure_says : (x : Structure) → Every Proper x.atoms → past_limits x ≡ false
    → Says x (head_for x) (structure_job x)
unfolding structure_job
structure_says x P e =
    let l = limited x e in
    let gs = map (to_segment x.atoms) x.segments in
    let ats = map (to_atom x.atoms) x.atoms in
    let n = length-map x.segments (to_segment x.atoms) in
    let q = records_said (head_for x) gs ats n in
    record {
      atoms = refl;
      residues = refl;
      segments = rw q (segments_said gs ∙ n);
      visible = visible_said (head_for x) gs ats;
      segment = λ k g t d.
          rw q (segment_said gs k (to_segment x.atoms g) _ (drop_map (to_segment x.atoms) k x.segments ∙ ap (map (to_segment x.atoms)) d) (first_fits g.start x.atoms P) (last_fits g.end x.atoms P));
      atom = λ k a t d.
          let m = drop_map (to_atom x.atoms) k x.atoms ∙ ap (map (to_atom x.atoms)) d in
          atom_said (head_for x) gs ats n (omega (arith, l.chains)) (omega (arith, l.residues)) k (to_atom x.atoms a) _ m
          (every_at Proper x.atoms k a t P d).serial (atom_right x.atoms P k (to_atom x.atoms a) _ m);
    }
