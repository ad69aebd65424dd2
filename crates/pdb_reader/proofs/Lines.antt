-- What is true of every atom and segment that a file gives. Assumes nothing.
use Prim.Native.Nat.{ℕ, ◌<◌, ◌≤◌}
use mathlib.Core.Bool.{Bool, true, false, cond}
use mathlib.Core.Path.{◌≡◌, refl, subst}
use mathlib.Core.List.{List, [], ◌∷◌}
use native.Mathlib.Omega.{arith}
use lib.Dec.{ltb}
use lib.ListN.{length, drop}
use Rattle.job_writer.proofs.Fine.{Placed}
use Rattle.coordinates.specs.Coordinate.{bits}
use Rattle.pdb_lines.specs.Columns.{column, columns, named}
use Rattle.pdb_fields.specs.Numbers.{whole, thousandths}
use Rattle.pdb_fields.specs.declared.Signed.{Signed}
use Rattle.pdb_records.specs.Names.{CA, O}
use Rattle.pdb_records.specs.Records.{role_of, serial_of, residue_columns, bits_of, with, segment_of, atom_of, line_kind, of_kind}
use Rattle.pdb_records.specs.declared.Kind.{Kind}
use Rattle.pdb_records.specs.declared.Kind.TheVariants.{Atom, Helix, Sheet, Model, Endmdl, Other}
use Rattle.pdb_records.specs.declared.Record.{Record}
use Rattle.pdb_records.specs.declared.Record.TheVariants.{Skipped, Short, BadNumber, AnAtom, ASegment}
use Rattle.pdb_file.specs.Reading.{stops, saw, reading, records, atoms, atoms_of, segments, segments_of}
use Rattle.pdb_reader.specs.Says.{NotMinusZero}
use Rattle.pdb_reader.proofs.Passes.{Proper, Every, Kinded}
use Rattle.pdb_reader.proofs.Small.{thousandths_small, whole_small}
use Rattle.pdb_reader.proofs.Range.{within_bits_of, bits_small, never_minus_zero}
use Rattle.lists.proofs.Any.{take_le}
use Rattle.std.specs.Prelude.{Option, Some, None}

abbrev Sound : Record → Type 0
Sound Skipped = Unit
Sound Short = Unit
Sound BadNumber = Unit
Sound (AnAtom a) = Proper a
Sound (ASegment g) = g.kind ≤ 2

placed : (l : List ℕ) (n : ℕ) → length l ≤ 8 → bits_of (thousandths l) ≡ Some n → (Placed n) × (NotMinusZero n)
placed l n long e = go (thousandths l) refl e
  where
    go : (t : Option Signed) → thousandths l ≡ t → bits_of t ≡ Some n → (Placed n) × (NotMinusZero n)
    go None q e = absurd (let z : ◌≡◌ {A = ℕ} 0 1 = cc in omega arith)
    go (Some k) q e =
        let z : bits k.minus k.size ≡ n = cc in
        let low : k.size ≤ 16384000 = omega (arith, thousandths_small l k long q) in (
          subst Placed z (record { inside = within_bits_of k.minus k.size low; small = bits_small k.minus k.size }),
          subst NotMinusZero z (never_minus_zero k.minus k.size),
        )

serial_low : (l : List ℕ) (n : ℕ) → length l ≤ 5 → serial_of (whole l) ≡ Some n → n < 4294967296
serial_low l n long e = go (whole l) refl e
  where
    go : (t : Option Signed) → whole l ≡ t → serial_of t ≡ Some n → n < 4294967296
    go None q e = absurd (let z : ◌≡◌ {A = ℕ} 0 1 = cc in omega arith)
    go (Some k) q e = sized k.minus e
      where
        sized : (m : Bool) → cond m None (Some k.size) ≡ Some n → n < 4294967296
        sized true e = absurd (let z : ◌≡◌ {A = ℕ} 0 1 = cc in omega arith)
        sized false e =
            let z : k.size ≡ n = cc in
            omega (arith, z, whole_small l k long q)

role_low : (l : List ℕ) → role_of l ≤ 2
unfolding role_of
role_low l = go (named CA 13 l) (named O 13 l)
  where
    go : (a b : Bool) → cond a 1 (cond b 2 0) ≤ 2
    go true b = omega arith
    go false true = omega arith
    go false false = omega arith

sound_atom : (l : List ℕ) → Sound (atom_of l)
unfolding atom_of
sound_atom l =
    go (ltb (length l) 54) (serial_of (whole (columns 7 11 l))) (residue_columns 22 23 l) (bits_of (thousandths (columns 31 38 l)))
    (bits_of (thousandths (columns 39 46 l))) (bits_of (thousandths (columns 47 54 l))) refl refl refl refl
  where
    go : (b : Bool) (fs fr fx fy fz : Option ℕ) → serial_of (whole (columns 7 11 l)) ≡ fs → bits_of (thousandths (columns 31 38 l)) ≡ fx → bits_of (thousandths (columns 39 46 l)) ≡ fy → bits_of (thousandths (columns 47 54 l)) ≡ fz
        → Sound (cond b Short (with fs (λ s. with fr (λ r. with fx (λ x. with fy (λ y. with fz (λ z.
        AnAtom (record { serial = s; role = role_of l; chain = column 22 l; name = r; x = x; y = y; z = z }))))))))
    go true fs fr fx fy fz es ex ey ez = tt
    go false None fr fx fy fz es ex ey ez = tt
    go false (Some s) None fx fy fz es ex ey ez = tt
    go false (Some s) (Some r) None fy fz es ex ey ez = tt
    go false (Some s) (Some r) (Some x) None fz es ex ey ez = tt
    go false (Some s) (Some r) (Some x) (Some y) None es ex ey ez = tt
    go false (Some s) (Some r) (Some x) (Some y) (Some z) es ex ey ez =
        let px = placed (columns 31 38 l) x (take_le 8 (drop 30 l)) ex in
        let py = placed (columns 39 46 l) y (take_le 8 (drop 38 l)) ey in
        let pz = placed (columns 47 54 l) z (take_le 8 (drop 46 l)) ez in
        record { serial = serial_low (columns 7 11 l) s (take_le 5 (drop 6 l)) es; role = role_low l; x = px.0; y = py.0; z = pz.0; plus_x = px.1; plus_y = py.1; plus_z = pz.1 }

sound_segment : (k c n c' n' : ℕ) (l : List ℕ) → k ≤ 2 → Sound (segment_of k c n c' n' l)
unfolding segment_of
sound_segment k c n c' n' l h = go (ltb (length l) 38) (residue_columns c n l) (residue_columns c' n' l)
  where
    go : (t : Bool) (a b : Option ℕ) → Sound (cond t Short (with a (λ s. with b (λ e. ASegment (record { kind = k; start = s; end = e })))))
    go true a b = tt
    go false None b = tt
    go false (Some s) None = tt
    go false (Some s) (Some e) = h

sound_line : (k : Kind) (l : List ℕ) → Sound (of_kind k l)
unfolding of_kind
sound_line Atom l = sound_atom l
sound_line Helix l = sound_segment 1 20 22 32 34 l (omega arith)
sound_line Sheet l = sound_segment 2 22 23 33 34 l (omega arith)
sound_line Model l = tt
sound_line Endmdl l = tt
sound_line Other l = tt

sound_reading : (seen : Bool) (ls : List (List ℕ)) → Every Sound (reading seen ls)
unfolding reading
sound_reading seen [] = tt
sound_reading seen (l ∷ ls) = go (stops seen (line_kind l)) (sound_line (line_kind l) l) (sound_reading (saw seen (line_kind l)) ls)
  where
    go : (b : Bool) → Sound (of_kind (line_kind l) l) → Every Sound (reading (saw seen (line_kind l)) ls)
        → Every Sound (cond b [] (of_kind (line_kind l) l ∷ reading (saw seen (line_kind l)) ls))
    go true h t = tt
    go false h t = (h, t)

every_atom : (rs : List Record) → Every Sound rs → Every Proper (atoms rs)
unfolding atoms
every_atom [] h = tt
every_atom (Skipped ∷ rs) h = every_atom rs h.1
every_atom (Short ∷ rs) h = every_atom rs h.1
every_atom (BadNumber ∷ rs) h = every_atom rs h.1
every_atom (AnAtom a ∷ rs) h = (h.0, every_atom rs h.1)
every_atom (ASegment g ∷ rs) h = every_atom rs h.1

every_segment : (rs : List Record) → Every Sound rs → Every Kinded (segments rs)
unfolding segments
every_segment [] h = tt
every_segment (Skipped ∷ rs) h = every_segment rs h.1
every_segment (Short ∷ rs) h = every_segment rs h.1
every_segment (BadNumber ∷ rs) h = every_segment rs h.1
every_segment (AnAtom a ∷ rs) h = every_segment rs h.1
every_segment (ASegment g ∷ rs) h = (h.0, every_segment rs h.1)

-- ---- what a file gives
pub atoms_proper : (s : List ℕ) → Every Proper (atoms_of s)
atoms_proper s = every_atom (records s) (sound_reading false _)

pub segments_kinded : (s : List ℕ) → Every Kinded (segments_of s)
segments_kinded s = every_segment (records s) (sound_reading false _)
