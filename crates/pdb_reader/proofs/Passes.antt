-- A structure within the limits, whatever file it came from, gives a job that passes checks 1 to 8. Assumes nothing.
use Prim.Native.Nat.{ℕ, zero, suc, ◌<◌, ◌≤◌}
use mathlib.Core.Bool.{true, false, or-true}
use mathlib.Core.Path.{◌≡◌, refl, sym, ap, ◌∙◌, subst}
use mathlib.Core.List.{List, [], ◌∷◌, map}
use native.Mathlib.Omega.{arith}
use lib.Dec.{eqb}
use lib.ListN.{drop, length-map}
use borrow.Author.Tests.{eq-eqb}
use Rattle.job.specs.Check.{check}
use Rattle.std.specs.Prelude.{Ok}
use Rattle.appearance.specs.Order.{member}
use Rattle.appearance.proofs.Theorems.{below_count}
use Rattle.job_writer.specs.declared.JobAtom.{JobAtom}
use Rattle.job_writer.specs.declared.JobSegment.{JobSegment}
use Rattle.job_writer.proofs.Fine.{Placed, Right, written_fine}
use Rattle.pdb_records.specs.declared.AtomLine.{AtomLine}
use Rattle.pdb_records.specs.declared.SegmentLine.{SegmentLine}
use Rattle.pdb_file.specs.Reading.{names, letters}
use Rattle.pdb_job.specs.Structure.{Structure, to_atom, to_segment, chains_of, residues_of, structure_job}
use Rattle.pdb_reader.specs.Call.{past_limits}
use Rattle.pdb_reader.specs.Says.{NotMinusZero, head_for}
use Rattle.pdb_reader.proofs.Answers.{limited}

-- what a reader has to show of an atom: its serial fits four bytes, and its coordinates are within check 8's limits and none is -0
pub record Proper (a : AtomLine) : Type 0 where
  pub serial : a.serial < 4294967296
  pub role : a.role ≤ 2
  pub x : Placed a.x
  pub y : Placed a.y
  pub z : Placed a.z
  pub plus_x : NotMinusZero a.x
  pub plus_y : NotMinusZero a.y
  pub plus_z : NotMinusZero a.z

abbrev pub Every : {A : Type 0} → (A → Type 0) → List A → Type 0
Every P [] = Unit
Every P (x ∷ l) = P x × Every P l

-- a segment is a coil, a helix or a sheet
abbrev pub Kinded : SegmentLine → Type 0
Kinded g = g.kind ≤ 2

-- ---- number k of a list
pub every_at : {A : Type 0} (P : A → Type 0) (l : List A) (k : ℕ) (x : A) (r : List A) → Every P l → drop k l ≡ x ∷ r → P x
every_at P [] zero x r h e = absurd (let z : ◌≡◌ {A = ℕ} 0 1 = cc in omega arith)
every_at P [] (suc k) x r h e = absurd (let z : ◌≡◌ {A = ℕ} 0 1 = cc in omega arith)
every_at P (y ∷ l) zero x r h e =
    let q : y ≡ x = cc in
    subst P q h.0
every_at P (y ∷ l) (suc k) x r h e = every_at P l k x r h.1 e

-- number k of a mapped list is the image of number k
pub record Image {A B : Type 0} (f : A → B) (l : List A) (k : ℕ) (b : B) : Type 0 where
  pub item : A
  pub tail : List A
  pub is : drop k l ≡ item ∷ tail
  pub image : b ≡ f item

pub map_back : {A B : Type 0} (f : A → B) (l : List A) (k : ℕ) (b : B) (t : List B) → drop k (map f l) ≡ b ∷ t → Image f l k b
map_back f [] zero b t e = absurd (let z : ◌≡◌ {A = ℕ} 0 1 = cc in omega arith)
map_back f [] (suc k) b t e = absurd (let z : ◌≡◌ {A = ℕ} 0 1 = cc in omega arith)
map_back f (y ∷ l) zero b t e =
    let q : f y ≡ b = cc in
    record { item = y; tail = l; is = refl; image = sym q }
map_back f (y ∷ l) (suc k) b t e =
    let m = map_back f l k b t e in
    record { item = m.item; tail = m.tail; is = m.is; image = m.image }

-- what atom k has, whatever it is, is among what the atoms have
kth_in : (f : AtomLine → ℕ) (l : List AtomLine) (k : ℕ) (a : AtomLine) (t : List AtomLine) → drop k l ≡ a ∷ t → member (f a) (map f l) ≡ true
unfolding member
kth_in f [] zero a t e = absurd (let z : ◌≡◌ {A = ℕ} 0 1 = cc in omega arith)
kth_in f [] (suc k) a t e = absurd (let z : ◌≡◌ {A = ℕ} 0 1 = cc in omega arith)
kth_in f (b ∷ l) zero a t e =
    let q : b ≡ a = cc in
    rw (eq-eqb (f a) (f b) (ap f (sym q)))
kth_in f (b ∷ l) (suc k) a t e = rw (kth_in f l k a t e) (or-true (eqb (f a) (f b)))

-- ---- the job's records
module _ (ats : List AtomLine) (P : Every Proper ats) where
  pub atom_right : (k : ℕ) (b : JobAtom) (t : List JobAtom) → drop k (map (to_atom ats) ats) ≡ b ∷ t → Right (chains_of ats) (residues_of ats) b
  atom_right k b t e =
      let m = map_back (to_atom ats) ats k b t e in
      let p = every_at Proper ats k m.item m.tail P m.is in
      subst (Right (chains_of ats) (residues_of ats)) (sym m.image) (record {
        role = p.role;
        residue = below_count m.item.name (names ats) (kth_in (λ (a : AtomLine). a.name) ats k m.item m.tail m.is);
        chain = below_count m.item.chain (letters ats) (kth_in (λ (a : AtomLine). a.chain) ats k m.item m.tail m.is);
        x = p.x;
        y = p.y;
        z = p.z;
      })

  segment_right : (gs : List SegmentLine) → Every Kinded gs → (k : ℕ) (b : JobSegment) (t : List JobSegment) → drop k (map (to_segment ats) gs) ≡ b ∷ t → b.kind ≤ 2
  segment_right gs G k b t e =
      let m = map_back (to_segment ats) gs k b t e in
      subst (λ (g : JobSegment). g.kind ≤ 2) (sym m.image) (every_at Kinded gs k m.item m.tail G m.is)

-- THE law for a reader: proper atoms and segments, within the limits, make a job that passes checks 1 to 8
pub structure_passes : (x : Structure) → Every Proper x.atoms → Every Kinded x.segments → past_limits x ≡ false → check (structure_job x) ≡ Ok (head_for x)
unfolding structure_job
structure_passes x P G e =
    let l = limited x e in
    let g = length-map x.segments (to_segment x.atoms) in
    let a = length-map x.atoms (to_atom x.atoms) in
    written_fine (chains_of x.atoms) (residues_of x.atoms) (map (to_segment x.atoms) x.segments) (map (to_atom x.atoms) x.atoms) l.chains l.residues
    (omega (arith, g, l.segments_are)) (omega (arith, a, l.atoms)) (segment_right x.atoms P x.segments G) (atom_right x.atoms P)
    ∙ rw (g, a)
