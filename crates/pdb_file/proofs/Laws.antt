-- Laws of the walk. Assumes nothing.
use Prim.Native.Nat.{ℕ, ◌-◌, ◌<◌, ◌≤◌}
use mathlib.Core.Bool.{Bool, true, false, cond}
use mathlib.Core.Path.{◌≡◌, refl, sym, ap, ◌∙◌, subst}
use mathlib.Core.List.{List, [], ◌∷◌}
use native.Mathlib.Omega.{arith}
use lib.Dec.{eqb}
use lib.ListN.{length, take, drop, drop_of_length-le}
use Rattle.pdb_lines.specs.Lines.{lines}
use Rattle.pdb_lines.specs.Post.{Cut}
use Rattle.pdb_records.specs.Records.{line_kind, of_kind}
use Rattle.pdb_records.specs.declared.Kind.{Kind}
use Rattle.pdb_records.specs.declared.AtomLine.{AtomLine}
use Rattle.pdb_records.specs.declared.SegmentLine.{SegmentLine}
use Rattle.pdb_records.specs.declared.Record.{Record}
use Rattle.pdb_records.specs.declared.Record.TheVariants.{Skipped, Short, BadNumber, AnAtom, ASegment}
use Rattle.pdb_file.specs.Reading.{stops, saw, reading, rest, atoms, atoms_in, segments_in}
use Rattle.std.specs.Prelude.{Option, Some, None}
use Rattle.std.specs.Option.{option_or}
use Rattle.pdb_file.specs.Faults.{found_in, first_atom}
use Rattle.pdb_file.specs.Steps.{left, Onward, Stepped, Begins}
use Rattle.pdb_file.specs.declared.walk.Walk.{Walk}

pub rest_over : (s : List ℕ) (at : ℕ) (seen : Bool) → length s ≤ at → rest s at seen ≡ []
unfolding reading lines
rest_over s at seen h = rw (drop_of_length-le s h)

module _ (s : List ℕ) (at to next : ℕ) (seen : Bool) (h : Cut s at to next) where
  line : List ℕ
  line = take (to - at) (drop at s)

  pub rest_stop : (k : Kind) → k ≡ line_kind (take (to - at) (drop at s)) → stops seen k ≡ true → rest s at seen ≡ []
  unfolding reading
  rest_stop k e z = ap (reading seen) h.cut ∙ simp (← e, z)

  pub rest_on : (k : Kind) (r : Record) (v : Bool) → k ≡ line_kind (take (to - at) (drop at s)) → stops seen k ≡ false
      → r ≡ of_kind k (take (to - at) (drop at s)) → v ≡ saw seen k → rest s at seen ≡ r ∷ rest s next v
  unfolding reading
  rest_on k r v e z er ev = ap (reading seen) h.cut ∙ simp (← e, z, er, ev)

-- ---- looking a residue up
first_cons : (n : ℕ) (r : Record) (rs : List Record) → first_atom n (atoms (r ∷ rs)) ≡ option_or (found_in n r) (first_atom n (atoms rs))
unfolding first_atom atoms
first_cons n Skipped rs = refl
first_cons n Short rs = refl
first_cons n BadNumber rs = refl
first_cons n (ASegment g) rs = refl
first_cons n (AnAtom a) rs = go (eqb a.name n)
  where
    go : (b : Bool) → cond b (Some a.serial) (first_atom n (atoms rs)) ≡ option_or (cond b (Some a.serial) None) (first_atom n (atoms rs))
    go true = refl
    go false = refl

module _ (n : ℕ) (all rs rs' : List Record) where
  pub first_done : first_atom n (atoms all) ≡ first_atom n (atoms rs) → rs ≡ [] → None ≡ first_atom n (atoms all)
  unfolding first_atom atoms
  first_done e z = sym (e ∙ rw z)

  pub first_here : (r : Record) (x : ℕ) → first_atom n (atoms all) ≡ first_atom n (atoms rs) → rs ≡ r ∷ rs' → found_in n r ≡ Some x → Some x ≡ first_atom n (atoms all)
  first_here r x e z f = sym (e ∙ ap (λ (l : List Record). first_atom n (atoms l)) z ∙ first_cons n r rs' ∙ ap (λ (g : Option ℕ). option_or g (first_atom n (atoms rs'))) f)

  pub first_on : (r : Record) → first_atom n (atoms all) ≡ first_atom n (atoms rs) → rs ≡ r ∷ rs' → found_in n r ≡ None → first_atom n (atoms all) ≡ first_atom n (atoms rs')
  first_on r e z f = e ∙ ap (λ (l : List Record). first_atom n (atoms l)) z ∙ first_cons n r rs' ∙ ap (λ (g : Option ℕ). option_or g (first_atom n (atoms rs'))) f

-- ---- what a step told
pub stepped_done : (w : Walk) (n : Option Record) (w' : Walk) → Stepped w n w' → n ≡ None → left w ≡ []
stepped_done w n w' h e = subst (λ (m : Option Record). Stepped w m w') e h

pub stepped_got : (w : Walk) (n : Option Record) (w' : Walk) (r : Record) → Stepped w n w' → n ≡ Some r → Onward w r w'
stepped_got w n w' r h e = subst (λ (m : Option Record). Stepped w m w') e h

-- ---- the iterator of a loop is the walk that it was given
pub begun : (s : List ℕ) (w v : Walk) → Begins s w → v ≡ w → Begins s v
begun s w v b e = subst (Begins s) (sym e) b

-- a line that was read ends in the file
pub read_within : (s : List ℕ) (w : Walk) (r : Record) (w' : Walk) → w.text.now ≡ s → Onward w r w' → w.at < length s
read_within s w r w' e o = omega (arith, o.more, subst (λ (t : List ℕ). w'.at ≤ length t) (o.text ∙ e) w'.inside)

-- ---- a line that gives no atom, and one that gives no segment
pub no_atom : (r : Record) → ((a : AtomLine) → r ≡ AnAtom a → ⊥) → atoms_in r ≡ []
no_atom Skipped h = refl
no_atom Short h = refl
no_atom BadNumber h = refl
no_atom (AnAtom a) h = absurd (h a refl)
no_atom (ASegment g) h = refl

pub no_segment : (r : Record) → ((g : SegmentLine) → r ≡ ASegment g → ⊥) → segments_in r ≡ []
no_segment Skipped h = refl
no_segment Short h = refl
no_segment BadNumber h = refl
no_segment (AnAtom a) h = refl
no_segment (ASegment g) h = absurd (h g refl)
