-- The first line at fault, found with the tables of a survey. Assumes nothing.
use Prim.Native.Nat.{ℕ, ◌+◌, ◌-◌, ◌≤◌}
use mathlib.Core.Bool.{Bool, true, false, cond}
use mathlib.Core.Path.{◌≡◌, refl, sym, ap, ◌∙◌}
use mathlib.Core.List.{List, [], ◌∷◌}
use native.Mathlib.Omega.{arith}
use lib.ListN.{length}
use Rattle.lists.specs.Search.{last}
use Rattle.appearance.specs.Index.{is_key, Keyed}
use Rattle.appearance.proofs.Numbers.{found_number, number_none}
use Rattle.pdb_records.specs.declared.AtomLine.{AtomLine}
use Rattle.pdb_records.specs.declared.Record.{Record}
use Rattle.pdb_records.specs.declared.Record.TheVariants.{Skipped, Short, BadNumber, AnAtom, ASegment}
use Rattle.pdb_file.specs.Reading.{records, atoms_of, segments, segments_in, segments_of, names}
use Rattle.pdb_file.specs.Faults.{first_atom, present, fault_of, faults, fault_in}
use Rattle.std.specs.Prelude.{Option, Some, None, is_some, is_none}
use Rattle.std.specs.Option.{option_or}
use Rattle.pdb_file.specs.declared.Fault.{Fault}
use Rattle.pdb_file.specs.declared.Fault.TheVariants.{NoResidue}
use Rattle.pdb_survey.specs.Lines.{own_fault, own_faults, ahead, segments_counted}
use Rattle.pdb_survey.proofs.Atoms.{found_member}

-- ---- a residue that is not in an index of all
pub found_not : (keys : List ℕ) (n : ℕ) (l : List AtomLine) → Keyed keys n (names l) → (x : ℕ) → last (is_key keys x) n ≡ 0 → false ≡ is_some (first_atom x l)
found_not keys n l K x e = sym (found_member x l ∙ number_none (names l) x (sym (found_number keys (names l) n x K) ∙ e))

-- tables that did not change
pub keyed_same : (keys keys' : List ℕ) (n n' : ℕ) (l : List ℕ) → Keyed keys n l → keys' ≡ keys → n' ≡ n → Keyed keys' n' l
keyed_same keys keys' n n' l K e f = rw (e, f) K

-- ---- the first line at fault, line by line
pub clean_is : (f : Option Fault) → is_none f ≡ true → f ≡ None
clean_is None e = refl
clean_is (Some f) e = absurd (let z : ◌≡◌ {A = ℕ} 0 1 = cc in omega arith)

first_of : (f g : Option Fault) → is_none f ≡ false → option_or f g ≡ f
first_of None g e = absurd (let z : ◌≡◌ {A = ℕ} 0 1 = cc in omega arith)
first_of (Some f) g e = refl

module _ (ats : List AtomLine) (n : ℕ) (all : Option Fault) (rs rs' : List Record) (r : Record) (f : Option Fault) where
  pub fault_here : all ≡ faults ats n rs → rs ≡ r ∷ rs' → f ≡ fault_of ats n r → is_none f ≡ false → f ≡ all
  unfolding faults
  fault_here e z p q = sym (e ∙ ap (faults ats n) z ∙ ap (λ (g : Option Fault). option_or g (faults ats (n + 1) rs')) (sym p) ∙ first_of f (faults ats (n + 1) rs') q)

  pub fault_on : all ≡ faults ats n rs → rs ≡ r ∷ rs' → f ≡ fault_of ats n r → is_none f ≡ true → all ≡ faults ats (n + 1) rs'
  unfolding faults
  fault_on e z p q = e ∙ ap (faults ats n) z ∙ ap (λ (g : Option Fault). option_or g (faults ats (n + 1) rs')) (sym p ∙ clean_is f q)

-- ---- the walk: where no segment stands ahead of a line that is at fault by itself, that line is the first at fault
pub none_ahead : (ats : List AtomLine) (n : ℕ) (rs : List Record) → ahead rs ≡ 0 → own_faults n rs ≡ faults ats n rs
unfolding ahead own_faults faults
none_ahead ats n [] e = refl
none_ahead ats n (Skipped ∷ rs) e = none_ahead ats (n + 1) rs (omega arith)
none_ahead ats n (Short ∷ rs) e = refl
none_ahead ats n (BadNumber ∷ rs) e = refl
none_ahead ats n (AnAtom a ∷ rs) e = none_ahead ats (n + 1) rs (omega arith)
none_ahead ats n (ASegment g ∷ rs) e = absurd (omega arith)

own_clean : (ats : List AtomLine) (n : ℕ) (r : Record) → is_none (fault_of ats n r) ≡ true → (own_fault n r ≡ None) × (is_none (own_fault 1 r) ≡ true)
own_clean ats n Skipped e = (refl, refl)
own_clean ats n Short e = absurd (let z : ◌≡◌ {A = ℕ} 0 1 = cc in omega arith)
own_clean ats n BadNumber e = absurd (let z : ◌≡◌ {A = ℕ} 0 1 = cc in omega arith)
own_clean ats n (AnAtom a) e = (refl, refl)
own_clean ats n (ASegment g) e = (refl, refl)

module _ (ats : List AtomLine) (n : ℕ) (rs rs' : List Record) (r : Record) (e : rs ≡ r ∷ rs') (f : Option Fault) (ef : f ≡ fault_of ats n r) (clean : is_none f ≡ true) where
  is_own : (own_fault n r ≡ None) × (is_none (own_fault 1 r) ≡ true)
  is_own = own_clean ats n r (ap is_none (sym ef) ∙ clean)

  pub own_on : (own : Option Fault) → own ≡ own_faults n rs → own ≡ own_faults (n + 1) rs'
  unfolding own_faults
  own_on own q = q ∙ ap (own_faults n) e ∙ ap (λ (g : Option Fault). option_or g (own_faults (n + 1) rs')) is_own.0

  pub ahead_on : (left k : ℕ) → left ≡ ahead rs → k ≡ segments_counted None r → (k ≤ left) × (left - k ≡ ahead rs')
  unfolding ahead
  ahead_on left k q ek =
      let z : left ≡ length (segments_in r) + ahead rs' = q ∙ ap ahead e ∙ ap (λ (b : Bool). cond b (length (segments_in r) + ahead rs') 0) is_own.1 in
      (omega arith, omega arith)

pub no_ahead : (rs : List Record) → rs ≡ [] → ahead rs ≡ 0
unfolding ahead
no_ahead rs e = ap ahead e

pub none_left : (ats : List AtomLine) (n : ℕ) (rs : List Record) (all own : Option Fault) → all ≡ faults ats n rs → own ≡ own_faults n rs → ahead rs ≡ 0 → own ≡ all
none_left ats n rs all own e q z = q ∙ none_ahead ats n rs z ∙ sym e

-- ---- where no line is at fault, every segment stands ahead
own_clean_all : (n : ℕ) (rs : List Record) → is_none (own_faults n rs) ≡ true → ahead rs ≡ length (segments rs)
unfolding own_faults ahead segments
own_clean_all n [] e = refl
own_clean_all n (Skipped ∷ rs) e = ap (λ (k : ℕ). 0 + k) (own_clean_all (n + 1) rs e) ∙ omega arith
own_clean_all n (Short ∷ rs) e = absurd (let z : ◌≡◌ {A = ℕ} 0 1 = cc in omega arith)
own_clean_all n (BadNumber ∷ rs) e = absurd (let z : ◌≡◌ {A = ℕ} 0 1 = cc in omega arith)
own_clean_all n (AnAtom a ∷ rs) e = ap (λ (k : ℕ). 0 + k) (own_clean_all (n + 1) rs e) ∙ omega arith
own_clean_all n (ASegment g ∷ rs) e = ap (λ (k : ℕ). 1 + k) (own_clean_all (n + 1) rs e) ∙ omega arith

clean_own : (ats : List AtomLine) (n : ℕ) (rs : List Record) → is_none (faults ats n rs) ≡ true → is_none (own_faults n rs) ≡ true
unfolding own_faults faults
clean_own ats n [] e = refl
clean_own ats n (Skipped ∷ rs) e = clean_own ats (n + 1) rs e
clean_own ats n (Short ∷ rs) e = e
clean_own ats n (BadNumber ∷ rs) e = e
clean_own ats n (AnAtom a ∷ rs) e = clean_own ats (n + 1) rs e
clean_own ats n (ASegment g ∷ rs) e = clean_own ats (n + 1) rs (passed (present ats g) e)
  where
    passed : (b : Bool) → is_none (option_or (cond b None (Some (NoResidue n))) (faults ats (n + 1) rs)) ≡ true → is_none (faults ats (n + 1) rs) ≡ true
    passed true q = q
    passed false q = absurd (let z : ◌≡◌ {A = ℕ} 0 1 = cc in omega arith)

pub all_ahead : (s : List ℕ) → is_none (fault_in s) ≡ true → ahead (records s) ≡ length (segments_of s)
all_ahead s e = own_clean_all 1 (records s) (clean_own (atoms_of s) 1 (records s) e)
