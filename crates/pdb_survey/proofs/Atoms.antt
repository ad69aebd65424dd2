-- A list of atoms with one atom more: its names, and the first and last atom of a residue. Assumes nothing.
use Prim.Native.Nat.{ℕ}
use mathlib.Core.Bool.{Bool, true, false, cond, ◌||◌}
use mathlib.Core.Path.{◌≡◌, refl, ap, ◌∙◌}
use mathlib.Core.List.{List, [], ◌∷◌, ◌++◌, map-append}
use native.Mathlib.Omega.{arith}
use lib.Dec.{eqb}
use borrow.Author.Tests.{eq-eqb, ne_eqb}
use Rattle.appearance.specs.Order.{member}
use Rattle.pdb_records.specs.declared.AtomLine.{AtomLine}
use Rattle.std.specs.Prelude.{Option, Some, None, is_some}
use Rattle.std.specs.Option.{option_or}
use Rattle.pdb_file.specs.Reading.{names, letters}
use Rattle.pdb_file.specs.Faults.{first_atom, last_atom}
use Rattle.lists.proofs.Bools.{eqb_sym}

pub names_more : (l : List AtomLine) (a : AtomLine) → names (l ++ (a ∷ [])) ≡ names l ++ (a.name ∷ [])
names_more l a = map-append (λ (a : AtomLine). a.name) l (a ∷ [])

pub letters_more : (l : List AtomLine) (a : AtomLine) → letters (l ++ (a ∷ [])) ≡ letters l ++ (a.chain ∷ [])
letters_more l a = map-append (λ (a : AtomLine). a.chain) l (a ∷ [])

-- a residue is found exactly when its name is there
pub found_member : (n : ℕ) (l : List AtomLine) → is_some (first_atom n l) ≡ member n (names l)
unfolding first_atom member
found_member n [] = refl
found_member n (a ∷ l) = go (eqb a.name n) (eqb_sym a.name n) (found_member n l)
  where
    go : (b : Bool) → b ≡ eqb n a.name → is_some (first_atom n l) ≡ member n (names l)
        → is_some (cond b (Some a.serial) (first_atom n l)) ≡ (eqb n a.name || member n (names l))
    go true e f = rw (← e)
    go false e f = rw (← e) f

first_more : (n : ℕ) (l : List AtomLine) (a : AtomLine) → first_atom n (l ++ (a ∷ [])) ≡ option_or (first_atom n l) (cond (eqb a.name n) (Some a.serial) None)
unfolding first_atom
first_more n [] a = refl
first_more n (b ∷ l) a = go (eqb b.name n) (first_more n l a)
  where
    x : Option ℕ
    x = cond (eqb a.name n) (Some a.serial) None

    go : (t : Bool) → first_atom n (l ++ (a ∷ [])) ≡ option_or (first_atom n l) (cond (eqb a.name n) (Some a.serial) None)
        → cond t (Some b.serial) (first_atom n (l ++ (a ∷ []))) ≡ option_or (cond t (Some b.serial) (first_atom n l)) (cond (eqb a.name n) (Some a.serial) None)
    go true e = refl
    go false e = e

last_more : (n : ℕ) (l : List AtomLine) (a : AtomLine) → last_atom n (l ++ (a ∷ [])) ≡ cond (eqb a.name n) (Some a.serial) (last_atom n l)
unfolding last_atom
last_more n [] a = refl
last_more n (b ∷ l) a = ap (λ (f : Option ℕ). option_or f (cond (eqb b.name n) (Some b.serial) None)) (last_more n l a) ∙ go (eqb a.name n)
  where
    go : (t : Bool) → option_or (cond t (Some a.serial) (last_atom n l)) (cond (eqb b.name n) (Some b.serial) None)
        ≡ cond t (Some a.serial) (option_or (last_atom n l) (cond (eqb b.name n) (Some b.serial) None))
    go true = refl
    go false = refl

or_found : (f g : Option ℕ) → is_some f ≡ true → option_or f g ≡ f
or_found None g e = absurd (let z : ◌≡◌ {A = ℕ} 0 1 = cc in omega arith)
or_found (Some n) g e = refl

or_not : (f g : Option ℕ) → is_some f ≡ false → option_or f g ≡ g
or_not None g e = refl
or_not (Some n) g e = absurd (let z : ◌≡◌ {A = ℕ} 0 1 = cc in omega arith)

module _ (l : List AtomLine) (a : AtomLine) where
  -- a residue that was there keeps its first atom; a new one has this
  pub first_kept : (n : ℕ) → member n (names l) ≡ true → first_atom n (l ++ (a ∷ [])) ≡ first_atom n l
  first_kept n m = first_more n l a ∙ or_found (first_atom n l) _ (found_member n l ∙ m)

  pub first_new : member a.name (names l) ≡ false → first_atom a.name (l ++ (a ∷ [])) ≡ Some a.serial
  first_new m =
      first_more a.name l a ∙ or_not (first_atom a.name l) _ (found_member a.name l ∙ m)
      ∙ ap (λ (b : Bool). cond b (Some a.serial) None) (eq-eqb a.name a.name refl)

  -- the last atom of its residue is this; another residue keeps its own
  pub last_here : last_atom a.name (l ++ (a ∷ [])) ≡ Some a.serial
  last_here = last_more a.name l a ∙ ap (λ (b : Bool). cond b (Some a.serial) (last_atom a.name l)) (eq-eqb a.name a.name refl)

  pub last_kept : (n : ℕ) → (a.name ≡ n → ⊥) → last_atom n (l ++ (a ∷ [])) ≡ last_atom n l
  last_kept n d = last_more n l a ∙ ap (λ (b : Bool). cond b (Some a.serial) (last_atom n l)) (ne_eqb a.name n d)
