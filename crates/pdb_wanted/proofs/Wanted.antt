-- An index of the residues that segments name. Assumes nothing.
use Prim.Native.Nat.{ℕ, suc, ◌-◌, ◌<◌, ◌≤◌}
use mathlib.Core.Bool.{Bool, true, false, cond, ◌||◌, or-true, or-false}
use mathlib.Core.Path.{◌≡◌, refl, sym, ap, ◌∙◌, subst}
use mathlib.Core.List.{List, [], ◌∷◌, ◌++◌, append_assoc, append-nil}
use native.Mathlib.Omega.{arith}
use lib.Dec.{eqb}
use lib.ListN.{length, get_or, set, replicate, length-set, length-replicate, get_or-replicate}
use lib.Seq.{get_or-set_same, get_or-set_other}
use borrow.Author.Tests.{eqb-true, eqb-false, eq-eqb, ne_eqb}
use Rattle.lists.specs.Search.{last}
use Rattle.appearance.specs.Order.{member}
use Rattle.appearance.specs.Index.{Index, is_key}
use Rattle.lists.proofs.Searches.{last_le, last_taken}
use Rattle.appearance.proofs.Laws.{member_append}
use Rattle.pdb_records.specs.declared.AtomLine.{AtomLine}
use Rattle.pdb_records.specs.declared.Record.{Record}
use Rattle.pdb_file.specs.Reading.{atoms, atoms_in, atoms_of, names}
use Rattle.pdb_file.specs.Faults.{first_atom}
use Rattle.std.specs.Prelude.{is_some}
use Rattle.pdb_file.specs.Steps.{left, Onward, Begins}
use Rattle.pdb_file.specs.declared.walk.Walk.{Walk}
use Rattle.pdb_survey.proofs.Atoms.{found_member, names_more}
use Rattle.pdb_survey.specs.Tables.{Known}
use Rattle.pdb_wanted.specs.Wanted.{Wanted}
use Rattle.lists.proofs.Any.{zeros}

-- ---- nothing is wanted, nothing is known

pub unknown : (keys links : List ℕ) (n : ℕ) → Index keys links n → Wanted keys links (replicate 16384 0) n []
unfolding member
unknown keys links n I = record {
  index = I;
  size = length-replicate {A = ℕ} 16384 0;
  known = λ x i e. zeros 16384 i;
}

-- the keys of a survey are all known
pub all_known : (keys links : List ℕ) (n : ℕ) (more : Bool) (l : List ℕ) → Known keys links n more l → Wanted keys links (replicate 16384 1) n l
unfolding is_key
all_known keys links n more l K = record {
  index = K.index;
  size = length-replicate {A = ℕ} 16384 1;
  known = λ x i e.
      let low : i < n = omega (arith, last_le (is_key keys x) n, e) in
      let k : get_or keys i 0 ≡ x = eqb-true (get_or keys i 0) x (last_taken (is_key keys x) n i e) in
      get_or-replicate {A = ℕ} 16384 i 1 0 (omega (arith, K.index.few)) ∙ sym (ap (λ (b : Bool). cond b 1 0) (ap (λ (y : ℕ). member y l) (sym k) ∙ K.among i low));
}

-- ---- one name more
module _ (l : List ℕ) (y : ℕ) where
  member_here : member y (l ++ (y ∷ [])) ≡ true
  unfolding member
  member_here = member_append y l (y ∷ []) ∙ ap (λ (b : Bool). member y l || (b || false)) (eq-eqb y y refl) ∙ or-true (member y l)

  member_other : (x : ℕ) → (x ≡ y → ⊥) → member x (l ++ (y ∷ [])) ≡ member x l
  unfolding member
  member_other x d = member_append x l (y ∷ []) ∙ ap (λ (b : Bool). member x l || (b || false)) (ne_eqb x y d) ∙ or-false (member x l)

module _ (keys links bits : List ℕ) (n : ℕ) (l : List ℕ) (W : Wanted keys links bits n l) (y : ℕ) where
  key_at : (x i : ℕ) → last (is_key keys x) n ≡ suc i → get_or keys i 0 ≡ x
  unfolding is_key
  key_at x i q = eqb-true (get_or keys i 0) x (last_taken (is_key keys x) n i q)

  -- it is wanted
  pub noted_there : (p : ℕ) → last (is_key keys y) n ≡ suc p → p < n → Wanted keys links (set bits p 1) n (l ++ (y ∷ []))
  noted_there p e low = record {
    index = W.index;
    size = length-set bits p 1 ∙ W.size;
    known = λ x i q. at x i q (eqb x y) refl;
  }
    where
      at : (x i : ℕ) → last (is_key keys x) n ≡ suc i → (b : Bool) → eqb x y ≡ b → get_or (set bits p 1) i 0 ≡ cond (member x (l ++ (y ∷ []))) 1 0
      at x i q true z =
          let k : x ≡ y = eqb-true x y z in
          let w : suc p ≡ suc i = sym e ∙ ap (λ (t : ℕ). last (is_key keys t) n) (sym k) ∙ q in
          let v : i ≡ p = omega arith in
          ap (λ (t : ℕ). get_or (set bits p 1) t 0) v ∙ get_or-set_same bits p 1 0 (omega (arith, W.size, W.index.few))
          ∙ sym (ap (λ (t : ℕ). cond (member t (l ++ (y ∷ []))) 1 0) k ∙ ap (λ (b : Bool). cond b 1 0) (member_here l y))
      at x i q false z =
          let d = eqb-false x y z in
          get_or-set_other bits p i 1 0 (λ v. let w : suc p ≡ suc i = omega arith in d (sym (key_at x i q) ∙ key_at y i (e ∙ w)))
          ∙ W.known x i q ∙ ap (λ (b : Bool). cond b 1 0) (sym (member_other l y x d))

  -- it is not
  pub noted_not : last (is_key keys y) n ≡ 0 → Wanted keys links bits n (l ++ (y ∷ []))
  noted_not e = record {
    index = W.index;
    size = W.size;
    known = λ x i q. W.known x i q ∙ ap (λ (b : Bool). cond b 1 0) (sym (member_other l y x (differs x i q)));
  }
    where
      differs : (x i : ℕ) → last (is_key keys x) n ≡ suc i → x ≡ y → ⊥
      differs x i q k = let w : 0 ≡ suc i = sym e ∙ ap (λ (t : ℕ). last (is_key keys t) n) (sym k) ∙ q in omega arith

-- what a line gives
module _ (keys links bits : List ℕ) (n : ℕ) (l m : List AtomLine) where
  pub noted_none : m ≡ [] → Wanted keys links bits n (names l) → Wanted keys links bits n (names (l ++ m))
  noted_none e W = subst (λ (t : List AtomLine). Wanted keys links bits n (names t)) (sym (ap (λ (t : List AtomLine). l ++ t) e ∙ append-nil l)) W

  pub noted_atom : (a : AtomLine) → m ≡ a ∷ [] → Wanted keys links bits n (names l ++ (a.name ∷ [])) → Wanted keys links bits n (names (l ++ m))
  noted_atom a e W = subst (Wanted keys links bits n) (sym (ap (λ (t : List AtomLine). names (l ++ t)) e ∙ names_more l a)) W

-- ---- a residue by its bit
pub bit_tells : (keys links bits : List ℕ) (n : ℕ) (l : List AtomLine) → Wanted keys links bits n (names l) → (x i : ℕ) → last (is_key keys x) n ≡ suc i
    → eqb (get_or bits i 0) 1 ≡ is_some (first_atom x l)
bit_tells keys links bits n l W x i e =
    ap (λ (b : ℕ). eqb b 1) (W.known x i e) ∙ bit (member x (names l)) ∙ sym (found_member x l)
  where
    bit : (b : Bool) → eqb (cond b 1 0) 1 ≡ b
    bit true = refl
    bit false = refl

-- ---- a walk over the atoms
pub record Noting (s keys links bits : List ℕ) (n : ℕ) (w : Walk) : Type 0 where
  pub done : List AtomLine
  pub split : atoms_of s ≡ done ++ atoms (left w)
  pub wanted : Wanted keys links bits n (names done)

pub noting_start : (s keys links bits : List ℕ) (n : ℕ) (w : Walk) → Begins s w → Wanted keys links bits n [] → Noting s keys links bits n w
noting_start s keys links bits n w b W = record { done = []; split = ap atoms (sym b.all); wanted = W }

module _ (s keys links bits : List ℕ) (n : ℕ) (w : Walk) (N : Noting s keys links bits n w) where
  pub noting_over : left w ≡ [] → Wanted keys links bits n (names (atoms_of s))
  unfolding atoms
  noting_over e =
      subst (λ (l : List AtomLine). Wanted keys links bits n (names l))
      (sym (N.split ∙ ap (λ (t : List Record). N.done ++ atoms t) e ∙ append-nil N.done)) N.wanted

  pub noting_more : (r : Record) (w' : Walk) → Onward w r w' → (bits' : List ℕ) → Wanted keys links bits' n (names (N.done ++ atoms_in r)) → Noting s keys links bits' n w'
  unfolding atoms
  noting_more r w' o bits' W = record {
    done = N.done ++ atoms_in r;
    split = N.split ∙ ap (λ (t : List Record). N.done ++ atoms t) o.is ∙ sym (append_assoc N.done (atoms_in r) (atoms (left w')));
    wanted = W;
  }
