-- The walk of a survey, one line at a time. Assumes nothing.
use Prim.Native.Nat.{ℕ, ◌+◌, ◌<◌, ◌≤◌}
use mathlib.Core.Bool.{Bool, true, false, cond}
use mathlib.Core.Path.{◌≡◌, refl, sym, ap, ◌∙◌, subst}
use mathlib.Core.List.{List, [], ◌∷◌, ◌++◌, append_assoc, append-nil, map-append}
use native.Mathlib.Nat.{le_trans}
use native.Mathlib.Omega.{arith}
use lib.ListN.{length, get_or, length-append}
use Rattle.lists.specs.Search.{last}
use Rattle.appearance.specs.Order.{member}
use Rattle.appearance.specs.Index.{is_key}
use Rattle.appearance.proofs.Laws.{member_append, order_grows}
use Rattle.appearance.proofs.Numbers.{keyed_member}
use Rattle.pdb_records.specs.declared.AtomLine.{AtomLine}
use Rattle.pdb_records.specs.declared.Record.{Record}
use Rattle.pdb_records.specs.declared.Record.TheVariants.{Skipped, Short, BadNumber, AnAtom, ASegment}
use Rattle.pdb_file.specs.Reading.{records, atoms, atoms_of, atoms_in, segments_in, names, letters}
use Rattle.pdb_file.specs.Steps.{left, Onward, Begins}
use Rattle.pdb_file.specs.declared.walk.Walk.{Walk}
use Rattle.std.specs.Prelude.{Option, Some, None, is_none}
use Rattle.std.specs.Option.{option_or}
use Rattle.pdb_file.specs.declared.Fault.{Fault}
use Rattle.pdb_survey.specs.Lines.{own_fault, own_faults, ahead, segments_counted}
use Rattle.pdb_survey.specs.Tables.{Residues, Marks, Whole, Noted, Surveyed}
use Rattle.pdb_survey.specs.declared.FileCounts.{FileCounts}
use Rattle.pdb_survey.proofs.Atoms.{letters_more}
use Rattle.pdb_survey.proofs.Tables.{atom_full}
use Rattle.lists.proofs.Bools.{clash}

-- ---- the tables with what one line gives
pub noted_whole : (keys links ends marks : List ℕ) (c : FileCounts) (l : List AtomLine) → c.more ≡ false → Whole keys links ends marks c l → Noted keys links ends marks c l
noted_whole keys links ends marks c l e W = record {
  known = record {
    index = W.residues.index;
    among = λ i h. keyed_member keys c.residues (names l) W.residues.keyed i h;
    all = λ _. W.residues.keyed;
  };
  past = λ q. clash q e;
  whole = λ _. W;
}

-- what a line gives, known by an equation
pub noted_as : (keys links ends marks : List ℕ) (c : FileCounts) (l m g : List AtomLine) → m ≡ g → Noted keys links ends marks c (l ++ g) → Noted keys links ends marks c (l ++ m)
noted_as keys links ends marks c l m g e N = subst (λ (t : List AtomLine). Noted keys links ends marks c (l ++ t)) (sym e) N

module _ (keys links ends marks : List ℕ) (c : FileCounts) (l : List AtomLine) (N : Noted keys links ends marks c l) where
  among_more : (m : List AtomLine) (i : ℕ) → i < c.residues → member (get_or keys i 0) (names (l ++ m)) ≡ true
  among_more m i h = rw (map-append (λ (a : AtomLine). a.name) l m, member_append (get_or keys i 0) (names l) (names m), N.known.among i h)

  -- there were more before, and there are still
  pub noted_over : (m : List AtomLine) → c.more ≡ true → Noted keys links ends marks c (l ++ m)
  noted_over m e = record {
    known = record { index = N.known.index; among = among_more m; all = λ q. clash e q };
    past = λ _. le_trans (N.past e) (rw (map-append (λ (a : AtomLine). a.name) l m) (order_grows (names l) (names m)));
    whole = λ q. clash e q;
  }

  -- a line that gives no atom
  pub noted_none : (m : List AtomLine) → m ≡ [] → Noted keys links ends marks c (l ++ m)
  noted_none m e = noted_as keys links ends marks c l m [] e (subst (Noted keys links ends marks c) (sym (append-nil l)) N)

  module _ (a : AtomLine) where
    -- a new residue that has no place any more; the marks are of no use then
    pub noted_full : c.more ≡ false → last (is_key keys a.name) c.residues ≡ 0 → c.residues ≡ 16384 → (marks' : List ℕ)
        → Noted keys links ends marks' (record { atoms = c.atoms; residues = c.residues; chains = c.chains; more = true }) (l ++ (a ∷ []))
    noted_full e z f marks' = record {
      known = record { index = N.known.index; among = among_more (a ∷ []); all = λ q. clash refl q };
      past = λ _. atom_full keys links ends c.residues l a (N.whole e).residues z f;
      whole = λ q. clash refl q;
    }

    -- an atom whose residue and chain went in
    pub noted_more : c.more ≡ false → (keys' links' ends' marks' : List ℕ) (n' c' : ℕ)
        → (Residues keys links ends c.residues l → Residues keys' links' ends' n' (l ++ (a ∷ [])))
        → (Marks marks c.chains (letters l) → Marks marks' c' (letters l ++ (a.chain ∷ [])))
        → Noted keys' links' ends' marks' (record { atoms = c.atoms + 1; residues = n'; chains = c'; more = false }) (l ++ (a ∷ []))
    noted_more e keys' links' ends' marks' n' c' R M =
        let W = N.whole e in
        noted_whole keys' links' ends' marks' _ (l ++ (a ∷ [])) refl (record {
          atoms = ap (λ (k : ℕ). k + 1) W.atoms ∙ sym (length-append l (a ∷ []));
          residues = R W.residues;
          chains = subst (Marks marks' c') (sym (letters_more l a)) (M W.chains);
        })

-- ---- the loop: the atoms `done` are in the tables, what is left is to come
pub record Surveying (s keys links ends marks : List ℕ) (w : Walk) (line : ℕ) (fault : Option Fault) (n : ℕ) (c : FileCounts) : Type 0 where
  pub text : w.text.now ≡ s
  pub done : List AtomLine
  pub split : atoms_of s ≡ done ++ atoms (left w)
  pub noted : Noted keys links ends marks c done
  pub few_chains_lem : c.chains ≤ c.atoms
  pub slow_atoms : c.atoms ≤ w.at
  pub slow_line : line ≤ w.at + 1
  pub slow_ahead : n ≤ w.at
  pub faults : own_faults 1 (records s) ≡ option_or fault (own_faults line (left w))
  pub aheads : ahead (records s) ≡ n + cond (is_none fault) (ahead (left w)) 0

abbrev nothing : FileCounts
nothing = record { atoms = 0; residues = 0; chains = 0; more = false }

pub surveying_start : (s keys links ends marks : List ℕ) (w : Walk) → Begins s w → Noted keys links ends marks nothing [] → Surveying s keys links ends marks w 1 None 0 nothing
surveying_start s keys links ends marks w b N = record {
  text = b.text;
  done = [];
  split = ap atoms (sym b.all);
  noted = N;
  few_chains_lem = omega arith;
  slow_atoms = omega arith;
  slow_line = omega arith;
  slow_ahead = omega arith;
  faults = ap (own_faults 1) (sym b.all);
  aheads = omega (arith, ap ahead (sym b.all));
}

or_clean : (f : Option Fault) → option_or f None ≡ f
or_clean None = refl
or_clean (Some f) = refl

first_assoc : (f g h : Option Fault) → option_or (option_or f g) h ≡ option_or f (option_or g h)
first_assoc None g h = refl
first_assoc (Some f) g h = refl

own_clean : (n : ℕ) (r : Record) → is_none (own_fault n r) ≡ is_none (own_fault 1 r)
own_clean n Skipped = refl
own_clean n Short = refl
own_clean n BadNumber = refl
own_clean n (AnAtom a) = refl
own_clean n (ASegment g) = refl

module _ (s keys links ends marks : List ℕ) (w : Walk) (line : ℕ) (fault : Option Fault) (n : ℕ) (c : FileCounts)
    (W : Surveying s keys links ends marks w line fault n c) where
  pub surveying_over : left w ≡ [] → Surveyed s keys links ends marks (record { counts = c; fault = fault; ahead = n })
  unfolding own_faults ahead atoms
  surveying_over e = record {
    noted = subst (Noted keys links ends marks c) (sym (W.split ∙ ap (λ (t : List Record). W.done ++ atoms t) e ∙ append-nil W.done)) W.noted;
    fault = sym (W.faults ∙ ap (λ (t : List Record). option_or fault (own_faults line t)) e ∙ or_clean fault);
    ahead_is = sym (W.aheads ∙ ap (λ (t : List Record). n + cond (is_none fault) (ahead t) 0) e ∙ none (is_none fault));
  }
    where
      none : (b : Bool) → n + cond b 0 0 ≡ n
      none true = omega arith
      none false = omega arith

  module _ (r : Record) (w' : Walk) (o : Onward w r w') (f : Option Fault) (k : ℕ) (keys' links' ends' marks' : List ℕ) (d : FileCounts)
      (T : Noted keys' links' ends' marks' d (W.done ++ atoms_in r)) where
    next : atoms_of s ≡ (W.done ++ atoms_in r) ++ atoms (left w')
    unfolding atoms
    next = W.split ∙ ap (λ (t : List Record). W.done ++ atoms t) o.is ∙ sym (append_assoc W.done (atoms_in r) (atoms (left w')))

    ahead_on : (b : Bool) (z : Bool) → is_none fault ≡ b → f ≡ option_or fault (own_fault line r) → is_none (own_fault line r) ≡ z → k ≡ segments_counted f r
        → n + cond (is_none fault) (ahead (left w)) 0 ≡ n + k + cond (is_none f) (ahead (left w')) 0
    unfolding ahead
    ahead_on b z eb ef ez ek = rw (o.is, own_clean⁻ z ez, ek, clean_of fault (own_fault line r) f ef, eb, ez) (go b z)
      where
        own_clean⁻ : (z : Bool) → is_none (own_fault line r) ≡ z → is_none (own_fault 1 r) ≡ z
        own_clean⁻ z e = sym (own_clean line r) ∙ e

        clean_of : (x y z : Option Fault) → z ≡ option_or x y → is_none z ≡ cond (is_none x) (is_none y) false
        clean_of None y z e = ap is_none e
        clean_of (Some x) y z e = ap is_none e

        go : (b z : Bool) → n + cond b (cond z (length (segments_in r) + ahead (left w')) 0) 0
            ≡ n + cond (cond b z false) (length (segments_in r)) 0 + cond (cond b z false) (ahead (left w')) 0
        go true true = omega arith
        go true false = omega arith
        go false z = omega arith

    pub surveying_more : f ≡ option_or fault (own_fault line r) → k ≡ segments_counted f r → k ≤ 1 → d.chains ≤ d.atoms → d.atoms ≤ c.atoms + 1
        → Surveying s keys' links' ends' marks' w' (line + 1) f (n + k) d
    unfolding own_faults
    surveying_more ef ek lk ch at' = record {
      text = o.text ∙ W.text;
      done = W.done ++ atoms_in r;
      split = next;
      noted = T;
      few_chains_lem = ch;
      slow_atoms = omega (arith, o.more, W.slow_atoms);
      slow_line = omega (arith, o.more, W.slow_line);
      slow_ahead = omega (arith, o.more, W.slow_ahead);
      faults =
          W.faults ∙ ap (λ (t : List Record). option_or fault (own_faults line t)) o.is
          ∙ sym (ap (λ (g : Option Fault). option_or g (own_faults (line + 1) (left w'))) ef ∙ first_assoc fault (own_fault line r) (own_faults (line + 1) (left w')));
      aheads = W.aheads ∙ ahead_on (is_none fault) (is_none (own_fault line r)) refl ef refl ek;
    }
