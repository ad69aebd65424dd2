-- The answers of the call, rung by rung. Assumes nothing.
use Prim.Native.Nat.{ℕ, ◌<◌, ◌≤◌}
use mathlib.Core.Bool.{true, false, or-true}
use mathlib.Core.Path.{◌≡◌, refl, sym, ap, ◌∙◌, subst}
use mathlib.Core.List.{List, []}
use native.Mathlib.Omega.{arith}
use lib.Dec.{ltb}
use lib.ListN.{length, replicate, length-replicate, get_or-replicate}
use borrow.Author.Tests.{lt-ltb, le-ltb, ltb-false}
use Rattle.lists.specs.Search.{last}
use Rattle.job.specs.declared.Refusal.TheVariants.{PastLimits, NoJobRoom}
use Rattle.appearance.specs.Order.{member, distinct, numbered}
use Rattle.appearance.proofs.Holding.{empty_index}
use Rattle.pdb_records.specs.declared.AtomLine.{AtomLine}
use Rattle.pdb_file.specs.Faults.{fault_in}
use Rattle.pdb_file.specs.declared.Fault.{Fault}
use Rattle.pdb_file.specs.declared.Fault.TheVariants.{LineShort, LineWrong, NoResidue}
use Rattle.pdb_survey.specs.Tables.{Noted, Surveyed}
use Rattle.pdb_survey.proofs.Walk.{noted_whole}
use Rattle.pdb_survey.specs.declared.FileCounts.{FileCounts}
use Rattle.pdb_survey.specs.declared.Overview.{Overview}
use Rattle.pdb_job.specs.Structure.{Structure, chains_of, residues_of, structure_size, structure_of}
use Rattle.pdb_job.specs.Counted.{Counted, Limited}
use Rattle.pdb_faults.proofs.AtFault.{clean_is, all_ahead}
use Rattle.pdb_reader.specs.Call.{past_limits, by_fault, read_checks, read_answer, read_by, buffer_after, Reads}
use Rattle.lists.proofs.Bools.{or_no}
use Rattle.std.specs.Prelude.{Result, Ok, Err, Option, Some, None, is_none}
use Rattle.job.specs.declared.Refusal.{Refusal}

-- ---- 15: the limits
pub limited : (x : Structure) → past_limits x ≡ false → Limited x
unfolding past_limits
limited x e =
    let a = or_no (ltb 255 (chains_of x.atoms)) _ e in
    let b = or_no (ltb 16384 (residues_of x.atoms)) _ a.1 in
    let d = or_no (ltb 65535 (length x.segments)) _ b.1 in
    record {
      chains = ltb-false 255 (chains_of x.atoms) a.0;
      residues = ltb-false 16384 (residues_of x.atoms) b.0;
      segments_are = ltb-false 65535 (length x.segments) d.0;
      atoms = ltb-false 65535 (length x.atoms) d.1;
    }

pub residues_past : (x : Structure) → 16384 < residues_of x.atoms → past_limits x ≡ true
unfolding past_limits
residues_past x h = rw (lt-ltb 16384 (residues_of x.atoms) h) (or-true (ltb 255 (chains_of x.atoms)))

module _ (x : Structure) (c : FileCounts) (g : ℕ) (C : Counted x c g) where
  past : (n : ℕ) {a b : ℕ} → a ≡ b → n < a → ltb n b ≡ true
  past n {a} {b} e h = lt-ltb n b (subst (λ (m : ℕ). n < m) e h)

  within : (n : ℕ) {a b : ℕ} → a ≡ b → a ≤ n → ltb n b ≡ false
  within n {a} {b} e h = le-ltb n b (subst (λ (m : ℕ). m ≤ n) e h)

  pub past_residues : c.more ≡ true → true ≡ past_limits x
  past_residues e = sym (residues_past x (C.past e))

  module _ (m : c.more ≡ false) where
    few : ltb 16384 (residues_of x.atoms) ≡ false
    few = le-ltb 16384 (residues_of x.atoms) (C.few m)

    pub past_chains : 255 < c.chains → true ≡ past_limits x
    unfolding past_limits
    past_chains h = rw (past 255 (C.chains m) h)

    module _ (h₁ : c.chains ≤ 255) where
      pub past_segments : 65535 < g → true ≡ past_limits x
      unfolding past_limits
      past_segments h = rw (within 255 (C.chains m) h₁, few, past 65535 C.segments_are h)

      pub past_atoms : g ≤ 65535 → ltb 65535 c.atoms ≡ past_limits x
      unfolding past_limits
      past_atoms h = rw (within 255 (C.chains m) h₁, few, within 65535 C.segments_are h, C.atoms m)

-- ---- 15 and 16
module _ (x : Structure) (out : List ℕ) where
  pub refuse_limits : (r : Result ℕ Refusal) → r ≡ Err PastLimits → past_limits x ≡ true → r ≡ read_checks x (length out)
  unfolding read_checks
  refuse_limits r e m = e ∙ simp m

  module _ (few : past_limits x ≡ false) (size : ℕ) (is : size ≡ structure_size x) where
    pub refuse_room : length out < size → Err (NoJobRoom size) ≡ read_checks x (length out)
    unfolding read_checks
    refuse_room h = simp (few, lt-ltb (length out) (structure_size x) (subst (λ (n : ℕ). length out < n) is h)) (ap (λ (n : ℕ). Err (NoJobRoom n)) is)

    pub accept : size ≤ length out → Ok size ≡ read_checks x (length out)
    unfolding read_checks
    accept h = simp (few, le-ltb (length out) (structure_size x) (subst (λ (n : ℕ). n ≤ length out) is h)) (ap Ok is)

-- ---- the survey's tables at the start, and what it told
pub empty_tables : Noted (replicate 16384 0) (replicate 32768 0) (replicate 32768 0) (replicate 256 0) (record { atoms = 0; residues = 0; chains = 0; more = false }) []
unfolding last distinct member numbered
empty_tables = noted_whole _ _ _ _ _ [] refl (record {
  atoms = refl;
  residues = record {
    index = empty_index (replicate 16384 0) (length-replicate {A = ℕ} 16384 0);
    keyed = record { count = refl; key = λ i l. absurd (omega arith) };
    size = length-replicate {A = ℕ} 32768 0;
    first = λ i l. absurd (omega arith);
    last = λ i l. absurd (omega arith);
  };
  chains = record { size = length-replicate {A = ℕ} 256 0; count = refl; mark = λ x l. get_or-replicate {A = ℕ} 256 x 0 0 l };
})

-- tables that did not change
pub noted_same : (keys keys' links links' ends marks : List ℕ) (c : FileCounts) (l : List AtomLine) → Noted keys links ends marks c l → keys' ≡ keys → links' ≡ links
    → Noted keys' links' ends marks c l
noted_same keys keys' links links' ends marks c l N e f = rw (e, f) N

pub surveyed_counts : (s keys links ends marks : List ℕ) (v : Overview) → Surveyed s keys links ends marks v → is_none (fault_in s) ≡ true → Counted (structure_of s) v.counts v.ahead
surveyed_counts s keys links ends marks v S e = record {
  past = λ m. S.noted.past m;
  few = λ m. omega (arith, S.noted.known.index.few, (S.noted.known.all m).count);
  chains = λ m. (S.noted.whole m).chains.count;
  residues = λ m. (S.noted.known.all m).count;
  segments_are = S.ahead_is ∙ all_ahead s e;
  atoms = λ m. (S.noted.whole m).atoms;
}

-- ---- the whole answer

-- what is THE answer and leaves THE contents keeps the promise
reads : (s out : List ℕ) (r : Result ℕ Refusal) (out' : List ℕ)
    → r ≡ read_answer s (length out) → out' ≡ buffer_after s out → Reads s out r out'
reads s out r out' e b = record { answer = cc; buffer = cc }

module _ (s out : List ℕ) (f : Option Fault) (ef : f ≡ fault_in s) where
  by_fault_is : (r : Result ℕ Refusal) → by_fault f (read_checks (structure_of s) (length out)) ≡ r → read_answer s (length out) ≡ r
  unfolding read_answer
  by_fault_is r e = ap (λ (g : Option Fault). by_fault g (read_checks (structure_of s) (length out))) (sym ef) ∙ e

  by_answer : (r : Result ℕ Refusal) (out' : List ℕ) → read_answer s (length out) ≡ r → out' ≡ read_by r s out → Reads s out r out'
  unfolding buffer_after
  by_answer r out' e b = reads s out r out' (sym e) (b ∙ ap (λ (x : Result ℕ Refusal). read_by x s out) (sym e))

  -- a fault, or counts past the limits
  pub refused : (r : Result ℕ Refusal) → r ≡ by_fault f (Err PastLimits)
      → (is_none f ≡ true → past_limits (structure_of s) ≡ true) → Reads s out r out
  unfolding read_checks
  refused r er past = by_answer r out (by_fault_is r (go f past ∙ sym er)) (rw er (kept f))
    where
      go : (g : Option Fault) → (is_none g ≡ true → past_limits (structure_of s) ≡ true)
          → by_fault g (read_checks (structure_of s) (length out)) ≡ by_fault g (Err PastLimits)
      go None p = simp (p refl)
      go (Some x) p = refl

      kept : (g : Option Fault) → out ≡ read_by (by_fault g (Err PastLimits)) s out
      kept None = refl
      kept (Some x) = refl

  pub right : is_none f ≡ true → (r : Result ℕ Refusal) (out' : List ℕ)
      → r ≡ read_checks (structure_of s) (length out) → out' ≡ read_by r s out → Reads s out r out'
  right c r out' er eo = by_answer r out' (by_fault_is r (rw (clean_is f c) (sym er))) eo
