-- What an accepted job is, index by index: one with records of its own, and one with those of a party (02 §5). Assumes nothing.
use Prim.Native.Nat.{ℕ, zero, suc, ◌<◌, ◌≤◌}
use mathlib.Core.Bool.{false}
use mathlib.Core.List.{List}
use mathlib.Core.Path.{◌≡◌, refl, subst}
use native.Mathlib.Omega.{arith}
use lib.ListN.{length}
use borrow.Author.Tests.{ltb-false}
use Rattle.lists.specs.Search.{first}
use Rattle.numbers.specs.Bytes.{u8_at}
use Rattle.protein.specs.Layout.{records_of, kind_at}
use Rattle.protein.specs.Job.{segments_of}
use Rattle.job.specs.Check.{sizes, bad_visibility, bad_kind, bad_atom, bad_coordinate, or_first, contents, and_then, check, shared_sizes, check_shared}
use Rattle.protein.specs.declared.Head.{Head}
use Rattle.job.specs.declared.Refusal.{Refusal}
use Rattle.job.specs.declared.Refusal.TheVariants.{BadVisibility, BadKind, BadAtom, BadCoordinate}
use Rattle.std.specs.Prelude.{Result, Ok, Err}
use Rattle.lists.proofs.Searches.{first_false}

-- no chain, segment of the records q, or atom is at fault
pub record Accepted (s : List ℕ) (h : Head) (q : List ℕ) : Type 0 where
  pub visibility : (i : ℕ) → i < h.chains → bad_visibility s h i ≡ false
  pub kinds : (i : ℕ) → i < (segments_of q).count → bad_kind q i ≡ false
  pub atoms : (i : ℕ) → i < h.atoms → bad_atom s h i ≡ false
  pub coordinates : (i : ℕ) → i < h.atoms → bad_coordinate s h i ≡ false

-- a rung of the ladder of checks that is passed
passed : (v : ℕ) (f : ℕ → Refusal) (rest : Result Head Refusal) (h : Head) → or_first v f rest ≡ Ok h → (v ≡ 0) × (rest ≡ Ok h)
passed zero f rest h e = (refl, e)
passed (suc v) f rest h e = let z : ◌≡◌ {A = ℕ} 0 1 = cc in absurd (omega arith)

pub contents_accepted : (s : List ℕ) (h : Head) (q : List ℕ) (h' : Head) → contents s h q ≡ Ok h' → (h ≡ h') × Accepted s h q
unfolding contents
contents_accepted s h q h' e =
    let a = passed (first (bad_visibility s h) h.chains) BadVisibility _ h' e in
    let b = passed (first (bad_kind q) (segments_of q).count) BadKind _ h' a.1 in
    let c = passed (first (bad_atom s h) h.atoms) BadAtom _ h' b.1 in
    let d = passed (first (bad_coordinate s h) h.atoms) BadCoordinate (Ok h) h' c.1 in
    let f : ◌≡◌ {A = Result Head Refusal} (Ok h) (Ok h') = d.1 in (
      cc,
      record {
        visibility = first_false _ h.chains a.0;
        kinds = first_false _ (segments_of q).count b.0;
        atoms = first_false _ h.atoms c.0;
        coordinates = first_false _ h.atoms d.0;
      },
    )

-- checks that are passed, and those after them: of the counts k that the first leave
pub record Both (x : Result Head Refusal) (f : Head → Result Head Refusal) (h : Head) : Type 0 where
  pub counts : Head
  pub first_ones : x ≡ Ok counts
  pub others : f counts ≡ Ok h

pub both : (x : Result Head Refusal) (f : Head → Result Head Refusal) (h : Head) → and_then x f ≡ Ok h → Both x f h
both (Err r) f h e = let z : ◌≡◌ {A = ℕ} 0 1 = cc in absurd (omega arith)
both (Ok k) f h e = record { counts = k; first_ones = refl; others = e }

-- what passes all of them has passed the sizes, and has contents that are accepted: its own records, and a party's
pub check_parts : (s : List ℕ) (h : Head) → check s ≡ Ok h → (sizes s ≡ Ok h) × Accepted s h (records_of s h)
unfolding check
check_parts s h e =
    let b = both (sizes s) (λ k. contents s k (records_of s k)) h e in
    let c = contents_accepted s b.counts (records_of s b.counts) h b.others in
    subst (λ (k : Head). (sizes s ≡ Ok k) × Accepted s k (records_of s k)) c.0 (b.first_ones, c.1)

pub shared_parts : (s q : List ℕ) (h : Head) → check_shared s q ≡ Ok h → (shared_sizes s (length q) ≡ Ok h) × Accepted s h q
unfolding check_shared
shared_parts s q h e =
    let b = both (shared_sizes s (length q)) (λ k. contents s k q) h e in
    let c = contents_accepted s b.counts q h b.others in
    subst (λ (k : Head). (shared_sizes s (length q) ≡ Ok k) × Accepted s k q) c.0 (b.first_ones, c.1)

pub accepted : (s : List ℕ) (h : Head) → check s ≡ Ok h → Accepted s h (records_of s h)
accepted s h e = (check_parts s h e).1

pub shared_accepted : (s q : List ℕ) (h : Head) → check_shared s q ≡ Ok h → Accepted s h q
shared_accepted s q h e = (shared_parts s q h e).1

-- a kind is 0, 1 or 2
pub kinds_few : (s : List ℕ) (h : Head) (q : List ℕ) → Accepted s h q → (i : ℕ) → i < (segments_of q).count → u8_at q (kind_at i) ≤ 2
unfolding bad_kind
kinds_few s h q a i l = ltb-false _ _ (a.kinds i l)

pub kind_few : (s : List ℕ) (h : Head) → check s ≡ Ok h → (i : ℕ) → i < (segments_of (records_of s h)).count → u8_at (records_of s h) (kind_at i) ≤ 2
kind_few s h e = kinds_few s h (records_of s h) (accepted s h e)

pub shared_kind_few : (s q : List ℕ) (h : Head) → check_shared s q ≡ Ok h → (i : ℕ) → i < (segments_of q).count → u8_at q (kind_at i) ≤ 2
shared_kind_few s q h e = kinds_few s h q (shared_accepted s q h e)
