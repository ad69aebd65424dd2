-- A written version 1 job whose counts and fields are within 01's limits passes checks 1 to 8: for every reader that writes one. Assumes nothing.
use Prim.Native.Nat.{ℕ, zero, suc, ◌+◌, ◌-◌, ◌*◌, ◌%◌, ◌<◌, ◌≤◌}
use mathlib.Core.Bool.{true, false, not, and-false}
use mathlib.Core.Path.{◌≡◌, refl, sym, ap, ◌∙◌, subst}
use mathlib.Core.List.{List, [], ◌∷◌}
use native.Mathlib.Nat.{mod-eq_of_lt}
use native.Mathlib.Omega.{arith}
use lib.Dec.{eqb}
use lib.ListN.{length, drop}
use borrow.Author.Tests.{le-ltb, lt-leb}
use Rattle.numbers.specs.Bytes.{u8_at, u16_at, u32_at, u64_at}
use Rattle.job.specs.Coordinate.{within}
use Rattle.protein.specs.Layout.{head_of, job_size, none}
use Rattle.protein.specs.Job.{segments_of}
use Rattle.job.specs.Check.{sizes, contents, check, stray, bad_visibility, bad_kind, bad_atom, bad_coordinate}
use Rattle.protein.specs.declared.Head.{Head}
use Rattle.std.specs.Prelude.{Ok}
use Rattle.job.proofs.Laws.{sizes_fine, check_contents_of}
use Rattle.lists.proofs.Searches.{first_none}
use Rattle.job_writer.specs.Job.{flat, segment_bytes, job_bytes, atom_bytes}
use Rattle.job_writer.specs.declared.JobAtom.{JobAtom}
use Rattle.job_writer.specs.declared.JobSegment.{JobSegment}
use Rattle.job_writer.proofs.Laws.{wide_segment, wide_atom, length_flat}
use Rattle.job_writer.proofs.Readback.{job_size_lem, head_read, visible_read, records_are, segment_there, atom_there, segment_read, atom_read}

-- ---- number k of a list
pub record Nth {A : Type 0} (l : List A) (k : ℕ) : Type 0 where
  pub item : A
  pub tail : List A
  pub is : drop k l ≡ item ∷ tail

pub nth : {A : Type 0} (l : List A) (k : ℕ) → k < length l → Nth l k
nth [] k h = absurd (omega arith)
nth (x ∷ l) zero h = record { item = x; tail = l; is = refl }
nth (x ∷ l) (suc k) h =
    let n = nth l k (omega arith) in
    record { item = n.item; tail = n.tail; is = n.is }

-- ---- the ladder of checks, for any bytes
contents_fine : (s : List ℕ) (h : Head) (q : List ℕ) → ((k : ℕ) → k < h.chains → bad_visibility s h k ≡ false) → ((k : ℕ) → k < (segments_of q).count → bad_kind q k ≡ false)
    → ((k : ℕ) → k < h.atoms → bad_atom s h k ≡ false) → ((k : ℕ) → k < h.atoms → bad_coordinate s h k ≡ false) → contents s h q ≡ Ok h
unfolding contents
contents_fine s h q a b c d =
    rw (
      first_none (bad_visibility s h) h.chains a,
      first_none (bad_kind q) (segments_of q).count b,
      first_none (bad_atom s h) h.atoms c,
      first_none (bad_coordinate s h) h.atoms d,
    )

not_stray : (limit v : ℕ) → v < limit → stray limit v ≡ false
unfolding stray
not_stray limit v h = rw (lt-leb limit v h) (and-false (not (eqb v none)))

-- ---- what an atom has to be
pub record Placed (x : ℕ) : Type 0 where
  pub inside : within x ≡ true
  pub small : x < 18446744073709551616

pub record Right (c r : ℕ) (a : JobAtom) : Type 0 where
  pub role : a.role ≤ 2
  pub residue : a.residue < r
  pub chain : a.chain < c
  pub x : Placed a.x
  pub y : Placed a.y
  pub z : Placed a.z

-- ---- the theorem
module _ (c r : ℕ) (gs : List JobSegment) (ats : List JobAtom) (hc : c ≤ 255) (hr : r ≤ 16384) (hg : length gs ≤ 65535) (ha : length ats ≤ 65535)
    (kinds : (k : ℕ) (g : JobSegment) (t : List JobSegment) → drop k gs ≡ g ∷ t → g.kind ≤ 2)
    (rights : (k : ℕ) (a : JobAtom) (t : List JobAtom) → drop k ats ≡ a ∷ t → Right c r a) where
  abbrev job : List ℕ
  job = job_bytes 1 33 atom_bytes c r gs ats

  -- its counts
  abbrev pub written : Head
  written = record { chains = c; residues = r; segments = length gs; atoms = length ats }

  size : length job ≡ 13 + c + 9 * length gs + 33 * length ats
  size = job_size_lem 1 33 atom_bytes wide_atom c r gs ats

  head_is : head_of job ≡ written
  head_is =
      let h = head_read 1 33 atom_bytes wide_atom c r gs ats in
      let e₁ : u16_at job 5 ≡ c = h.chains ∙ mod-eq_of_lt (omega arith) in
      let e₂ : u16_at job 7 ≡ r = h.residues ∙ mod-eq_of_lt (omega arith) in
      let e₃ : u16_at job 9 ≡ length gs = h.segments ∙ mod-eq_of_lt (omega arith) in
      let e₄ : u16_at job 11 ≡ length ats = h.atoms ∙ mod-eq_of_lt (omega arith) in
      rw (e₁, e₂, e₃, e₄)

  sizes_are : sizes job ≡ Ok written
  sizes_are =
      let h = head_read 1 33 atom_bytes wide_atom c r gs ats in
      let f : u32_at job 0 ≡ length job - 4 = h.following ∙ mod-eq_of_lt (omega arith) ∙ omega (arith, size) in
      sizes_fine job (omega (arith, size)) f h.version_is (subst (λ (x : Head). x.chains ≤ 255) (sym head_is) hc) (subst (λ (x : Head). x.residues ≤ 16384) (sym head_is) hr)
      (size ∙ ap job_size (sym head_is))
      ∙ ap Ok head_is

  visible : (k : ℕ) → k < c → bad_visibility job written k ≡ false
  unfolding bad_visibility
  visible k h = le-ltb 1 (u8_at job (13 + k)) (omega (arith, visible_read 1 33 atom_bytes wide_atom c r gs ats k h))

  kind : (k : ℕ) → k < (segments_of (flat segment_bytes gs)).count → bad_kind (flat segment_bytes gs) k ≡ false
  unfolding bad_kind
  kind k h =
      let q = flat segment_bytes gs in
      let n = nth gs k (omega (arith, h, length_flat segment_bytes 9 wide_segment gs)) in
      let e = segment_read q (9 * k) n.item (segment_there gs k n.item n.tail n.is) in
      le-ltb 2 (u8_at q (9 * k)) (omega (arith, e.kind, kinds k n.item n.tail n.is))

  atom : (k : ℕ) → k < length ats → bad_atom job written k ≡ false
  unfolding bad_atom
  atom k h =
      let n = nth ats k h in
      let i = 13 + c + 9 * length gs + 33 * k in
      let e = atom_read job i n.item (atom_there 1 33 atom_bytes wide_atom c r gs ats k n.item n.tail n.is) in
      let p = rights k n.item n.tail n.is in
      let e₁ : u16_at job (i + 5) ≡ n.item.residue = e.residue ∙ mod-eq_of_lt (omega (arith, p.residue)) in
      let e₂ : u16_at job (i + 7) ≡ n.item.chain = e.chain ∙ mod-eq_of_lt (omega (arith, p.chain)) in
      rw (
        le-ltb 2 (u8_at job (i + 4)) (omega (arith, e.role, p.role)),
        not_stray r (u16_at job (i + 5)) (omega (arith, e₁, p.residue)),
        not_stray c (u16_at job (i + 7)) (omega (arith, e₂, p.chain)),
      )

  in_range : (x v : ℕ) → v ≡ x % 18446744073709551616 → Placed x → within v ≡ true
  in_range x v e p = ap within (e ∙ mod-eq_of_lt p.small) ∙ p.inside

  coordinate : (k : ℕ) → k < length ats → bad_coordinate job written k ≡ false
  unfolding bad_coordinate
  coordinate k h =
      let n = nth ats k h in
      let i = 13 + c + 9 * length gs + 33 * k in
      let e = atom_read job i n.item (atom_there 1 33 atom_bytes wide_atom c r gs ats k n.item n.tail n.is) in
      let p = rights k n.item n.tail n.is in
      rw (in_range n.item.x (u64_at job (i + 9)) e.x p.x, in_range n.item.y (u64_at job (i + 17)) e.y p.y, in_range n.item.z (u64_at job (i + 25)) e.z p.z)

  pub written_fine : check (job_bytes 1 33 atom_bytes c r gs ats) ≡ Ok written
  written_fine =
      check_contents_of job written sizes_are ∙ ap (contents job written) (records_are 1 33 atom_bytes wide_atom c r gs ats)
      ∙ contents_fine job written (flat segment_bytes gs) visible kind atom coordinate
