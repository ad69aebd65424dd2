-- The job with a party's records passes the checks that the shared job with those records passes, and says the same of its atoms, residues and chains.
-- Assumes nothing.
use Prim.Native.Nat.{ℕ, zero, suc, ◌+◌, ◌-◌, ◌*◌, ◌/◌, ◌<◌, ◌≤◌}
use mathlib.Core.Bool.{Bool, true, false, ◌&&◌}
use mathlib.Core.Path.{◌≡◌, refl, sym, ap, ◌∙◌, subst, fun_ext}
use mathlib.Core.List.{List}
use native.Mathlib.Nat.{mod-eq_of_lt}
use native.Mathlib.Omega.{arith}
use lib.Dec.{eqb, ltb}
use lib.ListN.{length, get_or}
use borrow.Author.Tests.{ltb-true}
use Rattle.lists.specs.Search.{first}
use Rattle.lists.proofs.Searches.{first_same}
use Rattle.numbers.specs.Bytes.{u8_at, u16_at, u32_at, u64_at}
use Rattle.protein.specs.declared.Head.{Head}
use Rattle.protein.specs.Layout.{Whole, head_of, records_of, chain_at, atom_at, serial_at, length_field, version_of, job_size}
use Rattle.protein.specs.Job.{Job, job_of, segments_of}
use Rattle.protein.specs.Places.{coordinate_at, place_of}
use Rattle.protein.specs.Protein.{protein_of}
use Rattle.job.specs.Check.{sizes, shared_sizes, contents, check, check_shared, bad_visibility, bad_kind, bad_atom, bad_coordinate, or_first}
use Rattle.job.specs.declared.Refusal.{Refusal}
use Rattle.job.specs.declared.Refusal.TheVariants.{BadVisibility, BadKind, BadAtom, BadCoordinate}
use Rattle.std.specs.Prelude.{Result, Ok, Err}
use Rattle.job.proofs.Accepted.{shared_parts}
use Rattle.job.proofs.Laws.{sizes_fields, sizes_fine, shared_passes, shared_sizes_lem, shared_contents, check_contents_of}
use Rattle.joined.specs.Joined.{with_records, with_segments, joined_answer}
use Rattle.joined.proofs.Agree.{u16_agree, u32_agree, u64_agree}
use Rattle.joined.proofs.Parts.{joined_length, length_said, count_said, fields_same, chains_same, atoms_same, records_there}

-- ---- laws of any jobs and answers
-- two jobs that say the same are one
pub job_same : (J K : Job) → J.atoms ≡ K.atoms → J.residues ≡ K.residues → ((c : ℕ) → J.visible c ≡ K.visible c) → ((a : ℕ) → J.serial a ≡ K.serial a)
    → ((a : ℕ) → J.role a ≡ K.role a) → ((a : ℕ) → J.residue a ≡ K.residue a) → ((a : ℕ) → J.chain a ≡ K.chain a) → J ≡ K
job_same J K a r v s o e c = λ i. record {
  atoms = a i;
  residues = r i;
  visible = λ x. v x i;
  serial = λ x. s x i;
  role = λ x. o x i;
  residue = λ x. e x i;
  chain = λ x. c x i;
}

-- a rung of the ladder of checks
rung : (q : List ℕ) (v w : ℕ) (f : ℕ → Refusal) (x y : Result Head Refusal) → v ≡ w → x ≡ joined_answer q y → or_first v f x ≡ joined_answer q (or_first w f y)
rung q v zero f x y e h = rw e h
rung q v (suc w) f x y e h = rw e

-- ---- of a shared job that passes 1 to 4 with the records
module _ (s q : List ℕ) (h : Head) (e : shared_sizes s (length q) ≡ Ok h) where
  abbrev t : List ℕ
  t = with_records s q

  abbrev h' : Head
  h' = with_segments q h

  whole : Whole s h
  whole = (shared_sizes_lem s (length q) h e).0

  chains_are : (head_of s).chains ≡ h.chains
  chains_are = ap (λ (k : Head). k.chains) (sym whole.head)

  -- S is 0, and the records are whole
  none : h.segments ≡ 0
  none = (shared_sizes_lem s (length q) h e).1

  nines : length q ≡ 9 * (length q / 9)
  nines = let r = (shared_sizes_lem s (length q) h e).2 in omega arith

  long : 13 + (head_of s).chains ≤ length s
  long = omega (arith, whole.size, chains_are)

  -- an atom's serial, and what stands k places into its record: behind the records as before
  serial_same : (a : ℕ) → u32_at t (serial_at h' a) ≡ u32_at s (serial_at h a)
  serial_same a =
      let r = serial_at h a in
      u32_agree s t (13 + (head_of s).chains) (r + 4) (length q) (atoms_same s q long (r + 4)) r (serial_at h' a) (omega (arith, none, nines)) (omega (arith, chains_are)) (omega arith)

  module _ (a k : ℕ) where
    abbrev r : ℕ
    r = atom_at h a + k

    abbrev p : ℕ
    p = atom_at h' a + k

    at8 : u8_at t p ≡ u8_at s r
    at8 = (atoms_same s q long (r + 1)).at r p (omega (arith, none, nines)) (omega (arith, chains_are)) (omega arith)

    at16 : u16_at t p ≡ u16_at s r
    at16 = u16_agree s t (13 + (head_of s).chains) (r + 2) (length q) (atoms_same s q long (r + 2)) r p (omega (arith, none, nines)) (omega (arith, chains_are)) (omega arith)

    at64 : u64_at t p ≡ u64_at s r
    at64 = u64_agree s t (13 + (head_of s).chains) (r + 8) (length q) (atoms_same s q long (r + 8)) r p (omega (arith, none, nines)) (omega (arith, chains_are)) (omega arith)

  -- its counts, and its records
  pub joined_head_lem : head_of (with_records s q) ≡ with_segments q h
  joined_head_lem =
      let c : u16_at t 5 ≡ h.chains = u16_agree s t 4 9 0 (fields_same s q long) 5 5 (omega arith) (omega arith) (omega arith) ∙ chains_are in
      let r : u16_at t 7 ≡ h.residues = u16_agree s t 4 9 0 (fields_same s q long) 7 7 (omega arith) (omega arith) (omega arith) ∙ ap (λ (k : Head). k.residues) (sym whole.head) in
      let g : u16_at t 9 ≡ length q / 9 = count_said s q long ∙ mod-eq_of_lt (omega (arith, (shared_sizes_lem s (length q) h e).3)) in
      let a : u16_at t 11 ≡ h.atoms =
      u16_agree s t 11 (11 + (2 + (head_of s).chains)) 0 (chains_same s q long) 11 11 (omega arith) (omega arith) (omega arith) ∙ ap (λ (k : Head). k.atoms) (sym whole.head) in
      rw (c, r, g, a)

  pub joined_records : records_of (with_records s q) (with_segments q h) ≡ q
  joined_records = rw (← chains_are) (records_there s q long (9 * (length q / 9)) nines)

  -- what it says
  chain_byte : (c : ℕ) → c < h.chains → u8_at t (chain_at c) ≡ u8_at s (chain_at c)
  chain_byte c l = (chains_same s q long).at (13 + c) (13 + c) (omega arith) (omega arith) (omega (arith, chains_are))

  visible_same : (c : ℕ) (b : Bool) → ltb c h.chains ≡ b → (b && eqb (u8_at t (chain_at c)) 1) ≡ (b && eqb (u8_at s (chain_at c)) 1)
  visible_same c true l = ap (λ (x : ℕ). eqb x 1) (chain_byte c (ltb-true c h.chains l))
  visible_same c false l = refl

  pub joined_job : job_of (with_records s q) (with_segments q h) ≡ job_of s h
  joined_job =
      job_same (job_of t h') (job_of s h) refl refl
      (λ c. visible_same c (ltb c h.chains) refl)
      serial_same (λ a. at8 a 4) (λ a. at16 a 5) (λ a. at16 a 7)

  pub joined_place : (a : ℕ) → place_of (with_records s q) (with_segments q h) a ≡ place_of s h a
  unfolding place_of coordinate_at
  joined_place a = rw (at64 (a - 1) 9, at64 (a - 1) 17, at64 (a - 1) 25)

  pub joined_places : place_of (with_records s q) (with_segments q h) ≡ place_of s h
  joined_places = fun_ext joined_place

  pub joined_protein : protein_of (with_records s q) (with_segments q h) ≡ protein_of s h
  joined_protein = λ i. record { job = joined_job i; place = joined_places i }

  -- its contents: the same refusal, or its counts
  atom_same : (a : ℕ) → bad_atom t h' a ≡ bad_atom s h a
  unfolding bad_atom
  atom_same a = rw (at8 a 4, at16 a 5, at16 a 7)

  coordinate_same : (a : ℕ) → bad_coordinate t h' a ≡ bad_coordinate s h a
  unfolding bad_coordinate
  coordinate_same a = rw (at64 a 9, at64 a 17, at64 a 25)

  visibility_same : (c : ℕ) → c < h.chains → bad_visibility t h' c ≡ bad_visibility s h c
  unfolding bad_visibility
  visibility_same c l = rw (chain_byte c l)

  pub joined_contents : contents (with_records s q) (with_segments q h) q ≡ joined_answer q (contents s h q)
  unfolding contents
  joined_contents =
      rung q _ _ BadVisibility _ _ (first_same (bad_visibility t h') (bad_visibility s h) h.chains visibility_same)
      (rung q (first (bad_kind q) (segments_of q).count) (first (bad_kind q) (segments_of q).count) BadKind _ _ refl
      (rung q _ _ BadAtom _ _ (first_same (bad_atom t h') (bad_atom s h) h.atoms (λ a l. atom_same a))
      (rung q _ _ BadCoordinate (Ok h') (Ok h) (first_same (bad_coordinate t h') (bad_coordinate s h) h.atoms (λ a l. coordinate_same a)) refl)))

  -- ---- its checks, where A is a number of two bytes (a length field of four bytes counts no more): so it is in a list of bytes, `few_atoms` below
  module _ (a : h.atoms < 65536) where
    pub joined_sizes : sizes (with_records s q) ≡ Ok (with_segments q h)
    joined_sizes =
        let f = sizes_fields s h (shared_passes s (length q) h e).0 in
        let n = joined_length s q long in
        let r = (shared_sizes_lem s (length q) h e).3 in
        let l : length_field t ≡ length t - 4 = length_said s q long ∙ mod-eq_of_lt (omega (arith, whole.size, whole.few_chains, none)) ∙ omega arith in
        let v : version_of t ≡ 1 = (fields_same s q long).at 4 4 (omega arith) (omega arith) (omega arith) ∙ f.1 in
        let z : length t ≡ job_size h' = omega (arith, whole.size, none, nines) in
        sizes_fine t (omega (arith, whole.size)) l v (subst (λ (x : Head). x.chains ≤ 255) (sym joined_head_lem) whole.few_chains)
        (subst (λ (x : Head). x.residues ≤ 16384) (sym joined_head_lem) whole.few_residues) (z ∙ ap job_size (sym joined_head_lem))
        ∙ ap Ok joined_head_lem

    pub joined_check : check (with_records s q) ≡ joined_answer q (check_shared s q)
    joined_check =
        let p = shared_passes s (length q) h e in
        check_contents_of t h' joined_sizes ∙ ap (contents t h') joined_records ∙ joined_contents ∙ ap (joined_answer q) (sym (shared_contents s q h p.0 p.1))

    -- so it is refused exactly where the shared job with those records is, with the same number and values, and passes exactly where that does
    pub joined_refused : (r : Refusal) → check_shared s q ≡ Err r → check (with_records s q) ≡ Err r
    joined_refused r x = joined_check ∙ ap (joined_answer q) x

    pub refused_joined : (r : Refusal) → check (with_records s q) ≡ Err r → check_shared s q ≡ Err r
    refused_joined r x = back (check_shared s q) (sym joined_check ∙ x)
      where
        back : (y : Result Head Refusal) → joined_answer q y ≡ Err r → y ≡ Err r
        back (Err k) z = z
        back (Ok k) z = let n : ◌≡◌ {A = ℕ} 0 1 = cc in absurd (omega arith)

    pub joined_fine : check_shared s q ≡ Ok h → check (with_records s q) ≡ Ok (with_segments q h)
    joined_fine x = joined_check ∙ ap (joined_answer q) x

    pub fine_joined : (k : Head) → check (with_records s q) ≡ Ok k → check_shared s q ≡ Ok h
    fine_joined k x = go (check_shared s q) refl (sym joined_check ∙ x)
      where
        go : (y : Result Head Refusal) → check_shared s q ≡ y → joined_answer q y ≡ Ok k → check_shared s q ≡ Ok h
        go (Err r) z w = let n : ◌≡◌ {A = ℕ} 0 1 = cc in absurd (omega arith)
        go (Ok j) z w = let f : ◌≡◌ {A = Result Head Refusal} (Ok j) (Ok h) = sym (shared_parts s q j z).0 ∙ e in z ∙ f

  -- of bytes
  pub few_atoms : ((i : ℕ) → get_or s i 0 < 256) → h.atoms < 65536
  unfolding u16_at
  few_atoms b = let n = ap (λ (k : Head). k.atoms) whole.head in omega (arith, b 11, b 12)
