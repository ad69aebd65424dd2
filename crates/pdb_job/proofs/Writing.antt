-- The job's records: what the tables give for a line, and the loop that writes one record after another. Assumes nothing.
use Prim.Native.Nat.{ℕ, zero, suc, ◌+◌, ◌-◌, ◌*◌, ◌<◌, ◌≤◌}
use mathlib.Core.Bool.{Bool, true, false, ◌||◌, or-true}
use mathlib.Core.Path.{◌≡◌, refl, sym, ap, ◌∙◌, subst}
use mathlib.Core.List.{List, [], ◌∷◌, ◌++◌, map, append-nil, map-append}
use native.Mathlib.Numerals.{add-one}
use native.Mathlib.Omega.{arith}
use lib.Dec.{eqb}
use lib.ListN.{length, get_or, length-append, length-map}
use borrow.Author.Tests.{eqb-true, eq-eqb, ne_eqb}
use Rattle.lists.specs.Put.{put}
use Rattle.lists.proofs.Puts.{kept, length_put, put_at, put_apart}
use Rattle.lists.specs.Search.{last}
use Rattle.appearance.specs.Order.{member, place, numbered}
use Rattle.appearance.specs.Index.{is_key, Keyed, Finds}
use Rattle.appearance.proofs.Laws.{member_append}
use Rattle.lists.proofs.Searches.{last_taken}
use Rattle.appearance.proofs.Numbers.{found_number, number_none, number_is, number_some}
use Rattle.job_writer.specs.Job.{flat, segment_bytes, atom_bytes}
use Rattle.job_writer.specs.declared.JobAtom.{JobAtom}
use Rattle.job_writer.specs.declared.JobSegment.{JobSegment}
use Rattle.job_writer.proofs.Laws.{wide_segment, wide_atom, length_flat, flat_append}
use Rattle.pdb_records.specs.declared.AtomLine.{AtomLine}
use Rattle.pdb_records.specs.declared.SegmentLine.{SegmentLine}
use Rattle.pdb_records.specs.declared.Record.{Record}
use Rattle.pdb_records.specs.declared.Record.TheVariants.{AnAtom, ASegment}
use Rattle.pdb_file.specs.Reading.{records, atoms, atoms_in, atoms_of, segments, segments_in, segments_of, names, letters}
use Rattle.pdb_file.specs.Steps.{left, Onward, Begins}
use Rattle.pdb_file.specs.declared.walk.Walk.{Walk}
use Rattle.pdb_file.specs.Faults.{first_atom, last_atom, serial_in}
use Rattle.std.specs.Prelude.{Option, Some, None, is_some, IsSome, IfSome, MatchOption}
use Rattle.pdb_survey.specs.Tables.{Residues, Marks}
use Rattle.pdb_survey.proofs.Atoms.{found_member}
use Rattle.pdb_job.specs.Structure.{to_atom, to_segment, residue_order, chain_order, chains_of}
use Rattle.pdb_job.specs.Parts.{segments_from, atoms_from, Held}
use Rattle.pdb_job.specs.declared.records.Places.{Places}
use Rattle.lists.proofs.Bools.{or_no}

-- ---- a residue that is not there has no first atom and no last
nowhere : (f : Option ℕ) → is_some f ≡ false → f ≡ None
nowhere None e = refl
nowhere (Some n) e = absurd (let z : ◌≡◌ {A = ℕ} 0 1 = cc in omega arith)

no_first : (x : ℕ) (l : List AtomLine) → member x (names l) ≡ false → first_atom x l ≡ None
no_first x l m = nowhere (first_atom x l) (found_member x l ∙ m)

no_last : (x : ℕ) (l : List AtomLine) → member x (names l) ≡ false → last_atom x l ≡ None
unfolding last_atom member
no_last x [] m = refl
no_last x (a ∷ l) m =
    let p = or_no (eqb x a.name) (member x (names l)) m in
    rw (no_last x l p.1, ne_eqb a.name x (λ e. other a.name x e p.0))
  where
    other : (a b : ℕ) → a ≡ b → eqb b a ≡ false → ⊥
    other a b e q = let w : ◌≡◌ {A = Bool} true false = sym (eq-eqb b a (sym e)) ∙ q in let z : ◌≡◌ {A = ℕ} 0 1 = cc in omega arith

-- ---- a key that was found
pub found_low : (keys : List ℕ) (n x : ℕ) (f : Option ℕ) → Finds keys n x f → n ≤ 16384 → IfSome f (λ i. i < 16384)
found_low keys n x None F h = tt
found_low keys n x (Some i) F h = omega (arith, F)

pub found_some : (keys : List ℕ) (n x : ℕ) (f : Option ℕ) → Finds keys n x f → 0 < last (is_key keys x) n → IsSome f
found_some keys n x None F h = absurd (omega (arith, F))
found_some keys n x (Some i) F h = refl

pub found_at : (keys : List ℕ) (n x : ℕ) (f : Option ℕ) (i : ℕ) → Finds keys n x f → f ≡ Some i → last (is_key keys x) n ≡ suc i
found_at keys n x f i F e = (subst (Finds keys n x) e F).0

-- ---- serials from the table
module _ (keys links ends : List ℕ) (n : ℕ) (l : List AtomLine) (R : Residues keys links ends n l) (x r : ℕ) where
  by_number : (base : ℕ) (f : ℕ → Option ℕ) → (member x (names l) ≡ false → f x ≡ None) → ((i : ℕ) → i < n → get_or ends (base + i) 0 ≡ serial_in (f (get_or keys i 0)))
      → (found : Option ℕ) → Finds keys n x found → MatchOption found (r ≡ 0) (λ i. r ≡ get_or ends (base + i) 0) → r ≡ serial_in (f x)
  unfolding is_key
  by_number base f missing table None F o =
      o ∙ sym (ap serial_in (missing (number_none (names l) x (sym (found_number keys (names l) n x R.keyed) ∙ F))))
  by_number base f missing table (Some i) F o =
      o ∙ table i F.1 ∙ ap (λ (y : ℕ). serial_in (f y)) (eqb-true (get_or keys i 0) x (last_taken (is_key keys x) n i F.0))

  pub first_serial : (found : Option ℕ) → Finds keys n x found → MatchOption found (r ≡ 0) (λ i. r ≡ get_or ends (0 + i) 0) → r ≡ serial_in (first_atom x l)
  first_serial = by_number 0 (λ (y : ℕ). first_atom y l) (no_first x l) (λ i h. ap (λ (k : ℕ). get_or ends k 0) (omega arith) ∙ R.first i h)

  pub last_serial : (found : Option ℕ) → Finds keys n x found → MatchOption found (r ≡ 0) (λ i. r ≡ get_or ends (16384 + i) 0) → r ≡ serial_in (last_atom x l)
  last_serial = by_number 16384 (λ (y : ℕ). last_atom y l) (no_last x l) R.last

pub segment_made : (l : List AtomLine) (g : SegmentLine) (a b : ℕ) → a ≡ serial_in (first_atom g.start l) → b ≡ serial_in (last_atom g.end l)
    → ◌≡◌ {A = JobSegment} (record { kind = g.kind; start = a; end = b }) (to_segment l g)
segment_made l g a b p q = rw (p, q)

pub atom_made : (l : List AtomLine) (keys marks : List ℕ) (n : ℕ) (x : AtomLine) → Keyed keys n (names l) → Marks marks (chains_of l) (letters l) → x.chain < 256
    → (i c : ℕ) → last (is_key keys x.name) n ≡ suc i → c ≡ get_or marks x.chain 0 → 0 < c
    → ◌≡◌ {A = JobAtom} (record { serial = x.serial; role = x.role; residue = i; chain = c - 1; x = x.x; y = x.y; z = x.z }) (to_atom l x)
atom_made l keys marks n x K M low i c ei ec hc =
    let np : suc i ≡ numbered (names l) x.name = sym ei ∙ found_number keys (names l) n x.name K in
    let nc : c ≡ numbered (letters l) x.chain = ec ∙ M.mark x.chain low in
    let mp = number_is (names l) x.name (number_some (names l) x.name (omega (arith, np))) in
    let mc = number_is (letters l) x.chain (number_some (letters l) x.chain (subst (λ (k : ℕ). 0 < k) nc hc)) in
    let r : i ≡ place x.name (residue_order l) = omega (arith, np, mp) in
    let q : c - 1 ≡ place x.chain (chain_order l) = omega (arith, nc, mc) in
    rw (r, q)

-- ---- an atom that is still to come has its residue and its chain in the tables

-- what the atoms g have, whatever it is, an atom of l has
abbrev pub Named : List AtomLine → List AtomLine → Type 0
Named l g = (f : AtomLine → ℕ) (y : ℕ) → member y (map f g) ≡ true → member y (map f l) ≡ true

module _ (l g m r : List AtomLine) (e : g ≡ m ++ r) (N : Named l g) where
  pub named_on : Named l r
  named_on f y h =
      N f y (ap (λ (t : List AtomLine). member y (map f t)) e ∙ ap (member y) (map-append f m r) ∙ member_append y (map f m) (map f r)
      ∙ ap (λ (b : Bool). member y (map f m) || b) h ∙ or-true (member y (map f m)))

  there : (f : AtomLine → ℕ) (a : AtomLine) → m ≡ a ∷ [] → member (f a) (map f l) ≡ true
  unfolding member
  there f a q = N f (f a) (ap (λ (t : List AtomLine). member (f a) (map f t)) (e ∙ ap (λ (t : List AtomLine). t ++ r) q) ∙ rw (eq-eqb (f a) (f a) refl))

  positive : (t : List ℕ) (y : ℕ) → member y t ≡ true → 0 < numbered t y
  positive t y m = omega (arith, number_is t y m)

  pub held : (keys marks : List ℕ) (n c : ℕ) → Keyed keys n (names l) → Marks marks c (letters l) → (a : AtomLine) → m ≡ a ∷ []
      → (0 < last (is_key keys a.name) n) × (a.chain < 256 → 0 < get_or marks a.chain 0)
  held keys marks n c K M a q = (
    subst (λ (k : ℕ). 0 < k) (sym (found_number keys (names l) n a.name K)) (positive (names l) a.name (there (λ (b : AtomLine). b.name) a q)),
    λ low. subst (λ (k : ℕ). 0 < k) (sym (M.mark a.chain low)) (positive (letters l) a.chain (there (λ (b : AtomLine). b.chain) a q)),
  )

-- ---- one line's record, or none
module _ (r : Record) where
  pub segment_room : (x : SegmentLine) (k n : ℕ) → r ≡ ASegment x → k + 9 * length (segments_in r) ≤ n → k + 9 ≤ n
  segment_room x k n e h = subst (λ (r : Record). k + 9 * length (segments_in r) ≤ n) e h

  pub atom_room : (x : AtomLine) (k n : ℕ) → r ≡ AnAtom x → k + 33 * length (atoms_in r) ≤ n → k + 33 ≤ n
  atom_room x k n e h = subst (λ (r : Record). k + 33 * length (atoms_in r) ≤ n) e h

  pub counts_are_lem : (t : Record) → r ≡ t → (length (segments_in t) ≡ length (segments_in r)) × (length (atoms_in t) ≡ length (atoms_in r))
  counts_are_lem t e = rw e (refl, refl)

  module _ (l : List AtomLine) (out : List ℕ) (g a : ℕ) where
    -- what the buffer holds after the line
    abbrev After : Record → List ℕ
    After r = put (put out g (segments_from l (r ∷ []))) a (atoms_from l (r ∷ []))

    pub wrote_segment : (x : SegmentLine) (j : JobSegment) (out' : List ℕ) → r ≡ ASegment x → j ≡ to_segment l x → out' ≡ put out g (segment_bytes j) → out' ≡ After r
    unfolding segments atoms flat put
    wrote_segment x j out' e ej eo = eo ∙ ap (λ (j : JobSegment). put out g (segment_bytes j)) ej ∙ ap (put out g) (sym (append-nil (segment_bytes (to_segment l x)))) ∙ ap After (sym e)

    pub wrote_atom : (x : AtomLine) (j : JobAtom) (out' : List ℕ) → r ≡ AnAtom x → j ≡ to_atom l x → out' ≡ put out a (atom_bytes j) → out' ≡ After r
    unfolding segments atoms flat put
    wrote_atom x j out' e ej eo = eo ∙ ap (λ (j : JobAtom). put out a (atom_bytes j)) ej ∙ ap (put out a) (sym (append-nil (atom_bytes (to_atom l x)))) ∙ ap After (sym e)

    pub wrote_none : segments_in r ≡ [] → atoms_in r ≡ [] → out ≡ After r
    unfolding segments atoms flat put
    wrote_none es ea = rw (es, ea)

-- ---- the bytes of some records, those of the first in front
module _ {A B : Type 0} (f : B → List ℕ) (h : A → B) where
  pub bytes_on : (m l : List A) → flat f (map h (m ++ l)) ≡ flat f (map h (m ++ [])) ++ flat f (map h l)
  bytes_on m l = rw (append-nil m, map-append h m l) (flat_append f (map h m) (map h l))

  pub bytes_long : (w : ℕ) → ((b : B) → length (f b) ≡ w) → (l : List A) → length (flat f (map h l)) ≡ w * length l
  bytes_long w wide l = length_flat f w wide (map h l) ∙ ap (λ (n : ℕ). w * n) (length-map l h)

-- two writings that go on side by side: each has its front at its place
two_fronts : (out : List ℕ) (g g' a a' : ℕ) (si sr ai ar : List ℕ) → g' ≡ g + length si → a' ≡ a + length ai → g' + length sr ≤ a
    → put (put out g (si ++ sr)) a (ai ++ ar) ≡ put (put (put (put out g si) a ai) g' sr) a' ar
two_fronts out g g' a a' si sr ai ar eg ea apart =
    ap (λ (b : List ℕ). put b a (ai ++ ar)) (sym (put_at out g g' si sr eg))
    ∙ sym (put_at (put (put out g si) g' sr) a a' ai ar ea)
    ∙ ap (λ (b : List ℕ). put b a' ar) (put_apart (put out g si) g' a sr ai apart)

-- ---- the walk that writes: what is left, put behind what is there, makes the whole
pub record Writing (s out₀ : List ℕ) (first second : ℕ) (out : List ℕ) (w : Walk) (p : Places) : Type 0 where
  pub same : length out ≡ length out₀
  pub small : length out₀ < 18446744073709551616
  pub named : Named (atoms_of s) (atoms (left w))
  pub low : p.segment + 9 * length (segments (left w)) ≤ p.atom
  pub room : p.atom + 33 * length (atoms (left w)) ≤ length out
  pub whole : put (put out₀ first (segments_from (atoms_of s) (records s))) second (atoms_from (atoms_of s) (records s))
      ≡ put (put out p.segment (segments_from (atoms_of s) (left w))) p.atom (atoms_from (atoms_of s) (left w))

module _ (s out₀ : List ℕ) (first second : ℕ) where
  pub writing_start : length out₀ < 18446744073709551616 → first + 9 * length (segments_of s) ≤ second → second + 33 * length (atoms_of s) ≤ length out₀
      → (w : Walk) → Begins s w → Writing s out₀ first second out₀ w (record { segment = first; atom = second })
  writing_start b l r w h = record {
    same = refl;
    small = b;
    named = rw h.all (λ f y m. m);
    low = rw h.all l;
    room = rw h.all r;
    whole = rw h.all refl;
  }

  module _ (out : List ℕ) (w : Walk) (p : Places) (W : Writing s out₀ first second out w p) where
    pub writing_over : left w ≡ [] → out ≡ put (put out₀ first (segments_from (atoms_of s) (records s))) second (atoms_from (atoms_of s) (records s))
    unfolding put flat atoms segments
    writing_over e = sym (W.whole ∙ ap (λ (l : List Record). put (put out p.segment (segments_from (atoms_of s) l)) p.atom (atoms_from (atoms_of s) l)) e)

    module _ (r : Record) (w' : Walk) (o : Onward w r w') where
      segments_are : segments (left w) ≡ segments_in r ++ segments (left w')
      unfolding segments
      segments_are = ap segments o.is

      atoms_are : atoms (left w) ≡ atoms_in r ++ atoms (left w')
      unfolding atoms
      atoms_are = ap atoms o.is

      fewer_segments : 9 * length (segments (left w)) ≡ 9 * length (segments_in r) + 9 * length (segments (left w'))
      fewer_segments = rw (segments_are, length-append) (omega arith)

      fewer_atoms : 33 * length (atoms (left w)) ≡ 33 * length (atoms_in r) + 33 * length (atoms (left w'))
      fewer_atoms = rw (atoms_are, length-append) (omega arith)

      pub writing_segment : p.segment + 9 * length (segments_in r) ≤ length out
      writing_segment = omega (arith, W.low, W.room, fewer_segments)

      pub writing_atom : p.atom + 33 * length (atoms_in r) ≤ length out
      writing_atom = omega (arith, W.room, fewer_atoms)

      pub writing_held : (keys marks : List ℕ) (n c : ℕ) → Keyed keys n (names (atoms_of s)) → Marks marks c (letters (atoms_of s)) → Held keys marks n r
      writing_held keys marks n c K M a q = held (atoms_of s) _ (atoms_in r) _ atoms_are W.named keys marks n c K M a q

      pub writing_more : (out' : List ℕ) (q : Places) → out' ≡ put (put out p.segment (segments_from (atoms_of s) (r ∷ []))) p.atom (atoms_from (atoms_of s) (r ∷ []))
          → q.segment ≡ p.segment + 9 * length (segments_in r) → q.atom ≡ p.atom + 33 * length (atoms_in r)
          → Writing s out₀ first second out' w' q
      unfolding segments atoms
      writing_more out' q e es ea =
          let k : length out' ≡ length out = kept _ _ _ e ∙ length_put out p.segment _ in
          record {
            same = k ∙ W.same;
            small = W.small;
            named = named_on (atoms_of s) _ (atoms_in r) _ atoms_are W.named;
            low = omega (arith, W.low, fewer_segments);
            room = omega (arith, W.room, fewer_atoms, k);
            whole = W.whole ∙ on;
          }
        where
          on : put (put out p.segment (segments_from (atoms_of s) (left w))) p.atom (atoms_from (atoms_of s) (left w))
              ≡ put (put out' q.segment (segments_from (atoms_of s) (left w'))) q.atom (atoms_from (atoms_of s) (left w'))
          on =
              rw (segments_are, atoms_are, bytes_on segment_bytes (to_segment (atoms_of s)) (segments_in r) (segments (left w')), bytes_on atom_bytes (to_atom (atoms_of s)) (atoms_in r) (atoms (left w')))
              (two_fronts out p.segment q.segment p.atom q.atom _ _ _ _
              (es ∙ ap (λ (n : ℕ). p.segment + n) (sym (long_segments (segments_in r))))
              (ea ∙ ap (λ (n : ℕ). p.atom + n) (sym (long_atoms (atoms_in r))))
              (omega (arith, W.low, fewer_segments, bytes_long segment_bytes (to_segment (atoms_of s)) 9 wide_segment (segments (left w'))))
              ∙ ap (λ (b : List ℕ). put (put b q.segment (segments_from (atoms_of s) (left w'))) q.atom (atoms_from (atoms_of s) (left w'))) (sym e))
            where
              long_segments : (m : List SegmentLine) → length (flat segment_bytes (map (to_segment (atoms_of s)) (m ++ []))) ≡ 9 * length m
              long_segments m = bytes_long segment_bytes (to_segment (atoms_of s)) 9 wide_segment (m ++ []) ∙ ap (λ (l : List SegmentLine). 9 * length l) (append-nil m)

              long_atoms : (m : List AtomLine) → length (flat atom_bytes (map (to_atom (atoms_of s)) (m ++ []))) ≡ 33 * length m
              long_atoms m = bytes_long atom_bytes (to_atom (atoms_of s)) 33 wide_atom (m ++ []) ∙ ap (λ (l : List AtomLine). 33 * length l) (append-nil m)
