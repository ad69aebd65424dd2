-- Which files are the same to the reader: theorems over `Reads` (specs/Call), which is the promise of `read_pdb`. Each
-- says in its comment what it answers. Assumes nothing.
use Prim.Native.Nat.{ℕ, ◌+◌}
use mathlib.Core.Bool.{Bool, true, false, cond}
use mathlib.Core.Path.{◌≡◌, refl, sym, ap, ◌∙◌}
use mathlib.Core.List.{List, [], ◌∷◌, ◌++◌}
use lib.Dec.{eqb}
use lib.Ieee.{round, to_bits}
use lib.ListN.{length}
use borrow.Author.Tests.{eqb-true, eqb-false}
use Rattle.lists.specs.Put.{put}
use Rattle.job.specs.declared.Refusal.TheVariants.{NoJobRoom}
use Rattle.appearance.specs.Order.{distinct, member, place}
use Rattle.coordinates.specs.Coordinate.{coordinate, bits}
use Rattle.numbers.specs.Bytes.{u16, u32, u64}
use Rattle.job_writer.specs.Job.{flat, point, atom_bytes, head_bytes, job_bytes}
use Rattle.pdb_fields.specs.Numbers.{run, decimal, whole, thousandths}
use Rattle.pdb_lines.specs.Lines.{lines}
use Rattle.lists.specs.Same.{same_list}
use Rattle.pdb_lines.specs.Columns.{named}
use Rattle.pdb_lines.proofs.Same.{crlf, has_cr, crlf_lines, final, lines_join, lf_lines}
use Rattle.pdb_records.specs.Names.{ATOM, CA}
use Rattle.pdb_records.specs.Records.{line_kind, role_of, atom_of, of_kind}
use Rattle.pdb_records.specs.declared.Kind.{Kind}
use Rattle.pdb_records.specs.declared.Kind.TheVariants.{Atom, Helix, Sheet, Model, Endmdl, Other}
use Rattle.pdb_records.specs.declared.Record.{Record}
use Rattle.pdb_records.specs.declared.Record.TheVariants.{Skipped}
use Rattle.pdb_records.specs.declared.AtomLine.{AtomLine}
use Rattle.pdb_records.specs.declared.SegmentLine.{SegmentLine}
use Rattle.pdb_file.specs.Reading.{stops, saw, reading, records, atoms_in, atoms, segments_in, segments, atoms_of, segments_of}
use Rattle.pdb_file.specs.Faults.{fault_of, faults, fault_in}
use Rattle.std.specs.Option.{option_or}
use Rattle.pdb_file.specs.declared.Fault.{Fault}
use Rattle.pdb_job.specs.Structure.{Structure, structure_job, structure_of, pdb_job}
use Rattle.pdb_reader.specs.Call.{past_limits, by_fault, read_checks, read_answer, read_by, buffer_after, Reads}
use Rattle.pdb_reader.proofs.Demands.{answered}
use Rattle.std.specs.Prelude.{Result, Ok, Err, Option}
use Rattle.job.specs.declared.Refusal.{Refusal}

-- ==== files that are the same to the reader

-- two files that no call tells apart: whatever buffer is lent, the same answer and the same final contents; they stand
-- for one job
pub record Alike (s t : List ℕ) : Type 0 where
  pub job : pdb_job s ≡ pdb_job t
  pub calls : (out out' out₂ : List ℕ) (r r₂ : Result ℕ Refusal)
      → Reads s out r out' → Reads t out r₂ out₂ → (r ≡ r₂) × (out' ≡ out₂)

-- the atoms and segments, and the first fault, are all that the reader makes of a file
pub same_structure : (s t : List ℕ) → structure_of s ≡ structure_of t → fault_in s ≡ fault_in t → Alike s t
unfolding read_answer buffer_after
same_structure s t e f =
    record {
      job = ap structure_job e;
      calls = λ out out' out₂ r r₂ h k.
          (sym (answered h) ∙ answer (length out) ∙ answered k, h.buffer ∙ buffer out ∙ sym k.buffer);
    }
  where
    answer : (room : ℕ) → read_answer s room ≡ read_answer t room
    answer room = ap (λ (g : Option Fault). by_fault g (read_checks (structure_of s) room)) f ∙ ap (λ (x : Structure). by_fault (fault_in t) (read_checks x room)) e

    each : (out : List ℕ) (r : Result ℕ Refusal) → read_by r s out ≡ read_by r t out
    each out (Ok n) = ap (λ (x : Structure). put out 0 (structure_job x)) e
    each out (Err r) = refl

    buffer : (out : List ℕ) → buffer_after s out ≡ buffer_after t out
    buffer out = ap (λ (x : Result ℕ Refusal). read_by x s out) (answer (length out)) ∙ each out (read_answer t (length out))

-- files with the same records are the same to the reader
pub same_records : (s t : List ℕ) → records s ≡ records t → Alike s t
same_records s t e =
    same_structure s t (ap (λ (rs : List Record). record { atoms = atoms rs; segments = segments rs }) e) (ap (λ (rs : List Record). faults (atoms rs) 1 rs) e)

-- a file with LF line ends, and the same file with CR LF
pub line_ends : (s : List ℕ) → has_cr s ≡ false → Alike (crlf s) s
line_ends s h = same_records (crlf s) s (ap (reading false) (crlf_lines s h))

-- what is made of records, line by line, is made without an empty line after the last
passed_over : {A : Type 0} (f : ℕ → List Record → A) → ((n : ℕ) → f n (Skipped ∷ []) ≡ f n [])
    → ((n : ℕ) (r : Record) (rs rs' : List Record) → f (n + 1) rs ≡ f (n + 1) rs' → f n (r ∷ rs) ≡ f n (r ∷ rs'))
    → (n : ℕ) (seen : Bool) (ls : List (List ℕ)) → f n (reading seen (ls ++ ([] ∷ []))) ≡ f n (reading seen ls)
unfolding reading line_kind of_kind named same_list
passed_over f last on n seen [] = last n
passed_over f last on n seen (l ∷ ls) = go (stops seen (line_kind l)) (on n (of_kind (line_kind l) l) _ _ (passed_over f last on (n + 1) (saw seen (line_kind l)) ls))
  where
    go : {rs rs' : List Record} (b : Bool) → f n rs ≡ f n rs' → f n (cond b [] rs) ≡ f n (cond b [] rs')
    go true e = refl
    go false e = e

-- an empty line after the last is passed over
pub empty_line : (s t : List ℕ) → lines t ≡ lines s ++ ([] ∷ []) → Alike t s
unfolding atoms segments faults
empty_line s t j =
    let a : atoms_of t ≡ atoms_of s = rw j (passed_over (λ (n : ℕ). atoms) (λ n. refl) (λ n r rs rs' e. ap (λ (l : List AtomLine). atoms_in r ++ l) e) 0 false (lines s)) in
    let g : segments_of t ≡ segments_of s = rw j (passed_over (λ (n : ℕ). segments) (λ n. refl) (λ n r rs rs' e. ap (λ (l : List SegmentLine). segments_in r ++ l) e) 0 false (lines s)) in
    let f : fault_in t ≡ fault_in s = rw (a, j) (passed_over (faults (atoms_of s)) (λ n. refl) (λ n r rs rs' e. ap (option_or (fault_of (atoms_of s) n r)) e) 1 false (lines s)) in
    same_structure t s (λ i. record { atoms = a i; segments = g i }) f

-- an LF added at the end of a file whose last byte is no CR
pub last_lf : (s : List ℕ) → (final 10 s ≡ 13 → ⊥) → Alike (s ++ (10 ∷ [])) s
unfolding lines
last_lf s h = go (eqb (final 10 s) 10) refl
  where
    go : (b : Bool) → eqb (final 10 s) 10 ≡ b → Alike (s ++ (10 ∷ [])) s
    go true e = empty_line s (s ++ (10 ∷ [])) (lines_join s (10 ∷ []) (eqb-true (final 10 s) 10 e))
    go false e = same_records (s ++ (10 ∷ [])) s (ap (reading false) (lf_lines s (eqb-false (final 10 s) 10 e) h))

-- ==== what is not read

-- whether a MODEL line was read, after these lines
unfoldable pub saw_in : Bool → List (List ℕ) → Bool
saw_in seen [] = seen
saw_in seen (l ∷ ls) = saw_in (saw seen (line_kind l)) ls

stopped : (seen : Bool) (ls : List (List ℕ)) (e : List ℕ) (ms : List (List ℕ)) → stops (saw_in seen ls) (line_kind e) ≡ true → reading seen (ls ++ (e ∷ ms)) ≡ reading seen ls
unfolding reading saw_in
stopped seen [] e ms h = rw h
stopped seen (l ∷ ls) e ms h =
    ap (λ (rs : List Record). cond (stops seen (line_kind l)) [] (of_kind (line_kind l) l ∷ rs)) (stopped (saw seen (line_kind l)) ls e ms h)

-- what follows a line that ends the reading does not matter
pub past_stop : (s t : List ℕ) (ls : List (List ℕ)) (e : List ℕ) (ms ns : List (List ℕ))
    → stops (saw_in false ls) (line_kind e) ≡ true → lines s ≡ ls ++ (e ∷ ms) → lines t ≡ ls ++ (e ∷ ns) → Alike s t
past_stop s t ls e ms ns h p q =
    same_records s t (ap (reading false) p ∙ stopped false ls e ms h ∙ sym (ap (reading false) q ∙ stopped false ls e ns h))

-- what follows a line ENDMDL does not matter
pub past_endmdl : (s t : List ℕ) (ls : List (List ℕ)) (e : List ℕ) (ms ns : List (List ℕ))
    → line_kind e ≡ Endmdl → lines s ≡ ls ++ (e ∷ ms) → lines t ≡ ls ++ (e ∷ ns) → Alike s t
past_endmdl s t ls e ms ns k = past_stop s t ls e ms ns (ap (stops (saw_in false ls)) k)

saw_stays : (ls : List (List ℕ)) → saw_in true ls ≡ true
unfolding saw_in
saw_stays [] = refl
saw_stays (l ∷ ls) = rw (once (line_kind l)) (saw_stays ls)
  where
    once : (k : Kind) → saw true k ≡ true
    once Atom = refl
    once Helix = refl
    once Sheet = refl
    once Model = refl
    once Endmdl = refl
    once Other = refl

saw_model : (seen : Bool) (ls : List (List ℕ)) (m : List ℕ) (ks : List (List ℕ)) → line_kind m ≡ Model → saw_in seen (ls ++ (m ∷ ks)) ≡ true
unfolding saw_in
saw_model seen [] m ks k = ap (λ (x : Kind). saw_in (saw seen x) ks) k ∙ saw_stays ks
saw_model seen (l ∷ ls) m ks k = saw_model (saw seen (line_kind l)) ls m ks k

-- what follows a second line MODEL does not matter
pub past_model : (s t : List ℕ) (ls : List (List ℕ)) (m : List ℕ) (ks : List (List ℕ)) (e : List ℕ) (ms ns : List (List ℕ))
    → line_kind m ≡ Model → line_kind e ≡ Model
    → lines s ≡ (ls ++ (m ∷ ks)) ++ (e ∷ ms) → lines t ≡ (ls ++ (m ∷ ks)) ++ (e ∷ ns) → Alike s t
past_model s t ls m ks e ms ns j k = past_stop s t (ls ++ (m ∷ ks)) e ms ns (ap (stops (saw_in false (ls ++ (m ∷ ks)))) k ∙ saw_model false ls m ks j)

-- ==== a worked example

-- the file of one line, `ATOM      1 .... GLY A   1       1.500  -0.100  -0.000`, with an atom's name for the points
abbrev pub one_atom : List ℕ → List ℕ
one_atom name =
    ATOM
    ++ (32 ∷ 32 ∷ 32 ∷ 32 ∷ 49 ∷ 32 ∷ [])
    ++ name
    ++ (32 ∷ 71 ∷ 76 ∷ 89 ∷ 32 ∷ 65 ∷ 32 ∷ 32 ∷ 32 ∷ 49 ∷ 32 ∷ 32 ∷ 32 ∷ 32 ∷ [])
    ++ (32 ∷ 32 ∷ 32 ∷ 49 ∷ 46 ∷ 53 ∷ 48 ∷ 48 ∷ [])
    ++ (32 ∷ 32 ∷ 45 ∷ 48 ∷ 46 ∷ 49 ∷ 48 ∷ 48 ∷ [])
    ++ (32 ∷ 32 ∷ 45 ∷ 48 ∷ 46 ∷ 48 ∷ 48 ∷ 48 ∷ [])

-- its job of 47 bytes, with the atom's role: the head, the chain's visibility, the atom; -0.000 is +0
abbrev pub one_job : ℕ → List ℕ
one_job role =
    (0 ∷ 0 ∷ 0 ∷ 43 ∷ 1 ∷ 0 ∷ 1 ∷ 0 ∷ 1 ∷ 0 ∷ 0 ∷ 0 ∷ 1 ∷ [])
    ++ (1 ∷ [])
    ++ (0 ∷ 0 ∷ 0 ∷ 1 ∷ role ∷ 0 ∷ 0 ∷ 0 ∷ 0 ∷ [])
    ++ (63 ∷ 248 ∷ 0 ∷ 0 ∷ 0 ∷ 0 ∷ 0 ∷ 0 ∷ [])
    ++ (191 ∷ 185 ∷ 153 ∷ 153 ∷ 153 ∷ 153 ∷ 153 ∷ 154 ∷ [])
    ++ (0 ∷ 0 ∷ 0 ∷ 0 ∷ 0 ∷ 0 ∷ 0 ∷ 0 ∷ [])

-- " CA " gives a C-alpha and "CA  " an atom of role 0, in a job of 47 bytes: 47 places suffice and 46 do not
pub one_atom_lem : (pdb_job (one_atom CA) ≡ one_job 1) × (pdb_job (one_atom (67 ∷ 65 ∷ 32 ∷ 32 ∷ [])) ≡ one_job 0)
    × (read_answer (one_atom CA) 47 ≡ Ok 47) × (read_answer (one_atom CA) 46 ≡ Err (NoJobRoom 47))
unfolding read_answer read_checks past_limits structure_job job_bytes head_bytes atom_bytes point u64 u32 u16 flat lines reading line_kind of_kind atom_of role_of named same_list whole thousandths run decimal bits coordinate round to_bits atoms segments distinct member place faults
one_atom_lem = (refl, refl, refl, refl)
