-- The calls for C: any two results that the promises allow are equal, in the words and in every buffer; a job that was read passes checks 1 to 8; and no
-- count is cut, where K, V and T of a mesh, of a plan and of refusal 11, a job's size, a file's size and its count of triangles are handed out in words of 32 bits. Assumes nothing.
use Rattle.std.specs.Prelude.{Err, Ok}
use Prim.Native.Nat.{ℕ, ◌<◌, ◌≤◌}
use mathlib.Core.List.{List, [], ◌∷◌}
use mathlib.Core.Path.{◌≡◌, sym, ap, ◌∙◌}
use native.Mathlib.Nat.{mod-eq_of_lt}
use native.Mathlib.Omega.{arith}
use lib.ListN.{length, get_or, take}
use Rattle.protein.specs.Layout.{head_of}
use Rattle.job.specs.Refusals.{number_of, size_numbers}
use Rattle.job.specs.declared.Refusal.{Refusal}
use Rattle.job.specs.declared.Refusal.TheVariants.{NoRoom, NoJobRoom, NoStlRoom}
use Rattle.pdb_reader.specs.Call.{Reads}
use Rattle.pdb_reader.proofs.Demands.{read_determined, buffer_passes, size_below, needed_below}
use Rattle.tubes.specs.Tubes.{Tube}
use Rattle.mesh.specs.Mesh.{vertex_sum, triangle_sum}
use Rattle.walk.specs.declared.Five.{Five}
use Rattle.buffers.specs.declared.Counts.{Counts}
use Rattle.buffers.specs.Outs.{Outs}
use Rattle.stl_writer.specs.Call.{WritesStl}
use Rattle.stl_writer.proofs.Demands.{write_determined, file_size_below, needed_below as stl-needed-below}
use Rattle.stl_reader.specs.Call.{Lists, ReadsStl}
use Rattle.stl_reader.proofs.Demands.{list_determined, count_below, asked_below}
use Rattle.room.specs.Room.{Scratch, Buffers}
use Rattle.room.proofs.Laws.{buffers_same}
use Rattle.std.specs.Prelude.{Ok, Err}
use Rattle.promises.specs.Calls.{built_numbers, Builds, Plans, with_words}
use Rattle.promises.specs.Meshes.{tubes_in}
use Rattle.promises.proofs.Tubes.{AllLong, list_long_of, long_sums}
use Rattle.promises.proofs.Checks.{passes_by}
use Rattle.promises.proofs.Demands.{build_determined, plan_determined, past_checks, plan_past_checks, accepted, plan_accepted, room_means}
use Rattle.ribbon_c.specs.Words.{word_of, words_of, BuildsWords, PlansWords, ReadsWords, WritesStlWords, ReadsStlWords, BuildsShareWords, PlansRecordsWords}
use Rattle.std.specs.Prelude.{Ok, Err}

-- ---- one answer, and one content of every buffer

pub build_words_determined : {s : List ℕ} {b b' b'' : Buffers} {a d : List ℕ}
    → BuildsWords s b a b' → BuildsWords s b d b'' → (a ≡ d) × (b' ≡ b'')
build_words_determined A D =
    (A.words ∙ ap words_of (A.promise.answer ∙ sym D.promise.answer) ∙ sym D.words, (build_determined A.promise D.promise).1)

pub plan_words_determined : {s : List ℕ} {k : ℕ} {c c' c'' : Scratch} {a d : List ℕ}
    → PlansWords s k c a c' → PlansWords s k c d c'' → (a ≡ d) × (c' ≡ c'')
plan_words_determined A D =
    (A.words ∙ ap words_of (A.promise.answer ∙ sym D.promise.answer) ∙ sym D.words, (plan_determined A.promise D.promise).1)

pub read_words_determined : {s out out' out₂ a d : List ℕ}
    → ReadsWords s out a out' → ReadsWords s out d out₂ → (a ≡ d) × (out' ≡ out₂)
read_words_determined A D =
    (A.words ∙ ap words_of (A.promise.answer ∙ sym D.promise.answer) ∙ sym D.words, (read_determined A.promise D.promise).1)

pub write_stl_words_determined : {o : Outs} {c : Counts} {out out' out₂ a d : List ℕ}
    → WritesStlWords o c out a out' → WritesStlWords o c out d out₂ → (a ≡ d) × (out' ≡ out₂)
write_stl_words_determined A D =
    (A.words ∙ ap words_of (A.promise.answer ∙ sym D.promise.answer) ∙ sym D.words, (write_determined A.promise D.promise).1)

pub read_stl_words_determined : {s : List ℕ} {l l' l₂ : Lists} {a d : List ℕ}
    → ReadsStlWords s l a l' → ReadsStlWords s l d l₂ → (a ≡ d) × (l' ≡ l₂)
read_stl_words_determined A D =
    (A.words ∙ ap words_of (A.promise.answer ∙ sym D.promise.answer) ∙ sym D.words, (list_determined A.promise D.promise).1)

pub share_words_determined : {s q n : List ℕ} {b b' b'' : Buffers} {a d : List ℕ}
    → BuildsShareWords s q n b a b' → BuildsShareWords s q n b d b'' → (a ≡ d) × (b' ≡ b'')
share_words_determined {b' = b'} {b'' = b''} A D =
    let outs = A.promise.outputs ∙ sym D.promise.outputs in
    let scratch = A.promise.scratch ∙ sym D.promise.scratch in
    (A.words ∙ ap words_of (A.promise.answer ∙ sym D.promise.answer) ∙ sym D.words, buffers_same b' b'' outs scratch)

pub records_words_determined : {s q : List ℕ} {k : ℕ} {c c' c'' : Scratch} {a d : List ℕ}
    → PlansRecordsWords s q k c a c' → PlansRecordsWords s q k c d c'' → (a ≡ d) × (c' ≡ c'')
records_words_determined A D = (
  A.words ∙ ap words_of (A.promise.answer ∙ sym D.promise.answer) ∙ sym D.words,
  A.promise.scratch ∙ sym D.promise.scratch,
)

-- ---- from the reader to the builder: a job that was read is refused by no check before 9

pub read_then_build : {s out out' : List ℕ} {n : ℕ} {b b' : Buffers} {q : Refusal}
    → Reads s out (Ok n) out' → Builds (take n out') b (Err q) b' → 9 ≤ number_of q
read_then_build R B = past_checks (passes_by _ _ (buffer_passes R)) B

pub read_then_plan : {s out out' : List ℕ} {n k : ℕ} {c c' : Scratch} {q : Refusal}
    → Reads s out (Ok n) out' → Plans (take n out') k c (Err q) c' → 9 ≤ number_of q
read_then_plan R P = plan_past_checks (passes_by _ _ (buffer_passes R)) P

-- ---- no count is cut

word_same : (n : ℕ) → n < 4294967296 → word_of n ≡ n
word_same n h = mod-eq_of_lt h

-- the counts of a list within the vertex limit are words
pub counts_fit : (us : List Tube) → AllLong us → vertex_sum us ≤ 1048576
    → words_of (length us ∷ vertex_sum us ∷ triangle_sum us ∷ []) ≡ length us ∷ vertex_sum us ∷ triangle_sum us ∷ []
counts_fit us long v =
    let s = long_sums us long in
    rw (word_same (length us) (omega arith), word_same (vertex_sum us) (omega arith), word_same (triangle_sum us) (omega arith))

-- so the words of a mesh's answer are its numbers
pub mesh_fits : {s : List ℕ} {b b' : Buffers} {c : Counts} → Builds s b (Ok c) b' → words_of (built_numbers (Ok c)) ≡ built_numbers (Ok c)
mesh_fits {s} B =
    let A = accepted B in
    rw A.2 (ap (λ (x : List ℕ). 0 ∷ x) (counts_fit (tubes_in s) (list_long_of s (head_of s)) A.0.limit))

-- and so are K, V and T of a plan
pub plan_fits : {s : List ℕ} {k : ℕ} {c c' : Scratch} {n : Counts} {f : Five} → Plans s k c (Ok (with_words n f)) c'
    → words_of (n.tubes ∷ n.vertices ∷ n.triangles ∷ []) ≡ n.tubes ∷ n.vertices ∷ n.triangles ∷ []
plan_fits {s} P =
    let A = plan_accepted P in
    rw A.1 (counts_fit (tubes_in s) (list_long_of s (head_of s)) A.0.limit)

-- and so are those of refusal 11
pub room_fits : {s : List ℕ} {b b' : Buffers} {k v t : ℕ} → Builds s b (Err (NoRoom k v t)) b'
    → words_of (built_numbers (Err (NoRoom k v t))) ≡ built_numbers (Err (NoRoom k v t))
room_fits {s} B =
    let M = room_means B in
    rw (M.1.0, M.1.1, M.1.2) (ap (λ (x : List ℕ). 11 ∷ x) (counts_fit (tubes_in s) (list_long_of s (head_of s)) M.0.limit))

-- a job's size, and the one that refusal 16 carries
pub size_fits : {s out out' : List ℕ} {n : ℕ} → Reads s out (Ok n) out' → words_of (size_numbers (Ok n)) ≡ size_numbers (Ok n)
size_fits {n = n} R = rw (word_same n (size_below R))

pub needed_fits : {s out out' : List ℕ} {n : ℕ} → Reads s out (Err (NoJobRoom n)) out'
    → words_of (size_numbers (Err (NoJobRoom n))) ≡ size_numbers (Err (NoJobRoom n))
needed_fits {n = n} R = rw (word_same n (needed_below R))

-- the size of an STL file, and the one that refusal 18 carries; the count of a file that was listed, and the one that 18 carries
pub stl_fits : {o : Outs} {c : Counts} {out out' : List ℕ} {n : ℕ} → WritesStl 8 8 o c out (Ok n) out' → words_of (size_numbers (Ok n)) ≡ size_numbers (Ok n)
stl_fits {n = n} W = rw (word_same n (file_size_below W))

pub stl_needed_fits : {o : Outs} {c : Counts} {out out' : List ℕ} {n : ℕ} → WritesStl 8 8 o c out (Err (NoStlRoom n)) out'
    → words_of (size_numbers (Err (NoStlRoom n))) ≡ size_numbers (Err (NoStlRoom n))
stl_needed_fits {n = n} W = rw (word_same n (stl-needed-below W))

pub listed_fits : {s : List ℕ} {l l' : Lists} {t : ℕ} → ((i : ℕ) → get_or s i 0 < 256) → ReadsStl s l (Ok t) l'
    → words_of (size_numbers (Ok t)) ≡ size_numbers (Ok t)
listed_fits {t = t} b R = rw (word_same t (count_below b R))

pub asked_fits : {s : List ℕ} {l l' : Lists} {t : ℕ} → ((i : ℕ) → get_or s i 0 < 256) → ReadsStl s l (Err (NoStlRoom t)) l'
    → words_of (size_numbers (Err (NoStlRoom t))) ≡ size_numbers (Err (NoStlRoom t))
asked_fits {t = t} b R = rw (word_same t (asked_below b R))
