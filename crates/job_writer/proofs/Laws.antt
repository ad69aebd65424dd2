-- Writing records one after another, and the whole job. Assumes nothing.
use Prim.Native.Nat.{ℕ, ◌+◌, ◌*◌}
use mathlib.Core.Path.{◌≡◌, refl, sym, ap, ◌∙◌}
use mathlib.Core.List.{List, [], ◌∷◌, ◌++◌, append_assoc}
use native.Mathlib.Nat.{mul-suc, add_comm}
use native.Mathlib.Omega.{arith}
use lib.ListN.{length, replicate, length-append, length-replicate}
use Rattle.lists.specs.Put.{put}
use Rattle.numbers.specs.Bytes.{u16, u32, u64}
use Rattle.numbers.proofs.Laws.{seq}
use Rattle.job_writer.specs.Job.{flat, segment_bytes, point, atom_bytes, head_bytes, job_bytes}
use Rattle.job_writer.specs.declared.JobAtom.{JobAtom}
use Rattle.job_writer.specs.declared.JobSegment.{JobSegment}

-- ---- how long the records are
pub wide_segment : (g : JobSegment) → length (segment_bytes g) ≡ 9
unfolding segment_bytes u32 u16
wide_segment g = refl

pub wide_atom : (a : JobAtom) → length (atom_bytes a) ≡ 33
unfolding atom_bytes point u64 u32 u16
wide_atom a = refl

pub length_head : (v w c r s a : ℕ) → length (head_bytes v w c r s a) ≡ 13
unfolding head_bytes u32 u16
length_head v w c r s a = refl

pub length_flat : {A : Type 0} (f : A → List ℕ) (w : ℕ) → ((x : A) → length (f x) ≡ w) → (l : List A) → length (flat f l) ≡ w * length l
unfolding flat
length_flat f w h [] = omega arith
length_flat f w h (x ∷ l) =
    length-append (f x) (flat f l) ∙ ap (λ (n : ℕ). n + length (flat f l)) (h x) ∙ ap (λ (n : ℕ). w + n) (length_flat f w h l)
    ∙ sym (mul-suc w (length l) ∙ add_comm (w * length l) w)

pub flat_append : {A : Type 0} (f : A → List ℕ) (l m : List A) → flat f (l ++ m) ≡ flat f l ++ flat f m
unfolding flat
flat_append f [] m = refl
flat_append f (x ∷ l) m = ap (λ (t : List ℕ). f x ++ t) (flat_append f l m) ∙ sym (append_assoc (f x) (flat f l) (flat f m))

-- ---- the four parts of a job, written one after another
pub job_made : {A : Type 0} (v w : ℕ) (bytes : A → List ℕ) (c r g a : ℕ) (gs : List JobSegment) (ats : List A) → g ≡ length gs → a ≡ length ats
    → (out b₁ b₂ b₃ b₄ : List ℕ) → b₁ ≡ put out 0 (head_bytes v w c r g a) → b₂ ≡ put b₁ 13 (replicate c 1)
    → b₃ ≡ put b₂ (13 + c) (flat segment_bytes gs) → b₄ ≡ put b₃ (13 + c + 9 * g) (flat bytes ats)
    → b₄ ≡ put out 0 (job_bytes v w bytes c r gs ats)
unfolding job_bytes
job_made v w bytes c r g a gs ats eg ea out b₁ b₂ b₃ b₄ e₁ e₂ e₃ e₄ =
    seq out b₁ 0 13 13 (head_bytes v w c r g a) _ (length_head v w c r g a) refl e₁
    (seq b₁ b₂ 13 (13 + c) c (replicate c 1) _ (length-replicate c 1) refl e₂
    (seq b₂ b₃ (13 + c) (13 + c + 9 * g) (9 * g) (flat segment_bytes gs) _ (length_flat segment_bytes 9 wide_segment gs ∙ ap (λ (n : ℕ). 9 * n) (sym eg)) refl e₃ e₄))
    ∙ ap (λ (n : ℕ). put out 0 (head_bytes v w c r n a ++ (replicate c 1 ++ (flat segment_bytes gs ++ flat bytes ats)))) eg
    ∙ ap (λ (n : ℕ). put out 0 (head_bytes v w c r (length gs) n ++ (replicate c 1 ++ (flat segment_bytes gs ++ flat bytes ats)))) ea
