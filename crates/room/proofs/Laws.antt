-- Laws of check 9 and of the clearing. Assumes nothing.
use Prim.Native.Nat.{ℕ, ◌+◌, ◌-◌, ◌*◌, ◌<◌, ◌≤◌}
use mathlib.Core.Bool.{Bool, true, false}
use mathlib.Core.List.{List, ◌++◌}
use mathlib.Core.Path.{◌≡◌, sym, ◌∙◌, ap}
use native.Mathlib.Omega.{arith}
use lib.ListN.{drop, replicate}
use lib.Seq.{drop-drop}
use lib.Dec.{ltb}
use borrow.Author.Tests.{lt-ltb, le-ltb, ltb-false}
use Rattle.protein.specs.declared.Head.{Head}
use Rattle.scratch.specs.Scratch.{Kept}
use Rattle.lists.proofs.Any.{drop_same}
use Rattle.lists.proofs.Bools.{or_left, or_rest}
use Rattle.buffers.specs.Outs.{Outs}
use Rattle.room.specs.Room.{Scratch, Buffers, short_scratch, zeroed}

-- the scratch after a walk that changed only the places that are cleared
pub zeroed_words : (n : ℕ) (t₀ t : List ℕ) → Kept 0 n t₀ t → zeroed 0 n t ≡ zeroed 0 n t₀
zeroed_words n t₀ t K = ap (λ (l : List ℕ). replicate n 0 ++ l) (drop_same n t₀ t K.size K.after)

pub zeroed_past : {A : Type 0} (z : A) (m n : ℕ) (f₀ f : List A) → m ≤ n → drop m f ≡ drop m f₀ → zeroed z n f ≡ zeroed z n f₀
zeroed_past z m n f₀ f h e =
    let q : m + (n - m) ≡ n = omega arith in
    ap (λ (l : List _). replicate n z ++ l)
    (ap (λ (k : ℕ). drop k f) (sym q) ∙ sym (drop-drop (n - m) m f) ∙ ap (drop (n - m)) e ∙ drop-drop (n - m) m f₀ ∙ ap (λ (k : ℕ). drop k f₀) q)

pub few_words : (h : Head) (w f : ℕ) → w < 8 * h.residues → true ≡ short_scratch h w f
unfolding short_scratch
few_words h w f l = rw (lt-ltb w (8 * h.residues) l)

pub by_floats : (h : Head) (w f : ℕ) (x : Bool) → 8 * h.residues ≤ w → x ≡ ltb f (32 * h.residues) → x ≡ short_scratch h w f
unfolding short_scratch
by_floats h w f x l e = rw (le-ltb w (8 * h.residues) l) e

pub long_words : (h : Head) (w f : ℕ) → short_scratch h w f ≡ false → 8 * h.residues ≤ w
unfolding short_scratch
long_words h w f e = ltb-false w (8 * h.residues) (or_left (ltb w (8 * h.residues)) _ e)

pub long_floats : (h : Head) (w f : ℕ) → short_scratch h w f ≡ false → 32 * h.residues ≤ f
unfolding short_scratch
long_floats h w f e = ltb-false f (32 * h.residues) (or_rest (ltb w (8 * h.residues)) _ e)

-- buffers that hold the same are one
pub buffers_same : (b d : Buffers) → b.outs ≡ d.outs → b.scratch ≡ d.scratch → b ≡ d
buffers_same b d e f = ap (λ (o : Outs). record { outs = o; scratch = b.scratch }) e ∙ ap (λ (c : Scratch). record { outs = d.outs; scratch = c }) f
