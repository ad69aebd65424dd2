use Rattle.std.proofs.Common.{◌≡◌, ◌+◌, ◌-◌, ◌++◌, List, length, take, drop, arith, refl, sym, ap, ◌∙◌}
use mathlib.Core.List.{append_assoc}
use Prim.Native.Nat.{ℕ}
use lib.Seq.{drop-drop}
use Rattle.lists.proofs.Puts.{put_eq}
use Rattle.ribbon_text.proofs.put_text.Goals as goal

pub returns : goal.returns
returns c =
    let at = c.args.at in
    let s = c.args.s.now in
    let l = c.args.out.now in
    let n : at + length s - at ≡ length s = omega arith in
    let rest = ap (λ (k : ℕ). drop k (drop at l)) n ∙ drop-drop (length s) at l in
    let whole = ap (λ (r : List ℕ). take at l ++ (s ++ r)) rest ∙ sym (append_assoc (take at l) s (drop (at + length s) l)) ∙ sym (put_eq l at s c.requires) in
    (ap (λ (y : List ℕ). take at l ++ (y ++ drop (at + length s - at) (drop at l))) c.copy_from_slice.ensures.after ∙ whole, refl)
