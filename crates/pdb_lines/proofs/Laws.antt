-- Laws of lines. Assumes nothing.
use Prim.Native.Nat.{ℕ, suc, ◌+◌, ◌-◌, ◌<◌, ◌≤◌}
use mathlib.Core.Bool.{Bool, true, false, ◌&&◌, cond}
use mathlib.Core.Path.{◌≡◌, refl, sym, ap, ◌∙◌}
use mathlib.Core.List.{List, [], ◌∷◌, ◌++◌}
use native.Mathlib.Numerals.{add-one}
use native.Mathlib.Omega.{arith}
use lib.Dec.{eqb}
use lib.ListN.{length, take, drop, get_or, length-drop, length-take, drop_of_length-le}
use Rattle.lists.specs.Same.{same_list}
use Rattle.lists.proofs.Bools.{eqb_sym}
use Rattle.std.specs.Bool.{nat_eq}
use Rattle.std.specs.Cmp.Lexicographic.{pointwise}
use Rattle.pdb_lines.specs.Columns.{named}
use lib.Seq.{drop-cons, take-suc, get_or-drop, drop-drop}
use borrow.Author.Tests.{eq-eqb, ne_eqb}
use Rattle.pdb_lines.specs.Lines.{lines, at_lf, onto}
use Rattle.pdb_lines.specs.Post.{ending}

-- bytes in front of the first line
unfoldable pub ontos : List ℕ → List (List ℕ) → List (List ℕ)
ontos [] ls = ls
ontos (b ∷ bs) ls = onto b (ontos bs ls)

ontos_more : (bs : List ℕ) (b : ℕ) (ls : List (List ℕ)) → ontos bs (onto b ls) ≡ ontos (bs ++ (b ∷ [])) ls
unfolding ontos
ontos_more [] b ls = refl
ontos_more (x ∷ bs) b ls = ap (onto x) (ontos_more bs b ls)

ontos_end : (bs : List ℕ) (ls : List (List ℕ)) → ontos bs ([] ∷ ls) ≡ bs ∷ ls
unfolding ontos
ontos_end [] ls = refl
ontos_end (x ∷ bs) ls = ap (onto x) (ontos_end bs ls)

ontos_last : (b : ℕ) (bs : List ℕ) → ontos (b ∷ bs) [] ≡ (b ∷ bs) ∷ []
unfolding ontos
ontos_last b [] = refl
ontos_last b (x ∷ bs) = ap (onto b) (ontos_last x bs)

pub lines_lf : (s : List ℕ) → at_lf s ≡ true → lines s ≡ [] ∷ lines (drop 1 s)
unfolding lines
lines_lf [] q = let z : ◌≡◌ {A = Bool} false true = q in absurd (let y : ◌≡◌ {A = ℕ} 0 1 = cc in omega arith)
lines_lf (b ∷ s) q = simp q

-- where a line ends, and where none does
lines_end : (s : List ℕ) (e : ℕ) → ending s ≡ e → 0 < e → lines s ≡ [] ∷ lines (drop e s)
unfolding lines
lines_end [] e q h = absurd (omega arith)
lines_end (b ∷ s) e q h = go (eqb b 10) (eqb b 13) (at_lf s) refl q
  where
    go : (x y z : Bool) → at_lf s ≡ z → cond x 1 (cond (y && z) 2 0) ≡ e
        → cond x ([] ∷ lines s) (cond (y && z) (lines s) (onto b (lines s))) ≡ [] ∷ lines (drop e (b ∷ s))
    go true y z lf q = rw (← q)
    go false true true lf q = rw (← q) (lines_lf s lf)
    go false true false lf q = absurd (omega arith)
    go false false z lf q = absurd (omega arith)

lines_on : (b : ℕ) (s : List ℕ) → ending (b ∷ s) ≡ 0 → lines (b ∷ s) ≡ onto b (lines s)
unfolding lines
lines_on b s q = go (eqb b 10) (eqb b 13 && at_lf s) q
  where
    go : (x y : Bool) → ◌≡◌ {A = ℕ} (cond x 1 (cond y 2 0)) 0 → cond x ([] ∷ lines s) (cond y (lines s) (onto b (lines s))) ≡ onto b (lines s)
    go true y q = absurd (omega arith)
    go false true q = absurd (omega arith)
    go false false q = refl

module _ (s : List ℕ) (at i : ℕ) (h : at ≤ i) where
  here : i < length s → take (i + 1 - at) (drop at s) ≡ take (i - at) (drop at s) ++ (get_or s i 0 ∷ [])
  here l =
      let j : i + 1 - at ≡ suc (i - at) = omega arith in
      let k : at + (i - at) ≡ i = omega arith in
      let m : i - at < length (drop at s) = simp length-drop (omega arith) in
      rw (j, take-suc (drop at s) (i - at) 0, get_or-drop, k)

  -- one byte more of the line
  pub turn : i < length s → ending (drop i s) ≡ 0 → lines (drop at s) ≡ ontos (take (i - at) (drop at s)) (lines (drop i s))
      → lines (drop at s) ≡ ontos (take (i + 1 - at) (drop at s)) (lines (drop (i + 1) s))
  turn l e q =
      let d : drop i s ≡ get_or s i 0 ∷ drop (i + 1) s = rw (add-one) (drop-cons s i 0 l) in
      q ∙ ap (ontos (take (i - at) (drop at s))) (ap lines d ∙ lines_on (get_or s i 0) (drop (i + 1) s) (ap ending (sym d) ∙ e))
      ∙ ontos_more (take (i - at) (drop at s)) (get_or s i 0) (lines (drop (i + 1) s))
      ∙ ap (λ (t : List ℕ). ontos t (lines (drop (i + 1) s))) (sym (here l))

  -- the line ends here
  pub found : (e : ℕ) → ending (drop i s) ≡ e → 0 < e → lines (drop at s) ≡ ontos (take (i - at) (drop at s)) (lines (drop i s))
      → lines (drop at s) ≡ take (i - at) (drop at s) ∷ lines (drop (i + e) s)
  found e p h q =
      q ∙ ap (ontos (take (i - at) (drop at s))) (lines_end (drop i s) e p h ∙ ap (λ (t : List ℕ). [] ∷ lines t) (drop-drop e i s))
      ∙ ontos_end (take (i - at) (drop at s)) (lines (drop (i + e) s))

ontos_whole : (bs : List ℕ) → 0 < length bs → ontos bs [] ≡ bs ∷ []
ontos_whole [] h = absurd (omega arith)
ontos_whole (b ∷ bs) h = ontos_last b bs

-- the file ends, and the line with it
pub over : (s : List ℕ) (at i : ℕ) → at < length s → length s ≤ i → lines (drop at s) ≡ ontos (take (i - at) (drop at s)) (lines (drop i s))
    → lines (drop at s) ≡ take (i - at) (drop at s) ∷ lines (drop i s)
unfolding lines
over s at i h l q =
    let d : drop i s ≡ [] = drop_of_length-le s l in
    rw d (q ∙ ap (λ (t : List ℕ). ontos (take (i - at) (drop at s)) (lines t)) d ∙ ontos_whole (take (i - at) (drop at s)) (simp (length-take, length-drop) (omega arith)))

-- what stands at a place decides what ends there
pub ending_is : (s : List ℕ) (i : ℕ) → i < length s
    → ending (drop i s) ≡ cond (eqb (get_or s i 0) 10) 1 (cond (eqb (get_or s i 0) 13 && at_lf (drop (i + 1) s)) 2 0)
ending_is s i h =
    let d : drop i s ≡ get_or s i 0 ∷ drop (i + 1) s = rw (add-one) (drop-cons s i 0 h) in
    ap ending d

pub at_lf_is : (s : List ℕ) (i : ℕ) → i < length s → at_lf (drop i s) ≡ eqb (get_or s i 0) 10
at_lf_is s i h = ap at_lf (drop-cons s i 0 h)

pub at_lf_end : (s : List ℕ) (i : ℕ) → length s ≤ i → at_lf (drop i s) ≡ false
at_lf_end s i h = ap at_lf (drop_of_length-le s h)

module _ (s : List ℕ) (i : ℕ) (h : i < length s) where
  pub ending_lf : get_or s i 0 ≡ 10 → 1 ≡ ending (drop i s)
  ending_lf p = rw (ending_is s i h, eq-eqb _ _ p)

  pub ending_not : (get_or s i 0 ≡ 10 → ⊥) → (get_or s i 0 ≡ 13 → ⊥) → 0 ≡ ending (drop i s)
  ending_not p q = rw (ending_is s i h, ne_eqb _ _ p, ne_eqb _ _ q)

  pub ending_cr : (get_or s i 0 ≡ 10 → ⊥) → get_or s i 0 ≡ 13 → length s - i < 2 → 0 ≡ ending (drop i s)
  ending_cr p q r = let e : length s ≤ i + 1 = omega arith in rw (ending_is s i h, ne_eqb _ _ p, eq-eqb _ _ q, at_lf_end s (i + 1) e)

  pub ending_crlf : (get_or s i 0 ≡ 10 → ⊥) → get_or s i 0 ≡ 13 → 2 ≤ length s - i → get_or s (i + 1) 0 ≡ 10 → 2 ≡ ending (drop i s)
  ending_crlf p q r z = let e : i + 1 < length s = omega arith in rw (ending_is s i h, ne_eqb _ _ p, eq-eqb _ _ q, at_lf_is s (i + 1) e, eq-eqb _ _ z)

  pub ending_crno : (get_or s i 0 ≡ 10 → ⊥) → get_or s i 0 ≡ 13 → 2 ≤ length s - i → (get_or s (i + 1) 0 ≡ 10 → ⊥) → 0 ≡ ending (drop i s)
  ending_crno p q r z = let e : i + 1 < length s = omega arith in rw (ending_is s i h, ne_eqb _ _ p, eq-eqb _ _ q, at_lf_is s (i + 1) e, ne_eqb _ _ z)

pub start : (s : List ℕ) (at : ℕ) → lines (drop at s) ≡ ontos (take (at - at) (drop at s)) (lines (drop at s))
unfolding ontos
start s at = let e : at - at ≡ 0 = omega arith in rw e

-- the test of two lists, byte by byte, whichever stands first
pointwise_same : (xs ys : List ℕ) → pointwise nat_eq ys xs ≡ same_list xs ys
unfolding same_list
pointwise_same [] [] = refl
pointwise_same [] (y ∷ ys) = refl
pointwise_same (x ∷ xs) [] = refl
pointwise_same (x ∷ xs) (y ∷ ys) = rw (eqb_sym y x, pointwise_same xs ys)

pub starts_named : (l name : List ℕ) (from : ℕ) → pointwise nat_eq name (take (length name) (drop from l)) ≡ named name (from + 1) l
unfolding named
starts_named l name from =
    let e : from + 1 - 1 ≡ from = omega arith in
    rw e (pointwise_same (take (length name) (drop from l)) name)
