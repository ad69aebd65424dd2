-- Files that have the same lines. Assumes nothing.
use Prim.Native.Nat.{ℕ}
use mathlib.Core.Bool.{Bool, true, false, ◌&&◌, ◌||◌, cond}
use mathlib.Core.Path.{◌≡◌, refl, sym, ap, ◌∙◌}
use mathlib.Core.List.{List, [], ◌∷◌, ◌++◌}
use native.Mathlib.Omega.{arith}
use lib.Dec.{eqb}
use borrow.Author.Tests.{eq-eqb, ne_eqb}
use Rattle.pdb_lines.specs.Lines.{lines, at_lf, onto}
use Rattle.pdb_lines.proofs.Laws.{lines_lf}

-- ==== CR LF for LF

-- a file with a CR put before each LF
unfoldable pub crlf : List ℕ → List ℕ
crlf [] = []
crlf (b ∷ s) = cond (eqb b 10) (13 ∷ 10 ∷ crlf s) (b ∷ crlf s)

-- whether a file has a CR
unfoldable pub has_cr : List ℕ → Bool
has_cr [] = false
has_cr (b ∷ s) = eqb b 13 || has_cr s

-- a file with no CR has the same lines with CR LF for each LF
pub crlf_lines : (s : List ℕ) → has_cr s ≡ false → lines (crlf s) ≡ lines s
unfolding lines crlf has_cr
crlf_lines [] h = refl
crlf_lines (b ∷ s) h = go (eqb b 10) (eqb b 13) refl refl h (crlf_lines s)
  where
    go : (x y : Bool) → eqb b 10 ≡ x → eqb b 13 ≡ y → (y || has_cr s) ≡ false → (has_cr s ≡ false → lines (crlf s) ≡ lines s)
        → lines (cond x (13 ∷ 10 ∷ crlf s) (b ∷ crlf s)) ≡ cond x ([] ∷ lines s) (cond (y && at_lf s) (lines s) (onto b (lines s)))
    go x true p q h f = absurd (let z : ◌≡◌ {A = Bool} true false = h in let y : ◌≡◌ {A = ℕ} 0 1 = cc in omega arith)
    go true false p q h f = ap (λ (ls : List (List ℕ)). [] ∷ ls) (f h)
    go false false p q h f = rw (p, q) (ap (onto b) (f h))

-- ==== an LF at the end

-- the last byte of a file after the byte b
unfoldable pub final : ℕ → List ℕ → ℕ
final b [] = b
final b (c ∷ s) = final c s

no_cons : {l : List ℕ} {ls : List (List ℕ)} → l ∷ ls ≡ [] → ⊥
no_cons e = let z : ◌≡◌ {A = ℕ} 0 1 = cc in omega arith

onto_some : (b : ℕ) (ls : List (List ℕ)) → onto b ls ≡ [] → ⊥
onto_some b [] e = no_cons e
onto_some b (l ∷ ls) e = no_cons e

some_line : (b : ℕ) (s : List ℕ) → lines (b ∷ s) ≡ [] → ⊥
unfolding lines
some_line b s e = go (eqb b 10) (eqb b 13) (at_lf s) refl e
  where
    go : (x y z : Bool) → at_lf s ≡ z → cond x ([] ∷ lines s) (cond (y && z) (lines s) (onto b (lines s))) ≡ [] → ⊥
    go true y z lf e = no_cons e
    go false true true lf e = no_cons (sym (lines_lf s lf) ∙ e)
    go false true false lf e = onto_some b (lines s) e
    go false false z lf e = onto_some b (lines s) e

onto_join : (b : ℕ) (ls ms : List (List ℕ)) → (ls ≡ [] → ⊥) → onto b (ls ++ ms) ≡ onto b ls ++ ms
onto_join b [] ms h = absurd (h refl)
onto_join b (l ∷ ls) ms h = refl

-- after a file that is empty or ends at an LF, the lines of what follows
pub lines_join : (s t : List ℕ) → final 10 s ≡ 10 → lines (s ++ t) ≡ lines s ++ lines t
unfolding lines final
lines_join [] t h = refl
lines_join (b ∷ []) t h = rw (eq-eqb b 10 h)
lines_join (b ∷ c ∷ s) t h = go (eqb b 10) (eqb b 13 && eqb c 10) (lines_join (c ∷ s) t h)
  where
    go : (x y : Bool) → lines (c ∷ s ++ t) ≡ lines (c ∷ s) ++ lines t
        → cond x ([] ∷ lines (c ∷ s ++ t)) (cond y (lines (c ∷ s ++ t)) (onto b (lines (c ∷ s ++ t))))
        ≡ cond x ([] ∷ lines (c ∷ s)) (cond y (lines (c ∷ s)) (onto b (lines (c ∷ s)))) ++ lines t
    go true y e = ap (λ (ls : List (List ℕ)). [] ∷ ls) e
    go false true e = e
    go false false e = ap (onto b) e ∙ onto_join b (lines (c ∷ s)) (lines t) (some_line c s)

-- an LF after a file whose last byte is neither LF nor CR ends the line that ended with the file
pub lf_lines : (s : List ℕ) → (final 10 s ≡ 10 → ⊥) → (final 10 s ≡ 13 → ⊥) → lines (s ++ (10 ∷ [])) ≡ lines s
unfolding lines final
lf_lines [] h i = absurd (h refl)
lf_lines (b ∷ []) h i = rw (ne_eqb b 10 h, ne_eqb b 13 i)
lf_lines (b ∷ c ∷ s) h i = ap (λ (ls : List (List ℕ)). cond (eqb b 10) ([] ∷ ls) (cond (eqb b 13 && eqb c 10) ls (onto b ls))) (lf_lines (c ∷ s) h i)
