-- Laws of the walk over the lines of a kind. Assumes nothing.
use Prim.Native.Nat.{ℕ, suc, ◌+◌, ◌-◌, ◌≤◌}
use mathlib.Core.Bool.{Bool, true, false, cond}
use mathlib.Core.Path.{◌≡◌, refl, sym, ap, ◌∙◌, subst}
use mathlib.Core.List.{List, [], ◌∷◌, map}
use native.Mathlib.Omega.{arith}
use native.Mathlib.Nat.{zero-add}
use lib.ListN.{length, take, drop, drop_of_length-le}
use Rattle.std.specs.Prelude.{Option, Some, None}
use Rattle.pdb_lines.specs.Lines.{lines}
use Rattle.pdb_lines.specs.Post.{Cut}
use Rattle.pdb_records.specs.Records.{line_kind, of_kind}
use Rattle.pdb_records.specs.declared.Record.{Record}
use Rattle.pdb_records.specs.declared.Kind.{Kind}
use Rattle.pdb_file.specs.Reading.{stops, saw, reading}
use Rattle.pdb_search.specs.Kinds.{passes, everywhere, taken, chosen, lines_from, lines_of}
use Rattle.pdb_search.specs.Post.{Onward, Found}
use Rattle.pdb_search.specs.declared.What.{What}
use Rattle.pdb_search.specs.declared.Spot.{Spot}

-- the lines that are searched are those that the reader reads: what they say, line by line, are its records
pub taken_read : (seen : Bool) (ls : List (List ℕ)) → reading seen ls ≡ map (λ (l : List ℕ). of_kind (line_kind l) l) (taken seen ls)
unfolding reading taken
taken_read seen [] = refl
taken_read seen (l ∷ ls) = go (stops seen (line_kind l)) (taken_read (saw seen (line_kind l)) ls)
  where
    go : (b : Bool) → reading (saw seen (line_kind l)) ls ≡ map (λ (k : List ℕ). of_kind (line_kind k) k) (taken (saw seen (line_kind l)) ls)
        → cond b [] (of_kind (line_kind l) l ∷ reading (saw seen (line_kind l)) ls) ≡ map (λ (k : List ℕ). of_kind (line_kind k) k) (cond b [] (l ∷ taken (saw seen (line_kind l)) ls))
    go true e = refl
    go false e = ap (λ (rs : List Record). of_kind (line_kind l) l ∷ rs) e

-- no line is left, a line ends the search, or the search goes on behind it; b: the whole file is searched
none_by : (t : List ℕ → Bool) (seen b : Bool) → chosen t (cond b [] (taken seen [])) ≡ []
unfolding chosen taken
none_by t seen true = refl
none_by t seen false = refl

module _ (t : List ℕ → Bool) (l : List ℕ) (ls : List (List ℕ)) (seen : Bool) (k : Kind) (e : k ≡ line_kind l) where
  stop_by : (b : Bool) → cond b false (stops seen k) ≡ true → chosen t (cond b (l ∷ ls) (taken seen (l ∷ ls))) ≡ []
  unfolding chosen taken
  stop_by true z = absurd (ne_by z)
    where
      ne_by : false ≡ true → ⊥
      ne_by z = subst (λ (b : Bool). cond b ⊥ Unit) z tt
  stop_by false z = simp (← e, z)

  on_by : (b : Bool) → cond b false (stops seen k) ≡ false → (v : Bool) → v ≡ saw seen k
      → chosen t (cond b (l ∷ ls) (taken seen (l ∷ ls))) ≡ cond (t l) (l ∷ chosen t (cond b ls (taken v ls))) (chosen t (cond b ls (taken v ls)))
  unfolding chosen taken
  on_by true z v ev = refl
  on_by false z v ev = simp (← e, z, ev)

pub from_over : (w : What) (s : List ℕ) (at : ℕ) (seen : Bool) → length s ≤ at → lines_from w s at seen ≡ []
unfolding lines
from_over w s at seen h = rw (drop_of_length-le s h) (none_by (passes w) seen (everywhere w))

module _ (w : What) (s : List ℕ) (at to next : ℕ) (seen : Bool) (h : Cut s at to next) (k : Kind) (e : k ≡ line_kind (take (to - at) (drop at s))) where
  line : List ℕ
  line = take (to - at) (drop at s)

  pub from_stop : cond (everywhere w) false (stops seen k) ≡ true → lines_from w s at seen ≡ []
  from_stop z =
      ap (λ (ls : List (List ℕ)). chosen (passes w) (cond (everywhere w) ls (taken seen ls))) h.cut
      ∙ stop_by (passes w) (take (to - at) (drop at s)) (lines (drop next s)) seen k e (everywhere w) z

  pub from_on : cond (everywhere w) false (stops seen k) ≡ false → (v : Bool) → v ≡ saw seen k
      → lines_from w s at seen ≡ cond (passes w (take (to - at) (drop at s))) (take (to - at) (drop at s) ∷ lines_from w s next v) (lines_from w s next v)
  from_on z v ev =
      ap (λ (ls : List (List ℕ)). chosen (passes w) (cond (everywhere w) ls (taken seen ls))) h.cut
      ∙ on_by (passes w) (take (to - at) (drop at s)) (lines (drop next s)) seen k e (everywhere w) z v ev

-- a turn of the search: nothing more, the line itself, or the next turn; `w s at₀ seen₀` is where the search began
module _ (w : What) (s : List ℕ) (at₀ : ℕ) (seen₀ : Bool) (at to next : ℕ) (seen : Bool) (b : at₀ ≤ at) (q : lines_from w s at₀ seen₀ ≡ lines_from w s at seen) where
  pub search_over : length s ≤ at → lines_from w s at₀ seen₀ ≡ []
  search_over h = q ∙ from_over w s at seen h

  module _ (h : Cut s at to next) (k : Kind) (e : k ≡ line_kind (take (to - at) (drop at s))) (o : Bool) (eo : o ≡ cond (everywhere w) false (stops seen k)) where
    pub search_stop : o ≡ true → lines_from w s at₀ seen₀ ≡ []
    search_stop z = q ∙ from_stop w s at to next seen h k e (sym eo ∙ z)

    module _ (z : o ≡ false) (v : Bool) (ev : v ≡ saw seen k) (p : Bool) (ep : p ≡ passes w (take (to - at) (drop at s))) where
      pub search_here : p ≡ true → Onward w s at₀ seen₀ (record { at = at; to = to; next = next; seen = v })
      search_here y = record {
        is = q ∙ from_on w s at to next seen h k e (sym eo ∙ z) v ev ∙ rw (sym ep ∙ y);
        start = h.start;
        end = h.end;
        more = omega (arith, b, h.onward);
        within = h.within;
      }

      pub search_on : p ≡ false → lines_from w s at₀ seen₀ ≡ lines_from w s next v
      search_on y = q ∙ from_on w s at to next seen h k e (sym eo ∙ z) v ev ∙ rw (sym ep ∙ y)

-- what the search answered
pub found_done : (w : What) (s : List ℕ) (at : ℕ) (seen : Bool) (r : Option Spot) → Found w s at seen r → r ≡ None → lines_from w s at seen ≡ []
found_done w s at seen r F e = subst (Found w s at seen) e F

pub found_got : (w : What) (s : List ℕ) (at : ℕ) (seen : Bool) (r : Option Spot) (p : Spot) → Found w s at seen r → r ≡ Some p → Onward w s at seen p
found_got w s at seen r p F e = subst (Found w s at seen) e F

-- a count of lines: n are behind
pub record Counting (w : What) (s : List ℕ) (at : ℕ) (seen : Bool) (n : ℕ) : Type 0 where
  pub inside : at ≤ length s
  pub slow : n ≤ at
  pub left : n + length (lines_from w s at seen) ≡ length (lines_of w s)

pub counting_start : (w : What) (s : List ℕ) → Counting w s 0 false 0
counting_start w s = record { inside = omega arith; slow = omega arith; left = zero-add (length (lines_of w s)) }

module _ (w : What) (s : List ℕ) (at : ℕ) (seen : Bool) (n : ℕ) (C : Counting w s at seen n) where
  pub counting_over : lines_from w s at seen ≡ [] → n ≡ length (lines_of w s)
  counting_over e = let z : length (lines_from w s at seen) ≡ 0 = ap (λ (l : List (List ℕ)). length l) e in omega (arith, C.left, z)

  pub counting_more : (p : Spot) → Onward w s at seen p → Counting w s p.next p.seen (n + 1)
  counting_more p o =
      let z : length (lines_from w s at seen) ≡ suc (length (lines_from w s p.next p.seen)) = ap (λ (l : List (List ℕ)). length l) o.is in
      record { inside = o.within; slow = omega (arith, C.slow, o.more); left = omega (arith, C.left, z) }
