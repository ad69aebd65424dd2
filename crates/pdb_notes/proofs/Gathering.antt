-- The walk that enters the residues of some lines into an index. Assumes nothing.
use Prim.Native.Nat.{ℕ, ◌-◌, ◌≤◌, ◌<◌}
use mathlib.Core.Bool.{Bool, false}
use mathlib.Core.Path.{◌≡◌, refl, sym, ap, ◌∙◌, subst}
use mathlib.Core.List.{List, [], ◌∷◌, ◌++◌, append_assoc, append-nil}
use native.Mathlib.Omega.{arith}
use lib.ListN.{length, take, drop}
use Rattle.appearance.specs.Index.{Index, Holding}
use Rattle.appearance.specs.Order.{order}
use Rattle.pdb_records.specs.Records.{atom_of}
use Rattle.pdb_search.specs.Kinds.{lines_from, lines_of, name_in}
use Rattle.pdb_notes.specs.Notes.{names_of}
use Rattle.pdb_search.specs.Post.{Onward}
use Rattle.pdb_search.specs.declared.What.{What}
use Rattle.pdb_search.specs.declared.Spot.{Spot}

-- the names `done` are behind: the index held n keys before the walk, and holds m
pub record Gathering (w : What) (s keys₀ links₀ : List ℕ) (n : ℕ) (keys links : List ℕ) (at : ℕ) (seen : Bool) (m : ℕ) : Type 0 where
  pub inside : at ≤ length s
  pub index : Index keys links m
  pub grown : n ≤ m
  pub done : List ℕ
  pub split : names_of (lines_of w s) ≡ done ++ names_of (lines_from w s at seen)
  pub holds : (l : List ℕ) → Holding keys₀ links₀ n l → Holding keys links m (l ++ done)

pub gathering_start : (w : What) (s keys links : List ℕ) (n : ℕ) → Index keys links n → Gathering w s keys links n keys links 0 false n
gathering_start w s keys links n I = record {
  inside = omega arith;
  index = I;
  grown = omega arith;
  done = [];
  split = refl;
  holds = λ l H. subst (Holding keys links n) (sym (append-nil l)) H;
}

module _ (w : What) (s keys₀ links₀ : List ℕ) (n : ℕ) (keys links : List ℕ) (at : ℕ) (seen : Bool) (m : ℕ) (G : Gathering w s keys₀ links₀ n keys links at seen m) where
  pub gathering_over : lines_from w s at seen ≡ [] → (l : List ℕ) → Holding keys₀ links₀ n l → Holding keys links m (l ++ names_of (lines_of w s))
  gathering_over e l H =
      subst (λ (d : List ℕ). Holding keys links m (l ++ d))
      (sym (G.split ∙ ap (λ (ls : List (List ℕ)). G.done ++ names_of ls) e ∙ append-nil G.done)) (G.holds l H)

  pub gathering_more : (p : Spot) → Onward w s at seen p → (x : ℕ) → x ≡ name_in (atom_of (take (p.to - p.at) (drop p.at s)))
      → (keys' links' : List ℕ) (k : ℕ) → ((l : List ℕ) → Holding keys links m l → Holding keys' links' k (l ++ (x ∷ []))) → Index keys' links' k → m ≤ k
      → Gathering w s keys₀ links₀ n keys' links' p.next p.seen k
  gathering_more p o x ex keys' links' k add I grows = record {
    inside = o.within;
    index = I;
    grown = omega (arith, G.grown, grows);
    done = G.done ++ (x ∷ []);
    split =
        G.split ∙ ap (λ (ls : List (List ℕ)). G.done ++ names_of ls) o.is
        ∙ ap (λ (y : ℕ). G.done ++ (y ∷ names_of (lines_from w s p.next p.seen))) (sym ex)
        ∙ sym (append_assoc G.done (x ∷ []) (names_of (lines_from w s p.next p.seen)));
    holds = λ l H. subst (Holding keys' links' k) (append_assoc l G.done (x ∷ [])) (add (l ++ G.done) (G.holds l H));
  }

-- both walks: the residues of a in an empty index, and those of b behind them
pub both_counted : (keys links keys' links' keys'' links'' a b : List ℕ) (m k : ℕ) → Holding keys links 0 []
    → ((l : List ℕ) → Holding keys links 0 l → Holding keys' links' m (l ++ a)) → ((l : List ℕ) → Holding keys' links' m l → Holding keys'' links'' k (l ++ b))
    → m ≤ k → k < 16384 → (m ≡ length (order a)) × (k ≡ length (order (a ++ b)))
both_counted keys links keys' links' keys'' links'' a b m k H f g low few =
    (((f [] H).keyed (omega (arith, low, few))).count, ((g a (f [] H)).keyed few).count)
