-- An index that is asked to hold one key more. Assumes nothing.
use Prim.Native.Nat.{ℕ, ◌+◌, ◌<◌, ◌≤◌}
use mathlib.Core.Bool.{true, false}
use mathlib.Core.Path.{◌≡◌, refl, sym, subst, ◌∙◌}
use mathlib.Core.List.{List, [], ◌∷◌, ◌++◌}
use native.Mathlib.Omega.{arith}
use lib.ListN.{length, set, replicate, length-replicate, get_or-replicate}
use Rattle.std.specs.Prelude.{Option, Some, None, is_some}
use Rattle.lists.specs.Search.{last}
use Rattle.lists.proofs.Bools.{clash}
use Rattle.appearance.specs.Index.{Index, Keyed, Finds, Holding}
use Rattle.appearance.specs.Order.{distinct, numbered}
use Rattle.appearance.proofs.Numbers.{found_number, number_none, number_some, keyed_seen, keyed_new}

-- an index of no key, and of the keys of no list
pub empty_index : (keys : List ℕ) → length keys ≡ 16384 → Index keys (replicate 32768 0) 0
unfolding last
empty_index keys e = record {
  keys_size = e;
  links_size = length-replicate {A = ℕ} 32768 0;
  few = omega arith;
  head = λ h l. get_or-replicate {A = ℕ} 32768 h 0 0 (omega arith);
  link = λ i l. absurd (omega arith);
}

pub holding_none : (keys : List ℕ) → length keys ≡ 16384 → Holding keys (replicate 32768 0) 0 []
unfolding distinct
holding_none keys e = record { index = empty_index keys e; keyed = λ h. record { count = refl; key = λ i l. absurd (omega arith) } }

-- one key more: the index is full, has it, or takes it
pub holding_full : (keys links : List ℕ) (n y : ℕ) → n ≡ 16384 → (l : List ℕ) → Holding keys links n l → Holding keys links n (l ++ (y ∷ []))
holding_full keys links n y e l H = record { index = H.index; keyed = λ h. absurd (omega (arith, e, h)) }

pub holding_seen : (keys links : List ℕ) (n y : ℕ) (r : Option ℕ) → Finds keys n y r → is_some r ≡ true → (l : List ℕ)
    → Holding keys links n l → Holding keys links n (l ++ (y ∷ []))
holding_seen keys links n y None f s l H = clash s refl
holding_seen keys links n y (Some i) f s l H = record {
  index = H.index;
  keyed = λ h. keyed_seen keys n l y (H.keyed h) (number_some l y (omega (arith, f, found_number keys l n y (H.keyed h))));
}

pub holding_new : (keys links : List ℕ) (n y : ℕ) (r : Option ℕ) → Finds keys n y r → is_some r ≡ false → (keys' links' : List ℕ) → keys' ≡ set keys n y → Index keys' links' (n + 1)
    → (l : List ℕ) → Holding keys links n l → Holding keys' links' (n + 1) (l ++ (y ∷ []))
holding_new keys links n y (Some i) f s keys' links' k I l H = clash refl s
holding_new keys links n y None f s keys' links' k I l H = record {
  index = I;
  keyed = λ h.
      let few : n < 16384 = omega (arith, h) in
      let none : numbered l y ≡ 0 = omega (arith, sym (found_number keys l n y (H.keyed few)), f) in
      subst (λ (t : List ℕ). Keyed t (n + 1) (l ++ (y ∷ []))) (sym k) (keyed_new keys n l y (H.keyed few) (number_none l y none) (omega (arith, few, H.index.keys_size)));
}
