-- Laws of runs of bytes and of decimal numbers. Assumes nothing.
use Prim.Native.Nat.{ℕ, suc, ◌+◌, ◌-◌, ◌*◌, ◌^◌, ◌<◌, ◌≤◌, zero-le}
use mathlib.Core.Bool.{Bool, true, false, ◌&&◌, cond}
use mathlib.Core.Path.{◌≡◌, refl, sym, ap, ◌∙◌, subst}
use mathlib.Core.List.{List, ◌∷◌}
use native.Mathlib.Numerals.{add-one}
use native.Mathlib.Nat.{pow-suc, pow-le-pow_right}
use native.Mathlib.Omega.{arith}
use lib.Dec.{eqb, leb, lit<}
use lib.ListN.{length, take, drop, get_or, length-drop, drop_of_length-le}
use lib.Seq.{drop-cons, drop-drop}
use borrow.Author.Tests.{eq-eqb, ne_eqb, le-leb, lt-leb, leb-true}
use Rattle.std.specs.Prelude.{Option, Some, None}
use Rattle.pdb_fields.specs.declared.Signed.{Signed}
use Rattle.pdb_fields.specs.Numbers.{run, is_blank, is_digit, decimal, lead, blank, signed_field, end_whole, end_thousandths, fraction, whole, thousandths}
use Rattle.pdb_fields.specs.Post.{Digits}

abbrev pub good : Bool → ℕ → Option Signed
good m n = Some (record { minus = m; size = n })

at : (l : List ℕ) (k : ℕ) → k < length l → drop k l ≡ get_or l k 0 ∷ drop (k + 1) l
at l k h = rw (add-one) (drop-cons l k 0 h)

module _ (t : ℕ → Bool) (l : List ℕ) (k : ℕ) where
  pub run_over : length l ≤ k → run t (drop k l) ≡ 0
  unfolding run
  run_over h = rw (drop_of_length-le l h)

  pub run_no : k < length l → t (get_or l k 0) ≡ false → run t (drop k l) ≡ 0
  unfolding run
  run_no h e = rw (at l k h, e)

  pub run_yes : k < length l → t (get_or l k 0) ≡ true → run t (drop k l) ≡ suc (run t (drop (k + 1) l))
  unfolding run
  run_yes h e = rw (at l k h, e)

pub digit_from : (b : ℕ) → is_digit b ≡ true → 48 ≤ b
digit_from b e = leb-true 48 b (go (leb 48 b) (leb b 57) e)
  where
    go : (x y : Bool) → (x && y) ≡ true → x ≡ true
    go true y e = refl
    go false y e = e

pub digit_to : (b : ℕ) → is_digit b ≡ true → b ≤ 57
digit_to b e = leb-true b 57 (go (leb 48 b) (leb b 57) e)
  where
    go : (x y : Bool) → (x && y) ≡ true → y ≡ true
    go true y e = e
    go false y e = absurd (let z : ◌≡◌ {A = ℕ} 0 1 = cc in omega arith)

module _ (l : List ℕ) (k b : ℕ) where
  pub lead_yes : k < length l → get_or l k 0 ≡ b → 1 ≡ lead b (drop k l)
  lead_yes h e = rw (at l k h, eq-eqb _ _ e)

  pub lead_no : k < length l → (get_or l k 0 ≡ b → ⊥) → 0 ≡ lead b (drop k l)
  lead_no h e = rw (at l k h, ne_eqb _ _ e)

  pub lead_over : length l ≤ k → 0 ≡ lead b (drop k l)
  lead_over h = rw (drop_of_length-le l h)

-- one digit more
pub decimal_more : (l : List ℕ) (k v : ℕ) → k < length l → is_digit (get_or l k 0) ≡ true
    → decimal v (take (run is_digit (drop k l)) (drop k l))
    ≡ decimal (10 * v + (get_or l k 0 - 48)) (take (run is_digit (drop (k + 1) l)) (drop (k + 1) l))
unfolding decimal
decimal_more l k v h e = ap (λ (n : ℕ). decimal v (take n (drop k l))) (run_yes is_digit l k h e) ∙ ap (λ (d : List ℕ). decimal v (take (suc (run is_digit (drop (k + 1) l))) d)) (at l k h)

pub decimal_none : (l : List ℕ) (k v : ℕ) → run is_digit (drop k l) ≡ 0 → decimal v (take (run is_digit (drop k l)) (drop k l)) ≡ v
unfolding decimal
decimal_none l k v e = ap (λ (n : ℕ). decimal v (take n (drop k l))) e

-- a value of at most k digits, and one more
pub grown : (v d k : ℕ) → v < 10 ^ k → d ≤ 9 → 10 * v + d < 10 ^ (k + 1)
grown v d k h l = rw (add-one, pow-suc) (omega arith)

-- at most eight digits fit
pub small : (v k : ℕ) → v < 10 ^ k → k ≤ 8 → v < 100000000
small v k h l = let p : 10 ^ k ≤ 10 ^ 8 = pow-le-pow_right (lit< tt) l in omega arith

-- where a run stops
module _ (t : ℕ → Bool) (l : List ℕ) (i k : ℕ) (e : i + run t (drop i l) ≡ k + run t (drop k l)) where
  pub stop_over : length l ≤ k → k ≡ i + run t (drop i l)
  stop_over h = omega (arith, run_over t l k h)

  pub stop_no : k < length l → t (get_or l k 0) ≡ false → k ≡ i + run t (drop i l)
  stop_no h q = omega (arith, run_no t l k h q)

  pub run_turn : k < length l → t (get_or l k 0) ≡ true → i + run t (drop i l) ≡ k + 1 + run t (drop (k + 1) l)
  run_turn h q = omega (arith, run_yes t l k h q)

pub digits_stop : (l : List ℕ) (i v k value : ℕ) → i + run is_digit (drop i l) ≡ k + run is_digit (drop k l) → k ≤ length l
    → decimal v (take (run is_digit (drop i l)) (drop i l)) ≡ decimal value (take (run is_digit (drop k l)) (drop k l))
    → run is_digit (drop k l) ≡ 0 → Digits l i v k value
digits_stop l i v k value e h d z = record { end = omega arith; within = h; number = sym (d ∙ decimal_none l k value z) }

-- ---- whole fields
pub blank_yes : (l : List ℕ) (k p : ℕ) → k ≤ length l → p ≡ k + run is_blank (drop k l) → p ≡ length l → blank (drop k l) ≡ true
blank_yes l k p h e q = eq-eqb (run is_blank (drop k l)) (length (drop k l)) (simp length-drop (omega arith))

pub blank_no : (l : List ℕ) (k p : ℕ) → k ≤ length l → p ≡ k + run is_blank (drop k l) → (p ≡ length l → ⊥) → blank (drop k l) ≡ false
blank_no l k p h e q = ne_eqb (run is_blank (drop k l)) (length (drop k l)) (λ r. q (omega (arith, simp length-drop at r)))

module _ (l : List ℕ) (a m next value : ℕ) (ha : a ≡ 0 + run is_blank (drop 0 l)) (hm : m ≡ lead 45 (drop a l)) (hd : Digits l (a + m) 0 next value) where
  abbrev d : ℕ
  d = run is_digit (drop (a + m) l)

  pub signed_is : (f : Bool → List ℕ → ℕ → Option Signed) → signed_field f l ≡ cond (eqb d 0) None (f (eqb m 1) (drop (a + m) l) d)
  signed_is f =
      let e : run is_blank l ≡ a = omega arith in
      ap (λ (n : ℕ). h n (lead 45 (drop n l))) e ∙ ap (h a) (sym hm) ∙ simp drop-drop
    where
      h : ℕ → ℕ → Option Signed
      h a m = cond (eqb (run is_digit (drop m (drop a l))) 0) None (f (eqb m 1) (drop m (drop a l)) (run is_digit (drop m (drop a l))))

  pub no_digit : (f : Bool → List ℕ → ℕ → Option Signed) → next ≡ a + m → None ≡ signed_field f l
  no_digit f e = let z : d ≡ 0 = omega (arith, hd.end) in sym (signed_is f ∙ ap (λ (n : ℕ). cond (eqb n 0) None (f (eqb m 1) (drop (a + m) l) d)) z)

  some_digit : (f : Bool → List ℕ → ℕ → Option Signed) → (next ≡ a + m → ⊥) → signed_field f l ≡ f (eqb m 1) (drop (a + m) l) d
  some_digit f e = signed_is f ∙ ap (λ (b : Bool). cond b None (f (eqb m 1) (drop (a + m) l) d)) (ne_eqb d 0 (λ z. e (omega (arith, hd.end))))

  rest_is : (k : ℕ) → drop (d + k) (drop (a + m) l) ≡ drop (next + k) l
  rest_is k = let e : a + m + (d + k) ≡ next + k = omega (arith, hd.end) in drop-drop (d + k) (a + m) l ∙ ap (λ (n : ℕ). drop n l) e

  rest_0 : drop d (drop (a + m) l) ≡ drop next l
  rest_0 = drop-drop d (a + m) l ∙ ap (λ (n : ℕ). drop n l) (sym hd.end)

  module _ (some : next ≡ a + m → ⊥) where
    pub whole_no : blank (drop next l) ≡ false → None ≡ whole l
    unfolding whole
    whole_no b = sym (some_digit end_whole some ∙ ap (λ (t : Bool). cond t (good (eqb m 1) (decimal 0 (take d (drop (a + m) l)))) None) (ap blank rest_0 ∙ b))

    pub whole_yes : blank (drop next l) ≡ true → good (eqb m 1) value ≡ whole l
    unfolding whole
    whole_yes b =
        sym (some_digit end_whole some
        ∙ ap (λ (t : Bool). cond t (good (eqb m 1) (decimal 0 (take d (drop (a + m) l)))) None) (ap blank rest_0 ∙ b)
        ∙ ap (good (eqb m 1)) (sym hd.number))

    fraction_is : fraction (drop d (drop (a + m) l)) ≡ (eqb (lead 46 (drop next l)) 1 && (eqb (run is_digit (drop (next + 1) l)) 3 && blank (drop (next + 4) l)))
    fraction_is = ap fraction rest_0 ∙ simp drop-drop

    thousandths_is : thousandths l ≡ cond (eqb (lead 46 (drop next l)) 1 && (eqb (run is_digit (drop (next + 1) l)) 3 && blank (drop (next + 4) l)))
        (good (eqb m 1) (decimal value (take 3 (drop (next + 1) l)))) None
    unfolding thousandths
    thousandths_is =
        some_digit end_thousandths some
        ∙ ap (λ (t : Bool). cond t (good (eqb m 1) (decimal (decimal 0 (take d (drop (a + m) l))) (take 3 (drop (d + 1) (drop (a + m) l))))) None) fraction_is
        ∙ simp (rest_is 1, ← hd.number)

    pub no_point : (lead 46 (drop next l) ≡ 1 → ⊥) → None ≡ thousandths l
    no_point p = sym (thousandths_is ∙ simp (ne_eqb _ _ p))

    module _ (p : lead 46 (drop next l) ≡ 1) (end value' : ℕ) (he : Digits l (next + 1) value end value') where
      three : end ≡ next + 4 → run is_digit (drop (next + 1) l) ≡ 3
      three e = omega (arith, he.end)

      pub not_three : (end ≡ next + 4 → ⊥) → None ≡ thousandths l
      not_three q = sym (thousandths_is ∙ simp (eq-eqb _ _ p, ne_eqb (run is_digit (drop (next + 1) l)) 3 (λ z. q (omega (arith, he.end)))))

      pub not_blank : end ≡ next + 4 → blank (drop end l) ≡ false → None ≡ thousandths l
      not_blank q b = sym (thousandths_is ∙ simp (eq-eqb _ _ p, eq-eqb _ _ (three q), subst (λ (n : ℕ). blank (drop n l) ≡ false) q b))

      pub all_right : end ≡ next + 4 → blank (drop end l) ≡ true → good (eqb m 1) value' ≡ thousandths l
      all_right q b =
          sym (thousandths_is
          ∙ (simp (eq-eqb _ _ p, eq-eqb _ _ (three q), subst (λ (n : ℕ). blank (drop n l) ≡ true) q b))
          ∙ ap (λ (n : ℕ). good (eqb m 1) (decimal value (take n (drop (next + 1) l)))) (sym (three q))
          ∙ ap (good (eqb m 1)) (sym he.number))

pub ten_pos : (k : ℕ) → 0 < 10 ^ k
ten_pos k = pow-le-pow_right (lit< tt) (zero-le {n = k})

pub ten_more : (v k : ℕ) → v < 10 ^ k → v < 10 ^ (k + 1)
ten_more v k h = rw (add-one, pow-suc) (omega arith)
