-- Laws of ascending serials, and of the parts of the atoms and of the residues that a segment reaches. Assumes nothing.
use Prim.Native.Nat.{ℕ, ◌+◌, ◌-◌, ◌%◌, ◌<◌, ◌≤◌}
use mathlib.Core.Bool.{Bool, true, false, ◌&&◌}
use mathlib.Core.Path.{◌≡◌, refl, sym, ◌∙◌, ap, subst}
use mathlib.Core.Logic.{⊎_elim}
use native.Mathlib.Nat.{eq-or-lt_of_le, le_of_suc-le-suc, mod-eq_of_lt, add-mod_right}
use native.Mathlib.Numerals.{add-one}
use native.Mathlib.Omega.{arith}
use lib.Dec.{leb, ltb}
use borrow.Author.Tests.{leb-true, leb-false, le-leb, lt-leb, ltb-true, ltb-false}
use Rattle.stretch.specs.Stretch.{inside, Up, Splits, Holds, Outside, In, Reaches, Spans, Met, ranged, Widened}
use mathlib.Core.List.{List}
use lib.ListN.{get_or}
use Rattle.numbers.specs.Bytes.{u16_at, u32_at}
use Rattle.protein.specs.Layout.{serial_at}
use Rattle.protein.specs.declared.Head.{Head}
use Rattle.protein.specs.Job.{Job, job_of}
use Rattle.stretch.specs.declared.Range.{Range}
use Rattle.stretch.specs.declared.Part.{Part}
use Rattle.lists.proofs.Bools.{clash, and_left, and_right}

-- one number, and one more that is not below the last
pub up_one : (f : ℕ → ℕ) (m : ℕ) → Up f m (m + 1)
up_one f m i j l h k = let x : i ≡ j = omega arith in rw x (omega arith)

pub up_more : (f : ℕ → ℕ) (m a : ℕ) → m < a → Up f m a → f (a - 1) ≤ f a → Up f m (a + 1)
up_more f m a p U s i j l h k =
    ⊎_elim
    (λ q. let x : j ≡ a = q in rw x (last i l (subst (λ (n : ℕ). i ≤ n) x h)))
    (λ n. U i j l h (omega arith))
    (eq-or-lt_of_le (le_of_suc-le-suc (rw add-one at k)))
  where
    last : (i : ℕ) → m ≤ i → i ≤ a → f i ≤ f a
    last i l h = ⊎_elim (λ q. let x : i ≡ a = q in rw x (omega arith)) (λ n. let z = U i (a - 1) l (omega arith) (omega arith) in omega arith) (eq-or-lt_of_le h)

pub inside_start : (g : Range) (v : ℕ) → inside g v ≡ true → g.start ≤ v
unfolding inside
inside_start g v e = leb-true _ _ (and_left (leb g.start v) _ e)

pub inside_stop : (g : Range) (v : ℕ) → inside g v ≡ true → v ≤ g.stop
unfolding inside
inside_stop g v e = leb-true _ _ (and_right (leb g.start v) _ e)

-- by one comparison: what is below the start comes round to more than the range is long
pub within_is : (g : Range) (v : ℕ) → g.start ≤ g.stop → g.stop < 4294967296 → v < 4294967296 → leb ((v + 4294967296 - g.start) % 4294967296) (g.stop - g.start) ≡ inside g v
unfolding inside
within_is g v o few l = go (leb g.start v) refl (leb v g.stop) refl
  where
    go : (b : Bool) → leb g.start v ≡ b → (c : Bool) → leb v g.stop ≡ c → leb ((v + 4294967296 - g.start) % 4294967296) (g.stop - g.start) ≡ (b && c)
    go false e c f =
        let below = leb-false g.start v e in
        let z : (v + 4294967296 - g.start) % 4294967296 ≡ v + 4294967296 - g.start = mod-eq_of_lt (omega arith) in
        rw z (lt-leb (v + 4294967296 - g.start) (g.stop - g.start) (omega arith))
    go true e c f =
        let from = leb-true g.start v e in
        let y : v + 4294967296 - g.start ≡ v - g.start + 4294967296 = omega arith in
        let x : (v - g.start) % 4294967296 ≡ v - g.start = mod-eq_of_lt (omega arith) in
        let z : (v + 4294967296 - g.start) % 4294967296 ≡ v - g.start = ap (λ (n : ℕ). n % 4294967296) y ∙ add-mod_right (v - g.start) 4294967296 ∙ x in
        rw z (size c f from)
      where
        size : (c : Bool) → leb v g.stop ≡ c → g.start ≤ v → leb (v - g.start) (g.stop - g.start) ≡ c
        size true f from = let to = leb-true v g.stop f in le-leb (v - g.start) (g.stop - g.start) (omega arith)
        size false f from = let to = leb-false v g.stop f in lt-leb (v - g.start) (g.stop - g.start) (omega arith)

-- no serial is in an empty range
pub inside_none : (g : Range) (v : ℕ) → g.stop < g.start → inside g v ≡ false
unfolding inside
inside_none g v e = go (leb g.start v) refl
  where
    go : (b : Bool) → leb g.start v ≡ b → (b && leb v g.stop) ≡ false
    go true q = let from = leb-true g.start v q in lt-leb v g.stop (omega arith)
    go false q = refl

pub serial_few : (s : List ℕ) (h : Head) (a : ℕ) → ((i : ℕ) → get_or s i 0 < 256) → (job_of s h).serial a < 4294967296
unfolding u32_at u16_at
serial_few s h a bytes =
    let at = serial_at h a in
    omega (arith, bytes at, bytes (at + 1), bytes (at + 2), bytes (at + 2 + 1))

-- the atoms of a run that are in the range stand from the first serial that is not below its start up to the first that is above its stop
pub run_holds : (J : Job) (g : Range) (m n lo hi : ℕ) → Splits J.serial m n g.start lo → Splits J.serial m n (g.stop + 1) hi → Holds J g m n (record { from = lo; to = hi })
run_holds J g m n lo hi L H = record {
  low = L.low;
  from = L.few;
  to = H.few;
  all = λ a o l e. (start a o e (ltb a lo) refl, stop a l e (ltb a hi) refl);
}
  where
    start : (a : ℕ) → m ≤ a → inside g (J.serial a) ≡ true → (b : Bool) → ltb a lo ≡ b → lo ≤ a
    start a o e true t = absurd (omega (arith, L.below a o (ltb-true a lo t), inside_start g _ e))
    start a o e false t = ltb-false a lo t

    stop : (a : ℕ) → a < n → inside g (J.serial a) ≡ true → (b : Bool) → ltb a hi ≡ b → a < hi
    stop a l e true t = ltb-true a hi t
    stop a l e false t = absurd (omega (arith, H.above a (ltb-false a hi t) l, inside_stop g _ e))

-- one run behind another
pub holds_both : (J : Job) (g : Range) (m n : ℕ) (p q r : Part) → m ≤ n → Holds J g 0 m p → Holds J g m n q → ((a : ℕ) → In p a → In r a) → ((a : ℕ) → In q a → In r a)
    → r.from ≤ n → r.to ≤ n → Holds J g 0 n r
holds_both J g m n p q r o P Q pr qr f t = record { low = omega arith; from = f; to = t; all = λ a _ l e. go a l e (ltb a m) refl }
  where
    go : (a : ℕ) → a < n → inside g (J.serial a) ≡ true → (b : Bool) → ltb a m ≡ b → In r a
    go a l e true x = pr a (P.all a (omega arith) (ltb-true a m x) e)
    go a l e false x = qr a (Q.all a (ltb-false a m x) l e)

-- an atom of the range stands past a part that has none
pub past_outside : (J : Job) (g : Range) (from to a : ℕ) → Outside J g from to → from ≤ a → inside g (J.serial a) ≡ true → to ≤ a
past_outside J g from to a O l e = go (ltb a to) refl
  where
    go : (b : Bool) → ltb a to ≡ b → to ≤ a
    go true t = clash e (O a l (ltb-true a to t))
    go false t = ltb-false a to t

pub before_outside : (J : Job) (g : Range) (from to a : ℕ) → Outside J g from to → a < to → inside g (J.serial a) ≡ true → a < from
before_outside J g from to a O l e = go (ltb a from) refl
  where
    go : (b : Bool) → ltb a from ≡ b → a < from
    go true t = ltb-true a from t
    go false t = clash e (O a (ltb-false a from t) l)

-- what is known of the atoms that ascend, and of those behind them
pub reaches_by : (J : Job) (g : Range) (p : Part) (n : ℕ) → p.from ≤ J.atoms → p.to ≤ J.atoms → ((a : ℕ) → a < n → inside g (J.serial a) ≡ true → In p a)
    → ((a : ℕ) → n ≤ a → a < J.atoms → inside g (J.serial a) ≡ true → In p a) → Reaches J g p
reaches_by J g p n f t front behind = record { from = f; to = t; all = λ a l e. go a l e (ltb a n) refl }
  where
    go : (a : ℕ) → a < J.atoms → inside g (J.serial a) ≡ true → (b : Bool) → ltb a n ≡ b → In p a
    go a l e true q = front a (ltb-true a n q) e
    go a l e false q = behind a (ltb-false a n q) l e

module _ (J : Job) (g : Range) (n end : ℕ) (p : Part) (few : n ≤ J.atoms) (H : Holds J g 0 n p) (last : end ≤ J.atoms) (O : Outside J g end J.atoms) where
  -- none behind the runs
  pub reaches_front : end ≡ n → Reaches J g p
  reaches_front q =
      reaches_by J g _ n (omega (arith, H.from)) (omega (arith, H.to)) (λ a l e. H.all a (omega arith) l e)
      (λ a l m e. absurd (omega (arith, before_outside J g end J.atoms a O m e)))

  -- some on both sides
  pub reaches_both : n ≤ end → Reaches J g (record { from = p.from; to = end })
  reaches_both q =
      reaches_by J g _ n (omega (arith, H.from)) last (λ a l e. ((H.all a (omega arith) l e).0, omega arith))
      (λ a l m e. (omega (arith, H.from), before_outside J g end J.atoms a O m e))

  -- none in the runs
  pub reaches_behind : (from : ℕ) → p.to ≤ p.from → from ≤ end → Outside J g n from → Reaches J g (record { from = from; to = end })
  reaches_behind from w f F =
      reaches_by J g _ n (omega arith) last (λ a l e. let z = H.all a (omega arith) l e in absurd (omega (arith, z.0, z.1)))
      (λ a l m e. (past_outside J g n from a F l e, before_outside J g end J.atoms a O m e))

-- one atom more of which none is in the range, in front and behind
pub outside_more : (J : Job) (g : Range) (from a : ℕ) → Outside J g from a → inside g (J.serial a) ≡ false → Outside J g from (a + 1)
outside_more J g from a O e k l m =
    ⊎_elim (λ q. subst (λ (i : ℕ). inside g (J.serial i) ≡ false) (sym q) e) (λ z. O k l z) (eq-or-lt_of_le (le_of_suc-le-suc (rw add-one at m)))

pub outside_less : (J : Job) (g : Range) (a to : ℕ) → 0 < a → Outside J g a to → inside g (J.serial (a - 1)) ≡ false → Outside J g (a - 1) to
outside_less J g a to p O e k l m =
    ⊎_elim (λ q. subst (λ (i : ℕ). inside g (J.serial i) ≡ false) q e) (λ z. O k (omega arith) m) (eq-or-lt_of_le l)

-- one turn of `span`
pub spans_turn : (J : Job) (n lo a r : ℕ) (p q : Part) → r ≡ J.residue a → Widened p n r q
    → ((k : ℕ) → lo ≤ k → k < a → J.residue k < n → In p (J.residue k)) → (k : ℕ) → lo ≤ k → k < a + 1 → J.residue k < n → In q (J.residue k)
spans_turn J n lo a r p q e W all k l m few =
    ⊎_elim
    (λ z. let y : k ≡ a = z in subst (λ (i : ℕ). In q i) (e ∙ ap J.residue (sym y)) (W.has (subst (λ (i : ℕ). i < n) (ap J.residue y ∙ sym e) few)))
    (λ z. W.keeps _ (all k l z few))
    (eq-or-lt_of_le (le_of_suc-le-suc (rw add-one at m)))

-- ---- what stands outside a range, and which residues its atoms have

pub outside_join : (J : Job) (g : Range) (a b c : ℕ) → Outside J g a b → Outside J g b c → Outside J g a c
outside_join J g a b c O P k l m = go (ltb k b) refl
  where
    go : (t : Bool) → ltb k b ≡ t → inside g (J.serial k) ≡ false
    go true e = O k l (ltb-true k b e)
    go false e = P k (ltb-false k b e) m

inside_out : (J : Job) (g : Range) (k : ℕ) → (inside g (J.serial k) ≡ true → ⊥) → inside g (J.serial k) ≡ false
inside_out J g k h = go (inside g (J.serial k)) refl
  where
    go : (t : Bool) → inside g (J.serial k) ≡ t → inside g (J.serial k) ≡ false
    go true e = absurd (h e)
    go false e = e

pub outside_before : (J : Job) (g : Range) (p : Part) → Reaches J g p → Outside J g 0 p.from
outside_before J g p R k l m = inside_out J g k (λ e. omega (arith, R.from, (R.all k (omega (arith, R.from)) e).0))

pub outside_after : (J : Job) (g : Range) (p : Part) → Reaches J g p → Outside J g p.to J.atoms
outside_after J g p R k l m = inside_out J g k (λ e. omega (arith, (R.all k m e).1))

-- the residues of a part of the atoms, in which those of the range stand
pub met_span : (J : Job) (g : Range) (p q : Part) → Reaches J g p → Spans J p q → Met J (ranged J g) J.atoms q
met_span J g p q R S k l e few = S.all k (R.all k l e) few

-- nothing is met before the first atom that is taken, nor from one to the next
pub met_none : (J : Job) (t : ℕ → Bool) (a : ℕ) (q : Part) → ((k : ℕ) → k < a → t k ≡ false) → Met J t a q
met_none J t a q none k l e few = clash e (none k l)

pub met_on : (J : Job) (t : ℕ → Bool) (a b : ℕ) (q : Part) → ((k : ℕ) → a ≤ k → k < b → t k ≡ false) → Met J t a q → Met J t b q
met_on J t a b q none M k l e few = go (ltb k a) refl
  where
    go : (c : Bool) → ltb k a ≡ c → In q (J.residue k)
    go true z = M k (ltb-true k a z) e few
    go false z = clash e (none k (ltb-false k a z) l)

-- atom a with its residue
pub met_more : (J : Job) (t : ℕ → Bool) (a : ℕ) (p q : Part) → Widened p J.residues (J.residue a) q → Met J t a p → Met J t (a + 1) q
met_more J t a p q W M k l e few =
    ⊎_elim
    (λ y. let x : k ≡ a = y in subst (λ (i : ℕ). In q i) (ap J.residue (sym x)) (W.has (subst (λ (i : ℕ). i < J.residues) (ap J.residue x) few)))
    (λ y. W.keeps _ (M k y e few))
    (eq-or-lt_of_le (le_of_suc-le-suc (rw add-one at l)))

-- one that has none, or is not taken
pub met_same : (J : Job) (t : ℕ → Bool) (a : ℕ) (p : Part) → (t a ≡ true → J.residue a < J.residues → ⊥) → Met J t a p → Met J t (a + 1) p
met_same J t a p h M k l e few =
    ⊎_elim
    (λ y. let x : k ≡ a = y in absurd (h (ap t (sym x) ∙ e) (subst (λ (i : ℕ). i < J.residues) (ap J.residue x) few)))
    (λ y. M k y e few)
    (eq-or-lt_of_le (le_of_suc-le-suc (rw add-one at l)))
