-- Laws of the tables of a segment, over the atoms of its range. Assumes nothing.
use Prim.Native.Nat.{ℕ, ◌+◌, ◌-◌, ◌<◌, ◌≤◌}
use mathlib.Core.Bool.{Bool, true, false, and-false}
use mathlib.Core.Path.{◌≡◌, refl, sym, ◌∙◌, subst}
use native.Mathlib.Omega.{arith}
use lib.Dec.{eqb}
use lib.ListN.{length, set}
use Rattle.scratch.specs.Scratch.{Filled}
use Rattle.lists.proofs.Bools.{clash}
use borrow.Author.Tests.{eqb-true, eqb-false, eq-eqb, ne_eqb}
use Rattle.tables.specs.Wants.{wants, gives, found}
use Rattle.stretch.specs.Stretch.{inside, ranged, In, Outside, Met, Reaches, Widened}
use Rattle.tables.specs.Table.{keeps, Noted, Filling, Narrowed}
use Rattle.protein.specs.Job.{Job}
use Rattle.stretch.specs.declared.Range.{Range}
use Rattle.stretch.specs.declared.Part.{Part}
use Rattle.tables.specs.declared.Want.{Want}
use Rattle.tables.specs.declared.Which.{Which}
use Rattle.tables.specs.declared.Want.TheVariants.{SegmentAlpha, SegmentOxygen}
use Rattle.tables.proofs.Laws.{found_skip, found_zero, gives_no, gives_other, turn_hit, turn_miss, turn_out}
use Rattle.tables.specs.declared.Which.TheVariants.{Last}
use Rattle.scratch.proofs.Laws.{fill_start, both_now, both_same, both_again}
use mathlib.Core.List.{List}
use Rattle.stretch.proofs.Laws.{outside_join, outside_before, outside_after, met_none, met_on, met_more, met_same}

-- ---- what a segment's tables find

-- both tables of a segment ask for atoms of its range alone
abbrev pub Ranged : Job → Range → Want → Type 0
Ranged J g w = (a : ℕ) → inside g (J.serial a) ≡ false → wants J w a ≡ false

pub alphas_ranged : (J : Job) (g : Range) → Ranged J g (SegmentAlpha g)
unfolding wants
alphas_ranged J g a e = rw (e, and-false)

pub oxygens_ranged : (J : Job) (g : Range) → Ranged J g (SegmentOxygen g)
unfolding wants
oxygens_ranged J g a e = rw (e, and-false)

-- nothing is found where no atom is in the range
pub found_outside : (J : Job) (g : Range) (x : Which) (w : Want) (r a b : ℕ) → Ranged J g w → a ≤ b → Outside J g a b → found x (gives J w r) b ≡ found x (gives J w r) a
found_outside J g x w r a b R l O =
    let e : b ≡ a + (b - a) = omega arith in
    subst (λ (n : ℕ). found x (gives J w r) n ≡ found x (gives J w r) a) (sym e)
    (found_skip x (gives J w r) a (b - a) (λ k f m. gives_no J w r k (R k (O k f (omega arith)))))

-- a residue out of a part that has those of all atoms asked for is found in no table
pub found_nothing : (J : Job) (x : Which) (w : Want) (r : ℕ) (q : Part) → Met J (wants J w) J.atoms q → r < J.residues → (In q r → ⊥) → found x (gives J w r) J.atoms ≡ 0
found_nothing J x w r q M few out =
    let e : 0 + J.atoms ≡ J.atoms = omega arith in
    subst (λ (n : ℕ). found x (gives J w r) n ≡ 0) e
    (found_skip x (gives J w r) 0 J.atoms (λ k f m. go k (omega arith) (eqb (J.residue k) r) refl (wants J w k) refl) ∙ found_zero x (gives J w r))
  where
    go : (k : ℕ) → k < J.atoms → (b : Bool) → eqb (J.residue k) r ≡ b → (c : Bool) → wants J w k ≡ c → gives J w r k ≡ false
    go k l true e true z =
        let y : J.residue k ≡ r = eqb-true (J.residue k) r e in
        absurd (out (subst (λ (j : ℕ). In q j) y (M k l z (subst (λ (j : ℕ). j < J.residues) (sym y) few))))
    go k l true e false z = gives_no J w r k z
    go k l false e c z = gives_other J w r k (eqb-false (J.residue k) r e)

-- ---- an atom of the range, by its role
pub alpha_wanted : (J : Job) (g : Range) (a : ℕ) → J.role a ≡ 1 → ranged J g a ≡ true → wants J (SegmentAlpha g) a ≡ true
unfolding wants
alpha_wanted J g a e i = rw (eq-eqb (J.role a) 1 e, i)

pub oxygen_wanted : (J : Job) (g : Range) (a : ℕ) → J.role a ≡ 2 → ranged J g a ≡ true → wants J (SegmentOxygen g) a ≡ true
unfolding wants
oxygen_wanted J g a e i = rw (eq-eqb (J.role a) 2 e, i)

pub no_alpha : (J : Job) (g : Range) (a : ℕ) → (J.role a ≡ 1 → ⊥) → wants J (SegmentAlpha g) a ≡ false
unfolding wants
no_alpha J g a n = rw (ne_eqb (J.role a) 1 n)

pub no_oxygen : (J : Job) (g : Range) (a : ℕ) → (J.role a ≡ 2 → ⊥) → wants J (SegmentOxygen g) a ≡ false
unfolding wants
no_oxygen J g a n = rw (ne_eqb (J.role a) 2 n)

-- ---- the tables of a segment, an atom at a time
module _ (J : Job) (g : Range) (full : Bool) (q p : Part) (alphas oxygens a : ℕ) (t : List ℕ) (F : Filling J g full q alphas oxygens t t p a) where
  A : Filled (λ i. found Last (gives J (SegmentAlpha g) (q.from + i)) a) (alphas + q.from) (q.to - q.from) t t
  A = fill_start _ _ _ _ F.noted.first

  O : full ≡ true → Filled (λ i. found Last (gives J (SegmentOxygen g) (q.from + i)) a) (oxygens + q.from) (q.to - q.from) t t
  O e = fill_start _ _ _ _ (F.noted.second e)

  -- it is asked for in neither table
  pub filling_skip : wants J (SegmentAlpha g) a ≡ false → (full ≡ true → wants J (SegmentOxygen g) a ≡ false) → Filling J g full q alphas oxygens t t p (a + 1)
  filling_skip w v = record {
    noted = record {
      size = refl;
      first = (turn_miss J Last (SegmentAlpha g) alphas q.from (q.to - q.from) t t a A w).entry;
      second = λ e. (turn_miss J Last (SegmentOxygen g) oxygens q.from (q.to - q.from) t t a (O e) (v e)).entry;
      before = λ j h. refl;
      after = λ j h. refl;
    };
    from = F.from;
    to = F.to;
    met = met_same J _ a p (λ e _. clash e w) F.met;
  }

  -- it has no residue
  pub filling_none : q.to ≤ J.residues → J.residues ≤ J.residue a → Filling J g full q alphas oxygens t t p (a + 1)
  filling_none few out = record {
    noted = record {
      size = refl;
      first = (turn_out J Last (SegmentAlpha g) alphas q.from (q.to - q.from) t t a A (λ i l e. omega arith)).entry;
      second = λ e. (turn_out J Last (SegmentOxygen g) oxygens q.from (q.to - q.from) t t a (O e) (λ i l e. omega arith)).entry;
      before = λ j h. refl;
      after = λ j h. refl;
    };
    from = F.from;
    to = F.to;
    met = met_same J _ a p (λ _ l. omega arith) F.met;
  }

  module _ (r : ℕ) (rq : r ≡ J.residue a) (own : In q r) (fits : q.to ≤ J.residues) (apart : alphas + J.residues ≤ oxygens) (room : oxygens + J.residues ≤ length t) where
    -- a C-alpha
    pub filling_alpha : (p' : Part) → wants J (SegmentAlpha g) a ≡ true → wants J (SegmentOxygen g) a ≡ false → Widened p J.residues r p'
        → Filling J g full q alphas oxygens t (set t (alphas + r) (a + 1)) p' (a + 1)
    unfolding keeps
    filling_alpha p' w v W =
        let H = turn_hit J Last (SegmentAlpha g) alphas q.from (q.to - q.from) t t a A r (omega (arith, own.0, own.1)) rq own.0 (omega (arith, own.0, own.1)) refl w in
        record {
          noted = record {
            size = H.size;
            first = H.entry;
            second = λ e i h. H.after (oxygens + q.from + i) (omega (arith, own.0, own.1)) ∙ (turn_miss J Last (SegmentOxygen g) oxygens q.from (q.to - q.from) t t a (O e) v).entry i h;
            before = H.before;
            after = λ j h. H.after j (omega (arith, own.0, own.1));
          };
          from = W.low q.from F.from (λ _. own.0);
          to = W.high q.to F.to (λ _. own.1);
          met = met_more J _ a p p' (subst (λ (k : ℕ). Widened p J.residues k p') rq W) F.met;
        }

    -- an oxygen
    pub filling_oxygen : full ≡ true → wants J (SegmentAlpha g) a ≡ false → wants J (SegmentOxygen g) a ≡ true → Filling J g full q alphas oxygens t (set t (oxygens + r) (a + 1)) p (a + 1)
    unfolding keeps
    filling_oxygen e w v =
        let H = turn_hit J Last (SegmentOxygen g) oxygens q.from (q.to - q.from) t t a (O e) r (omega (arith, own.0, own.1)) rq own.0 (omega (arith, own.0, own.1)) refl v in
        record {
          noted = record {
            size = H.size;
            first = λ i h. H.before (alphas + q.from + i) (omega (arith, own.0, own.1)) ∙ (turn_miss J Last (SegmentAlpha g) alphas q.from (q.to - q.from) t t a A w).entry i h;
            second = λ _. H.entry;
            before = λ j h. H.before j (omega (arith, own.0, own.1));
            after = H.after;
          };
          from = F.from;
          to = F.to;
          met = met_same J _ a p (λ z _. clash z w) F.met;
        }

-- ---- the tables of a segment, a turn at a time
module _ (J : Job) (g : Range) (full : Bool) (q : Part) (alphas oxygens : ℕ) where
  -- from an atom on to the next of the range
  pub filling_on : (a b : ℕ) (t₀ t : List ℕ) (p : Part) → a ≤ b → Outside J g a b → Filling J g full q alphas oxygens t₀ t p a → Filling J g full q alphas oxygens t₀ t p b
  filling_on a b t₀ t p l O F = record {
    noted = both_same full _ _ _ _ (alphas + q.from) (oxygens + q.from) (q.to - q.from) t₀ t F.noted
        (λ r _. found_outside J g Last (SegmentAlpha g) (q.from + r) a b (alphas_ranged J g) l O) (λ r _. found_outside J g Last (SegmentOxygen g) (q.from + r) a b (oxygens_ranged J g) l O);
    from = F.from;
    to = F.to;
    met = met_on J _ a b p (λ k m n. alphas_ranged J g k (O k m n)) F.met;
  }

  pub filling_start : (p : Part) (t : List ℕ) (a : ℕ) → Reaches J g p → Outside J g p.from a → q.from ≤ q.to → Noted J g full 0 q alphas oxygens t t
      → Filling J g full q alphas oxygens t t (record { from = q.to; to = q.from }) a
  filling_start p t a R O o N =
      filling_on 0 a t t _ (omega arith) (outside_join J g 0 p.from a (outside_before J g p R) O)
      (record { noted = N; from = o; to = o; met = met_none J _ 0 _ (λ k l. absurd (omega arith)) })

  pub filling_now : (a : ℕ) (t₀ t : List ℕ) (p : Part) → Filling J g full q alphas oxygens t₀ t p a → Filling J g full q alphas oxygens t t p a
  filling_now a t₀ t p F = record { noted = both_now full _ _ _ _ _ t₀ t F.noted; from = F.from; to = F.to; met = F.met }

  pub filling_turn : (a b : ℕ) (t₀ t t' : List ℕ) (p p' : Part) → a + 1 ≤ b → Outside J g (a + 1) b → Filling J g full q alphas oxygens t₀ t p a
      → Filling J g full q alphas oxygens t t' p' (a + 1) → Filling J g full q alphas oxygens t₀ t' p' b
  filling_turn a b t₀ t t' p p' l O F G =
      filling_on (a + 1) b t₀ t' p' l O
      (record { noted = both_again full _ _ _ _ (alphas + q.from) (oxygens + q.from) (q.to - q.from) t₀ t t' F.noted G.noted; from = G.from; to = G.to; met = G.met })

  -- all atoms are past
  pub filling_end : (s : Part) (t₀ t : List ℕ) (p : Part) (a : ℕ) → Reaches J g s → s.to ≤ a → a ≤ J.atoms → Filling J g full q alphas oxygens t₀ t p a
      → Filling J g full q alphas oxygens t₀ t p J.atoms
  filling_end s t₀ t p a R l m F = filling_on a J.atoms t₀ t p m (λ k n o. outside_after J g s R k (omega arith) o) F

-- the part that was seen, and where nothing was seen none
module _ (J : Job) (g : Range) (full : Bool) (q p : Part) (alphas oxygens : ℕ) (t₀ t : List ℕ) (F : Filling J g full q alphas oxygens t₀ t p J.atoms) where
  pub narrowed_seen : p.from ≤ p.to → Narrowed J g q p
  narrowed_seen o = record { order = o; among = λ r i. (omega (arith, i.0, F.from), omega (arith, i.1, F.to)); to = F.to; met = F.met }

  pub narrowed_none : p.to < p.from → Narrowed J g q (record { from = 0; to = 0 })
  narrowed_none o = record {
    order = omega arith;
    among = λ r i. absurd (omega (arith, i.1));
    to = omega arith;
    met = λ k l e few. let z = F.met k l e few in absurd (omega (arith, z.0, z.1));
  }
