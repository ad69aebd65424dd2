-- The answers of build and plan are told by their numbers. Assumes nothing.
use Prim.Native.Nat.{ℕ}
use mathlib.Core.Bool.{Bool, cond}
use mathlib.Core.List.{List}
use mathlib.Core.Path.{◌≡◌, refl, sym, ap, ◌∙◌}
use lib.Dec.{eqb}
use lib.ListN.{length, get_or}
use Rattle.job.specs.Refusals.{number_of, refusal_numbers}
use Rattle.job.specs.declared.Refusal.{Refusal}
use Rattle.job.proofs.Told.{of, back, not_zero}
use Rattle.buffers.specs.declared.Counts.{Counts}
use Rattle.room.specs.Room.{Scratch, Buffers, lent}
use Rattle.walk.specs.declared.Five.{Five}
use Rattle.std.specs.Prelude.{Result, Ok, Err}
use Rattle.promises.specs.declared.Plan.{Plan}
use Rattle.promises.specs.Calls.{built_numbers, planned_numbers, build_answer, plan_answer, Builds, Plans, with_words}

counts : List ℕ → Counts
counts l = record { tubes = get_or l 1 0; vertices = get_or l 2 0; triangles = get_or l 3 0 }

five : List ℕ → Five
five l = record { kind = get_or l 4 0; first = get_or l 5 0; length = get_or l 6 0; vertex = get_or l 7 0; triangle = get_or l 8 0 }

-- the answer of a list of numbers
built_of : List ℕ → Result Counts Refusal
built_of l = cond (eqb (get_or l 0 0) 0) (Ok (counts l)) (Err (of l))

planned_of : List ℕ → Result Plan Refusal
planned_of l = cond (eqb (get_or l 0 0) 0) (Ok (with_words (counts l) (five l))) (Err (of l))

refused_back : {A : Type 0} (x : A) (f : Refusal → A) (r : Refusal) → cond (eqb (number_of r) 0) x (f (of (refusal_numbers r))) ≡ f r
refused_back x f r = ap (λ (t : Bool). cond t x (f (of (refusal_numbers r)))) (not_zero r) ∙ ap f (back r)

built_back : (r : Result Counts Refusal) → built_of (built_numbers r) ≡ r
unfolding built_of counts
built_back (Ok c) = refl
built_back (Err r) = refused_back _ Err r

same_of : (r : Refusal) → of (planned_numbers (Err r)) ≡ of (refusal_numbers r)
unfolding of
same_of r = refl

planned_back : (r : Result Plan Refusal) → planned_of (planned_numbers r) ≡ r
unfolding planned_of counts five
planned_back (Ok p) = refl
planned_back (Err r) = ap (λ (x : Refusal). cond (eqb (number_of r) 0) (Ok (with_words (counts (planned_numbers (Err r))) (five (planned_numbers (Err r))))) (Err x)) (same_of r) ∙ refused_back _ Err r

pub built_told : (r q : Result Counts Refusal) → built_numbers r ≡ built_numbers q → r ≡ q
built_told r q e = sym (built_back r) ∙ ap built_of e ∙ built_back q

pub planned_told : (r q : Result Plan Refusal) → planned_numbers r ≡ planned_numbers q → r ≡ q
planned_told r q e = sym (planned_back r) ∙ ap planned_of e ∙ planned_back q

-- so what a promise says of an answer's numbers it says of the answer
pub built_is : {s : List ℕ} {b b' : Buffers} {r : Result Counts Refusal} → Builds s b r b' → r ≡ build_answer s (lent b)
built_is {r = r} B = built_told r _ B.answer

pub planned_is : {s : List ℕ} {k : ℕ} {c c' : Scratch} {r : Result Plan Refusal} → Plans s k c r c' → r ≡ plan_answer s k (length c.words) (length c.floats)
planned_is {r = r} P = planned_told r _ P.answer
