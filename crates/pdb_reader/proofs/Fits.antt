-- A job that was written fits the lent buffer: what a program that reads it there stands on. Assumes nothing.
use Prim.Native.Nat.{ℕ, ◌≤◌}
use mathlib.Core.List.{List}
use mathlib.Core.Path.{◌≡◌, subst}
use lib.ListN.{length}
use Rattle.pdb_reader.specs.Call.{Reads}
use Rattle.pdb_reader.proofs.Demands.{accepted}
use Rattle.std.specs.Prelude.{Result, Ok}
use Rattle.job.specs.declared.Refusal.{Refusal}

pub written_fits : {s out out' : List ℕ} {r : Result ℕ Refusal} {n : ℕ} → Reads s out r out' → r ≡ Ok n → n ≤ length out
written_fits {s} {out} {out'} h e = (accepted (subst (λ (r : Result ℕ Refusal). Reads s out r out') e h)).fits
