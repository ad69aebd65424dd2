use mathlib.Core.Path.{◌≡◌, sym, ap, ◌∙◌}
use mathlib.Core.List.{append_assoc}
use native.Mathlib.Omega.{arith}
use Prim.Native.Nat.{◌+◌, ◌-◌, ◌≤◌}
use lib.ListN.{length, take, drop, replicate, length-replicate, length-take, length-drop}
use lib.Seq.{drop-drop}
use Rattle.lists.proofs.Puts.{put_eq}
use Rattle.job_writer.proofs.put_visible.Goals as goal

pub returns : goal.returns
returns c =
    let w : c.args.at + c.args.c - c.args.at ≡ c.args.c = omega arith in
    let n : length (take c.args.c (drop c.args.at c.args.out.now)) ≡ c.args.c = simp (length-take, length-drop) (omega arith) in
    let f : c.fill.new.self ≡ replicate c.args.c 1 = rw n at (rw w at (c.fill.ensures.after (λ y e. e))) in
    let h : c.args.at + length (replicate c.args.c 1) ≤ length c.args.out.now = simp length-replicate c.requires in
    rw (w, f, drop-drop) (sym (simp (length-replicate, append_assoc) at (put_eq c.args.out.now c.args.at (replicate c.args.c 1) h)))
