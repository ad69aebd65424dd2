use mathlib.Core.Path.{sym, ap, ◌∙◌}
use mathlib.Core.List.{List, ◌++◌}
use Rattle.std.specs.Prelude.{ℕ, replicate, drop}
use Rattle.std.proofs.lemmas.List.{length-replicate, length-take-le}
use Rattle.lists.proofs.Puts.{put_front}
use Rattle.facets.proofs.put_blank.Goals as goal

pub returns : goal.returns
returns c =
    let out = c.args.out.now in
    ap (λ (m : List ℕ). m ++ drop 80 out) (c.fill.ensures.after (λ y e. e) ∙ ap (λ (k : ℕ). replicate k 0) (length-take-le 80 out c.requires))
    ∙ sym (put_front out (replicate 80 0) 80 (length-replicate {A = ℕ} 80 0) c.requires)
