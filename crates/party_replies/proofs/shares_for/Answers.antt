use Prim.Native.Nat.{ℕ, ◌*◌, ◌-◌}
use mathlib.Core.List.{List}
use mathlib.Core.Path.{ap, ◌∙◌}
use Rattle.lists.specs.Put.{put}
use Rattle.party_replies.specs.Bytes.{numbers_at}
use borrow.Author.Rules.{rules}
use Rattle.party_replies.proofs.shares_for.Goals as goal

pub returns : goal.returns
returns c =
    let a = c.args in
    c.get_numbers-2.ensures ∙ ap (λ (l : List ℕ). put l 12 (numbers_at a.b.now (48 - 48 * a.k))) c.get_numbers.ensures
