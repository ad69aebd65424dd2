use mathlib.Core.Path.{sym, ◌∙◌}
use native.Mathlib.Omega.{arith}
use Rattle.scratch.proofs.Laws.{fill_start}
use Rattle.tables.proofs.Laws.{turn_hit, turn_miss, turn_out, turn_kept}
use Rattle.tables.proofs.note.Goals as goal

pub returns-then-not-is_wanted : goal.returns-then-not-is_wanted
returns-then-not-is_wanted c = turn_miss _ _ _ _ _ _ _ _ _ (fill_start _ _ _ _ c.requires.by_index) (sym c.is_wanted.ensures ∙ c.if-not-is_wanted.true)

pub returns-then-r-residues : goal.returns-then-r-residues
returns-then-r-residues c = turn_out _ _ _ _ _ _ _ _ _ (fill_start _ _ _ _ c.requires.by_index) (λ i l e. omega (arith, c.if-r-residues.true, c.residue-r.ensures))

pub returns-then-residues-r : goal.returns-then-residues-r
returns-then-residues-r c = turn_out _ _ _ _ _ _ _ _ _ (fill_start _ _ _ _ c.requires.by_index) (λ i l e. omega (arith, c.if-r-residues.false, c.if-residues-r.true, c.residue-r.ensures))

pub returns-then-is_kept : goal.returns-then-is_kept
returns-then-is_kept c = turn_kept _ _ _ _ _ _ _ _ _ (fill_start _ _ _ _ c.requires.by_index) _ c.residue-r.ensures c.if-r-residues.false (omega (arith, c.if-r-residues.false, c.if-residues-r.false)) (sym c.is_kept.ensures ∙ c.if-is_kept.true)

pub returns : goal.returns
returns c =
    let pre = c.requires in
    let left = c.if-r-residues.false in
    turn_hit _ _ _ _ _ _ _ _ _ (fill_start _ _ _ _ c.requires.by_index) _ (omega (arith, left, c.if-residues-r.false, c.requires.whole.2, c.requires.whole.3)) c.residue-r.ensures left (omega (arith, left, c.if-residues-r.false)) (sym c.is_kept.ensures ∙ c.if-is_kept.false) (sym c.is_wanted.ensures ∙ c.if-not-is_wanted.false)
