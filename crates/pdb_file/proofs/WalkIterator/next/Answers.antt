use mathlib.Core.Path.{refl, sym, ◌∙◌}
use Rattle.pdb_file.proofs.Laws.{rest_over, rest_stop, rest_on}
use Rattle.pdb_file.proofs.WalkIterator.next.Goals as goal

pub returns-then-s-at-clause-steps : goal.returns-then-s-at-clause-steps
returns-then-s-at-clause-steps c = rest_over _ _ _ c.if-s-at.true

pub returns-then-stops_at-clause-steps : goal.returns-then-stops_at-clause-steps
returns-then-stops_at-clause-steps c = rest_stop _ _ _ _ _ c.line_at-l.ensures _ c.kind_of-k.ensures (sym c.stops_at.ensures ∙ c.if-stops_at.true)

pub returns-clause-steps : goal.returns-clause-steps
returns-clause-steps c = record {
  is = rest_on _ _ _ _ _ c.line_at-l.ensures _ _ _ c.kind_of-k.ensures (sym c.stops_at.ensures ∙ c.if-stops_at.false) c.record_of.ensures c.saw_model-self.ensures;
  text = refl;
  more = c.line_at-l.ensures.onward;
}
