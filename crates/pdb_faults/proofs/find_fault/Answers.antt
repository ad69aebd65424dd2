use mathlib.Core.Bool.{not}
use mathlib.Core.Path.{refl, sym, ap, ◌∙◌}
use native.Mathlib.Omega.{arith}
use Rattle.pdb_file.specs.Reading.{atoms_of}
use Rattle.pdb_file.specs.Faults.{faults}
use Rattle.pdb_file.proofs.Laws.{read_within}
use Rattle.pdb_survey.specs.Lines.{own_faults, ahead}
use Rattle.pdb_faults.proofs.AtFault.{keyed_same, fault_here, fault_on, none_left, own_on, ahead_on, no_ahead}
use Rattle.pdb_wanted.proofs.Wanted.{all_known}
use Rattle.pdb_faults.proofs.find_fault.Goals as goal

pub loop-left-init : goal.loop-left-init
loop-left-init c = let b = c.records-walk.ensures in
    record {
      text = b.text;
      line = omega arith;
      fault = ap (faults (atoms_of c.args.s.now) 1) (sym b.all);
      own = c.requires.1 ∙ ap (own_faults 1) (sym b.all);
      ahead = c.requires.2 ∙ ap ahead (sym b.all);
      wanted = all_known _ _ _ _ _ c.requires.0;
      same = λ m. (refl, refl, refl);
    }

pub returns-in_default : goal.returns-in_default
returns-in_default c = let inv = c.loop-left.invariant in
    (none_left _ _ _ _ _ inv.fault inv.own (no_ahead _ c.in_default.ensures.steps), λ m. ((inv.same m).0, (inv.same m).1))

pub refresh-n-requires : goal.refresh-n-requires
refresh-n-requires c = let inv = c.loop-left.invariant in rw inv.text inv.wanted

pub invariant_of-residues : goal.invariant_of-residues
invariant_of-residues c = let inv = c.loop-left.invariant in
    record {
      wanted = rw inv.text at c.refresh-n.ensures.0;
      all = λ m. let E = c.refresh-n.ensures.1 m in let I = inv.same m in keyed_same _ _ _ _ _ (c.requires.0.all m) (E.0 ∙ I.0) (E.2 ∙ I.2);
    }

pub overflow_sub-left : goal.overflow_sub-left
overflow_sub-left c =
    omega (arith, (ahead_on _ _ _ _ _ c.in-Some.ensures.steps.is _ c.fault_of-f.ensures (ap not (sym c.if-is_some.ensures)) _ _ c.loop-left.invariant.ahead c.count_segment-left.ensures.0).0)

pub overflow_add-line : goal.overflow_add-line
overflow_add-line c = let inv = c.loop-left.invariant in omega (arith, read_within _ _ _ _ inv.text c.in-Some.ensures.steps, inv.line)

pub loop-left-smaller : goal.loop-left-smaller
loop-left-smaller c = let o = c.in-Some.ensures.steps in omega (arith, o.more, read_within _ _ _ _ c.loop-left.invariant.text o)

pub loop-left-preserved : goal.loop-left-preserved
loop-left-preserved c =
    let inv = c.loop-left.invariant in
    let o = c.in-Some.ensures.steps in
    let f = c.fault_of-f.ensures in
    let k = ap not (sym c.if-is_some.ensures) in
    record {
      text = o.text ∙ inv.text;
      line = omega (arith, o.more, inv.line);
      fault = fault_on _ _ _ _ _ _ _ inv.fault o.is f k;
      own = own_on _ _ _ _ _ o.is _ f k _ inv.own;
      ahead = (ahead_on _ _ _ _ _ o.is _ f k _ _ inv.ahead c.count_segment-left.ensures.0).1;
      wanted = rw inv.text at c.refresh-n.ensures.0;
      same = λ m. let E = c.refresh-n.ensures.1 m in let I = inv.same m in (E.0 ∙ I.0, E.1 ∙ I.1, E.2 ∙ I.2);
    }

pub returns-then-is_some : goal.returns-then-is_some
returns-then-is_some c = let inv = c.loop-left.invariant in
    (fault_here _ _ _ _ _ _ _ inv.fault c.in-Some.ensures.steps.is c.fault_of-f.ensures (ap not (sym c.if-is_some.ensures)), λ m. let E = c.refresh-n.ensures.1 m in let I = inv.same m in (E.0 ∙ I.0, E.1 ∙ I.1))

pub returns : goal.returns
returns c = let inv = c.loop-left.invariant in
    (none_left _ _ _ _ _ inv.fault inv.own (sym inv.ahead ∙ omega (arith, c.loop-left-test.false)), λ m. ((inv.same m).0, (inv.same m).1))
