use Rattle.std.proofs.Common.{◌<◌, List, length, refl, sym, ap, ◌∙◌, arith}
use Rattle.std.specs.Prelude.{slice_get}
use Rattle.std.proofs.lemmas.Option.{slice_get_read}
use Rattle.mq_acts.specs.from_events.States.{NodeState}
use Rattle.mq_shared.proofs.ReadyLaws.{all_ready, may_more}
use Rattle.mq_shared.proofs.phasing.phase_ends.Goals as goal

pub loop-at-preserved : goal.loop-at-preserved
loop-at-preserved g c =
    let same = ap (λ (ns : List NodeState). length ns) c.as_slice.ensures in
    let lt : c.loop-at.at < length c.as_slice.result.now = omega (arith, c.loop-at-test.true, c.len-at-end.ensures, same) in
    record {
      may = may_more c.args.nodes.now c.loop-at.at c.index-as_slice-at.result c.loop-at.invariant.may
          (sym (ap (λ (ns : List NodeState). slice_get ns c.loop-at.at) c.as_slice.ensures) ∙ slice_get_read _ _ _ _ refl lt c.index-as_slice-at.is) (sym c.is_spent.ensures.spent ∙ c.if-is_spent.false);
    }

pub returns-clause-ends : goal.returns-clause-ends
returns-clause-ends g c = all_ready c.args.nodes.now c.loop-at.at (omega (arith, c.loop-at-test.false, c.len-at-end.ensures)) c.loop-at.invariant.may (c.requires.done c.if-wants.false)
