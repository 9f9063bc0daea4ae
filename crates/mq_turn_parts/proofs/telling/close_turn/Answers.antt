use Rattle.mq_spec_node.specs.Words.{with_end}
use Rattle.mq_turn_parts.proofs.TurnLaws.{closed_so}
use Rattle.mq_turn_parts.proofs.telling.close_turn.Goals as goal

pub returns : goal.returns
returns g c = λ s d before a told same kept served. closed_so s c.args.parts.now c.keep_end.new.parts c.tell_turn.new.parts c.args.actor c.args.call c.args.told.choice c.args.told.delta (with_end c.args.end c.args.parts.now.own) c.args.passed c.args.received d
    c.keep_end.ensures c.tell_turn.ensures before a told same kept served
