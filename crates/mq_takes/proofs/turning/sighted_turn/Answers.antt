use Rattle.mq_takes.proofs.LookLaws.{owes_none, still_so}
use Rattle.mq_spec_node.specs.Words.{is_receiver_defined}
use Rattle.mq_takes.proofs.turning.sighted_turn.Goals as goal

pub returns-in-Still : goal.returns-in-Still
returns-in-Still g c = λ o.
    still_so c.args.parts.now c.put_back.new.parts c.args.end c.args.sight.seen _ _ _ o c.requires.may.acts c.in-Still.ensures c.put_back.ensures (g.met.W.Wire.reads_none c.args.wire.now) (g.met.W.Wire.writes_none c.args.wire.now)

pub unreachable-requires : goal.unreachable-requires
unreachable-requires g c = owes_none c.args.end.machine c.args.sight.seen (is_receiver_defined c.args.end.channel c.args.parts.now.manager.plain.definitions) c.requires.owes c.in-PushOwed.ensures
