use Rattle.mq_spec_node.specs.Words.{bind_parts}
use Rattle.mq_takes.proofs.WorkLaws.{binding_so, want_so}
use Rattle.mq_takes.specs.Takes.{whole}
use Rattle.mq_takes.proofs.binding.binding_turn.Goals as goal

pub returns-in-Err : goal.returns-in-Err
returns-in-Err g c = λ o.
    want_so c.args.parts.now c.bind_at.new.parts c.put_back.new.parts c.args.end _ _ _ _ _ o c.requires.may.acts c.bind_at.ensures.same c.in-Err.ensures.told c.put_back.ensures (g.met.W.Wire.reads_none c.args.wire.now) (g.met.W.Wire.writes_none c.args.wire.now)

pub returns-in-Ok : goal.returns-in-Ok
returns-in-Ok g c = λ o.
    c.work_done.ensures o c.args.end (whole c.args.end c.args.parts.now) (bind_parts c.args.end c.end_emptied-last.result.machine c.args.parts.now.manager.plain)
    (binding_so c.args.parts.now c.bind_at.new.parts c.put_back-in-Ok.new.parts c.args.end c.end_emptied-last.result c.new-received.result c.args.sight.seen c.args.sight.stamp c.in-Ok.told.choice c.in-Ok.told.delta
    c.requires.may.acts c.requires.next c.end_emptied-last.ensures c.new-received.ensures c.in-Ok.ensures.told c.bind_at.ensures.same c.put_back-in-Ok.ensures)
