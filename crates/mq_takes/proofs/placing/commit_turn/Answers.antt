use Rattle.std.proofs.Common.{ℕ, ap, subst, ◌∙◌}
use Rattle.std.specs.Prelude.{Ok}
use Rattle.mq_receiver.specs.After.{last_by}
use Rattle.mq_receiver.specs.declared.turns.ReceiverDoes.TheVariants as does
use Rattle.mq_receiver.specs.declared.turns.ReceiverOut.TheVariants as outs
use Rattle.mq_spec_manager.specs.Agents.{receive}
use Rattle.mq_spec_node.specs.Words.{close_parts, parts_of}
use Rattle.mq_takes.proofs.PlaceLaws.{placing_so, refusing_so}
use Rattle.mq_takes.proofs.WorkLaws.{want_so}
use Rattle.mq_takes.specs.Placing.{CommitAs}
use Rattle.mq_takes.specs.Takes.{emptied, whole}
use Rattle.mq_takes.specs.declared.receiving.CommitTold.{CommitTold}
use Rattle.mq_takes.proofs.placing.commit_turn.Goals as goal

pub returns-in-Err : goal.returns-in-Err
returns-in-Err g c = λ o.
    want_so c.args.parts.now c.commit_in.new.parts c.put_back.new.parts c.args.end _ _ _ _ _ o c.requires.may.acts c.commit_in.ensures.same c.in-Err.ensures.told c.put_back.ensures (g.met.W.Wire.reads_none c.args.wire.now) (g.met.W.Wire.writes_none c.args.wire.now)

pub returns-in-Ok-Placed : goal.returns-in-Ok-Placed
returns-in-Ok-Placed g c = λ o.
    let M : CommitTold → Type 0 = λ x. CommitAs c.args.end (receive c.args.end.channel c.args.unit c.last_number-number.result c.args.end.kept c.args.parts.now.manager.plain) (Ok x) c.args.parts.now.manager c.commit_in.new.parts.manager in
    let m = subst M c.in-Ok-Placed.field-0-is c.in-Ok-Placed.ensures.told in
    c.work_done.ensures o c.args.end (whole c.args.end c.args.parts.now) (parts_of (receive c.args.end.channel c.args.unit (last_by c.args.sight.seen c.args.end.machine.last) c.args.end.kept c.args.parts.now.manager.plain))
    (placing_so c.args.parts.now c.commit_in.new.parts c.put_back-in-Ok-Placed.new.parts c.args.end c.end_emptied-last.result c.args.unit c.last_number-number.result c.args.received c.args.sight.seen c.args.sight.stamp c.in-Ok-Placed.told.choice c.in-Ok-Placed.told.delta
    c.requires.may.acts c.requires.takes c.requires.next c.last_number-number.ensures c.end_emptied-last.ensures m.0 m.1 c.commit_in.ensures.same c.put_back-in-Ok-Placed.ensures)

pub returns-in-Ok-Refused : goal.returns-in-Ok-Refused
returns-in-Ok-Refused g c = λ o.
    let M : CommitTold → Type 0 = λ x. CommitAs c.args.end (receive c.args.end.channel c.args.unit c.last_number-number.result c.args.end.kept c.args.parts.now.manager.plain) (Ok x) c.args.parts.now.manager c.commit_in.new.parts.manager in
    let m = subst M c.in-Ok-Refused.field-0-is c.in-Ok-Refused.ensures.told in
    c.work_done-in-Ok-Refused.ensures o c.args.end (whole c.args.end c.args.parts.now) (close_parts c.args.end c.args.parts.now.manager.plain)
    (refusing_so c.args.parts.now c.commit_in.new.parts c.put_back-in-Ok-Refused.new.parts c.args.end c.end_emptied-last-in-Ok-Refused.result c.args.unit c.in-Ok-Refused.reason c.last_number-number.result c.new-none.result c.args.sight.seen c.args.sight.stamp c.in-Ok-Refused.told.choice c.in-Ok-Refused.told.delta
    c.requires.may.acts c.requires.next c.last_number-number.ensures (c.end_emptied-last-in-Ok-Refused.ensures ∙ ap (λ (n : ℕ). emptied c.args.end (does.Place c.args.unit) c.args.sight.seen (outs.Refused n)) c.number.ensures) c.new-none.ensures m.0 m.1 c.commit_in.ensures.same c.put_back-in-Ok-Refused.ensures)
