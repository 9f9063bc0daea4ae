use Rattle.std.proofs.Common.{ℕ, ◌+◌, ap, ◌∙◌}
use Rattle.mq_spec_node.specs.Words.{Handler}
use Rattle.mq_spec_manager.specs.Agents.{move_row}
use Rattle.mq_handle.specs.Treatments.{later, moving}
use Rattle.mq_handle.proofs.TreatLaws.{move_refused, move_cut, move_short, remembered_is, reserved_is, treated_like}
use Rattle.mq_handle.proofs.treating.move_letter.Goals as goal

pub returns-in-Refused : goal.returns-in-Refused
returns-in-Refused g c =
    let interval = ap (λ (x : Handler). later c.args.queue.now c.args.ident.now c.args.rule.now (c.args.failed + 1) x.table.retry_interval c.moment.result) c.handler.view_is in
    let moment = ap (λ (m : ℕ). later c.args.queue.now c.args.ident.now c.args.rule.now (c.args.failed + 1) c.args.handler.now.table.retry_interval m) c.moment.ensures in
    move_refused c.args.queue.now c.args.ident.now c.args.rule.now c.args.failed c.args.handler.now c.args.manager.now c.move_row.new.self (move_row c.args.queue.now c.args.ident.now c.args.rule.now.to c.args.rule.now.bare c.args.manager.now.plain)
    c.move_row.result _ _ c.tell-in-Refused.new.manager c.in-Refused.ensures c.move_row.ensures.meets
    (c.tell-in-Refused.ensures.choice, c.tell-in-Refused.ensures.reply, c.tell-in-Refused.ensures.delta, c.tell-in-Refused.ensures.after)
    (remembered_is c.handler.inside.number c.handler.inside.table c.handler.inside.tried.items c.reserve.new.self.items c.remember.new.tried.items c.args.handler.now c.in-Ok.tried _ c.handler.view_is c.reserve.ensures.items c.remember.ensures (c.in-Ok.ensures ∙ interval ∙ moment))

pub returns-in-Stopped : goal.returns-in-Stopped
returns-in-Stopped g c =
    treated_like (moving c.args.queue.now c.args.ident.now c.args.rule.now c.args.failed c.args.handler.now c.args.manager.now.plain (move_row c.args.queue.now c.args.ident.now c.args.rule.now.to c.args.rule.now.bare c.args.manager.now.plain))
    c.args.handler.now c.args.manager.now c.tell-in-Stopped.result _ c.tell-in-Stopped.new.manager
    (reserved_is c.handler.inside.number c.handler.inside.table c.handler.inside.tried.items c.reserve.new.self.items c.args.handler.now c.handler.view_is c.reserve.ensures.items)
    (move_cut c.args.queue.now c.args.ident.now c.args.rule.now c.args.failed c.args.handler.now c.args.manager.now c.move_row.new.self (move_row c.args.queue.now c.args.ident.now c.args.rule.now.to c.args.rule.now.bare c.args.manager.now.plain)
    c.move_row.result c.in-Stopped.by c.tell-in-Stopped.result c.tell-in-Stopped.new.manager (move_short c.args.queue.now c.args.ident.now c.args.rule.now.to c.args.rule.now.bare c.args.manager.now.plain) c.in-Stopped.ensures c.move_row.ensures.meets
    (c.tell-in-Stopped.ensures.choice, c.tell-in-Stopped.ensures.reply, c.tell-in-Stopped.ensures.delta, c.tell-in-Stopped.ensures.after))
