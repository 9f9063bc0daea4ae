use Rattle.std.proofs.Common.{◌+◌, ap, ◌∙◌}
use Rattle.mq_events.specs.States.{NodeState}
use Rattle.mq_acts.specs.Restarts.{restart_entry}
use Rattle.mq_acts.proofs.RestartLaws.{roomed, roomed_stays, unchanged_node, unchanged_stays, restart_node, restart_told}
use Rattle.mq_acts.proofs.restarting.restart_in.Goals as goal

pub returns-then-is_err-clause-node : goal.returns-then-is_err-clause-node
returns-then-is_err-clause-node g c = roomed c.args.parts.now c.reserve.new.self c.reserve.ensures.same c.requires.node

pub returns-then-is_err-clause-did : goal.returns-then-is_err-clause-did
returns-then-is_err-clause-did g c = roomed_stays c.args.parts.now c.reserve.new.self c.reserve.ensures.same

pub returns-in-Err-clause-node : goal.returns-in-Err-clause-node
returns-in-Err-clause-node g c = unchanged_node c.args.parts.now c.reserve.new.self c.restart_parts.new.parts c.reserve.ensures.same c.restart_parts.ensures.same c.in-Err.ensures.ends c.requires.node

pub returns-in-Err-clause-did : goal.returns-in-Err-clause-did
returns-in-Err-clause-did g c = unchanged_stays c.args.parts.now c.reserve.new.self c.restart_parts.new.parts c.reserve.ensures.same c.restart_parts.ensures.same c.in-Err.ensures.ends

pub returns-clause-node : goal.returns-clause-node
returns-clause-node g c =
    restart_node g.D.Disk.tells c.args.parts.now c.reserve.new.self c.restart_parts.new.parts c.begin_parts.new.parts c.add.new.self c.reserve.ensures.same c.restart_parts.ensures.same c.args.actor c.in-Ok.r c.begin_parts.ensures.same c.restart_entry-entry.result (c.restart_entry-entry.ensures ∙ ap (λ (x : NodeState). restart_entry (x.stamp + 1) c.args.actor c.in-Ok.r) c.parts.view_is) c.add.ensures c.in-Ok.ensures.ends
    c.requires.node c.requires.served c.begin_parts.ensures.few

pub returns-clause-did : goal.returns-clause-did
returns-clause-did g c =
    restart_told g.D.Disk.tells c.args.parts.now c.reserve.new.self c.restart_parts.new.parts c.begin_parts.new.parts c.add.new.self c.reserve.ensures.same c.restart_parts.ensures.same c.args.actor c.in-Ok.r c.begin_parts.ensures.same c.restart_entry-entry.result (c.restart_entry-entry.ensures ∙ ap (λ (x : NodeState). restart_entry (x.stamp + 1) c.args.actor c.in-Ok.r) c.parts.view_is) c.add.ensures c.in-Ok.ensures.ends
    c.acted_by.result c.requires.node c.requires.served c.acted_by.ensures
