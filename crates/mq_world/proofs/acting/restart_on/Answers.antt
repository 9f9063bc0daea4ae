use Rattle.std.proofs.Common.{List, ap, ◌∙◌}
use Rattle.mq_history.specs.declared.calls.Actor.TheVariants as actors
use Rattle.mq_spec_node.specs.Terms.{Entry}
use Rattle.mq_watch.specs.from_events.States.{last_entry}
use Rattle.mq_world.specs.Settling.{cut_or}
use Rattle.mq_world.proofs.NodeLaws.{restarts_then}
use Rattle.mq_world.proofs.OwnLaws.{restart_settled}
use Rattle.mq_world.proofs.acting.restart_on.Goals as goal

pub returns-in-Ok-clause-told : goal.returns-in-Ok-clause-told
returns-in-Ok-clause-told g c =
    restarts_then actors.Operator c.args.manager c.in-Ok.field-0 c.last_cut-cut.result c.args.node.now c.ask.new.node c.settle.new.node c.settle.result c.in-Ok.ensures.came
    (c.last_cut-cut.ensures ∙ ap (λ (es : List Entry). cut_or (last_entry es)) c.entries.ensures.entries) c.settle.ensures.told c.settle.ensures.value

pub returns-in-Ok-clause-own : goal.returns-in-Ok-clause-own
returns-in-Ok-clause-own g c = restart_settled g.D.Disk.tells c.args.manager c.args.node.now c.ask.new.node c.settle.new.node c.settle.result c.in-Ok.ensures.own c.settle.ensures.told
