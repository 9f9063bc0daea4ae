use Rattle.std.specs.Prelude.{◌-◌, vec_len, vec_capacity}
use Rattle.std.proofs.Common.{ap, sym, ◌∙◌}
use Rattle.mq_spec_node.specs.Words.{Own, begun_anew, node_of, opening_node}
use Rattle.mq_watch.specs.from_events.States.{NodeState}
use Rattle.mq_world_begin.specs.Rested.{as_given}
use Rattle.mq_world.specs.Starting.{around, own_begun}
use Rattle.mq_world.proofs.StartLaws.{made_so}
use Rattle.mq_world.proofs.starting.begun_node.Goals as goal

pub new-requires-clause-opens : goal.new-requires-clause-opens
new-requires-clause-opens g c =
    ap (node_of c.args.manager.plain) (c.begin.ensures ∙ ap (λ (own : Own). (begun_anew c.args.manager.plain own).own) c.rewind.ensures)
    ∙ c.requires.opens
    ∙ ap (λ (own : Own). opening_node (around c.args.log_max own c.args.history) c.args.history) (sym (c.of-first.ensures ∙ c.rewind.ensures))

pub returns-clause-same : goal.returns-clause-same
returns-clause-same g c =
    made_so c.args.log_max c.args.manager c.begin.new.own c.of-first.result.value (own_begun c.args.manager c.args.own) (as_given c.args.own) c.args.history c.new-entries.result.list c.args.marks.items c.new-entries.result.room
    (vec_capacity c.args.marks - vec_len c.args.marks) c.new.result c.requires.entries c.requires.marks c.new-entries.ensures.none c.requires.none (c.begin.ensures ∙ ap (λ (own : Own). (begun_anew c.args.manager.plain own).own) c.rewind.ensures) (c.of-first.ensures ∙ c.rewind.ensures) c.new.ensures

pub returns-clause-room : goal.returns-clause-room
returns-clause-room g c = ap (λ (n : NodeState). n.marks) c.new.ensures
