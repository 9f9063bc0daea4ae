use Rattle.std.specs.Prelude.{ℕ, Result}
use Rattle.std.proofs.Common.{subst, sym}
use Rattle.mq_spec_network.specs.Tasks.Slot.{TimesOut}
use Rattle.mq_steps.specs.declared.pumping.Halt.{Halt}
use Rattle.mq_steps.specs.Counts.{Counts}
use Rattle.mq_steps.proofs.CountLaws.{any_left, none_counted, turn_counted}
use Rattle.mq_steps.proofs.pumping.times_out.Goals as goal

pub returns-then-left-eq0-clause-counted : goal.returns-then-left-eq0-clause-counted
returns-then-left-eq0-clause-counted g c = none_counted c.args.left (g.N.Nodes.course c.args.nodes.now) c.if-left-eq0.true

pub returns-clause-counted : goal.returns-clause-counted
returns-clause-counted g c =
    let old = g.N.Nodes.course c.args.nodes.now in
    let new = g.N.Nodes.course c.timeout.new.self in
    subst (λ (r : Result ℕ Halt). Counts c.args.left r old new) (sym c.left_after.ensures)
    (turn_counted TimesOut c.args.cable c.args.left c.timeout.result old new (any_left c.args.left c.if-left-eq0.false) c.requires.there c.timeout.ensures.told)
