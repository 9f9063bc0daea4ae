use Rattle.std.proofs.Common.{◌≡◌, ◌+◌, ap, sym, subst, ◌∙◌}
use Rattle.mq_events.specs.States.{NodeState}
use Rattle.mq_sender.specs.States.{is_running, timed_out}
use Rattle.mq_spec_node.specs.Words.{SenderEnd}
use Rattle.mq_turn_parts.specs.declared.telling.Turn.TheVariants as turns
use Rattle.mq_turn_parts.specs.Turns.{IsDue, TimesOut}
use Rattle.mq_turn_parts.proofs.TimeLaws.{timed_so}
use Rattle.mq_turn_parts.proofs.timing.time_out.Goals as goal

pub returns-clause-kept : goal.returns-clause-kept
returns-clause-kept g c =
    let e : SenderEnd = record { cable = c.end.inside.cable; channel = c.end.inside.channel; partner = c.end.inside.partner; machine = c.end.inside.machine } in
    let is : e ≡ c.args.end = c.end.view_is in
    let all = timed_so c.args.parts.now c.leave_in.new.parts c.close_turn.new.parts e c.timed_out-after.result c.is_running.result (c.parts.inside.stamp + 1) c.new-received.result c.nothing_done-told.result.choice c.nothing_done-told.result.delta
    (subst (λ (x : SenderEnd). c.timed_out-after.result ≡ record x { machine = timed_out x.machine }) (sym is) c.timed_out-after.ensures) (c.is_running.ensures ∙ ap (λ (x : SenderEnd). is_running x.machine.state) c.after.view_is) (ap (λ (x : NodeState). x.stamp + 1) c.parts.view_is) c.new-received.ensures
    (subst (λ (x : SenderEnd). IsDue x.cable x c.args.parts.now) (sym is) c.requires.due) c.nothing_done-told.ensures.choice c.nothing_done-told.ensures.delta c.leave_in.ensures.behind c.requires.kept c.requires.served c.leave_in.ensures.same c.close_turn.ensures in
    all.kept

pub returns-clause-did : goal.returns-clause-did
returns-clause-did g c =
    let e : SenderEnd = record { cable = c.end.inside.cable; channel = c.end.inside.channel; partner = c.end.inside.partner; machine = c.end.inside.machine } in
    let is : e ≡ c.args.end = c.end.view_is in
    let all = timed_so c.args.parts.now c.leave_in.new.parts c.close_turn.new.parts e c.timed_out-after.result c.is_running.result (c.parts.inside.stamp + 1) c.new-received.result c.nothing_done-told.result.choice c.nothing_done-told.result.delta
    (subst (λ (x : SenderEnd). c.timed_out-after.result ≡ record x { machine = timed_out x.machine }) (sym is) c.timed_out-after.ensures) (c.is_running.ensures ∙ ap (λ (x : SenderEnd). is_running x.machine.state) c.after.view_is) (ap (λ (x : NodeState). x.stamp + 1) c.parts.view_is) c.new-received.ensures
    (subst (λ (x : SenderEnd). IsDue x.cable x c.args.parts.now) (sym is) c.requires.due) c.nothing_done-told.ensures.choice c.nothing_done-told.ensures.delta c.leave_in.ensures.behind c.requires.kept c.requires.served c.leave_in.ensures.same c.close_turn.ensures in
    subst (λ (x : SenderEnd). TimesOut x.cable c.args.parts.now turns.Changed c.close_turn.new.parts) is all.did

pub returns-clause-spare : goal.returns-clause-spare
returns-clause-spare g c =
    let e : SenderEnd = record { cable = c.end.inside.cable; channel = c.end.inside.channel; partner = c.end.inside.partner; machine = c.end.inside.machine } in
    let is : e ≡ c.args.end = c.end.view_is in
    let all = timed_so c.args.parts.now c.leave_in.new.parts c.close_turn.new.parts e c.timed_out-after.result c.is_running.result (c.parts.inside.stamp + 1) c.new-received.result c.nothing_done-told.result.choice c.nothing_done-told.result.delta
    (subst (λ (x : SenderEnd). c.timed_out-after.result ≡ record x { machine = timed_out x.machine }) (sym is) c.timed_out-after.ensures) (c.is_running.ensures ∙ ap (λ (x : SenderEnd). is_running x.machine.state) c.after.view_is) (ap (λ (x : NodeState). x.stamp + 1) c.parts.view_is) c.new-received.ensures
    (subst (λ (x : SenderEnd). IsDue x.cable x c.args.parts.now) (sym is) c.requires.due) c.nothing_done-told.ensures.choice c.nothing_done-told.ensures.delta c.leave_in.ensures.behind c.requires.kept c.requires.served c.leave_in.ensures.same c.close_turn.ensures in
    all.spare

pub returns-clause-waits : goal.returns-clause-waits
returns-clause-waits g c =
    let e : SenderEnd = record { cable = c.end.inside.cable; channel = c.end.inside.channel; partner = c.end.inside.partner; machine = c.end.inside.machine } in
    let is : e ≡ c.args.end = c.end.view_is in
    let all = timed_so c.args.parts.now c.leave_in.new.parts c.close_turn.new.parts e c.timed_out-after.result c.is_running.result (c.parts.inside.stamp + 1) c.new-received.result c.nothing_done-told.result.choice c.nothing_done-told.result.delta
    (subst (λ (x : SenderEnd). c.timed_out-after.result ≡ record x { machine = timed_out x.machine }) (sym is) c.timed_out-after.ensures) (c.is_running.ensures ∙ ap (λ (x : SenderEnd). is_running x.machine.state) c.after.view_is) (ap (λ (x : NodeState). x.stamp + 1) c.parts.view_is) c.new-received.ensures
    (subst (λ (x : SenderEnd). IsDue x.cable x c.args.parts.now) (sym is) c.requires.due) c.nothing_done-told.ensures.choice c.nothing_done-told.ensures.delta c.leave_in.ensures.behind c.requires.kept c.requires.served c.leave_in.ensures.same c.close_turn.ensures in
    all.waits

pub returns-clause-served : goal.returns-clause-served
returns-clause-served g c =
    let e : SenderEnd = record { cable = c.end.inside.cable; channel = c.end.inside.channel; partner = c.end.inside.partner; machine = c.end.inside.machine } in
    let is : e ≡ c.args.end = c.end.view_is in
    let all = timed_so c.args.parts.now c.leave_in.new.parts c.close_turn.new.parts e c.timed_out-after.result c.is_running.result (c.parts.inside.stamp + 1) c.new-received.result c.nothing_done-told.result.choice c.nothing_done-told.result.delta
    (subst (λ (x : SenderEnd). c.timed_out-after.result ≡ record x { machine = timed_out x.machine }) (sym is) c.timed_out-after.ensures) (c.is_running.ensures ∙ ap (λ (x : SenderEnd). is_running x.machine.state) c.after.view_is) (ap (λ (x : NodeState). x.stamp + 1) c.parts.view_is) c.new-received.ensures
    (subst (λ (x : SenderEnd). IsDue x.cable x c.args.parts.now) (sym is) c.requires.due) c.nothing_done-told.ensures.choice c.nothing_done-told.ensures.delta c.leave_in.ensures.behind c.requires.kept c.requires.served c.leave_in.ensures.same c.close_turn.ensures in
    all.served
