use Rattle.std.proofs.Common.{rules, ◌≡◌, true}
use Rattle.std.specs.Prelude.{Some}
use Rattle.mq_sender.specs.States.{awaits}
use Rattle.mq_calls.specs.Reads.{is_up}
use Rattle.mq_spec_node.specs.Words.{sender_end}
use Rattle.mq_turn_parts.proofs.DueLaws.{due_end}
use Rattle.mq_turn_parts.proofs.timing.waiting_end.Goals as goal

pub returns-then-awaits : goal.returns-then-awaits
returns-then-awaits g c =
    let up : is_up c.args.parts.now.manager.plain.running ≡ true = search rules in
    let there : sender_end c.args.cable c.args.parts.now.own ≡ Some c.in-Some.end = search rules in
    let waits : awaits c.in-Some.end.machine.state ≡ true = search rules in
    due_end c.args.parts.now c.args.cable c.in-Some.end up there waits
