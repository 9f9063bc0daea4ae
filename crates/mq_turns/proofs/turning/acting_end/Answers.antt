use Rattle.std.proofs.Common.{rules, ◌≡◌, true}
use Rattle.std.specs.Prelude.{Some}
use Rattle.mq_calls.specs.Reads.{is_up}
use Rattle.mq_spec_node.specs.Words.{sender_end}
use Rattle.mq_turns.proofs.NodeLaws.{here_end}
use Rattle.mq_turns.proofs.turning.acting_end.Goals as goal

pub returns-in-Some : goal.returns-in-Some
returns-in-Some g c =
    let up : is_up c.args.parts.now.manager.plain.running ≡ true = search rules in
    let there : sender_end c.args.cable c.args.parts.now.own ≡ Some c.in-Some.end = search rules in
    here_end c.args.parts.now c.args.cable c.in-Some.end up there
