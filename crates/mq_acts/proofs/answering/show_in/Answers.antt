use Rattle.mq_acts.proofs.AnswerLaws.{shown_node}
use Rattle.mq_acts.proofs.answering.show_in.Goals as goal

pub returns-clause-node : goal.returns-clause-node
returns-clause-node g c =
    shown_node c.args.parts.now c.reserve.new.self c.tell_answer.new.parts c.args.actor c.args.name c.args.any_end c.in-Ok-shown.copy c.reserve.ensures.same c.in-Ok-shown.ensures c.tell_answer.ensures c.requires.node c.requires.served
