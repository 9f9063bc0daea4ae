use Rattle.mq_sender.proofs.state.Sender.next.Goals as goal

pub returns-in-Frame : goal.returns-in-Frame
returns-in-Frame c = rw (c.in-Frame.is) (c.answered.ensures c.args.stock.now)
