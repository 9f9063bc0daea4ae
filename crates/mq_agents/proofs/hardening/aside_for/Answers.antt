use Rattle.mq_core.proofs.PutLaws.{ready_roomier}
use Rattle.mq_agents.proofs.WriteLaws.{more_trans}
use Rattle.mq_agents.proofs.hardening.aside_for.Goals as goal

pub returns-clause-more : goal.returns-clause-more
returns-clause-more g c = more_trans c.args.parts.now c.seat_channel.new.parts c.aside_session.new.parts c.seat_channel.ensures.more c.aside_session.ensures.more

pub returns-in-Err-aside_session-clause-more : goal.returns-in-Err-aside_session-clause-more
returns-in-Err-aside_session-clause-more g c = more_trans c.args.parts.now c.seat_channel.new.parts c.aside_session.new.parts c.seat_channel.ensures.more c.aside_session.ensures.more

pub returns-clause-ready : goal.returns-clause-ready
returns-clause-ready g c = λ ready. c.in-Ok-aside_session.ensures.ready (ready_roomier c.args.parts.now c.seat_channel.new.parts c.seat_channel.ensures.more ready) c.in-Ok.ensures.seat
