use Rattle.std.proofs.Common.{sym, ap, ◌∙◌}
use Rattle.mq_queue.specs.Queues.{message_of}
use Rattle.mq_agents.specs.from_place.States.{rows_in}
use Rattle.mq_agents.specs.from_core.Views.{PartsValue, plain_of}
use Rattle.mq_moves.proofs.LandLaws.{bare_dead}
use Rattle.mq_moves.proofs.rules.moved_message.Goals as goal

pub message_at-requires : goal.message_at-requires
message_at-requires g c =
    let there = ap (λ (x : PartsValue). message_of c.args.ident.now (rows_in c.args.from.now x.queues.states)) (sym c.parts.view_is) ∙ sym c.in-Some.ensures in
    bare_dead c.args.from.now c.args.ident.now c.args.bare (plain_of c.args.parts.now) c.in-Some.message.now c.requires.can there
