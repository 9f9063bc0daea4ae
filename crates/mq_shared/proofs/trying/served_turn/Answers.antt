use Rattle.std.proofs.Common.{inl, inr}
use Rattle.mq_shared.proofs.TriedLaws.{turn_made, turn_none, turn_not}
use Rattle.mq_shared.proofs.trying.served_turn.Goals as goal

pub returns-in-Err : goal.returns-in-Err
returns-in-Err g c = inl (turn_none _ _ _ _ c.in-Err.ensures.same c.in-Err.ensures.turn)

pub returns-in-Ok-Still : goal.returns-in-Ok-Still
returns-in-Ok-Still g c = turn_not _ _ _ _ _ _ _ c.in-Ok-Still.ensures.same _ c.in-Ok-Still.field-0-is c.in-Ok-Still.ensures.turn

pub returns-in-Err-serve : goal.returns-in-Err-serve
returns-in-Err-serve g c = inr (turn_made _ _ _ _ _ _ _ _ c.in-Ok-Changed.ensures.same _ c.in-Ok-Changed.field-0-is c.in-Ok-Changed.ensures.turn c.serve.ensures.turns)

pub returns-in-Ok : goal.returns-in-Ok
returns-in-Ok g c = (turn_made _ _ _ _ _ _ _ _ c.in-Ok-Changed.ensures.same _ c.in-Ok-Changed.field-0-is c.in-Ok-Changed.ensures.turn c.serve.ensures.turns, c.in-Ok.ensures.done)
