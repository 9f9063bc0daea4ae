use Rattle.std.specs.Prelude.{ℕ, All}
use Rattle.std.proofs.Common.{subst}
use Rattle.mq_world.specs.Starting.{IsRoom}
use Rattle.mq_world.proofs.starting.start_room.Goals as goal

pub returns-clause-rooms : goal.returns-clause-rooms
returns-clause-rooms g c = (c.in_ok-rooms.ensures.all, subst (λ (n : ℕ). All (IsRoom n) c.in_ok-rooms.rooms.items) c.len.ensures c.in_ok-rooms.ensures.each)
