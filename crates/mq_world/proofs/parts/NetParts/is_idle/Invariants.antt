use Rattle.mq_world.specs.Worlds.{course_in}
use Rattle.mq_world.proofs.IdleLaws.{IdleTo}
use Rattle.mq_world.proofs.parts.NetParts.is_idle.Given as goal

abbrev pub invariant-loop-cable : goal.invariant-loop-cable
invariant-loop-cable g l = IdleTo (course_in l.fn.self).net l.fn.self.scenario.cables l.cable
