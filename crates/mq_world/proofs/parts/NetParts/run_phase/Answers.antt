use Rattle.mq_world.proofs.PhaseLaws.{phase_asks, phase_keeps, phase_owns}
use Rattle.mq_world.proofs.parts.NetParts.run_phase.Goals as goal

pub phase-requires-after_bounds : goal.phase-requires-after_bounds
phase-requires-after_bounds g c κs within = phase_asks c.args.scripts.now c.self.view_is c.requires.same c.requires.kept c.requires.ready c.requires.rests c.requires.phased

pub returns-clause-kept : goal.returns-clause-kept
returns-clause-kept g c = phase_keeps c.args.scripts.now c.phase.result c.phase.new.nodes c.phase.new.courses c.phase.new.cables c.self.view_is c.requires.same c.requires.kept c.phase.ensures.ran

pub returns-clause-own : goal.returns-clause-own
returns-clause-own g c = λ is. phase_owns c.args.scripts.now c.phase.result c.phase.new.nodes c.phase.new.courses c.phase.new.cables c.self.view_is c.requires.same c.requires.kept c.phase.ensures.ran (c.phase.ensures.own is)
