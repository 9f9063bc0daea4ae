use Rattle.std.specs.Prelude.{length}
use Rattle.std.proofs.Common.{ap, arith}
use Rattle.mq_world.specs.Worlds.{NetState}
use Rattle.mq_world.proofs.parts.NetParts.managers.Goals as goal

pub returns : goal.returns
returns g c = omega (arith, c.len.ensures, c.requires.kept.all, c.requires.kept.scenario.few.managers.0, c.requires.kept.scenario.few.managers.1, ap (λ (w : NetState). length w.nodes) c.self.view_is)
