use Rattle.std.specs.Prelude.{length}
use Rattle.std.proofs.Common.{ap, arith}
use Rattle.mq_world.specs.Worlds.{NetState}
use Rattle.mq_world.proofs.parts.NetParts.cables.Goals as goal

pub returns : goal.returns
returns g c = omega (arith, c.len.ensures, c.requires.kept.joined, c.requires.kept.scenario.few.cables, ap (λ (w : NetState). length w.cables) c.self.view_is)
