use Rattle.std.specs.Prelude.{slice_get}
use Rattle.std.proofs.Common.{ap, sym, ◌∙◌}
use Rattle.mq_world.specs.Worlds.{NetState}
use Rattle.mq_world.proofs.LiftLaws.{moment_none, moment_some}
use Rattle.mq_world.proofs.parts.NetParts.moment.Goals as goal

pub returns-in-None : goal.returns-in-None
returns-in-None g c = moment_none c.args.self.now c.from.result c.args.manager c.requires.kept c.from.ensures (ap (λ (w : NetState). slice_get w.nodes c.from.result) (sym c.self.view_is) ∙ sym c.in-None.ensures)

pub returns-in-Some : goal.returns-in-Some
returns-in-Some g c = c.moment.ensures ∙ moment_some c.args.self.now c.from.result c.args.manager c.in-Some.node.now c.requires.kept c.from.ensures (ap (λ (w : NetState). slice_get w.nodes c.from.result) (sym c.self.view_is) ∙ sym c.in-Some.ensures)
