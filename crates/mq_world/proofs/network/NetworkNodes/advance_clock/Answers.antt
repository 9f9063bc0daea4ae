use Rattle.std.specs.Prelude.{◌≡◌, OnOk}
use Rattle.std.proofs.Common.{subst}
use Rattle.mq_spec_network.specs.Tasks.{moment_of}
use Rattle.mq_spec_network.specs.Turns.{node_at}
use Rattle.mq_nodes.specs.Told.{later}
use Rattle.mq_world.specs.Worlds.{NetState, course_in}
use Rattle.mq_world.proofs.network.NetworkNodes.advance_clock.Goals as goal

pub returns-clause-moment : goal.returns-clause-moment
returns-clause-moment g c =
    subst (λ (w : NetState). OnOk c.advance_clock.result (moment_of (node_at (course_in c.advance_clock.new.self).net c.args.manager) ≡ later (moment_of (node_at (course_in w).net c.args.manager)) c.args.ms)) c.self.view_is
    c.advance_clock.ensures.moment
