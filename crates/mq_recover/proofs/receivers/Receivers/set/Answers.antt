use Rattle.std.proofs.Common.{ap, ◌∙◌}
use Rattle.mq_calls.specs.Changes.{set_receiver}
use Rattle.mq_recover.proofs.SideLaws.{receivers_set}
use Rattle.mq_recover.proofs.receivers.Receivers.set.Goals as goal

pub returns : goal.returns
returns c =
    receivers_set c.args.channel c.args.hardened c.self.inside.sides.entries c.insert.new.self.entries c.in_ok-insert.ensures.entries
    ∙ ap (set_receiver (record { channel = c.args.channel; hardened = c.args.hardened })) c.self.view_is
