use Rattle.std.proofs.Common.{sym, ap, ◌∙◌}
use Rattle.mq_sync.specs.Settlement.{receiver_or}
use Rattle.mq_calls.specs.Reads.{receiver_in}
use Rattle.mq_recover.specs.Kept.{key_named}
use Rattle.mq_recover.proofs.SideLaws.{receiver_found}
use Rattle.mq_recover.proofs.receivers.Receivers.at.Goals as goal

pub returns-in-None : goal.returns-in-None
returns-in-None c =
    c.blank.ensures ∙ ap receiver_or (c.in-None.ensures.value ∙ sym (receiver_found (key_named c.args.channel.now) c.self.inside.sides.entries) ∙ ap (receiver_in c.args.channel.now) c.self.view_is)

pub returns-in-Some : goal.returns-in-Some
returns-in-Some c =
    c.copy_receiver.ensures ∙ ap receiver_or (c.in-Some.ensures.value ∙ sym (receiver_found (key_named c.args.channel.now) c.self.inside.sides.entries) ∙ ap (receiver_in c.args.channel.now) c.self.view_is)
