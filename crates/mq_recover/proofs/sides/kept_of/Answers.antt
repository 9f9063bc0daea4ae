use Rattle.std.proofs.Common.{sym, ap, ◌∙◌}
use Rattle.std.specs.Prelude.{option_map}
use Rattle.mq_recover.specs.Kept.{key_named, hardened_of}
use Rattle.mq_recover.proofs.SideLaws.{sender_found}
use Rattle.mq_recover.proofs.sides.kept_of.Goals as goal

pub returns : goal.returns
returns c = λ struck. sender_found (key_named c.args.channel.now) struck c.args.sides.now.entries ∙ sym (ap (option_map (hardened_of struck)) c.get.ensures.value)
