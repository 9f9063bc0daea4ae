use Rattle.std.proofs.Common.{sym}
use Rattle.mq_cabled.proofs.EndLaws.{set_none}
use Rattle.mq_cabled.proofs.ends.set_at.Goals as goal

pub returns-in-None : goal.returns-in-None
returns-in-None c = sym (set_none c.args.cable c.args.end c.args.ends.now c.requires.cable (sym c.in-None.ensures))
