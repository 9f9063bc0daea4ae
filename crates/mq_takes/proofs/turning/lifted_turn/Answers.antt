use Rattle.std.proofs.Common.{sym}
use Rattle.mq_takes.specs.Takes.{whole}
use Rattle.mq_takes.proofs.LookLaws.{owed_seen}
use Rattle.mq_takes.proofs.turning.lifted_turn.Goals as goal

pub returns-in-Some : goal.returns-in-Some
returns-in-Some g c = owed_seen _ _ _ _ _ _ c.args.end c.in-Some.owed (whole c.args.end c.args.parts.now) c.owed_turn.new.parts c.owed_turn.result c.requires.may.acts (sym c.in-Some.ensures) c.owed_turn.ensures

pub returns-in-None : goal.returns-in-None
returns-in-None g c = c.seen_turn.ensures c.args.offers.now
