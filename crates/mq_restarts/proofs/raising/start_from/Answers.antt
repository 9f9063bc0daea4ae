use Rattle.std.proofs.Common.{refl}
use Rattle.mq_restarts.proofs.StepLaws.{low_built, started, wanted}
use Rattle.mq_restarts.proofs.raising.start_from.Goals as goal

pub start_built-requires-clause-low : goal.start_built-requires-clause-low
start_built-requires-clause-low g c = low_built c.args.image c.in-Ok.built c.in-Ok.ensures c.requires.low

pub returns-clause-ends : goal.returns-clause-ends
returns-clause-ends g c = started c.args.parts.now c.start_built.new.parts c.args.image c.in-Ok.built c.start_built.result c.in-Ok.ensures c.start_built.ensures.raised

pub returns-in-Err-clause-ends : goal.returns-in-Err-clause-ends
returns-in-Err-clause-ends g c = wanted c.args.parts.now c.args.image _ refl refl
