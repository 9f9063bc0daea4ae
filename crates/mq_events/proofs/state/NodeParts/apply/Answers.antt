use Rattle.std.proofs.Common.{subst}
use Rattle.std.specs.Prelude.{Option, Ok}
use Rattle.mq_events.specs.declared.outcome.Outcome.{Outcome}
use Rattle.mq_events.specs.Outcomes.{Ends}
use Rattle.mq_events.proofs.StepLaws.{roomed_kept, roomed_low, applied_kept, applied_adds, waits_kept, wanted_kept, wanted_stays}
use Rattle.mq_events.proofs.state.NodeParts.apply.Goals as goal

pub returns-in_err-reserve-clause-kept : goal.returns-in_err-reserve-clause-kept
returns-in_err-reserve-clause-kept g c = roomed_kept c.args.self.now c.reserve.new.self c.requires.kept c.reserve.ensures.same

pub ask-requires-clause-low : goal.ask-requires-clause-low
ask-requires-clause-low g c = roomed_low c.args.self.now c.reserve.new.self c.requires.low c.reserve.ensures.same

pub returns-in-Err-clause-kept : goal.returns-in-Err-clause-kept
returns-in-Err-clause-kept g c = wanted_kept c.args.self.now c.reserve.new.self c.ask.new.self c.args.actor c.args.asked c.reserve.ensures.same c.ask.ensures.same _ c.requires.kept c.in-Err.ensures.ends

pub returns-in-Err-clause-did : goal.returns-in-Err-clause-did
returns-in-Err-clause-did g c = wanted_stays c.args.self.now c.reserve.new.self c.ask.new.self c.args.actor c.args.asked c.reserve.ensures.same c.ask.ensures.same _ c.in-Err.ensures.ends

pub returns-in-Ok-None-clause-kept : goal.returns-in-Ok-None-clause-kept
returns-in-Ok-None-clause-kept g c =
    let E : Option Outcome → Type 0 = λ o. Ends c.args.asked c.reserve.new.self.manager (Ok o) c.ask.new.self.manager in
    waits_kept c.args.self.now c.reserve.new.self c.ask.new.self c.args.actor c.args.asked c.reserve.ensures.same c.ask.ensures.same c.requires.kept (subst E c.in-Ok-None.field-0-is c.in-Ok-None.ensures.ends)

pub returns-in-Ok-Some-clause-kept : goal.returns-in-Ok-Some-clause-kept
returns-in-Ok-Some-clause-kept g c =
    let E : Option Outcome → Type 0 = λ o. Ends c.args.asked c.reserve.new.self.manager (Ok o) c.ask.new.self.manager in
    applied_kept c.args.self.now c.reserve.new.self c.ask.new.self c.args.actor c.args.asked c.reserve.ensures.same c.ask.ensures.same c.finish.new.self c.in-Ok-Some.outcome
    c.requires.kept c.requires.served (subst E c.in-Ok-Some.field-0-is c.in-Ok-Some.ensures.ends) c.finish.ensures

pub returns-in-Ok-Some-clause-did : goal.returns-in-Ok-Some-clause-did
returns-in-Ok-Some-clause-did g c =
    let E : Option Outcome → Type 0 = λ o. Ends c.args.asked c.reserve.new.self.manager (Ok o) c.ask.new.self.manager in
    applied_adds c.args.self.now c.reserve.new.self c.ask.new.self c.args.actor c.args.asked c.reserve.ensures.same c.ask.ensures.same c.finish.new.self c.in-Ok-Some.outcome
    (subst E c.in-Ok-Some.field-0-is c.in-Ok-Some.ensures.ends) c.finish.ensures
