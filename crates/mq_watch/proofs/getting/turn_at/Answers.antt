use Rattle.std.proofs.Common.{◌≡◌, ◌∙◌, sym, subst}
use Rattle.std.proofs.lemmas.Result.{err_from_is_err_and}
use Rattle.std.specs.Prelude.{Option, Ok}
use Rattle.mq_history.specs.declared.calls.Actor.TheVariants as actors
use Rattle.mq_events.specs.declared.outcome.Outcome.{Outcome}
use Rattle.mq_events.specs.Outcomes.{Ends}
use Rattle.mq_history.specs.declared.calls.Call.{Call}
use Rattle.mq_events.specs.States.{finished}
use Rattle.mq_events.proofs.StepLaws.{roomed_kept, roomed_stays, applied_kept, wanted_kept, wanted_stays}
use Rattle.mq_events.proofs.KeepLaws.{asked_counts, finished_counts, roomed_counts}
use Rattle.mq_watch.specs.declared.getting.Monitored.{Monitored}
use Rattle.mq_watch.specs.Turns.{Turns, get_of}
use Rattle.mq_watch.proofs.MonitorLaws.{room_left, short_turn, stamp_left, waits_turn, refused_kept, refused_turn, got_did}
use Rattle.mq_watch.proofs.getting.turn_at.Goals as goal

pub returns-in_err-reserve-clause-kept : goal.returns-in_err-reserve-clause-kept
returns-in_err-reserve-clause-kept g c = roomed_kept c.args.parts.now c.reserve.new.self c.requires.kept c.reserve.ensures.same

pub returns-in-Err-clause-kept : goal.returns-in-Err-clause-kept
returns-in-Err-clause-kept g c = wanted_kept c.args.parts.now c.reserve.new.self c.get.new.parts (actors.Monitor c.args.number) (get_of c.args.watched.now) c.reserve.ensures.same c.get.ensures.same _ c.requires.kept c.in-Err.ensures.ends

pub returns-in-Err-clause-did : goal.returns-in-Err-clause-did
returns-in-Err-clause-did g c = wanted_stays c.args.parts.now c.reserve.new.self c.get.new.parts (actors.Monitor c.args.number) (get_of c.args.watched.now) c.reserve.ensures.same c.get.ensures.same _ c.in-Err.ensures.ends

pub returns-in-Ok-None-clause-kept : goal.returns-in-Ok-None-clause-kept
returns-in-Ok-None-clause-kept g c =
    let E : Option Outcome → Type 0 = λ o. Ends (get_of c.args.watched.now) c.reserve.new.self.manager (Ok o) c.get.new.parts.manager in
    absurd (waits_turn c.args.number c.args.parts.now c.reserve.new.self c.get.new.parts c.args.watched.now c.reserve.ensures.same c.get.ensures.same c.requires.watched c.requires.fits (subst E c.in-Ok-None.field-0-is c.in-Ok-None.ensures.ends))

pub returns-in-Ok-None-clause-did : goal.returns-in-Ok-None-clause-did
returns-in-Ok-None-clause-did g c =
    let E : Option Outcome → Type 0 = λ o. Ends (get_of c.args.watched.now) c.reserve.new.self.manager (Ok o) c.get.new.parts.manager in
    absurd (waits_turn c.args.number c.args.parts.now c.reserve.new.self c.get.new.parts c.args.watched.now c.reserve.ensures.same c.get.ensures.same c.requires.watched c.requires.fits (subst E c.in-Ok-None.field-0-is c.in-Ok-None.ensures.ends))

pub returns-then-is_refused-clause-kept : goal.returns-then-is_refused-clause-kept
returns-then-is_refused-clause-kept g c =
    let E : Option Outcome → Type 0 = λ o. Ends (get_of c.args.watched.now) c.reserve.new.self.manager (Ok o) c.get.new.parts.manager in
    refused_kept c.args.number c.args.parts.now c.reserve.new.self c.get.new.parts c.args.watched.now c.reserve.ensures.same c.get.ensures.same c.requires.watched c.requires.fits c.in-Ok-Some.outcome
    c.requires.kept (subst E c.in-Ok-Some.field-0-is c.in-Ok-Some.ensures.ends) (sym c.is_refused.ensures ∙ c.if-is_refused.true)

pub returns-then-is_refused-clause-did : goal.returns-then-is_refused-clause-did
returns-then-is_refused-clause-did g c =
    let E : Option Outcome → Type 0 = λ o. Ends (get_of c.args.watched.now) c.reserve.new.self.manager (Ok o) c.get.new.parts.manager in
    refused_turn c.args.number c.args.parts.now c.reserve.new.self c.get.new.parts c.args.watched.now c.reserve.ensures.same c.get.ensures.same c.requires.watched c.requires.fits c.in-Ok-Some.outcome
    (subst E c.in-Ok-Some.field-0-is c.in-Ok-Some.ensures.ends) (sym c.is_refused.ensures ∙ c.if-is_refused.true)

pub returns-else-is_refused-clause-kept : goal.returns-else-is_refused-clause-kept
returns-else-is_refused-clause-kept g c =
    let E : Option Outcome → Type 0 = λ o. Ends (get_of c.args.watched.now) c.reserve.new.self.manager (Ok o) c.get.new.parts.manager in
    let F : Call → Type 0 = λ y. c.finish.new.self ≡ finished (actors.Monitor c.args.number) y c.in-Ok-Some.outcome c.get.new.parts in
    applied_kept c.args.parts.now c.reserve.new.self c.get.new.parts (actors.Monitor c.args.number) (get_of c.args.watched.now) c.reserve.ensures.same c.get.ensures.same c.finish.new.self c.in-Ok-Some.outcome
    c.requires.kept c.requires.served (subst E c.in-Ok-Some.field-0-is c.in-Ok-Some.ensures.ends) (subst F c.get_of.ensures c.finish.ensures)

pub returns-else-is_refused-clause-did : goal.returns-else-is_refused-clause-did
returns-else-is_refused-clause-did g c =
    let E : Option Outcome → Type 0 = λ o. Ends (get_of c.args.watched.now) c.reserve.new.self.manager (Ok o) c.get.new.parts.manager in
    let F : Call → Type 0 = λ y. c.finish.new.self ≡ finished (actors.Monitor c.args.number) y c.in-Ok-Some.outcome c.get.new.parts in
    let T : Monitored → Type 0 = λ m. Turns c.args.number c.args.parts.now (Ok m) c.finish.new.self in
    subst T (sym c.answer_of.ensures) (got_did c.args.number c.args.parts.now c.reserve.new.self c.get.new.parts c.args.watched.now c.reserve.ensures.same c.get.ensures.same c.requires.watched c.requires.fits c.finish.new.self c.in-Ok-Some.outcome _
    (subst E c.in-Ok-Some.field-0-is c.in-Ok-Some.ensures.ends) (sym c.is_refused.ensures ∙ c.if-is_refused.false) c.begun_by-script.ensures (subst F c.get_of.ensures c.finish.ensures))

pub returns-in_err-reserve-clause-counts : goal.returns-in_err-reserve-clause-counts
returns-in_err-reserve-clause-counts g c = roomed_counts c.args.parts.now c.reserve.new.self c.reserve.ensures.same

pub returns-in_err-reserve-clause-did : goal.returns-in_err-reserve-clause-did
returns-in_err-reserve-clause-did g c =
    let p = err_from_is_err_and c.from_residual.result c.from_residual.ensures.1 in
    short_turn c.args.number c.args.parts.now c.reserve.new.self c.from_residual.result p.0 p.1 (roomed_stays c.args.parts.now c.reserve.new.self c.reserve.ensures.same)

pub returns-in-Err-clause-counts : goal.returns-in-Err-clause-counts
returns-in-Err-clause-counts g c = asked_counts c.args.parts.now c.reserve.new.self c.get.new.parts c.reserve.ensures.same c.get.ensures.same

pub returns-in-Ok-None-clause-counts : goal.returns-in-Ok-None-clause-counts
returns-in-Ok-None-clause-counts g c = asked_counts c.args.parts.now c.reserve.new.self c.get.new.parts c.reserve.ensures.same c.get.ensures.same

pub returns-then-is_refused-clause-counts : goal.returns-then-is_refused-clause-counts
returns-then-is_refused-clause-counts g c = asked_counts c.args.parts.now c.reserve.new.self c.get.new.parts c.reserve.ensures.same c.get.ensures.same

pub finish-requires-clause-room : goal.finish-requires-clause-room
finish-requires-clause-room g c =
    room_left c.args.number c.args.parts.now c.reserve.new.self c.get.new.parts c.args.watched.now c.reserve.ensures.same c.get.ensures.same c.requires.watched c.requires.fits c.in_ok-reserve.ensures.ok

pub finish-requires-clause-stamp : goal.finish-requires-clause-stamp
finish-requires-clause-stamp g c =
    stamp_left c.args.number c.args.parts.now c.reserve.new.self c.get.new.parts c.args.watched.now c.reserve.ensures.same c.get.ensures.same c.requires.watched c.requires.fits c.requires.may

pub returns-else-is_refused-clause-counts : goal.returns-else-is_refused-clause-counts
returns-else-is_refused-clause-counts g c = finished_counts c.args.parts.now c.reserve.new.self c.get.new.parts c.finish.new.self _ _ _ c.reserve.ensures.same c.get.ensures.same c.finish.ensures
