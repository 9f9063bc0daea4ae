use Rattle.std.proofs.Common.{subst}
use Rattle.std.specs.Prelude.{Option, Ok}
use Rattle.mq_spec_manager.specs.Agents.{prepare}
use Rattle.mq_turn_parts.specs.from_events.{Told}
use Rattle.mq_turns.specs.Prepares.{Prepared}
use Rattle.mq_turns.proofs.PreparedLaws.{as_twice, still_held, still_up, tried_full}
use Rattle.mq_turns.proofs.preparing.try_prepare.Goals as goal

pub given_back-requires-clause-up : goal.given_back-requires-clause-up
given_back-requires-clause-up g c =
    let P : Option Told → Type 0 = λ o. Prepared (prepare c.args.channel.now c.args.last c.args.manager.now.plain) (Ok o) c.args.manager.now c.prepared_if.new.manager in
    still_up c.args.manager.now c.prepared_if.new.manager (subst P c.in-Ok-None.field-0-is c.in-Ok-None.ensures).1 c.requires.up

pub given_back-requires-clause-batch : goal.given_back-requires-clause-batch
given_back-requires-clause-batch g c =
    let P : Option Told → Type 0 = λ o. Prepared (prepare c.args.channel.now c.args.last c.args.manager.now.plain) (Ok o) c.args.manager.now c.prepared_if.new.manager in
    let k = subst P c.in-Ok-None.field-0-is c.in-Ok-None.ensures in
    still_held c.args.channel.now c.args.last c.args.manager.now c.prepared_if.new.manager k.0 k.1

pub returns-in-Err-given_back : goal.returns-in-Err-given_back
returns-in-Err-given_back g c =
    let P : Option Told → Type 0 = λ o. Prepared (prepare c.args.channel.now c.args.last c.args.manager.now.plain) (Ok o) c.args.manager.now c.prepared_if.new.manager in
    as_twice c.args.manager.now c.prepared_if.new.manager c.given_back.new.manager (subst P c.in-Ok-None.field-0-is c.in-Ok-None.ensures).1 c.in-Err-given_back.ensures

pub returns-in-Ok : goal.returns-in-Ok
returns-in-Ok g c =
    let P : Option Told → Type 0 = λ o. Prepared (prepare c.args.channel.now c.args.last c.args.manager.now.plain) (Ok o) c.args.manager.now c.prepared_if.new.manager in
    tried_full c.args.channel.now (prepare c.args.channel.now c.args.last c.args.manager.now.plain) c.in-Ok.told.choice c.in-Ok.told.delta c.args.manager.now c.prepared_if.new.manager c.given_back.new.manager (subst P c.in-Ok-None.field-0-is c.in-Ok-None.ensures) c.in-Ok.ensures
