use Rattle.std.proofs.Common.{subst, [], refl}
use Rattle.std.specs.Prelude.{Some}
use Rattle.mq_frame.specs.declared.frame.Seen.TheVariants as items
use Rattle.mq_history.specs.declared.calls.Actor.TheVariants as actors
use Rattle.mq_history.specs.declared.calls.Call.TheVariants as calls
use Rattle.mq_spec_manager.specs.Agents.{release_batch}
use Rattle.mq_spec_node.specs.Words.{SenderEnd, parts_of, with_end}
use Rattle.mq_spec_node.specs.Node.ChannelEnd.{Sends}
use Rattle.mq_turn_parts.specs.Turns.{IsBehind}
use Rattle.mq_turn_parts.specs.Told.{Closes}
use Rattle.mq_turns.proofs.BeginLaws.{begun_refused_so, begun_so, begun_wants_so}
use Rattle.mq_turns.proofs.beginning.begun_turn.Goals as goal

pub returns-in-Wants : goal.returns-in-Wants
returns-in-Wants g c = λ s k.
    let B : SenderEnd → Type 0 = λ x. IsBehind (parts_of (release_batch x.channel c.args.parts.now.manager.plain)) c.args.parts.now.manager c.give_up_at.new.parts.manager in
    begun_wants_so s c.args.parts.now c.args.end c.args.n c.args.count c.args.stamp c.args.told.choice c.args.told.delta k c.give_up_at.new.parts _ _ _ _ _ _ c.give_up_at.ensures.same (subst B c.end.view_is c.give_up_at.ensures.behind) c.in-Wants.ensures.told c.first_offer.ensures.read

pub returns-in-Refused : goal.returns-in-Refused
returns-in-Refused g c = λ s k.
    let B : SenderEnd → Type 0 = λ x. IsBehind (parts_of (release_batch x.channel c.args.parts.now.manager.plain)) c.args.parts.now.manager c.give_up_at-in-Refused.new.parts.manager in
    begun_refused_so s c.args.parts.now c.args.end c.args.n c.args.count c.args.stamp c.args.told.choice c.args.told.delta k c.give_up_at-in-Refused.new.parts _ _ _ _ _ c.give_up_at-in-Refused.ensures.same (subst B c.end.view_is c.give_up_at-in-Refused.ensures.behind) c.in-Refused.ensures.told c.first_offer.ensures.read

pub returns-in-Offered : goal.returns-in-Offered
returns-in-Offered g c = λ s k.
    let Z : SenderEnd → Type 0 = λ x. Closes (actors.Sender x.cable) calls.Turn c.args.told.choice c.args.told.delta (with_end (Sends c.end_after-after.result) c.args.parts.now.own)
    (record { stamp = c.in-Offered.frame.stamp; pushed = Some c.in-Offered.frame; extras = c.in-Offered.extras; popped = items.Nothing }) [] c.args.parts.now c.end_turn.new.parts in
    begun_so s c.args.parts.now c.args.end c.args.n c.args.count c.args.stamp c.args.told.choice c.args.told.delta k c.end_turn.new.parts c.end_after-after.result c.in-Offered.frame c.in-Offered.extras [] _ _ _ _ _
    c.end_after-after.ensures refl c.in-Offered.ensures.told (subst Z c.end.view_is c.end_turn.ensures) c.first_offer.ensures.read
