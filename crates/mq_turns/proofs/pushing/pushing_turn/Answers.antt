use Rattle.std.proofs.Common.{subst, [], refl}
use Rattle.std.specs.Prelude.{Some}
use Rattle.mq_frame.specs.declared.frame.Seen.TheVariants as items
use Rattle.mq_history.specs.declared.calls.Actor.TheVariants as actors
use Rattle.mq_history.specs.declared.calls.Call.TheVariants as calls
use Rattle.mq_spec_node.specs.Words.{SenderEnd, with_end}
use Rattle.mq_spec_node.specs.Node.ChannelEnd.{Sends}
use Rattle.mq_turn_parts.specs.Told.{Closes}
use Rattle.mq_turns.proofs.PushLaws.{pushed_as, refused_as, untaken}
use Rattle.mq_turns.proofs.pushing.pushing_turn.Goals as goal

pub returns-in-Err : goal.returns-in-Err
returns-in-Err g c = untaken c.args.parts.now c.args.end.cable _ _ _ _ _ _ _ c.requires.may.acts.kept c.offer.ensures.read.0 c.in-Err.ensures.told

pub returns-in-Ok-None : goal.returns-in-Ok-None
returns-in-Ok-None g c = refused_as c.args.parts.now c.args.end c.args.does c.args.frame _ _ _ _ _ _ c.in-Ok-None.field-0-is c.in-Ok-None.ensures.told c.requires.may.acts c.requires.next c.requires.deed c.offer.ensures.read.0

pub returns-in-Ok-Some : goal.returns-in-Ok-Some
returns-in-Ok-Some g c =
    let Z : SenderEnd → Type 0 = λ x. Closes (actors.Sender x.cable) calls.Turn c.nothing_done-told.result.choice c.nothing_done-told.result.delta (with_end (Sends c.end_after-after.result) c.args.parts.now.own)
    (record { stamp = c.args.frame.stamp; pushed = Some c.args.frame; extras = c.in-Ok-Some.extras; popped = items.Nothing }) [] c.args.parts.now c.end_turn.new.parts in
    pushed_as c.args.parts.now c.end_turn.new.parts c.args.end c.end_after-after.result c.nothing_done-told.result.choice c.nothing_done-told.result.delta c.args.does c.args.frame c.in-Ok-Some.extras [] _ _ _ _ _ _ c.in-Ok-Some.field-0-is c.in-Ok-Some.ensures.told
    c.end_after-after.ensures refl c.requires.may.acts c.requires.next c.requires.deed c.requires.stamp c.nothing_done-told.ensures.choice c.nothing_done-told.ensures.delta (subst Z c.end.view_is c.end_turn.ensures) c.offer.ensures.read.0 c.requires.spells
