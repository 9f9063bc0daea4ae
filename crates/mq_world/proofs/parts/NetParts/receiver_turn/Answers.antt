use Rattle.std.specs.Prelude.{slice_get}
use Rattle.std.proofs.Common.{ap, refl, sym, ◌∙◌}
use Rattle.mq_spec_network.specs.Tasks.Slot.{Receives}
use Rattle.mq_world.specs.Worlds.{NetState, with_cable, with_node}
use Rattle.mq_world.proofs.LiftLaws.{asked, asked_ready}
use Rattle.mq_world.proofs.FarLaws.{receiver_few_offered, receiver_kept, receiver_low_items, receiver_told}
use Rattle.mq_world.proofs.PlaceLaws.{asked_end}
use Rattle.mq_world.proofs.OwnLaws.{turn_own}
use Rattle.mq_world.proofs.parts.NetParts.receiver_turn.Goals as goal

pub receiver_on-requires-clause-served : goal.receiver_on-requires-clause-served
receiver_on-requires-clause-served g c = (asked_ready c.args.self.now c.from-place.result c.line_at.result.now.receiver c.at_mut-node.result.now (asked c.self.view_is c.requires.kept c.requires.ready c.from-place.ensures c.at_mut-node.ensures.value)).served

pub receiver_on-requires-clause-may : goal.receiver_on-requires-clause-may
receiver_on-requires-clause-may g c = (asked_ready c.args.self.now c.from-place.result c.line_at.result.now.receiver c.at_mut-node.result.now (asked c.self.view_is c.requires.kept c.requires.ready c.from-place.ensures c.at_mut-node.ensures.value)).may

pub receiver_on-requires-clause-low : goal.receiver_on-requires-clause-low
receiver_on-requires-clause-low g c = receiver_low_items c.args.self.now c.from-place.result c.from-at.result c.line_at.result.now.receiver c.args.cable c.at_mut-node.result.now c.at_mut-ways.result.now (asked_end c.self.view_is (asked c.self.view_is c.requires.kept c.requires.ready c.from-place.ensures c.at_mut-node.ensures.value) c.from-at.ensures c.at_mut-ways.ensures.value c.requires.there)

pub receiver_on-requires-clause-count : goal.receiver_on-requires-clause-count
receiver_on-requires-clause-count g c = receiver_few_offered c.args.self.now c.from-place.result c.from-at.result c.line_at.result.now.receiver c.args.cable c.at_mut-node.result.now c.at_mut-ways.result.now c.line_at.result.now (asked_end c.self.view_is (asked c.self.view_is c.requires.kept c.requires.ready c.from-place.ensures c.at_mut-node.ensures.value) c.from-at.ensures c.at_mut-ways.ensures.value c.requires.there) (ap (λ (w : NetState). slice_get w.lines c.args.cable) (sym c.self.view_is) ∙ c.line_at.ensures) refl

pub returns-clause-kept : goal.returns-clause-kept
returns-clause-kept g c = receiver_kept c.args.self.now _ c.from-place.result c.from-at.result c.line_at.result.now.receiver c.args.cable c.at_mut-node.result.now c.receiver_on.new.node c.at_mut-ways.result.now c.receiver_on.new.ways c.line_at.result.now c.receiver_on.result (asked_end c.self.view_is (asked c.self.view_is c.requires.kept c.requires.ready c.from-place.ensures c.at_mut-node.ensures.value) c.from-at.ensures c.at_mut-ways.ensures.value c.requires.there) (ap (λ (w : NetState). with_cable c.from-at.result c.receiver_on.new.ways (with_node c.from-place.result c.receiver_on.new.node w)) c.self.view_is) (ap (λ (w : NetState). slice_get w.lines c.args.cable) (sym c.self.view_is) ∙ c.line_at.ensures) refl c.receiver_on.ensures

pub returns-clause-told : goal.returns-clause-told
returns-clause-told g c = receiver_told c.args.self.now _ c.from-place.result c.from-at.result c.line_at.result.now.receiver c.args.cable c.at_mut-node.result.now c.receiver_on.new.node c.at_mut-ways.result.now c.receiver_on.new.ways c.line_at.result.now c.receiver_on.result (asked_end c.self.view_is (asked c.self.view_is c.requires.kept c.requires.ready c.from-place.ensures c.at_mut-node.ensures.value) c.from-at.ensures c.at_mut-ways.ensures.value c.requires.there) (ap (λ (w : NetState). with_cable c.from-at.result c.receiver_on.new.ways (with_node c.from-place.result c.receiver_on.new.node w)) c.self.view_is) (ap (λ (w : NetState). slice_get w.lines c.args.cable) (sym c.self.view_is) ∙ c.line_at.ensures) refl c.receiver_on.ensures

pub returns-clause-own : goal.returns-clause-own
returns-clause-own g c = λ is. turn_own c.args.self.now _ Receives c.args.cable c.receiver_on.result (returns-clause-kept g c) c.requires.there (returns-clause-told g c)
