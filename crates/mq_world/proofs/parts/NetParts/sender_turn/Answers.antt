use Rattle.std.specs.Prelude.{slice_get}
use Rattle.std.proofs.Common.{ap, refl, sym, ◌∙◌}
use Rattle.mq_spec_network.specs.Tasks.Slot.{Sends}
use Rattle.mq_world.specs.Worlds.{NetState, with_cable, with_node}
use Rattle.mq_world.proofs.LiftLaws.{asked, asked_ready}
use Rattle.mq_world.proofs.NearLaws.{sender_few_offered, sender_kept, sender_low_items, sender_told}
use Rattle.mq_world.proofs.PlaceLaws.{asked_end}
use Rattle.mq_world.proofs.OwnLaws.{turn_own}
use Rattle.mq_world.proofs.parts.NetParts.sender_turn.Goals as goal

pub sender_on-requires-clause-served : goal.sender_on-requires-clause-served
sender_on-requires-clause-served g c = (asked_ready c.args.self.now c.from-place.result c.line_at.result.now.sender c.at_mut-node.result.now (asked c.self.view_is c.requires.kept c.requires.ready c.from-place.ensures c.at_mut-node.ensures.value)).served

pub sender_on-requires-clause-may : goal.sender_on-requires-clause-may
sender_on-requires-clause-may g c = (asked_ready c.args.self.now c.from-place.result c.line_at.result.now.sender c.at_mut-node.result.now (asked c.self.view_is c.requires.kept c.requires.ready c.from-place.ensures c.at_mut-node.ensures.value)).may

pub sender_on-requires-clause-low : goal.sender_on-requires-clause-low
sender_on-requires-clause-low g c = sender_low_items c.args.self.now c.from-place.result c.from-at.result c.line_at.result.now.sender c.args.cable c.at_mut-node.result.now c.at_mut-ways.result.now (asked_end c.self.view_is (asked c.self.view_is c.requires.kept c.requires.ready c.from-place.ensures c.at_mut-node.ensures.value) c.from-at.ensures c.at_mut-ways.ensures.value c.requires.there)

pub sender_on-requires-clause-count : goal.sender_on-requires-clause-count
sender_on-requires-clause-count g c = sender_few_offered c.args.self.now c.from-place.result c.from-at.result c.line_at.result.now.sender c.args.cable c.at_mut-node.result.now c.at_mut-ways.result.now c.line_at.result.now (asked_end c.self.view_is (asked c.self.view_is c.requires.kept c.requires.ready c.from-place.ensures c.at_mut-node.ensures.value) c.from-at.ensures c.at_mut-ways.ensures.value c.requires.there) (ap (λ (w : NetState). slice_get w.lines c.args.cable) (sym c.self.view_is) ∙ c.line_at.ensures) refl

pub returns-clause-kept : goal.returns-clause-kept
returns-clause-kept g c = sender_kept c.args.self.now _ c.from-place.result c.from-at.result c.line_at.result.now.sender c.args.cable c.at_mut-node.result.now c.sender_on.new.node c.at_mut-ways.result.now c.sender_on.new.ways c.line_at.result.now c.sender_on.result (asked_end c.self.view_is (asked c.self.view_is c.requires.kept c.requires.ready c.from-place.ensures c.at_mut-node.ensures.value) c.from-at.ensures c.at_mut-ways.ensures.value c.requires.there) (ap (λ (w : NetState). with_cable c.from-at.result c.sender_on.new.ways (with_node c.from-place.result c.sender_on.new.node w)) c.self.view_is) (ap (λ (w : NetState). slice_get w.lines c.args.cable) (sym c.self.view_is) ∙ c.line_at.ensures) refl c.sender_on.ensures

pub returns-clause-told : goal.returns-clause-told
returns-clause-told g c = sender_told c.args.self.now _ c.from-place.result c.from-at.result c.line_at.result.now.sender c.args.cable c.at_mut-node.result.now c.sender_on.new.node c.at_mut-ways.result.now c.sender_on.new.ways c.line_at.result.now c.sender_on.result (asked_end c.self.view_is (asked c.self.view_is c.requires.kept c.requires.ready c.from-place.ensures c.at_mut-node.ensures.value) c.from-at.ensures c.at_mut-ways.ensures.value c.requires.there) (ap (λ (w : NetState). with_cable c.from-at.result c.sender_on.new.ways (with_node c.from-place.result c.sender_on.new.node w)) c.self.view_is) (ap (λ (w : NetState). slice_get w.lines c.args.cable) (sym c.self.view_is) ∙ c.line_at.ensures) refl c.sender_on.ensures

pub returns-clause-own : goal.returns-clause-own
returns-clause-own g c = λ is. turn_own c.args.self.now _ Sends c.args.cable c.sender_on.result (returns-clause-kept g c) c.requires.there (returns-clause-told g c)
