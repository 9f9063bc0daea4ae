use Rattle.std.specs.Prelude.{length, slice_get}
use Rattle.std.proofs.Common.{ap, arith, sym, ◌∙◌}
use Rattle.mq_spec_network.specs.Tasks.Slot.{TimesOut}
use Rattle.mq_world.specs.Worlds.{NetState, with_node}
use Rattle.mq_world.proofs.IdleLaws.{line_there, sender_there}
use Rattle.mq_world.proofs.LiftLaws.{asked, asked_ready}
use Rattle.mq_world.proofs.TimingLaws.{never_wants, timeout_kept, timeout_told}
use Rattle.mq_world.proofs.OwnLaws.{turn_own}
use Rattle.mq_world.proofs.parts.NetParts.timeout.Goals as goal

pub line_at-requires : goal.line_at-requires
line_at-requires g c =
    let lt = line_there c.args.self.now c.args.cable c.requires.kept c.requires.there in
    record { there = omega (arith, lt, ap (λ (w : NetState). length w.lines) c.self.view_is) }

pub at_mut-requires : goal.at_mut-requires
at_mut-requires g c =
    let low = sender_there c.args.self.now c.args.cable c.line_at.result.now c.requires.kept (ap (λ (w : NetState). slice_get w.lines c.args.cable) (sym c.self.view_is) ∙ c.line_at.ensures) in
    omega (arith, low, c.from.ensures, ap (λ (w : NetState). length w.nodes) c.self.view_is)

pub timeout_on-requires-clause-served : goal.timeout_on-requires-clause-served
timeout_on-requires-clause-served g c = (asked_ready c.args.self.now c.from.result c.line_at.result.now.sender c.at_mut.result.now (asked c.self.view_is c.requires.kept c.requires.ready c.from.ensures c.at_mut.ensures.value)).served

pub timeout_on-requires-clause-may : goal.timeout_on-requires-clause-may
timeout_on-requires-clause-may g c = (asked_ready c.args.self.now c.from.result c.line_at.result.now.sender c.at_mut.result.now (asked c.self.view_is c.requires.kept c.requires.ready c.from.ensures c.at_mut.ensures.value)).may

pub returns-clause-kept : goal.returns-clause-kept
returns-clause-kept g c = timeout_kept c.args.self.now _ c.from.result c.args.cable c.line_at.result.now c.timeout_on.result c.at_mut.result.now c.timeout_on.new.node (asked c.self.view_is c.requires.kept c.requires.ready c.from.ensures c.at_mut.ensures.value) (ap (with_node c.from.result c.timeout_on.new.node) c.self.view_is) (ap (λ (w : NetState). slice_get w.lines c.args.cable) (sym c.self.view_is) ∙ c.line_at.ensures) c.timeout_on.ensures

pub returns-clause-told : goal.returns-clause-told
returns-clause-told g c = timeout_told c.args.self.now _ c.from.result c.args.cable c.line_at.result.now c.timeout_on.result c.at_mut.result.now c.timeout_on.new.node (asked c.self.view_is c.requires.kept c.requires.ready c.from.ensures c.at_mut.ensures.value) (ap (with_node c.from.result c.timeout_on.new.node) c.self.view_is) (ap (λ (w : NetState). slice_get w.lines c.args.cable) (sym c.self.view_is) ∙ c.line_at.ensures) c.timeout_on.ensures

pub returns-clause-room : goal.returns-clause-room
returns-clause-room g c = never_wants c.args.cable c.line_at.result.now.sender c.at_mut.result.now c.timeout_on.new.node c.timeout_on.result c.timeout_on.ensures

pub returns-clause-own : goal.returns-clause-own
returns-clause-own g c = λ is. turn_own c.args.self.now _ TimesOut c.args.cable c.timeout_on.result (returns-clause-kept g c) c.requires.there (returns-clause-told g c)
