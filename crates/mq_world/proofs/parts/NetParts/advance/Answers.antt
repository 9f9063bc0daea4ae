use Rattle.std.specs.Prelude.{length}
use Rattle.std.proofs.Common.{ap, arith, refl}
use Rattle.mq_world.specs.Worlds.{NetState, with_node, with_script}
use Rattle.mq_world.proofs.LiftLaws.{asked, asked_ready}
use Rattle.mq_world.proofs.ScriptLaws.{asked_line, line_few, line_kept, line_kept_by, line_told_by, progress_there, script_at, text_line}
use Rattle.mq_world.proofs.OwnLaws.{line_own}
use Rattle.mq_world.proofs.parts.NetParts.advance.Goals as goal

pub at_mut-node-requires : goal.at_mut-node-requires
at_mut-node-requires g c = omega (arith, c.requires.kept.all, c.requires.manager, c.from-place.ensures, ap (λ (w : NetState). length w.nodes) c.self.view_is)

pub at_mut-progress-requires : goal.at_mut-progress-requires
at_mut-progress-requires g c =
    let lt = progress_there c.args.self.now c.args.script c.args.part.now c.requires.kept c.requires.there in
    omega (arith, lt, c.from-at.ensures, ap (λ (w : NetState). length w.scripts) c.self.view_is)

pub advance_on-requires-clause-served : goal.advance_on-requires-clause-served
advance_on-requires-clause-served g c = (asked_ready c.args.self.now c.from-place.result c.args.part.now.manager c.at_mut-node.result.now (asked c.self.view_is c.requires.kept c.requires.ready c.from-place.ensures c.at_mut-node.ensures.value)).served

pub advance_on-requires-clause-may : goal.advance_on-requires-clause-may
advance_on-requires-clause-may g c = (asked_ready c.args.self.now c.from-place.result c.args.part.now.manager c.at_mut-node.result.now (asked c.self.view_is c.requires.kept c.requires.ready c.from-place.ensures c.at_mut-node.ensures.value)).may

pub advance_on-requires-clause-text : goal.advance_on-requires-clause-text
advance_on-requires-clause-text g c = text_line c.args.self.now c.args.script c.args.part.now c.at_mut-progress.result.now.done c.requires.kept c.requires.there

pub advance_on-requires-clause-keeps : goal.advance_on-requires-clause-keeps
advance_on-requires-clause-keeps g c =
    line_kept c.args.part.now c.args.script _ c.at_mut-progress.result.now (script_at c.args.self.now c.from-place.result c.from-at.result c.args.part.now.manager c.args.script c.args.part.now c.at_mut-node.result.now c.at_mut-progress.result.now
    (asked_line c.self.view_is (asked c.self.view_is c.requires.kept c.requires.ready c.from-place.ensures c.at_mut-node.ensures.value) c.from-at.ensures c.at_mut-progress.ensures.value c.requires.there refl))

pub advance_on-requires-clause-more : goal.advance_on-requires-clause-more
advance_on-requires-clause-more g c =
    line_few c.args.self.now.scenario c.args.part.now c.args.script _ c.at_mut-progress.result.now c.requires.kept.scenario c.requires.there (script_at c.args.self.now c.from-place.result c.from-at.result c.args.part.now.manager c.args.script c.args.part.now c.at_mut-node.result.now c.at_mut-progress.result.now
    (asked_line c.self.view_is (asked c.self.view_is c.requires.kept c.requires.ready c.from-place.ensures c.at_mut-node.ensures.value) c.from-at.ensures c.at_mut-progress.ensures.value c.requires.there refl))

pub returns-clause-kept : goal.returns-clause-kept
returns-clause-kept g c =
    line_kept_by c.args.self.now _ c.from-place.result c.from-at.result c.args.part.now.manager c.args.script c.args.part.now c.at_mut-progress.result.now c.advance_on.new.progress c.advance_on.result c.at_mut-node.result.now c.advance_on.new.node
    (asked_line c.self.view_is (asked c.self.view_is c.requires.kept c.requires.ready c.from-place.ensures c.at_mut-node.ensures.value) c.from-at.ensures c.at_mut-progress.ensures.value c.requires.there refl) (ap (λ (w : NetState). with_script c.from-at.result c.advance_on.new.progress (with_node c.from-place.result c.advance_on.new.node w)) c.self.view_is) c.advance_on.ensures.told

pub returns-clause-told : goal.returns-clause-told
returns-clause-told g c =
    line_told_by c.args.self.now _ c.from-place.result c.from-at.result c.args.part.now.manager c.args.script c.args.part.now c.at_mut-progress.result.now c.advance_on.new.progress c.advance_on.result c.at_mut-node.result.now c.advance_on.new.node
    (asked_line c.self.view_is (asked c.self.view_is c.requires.kept c.requires.ready c.from-place.ensures c.at_mut-node.ensures.value) c.from-at.ensures c.at_mut-progress.ensures.value c.requires.there refl) (ap (λ (w : NetState). with_script c.from-at.result c.advance_on.new.progress (with_node c.from-place.result c.advance_on.new.node w)) c.self.view_is) c.advance_on.ensures.told

pub returns-clause-own : goal.returns-clause-own
returns-clause-own g c = λ is. line_own c.args.self.now _ c.from-place.result c.from-at.result c.args.part.now.manager c.advance_on.new.progress c.at_mut-node.result.now c.advance_on.new.node (asked c.self.view_is c.requires.kept c.requires.ready c.from-place.ensures c.at_mut-node.ensures.value) (ap (λ (w : NetState). with_script c.from-at.result c.advance_on.new.progress (with_node c.from-place.result c.advance_on.new.node w)) c.self.view_is) (c.advance_on.ensures.own is)
