use Rattle.std.specs.Prelude.{◌<◌, ◌≡◌, ◌-◌, Some, Ok, length, slice_get, refl}
use Rattle.std.proofs.Common.{subst, sym}
use Rattle.mq_history.specs.declared.scenario.Scenario.{Scenario}
use Rattle.mq_nodes.specs.declared.nodes.Advanced.{Advanced}
use Rattle.mq_nodes.specs.Told.{LineTold}
use Rattle.mq_nodes.proofs.LineLaws.{line_breaks, line_done}
use Rattle.mq_nodes.proofs.WaitLaws.{clocks_break, get_breaks, get_done, not_late, second}
use Rattle.mq_steps.proofs.LinesLaws.{waited_scenario}
use Rattle.mq_steps.proofs.PartLaws.{line_breaks_so}
use Rattle.mq_steps.proofs.lines.line.Goals as goal

pub returns-in-Done : goal.returns-in-Done
returns-in-Done g c =
    let old = g.N.Nodes.course c.args.nodes.now in
    let tried = g.N.Nodes.course c.advance.new.self in
    λ first q. line_done c.args.script c.args.part.now first old tried c.requires.ready q (subst (λ (x : Advanced). LineTold c.args.script c.args.part.now (Ok x) old tried) c.in-Done.is c.in_ok-advance.ensures)

pub returns-in_err-advance : goal.returns-in_err-advance
returns-in_err-advance g c =
    let old = g.N.Nodes.course c.args.nodes.now in
    let tried = g.N.Nodes.course c.advance.new.self in
    line_breaks_so c.args.script c.args.part.now _ _ old tried c.from_residual.ensures.1 (λ first q. line_breaks c.args.script c.args.part.now first old tried _ c.requires.ready q c.in_err-advance.ensures)

pub overflow_sub-ms : goal.overflow_sub-ms
overflow_sub-ms g c =
    let old = g.N.Nodes.course c.args.nodes.now in
    let tried = g.N.Nodes.course c.advance.new.self in
    let told = subst (λ (x : Advanced). LineTold c.args.script c.args.part.now (Ok x) old tried) c.in-Waiting.is c.in_ok-advance.ensures in
    not_late c.args.script c.args.part.now c.requires.tried.0 c.in-Waiting.deadline c.moment.result old tried c.requires.tried.1 told c.moment.ensures

pub returns-in_err-clocks-in-Waiting : goal.returns-in_err-clocks-in-Waiting
returns-in_err-clocks-in-Waiting g c =
    let old = g.N.Nodes.course c.args.nodes.now in
    let tried = g.N.Nodes.course c.advance.new.self in
    let told = subst (λ (x : Advanced). LineTold c.args.script c.args.part.now (Ok x) old tried) c.in-Waiting.is c.in_ok-advance.ensures in
    line_breaks_so c.args.script c.args.part.now _ _ old (g.N.Nodes.course c.clocks.new.nodes) c.from_residual-in_err-clocks-in-Waiting.ensures.1
    (λ first q. clocks_break c.args.script c.args.part.now first c.in-Waiting.deadline (c.in-Waiting.deadline - c.moment.result) c.moment.result old tried (g.N.Nodes.course c.clocks.new.nodes) _ c.requires.ready q told c.moment.ensures refl c.in_err-clocks-in-Waiting.ensures.told)

pub advance-requires-in-Waiting-clause-there : goal.advance-requires-in-Waiting-clause-there
advance-requires-in-Waiting-clause-there g c =
    let old = g.N.Nodes.course c.args.nodes.now in
    let tried = g.N.Nodes.course c.advance.new.self in
    let told = subst (λ (x : Advanced). LineTold c.args.script c.args.part.now (Ok x) old tried) c.in-Waiting.is c.in_ok-advance.ensures in
    let same = waited_scenario c.args.script c.args.part.now c.in-Waiting.deadline _ _ old tried (g.N.Nodes.course c.clocks.new.nodes) told c.in_ok-clocks-in-Waiting.ensures.told in
    subst (λ (s : Scenario). slice_get s.scripts c.args.script ≡ Some c.args.part.now) (sym same) c.requires.there

pub advance-requires-in-Waiting-clause-manager : goal.advance-requires-in-Waiting-clause-manager
advance-requires-in-Waiting-clause-manager g c =
    let old = g.N.Nodes.course c.args.nodes.now in
    let tried = g.N.Nodes.course c.advance.new.self in
    let told = subst (λ (x : Advanced). LineTold c.args.script c.args.part.now (Ok x) old tried) c.in-Waiting.is c.in_ok-advance.ensures in
    let same = waited_scenario c.args.script c.args.part.now c.in-Waiting.deadline _ _ old tried (g.N.Nodes.course c.clocks.new.nodes) told c.in_ok-clocks-in-Waiting.ensures.told in
    subst (λ (s : Scenario). c.args.part.now.manager < length s.managers) (sym same) c.requires.manager

pub returns-in_err-advance-in-Waiting : goal.returns-in_err-advance-in-Waiting
returns-in_err-advance-in-Waiting g c =
    let old = g.N.Nodes.course c.args.nodes.now in
    let tried = g.N.Nodes.course c.advance.new.self in
    let later = g.N.Nodes.course c.clocks.new.nodes in
    let new = g.N.Nodes.course c.advance-in-Waiting.new.self in
    let told = subst (λ (x : Advanced). LineTold c.args.script c.args.part.now (Ok x) old tried) c.in-Waiting.is c.in_ok-advance.ensures in
    line_breaks_so c.args.script c.args.part.now _ _ old new c.from_residual-in_err-advance-in-Waiting.ensures.1
    (λ first q. get_breaks c.args.script c.args.part.now first c.in-Waiting.deadline (c.in-Waiting.deadline - c.moment.result) old tried later new _
    (second c.args.script c.args.part.now first c.in-Waiting.deadline (c.in-Waiting.deadline - c.moment.result) c.moment.result old tried later _ c.requires.ready q told c.moment.ensures refl c.requires.manager c.in_ok-clocks-in-Waiting.ensures.told c.in_ok-clocks-in-Waiting.ensures.clocked)
    c.in_err-advance-in-Waiting.ensures)

pub returns-in_ok-advance-in-Waiting : goal.returns-in_ok-advance-in-Waiting
returns-in_ok-advance-in-Waiting g c =
    let old = g.N.Nodes.course c.args.nodes.now in
    let tried = g.N.Nodes.course c.advance.new.self in
    let later = g.N.Nodes.course c.clocks.new.nodes in
    let new = g.N.Nodes.course c.advance-in-Waiting.new.self in
    let told = subst (λ (x : Advanced). LineTold c.args.script c.args.part.now (Ok x) old tried) c.in-Waiting.is c.in_ok-advance.ensures in
    λ first q. get_done c.args.script c.args.part.now first c.in-Waiting.deadline (c.in-Waiting.deadline - c.moment.result) old tried later new _
    (second c.args.script c.args.part.now first c.in-Waiting.deadline (c.in-Waiting.deadline - c.moment.result) c.moment.result old tried later _ c.requires.ready q told c.moment.ensures refl c.requires.manager c.in_ok-clocks-in-Waiting.ensures.told c.in_ok-clocks-in-Waiting.ensures.clocked)
    c.in_ok-advance-in-Waiting.ensures
