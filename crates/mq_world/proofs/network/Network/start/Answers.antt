use Rattle.std.specs.Prelude.{◌≡◌, List, length, map}
use Rattle.std.proofs.Common.{ap, arith, subst, sym, ◌∙◌}
use Rattle.mq_history.specs.Scenarios.{IsScenario}
use Rattle.mq_history.specs.declared.scenario.Scenario.{Scenario}
use Rattle.mq_spec_network.specs.Lawful.{AreOwn}
use Rattle.mq_watch.specs.from_events.States.{NodeState}
use Rattle.mq_world_begin.specs.Rested.{IsRested, RestState}
use Rattle.mq_world.specs.Starting.{IsFresh, Starts}
use Rattle.mq_world.specs.Worlds.{IsNetwork, NetState, history_in}
use Rattle.mq_world.proofs.OwnLaws.{begun_own}
use Rattle.mq_world.proofs.StartLaws.{started, starts}
use Rattle.mq_world.proofs.network.Network.start.Goals as goal

pub nodes_of-nodes-requires-clause-rested : goal.nodes_of-nodes-requires-clause-rested
nodes_of-nodes-requires-clause-rested g c =
    let same : c.rested.inside.scenario.value ≡ c.args.scenario.now = ap (λ (r : RestState). r.scenario) c.rested.view_is ∙ c.requires.same in
    subst (λ (s : Scenario). IsRested (record { scenario = s; managers = c.rested.inside.managers.items; owns = c.rested.inside.owns.items; histories = c.rested.inside.histories.items })) same c.rested.invariant.0

pub nodes_of-nodes-requires-clause-fresh : goal.nodes_of-nodes-requires-clause-fresh
nodes_of-nodes-requires-clause-fresh g c =
    let same : c.rested.inside.scenario.value ≡ c.args.scenario.now = ap (λ (r : RestState). r.scenario) c.rested.view_is ∙ c.requires.same in
    subst (λ (s : Scenario). IsFresh (record { scenario = s; managers = c.rested.inside.managers.items; owns = c.rested.inside.owns.items; histories = c.rested.inside.histories.items })) same
    (subst IsFresh (sym c.rested.view_is) c.requires.fresh)

pub invariant_of-result-2 : goal.invariant_of-result-2
invariant_of-result-2 g c =
    let same : c.rested.inside.scenario.value ≡ c.args.scenario.now = ap (λ (r : RestState). r.scenario) c.rested.view_is ∙ c.requires.same in
    let begun : NetState = record { scenario = c.args.scenario.now; nodes = c.nodes_of-nodes.result.items; scripts = c.in-Ok.room.scripts; lines = c.in-Ok.room.lines; cables = c.in-Ok.room.cables; handlers = c.in-Ok.room.handlers; monitors = c.in-Ok.room.monitors } in (
      subst (λ (s : Scenario). IsNetwork (record begun { scenario = s; nodes = c.from_vec.result })) (sym same)
          (subst (λ (ns : List NodeState). IsNetwork (record begun { nodes = ns })) (sym c.from_vec.ensures)
          (started c.args.scenario.now c.rested.inside.histories.items c.nodes_of-nodes.result.items c.in-Ok.room.scripts c.in-Ok.room.cables c.in-Ok.room.handlers c.in-Ok.room.monitors c.in-Ok.room.lines
          (subst IsScenario same c.rested.invariant.0.scenario) c.requires.texts
          c.nodes_of-nodes.ensures.all c.nodes_of-nodes.ensures.each c.in-Ok.ensures.scripts.0 c.in-Ok.ensures.scripts.1 c.in-Ok.ensures.lines c.in-Ok.ensures.cables c.in-Ok.ensures.handlers c.in-Ok.ensures.monitors)),
      omega (arith, ap length c.from_vec.ensures, c.nodes_of-nodes.ensures.all, ap (λ (s : Scenario). length s.managers) same, c.rested.invariant.0.managers, c.rested.inside.managers.ok, c.len-2.ensures, c.in-Ok-take.ensures),
      λ is. subst (λ (ns : List NodeState). AreOwn (map history_in ns)) (sym c.from_vec.ensures) (begun_own c.nodes_of-nodes.result.items (λ m n known. (c.nodes_of-nodes.ensures.each m n known).undone)),
    )

pub returns : goal.returns
returns g c =
    let same : c.rested.inside.scenario.value ≡ c.args.scenario.now = ap (λ (r : RestState). r.scenario) c.rested.view_is ∙ c.requires.same in
    let begun : NetState = record { scenario = c.args.scenario.now; nodes = c.nodes_of-nodes.result.items; scripts = c.in-Ok.room.scripts; lines = c.in-Ok.room.lines; cables = c.in-Ok.room.cables; handlers = c.in-Ok.room.handlers; monitors = c.in-Ok.room.monitors } in
    let rest : RestState = record { scenario = c.args.scenario.now; managers = c.rested.inside.managers.items; owns = c.rested.inside.owns.items; histories = c.rested.inside.histories.items } in
    let long : length c.nodes_of-nodes.result.items ≡ length c.rested.inside.histories.items =
    c.nodes_of-nodes.ensures.all ∙ ap (λ (s : Scenario). length s.managers) (sym same) ∙ sym c.rested.invariant.0.histories in
    subst (λ (r : RestState). Starts r (record begun { scenario = c.rested.inside.scenario.value; nodes = c.from_vec.result })) c.rested.view_is
    (subst (λ (s : Scenario). Starts (record rest { scenario = s }) (record begun { scenario = s; nodes = c.from_vec.result })) (sym same)
    (subst (λ (ns : List NodeState). Starts rest (record begun { nodes = ns })) (sym c.from_vec.ensures)
    (starts c.args.scenario.now c.rested.inside.histories.items c.nodes_of-nodes.result.items c.in-Ok.room.scripts c.in-Ok.room.cables c.in-Ok.room.handlers c.in-Ok.room.monitors c.in-Ok.room.lines c.rested.inside.managers.items c.rested.inside.owns.items
    long (λ m n known. (c.nodes_of-nodes.ensures.each m n known).at) c.nodes_of-nodes.ensures.each c.in-Ok.ensures.scripts.1)))
