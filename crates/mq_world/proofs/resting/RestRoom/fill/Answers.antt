use Rattle.std.specs.Prelude.{◌≡◌, List, [], length, map, reverse}
use Rattle.std.proofs.Common.{ap, arith, subst, sym, ◌∙◌}
use Rattle.mq_history.specs.declared.history.History.{History}
use Rattle.mq_spec_node.specs.Words.{Own}
use Rattle.mq_core.specs.Values.{CoreValue}
use Rattle.mq_world_begin.specs.Rested.{IsRested}
use Rattle.mq_world.specs.Resting.{manager_in, own_in}
use Rattle.mq_world.specs.Worlds.{history_in}
use Rattle.mq_world.proofs.ListLaws.{long_map, none_left}
use Rattle.mq_world.proofs.RestLaws.{all_moved, first_moved, moved_on}
use Rattle.mq_world.proofs.RiseLaws.{risen_first, risen_moved}
use Rattle.mq_world.proofs.resting.RestRoom.fill.Goals as goal

pub loop-node-init : goal.loop-node-init
loop-node-init g c =
    let left = c.reverse.ensures.items ∙ ap reverse c.into_vec-left.ensures in
    record {
      managers = first_moved manager_in c.self.inside.managers.items c.reverse.new.self.items c.args.nodes c.self.invariant.0 left;
      owns = first_moved own_in c.self.inside.owns.items c.reverse.new.self.items c.args.nodes c.self.invariant.2 left;
      histories = first_moved history_in c.self.inside.histories.items c.reverse.new.self.items c.args.nodes c.self.invariant.4 left;
      risen = risen_first c.self.inside.managers.items c.self.inside.histories.items c.self.invariant.0 c.self.invariant.4;
      managers_room = omega (arith, c.self.invariant.1, c.reverse.ensures.len, c.into_vec-left.result.ok, ap length c.into_vec-left.ensures, c.requires.room, c.self.view_is);
      owns_room = omega (arith, c.self.invariant.3, c.reverse.ensures.len, c.into_vec-left.result.ok, ap length c.into_vec-left.ensures, c.requires.room, c.self.view_is);
      histories_room = omega (arith, c.self.invariant.5, c.reverse.ensures.len, c.into_vec-left.result.ok, ap length c.into_vec-left.ensures, c.requires.room, c.self.view_is);
    }

pub loop-node-preserved : goal.loop-node-preserved
loop-node-preserved g c = record {
  managers = moved_on manager_in c.loop-node.managers.items c.push_reserved.new.self.items c.loop-node.left.items c.pop.new.self.items c.in-Some.node c.rest_node-manager.result.manager _ c.push_reserved.ensures.items c.rest_node-manager.ensures.manager c.in-Some.ensures.items c.loop-node.invariant.managers;
  owns = moved_on own_in c.loop-node.owns.items c.push_reserved-in-Some.new.self.items c.loop-node.left.items c.pop.new.self.items c.in-Some.node c.rest_node-manager.result.own _ c.push_reserved-in-Some.ensures.items c.rest_node-manager.ensures.own c.in-Some.ensures.items c.loop-node.invariant.owns;
  histories = moved_on history_in c.loop-node.histories.items c.push_reserved-in-Some-2.new.self.items c.loop-node.left.items c.pop.new.self.items c.in-Some.node c.rest_node-manager.result.history _ c.push_reserved-in-Some-2.ensures.items c.rest_node-manager.ensures.history c.in-Some.ensures.items c.loop-node.invariant.histories;
  risen = risen_moved c.loop-node.managers.items c.push_reserved.new.self.items c.loop-node.histories.items c.push_reserved-in-Some-2.new.self.items c.rest_node-manager.result.manager c.rest_node-manager.result.history c.push_reserved.ensures.items c.push_reserved-in-Some-2.ensures.items
      c.loop-node.invariant.risen c.rest_node-manager.ensures.risen;
  managers_room = omega (arith, c.push_reserved.ensures.len, c.push_reserved.ensures.capacity, c.in-Some.ensures.cases, c.loop-node.invariant.managers_room);
  owns_room = omega (arith, c.push_reserved-in-Some.ensures.len, c.push_reserved-in-Some.ensures.capacity, c.in-Some.ensures.cases, c.loop-node.invariant.owns_room);
  histories_room = omega (arith, c.push_reserved-in-Some-2.ensures.len, c.push_reserved-in-Some-2.ensures.capacity, c.in-Some.ensures.cases, c.loop-node.invariant.histories_room);
}

pub invariant_of-result : goal.invariant_of-result
invariant_of-result g c =
    let none : c.loop-node.left.items ≡ [] = none_left c.loop-node.left.items (omega (arith, c.in_default.ensures.cases, c.loop-node.left.ok)) in
    let managers : c.loop-node.managers.items ≡ map manager_in c.args.nodes = all_moved manager_in c.loop-node.managers.items c.loop-node.left.items _ none c.loop-node.invariant.managers in
    let owns : c.loop-node.owns.items ≡ map own_in c.args.nodes = all_moved own_in c.loop-node.owns.items c.loop-node.left.items _ none c.loop-node.invariant.owns in
    let histories : c.loop-node.histories.items ≡ map history_in c.args.nodes = all_moved history_in c.loop-node.histories.items c.loop-node.left.items _ none c.loop-node.invariant.histories in (
      subst (λ (vs : List CoreValue). IsRested (record { scenario = c.args.scenario.value; managers = vs; owns = c.loop-node.owns.items; histories = c.loop-node.histories.items })) (sym managers)
          (subst (λ (os : List Own). IsRested (record { scenario = c.args.scenario.value; managers = map manager_in c.args.nodes; owns = os; histories = c.loop-node.histories.items })) (sym owns)
          (subst (λ (hs : List History). IsRested (record { scenario = c.args.scenario.value; managers = map manager_in c.args.nodes; owns = map own_in c.args.nodes; histories = hs })) (sym histories) c.requires.rested)),
      c.self.invariant.6,
      omega (arith, c.self.invariant.7, c.loop-node.managers.ok, ap length managers, long_map manager_in c.args.nodes, c.requires.room, c.self.view_is),
    )
