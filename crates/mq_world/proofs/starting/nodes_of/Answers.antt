use Rattle.std.specs.Prelude.{◌≡◌, List, Some, length, slice_get, refl}
use Rattle.std.proofs.Common.{ap, arith, subst, sym, ◌∙◌}
use Rattle.std.proofs.lemmas.Option.{slice_get_read}
use Rattle.mq_history.specs.declared.scenario.ManagerLine.{ManagerLine}
use Rattle.mq_watch.specs.from_events.States.{NodeState}
use Rattle.mq_world_begin.proofs.PlaceLaws.{each_more, long_more, none_there}
use Rattle.mq_world.specs.Starting.{IsRoom, StartsAt}
use Rattle.mq_world.proofs.StartLaws.{all_front, first_of, next_of, opens_so, starts_at}
use Rattle.mq_world.proofs.starting.nodes_of.Goals as goal

pub loop-line-init : goal.loop-line-init
loop-line-init g c = record {
  managers = first_of c.args.managers.items c.reverse.new.self.items c.reverse.ensures.items;
  owns = first_of c.args.owns.items c.reverse-2.new.self.items c.reverse-2.ensures.items;
  histories = first_of c.args.histories.items c.reverse-3.new.self.items c.reverse-3.ensures.items;
  rooms = c.requires.rooms;
  rooms_left = omega (arith, c.requires.as_many, c.args.managers.ok, c.requires.rested.managers);
  managers_left = omega (arith, c.reverse.ensures.len, c.args.managers.ok, c.requires.rested.managers);
  owns_left = omega (arith, c.reverse-2.ensures.len, c.args.owns.ok, c.requires.rested.owns);
  histories_left = omega (arith, c.reverse-3.ensures.len, c.args.histories.ok, c.requires.rested.histories);
  room = omega (arith, c.reverse.ensures.len, c.requires.room);
  all = ap length c.requires.none;
  each = λ m n at. absurd (none_there _ m n c.requires.none at);
}

pub taken-manager-requires : goal.taken-manager-requires
taken-manager-requires g c = record { some = omega (arith, c.loop-line.invariant.managers_left, c.loop-line-test.true, ap length c.as_slice-line-items.ensures) }

pub taken-own-requires : goal.taken-own-requires
taken-own-requires g c = record { some = omega (arith, c.loop-line.invariant.owns_left, c.loop-line-test.true, ap length c.as_slice-line-items.ensures) }

pub taken-history-requires : goal.taken-history-requires
taken-history-requires g c = record { some = omega (arith, c.loop-line.invariant.histories_left, c.loop-line-test.true, ap length c.as_slice-line-items.ensures) }

pub taken-room-requires : goal.taken-room-requires
taken-room-requires g c = record { some = omega (arith, c.loop-line.invariant.rooms_left, c.loop-line-test.true, ap length c.as_slice-line-items.ensures) }

pub begun_node-node-requires-clause-entries : goal.begun_node-node-requires-clause-entries
begun_node-node-requires-clause-entries g c =
    let h = next_of c.args.histories.items c.loop-line.histories.items c.taken-history.new.list.items c.loop-line.line-index c.taken-history.result c.loop-line.invariant.histories c.taken-history.ensures.items in
    c.requires.fresh.undone c.loop-line.line-index c.taken-history.result h.0

pub begun_node-node-requires-clause-marks : goal.begun_node-node-requires-clause-marks
begun_node-node-requires-clause-marks g c =
    let h = next_of c.args.histories.items c.loop-line.histories.items c.taken-history.new.list.items c.loop-line.line-index c.taken-history.result c.loop-line.invariant.histories c.taken-history.ensures.items in
    c.requires.fresh.unmarked c.loop-line.line-index c.taken-history.result h.0

pub begun_node-node-requires-clause-none : goal.begun_node-node-requires-clause-none
begun_node-node-requires-clause-none g c =
    let front = all_front (IsRoom (length c.args.scenario.now.steps)) c.taken-room.new.list.items c.loop-line.rooms.items c.taken-room.result c.taken-room.ensures.items c.loop-line.invariant.rooms in
    front.1.0

pub begun_node-node-requires-clause-opens : goal.begun_node-node-requires-clause-opens
begun_node-node-requires-clause-opens g c =
    let v = next_of c.args.managers.items c.loop-line.managers.items c.taken-manager.new.list.items c.loop-line.line-index c.taken-manager.result c.loop-line.invariant.managers c.taken-manager.ensures.items in
    let o = next_of c.args.owns.items c.loop-line.owns.items c.taken-own.new.list.items c.loop-line.line-index c.taken-own.result c.loop-line.invariant.owns c.taken-own.ensures.items in
    let h = next_of c.args.histories.items c.loop-line.histories.items c.taken-history.new.list.items c.loop-line.line-index c.taken-history.result c.loop-line.invariant.histories c.taken-history.ensures.items in
    let line : slice_get c.args.scenario.now.managers c.loop-line.line-index ≡ Some c.line-item.result =
    sym (ap (λ (xs : List ManagerLine). slice_get xs c.loop-line.line-index) c.as_slice-line-items.ensures) ∙ slice_get_read _ _ _ _ refl c.loop-line-test.true c.line-item.is in
    opens_so c.args.scenario.now c.loop-line.line-index c.line-item.result c.taken-manager.result c.taken-own.result c.taken-history.result line
    (c.requires.rested.each c.loop-line.line-index c.taken-manager.result c.taken-own.result c.taken-history.result v.0 o.0 h.0)
    (c.requires.fresh.undone c.loop-line.line-index c.taken-history.result h.0)

pub with_one-nodes-requires : goal.with_one-nodes-requires
with_one-nodes-requires g c = record { room = omega (arith, c.loop-line.invariant.room, c.taken-manager.ensures.len) }

pub loop-line-preserved : goal.loop-line-preserved
loop-line-preserved g c =
    let v = next_of c.args.managers.items c.loop-line.managers.items c.taken-manager.new.list.items c.loop-line.line-index c.taken-manager.result c.loop-line.invariant.managers c.taken-manager.ensures.items in
    let o = next_of c.args.owns.items c.loop-line.owns.items c.taken-own.new.list.items c.loop-line.line-index c.taken-own.result c.loop-line.invariant.owns c.taken-own.ensures.items in
    let h = next_of c.args.histories.items c.loop-line.histories.items c.taken-history.new.list.items c.loop-line.line-index c.taken-history.result c.loop-line.invariant.histories c.taken-history.ensures.items in
    let front = all_front (IsRoom (length c.args.scenario.now.steps)) c.taken-room.new.list.items c.loop-line.rooms.items c.taken-room.result c.taken-room.ensures.items c.loop-line.invariant.rooms in
    let line : slice_get c.args.scenario.now.managers c.loop-line.line-index ≡ Some c.line-item.result =
    sym (ap (λ (xs : List ManagerLine). slice_get xs c.loop-line.line-index) c.as_slice-line-items.ensures) ∙ slice_get_read _ _ _ _ refl c.loop-line-test.true c.line-item.is in
    let started : StartsAt c.args.scenario.now c.args.histories.items c.loop-line.line-index c.begun_node-node.result =
    subst (λ (n : NodeState). StartsAt c.args.scenario.now c.args.histories.items c.loop-line.line-index n) (sym c.begun_node-node.ensures.same)
    (starts_at c.args.scenario.now c.loop-line.line-index c.line-item.result c.taken-manager.result c.taken-own.result c.taken-history.result c.begun_node-node.result.room c.begun_node-node.result.marks c.begun_node-node.result.spare c.args.histories.items h.0 line
    (c.requires.rested.each c.loop-line.line-index c.taken-manager.result c.taken-own.result c.taken-history.result v.0 o.0 h.0)
    (c.requires.fresh.undone c.loop-line.line-index c.taken-history.result h.0) (c.requires.fresh.unmarked c.loop-line.line-index c.taken-history.result h.0)
    (omega (arith, front.1.1, c.begun_node-node.ensures.room))) in
    record {
      managers = v.1;
      owns = o.1;
      histories = h.1;
      rooms = front.0;
      rooms_left = omega (arith, c.loop-line.invariant.rooms_left, c.taken-room.ensures.len);
      managers_left = omega (arith, c.loop-line.invariant.managers_left, c.taken-manager.ensures.len);
      owns_left = omega (arith, c.loop-line.invariant.owns_left, c.taken-own.ensures.len);
      histories_left = omega (arith, c.loop-line.invariant.histories_left, c.taken-history.ensures.len);
      room = omega (arith, c.loop-line.invariant.room, c.taken-manager.ensures.len, c.with_one-nodes.ensures.len, c.with_one-nodes.ensures.capacity);
      all = long_more c.loop-line.nodes.items c.with_one-nodes.result.items c.begun_node-node.result c.loop-line.line-index c.loop-line.invariant.all c.with_one-nodes.ensures.items;
      each = each_more (StartsAt c.args.scenario.now c.args.histories.items) c.loop-line.nodes.items c.with_one-nodes.result.items c.begun_node-node.result c.loop-line.line-index c.loop-line.invariant.all c.with_one-nodes.ensures.items started c.loop-line.invariant.each;
    }

pub returns-clause-all : goal.returns-clause-all
returns-clause-all g c = omega (arith, c.loop-line.invariant.all, c.loop-line-test.false, c.loop-line.auto.line-index-end, ap length c.as_slice-line-items.ensures)
