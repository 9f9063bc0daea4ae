use Rattle.std.specs.Prelude.{◌≡◌, ◌≤◌, ◌+◌, ℕ, List, Some, length, map, slice_get, refl}
use Rattle.std.proofs.Common.{ap, arith, subst, sym, ◌∙◌}
use Rattle.std.proofs.lemmas.Option.{slice_get_read}
use Rattle.mq_disk.specs.declared.shelf.Side.TheVariants as sides
use Rattle.mq_history.specs.declared.scenario.ManagerLine.{ManagerLine}
use Rattle.mq_spec_manager.specs.Stops.{last_moment}
use Rattle.mq_manager.specs.from_core.Values.{CoreValue}
use Rattle.mq_begin.specs.declared.faults.NetFault.{NetFault}
use Rattle.mq_begin.specs.Begun.{AllBegan, NotBegan}
use Rattle.mq_begin.proofs.BeganLaws.{Beginning, all_began, begins_so, breaks_off, goes_on, log_low, moment_low, no_room_so}
use Rattle.mq_begin.proofs.beginning.begin_managers.Goals as goal

pub returns-in-Err-clause-told : goal.returns-in-Err-clause-told
returns-in-Err-clause-told g c =
    no_room_so g.H.D.Disk.tells (g.H.Shelf.holds c.args.shelf.now) _ c.args.scenario.now.managers (g.H.Shelf.faults c.args.shelf.now) _ _ c.requires.scenario.few.managers.0 (ap (map g.H.D.Disk.faults) c.no_room.ensures.none) c.no_room.ensures.fault

pub returns-in-Err-with_capacity-clause-told : goal.returns-in-Err-with_capacity-clause-told
returns-in-Err-with_capacity-clause-told g c =
    no_room_so g.H.D.Disk.tells (g.H.Shelf.holds c.args.shelf.now) _ c.args.scenario.now.managers (g.H.Shelf.faults c.args.shelf.now) _ _ c.requires.scenario.few.managers.0 (ap (map g.H.D.Disk.faults) c.no_room-in-Err-with_capacity.ensures.none) c.no_room-in-Err-with_capacity.ensures.fault

pub loop-line-init : goal.loop-line-init
loop-line-init g c =
    let many : (n : ℕ) → c.len-count.result ≤ n → length c.args.scenario.now.managers ≤ n = λ n h. subst (λ (x : ℕ). x ≤ n) c.len-count.ensures h in
    record {
      on = begins_so g.H.D.Disk.tells (g.H.Shelf.holds c.args.shelf.now) c.first_moment-moment.result c.args.scenario.now.managers c.in-Ok.managers.items (g.H.Shelf.faults c.args.shelf.now) c.in-Ok.ensures.items;
      none = c.in-Ok-with_capacity.ensures.items;
      empty = c.in-Ok-with_capacity.ensures.len;
      many = c.in-Ok.ensures.len;
      disks = omega (arith, c.len-count.ensures, c.in-Ok-with_capacity.ensures.capacity);
      cores = many _ c.in-Ok.ensures.capacity;
    }

pub begin_one-requires-clause-max : goal.begin_one-requires-clause-max
begin_one-requires-clause-max g c =
    let known = subst (λ (xs : List ManagerLine). slice_get xs c.loop-line.line-index ≡ Some c.line-item.result) c.as_slice-line-items.ensures (slice_get_read _ _ _ _ refl c.loop-line-test.true c.line-item.is) in
    log_low c.args.scenario.now.managers c.loop-line.line-index c.line-item.result c.requires.scenario.managers known

pub begin_one-requires-clause-moment : goal.begin_one-requires-clause-moment
begin_one-requires-clause-moment g c = subst (λ (m : ℕ). m ≤ last_moment) (sym c.first_moment-moment.ensures) (moment_low c.args.scenario.now.moment c.args.start c.requires.scenario.moment)

pub returns-in-Err-begin_one-clause-told : goal.returns-in-Err-begin_one-clause-told
returns-in-Err-begin_one-clause-told g c =
    let known = subst (λ (xs : List ManagerLine). slice_get xs c.loop-line.line-index ≡ Some c.line-item.result) c.as_slice-line-items.ensures (slice_get_read _ _ _ _ refl c.loop-line-test.true c.line-item.is) in
    let counts = map g.H.D.Disk.faults c.hand_back.result.disks.items in
    subst (λ (m : ℕ). NotBegan g.H.D.Disk.tells (λ (n b : List ℕ). g.H.Shelf.holds c.args.shelf.now n sides.A b) m c.args.scenario.now.managers (g.H.Shelf.faults c.args.shelf.now) (g.H.Shelf.faults c.begin_one.new.shelf) counts c.hand_back.result.fault) c.first_moment-moment.ensures
    (subst (λ (f : NetFault). NotBegan g.H.D.Disk.tells (λ (n b : List ℕ). g.H.Shelf.holds c.args.shelf.now n sides.A b) c.first_moment-moment.result c.args.scenario.now.managers (g.H.Shelf.faults c.args.shelf.now) (g.H.Shelf.faults c.begin_one.new.shelf) counts f) (sym c.hand_back.ensures.fault)
    (breaks_off g.H.D.Disk.tells (g.H.Shelf.holds c.args.shelf.now) (g.H.Shelf.holds c.loop-line.shelf) c.first_moment-moment.result c.args.scenario.now.managers c.loop-line.line-index c.len.result c.line-item.result c.loop-line.managers.items
    (g.H.Shelf.faults c.args.shelf.now) (g.H.Shelf.faults c.loop-line.shelf) (g.H.Shelf.faults c.begin_one.new.shelf) counts _ c.in-Err-begin_one.refused.fault known (c.len.ensures ∙ c.loop-line.invariant.many) c.loop-line.invariant.on c.in-Err-begin_one.ensures.later c.in-Err-begin_one.ensures.told c.hand_back.ensures.counts))

pub loop-line-preserved : goal.loop-line-preserved
loop-line-preserved g c =
    let known = subst (λ (xs : List ManagerLine). slice_get xs c.loop-line.line-index ≡ Some c.line-item.result) c.as_slice-line-items.ensures (slice_get_read _ _ _ _ refl c.loop-line-test.true c.line-item.is) in
    record {
      on = subst (λ (xs : List CoreValue). Beginning g.H.D.Disk.tells (g.H.Shelf.holds c.args.shelf.now) (g.H.Shelf.holds c.begin_one.new.shelf) c.first_moment-moment.result c.args.scenario.now.managers (c.loop-line.line-index + 1) xs (g.H.Shelf.faults c.args.shelf.now) (g.H.Shelf.faults c.begin_one.new.shelf)) (sym c.with_manager-managers.ensures.items)
          (goes_on g.H.D.Disk.tells (g.H.Shelf.holds c.args.shelf.now) (g.H.Shelf.holds c.loop-line.shelf) (g.H.Shelf.holds c.begin_one.new.shelf) c.first_moment-moment.result c.args.scenario.now.managers c.loop-line.line-index c.len.result c.line-item.result c.loop-line.managers.items c.in-Ok-begin_one.manager
          (g.H.Shelf.faults c.args.shelf.now) (g.H.Shelf.faults c.loop-line.shelf) (g.H.Shelf.faults c.begin_one.new.shelf) c.requires.scenario.names known (c.len.ensures ∙ c.loop-line.invariant.many) c.loop-line.invariant.on c.in-Ok-begin_one.ensures.told c.in-Ok-begin_one.ensures.others c.in-Ok-begin_one.ensures.later);
      none = c.loop-line.invariant.none;
      empty = c.loop-line.invariant.empty;
      many = c.with_manager-managers.ensures.len ∙ ap (λ (n : ℕ). n + 1) c.loop-line.invariant.many;
      disks = c.loop-line.invariant.disks;
      cores = subst (λ (n : ℕ). length c.args.scenario.now.managers ≤ n) (sym c.with_manager-managers.ensures.capacity) c.loop-line.invariant.cores;
    }

pub returns-clause-told : goal.returns-clause-told
returns-clause-told g c =
    subst (λ (m : ℕ). AllBegan g.H.D.Disk.tells (λ (n b : List ℕ). g.H.Shelf.holds c.args.shelf.now n sides.A b) m 0 c.args.scenario.now.managers c.loop-line.managers.items) c.first_moment-moment.ensures
    (all_began g.H.D.Disk.tells (g.H.Shelf.holds c.args.shelf.now) (g.H.Shelf.holds c.loop-line.shelf) c.first_moment-moment.result c.args.scenario.now.managers c.loop-line.line-index c.loop-line.managers.items (g.H.Shelf.faults c.args.shelf.now) (g.H.Shelf.faults c.loop-line.shelf)
    (subst (λ (xs : List ManagerLine). length xs ≤ c.loop-line.line-index) c.as_slice-line-items.ensures c.loop-line-test.false) c.loop-line.invariant.on)
