use Rattle.std.proofs.Common.{ap, arith, refl, subst, sym, ◌≡◌, ◌∙◌, ◌^◌}
use Rattle.std.specs.Prelude.{IsSome, List, Option, Some, slice_get}
use Rattle.mq_queue.specs.declared.row.Row.{Row}
use Rattle.mq_queue.specs.Queues.{freed}
use Rattle.mq_index.specs.Slots.{home_in, one, row_in}
use Rattle.mq_index.proofs.ListLaws.{set_long, within}
use Rattle.mq_index.proofs.SlotLaws.{counted_freed, freed_alike, homes_alike, marked_alike, room_there, total_changed}
use Rattle.mq_index.proofs.StoreLaws.{freed_not, freed_now, index_alike, set_read, there_so}
use Rattle.mq_index.proofs.store.Store.release.Goals as goal

pub returns-then-is_free-clause-released : goal.returns-then-is_free-clause-released
returns-then-is_free-clause-released c row there =
    let seen = there_so _ c.in-Some.row.now c.in-Some.ensures in
    rw (← c.self.view_is) (freed_not c.self.inside.slots.items c.args.at c.args.backed_out c.in-Some.row.now row seen (rw (← c.self.view_is) at there) (sym c.is_free.ensures ∙ c.if-is_free.true))

pub count_slot-requires : goal.count_slot-requires
count_slot-requires c =
    let seen = there_so _ c.in-Some.row.now c.in-Some.ensures in
    let lt = within c.self.inside.slots.items _ c.args.at seen in
    let is = c.free_slot.ensures.freed c.in-Some.row.now seen in
    let read : slice_get c.free_slot.new.slots.items c.args.at ≡ Some (Some (freed c.args.backed_out c.in-Some.row.now)) = ap (λ (ss : List (Option Row)). slice_get ss c.args.at) is ∙ set_read c.self.inside.slots.items c.args.at (freed c.args.backed_out c.in-Some.row.now) lt in
    record {
      room = λ row there. room_there c.self.inside.slots.items row c.self.inside.frees (2 ^ 64) c.self.invariant.3 (omega (arith, c.self.inside.slots.small, c.self.inside.slots.ok.0, c.self.inside.slots.ok.1));
      there = subst (λ (o : Option (Option Row)). IsSome (row_in o)) (sym read) refl;
      within = rw is (omega (arith, lt, set_long c.self.inside.slots.items c.args.at (Some (freed c.args.backed_out c.in-Some.row.now))));
    }

pub invariant_of-self : goal.invariant_of-self
invariant_of-self c =
    let seen = there_so _ c.in-Some.row.now c.in-Some.ensures in
    let lt = within c.self.inside.slots.items _ c.args.at seen in
    let like = freed_alike c.args.backed_out c.in-Some.row.now in
    let is = c.free_slot.ensures.freed c.in-Some.row.now seen in
    let read : slice_get c.free_slot.new.slots.items c.args.at ≡ Some (Some (freed c.args.backed_out c.in-Some.row.now)) = ap (λ (ss : List (Option Row)). slice_get ss c.args.at) is ∙ set_read c.self.inside.slots.items c.args.at (freed c.args.backed_out c.in-Some.row.now) lt in (
      rw is (marked_alike c.self.inside.slots.items c.args.at c.in-Some.row.now _ seen like c.self.inside.marks.items c.self.inside.arrivals c.self.invariant.0),
      rw is (index_alike c.self.inside.slots.items c.args.at c.in-Some.row.now _ c.self.inside.index seen like c.self.invariant.1),
      rw is (homes_alike c.self.inside.slots.items c.args.at c.in-Some.row.now _ seen like (home_in c.self.inside.homes) c.self.invariant.2),
      rw is (counted_freed c.self.inside.slots.items c.args.at c.in-Some.row.now _ c.self.inside.frees c.count_slot.new.frees seen (sym c.is_free.ensures ∙ c.if-is_free.false) c.self.invariant.3 (c.count_slot.ensures (freed c.args.backed_out c.in-Some.row.now) read)),
      rw is (omega (arith, c.self.invariant.4, total_changed one c.self.inside.slots.items c.args.at c.in-Some.row.now (freed c.args.backed_out c.in-Some.row.now) seen)),
      omega (arith, c.self.invariant.5, c.free_slot.ensures.len, c.free_slot.ensures.capacity),
      c.self.invariant.6,
      c.self.invariant.7,
      c.self.invariant.8,
    )

pub returns-clause-released : goal.returns-clause-released
returns-clause-released c row there =
    let seen = there_so _ c.in-Some.row.now c.in-Some.ensures in
    rw (← c.self.view_is) (freed_now c.self.inside.slots.items c.args.at c.args.backed_out c.in-Some.row.now row c.free_slot.new.slots.items seen (rw (← c.self.view_is) at there) (sym c.is_free.ensures ∙ c.if-is_free.false) (c.free_slot.ensures.freed c.in-Some.row.now seen))
