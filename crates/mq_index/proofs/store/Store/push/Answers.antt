use Rattle.std.proofs.Common.{ap, arith, ℕ, ◌+◌, ◌-◌, ◌^◌, ◌∙◌}
use Rattle.std.specs.Prelude.{Some, if◌then◌else◌}
use Rattle.mq_message.specs.declared.message.Ident.{Ident}
use Rattle.mq_queue.specs.Rows.{same_ident}
use Rattle.mq_index.specs.Slots.{home_in, one}
use Rattle.mq_index.specs.Stores.{StoreState}
use Rattle.mq_index.proofs.SlotLaws.{counted_more, homes_more, marked_more, room_there, total_long, total_more}
use Rattle.mq_index.proofs.StoreLaws.{room_less}
use Rattle.mq_index.proofs.store.Store.push.Goals as goal

pub push-requires : goal.push-requires
push-requires c = record { index = c.self.invariant.1; room = room_less 1 c.self.inside.room c.self.inside.index (omega (arith, c.requires.room, ap (λ (t : StoreState). t.room) c.self.view_is)) c.self.invariant.7 }

pub note_home-requires : goal.note_home-requires
note_home-requires c = record { room = omega (arith, c.requires.room, ap (λ (t : StoreState). t.room) c.self.view_is, c.self.invariant.8) }

pub count_in-requires : goal.count_in-requires
count_in-requires c = room_there c.self.inside.slots.items c.args.row c.self.inside.frees (2 ^ 64) c.self.invariant.3 (omega (arith, c.self.inside.slots.small, c.self.inside.slots.ok.0, c.self.invariant.5, c.requires.room, ap (λ (t : StoreState). t.room) c.self.view_is))

pub overflow_add-self : goal.overflow_add-self
overflow_add-self c =
    let few = total_long one c.self.inside.slots.items (λ row. omega arith) in
    omega (arith, few, c.self.invariant.4, c.self.inside.slots.small, c.self.inside.slots.ok.0, c.self.inside.slots.ok.1)

pub invariant_of-self : goal.invariant_of-self
invariant_of-self c = (
  rw (c.push_reserved.ensures.items, c.push_reserved-2.ensures.items) (marked_more c.self.inside.marks.items c.self.inside.slots.items c.self.inside.arrivals c.args.row c.self.invariant.0 (rw (← c.self.view_is) at c.requires.later) c.requires.lane),
  rw c.push_reserved-2.ensures.items c.push.ensures.index,
  rw c.push_reserved-2.ensures.items (homes_more c.self.inside.slots.items c.args.row (home_in c.self.inside.homes) (home_in c.note_home.new.homes) c.self.invariant.2 (rw (← c.self.view_is) at c.requires.fresh) (λ (other : Ident). c.note_home.ensures.noted other ∙ ap (λ (n : ℕ). if same_ident c.args.row.message.ident other then Some n else home_in c.self.inside.homes other) (c.len.ensures ∙ c.self.inside.slots.ok.0))),
  rw c.push_reserved-2.ensures.items (counted_more c.self.inside.slots.items c.args.row c.self.inside.frees c.count_in.new.frees c.self.invariant.3 c.count_in.ensures),
  rw c.push_reserved-2.ensures.items (omega (arith, c.self.invariant.4, total_more one c.self.inside.slots.items c.args.row)),
  omega (arith, c.self.invariant.5, c.push_reserved-2.ensures.len, c.push_reserved-2.ensures.capacity, c.requires.room, ap (λ (t : StoreState). t.room) c.self.view_is),
  omega (arith, c.self.invariant.6, c.push_reserved.ensures.len, c.push_reserved.ensures.capacity, c.requires.room, ap (λ (t : StoreState). t.room) c.self.view_is),
  c.push.ensures.room (c.self.inside.room - 1) (room_less (c.self.inside.room - 1 + 1) c.self.inside.room c.self.inside.index (omega (arith, c.requires.room, ap (λ (t : StoreState). t.room) c.self.view_is)) c.self.invariant.7),
  omega (arith, c.self.invariant.8, c.note_home.ensures.spare, c.requires.room, ap (λ (t : StoreState). t.room) c.self.view_is),
)
