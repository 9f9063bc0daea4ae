use Rattle.std.proofs.Common.{◌-◌, List, Option, refl, sym, ap, subst, ◌∙◌, arith}
use Rattle.std.specs.Prelude.{min}
use Rattle.std.specs.Str.{bytes_eq}
use Rattle.indexmap.specs.IndexMap.{get, spare, index_map_len}
use Rattle.mq_calls.specs.State.Which.{Among}
use Rattle.mq_calls.specs.Changes.{held_in}
use Rattle.mq_place.specs.States.{QueueState, on_rows, on_queues, hold_each}
use Rattle.mq_place.specs.Slots.{present, IsFiled}
use Rattle.mq_place.proofs.FiledLaws.{found_within, filed_change, present_change, present_same}
use Rattle.mq_place.proofs.CallLaws.{call_none, call_some}
use Rattle.mq_place.proofs.StateLaws.{apart, held_one}
use Rattle.mq_place.proofs.named.NamedQueues.hold_each.Goals as goal

pub hold_each_at-requires : goal.hold_each_at-requires
hold_each_at-requires g c = record { at = omega (arith, found_within _ _ _ c.self.invariant c.args.name.now c.in-Some.place.now (sym c.in-Some.ensures.value), c.self.inside.slots.ok) }

pub invariant_of-self : goal.invariant_of-self
invariant_of-self g c =
    subst (λ (slots : List (Option QueueState)). IsFiled slots (get bytes_eq c.self.inside.places) (index_map_len c.self.inside.places)) (sym c.hold_each_at.ensures.slots)
    (filed_change _ _ _ c.self.invariant (on_rows (hold_each c.args.idents.now c.args.by.now)) (λ s. refl) c.in-Some.place.now)

pub returns-in-None : goal.returns-in-None
returns-in-None g c =
    call_none _ _ c.self.view_is (on_queues (held_in (Among c.args.name.now c.args.idents.now) c.args.by.now))
    (present_same _ _ _ c.self.invariant (on_rows (hold_each c.args.idents.now c.args.by.now)) (λ s. refl) c.args.name.now (sym c.in-None.ensures.value) ∙ held_one c.args.name.now c.args.idents.now c.args.by.now (present c.self.inside.slots.items) (apart c.self.inside.slots.items c.self.invariant.distinct))

pub returns-in-Some : goal.returns-in-Some
returns-in-Some g c =
    call_some _ _ _ c.self.view_is (on_queues (held_in (Among c.args.name.now c.args.idents.now) c.args.by.now))
    (ap present c.hold_each_at.ensures.slots ∙ present_change _ _ _ c.self.invariant (on_rows (hold_each c.args.idents.now c.args.by.now)) (λ s. refl) c.args.name.now c.in-Some.place.now (sym c.in-Some.ensures.value) ∙ held_one c.args.name.now c.args.idents.now c.args.by.now (present c.self.inside.slots.items) (apart c.self.inside.slots.items c.self.invariant.distinct))
    (λ i. min (spare c.self.inside.places) (c.hold_each_at.ensures.capacity i - c.hold_each_at.ensures.len i))
