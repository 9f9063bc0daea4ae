use Rattle.std.proofs.Common.{◌-◌, List, Option, refl, sym, ap, subst, ◌∙◌, arith}
use Rattle.std.specs.Prelude.{min, IfSome}
use Rattle.std.specs.Str.{bytes_eq}
use Rattle.indexmap.specs.IndexMap.{get, spare, index_map_len}
use Rattle.std.proofs.Common.{◌+◌, ◌<◌, ◌^◌}
use Rattle.mq_calls.specs.Changes.{made_due}
use Rattle.mq_place.specs.States.{QueueState, QueueStates, change_state, on_queue, state_or, CanBeDue}
use Rattle.mq_place.specs.Slots.{present, IsFiled}
use Rattle.mq_place.proofs.FiledLaws.{found_within, state_found, filed_change, present_change, present_same}
use Rattle.mq_place.proofs.CallLaws.{call_none, call_some, can_be_due}
use Rattle.mq_place.proofs.named.NamedQueues.make_due.Goals as goal

pub make_due_at-requires : goal.make_due_at-requires
make_due_at-requires g c = record { at = omega (arith, found_within _ _ _ c.self.invariant c.args.name.now c.in-Some.place.now (sym c.in-Some.ensures.value), c.self.inside.slots.ok); count = subst (λ (o : Option QueueState). IfSome o CanBeDue) (state_found _ _ _ c.self.invariant c.args.name.now c.in-Some.place.now (sym c.in-Some.ensures.value)) (can_be_due c.args.name.now _ (subst (λ (v : QueueStates). (state_or c.args.name.now v.states).queue.due + 1 < 2 ^ 64) (sym c.self.view_is) c.requires)) }

pub invariant_of-self : goal.invariant_of-self
invariant_of-self g c =
    subst (λ (slots : List (Option QueueState)). IsFiled slots (get bytes_eq c.self.inside.places) (index_map_len c.self.inside.places)) (sym c.make_due_at.ensures.slots)
    (filed_change _ _ _ c.self.invariant (on_queue (made_due c.args.depth c.args.moment)) (λ s. refl) c.in-Some.place.now)

pub returns-in-None : goal.returns-in-None
returns-in-None g c =
    call_none _ _ c.self.view_is (change_state c.args.name.now (on_queue (made_due c.args.depth c.args.moment)))
    (present_same _ _ _ c.self.invariant (on_queue (made_due c.args.depth c.args.moment)) (λ s. refl) c.args.name.now (sym c.in-None.ensures.value))

pub returns-in-Some : goal.returns-in-Some
returns-in-Some g c =
    call_some _ _ _ c.self.view_is (change_state c.args.name.now (on_queue (made_due c.args.depth c.args.moment)))
    (ap present c.make_due_at.ensures.slots ∙ present_change _ _ _ c.self.invariant (on_queue (made_due c.args.depth c.args.moment)) (λ s. refl) c.args.name.now c.in-Some.place.now (sym c.in-Some.ensures.value))
    (λ i. min (spare c.self.inside.places) (c.make_due_at.ensures.capacity i - c.make_due_at.ensures.len i))
