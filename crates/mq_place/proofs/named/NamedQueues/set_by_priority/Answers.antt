use Rattle.std.proofs.Common.{◌≡◌, ◌-◌, List, [], Option, refl, sym, ap, subst, ◌∙◌, arith}
use Rattle.std.specs.Prelude.{min}
use Rattle.std.specs.Str.{bytes_eq}
use Rattle.indexmap.specs.IndexMap.{get, spare, index_map_len}
use Rattle.mq_place.specs.States.{QueueState, QueueStates, change_state, with_lanes, rows_in}
use Rattle.mq_place.specs.Slots.{present, IsFiled, rows_of_slot}
use Rattle.mq_place.proofs.FiledLaws.{found_within, state_found, filed_change, present_change, present_same}
use Rattle.mq_place.proofs.CallLaws.{call_none, call_some}
use Rattle.mq_place.proofs.StateLaws.{rows_found}
use Rattle.mq_place.proofs.named.NamedQueues.set_by_priority.Goals as goal

pub lanes_at-requires : goal.lanes_at-requires
lanes_at-requires g c = record { at = omega (arith, found_within _ _ _ c.self.invariant c.args.name.now c.in-Some.place.now (sym c.in-Some.ensures.value), c.self.inside.slots.ok); empty = ap rows_of_slot (sym (state_found _ _ _ c.self.invariant c.args.name.now c.in-Some.place.now (sym c.in-Some.ensures.value))) ∙ sym (rows_found c.args.name.now (present c.self.inside.slots.items)) ∙ subst (λ (v : QueueStates). rows_in c.args.name.now v.states ≡ []) (sym c.self.view_is) c.requires }

pub invariant_of-self : goal.invariant_of-self
invariant_of-self g c =
    subst (λ (slots : List (Option QueueState)). IsFiled slots (get bytes_eq c.self.inside.places) (index_map_len c.self.inside.places)) (sym c.lanes_at.ensures.slots)
    (filed_change _ _ _ c.self.invariant (with_lanes c.args.prioritized) (λ s. refl) c.in-Some.place.now)

pub returns-in-None : goal.returns-in-None
returns-in-None g c =
    call_none _ _ c.self.view_is (change_state c.args.name.now (with_lanes c.args.prioritized))
    (present_same _ _ _ c.self.invariant (with_lanes c.args.prioritized) (λ s. refl) c.args.name.now (sym c.in-None.ensures.value))

pub returns-in-Some : goal.returns-in-Some
returns-in-Some g c =
    call_some _ _ _ c.self.view_is (change_state c.args.name.now (with_lanes c.args.prioritized))
    (ap present c.lanes_at.ensures.slots ∙ present_change _ _ _ c.self.invariant (with_lanes c.args.prioritized) (λ s. refl) c.args.name.now c.in-Some.place.now (sym c.in-Some.ensures.value))
    (λ i. min (spare c.self.inside.places) (c.lanes_at.ensures.capacity i - c.lanes_at.ensures.len i))
