use Rattle.std.proofs.Common.{◌-◌, List, Option, refl, sym, ap, subst, ◌∙◌, arith}
use Rattle.std.specs.Prelude.{min, IfSome}
use Rattle.std.specs.Str.{bytes_eq}
use Rattle.indexmap.specs.IndexMap.{get, spare, index_map_len}
use Rattle.mq_place.specs.States.{QueueState, QueueStates, change_state, state_in, arrived, CanPlace}
use Rattle.mq_place.specs.Slots.{present, IsFiled}
use Rattle.mq_place.proofs.FiledLaws.{found_within, state_found, filed_change, present_change, present_same}
use Rattle.mq_place.proofs.CallLaws.{call_none, call_some}
use Rattle.mq_place.proofs.named.NamedQueues.place.Goals as goal

pub place_at-requires : goal.place_at-requires
place_at-requires g c = record { at = omega (arith, found_within _ _ _ c.self.invariant c.args.name.now c.in-Some.place.now (sym c.in-Some.ensures.value), c.self.inside.slots.ok); can = subst (λ (o : Option QueueState). IfSome o (CanPlace c.args.message)) (state_found _ _ _ c.self.invariant c.args.name.now c.in-Some.place.now (sym c.in-Some.ensures.value)) (subst (λ (v : QueueStates). IfSome (state_in c.args.name.now v.states) (CanPlace c.args.message)) (sym c.self.view_is) c.requires) }

pub invariant_of-self : goal.invariant_of-self
invariant_of-self g c =
    subst (λ (slots : List (Option QueueState)). IsFiled slots (get bytes_eq c.self.inside.places) (index_map_len c.self.inside.places)) (sym c.place_at.ensures.slots)
    (filed_change _ _ _ c.self.invariant (arrived c.args.message) (λ s. refl) c.in-Some.place.now)

pub returns-in-None : goal.returns-in-None
returns-in-None g c =
    call_none _ _ c.self.view_is (change_state c.args.name.now (arrived c.args.message))
    (present_same _ _ _ c.self.invariant (arrived c.args.message) (λ s. refl) c.args.name.now (sym c.in-None.ensures.value))

pub returns-in-Some : goal.returns-in-Some
returns-in-Some g c =
    call_some _ _ _ c.self.view_is (change_state c.args.name.now (arrived c.args.message))
    (ap present c.place_at.ensures.slots ∙ present_change _ _ _ c.self.invariant (arrived c.args.message) (λ s. refl) c.args.name.now c.in-Some.place.now (sym c.in-Some.ensures.value))
    (λ i. min (spare c.self.inside.places) (c.place_at.ensures.capacity i - c.place_at.ensures.len i))
