use Rattle.std.proofs.Common.{◌∷◌, ◌-◌, List, [], Option, refl, sym, ap, subst, ◌∙◌, arith}
use Rattle.std.specs.Prelude.{min}
use Rattle.std.specs.Str.{bytes_eq}
use Rattle.indexmap.specs.IndexMap.{get, spare, index_map_len}
use Rattle.mq_calls.specs.State.Which.{Among}
use Rattle.mq_calls.specs.Changes.{kept_in}
use Rattle.mq_queue.specs.Queues.{message_of}
use Rattle.mq_place.specs.States.{QueueState, QueueStates, on_rows, on_queues, remove_each, rows_in}
use Rattle.mq_place.specs.Slots.{present, IsFiled, rows_of_slot}
use Rattle.mq_place.proofs.FiledLaws.{found_within, state_found, state_none, filed_change, present_change, present_same}
use Rattle.mq_place.proofs.CallLaws.{call_none, call_some}
use Rattle.mq_place.proofs.StateLaws.{apart, rows_found, removed_one}
use Rattle.mq_place.proofs.named.NamedQueues.remove.Goals as goal

pub remove_at-requires : goal.remove_at-requires
remove_at-requires g c = record { at = omega (arith, found_within _ _ _ c.self.invariant c.args.name.now c.in-Some.place.now (sym c.in-Some.ensures.value), c.self.inside.slots.ok) }

pub invariant_of-self : goal.invariant_of-self
invariant_of-self g c =
    subst (λ (slots : List (Option QueueState)). IsFiled slots (get bytes_eq c.self.inside.places) (index_map_len c.self.inside.places)) (sym c.remove_at.ensures.becomes.slots)
    (filed_change _ _ _ c.self.invariant (on_rows (remove_each (c.args.ident.now ∷ []))) (λ s. refl) c.in-Some.place.now)

pub returns-in-None-clause-states : goal.returns-in-None-clause-states
returns-in-None-clause-states g c =
    call_none _ _ c.self.view_is (on_queues (kept_in (Among c.args.name.now (c.args.ident.now ∷ []))))
    (present_same _ _ _ c.self.invariant (on_rows (remove_each (c.args.ident.now ∷ []))) (λ s. refl) c.args.name.now (sym c.in-None.ensures.value) ∙ removed_one c.args.name.now (c.args.ident.now ∷ []) (present c.self.inside.slots.items) (apart c.self.inside.slots.items c.self.invariant.distinct))

pub returns-in-Some-clause-states : goal.returns-in-Some-clause-states
returns-in-Some-clause-states g c =
    call_some _ _ _ c.self.view_is (on_queues (kept_in (Among c.args.name.now (c.args.ident.now ∷ []))))
    (ap present c.remove_at.ensures.becomes.slots ∙ present_change _ _ _ c.self.invariant (on_rows (remove_each (c.args.ident.now ∷ []))) (λ s. refl) c.args.name.now c.in-Some.place.now (sym c.in-Some.ensures.value) ∙ removed_one c.args.name.now (c.args.ident.now ∷ []) (present c.self.inside.slots.items) (apart c.self.inside.slots.items c.self.invariant.distinct))
    (λ i. min (spare c.self.inside.places) (c.remove_at.ensures.becomes.capacity i - c.remove_at.ensures.becomes.len i))

pub returns-in-None-clause-message : goal.returns-in-None-clause-message
returns-in-None-clause-message g c =
    sym (ap (λ (v : QueueStates). message_of c.args.ident.now (rows_in c.args.name.now v.states)) (sym c.self.view_is)
    ∙ ap (message_of c.args.ident.now) (rows_found c.args.name.now (present c.self.inside.slots.items) ∙ ap rows_of_slot (state_none _ _ _ c.self.invariant c.args.name.now (sym c.in-None.ensures.value))))

pub returns-in-Some-clause-message : goal.returns-in-Some-clause-message
returns-in-Some-clause-message g c =
    c.remove_at.ensures.message
    ∙ ap (message_of c.args.ident.now) (ap rows_of_slot (sym (state_found _ _ _ c.self.invariant c.args.name.now c.in-Some.place.now (sym c.in-Some.ensures.value))) ∙ sym (rows_found c.args.name.now (present c.self.inside.slots.items)))
    ∙ ap (λ (v : QueueStates). message_of c.args.ident.now (rows_in c.args.name.now v.states)) c.self.view_is
