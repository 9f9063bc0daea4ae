use Rattle.std.proofs.Common.{◌∷◌, ◌-◌, List, [], Option, refl, sym, ap, subst, ◌∙◌, arith}
use Rattle.std.specs.Prelude.{min}
use Rattle.std.specs.Str.{bytes_eq}
use Rattle.indexmap.specs.IndexMap.{get, spare, index_map_len}
use Rattle.mq_calls.specs.State.Which.{Among}
use Rattle.mq_calls.specs.Changes.{released_in}
use Rattle.mq_place.specs.States.{QueueState, on_rows, on_queues, release_each}
use Rattle.mq_place.specs.Slots.{present, IsFiled}
use Rattle.mq_place.proofs.FiledLaws.{found_within, filed_change, present_change, present_same}
use Rattle.mq_place.proofs.CallLaws.{call_none, call_some}
use Rattle.mq_place.proofs.StateLaws.{apart, released_one}
use Rattle.mq_place.proofs.named.NamedQueues.release.Goals as goal

pub release_at-requires : goal.release_at-requires
release_at-requires g c = record { at = omega (arith, found_within _ _ _ c.self.invariant c.args.name.now c.in-Some.place.now (sym c.in-Some.ensures.value), c.self.inside.slots.ok) }

pub invariant_of-self : goal.invariant_of-self
invariant_of-self g c =
    subst (λ (slots : List (Option QueueState)). IsFiled slots (get bytes_eq c.self.inside.places) (index_map_len c.self.inside.places)) (sym c.release_at.ensures.slots)
    (filed_change _ _ _ c.self.invariant (on_rows (release_each (c.args.ident.now ∷ []) c.args.backed_out)) (λ s. refl) c.in-Some.place.now)

pub returns-in-None : goal.returns-in-None
returns-in-None g c =
    call_none _ _ c.self.view_is (on_queues (released_in (Among c.args.name.now (c.args.ident.now ∷ [])) c.args.backed_out))
    (present_same _ _ _ c.self.invariant (on_rows (release_each (c.args.ident.now ∷ []) c.args.backed_out)) (λ s. refl) c.args.name.now (sym c.in-None.ensures.value) ∙ released_one c.args.name.now (c.args.ident.now ∷ []) c.args.backed_out (present c.self.inside.slots.items) (apart c.self.inside.slots.items c.self.invariant.distinct))

pub returns-in-Some : goal.returns-in-Some
returns-in-Some g c =
    call_some _ _ _ c.self.view_is (on_queues (released_in (Among c.args.name.now (c.args.ident.now ∷ [])) c.args.backed_out))
    (ap present c.release_at.ensures.slots ∙ present_change _ _ _ c.self.invariant (on_rows (release_each (c.args.ident.now ∷ []) c.args.backed_out)) (λ s. refl) c.args.name.now c.in-Some.place.now (sym c.in-Some.ensures.value) ∙ released_one c.args.name.now (c.args.ident.now ∷ []) c.args.backed_out (present c.self.inside.slots.items) (apart c.self.inside.slots.items c.self.invariant.distinct))
    (λ i. min (spare c.self.inside.places) (c.release_at.ensures.capacity i - c.release_at.ensures.len i))
