use Rattle.std.proofs.Common.{◌-◌, List, Option, refl, sym, ap, subst, ◌∙◌}
use Rattle.std.specs.Prelude.{min}
use Rattle.std.specs.Str.{bytes_eq}
use Rattle.indexmap.specs.IndexMap.{get, spare, index_map_len}
use Rattle.mq_calls.specs.Changes.{forgotten}
use Rattle.mq_place.specs.States.{QueueState, on_queue, on_queues}
use Rattle.mq_place.specs.Slots.{present, IsFiled}
use Rattle.mq_place.proofs.SlotLaws.{present-changes}
use Rattle.mq_place.proofs.FiledLaws.{filed_changes}
use Rattle.mq_place.proofs.CallLaws.{call_some}
use Rattle.mq_place.proofs.named.NamedQueues.forget.Goals as goal

pub invariant_of-self : goal.invariant_of-self
invariant_of-self g c =
    subst (λ (slots : List (Option QueueState)). IsFiled slots (get bytes_eq c.self.inside.places) (index_map_len c.self.inside.places)) (sym c.forget.ensures.slots)
    (filed_changes _ _ _ c.self.invariant (on_queue forgotten) (λ s. refl))

pub returns : goal.returns
returns g c =
    call_some _ _ _ c.self.view_is (on_queues forgotten) (ap present c.forget.ensures.slots ∙ present-changes (on_queue forgotten) (λ s. refl) c.self.inside.slots.items)
    (λ i. min (spare c.self.inside.places) (c.forget.ensures.capacity i - c.forget.ensures.len i))
