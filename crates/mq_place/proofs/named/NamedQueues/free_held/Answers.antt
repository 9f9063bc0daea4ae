use Rattle.std.proofs.Common.{◌-◌, List, Option, false, refl, sym, ap, subst, ◌∙◌}
use Rattle.std.specs.Prelude.{min}
use Rattle.std.specs.Str.{bytes_eq}
use Rattle.indexmap.specs.IndexMap.{get, spare, index_map_len}
use Rattle.mq_queue.specs.Rows.{retag}
use Rattle.mq_calls.specs.State.Which.{HeldBy}
use Rattle.mq_calls.specs.Changes.{released_in}
use Rattle.mq_place.specs.States.{QueueState, let_go, on_rows, on_queues}
use Rattle.mq_place.specs.Slots.{present, IsFiled}
use Rattle.mq_place.proofs.SlotLaws.{present-changes}
use Rattle.mq_place.proofs.FiledLaws.{filed_changes}
use Rattle.mq_place.proofs.CallLaws.{call_some}
use Rattle.mq_place.proofs.named.NamedQueues.free_held.Goals as goal

pub invariant_of-self : goal.invariant_of-self
invariant_of-self g c =
    subst (λ (slots : List (Option QueueState)). IsFiled slots (get bytes_eq c.self.inside.places) (index_map_len c.self.inside.places)) (sym c.free_held.ensures.slots)
    (filed_changes _ _ _ c.self.invariant (on_rows (retag (let_go c.args.by.now))) (λ s. refl))

pub returns : goal.returns
returns g c =
    call_some _ _ _ c.self.view_is (on_queues (released_in (HeldBy c.args.by.now) false)) (ap present c.free_held.ensures.slots ∙ present-changes (on_rows (retag (let_go c.args.by.now))) (λ s. refl) c.self.inside.slots.items)
    (λ i. min (spare c.self.inside.places) (c.free_held.ensures.capacity i - c.free_held.ensures.len i))
