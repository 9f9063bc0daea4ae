use Rattle.std.proofs.Common.{◌-◌, List, Option, refl, sym, ap, subst, ◌∙◌}
use Rattle.std.specs.Prelude.{min}
use Rattle.std.specs.Str.{bytes_eq}
use Rattle.indexmap.specs.IndexMap.{get, spare, index_map_len}
use Rattle.mq_queue.specs.Rows.{keep}
use Rattle.mq_queue.specs.Queues.{is_lasting}
use Rattle.mq_calls.specs.State.Which.{Nonpersistent}
use Rattle.mq_calls.specs.Changes.{kept_in}
use Rattle.mq_place.specs.States.{QueueState, on_rows, on_queues}
use Rattle.mq_place.proofs.StateLaws.{all_lasting}
use Rattle.mq_place.specs.Slots.{present, IsFiled}
use Rattle.mq_place.proofs.SlotLaws.{present-changes}
use Rattle.mq_place.proofs.FiledLaws.{filed_changes}
use Rattle.mq_place.proofs.CallLaws.{call_some}
use Rattle.mq_place.proofs.named.NamedQueues.drop_volatile.Goals as goal

pub invariant_of-self : goal.invariant_of-self
invariant_of-self g c =
    subst (λ (slots : List (Option QueueState)). IsFiled slots (get bytes_eq c.self.inside.places) (index_map_len c.self.inside.places)) (sym c.drop_volatile.ensures.slots)
    (filed_changes _ _ _ c.self.invariant (on_rows (keep is_lasting)) (λ s. refl))

pub returns : goal.returns
returns g c =
    call_some _ _ _ c.self.view_is (on_queues (kept_in Nonpersistent)) (ap present c.drop_volatile.ensures.slots ∙ present-changes (on_rows (keep is_lasting)) (λ s. refl) c.self.inside.slots.items ∙ all_lasting (present c.self.inside.slots.items))
    (λ i. min (spare c.self.inside.places) (c.drop_volatile.ensures.capacity i - c.drop_volatile.ensures.len i))
