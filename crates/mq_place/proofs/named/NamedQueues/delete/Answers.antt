use Rattle.std.proofs.Common.{ap, sym, ◌∙◌, arith}
use Rattle.std.specs.Str.{bytes_eq}
use Rattle.indexmap.specs.IndexMap.{get, index_map_len}
use Rattle.mq_place.specs.States.{QueueStates, without_state}
use Rattle.mq_place.proofs.FiledLaws.{found_within, filed_taken, present_deleted, present_kept}
use Rattle.mq_place.proofs.named.NamedQueues.delete.Goals as goal

pub returns-in_default-clause-states : goal.returns-in_default-clause-states
returns-in_default-clause-states g c =
    present_kept _ _ _ c.self.invariant c.args.name.now (sym c.swap_remove.ensures.value ∙ c.in_default.is) ∙ ap (λ (v : QueueStates). without_state c.args.name.now v.states) c.self.view_is

pub index_mut-requires : goal.index_mut-requires
index_mut-requires g c = omega (arith, found_within _ _ _ c.self.invariant c.args.name.now c.in-Some.place (sym c.swap_remove.ensures.value ∙ c.in-Some.is), c.self.inside.slots.ok)

pub close_gaps-requires-clause-distinct : goal.close_gaps-requires-clause-distinct
close_gaps-requires-clause-distinct g c =
    let filed = filed_taken c.self.inside.slots.items (get bytes_eq c.self.inside.places) _ c.self.invariant c.args.name.now c.in-Some.place (get bytes_eq c.swap_remove.new.self) (index_map_len c.swap_remove.new.self)
    c.swap_remove.result c.swap_remove.ensures.value c.in-Some.is c.swap_remove.ensures.updates.0 c.swap_remove.ensures.len in
    filed.distinct

pub close_gaps-requires-clause-counted : goal.close_gaps-requires-clause-counted
close_gaps-requires-clause-counted g c =
    let filed = filed_taken c.self.inside.slots.items (get bytes_eq c.self.inside.places) _ c.self.invariant c.args.name.now c.in-Some.place (get bytes_eq c.swap_remove.new.self) (index_map_len c.swap_remove.new.self)
    c.swap_remove.result c.swap_remove.ensures.value c.in-Some.is c.swap_remove.ensures.updates.0 c.swap_remove.ensures.len in
    filed.counted

pub invariant_of-self-else-len : goal.invariant_of-self-else-len
invariant_of-self-else-len g c =
    filed_taken c.self.inside.slots.items (get bytes_eq c.self.inside.places) _ c.self.invariant c.args.name.now c.in-Some.place (get bytes_eq c.swap_remove.new.self) (index_map_len c.swap_remove.new.self)
    c.swap_remove.result c.swap_remove.ensures.value c.in-Some.is c.swap_remove.ensures.updates.0 c.swap_remove.ensures.len

pub returns-then-len-clause-states : goal.returns-then-len-clause-states
returns-then-len-clause-states g c =
    c.close_gaps.ensures.present ∙ present_deleted _ _ _ c.self.invariant c.args.name.now c.in-Some.place (sym c.swap_remove.ensures.value ∙ c.in-Some.is)
    ∙ ap (λ (v : QueueStates). without_state c.args.name.now v.states) c.self.view_is

pub returns-else-len-clause-states : goal.returns-else-len-clause-states
returns-else-len-clause-states g c =
    present_deleted _ _ _ c.self.invariant c.args.name.now c.in-Some.place (sym c.swap_remove.ensures.value ∙ c.in-Some.is)
    ∙ ap (λ (v : QueueStates). without_state c.args.name.now v.states) c.self.view_is
