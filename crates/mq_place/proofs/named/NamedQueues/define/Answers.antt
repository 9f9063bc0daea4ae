use Rattle.std.proofs.Common.{◌≡◌, ℕ, List, [], ◌∷◌, ◌++◌, Option, Some, None, cond, is_some, if◌then◌else◌, length, ap, sym, subst, ◌∙◌, arith}
use Rattle.std.specs.Str.{bytes_eq}
use Rattle.indexmap.specs.IndexMap.{get, index_map_len}
use Rattle.mq_place.specs.States.{QueueState, QueueStates, state_in, fresh_state}
use Rattle.mq_place.specs.Slots.{present, IsFiled}
use Rattle.mq_place.proofs.SlotLaws.{present-push}
use Rattle.mq_place.proofs.FiledLaws.{none_of_state, filed_push}
use Rattle.mq_place.proofs.named.NamedQueues.define.Goals as goal

pub invariant_of-self : goal.invariant_of-self
invariant_of-self g c =
    let slots = c.self.inside.slots.items in
    let find : List ℕ → Option ℕ = get bytes_eq c.self.inside.places in
    let name = c.args.name.now in
    let new : QueueState = c.new.result in
    let absent : state_in name (present slots) ≡ None = subst (λ (v : QueueStates). state_in name v.states ≡ None) (sym c.self.view_is) c.requires.absent in
    let none : find name ≡ None = none_of_state slots find _ c.self.invariant name absent in
    let updates = rw c.unwrap-none.ensures at c.insert.ensures.updates in
    let len = rw c.unwrap-none.ensures at c.insert.ensures.len in
    let old = rw c.unwrap-none.ensures at c.insert.ensures.old in
    let more : Option ℕ → ℕ = λ (r : Option ℕ). if is_some r then 0 else 1 in
    let one : more c.unwrap-none.result ≡ 1 = ap more (old ∙ none) in
    let long : c.len.result ≡ length slots = omega (arith, c.len.ensures, c.self.inside.slots.ok) in
    let named : new.queue.name ≡ name = ap (λ (s : QueueState). s.queue.name) c.new.ensures in
    let put : (k : List ℕ) → get bytes_eq c.insert.new.self k ≡ cond (bytes_eq new.queue.name k) (Some (length slots)) (find k) =
    λ k. updates.0 k ∙ (λ j. cond (bytes_eq (sym named j) k) (Some (long j)) (find k)) in
    let filed = filed_push slots find _ c.self.invariant new (get bytes_eq c.insert.new.self) (index_map_len c.insert.new.self) (ap find named ∙ none) put (omega (arith, len, one)) in
    subst (λ (l : List (Option QueueState)). IsFiled l (get bytes_eq c.insert.new.self) (index_map_len c.insert.new.self)) (sym c.push_reserved.ensures.items) filed

pub returns-clause-states : goal.returns-clause-states
returns-clause-states g c =
    let slots = c.self.inside.slots.items in
    let new : QueueState = c.new.result in
    ap present c.push_reserved.ensures.items ∙ present-push new slots ∙ ap (λ (s : QueueState). present slots ++ s ∷ []) c.new.ensures
    ∙ ap (λ (v : QueueStates). v.states ++ fresh_state c.args.name.now c.args.prioritized ∷ []) c.self.view_is
