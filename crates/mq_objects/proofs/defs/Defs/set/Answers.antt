use Rattle.std.proofs.Common.{◌≡◌, ℕ, List, Option, Some, None, cond, is_some, if◌then◌else◌, length, ap, sym, subst, ◌∙◌, arith}
use Rattle.indexmap.specs.IndexMap.{get, index_map_len}
use Rattle.mq_objects.specs.declared.object.Object.{Object}
use Rattle.mq_objects.specs.declared.object.Definitions.{Definitions}
use Rattle.mq_objects.specs.declared.key.ObjectKey.{ObjectKey}
use Rattle.mq_objects.specs.Keys.{key_of, same_key}
use Rattle.mq_objects.specs.Held.{Held}
use Rattle.mq_objects.specs.Changed.{set, set_in}
use Rattle.mq_objects.specs.Slots.{present, IsFiled}
use Rattle.mq_objects.proofs.SlotLemmas.{present-set, present-push}
use Rattle.mq_objects.proofs.FiledLemmas.{at_found, none_found, found_within, filed_set, filed_push}
use Rattle.mq_objects.proofs.defs.Defs.set.Goals as goal

pub invariant_of-self : goal.invariant_of-self
invariant_of-self c =
    let slots = c.self.inside.slots.items in
    let find : ObjectKey → Option ℕ = get same_key c.self.inside.places in
    let new = c.args.object in
    let none : find (key_of new) ≡ None = ap find (sym c.of-key.ensures) ∙ sym c.get.ensures.value ∙ sym c.copied.ensures ∙ c.in_default.is in
    let updates = rw c.unwrap-none.ensures at c.insert.ensures.updates in
    let len = rw c.unwrap-none.ensures at c.insert.ensures.len in
    let old = rw c.unwrap-none.ensures at c.insert.ensures.old in
    let more : Option ℕ → ℕ = λ (r : Option ℕ). if is_some r then 0 else 1 in
    let one : more c.unwrap-none.result ≡ 1 = ap more (old ∙ ap find c.of-key.ensures ∙ none) in
    let long : c.len.result ≡ length slots = omega (arith, c.len.ensures, c.self.inside.slots.ok) in
    let key = c.of-key.ensures in
    let put : (k : ObjectKey) → get same_key c.insert.new.self k ≡ cond (same_key (key_of new) k) (Some (length slots)) (find k) =
    λ k. updates.0 k ∙ (λ j. cond (same_key (key j) k) (Some (long j)) (find k)) in
    let filed = filed_push slots find _ c.self.invariant new (get same_key c.insert.new.self) (index_map_len c.insert.new.self) none put (omega (arith, len, one)) in
    subst (λ (l : List (Option Object)). IsFiled l (get same_key c.insert.new.self) (index_map_len c.insert.new.self)) (sym c.push_reserved.ensures.items) filed

pub returns-in_default-clause-definitions : goal.returns-in_default-clause-definitions
returns-in_default-clause-definitions c =
    let slots = c.self.inside.slots.items in
    let find : ObjectKey → Option ℕ = get same_key c.self.inside.places in
    let new = c.args.object in
    let none : find (key_of new) ≡ None = ap find (sym c.of-key.ensures) ∙ sym c.get.ensures.value ∙ sym c.copied.ensures ∙ c.in_default.is in
    let objects : present c.push_reserved.new.self.items ≡ set_in new (present slots) =
    ap present c.push_reserved.ensures.items ∙ present-push new slots (none_found slots find _ c.self.invariant (key_of new) none) in
    ap (λ (os : List Object). let d : Definitions = record { objects = os; manager = c.self.inside.attributes } in d) objects
    ∙ ap (λ (v : Held). set new v.definitions) c.self.view_is

pub index_mut-requires : goal.index_mut-requires
index_mut-requires c =
    let at = sym c.get.ensures.value ∙ sym c.copied.ensures ∙ c.in-Some.is in
    omega (arith, found_within _ _ _ c.self.invariant c.of-key.result c.in-Some.place at, c.self.inside.slots.ok)

pub invariant_of-self-2 : goal.invariant_of-self-2
invariant_of-self-2 c =
    let find : ObjectKey → Option ℕ = get same_key c.self.inside.places in
    let at : find (key_of c.args.object) ≡ Some c.in-Some.place = ap find (sym c.of-key.ensures) ∙ sym c.get.ensures.value ∙ sym c.copied.ensures ∙ c.in-Some.is in
    filed_set _ find _ c.self.invariant c.args.object c.in-Some.place at

pub returns-clause-definitions : goal.returns-clause-definitions
returns-clause-definitions c =
    let slots = c.self.inside.slots.items in
    let find : ObjectKey → Option ℕ = get same_key c.self.inside.places in
    let new = c.args.object in
    let at : find (key_of new) ≡ Some c.in-Some.place = ap find (sym c.of-key.ensures) ∙ sym c.get.ensures.value ∙ sym c.copied.ensures ∙ c.in-Some.is in
    let objects = present-set new slots c.in-Some.place (at_found slots find _ c.self.invariant (key_of new) c.in-Some.place at) in
    ap (λ (os : List Object). let d : Definitions = record { objects = os; manager = c.self.inside.attributes } in d) objects
    ∙ ap (λ (v : Held). set new v.definitions) c.self.view_is
