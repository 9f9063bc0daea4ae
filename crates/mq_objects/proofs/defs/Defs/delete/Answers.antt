use Rattle.std.proofs.Common.{◌≡◌, ℕ, List, Option, Some, None, ap, sym, ◌∙◌, arith}
use Rattle.indexmap.specs.IndexMap.{get, index_map_len}
use Rattle.mq_objects.specs.declared.object.Object.{Object}
use Rattle.mq_objects.specs.declared.object.Definitions.{Definitions}
use Rattle.mq_objects.specs.declared.key.ObjectKey.{ObjectKey}
use Rattle.mq_objects.specs.Names.{subject_space, subject_name}
use Rattle.mq_objects.specs.Keys.{same_key, subject_key}
use Rattle.mq_objects.specs.Held.{Held}
use Rattle.mq_objects.specs.Changed.{delete}
use Rattle.mq_objects.proofs.FiledLemmas.{found_within, filed_taken, present_deleted, present_same}
use Rattle.mq_objects.proofs.defs.Defs.delete.Goals as goal

pub returns-in_default-clause-definitions : goal.returns-in_default-clause-definitions
returns-in_default-clause-definitions c =
    let find : ObjectKey → Option ℕ = get same_key c.self.inside.places in
    let s = c.args.subject.now in
    let none : find (subject_key s) ≡ None = ap find (sym c.of_subject.ensures) ∙ sym c.swap_remove.ensures.value ∙ c.in_default.is in
    ap (λ (os : List Object). let d : Definitions = record { objects = os; manager = c.self.inside.attributes } in d) (present_same _ find _ c.self.invariant s none)
    ∙ ap (λ (v : Held). delete (subject_space s) (subject_name s) v.definitions) c.self.view_is

pub index_mut-requires : goal.index_mut-requires
index_mut-requires c =
    omega (arith, found_within _ _ _ c.self.invariant c.of_subject.result c.in-Some.place (sym c.swap_remove.ensures.value ∙ c.in-Some.is), c.self.inside.slots.ok)

pub close_gaps-requires-clause-distinct : goal.close_gaps-requires-clause-distinct
close_gaps-requires-clause-distinct c =
    let filed = filed_taken c.self.inside.slots.items (get same_key c.self.inside.places) _ c.self.invariant c.of_subject.result c.in-Some.place (get same_key c.swap_remove.new.self) (index_map_len c.swap_remove.new.self)
    c.swap_remove.result c.swap_remove.ensures.value c.in-Some.is c.swap_remove.ensures.updates.0 c.swap_remove.ensures.len in
    filed.distinct

pub close_gaps-requires-clause-counted : goal.close_gaps-requires-clause-counted
close_gaps-requires-clause-counted c =
    let filed = filed_taken c.self.inside.slots.items (get same_key c.self.inside.places) _ c.self.invariant c.of_subject.result c.in-Some.place (get same_key c.swap_remove.new.self) (index_map_len c.swap_remove.new.self)
    c.swap_remove.result c.swap_remove.ensures.value c.in-Some.is c.swap_remove.ensures.updates.0 c.swap_remove.ensures.len in
    filed.counted

pub invariant_of-self-else-len : goal.invariant_of-self-else-len
invariant_of-self-else-len c =
    filed_taken c.self.inside.slots.items (get same_key c.self.inside.places) _ c.self.invariant c.of_subject.result c.in-Some.place (get same_key c.swap_remove.new.self) (index_map_len c.swap_remove.new.self)
    c.swap_remove.result c.swap_remove.ensures.value c.in-Some.is c.swap_remove.ensures.updates.0 c.swap_remove.ensures.len

pub returns-then-len-clause-definitions : goal.returns-then-len-clause-definitions
returns-then-len-clause-definitions c =
    let find : ObjectKey → Option ℕ = get same_key c.self.inside.places in
    let s = c.args.subject.now in
    let at : find (subject_key s) ≡ Some c.in-Some.place = ap find (sym c.of_subject.ensures) ∙ sym c.swap_remove.ensures.value ∙ c.in-Some.is in
    ap (λ (os : List Object). let d : Definitions = record { objects = os; manager = c.self.inside.attributes } in d) (c.close_gaps.ensures.present ∙ present_deleted _ find _ c.self.invariant s c.in-Some.place at)
    ∙ ap (λ (v : Held). delete (subject_space s) (subject_name s) v.definitions) c.self.view_is

pub returns-else-len-clause-definitions : goal.returns-else-len-clause-definitions
returns-else-len-clause-definitions c =
    let find : ObjectKey → Option ℕ = get same_key c.self.inside.places in
    let s = c.args.subject.now in
    let at : find (subject_key s) ≡ Some c.in-Some.place = ap find (sym c.of_subject.ensures) ∙ sym c.swap_remove.ensures.value ∙ c.in-Some.is in
    ap (λ (os : List Object). let d : Definitions = record { objects = os; manager = c.self.inside.attributes } in d) (present_deleted _ find _ c.self.invariant s c.in-Some.place at)
    ∙ ap (λ (v : Held). delete (subject_space s) (subject_name s) v.definitions) c.self.view_is
