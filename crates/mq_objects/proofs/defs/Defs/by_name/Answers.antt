use Rattle.std.proofs.Common.{◌≡◌, ℕ, Option, Some, None, filter, ap, sym, ◌∙◌, option_to_list, arith}
use Rattle.indexmap.specs.IndexMap.{get, get_by}
use Rattle.mq_objects.specs.declared.object.Object.{Object}
use Rattle.mq_objects.specs.declared.key.ObjectKey.{ObjectKey}
use Rattle.mq_objects.specs.Names.{space_in, is_object, object_in}
use Rattle.mq_objects.specs.Keys.{key_named, same_key}
use Rattle.mq_objects.specs.Held.{Held}
use Rattle.mq_objects.proofs.KeyLemmas.{names_key}
use Rattle.mq_objects.proofs.FiledLemmas.{found_within, named_none, named_found, named_alone}
use Rattle.mq_objects.proofs.defs.Defs.by_name.Goals as goal

pub returns-in_default-clause-value : goal.returns-in_default-clause-value
returns-in_default-clause-value c =
    let s = space_in c.args.space in
    let n = c.args.name.now in
    let find : ObjectKey → Option ℕ = get same_key c.self.inside.places in
    let none : find (key_named s n) ≡ None = sym (λ i. get_by (λ (k : ObjectKey). names_key c.args.space c.args.name k i) c.self.inside.places) ∙ sym c.in_default.ensures.value in
    sym (named_none _ find _ c.self.invariant s n none) ∙ ap (λ (v : Held). object_in s n v.definitions.objects) c.self.view_is

pub returns-in_default-clause-only : goal.returns-in_default-clause-only
returns-in_default-clause-only c =
    let s = space_in c.args.space in
    let n = c.args.name.now in
    let find : ObjectKey → Option ℕ = get same_key c.self.inside.places in
    let none : find (key_named s n) ≡ None = sym (λ i. get_by (λ (k : ObjectKey). names_key c.args.space c.args.name k i) c.self.inside.places) ∙ sym c.in_default.ensures.value in
    sym (ap (λ (v : Held). filter (is_object s n) v.definitions.objects) c.self.view_is)
    ∙ named_alone _ find _ c.self.invariant s n
    ∙ ap (λ (r : Option Object). option_to_list r) (named_none _ find _ c.self.invariant s n none)

pub index-requires : goal.index-requires
index-requires c =
    let s = space_in c.args.space in
    let n = c.args.name.now in
    let find : ObjectKey → Option ℕ = get same_key c.self.inside.places in
    let at : find (key_named s n) ≡ Some c.in-Some.place.now = sym (λ i. get_by (λ (k : ObjectKey). names_key c.args.space c.args.name k i) c.self.inside.places) ∙ sym c.in-Some.ensures.value in
    omega (arith, found_within _ find _ c.self.invariant (key_named s n) c.in-Some.place.now at, c.self.inside.slots.ok)

pub returns-clause-value : goal.returns-clause-value
returns-clause-value c =
    let s = space_in c.args.space in
    let n = c.args.name.now in
    let find : ObjectKey → Option ℕ = get same_key c.self.inside.places in
    let at : find (key_named s n) ≡ Some c.in-Some.place.now = sym (λ i. get_by (λ (k : ObjectKey). names_key c.args.space c.args.name k i) c.self.inside.places) ∙ sym c.in-Some.ensures.value in
    c.as_ref.ensures.value ∙ c.index.ensures ∙ sym (named_found _ find _ c.self.invariant s n c.in-Some.place.now c.index.result.now at)
    ∙ ap (λ (v : Held). object_in s n v.definitions.objects) c.self.view_is

pub returns-clause-only : goal.returns-clause-only
returns-clause-only c =
    let s = space_in c.args.space in
    let n = c.args.name.now in
    let find : ObjectKey → Option ℕ = get same_key c.self.inside.places in
    sym (ap (λ (v : Held). filter (is_object s n) v.definitions.objects) c.self.view_is)
    ∙ named_alone _ find _ c.self.invariant s n
    ∙ ap (λ (v : Held). option_to_list (object_in s n v.definitions.objects)) c.self.view_is
    ∙ ap (λ (r : Option Object). option_to_list r) (sym (returns-clause-value c))
