use Rattle.std.proofs.Common.{ap, sym, ◌∙◌, arith}
use Rattle.mq_objects.specs.Held.{Held}
use Rattle.mq_objects.specs.Keyed.{object_by}
use Rattle.mq_objects.proofs.FiledLemmas.{found_within, object_found, object_none}
use Rattle.mq_objects.proofs.defs.Defs.object.Goals as goal

pub returns-in_default : goal.returns-in_default
returns-in_default c =
    let none = sym c.in_default.ensures.value in
    sym (object_none _ _ _ c.self.invariant c.args.key.now none) ∙ ap (λ (v : Held). object_by c.args.key.now v.definitions.objects) c.self.view_is

pub index-requires : goal.index-requires
index-requires c = omega (arith, found_within _ _ _ c.self.invariant c.args.key.now c.in-Some.place.now (sym c.in-Some.ensures.value), c.self.inside.slots.ok)

pub returns : goal.returns
returns c =
    let at = object_found _ _ _ c.self.invariant c.args.key.now c.in-Some.place.now c.index.result.now (sym c.in-Some.ensures.value) in
    c.as_ref.ensures.value ∙ c.index.ensures ∙ sym at ∙ ap (λ (v : Held). object_by c.args.key.now v.definitions.objects) c.self.view_is
