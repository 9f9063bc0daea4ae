use Rattle.std.proofs.Common.{◌≡◌, List, OnOk, ap, sym, subst, ◌∙◌}
use Rattle.std.specs.Prelude.{position}
use Rattle.std.specs.Str.{bytes_eq}
use Rattle.mq_objects.specs.declared.object.KeptAttribute.{KeptAttribute}
use Rattle.mq_objects.proofs.KeptLemmas.{keep_attribute-at, keep_attribute-new}
use Rattle.mq_objects.proofs.given.put.Goals as goal

pub returns-in-Some : goal.returns-in-Some
returns-in-Some c =
    let a = c.args.attribute in
    let at = ap (position (λ (k : KeptAttribute). bytes_eq a.keyword k.keyword)) (sym c.as_slice.ensures) ∙ sym c.place_of.ensures ∙ c.in-Some.is in
    sym (keep_attribute-at a.keyword a.value a c.args.kept.now c.in-Some.place at)

pub returns-in-None : goal.returns-in-None
returns-in-None c =
    let a = c.args.attribute in
    let at = ap (position (λ (k : KeptAttribute). bytes_eq a.keyword k.keyword)) (sym c.as_slice.ensures) ∙ sym c.place_of.ensures ∙ c.in-None.is in
    subst (λ (l : List KeptAttribute). OnOk c.push.result (c.push.new.self ≡ l)) (sym (keep_attribute-new a.keyword a.value a c.args.kept.now at)) c.push.ensures.ok
