use Rattle.std.proofs.Common.{ℕ, List, sym, ap, ◌∙◌, length, arith}
use Rattle.mq_place.specs.Due.{DueSet}
use Rattle.mq_place.proofs.DueLaws.{one_noted}
use Rattle.mq_place.proofs.due.DueNames.which.Goals as goal

pub returns : goal.returns
returns c =
    let view = sym c.self.view_is in
    let found = c.in-Some.ensures.lookup in
    one_noted c.args.self.now c.deref.result.now c.in-Some.name.now (ap (λ (d : DueSet). d.all) view ∙ c.if-self.false) (ap (λ (d : DueSet). d.names) view ∙ sym c.deref.ensures.value) found.0 found.1
    (omega (arith, c.len.ensures, c.if-len-gt1.false, ap (λ (xs : List (List ℕ)). length xs) c.deref.ensures.value, c.self.inside.names.ok))
