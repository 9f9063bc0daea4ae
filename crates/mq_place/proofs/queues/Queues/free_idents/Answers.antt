use Rattle.std.proofs.Common.{◌≡◌, List, ◌++◌, sym, ap, subst, ◌∙◌}
use Rattle.std.specs.Prelude.{OnOk}
use Rattle.mq_queue.specs.declared.row.Row.{Row}
use Rattle.mq_place.specs.States.{free_idents}
use Rattle.mq_place.specs.Slots.{rows_of_slot}
use Rattle.mq_place.proofs.StateLaws.{rows_found}
use Rattle.mq_place.proofs.AfterLaws.{idents_done, no_idents}
use Rattle.mq_place.proofs.queues.Queues.free_idents.Goals as goal

pub returns-in-None : goal.returns-in-None
returns-in-None g c =
    let none = rows_found c.args.name.now c.args.self.now.states ∙ ap rows_of_slot (sym c.in-None.ensures.value) in
    sym (idents_done c.args.idents.now _ (ap (λ (rs : List Row). free_idents c.args.most rs) none ∙ no_idents c.args.most))

pub returns-in-Some : goal.returns-in-Some
returns-in-Some g c =
    subst (λ (rs : List Row). OnOk c.free_idents.result (c.free_idents.new.idents ≡ c.args.idents.now ++ free_idents c.args.most rs))
    (sym (rows_found c.args.name.now c.args.self.now.states ∙ ap rows_of_slot (sym c.in-Some.ensures.value))) c.free_idents.ensures
