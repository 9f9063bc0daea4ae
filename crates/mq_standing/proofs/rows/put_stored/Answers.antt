use Rattle.std.proofs.Common.{◌≡◌, List, ◌++◌, ap, sym, subst, ◌∙◌, append-nil}
use Rattle.std.specs.Prelude.{OnOk}
use Rattle.mq_queue.specs.declared.row.Row.{Row}
use Rattle.mq_place.specs.Slots.{rows_of_slot}
use Rattle.mq_place.proofs.StateLaws.{rows_found}
use Rattle.mq_standing.proofs.rows.put_stored.Goals as goal

pub returns-in-None : goal.returns-in-None
returns-in-None g c =
    sym (ap (λ (rs : List Row). c.args.out.now ++ rs) (rows_found c.args.name.now c.args.queues.now.states ∙ ap rows_of_slot (sym c.in-None.ensures.value)) ∙ append-nil c.args.out.now)

pub returns-in-Some : goal.returns-in-Some
returns-in-Some g c =
    subst (λ (rs : List Row). OnOk c.put_rows.result (c.put_rows.new.out ≡ c.args.out.now ++ rs)) (sym (rows_found c.args.name.now c.args.queues.now.states ∙ ap rows_of_slot (sym c.in-Some.ensures.value))) c.put_rows.ensures
