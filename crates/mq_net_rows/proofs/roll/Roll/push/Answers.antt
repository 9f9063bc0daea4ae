use Rattle.std.proofs.Common.{ℕ, List, Option, Some, cond, sym, ap, ◌∙◌}
use Rattle.std.specs.Prelude.{is_some}
use Rattle.std.specs.Str.{bytes_eq}
use Rattle.indexmap.specs.IndexMap.{get}
use Rattle.mq_net_rows.specs.declared.lanes.Named.{Named}
use Rattle.mq_net_rows.specs.Rolls.{place_in, queue_name}
use Rattle.mq_net_rows.proofs.RollLaws.{ok_of, known, fresh}
use Rattle.mq_net_rows.proofs.roll.Roll.push.Goals as goal

pub invariant_of-self-then-is_some : goal.invariant_of-self-then-is_some
invariant_of-self-then-is_some c =
    let place = ap (λ (qs : List Named). place_in queue_name qs c.args.queue.name) c.self.view_is ∙ sym c.place_of-place.ensures in
    known queue_name (get bytes_eq c.self.inside.places) c.self.inside.queues c.push.new.self c.args.queue c.self.invariant
    (ap is_some place ∙ sym c.is_some.ensures ∙ c.if-is_some.true)
    (ok_of c.push.result (sym c.is_err.ensures.value ∙ c.if-is_err.false) c.push.ensures.ok)

pub invariant_of-self-else-is_err-2 : goal.invariant_of-self-else-is_err-2
invariant_of-self-else-is_err-2 c =
    let place = ap (λ (qs : List Named). place_in queue_name qs c.args.queue.name) c.self.view_is ∙ sym c.place_of-place.ensures in
    let find : List ℕ → Option ℕ = get bytes_eq c.self.inside.places in
    let noted = ok_of c.note_name.result (sym c.is_err-2.ensures.value ∙ c.if-is_err-2.false) c.note_name.ensures.noted in
    fresh queue_name find (get bytes_eq c.note_name.new.places) c.self.inside.queues c.push.new.self c.args.queue c.self.invariant
    (ap is_some place ∙ sym c.is_some.ensures ∙ c.if-is_some.false)
    (λ other. noted other ∙ ap (λ (n : ℕ). cond (bytes_eq c.args.queue.name other) (Some n) (find other)) c.len-at.ensures)
    (ok_of c.push.result (sym c.is_err.ensures.value ∙ c.if-is_err.false) c.push.ensures.ok)
