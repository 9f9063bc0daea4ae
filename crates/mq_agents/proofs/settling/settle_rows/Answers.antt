use Rattle.std.proofs.Common.{◌≡◌, ap, ◌∙◌}
use Rattle.std.specs.List.{flat_map}
use Rattle.mq_spec_manager.specs.Agents.{held_on}
use Rattle.mq_place.specs.Rooms.{RowsKept}
use Rattle.mq_place.specs.States.{queues_of}
use Rattle.mq_core.specs.Views.{PartsValue}
use Rattle.mq_agents.specs.Settling.{each_settled, none_named, rows_settled, with_named}
use Rattle.mq_agents.proofs.HeldLaws.{each_settles, settled_back}
use Rattle.mq_agents.proofs.settling.settle_rows.Goals as goal

pub returns : goal.returns
returns g c =
    let x : PartsValue = c.args.parts.now in
    let taken : c.take_rows-rows.new.parts ≡ with_named none_named x = c.take_rows-rows.ensures.same in
    let rows : c.as_slice.result.now ≡ flat_map (held_on c.args.by.now) (queues_of x.queues.states) = c.as_slice.ensures ∙ ap (λ (k : RowsKept). k.rows) c.take_rows-rows.ensures.rows ∙ c.requires.listed in
    c.put_rows.ensures
    ∙ ap (with_named c.take_rows-rows.result)
    (c.settle_each.ensures
    ∙ (λ i. each_settled c.args.commit (rows i) (taken i))
    ∙ each_settles c.args.commit c.args.by.now (with_named none_named x) c.requires.lone)
    ∙ ap (λ (k : RowsKept). with_named k (rows_settled c.args.commit c.args.by.now (with_named none_named x))) c.take_rows-rows.ensures.rows
    ∙ settled_back c.args.commit c.args.by.now x
