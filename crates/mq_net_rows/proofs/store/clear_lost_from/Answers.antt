use Rattle.std.proofs.Common.{◌≡◌, ◌<◌, ◌++◌, List, Option, length, take, drop, ap, ◌∙◌, arith}
use Rattle.std.specs.Prelude.{map}
use Rattle.mq_queue.specs.declared.row.Row.{Row}
use Rattle.mq_queue.specs.Rows.{is_persistent}
use Rattle.mq_net_rows.specs.Stored.{kept_slot}
use Rattle.mq_base.proofs.MapLaws.{mapped_next, mapped_all, mapped_long}
use Rattle.mq_net_rows.proofs.StoreLaws.{lasting_start}
use Rattle.mq_net_rows.proofs.store.clear_lost_from.Goals as goal

pub at_mut-requires : goal.at_mut-requires
at_mut-requires c =
    let long = ap (λ (ss : List (Option Row)). length ss) c.loop-at.invariant ∙ mapped_long (kept_slot (λ (row : Row). is_persistent row.message)) c.args.store.now c.loop-at.at in
    let lt = c.loop-at-test.true in
    let len = c.len-at-end.ensures in
    omega (arith, long, lt, len)

pub loop-at-preserved : goal.loop-at-preserved
loop-at-preserved c =
    let lt = c.loop-at-test.true in
    let len = c.len-at-end.ensures in
    let within : c.loop-at.at < length c.args.store.now = omega (arith, lt, len) in
    mapped_next (kept_slot (λ (row : Row). is_persistent row.message)) c.args.store.now c.loop-at.store c.loop-at.at c.at_mut.result.now c.clear_lost.new.slot c.loop-at.invariant within c.at_mut.ensures.value c.clear_lost.ensures

pub returns : goal.returns
returns c =
    let past = c.loop-at-test.false in
    let within = c.loop-at.auto.at-end in
    let len = c.len-at-end.ensures in
    let end : c.loop-at.at ≡ length c.args.store.now = omega (arith, past, within, len) in
    c.loop-at.invariant ∙ ap (λ n. map (kept_slot (λ (row : Row). is_persistent row.message)) (take n c.args.store.now) ++ drop n c.args.store.now) end ∙ mapped_all (kept_slot (λ (row : Row). is_persistent row.message)) c.args.store.now

pub loop-at-init : goal.loop-at-init
loop-at-init c = lasting_start c.args.store.now c.args.from c.requires
