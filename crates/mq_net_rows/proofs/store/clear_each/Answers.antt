use Rattle.std.proofs.Common.{◌≡◌, ◌<◌, ◌++◌, List, Option, length, take, drop, ap, ◌∙◌, arith}
use Rattle.std.specs.Prelude.{map, not}
use Rattle.mq_queue.specs.declared.row.Row.{Row}
use Rattle.mq_queue.specs.Rows.{has_ident}
use Rattle.mq_net_rows.specs.Stored.{kept_slot}
use Rattle.mq_base.proofs.MapLaws.{mapped_next, mapped_all, mapped_long}
use Rattle.mq_net_rows.proofs.store.clear_each.Goals as goal

pub at_mut-requires : goal.at_mut-requires
at_mut-requires c =
    let long = ap (λ (ss : List (Option Row)). length ss) c.loop-at.invariant ∙ mapped_long (kept_slot (λ (row : Row). not (has_ident c.args.ident.now row))) c.args.store.now c.loop-at.at in
    let lt = c.loop-at-test.true in
    let len = c.len-at-end.ensures in
    omega (arith, long, lt, len)

pub loop-at-preserved : goal.loop-at-preserved
loop-at-preserved c =
    let lt = c.loop-at-test.true in
    let len = c.len-at-end.ensures in
    let within : c.loop-at.at < length c.args.store.now = omega (arith, lt, len) in
    mapped_next (kept_slot (λ (row : Row). not (has_ident c.args.ident.now row))) c.args.store.now c.loop-at.store c.loop-at.at c.at_mut.result.now c.clear.new.slot c.loop-at.invariant within c.at_mut.ensures.value c.clear.ensures

pub returns : goal.returns
returns c =
    let past = c.loop-at-test.false in
    let within = c.loop-at.auto.at-end in
    let len = c.len-at-end.ensures in
    let end : c.loop-at.at ≡ length c.args.store.now = omega (arith, past, within, len) in
    c.loop-at.invariant ∙ ap (λ n. map (kept_slot (λ (row : Row). not (has_ident c.args.ident.now row))) (take n c.args.store.now) ++ drop n c.args.store.now) end ∙ mapped_all (kept_slot (λ (row : Row). not (has_ident c.args.ident.now row))) c.args.store.now
