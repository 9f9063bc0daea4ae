use Rattle.std.proofs.Common.{◌≡◌, ◌<◌, ◌++◌, List, length, take, drop, ap, ◌∙◌, arith}
use Rattle.std.specs.Prelude.{map, not}
use Rattle.mq_queue.specs.declared.row.Row.{Row}
use Rattle.mq_history.specs.declared.story.ManagerPlaces.{ManagerPlaces}
use Rattle.mq_spec_network.specs.Ledger.{is_one_of, leave_queues}
use Rattle.mq_base.proofs.MapLaws.{mapped_next, mapped_all, mapped_long}
use Rattle.mq_net_books.proofs.books.take_everywhere.Goals as goal

pub at_mut-requires : goal.at_mut-requires
at_mut-requires c =
    let long = ap (λ (ps : List ManagerPlaces). length ps) c.loop-at.invariant ∙ mapped_long (λ (p : ManagerPlaces). record p { queues = leave_queues (λ (row : Row). not (is_one_of c.args.idents.now row)) p.queues }) c.args.accounts.now c.loop-at.at in
    let lt = c.loop-at-test.true in
    let len = c.len-at-end.ensures in
    omega (arith, long, lt, len)

pub loop-at-preserved : goal.loop-at-preserved
loop-at-preserved c =
    let lt = c.loop-at-test.true in
    let len = c.len-at-end.ensures in
    let within : c.loop-at.at < length c.args.accounts.now = omega (arith, lt, len) in
    mapped_next (λ (p : ManagerPlaces). record p { queues = leave_queues (λ (row : Row). not (is_one_of c.args.idents.now row)) p.queues }) c.args.accounts.now c.loop-at.accounts c.loop-at.at c.at_mut.result.now c.take_all.new.self c.loop-at.invariant within c.at_mut.ensures.value c.take_all.ensures

pub returns : goal.returns
returns c =
    let past = c.loop-at-test.false in
    let within = c.loop-at.auto.at-end in
    let len = c.len-at-end.ensures in
    let end : c.loop-at.at ≡ length c.args.accounts.now = omega (arith, past, within, len) in
    c.loop-at.invariant ∙ ap (λ n. map (λ (p : ManagerPlaces). record p { queues = leave_queues (λ (row : Row). not (is_one_of c.args.idents.now row)) p.queues }) (take n c.args.accounts.now) ++ drop n c.args.accounts.now) end ∙ mapped_all (λ (p : ManagerPlaces). record p { queues = leave_queues (λ (row : Row). not (is_one_of c.args.idents.now row)) p.queues }) c.args.accounts.now
