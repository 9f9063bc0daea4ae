use Rattle.std.proofs.Common.{arith}
use Rattle.mq_sc_parse.specs.Splitting.{items_from, items_of}
use Rattle.mq_sc_parse.proofs.SplitLaws.{item_more_at, none_left}
use Rattle.mq_sc_parse.proofs.splitting.items_of.Goals as goal

pub splitting-preserved : goal.splitting-preserved
splitting-preserved c = record {
  within = omega (arith, c.min.ensures, c.split_at.ensures.back_len);
  so_far = rw (c.in_ok-push.ensures.ok, c.in_ok-item_at.ensures, c.min.ensures, c.item_len.ensures.len, c.split_at.ensures.back) (item_more_at c.splitting.items c.args.tokens.now c.splitting.at c.index-tokens-at.result (items_from c.args.tokens.now 0) c.splitting-test.true c.index-tokens-at.is c.splitting.invariant.so_far);
}

pub returns : goal.returns
unfolding items_of
returns c = none_left c.splitting.items c.args.tokens.now c.splitting.at (items_from c.args.tokens.now 0) c.splitting-test.false c.splitting.invariant.so_far
