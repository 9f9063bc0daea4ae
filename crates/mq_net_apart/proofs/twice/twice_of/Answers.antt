use Rattle.std.proofs.Common.{rules, ap, arith}
use Rattle.std.specs.Prelude.{is_some}
use Rattle.std.specs.Map.{lookup}
use Rattle.mq_message.specs.declared.message.Ident.{Ident}
use Rattle.mq_queue.specs.Rows.{same_ident}
use Rattle.mq_shelves.specs.Spots.{is_met}
use Rattle.mq_net_apart.proofs.TwiceLaws.{met_step, twice_step, twice_end}
use Rattle.mq_net_apart.proofs.twice.twice_of.Goals as goal

pub loop-ident-init : goal.loop-ident-init
loop-ident-init c = record {
  met = λ (k : Ident). ap (λ es. is_some (lookup (same_ident k) es)) c.new-met.ensures.empty;
  twice = λ (k : Ident). ap (λ es. is_some (lookup (same_ident k) es)) c.new-twice.ensures.empty;
}

pub loop-ident-preserved : goal.loop-ident-preserved
loop-ident-preserved c = record {
  met = λ (k : Ident). met_step c.args.idents.now c.loop-ident.ident-index _ k (is_met c.loop-ident.met) (is_met c.note.new.met) c.in_ok-note.ensures.met c.loop-ident.invariant.met c.loop-ident-test.true (search rules);
  twice = λ (k : Ident). twice_step c.args.idents.now c.loop-ident.ident-index _ k (is_met c.loop-ident.met) (is_met c.loop-ident.twice) (is_met c.note.new.twice) c.in_ok-note.ensures.twice c.loop-ident.invariant.met c.loop-ident.invariant.twice
      c.loop-ident-test.true (search rules);
}

pub returns : goal.returns
returns c = λ (k : Ident). twice_end c.args.idents.now c.loop-ident.ident-index k _ (omega (arith, c.loop-ident-test.false)) (c.loop-ident.invariant.twice k)
