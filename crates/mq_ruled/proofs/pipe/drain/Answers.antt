use Rattle.std.proofs.Common.{List, sym, subst, rules}
use Rattle.crossbeam_queue.specs.Passes.{view}
use Rattle.mq_cable.specs.declared.item.Item.{Item}
use Rattle.mq_ruled.proofs.Rules.{pops, learns}
use Rattle.mq_ruled.proofs.Drains.{Drained, start, step}
use Rattle.mq_ruled.proofs.pipe.drain.Goals as goal

pub loop-init : goal.loop-init
loop-init g c = record {
  can = tt;
  finite = tt;
  pass = c.requires.pass.0;
  room = c.requires.room;
  drained = start _ _ c.requires.pass.1 c.requires.pass.2 c.requires.known;
}

pub pop_as-requires-clause-rule : goal.pop_as-requires-clause-rule
pop_as-requires-clause-rule g c = (pops _ _ c.loop.invariant.drained.pops, learns _ _)

pub loop-preserved : goal.loop-preserved
loop-preserved g c =
    let more = step _ _ _ _ _ _ c.loop.invariant.drained c.in-Some-pop_as.ensures.rule in
    let P : List Item → Type 0 = λ l. Drained (view c.args.pass.now) (view c.pop_as.new.pass) c.args.items.now l in record {
      can = tt;
      finite = tt;
      pass = search rules;
      room = c.loop.invariant.room;
      drained = subst P (sym c.store.ensures) more;
    }
