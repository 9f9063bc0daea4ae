use Rattle.std.proofs.Common.{rules, refl}
use Rattle.mq_agents.proofs.FillLaws.{put_step}
use Rattle.mq_agents.proofs.preparing.put_idents.Goals as goal

pub loop-ident-init : goal.loop-ident-init
loop-ident-init c = record { bytes = refl; room = c.requires; idents = λ all. all }

pub loop-ident-preserved : goal.loop-ident-preserved
loop-ident-preserved c = put_step c.args.idents.now c.loop-ident.ident-index c.args.body.now c.loop-ident.body c.put_one.new.body _ c.put_one.ensures.bytes c.put_one.ensures.ident c.loop-ident.invariant c.loop-ident-test.true (search rules)
