use Rattle.std.proofs.Common.{◌≡◌, OnOk, sym, subst}
use Rattle.mq_calls.specs.from_objects.{Object}
use Rattle.mq_calls.specs.from_objects.Written.{put_all}
use Rattle.mq_sc_apply.specs.Displayed.{shown_attributes}
use Rattle.mq_sc_apply.proofs.display.write_shown.Goals as goal

pub returns-in-Local : goal.returns-in-Local
returns-in-Local g c =
    subst (λ (o : Object). OnOk c.write_local.result (c.write_local.new.text ≡ put_all c.args.how.now.style c.args.how.now.asked.now c.args.text.now (shown_attributes o (g.U.InUse.facts c.args.uses.now)))) (sym c.in-Local.is) c.write_local.ensures
