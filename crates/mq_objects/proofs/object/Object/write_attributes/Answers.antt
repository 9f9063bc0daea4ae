use Rattle.std.proofs.Common.{◌≡◌, OnOk, sym, subst}
use Rattle.mq_objects.specs.declared.object.Object.{Object}
use Rattle.mq_objects.specs.Attributes.{attributes}
use Rattle.mq_objects.specs.Written.{put_all}
use Rattle.mq_objects.proofs.object.Object.write_attributes.Goals as goal

pub returns-in-Local : goal.returns-in-Local
returns-in-Local c =
    subst (λ (o : Object). OnOk c.write_attributes.result (c.write_attributes.new.text ≡ put_all c.args.how.now.style c.args.how.now.asked.now c.args.text.now (attributes o))) (sym c.in-Local.is) c.write_attributes.ensures
