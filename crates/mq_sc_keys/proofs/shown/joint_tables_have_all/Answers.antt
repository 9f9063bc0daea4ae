use Rattle.std.proofs.Common.{refl}
use Rattle.mq_sc_keys.specs.Keys.{key_in}
use Rattle.mq_sc_keys.proofs.shown.joint_tables_have_all.Goals as goal

pub returns-clause-queues : goal.returns-clause-queues
unfolding key_in
returns-clause-queues c = record { each = refl; every = refl }

pub returns-clause-channels : goal.returns-clause-channels
unfolding key_in
returns-clause-channels c = record { each = refl; every = refl }
