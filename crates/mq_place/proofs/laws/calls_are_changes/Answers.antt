use Rattle.mq_place.proofs.PlainLaws.{queues_on, expecting_same, unpended_same, arrived_as, changed_as, defined_as, deleted_as}
use Rattle.mq_place.proofs.laws.calls_are_changes.Goals as goal

pub returns-clause-all : goal.returns-clause-all
returns-clause-all c = queues_on

pub returns-clause-waiting : goal.returns-clause-waiting
returns-clause-waiting c = expecting_same

pub returns-clause-dropped : goal.returns-clause-dropped
returns-clause-dropped c = unpended_same

pub returns-clause-placed : goal.returns-clause-placed
returns-clause-placed c = arrived_as

pub returns-clause-changed : goal.returns-clause-changed
returns-clause-changed c = changed_as

pub returns-clause-defined : goal.returns-clause-defined
returns-clause-defined c = defined_as

pub returns-clause-deleted : goal.returns-clause-deleted
returns-clause-deleted c = deleted_as
