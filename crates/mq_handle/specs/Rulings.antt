-- What is to be done with a dead letter: the rule in force, and what that makes of it.
use Rattle.std.specs.Prelude.{ℕ, Bool, true, not, Option, Some, None, slice_get}
use Rattle.mq_rules.specs.declared.rule.Action.TheVariants as actions
use Rattle.mq_spec_node.specs.Terms.{Action, Dest, Message, Rule, Table}
use Rattle.mq_spec_node.specs.Words.{Tried, rule_in_force, forward_to, retry_to}
use Rattle.mq_handle.specs.declared.choosing.Dispatch.{Dispatch}
use Rattle.mq_handle.specs.declared.choosing.Ruling.{Ruling}
use Rattle.mq_handle.specs.declared.choosing.Ruling.TheVariants as rulings

-- from this rule on the first that matches is in force
abbrev pub from_of : Option Tried → ℕ
from_of None = 0
from_of (Some t) = t.from

-- a rule sends it there
abbrev pub sent_to : ℕ → Rule → Dest → Bool → Dispatch
sent_to k rule dest without = record { to = dest; bare = without; rule = k; retries = rule.retries }

abbrev pub ruling_by : Message → ℕ → Rule → Action → Ruling
ruling_by m k rule actions.Discard = rulings.Discard
ruling_by m k rule actions.Ignore = rulings.Ignore
ruling_by m k rule actions.Retry = rulings.Move (sent_to k rule (retry_to m) true)
ruling_by m k rule (actions.Forward f) = rulings.Move (sent_to k rule (forward_to m f) (not f.header))

-- without a rule it is ignored
abbrev pub ruling_of : Message → ℕ → Option Rule → Ruling
ruling_of m k None = rulings.Ignore
ruling_of m k (Some rule) = ruling_by m k rule rule.action

abbrev pub ruling_in : Table → Message → Option ℕ → Ruling
ruling_in t m None = rulings.Ignore
ruling_in t m (Some k) = ruling_of m k (slice_get t.rules k)

-- by what the handler knows of it
abbrev pub ruling : Table → Message → Option Tried → Ruling
ruling t m tried = ruling_in t m (rule_in_force t m tried)
