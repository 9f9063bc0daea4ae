use Rattle.std.proofs.Common.{◌≡◌, Bool, true, false, refl}
use Rattle.mq_objects.specs.declared.setting.Keyword.TheVariants as keywords
use Rattle.mq_objects.specs.Attributes.{flag_of, trigger_flag}
use Rattle.mq_sc_keys.specs.declared.attributes.Kind.TheVariants as kinds
use Rattle.mq_sc_keys.specs.Keys.{key_in}
use Rattle.mq_sc_keys.specs.Attributes.{key_of}
use Rattle.mq_sc_keys.specs.Shown.{is_known}
use Rattle.mq_sc_keys.proofs.shown.shown_attributes_are_known.Goals as goal

flag_known : (b : Bool) → is_known kinds.Local (flag_of keywords.Trigger (trigger_flag b)) ≡ true
unfolding key_of key_in
flag_known true = refl
flag_known false = refl

pub returns-clause-local : goal.returns-clause-local
unfolding key_of key_in
returns-clause-local c = λ q. rw (flag_known q.trigger) refl

pub returns-clause-alias : goal.returns-clause-alias
unfolding key_of key_in
returns-clause-alias c = λ q. refl

pub returns-clause-remote : goal.returns-clause-remote
unfolding key_of key_in
returns-clause-remote c = λ q. refl

pub returns-clause-sender : goal.returns-clause-sender
unfolding key_of key_in
returns-clause-sender c = λ batch retry wrap xmitq fast. refl

pub returns-clause-receiver : goal.returns-clause-receiver
unfolding key_of key_in
returns-clause-receiver c = λ dead fast wrap. refl

pub returns-clause-process : goal.returns-clause-process
unfolding key_of key_in
returns-clause-process c = λ p. refl

pub returns-clause-manager : goal.returns-clause-manager
unfolding key_of key_in
returns-clause-manager c = λ m. refl
