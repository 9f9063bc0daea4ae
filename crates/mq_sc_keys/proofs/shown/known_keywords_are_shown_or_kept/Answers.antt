use Rattle.std.proofs.Common.{refl}
use Rattle.mq_sc_keys.specs.Keys.{key_in}
use Rattle.mq_sc_keys.proofs.shown.known_keywords_are_shown_or_kept.Goals as goal

pub returns-clause-local : goal.returns-clause-local
unfolding key_in
returns-clause-local c = λ q. record { named = refl; kept = refl; spelled = refl }

pub returns-clause-alias : goal.returns-clause-alias
unfolding key_in
returns-clause-alias c = λ q. record { named = refl; kept = refl; spelled = refl }

pub returns-clause-remote : goal.returns-clause-remote
unfolding key_in
returns-clause-remote c = λ q. record { named = refl; kept = refl; spelled = refl }

pub returns-clause-sender : goal.returns-clause-sender
unfolding key_in
returns-clause-sender c = λ batch retry wrap xmitq fast. record { named = refl; kept = refl; spelled = refl }

pub returns-clause-receiver : goal.returns-clause-receiver
unfolding key_in
returns-clause-receiver c = λ dead fast wrap. record { named = refl; kept = refl; spelled = refl }

pub returns-clause-process : goal.returns-clause-process
unfolding key_in
returns-clause-process c = λ p. record { named = refl; kept = refl; spelled = refl }

pub returns-clause-manager : goal.returns-clause-manager
unfolding key_in
returns-clause-manager c = λ m. record { named = refl; kept = refl; spelled = refl }
