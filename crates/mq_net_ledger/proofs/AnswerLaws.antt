-- What is done by a reply or a chance, as these are asked.
use Rattle.std.proofs.Common.{ℕ, ◌≡◌, true, false, List, refl}
use Rattle.std.specs.Prelude.{if◌then◌else◌}
use Rattle.mq_calls.specs.declared.deltas.Did.{Did}
use Rattle.mq_calls.specs.declared.choices.Return.TheVariants as returns
use Rattle.mq_history.specs.declared.acts.Acted.TheVariants as acted
use Rattle.mq_history.specs.declared.calls.Entry.{Entry}
use Rattle.mq_history.specs.declared.calls.Reply.{Reply}
use Rattle.mq_history.specs.declared.calls.Reply.TheVariants as replies
use Rattle.mq_history.specs.declared.calls.Chance.{Chance}
use Rattle.mq_history.specs.declared.calls.Chance.TheVariants as chances
use Rattle.mq_spec_network.specs.Ledger.{Ledger, when, stop, stop_if, come_up, returned, post, cut, posted}
use Rattle.mq_net_ledger.specs.Answers.{is_stopped, is_done, kept_of, come_up_as}

pub stop_done : (reply : Reply) (m : ℕ) (l : Ledger) → stop_if reply m l ≡ when (is_done reply) (stop m) l
stop_done (replies.Connected a) m l = refl
stop_done (replies.Opened a) m l = refl
stop_done (replies.Ended a) m l = refl
stop_done (replies.Put a) m l = refl
stop_done (replies.Got a) m l = refl
stop_done (replies.Acted acted.Done) m l = refl
stop_done (replies.Acted (acted.Shown shown)) m l = refl
stop_done (replies.Acted acted.Down) m l = refl
stop_done (replies.Acted (acted.Sc fault)) m l = refl
stop_done (replies.Acted (acted.Op fault)) m l = refl
stop_done (replies.Acted (acted.Start fault)) m l = refl
stop_done replies.Changed m l = refl
stop_done replies.Tried m l = refl
stop_done (replies.Triggered queue) m l = refl
stop_done (replies.Stopped by) m l = refl

pub returned_done : (m : ℕ) (reply : Reply) (chance : Chance) (ds : List Did) (l : Ledger) → returned m reply chance ds l ≡ when (is_done reply) (come_up m chance ds) l
returned_done m (replies.Connected a) chance ds l = refl
returned_done m (replies.Opened a) chance ds l = refl
returned_done m (replies.Ended a) chance ds l = refl
returned_done m (replies.Put a) chance ds l = refl
returned_done m (replies.Got a) chance ds l = refl
returned_done m (replies.Acted acted.Done) chance ds l = refl
returned_done m (replies.Acted (acted.Shown shown)) chance ds l = refl
returned_done m (replies.Acted acted.Down) chance ds l = refl
returned_done m (replies.Acted (acted.Sc fault)) chance ds l = refl
returned_done m (replies.Acted (acted.Op fault)) chance ds l = refl
returned_done m (replies.Acted (acted.Start fault)) chance ds l = refl
returned_done m replies.Changed chance ds l = refl
returned_done m replies.Tried chance ds l = refl
returned_done m (replies.Triggered queue) chance ds l = refl
returned_done m (replies.Stopped by) chance ds l = refl

pub posted_stopped : (m : ℕ) (e : Entry) (reply : Reply) (l : Ledger) → posted m e reply l ≡ (if is_stopped reply then cut m e l else returned m reply e.chance e.effect.delta (post m e e.effect.delta l))
posted_stopped m e (replies.Connected a) l = refl
posted_stopped m e (replies.Opened a) l = refl
posted_stopped m e (replies.Ended a) l = refl
posted_stopped m e (replies.Put a) l = refl
posted_stopped m e (replies.Got a) l = refl
posted_stopped m e (replies.Acted acted.Done) l = refl
posted_stopped m e (replies.Acted (acted.Shown shown)) l = refl
posted_stopped m e (replies.Acted acted.Down) l = refl
posted_stopped m e (replies.Acted (acted.Sc fault)) l = refl
posted_stopped m e (replies.Acted (acted.Op fault)) l = refl
posted_stopped m e (replies.Acted (acted.Start fault)) l = refl
posted_stopped m e replies.Changed l = refl
posted_stopped m e replies.Tried l = refl
posted_stopped m e (replies.Triggered queue) l = refl
posted_stopped m e (replies.Stopped by) l = refl

pub come_up_kept : (m : ℕ) (chance : Chance) (ds : List Did) (l : Ledger) → come_up m chance ds l ≡ come_up_as m (kept_of chance) ds l
come_up_kept m (chances.Call choice) ds l = refl
come_up_kept m (chances.Restart (returns.Comes true started)) ds l = refl
come_up_kept m (chances.Restart (returns.Comes false started)) ds l = refl
come_up_kept m (chances.Restart (returns.Fails fault in_write left)) ds l = refl
come_up_kept m (chances.Foreign image length left) ds l = refl
