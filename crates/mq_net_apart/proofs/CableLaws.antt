-- What the managers of the first starts have of the ends of a channel is what their logs had.
use Rattle.std.proofs.Common.{ℕ, zero, suc, ◌≡◌, ◌<◌, false, List, [], ◌∷◌, Option, None, Some, refl, arith, length}
use Rattle.std.specs.Prelude.{slice_get, not}
use Rattle.std.specs.Str.{bytes_eq}
use Rattle.std.specs.Option.{option_or}
use Rattle.mq_history.specs.declared.history.History.{History}
use Rattle.mq_history.specs.declared.scenario.Scenario.{Scenario}
use Rattle.mq_history.specs.declared.story.Apart.{Apart}
use Rattle.mq_sync.specs.Settlement.{sender_or, receiver_or}
use Rattle.mq_spec_network.specs.Standing.{managers_from, opening_managers}
use Rattle.mq_spec_network.specs.Apart.{is_other, sender_at, receiver_at}
use Rattle.mq_net_conflict.specs.Openings.{opened_receiver}
use Rattle.mq_net_apart.specs.Opened.{opened_sender}

pub or_none : (a : Option Apart) → option_or a None ≡ a
or_none None = refl
or_none (Some x) = refl

-- a partner that is kept, or none
pub other_none : (p n : List ℕ) → length p ≡ 0 → is_other p n ≡ false
other_none [] n e = refl
other_none (b ∷ p) n e = absurd (omega arith)

pub other_some : (p n : List ℕ) → 0 < length p → is_other p n ≡ not (bytes_eq p n)
other_some [] n l = absurd (omega arith)
other_some (b ∷ p) n l = refl

sender_from : (s : Scenario) (m k : ℕ) (hs : List History) (channel : List ℕ) → sender_at channel (slice_get (managers_from s m [] hs) k) ≡ sender_or (opened_sender channel (slice_get hs k))
sender_from s m zero [] channel = refl
sender_from s m (suc k) [] channel = refl
sender_from s m zero (h ∷ hs) channel = refl
sender_from s m (suc k) (h ∷ hs) channel = sender_from s (suc m) k hs channel

pub sender_opened : (s : Scenario) (hs : List History) (m : ℕ) (channel : List ℕ) → sender_at channel (slice_get (opening_managers s hs) m) ≡ sender_or (opened_sender channel (slice_get hs m))
sender_opened s hs m channel = sender_from s 0 m hs channel

receiver_from : (s : Scenario) (m k : ℕ) (hs : List History) (channel : List ℕ) → receiver_at channel (slice_get (managers_from s m [] hs) k) ≡ receiver_or (opened_receiver channel (slice_get hs k))
receiver_from s m zero [] channel = refl
receiver_from s m (suc k) [] channel = refl
receiver_from s m zero (h ∷ hs) channel = refl
receiver_from s m (suc k) (h ∷ hs) channel = receiver_from s (suc m) k hs channel

pub receiver_opened : (s : Scenario) (hs : List History) (m : ℕ) (channel : List ℕ) → receiver_at channel (slice_get (opening_managers s hs) m) ≡ receiver_or (opened_receiver channel (slice_get hs m))
receiver_opened s hs m channel = receiver_from s 0 m hs channel
