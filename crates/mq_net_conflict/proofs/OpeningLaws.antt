-- What the managers of the first starts have of a receiver is what their logs had.
use Rattle.std.proofs.Common.{ℕ, zero, suc, ◌≡◌, List, [], ◌∷◌, refl}
use Rattle.std.specs.Prelude.{slice_get}
use Rattle.mq_history.specs.declared.history.History.{History}
use Rattle.mq_history.specs.declared.scenario.Scenario.{Scenario}
use Rattle.mq_spec_network.specs.Standing.{managers_from, opening_managers, last_unit_at, last_unit_of}
use Rattle.mq_spec_network.specs.Conflict.{first_told_at}
use Rattle.mq_net_conflict.specs.Openings.{opened_receiver, told_data}

unit_from : (s : Scenario) (m k : ℕ) (hs : List History) (channel : List ℕ) → last_unit_at channel (slice_get (managers_from s m [] hs) k) ≡ last_unit_of (opened_receiver channel (slice_get hs k))
unit_from s m zero [] channel = refl
unit_from s m (suc k) [] channel = refl
unit_from s m zero (h ∷ hs) channel = refl
unit_from s m (suc k) (h ∷ hs) channel = unit_from s (suc m) k hs channel

pub unit_opened : (s : Scenario) (hs : List History) (m : ℕ) (channel : List ℕ) → last_unit_at channel (slice_get (opening_managers s hs) m) ≡ last_unit_of (opened_receiver channel (slice_get hs m))
unit_opened s hs m channel = unit_from s 0 m hs channel

told_from : (s : Scenario) (m k : ℕ) (hs : List History) (channel : List ℕ) → first_told_at channel (slice_get (managers_from s m [] hs) k) ≡ told_data (opened_receiver channel (slice_get hs k))
told_from s m zero [] channel = refl
told_from s m (suc k) [] channel = refl
told_from s m zero (h ∷ hs) channel = refl
told_from s m (suc k) (h ∷ hs) channel = told_from s (suc m) k hs channel

pub told_opened : (s : Scenario) (hs : List History) (m : ℕ) (channel : List ℕ) → first_told_at channel (slice_get (opening_managers s hs) m) ≡ told_data (opened_receiver channel (slice_get hs m))
told_opened s hs m channel = told_from s 0 m hs channel
