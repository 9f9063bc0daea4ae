-- What lands of a batch, whatever it is: what holds of nothing, and of one landing more before others, holds of all of it.
use Rattle.std.proofs.Common.{ℕ, Bool, true, false, List, [], ◌∷◌}
use Rattle.std.specs.Prelude.{Result, Ok, Err}
use Rattle.mq_codes.specs.declared.reason.Reason.{Reason}
use Rattle.mq_message.specs.declared.message.Message.{Message}
use Rattle.mq_calls.specs.State.{Plain}
use Rattle.mq_spec_manager.specs.Agents.{Landed, Landing, Standing, before, is_present, land, landed, landed_by, landed_unless, nothing_landed, standing_at}

abbrev pub LandedHas : (Landed → Type 0) → Result Landed Reason → Type 0
LandedHas P (Err reason) = Unit {0}
LandedHas P (Ok l) = P l

abbrev pub GoesOn : (Landed → Type 0) → Type 0
GoesOn P = (m : Message) (l : Landing) (s : Standing) (rest : Landed) → P rest → LandedHas P (before m l s (Ok rest))

before_has : (P : Landed → Type 0) → GoesOn P → (m : Message) (l : Landing) (s : Standing) (r : Result Landed Reason) → LandedHas P r → LandedHas P (before m l s r)
before_has P more m l s (Err reason) h = tt
before_has P more m l s (Ok rest) h = more m l s rest h

by_has : (P : Landed → Type 0) → GoesOn P → (o : Result Landing Reason) (m : Message) (s : Standing) (p : Plain) (rest : Plain → Result Landed Reason) → ((q : Plain) → LandedHas P (rest q)) → LandedHas P (landed_by o m s p rest)
by_has P more (Err reason) m s p rest h = tt
by_has P more (Ok l) m s p rest h = before_has P more m l s (rest _) (h _)

unless_has : (P : Landed → Type 0) → GoesOn P → (present : Bool) (channel : List ℕ) (m : Message) (s : Standing) (p : Plain) (rest : Plain → Result Landed Reason) → ((q : Plain) → LandedHas P (rest q)) → LandedHas P (landed_unless present channel m s p rest)
unless_has P more true channel m s p rest h = h p
unless_has P more false channel m s p rest h = by_has P more (land channel m p) m s p rest h

pub landed_has : (P : Landed → Type 0) → P nothing_landed → GoesOn P → (channel : List ℕ) (ms : List Message) (p : Plain) → LandedHas P (landed channel ms p)
landed_has P none more channel [] p = none
landed_has P none more channel (m ∷ ms) p = unless_has P more (is_present (standing_at m p)) channel m (standing_at m p) p (λ q. landed channel ms q) (λ q. landed_has P none more channel ms q)
