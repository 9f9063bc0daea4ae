-- What a receiver's commit places, listed before anything is taken.
use Rattle.std.specs.Prelude.{ℕ, Bool, true, false, List, [], ◌∷◌}
use Rattle.std.specs.List.{flat_map}
use Rattle.mq_calls.specs.declared.deltas.Did.{Did}
use Rattle.mq_message.specs.declared.message.Message.{Message}
use Rattle.mq_spec_network.specs.Ledger.{Ledger, is_admitted, own_row, dead_reason, place_received}
use Rattle.mq_net_ledger.specs.declared.posts.Arrival.{Arrival}

abbrev pub arrival_if : Bool → Arrival → List Arrival
arrival_if true a = a ∷ []
arrival_if false a = []

-- the content that the ledger has, and the reason where it is a dead letter
abbrev pub arrival_of : List Did → Ledger → Message → Arrival
arrival_of ds before m = record { message = own_row before m; dead = dead_reason m.ident ds }

-- of each message that is admitted
abbrev pub arrivals_of : List Did → Ledger → Message → List Arrival
arrivals_of ds before m = arrival_if (is_admitted before m) (arrival_of ds before m)

abbrev pub arrivals : List Did → Ledger → List Message → List Arrival
arrivals ds before ms = flat_map (arrivals_of ds before) ms

abbrev pub place_arrivals : ℕ → List ℕ → List Arrival → Ledger → Ledger
place_arrivals m channel [] l = l
place_arrivals m channel (a ∷ as_) l = place_arrivals m channel as_ (place_received m channel a.message a.dead l)
