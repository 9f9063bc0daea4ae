-- A receiver's commit places what was listed before.
use Rattle.std.proofs.Common.{ℕ, ◌≡◌, Bool, true, false, List, [], ◌∷◌, ◌++◌, refl, sym, ◌∙◌}
use Rattle.mq_calls.specs.declared.deltas.Did.{Did}
use Rattle.mq_message.specs.declared.message.Message.{Message}
use Rattle.mq_spec_network.specs.Ledger.{Ledger, when, is_admitted, own_row, dead_reason, place_received, place_list}
use Rattle.mq_net_ledger.specs.declared.posts.Arrival.{Arrival}
use Rattle.mq_net_ledger.specs.Arrivals.{arrival_if, arrival_of, arrivals, place_arrivals}

one : (m : ℕ) (channel : List ℕ) (admitted : Bool) (a : Arrival) (as_ : List Arrival) (l : Ledger) → place_arrivals m channel as_ (when admitted (place_received m channel a.message a.dead) l) ≡ place_arrivals m channel (arrival_if admitted a ++ as_) l
one m channel true a as_ l = refl
one m channel false a as_ l = refl

pub listed : (m : ℕ) (channel : List ℕ) (ds : List Did) (before : Ledger) (ms : List Message) (l : Ledger) → place_arrivals m channel (arrivals ds before ms) l ≡ place_list m channel ds before ms l
listed m channel ds before [] l = refl
listed m channel ds before (x ∷ xs) l =
    sym (one m channel (is_admitted before x) (arrival_of ds before x) (arrivals ds before xs) l)
    ∙ listed m channel ds before xs (when (is_admitted before x) (place_received m channel (own_row before x) (dead_reason x.ident ds)) l)
