-- Turns of a pump, taken or skipped, as its worked rows have them.
use Rattle.std.specs.Prelude.{◌≡◌, ℕ, zero, suc, Bool, true, List, [], ◌∷◌, ◌++◌, Option, None, slice_get, refl}
use Rattle.std.proofs.Common.{ap, inl, inr}
use Rattle.mq_spec_node.specs.from_history.{Entry}
use Rattle.mq_spec_node.specs.Node.{Node}
use Rattle.mq_spec_network.specs.Turns.{Network, node_of, node_at, does, is_idle}
use Rattle.mq_spec_network.specs.Tasks.{Task, Slot}
use Rattle.mq_spec_network.specs.Tasks.Task.{Pump}
use Rattle.mq_spec_network.specs.Steps.{Goes, Served, PumpTakes, PumpSkips, none_due, pump_on}
use Rattle.mq_spec_network.specs.Steps.Goes.{moves, passes}

-- two managers with no trigger due
pub two_served : (w : Network) → ((m : ℕ) → w.first (suc (suc m)) ≡ None) → none_due (node_at w 0) ≡ true → none_due (node_at w 1) ≡ true → Served w
two_served w f a b zero = a
two_served w f a b (suc zero) = b
two_served w f a b (suc (suc m)) = ap (λ (n : Option Node). none_due (node_of n (w.done (suc (suc m))))) (f m)

pub one_served : (w : Network) → ((m : ℕ) → w.first (suc m) ≡ None) → none_due (node_at w 0) ≡ true → Served w
one_served w f a zero = a
one_served w f a (suc m) = ap (λ (n : Option Node). none_due (node_of n (w.done (suc m)))) (f m)

pub takes : {w0 w : Network} {all : List Task} {left : ℕ} {slot : Slot} {cable : ℕ} {any : Bool} (m : ℕ) (e : Entry)
    → Goes w0 all w (Pump (suc left) slot cable any ∷ []) → PumpTakes w slot cable (slice_get w.scenario.cables cable) m e
    → Goes w0 all (does m (e ∷ []) w) (pump_on left slot cable true ++ [])
takes {w = w} {left = left} {slot} {cable} {any} m e g t = moves w (Pump (suc left) slot cable any) [] m e g t

pub skips : {w0 w : Network} {all : List Task} {left : ℕ} {slot : Slot} {cable : ℕ} {any : Bool} (next : List Task)
    → Goes w0 all w (Pump (suc left) slot cable any ∷ []) → Served w → PumpSkips w (suc left) slot cable any (slice_get w.scenario.cables cable) next
    → Goes w0 all w (next ++ [])
skips {w = w} {left = left} {slot} {cable} {any} next g s t = passes w (Pump (suc left) slot cable any) next [] g s (inr t)

pub rests : {w0 w : Network} {all : List Task} {left : ℕ} {slot : Slot} {cable : ℕ} {any : Bool}
    → Goes w0 all w (Pump (suc left) slot cable any ∷ []) → Served w → is_idle w ≡ true → Goes w0 all w []
rests {w = w} {left = left} {slot} {cable} {any} g s t = passes w (Pump (suc left) slot cable any) [] [] g s (inl (t, refl))

pub ends : {w0 w : Network} {all : List Task} {slot : Slot} {cable : ℕ} {any : Bool} → Goes w0 all w (Pump 0 slot cable any ∷ []) → Served w → Goes w0 all w []
ends {w = w} {slot = slot} {cable} {any} g s = passes w (Pump 0 slot cable any) [] [] g s refl
