-- Each PUMP of a run that has enough turns ends where nothing can change.
use Rattle.std.proofs.Common.{ℕ, suc, ◌≡◌, true, List, [], ◌∷◌, ap, sym, subst, ◌∙◌, inr}
use Rattle.std.specs.Prelude.{false}
use Rattle.mq_history.specs.declared.history.History.{History}
use Rattle.mq_history.specs.declared.scenario.Scenario.{Scenario}
use Rattle.mq_history.specs.Scenarios.{IsScenario}
use Rattle.mq_spec_network.specs.Apart.{IsJoined}
use Rattle.mq_spec_network.specs.Turns.{Network, is_idle}
use Rattle.mq_spec_network.specs.Tasks.{Slot, Task}
use Rattle.mq_spec_network.specs.Tasks.Task.{Pump}
use Rattle.mq_spec_network.specs.Steps.{Goes}
use Rattle.mq_spec_network.specs.Steps.Goes.{stays, moves, serves, passes}
use Rattle.mq_spec_network.specs.Lawful.{AreOwn, IsLawful}
use Rattle.mq_spec_network.specs.Promised.{AreDoubtsKnown, AreImages, Premises}
use Rattle.mq_law_pump.specs.Fit.{Good}
use Rattle.mq_law_pump.specs.Restful.{Restful}
use Rattle.mq_law_pump.proofs.AtRest.{comes_to_rest}
use Rattle.mq_law_pump.proofs.Histories.{earlier}
use Rattle.mq_law_pump.proofs.Rounds.{are_pumps, moved_call}
use Rattle.mq_law_ran.specs.Runs.{Left}
use Rattle.mq_nodes.specs.Carried.{AreCarriedSoFar, until}
use Rattle.mq_nodes.specs.Texts.{AllFit}
use Rattle.mq_law_rest.specs.Rests.{AreSome, IsEnough, PumpsRest}
use Rattle.mq_law_rest.specs.Until.{IsStep, net_until}
use Rattle.mq_law_rest.specs.Values.{IsTextOf, OpenTexts}
use Rattle.mq_law_rest.specs.Within.{NoFaults}
use Rattle.mq_law_rest.proofs.Calm.{peaceful_before}
use Rattle.mq_law_rest.proofs.Good.{good, restful}
use Rattle.mq_law_rest.proofs.Places.{step_of}
use Rattle.mq_law_rest.proofs.SoFar.{premises_until}
use Rattle.mq_law_rest.proofs.Steps.{net_same}
use Rattle.mq_law_rest.proofs.Valued.{calls_until, opens_until, values_of}
use Rattle.mq_law_rest.proofs.Within.{within}

-- what is known behind a PUMP was known before it
good_before : (w0 : Network) (n : ℕ) {w : Network} {ts : List Task} → Goes w0 (Pump n Slot.Sends 0 false ∷ []) w ts → Good w → Good w0
good_before w0 n stays g = g
good_before w0 n (moves w t ts m e go mv) g = good_before w0 n go (earlier w m e (moved_call w t ts (are_pumps w0 n go) m e mv) g)
good_before w0 n (serves w ts m e go call) g = good_before w0 n go (earlier w m e (inr (inr call)) g)
good_before w0 n (passes w t next ts go served p) g = good_before w0 n go g

rested : (s : Scenario) (hs : List History) (i n : ℕ) → Premises s hs → OpenTexts s hs → AllFit IsTextOf s → AreCarriedSoFar s hs → IsEnough s hs i n → (st : IsStep s hs i n) → is_idle st.after ≡ true
rested s hs i n premises open_ fit carried enough st =
    let clean : NoFaults s = λ k c is. (enough.cables k c is).faultless in
    let first : net_until s hs i ≡ st.before = net_same s hs i st.before st.place in
    let last : net_until s hs (suc i) ≡ st.after = net_same s hs (suc i) st.after st.next in
    let so_far : Premises s (until (suc i) hs) = premises_until s hs (suc i) st.after premises carried st.next in
    let some : AreSome s (until (suc i) hs) = values_of s (until (suc i) hs) so_far enough.peace (opens_until s hs (suc i) open_) (calls_until s hs (suc i) st.after fit st.next) in
    let behind : Good (net_until s hs (suc i)) = good s (until (suc i) hs) so_far enough.peace some enough.up in
    let go : Goes (net_until s hs i) (Pump n Slot.Sends 0 false ∷ []) (net_until s hs (suc i)) [] =
    subst (λ (w : Network). Goes w (Pump n Slot.Sends 0 false ∷ []) (net_until s hs (suc i)) []) (sym first) (subst (λ (w : Network). Goes st.before (Pump n Slot.Sends 0 false ∷ []) w []) (sym last) st.goes) in
    let before : Good (net_until s hs i) = good_before (net_until s hs i) n go behind in
    let rests : Restful (net_until s hs i) = restful s (until i hs) (premises_until s hs i st.before premises carried st.place) (peaceful_before s hs i n st enough.peace) before (within s hs i clean carried) enough.cables in
    ap is_idle (sym last) ∙ comes_to_rest (net_until s hs i) (net_until s hs (suc i)) n behind rests go enough.turns

pub pumps_rest : (l : Left) → IsScenario l.scenario → AllFit IsTextOf l.scenario → OpenTexts l.scenario l.histories → AreImages l.histories → AreDoubtsKnown l.histories → IsLawful l.scenario l.histories → AreCarriedSoFar l.scenario l.histories → IsJoined l.scenario l.histories
    → AreOwn l.histories → PumpsRest l
pumps_rest l scenario fit open_ openings known law carried joined own i n enough m h k there marked =
    let s : Scenario = l.scenario in
    let hs : List History = l.histories in
    let premises : Premises s hs = record { scenario = scenario; openings = openings; known = known; joined = joined; lawful = law; own = own } in
    let st : IsStep s hs i n = step_of s hs law.steps.whole law.steps.rest law.steps.tasks i n law.steps.far enough.step m h k there marked in
    st.idle m h k there marked ∙ rested s hs i n premises open_ fit carried enough st
