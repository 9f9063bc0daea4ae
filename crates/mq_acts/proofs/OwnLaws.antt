-- No restart of a replaying history is from a log that was changed from outside, but where its entry says so.
use Rattle.std.proofs.Common.{ℕ, ap, sym, subst, List, [], ◌∷◌, ◌++◌}
use Rattle.std.specs.Prelude.{Option, Some, None, Result, Ok, Err}
use Rattle.mq_base.specs.declared.want.NoMemory.{NoMemory as Want}
use Rattle.mq_frame.specs.declared.frame.Seen.{Seen}
use Rattle.mq_history.specs.declared.acts.Act.TheVariants as acts
use Rattle.mq_history.specs.declared.calls.Call.TheVariants as calls
use Rattle.mq_history.specs.declared.calls.Chance.TheVariants as chances
use Rattle.mq_history.specs.declared.history.History.{History}
use Rattle.mq_spec_node.specs.Terms.{Act, Acted, Actor, Call, Chance, Entry}
use Rattle.mq_spec_node.specs.Words.{Deed, Grows, Node, NodeValue, done_by, deed_of, Follows, IsDeed, IsEvent, IsOwn, NoneForeign, RunsAlone, opening_node}
use Rattle.mq_events.specs.States.{NodeState, IsKept, value_of}
use Rattle.mq_events.specs.Events.{ActsAs, Adds, Stays}
use Rattle.mq_events.specs.Counts.{IsNode}
use Rattle.mq_acts.specs.Restarts.{TellsAs, RestartIsOwn, StaysOwn}
use Rattle.mq_acts.specs.Serving.{AreTurns, Serves}

none_more : (es : List Entry) (e : Entry) → NoneForeign es → IsOwn e.chance → NoneForeign (es ++ e ∷ [])
none_more [] e n own = (own, tt)
none_more (x ∷ es) e n own = (n.0, none_more es e n.1 own)

-- every event but a restart has a choice of its own
own_deed : (o : Option Deed) (chance : Chance) (n : Node) → IsDeed o chance n → IsOwn chance
own_deed None chance n h = absurd h
own_deed (Some d) (chances.Call choice) n h = tt
own_deed (Some d) (chances.Restart choice) n h = absurd h
own_deed (Some d) (chances.Foreign image length left) n h = absurd h

own_alone : (chance : Chance) → RunsAlone chance → IsOwn chance
own_alone (chances.Call choice) h = tt
own_alone (chances.Restart choice) h = absurd h
own_alone (chances.Foreign image length left) h = absurd h

abbrev pub IsNoRestart : Call → Type 0
IsNoRestart (calls.Act acts.Restart) = ⊥
IsNoRestart _ = Unit {0}

pub own_event : (stamp : ℕ) (actor : Actor) (call : Call) (chance : Chance) (seen : Seen) (n : Node) → IsNoRestart call → IsEvent stamp actor call chance seen n → IsOwn chance
own_event stamp actor (calls.Mqconn qmgr appl) chance seen n other h = own_deed (deed_of stamp actor (calls.Mqconn qmgr appl) seen n) chance n h
own_event stamp actor (calls.Mqdisc hc) chance seen n other h = own_deed (deed_of stamp actor (calls.Mqdisc hc) seen n) chance n h
own_event stamp actor (calls.Mqopen hc name qmgr how) chance seen n other h = own_deed (deed_of stamp actor (calls.Mqopen hc name qmgr how) seen n) chance n h
own_event stamp actor (calls.Mqclose hc ho) chance seen n other h = own_deed (deed_of stamp actor (calls.Mqclose hc ho) seen n) chance n h
own_event stamp actor (calls.Mqput hc ho md body sync) chance seen n other h = own_deed (deed_of stamp actor (calls.Mqput hc ho md body sync) seen n) chance n h
own_event stamp actor (calls.Mqput1 hc name qmgr md body sync) chance seen n other h = own_deed (deed_of stamp actor (calls.Mqput1 hc name qmgr md body sync) seen n) chance n h
own_event stamp actor (calls.Mqget hc ho get until) chance seen n other h = own_deed (deed_of stamp actor (calls.Mqget hc ho get until) seen n) chance n h
own_event stamp actor (calls.Mqcmit hc) chance seen n other h = own_deed (deed_of stamp actor (calls.Mqcmit hc) seen n) chance n h
own_event stamp actor (calls.Mqback hc) chance seen n other h = own_deed (deed_of stamp actor (calls.Mqback hc) seen n) chance n h
own_event stamp actor (calls.Act (acts.Obey c)) chance seen n other h = own_deed (deed_of stamp actor (calls.Act (acts.Obey c)) seen n) chance n h
own_event stamp actor (calls.Act acts.Crash) chance seen n other h = own_alone chance h
own_event stamp actor (calls.Act acts.Restart) chance seen n other h = absurd other
own_event stamp actor (calls.Act (acts.Cut k)) chance seen n other h = own_alone chance h
own_event stamp actor (calls.Act (acts.Clock by)) chance seen n other h = own_alone chance h
own_event stamp actor calls.Turn chance seen n other h = own_deed (deed_of stamp actor calls.Turn seen n) chance n h
own_event stamp actor calls.Timeout chance seen n other h = own_deed (deed_of stamp actor calls.Timeout seen n) chance n h
own_event stamp actor calls.Trigger chance seen n other h = own_deed (deed_of stamp actor calls.Trigger seen n) chance n h

-- entries that are no restarts, trigger turns among them
abbrev pub NoRestarts : List Entry → Type 0
NoRestarts [] = Unit {0}
NoRestarts (e ∷ es) = IsNoRestart e.call × NoRestarts es

turns_none : (es : List Entry) → AreTurns es → NoRestarts es
turns_none [] are = tt
turns_none (e ∷ es) are = (subst IsNoRestart (sym are.0) tt, turns_none es are.1)

-- so behind others in a history that replays
rest_own : (n : Node) (last : ℕ) (es : List Entry) → Follows n last es → NoRestarts es → NoneForeign es
rest_own n last [] f are = tt
rest_own n last (e ∷ es) f are = (own_event e.stamp e.actor e.call e.chance e.effect.popped n are.0 f.0.event, rest_own (done_by e n).next e.stamp es f.1 are.1)

pub more_own : (n : Node) (last : ℕ) (xs es : List Entry) → Follows n last (xs ++ es) → NoRestarts es → NoneForeign xs → NoneForeign (xs ++ es)
more_own n last [] es f are none = rest_own n last es f are
more_own n last (x ∷ xs) es f are none = (none.0, more_own (done_by x n).next x.stamp xs es f.1 are none.1)

pub grows_own : (s t : NodeState) (es : List Entry) → IsKept t → Grows (value_of s) es (value_of t) → NoRestarts es → StaysOwn s.history.entries t.history.entries
grows_own s t es k g are none =
    let longer = ap (λ (h : History). h.entries) g.history in
    let f : Follows (opening_node t.given t.history) 0 (s.history.entries ++ es) = subst (Follows (opening_node t.given t.history) 0) longer k.replays.follows in
    subst NoneForeign (sym longer) (more_own (opening_node t.given t.history) 0 s.history.entries es f are none)

pub own_adds : (who : Actor) (what : Call) (e : Entry) (s t : NodeState) → IsKept t → Adds who what e s t → IsNoRestart what → StaysOwn s.history.entries t.history.entries
own_adds who what e s t k a other = grows_own s t (e ∷ []) k a.grows (subst IsNoRestart (sym a.call) other, tt)

pub own_stays : (s t : NodeState) → Stays s t → NoneForeign s.history.entries → NoneForeign t.history.entries
own_stays s t h none = subst NoneForeign (sym (ap (λ (v : NodeValue). v.history.entries) h.same)) none

-- a restart says it of itself
pub own_told : (tells : Type 0) (who : Actor) (s t : NodeState) (result : Result Acted Want) → TellsAs tells who (calls.Act acts.Restart) s result t → tells → RestartIsOwn acts.Restart s.history.entries t.history.entries
own_told tells who s t (Ok a) h is none = subst NoneForeign (sym (ap (λ (x : History). x.entries) h.1.adds.grows.history)) (none_more s.history.entries h.0 none (h.1.own is))
own_told tells who s t (Err e) h is none = own_stays s t h none

pub did_told : (tells : Type 0) (who : Actor) (what : Call) (s t : NodeState) (result : Result Acted Want) → TellsAs tells who what s result t → ActsAs who what s result t
did_told tells who what s t (Ok a) h = (h.0, h.1.adds, h.1.answer)
did_told tells who what s t (Err e) h = h

-- whatever was asked beside MQI calls
other_acted : (who : Actor) (asked : Act) (s t : NodeState) (r : Result Acted Want) → IsNode t → IsNoRestart (calls.Act asked) → ActsAs who (calls.Act asked) s r t → StaysOwn s.history.entries t.history.entries
other_acted who asked s t (Ok x) k other h none = own_adds who (calls.Act asked) h.0 s t k.kept h.1 other none
other_acted who asked s t (Err e) k other h none = own_stays s t h none

pub own_acted : (tells : Type 0) (who : Actor) (asked : Act) (s t : NodeState) (r : Result Acted Want) → IsNode t → ActsAs who (calls.Act asked) s r t → (tells → RestartIsOwn asked s.history.entries t.history.entries) → tells → StaysOwn s.history.entries t.history.entries
own_acted tells who acts.Restart s t r k h own is = own is
own_acted tells who (acts.Obey c) s t r k h own is = other_acted who (acts.Obey c) s t r k tt h
own_acted tells who acts.Crash s t r k h own is = other_acted who acts.Crash s t r k tt h
own_acted tells who (acts.Cut n) s t r k h own is = other_acted who (acts.Cut n) s t r k tt h
own_acted tells who (acts.Clock by) s t r k h own is = other_acted who (acts.Clock by) s t r k tt h

-- trigger turns
pub own_served : (s t : NodeState) → IsNode t → Serves s t → StaysOwn s.history.entries t.history.entries
own_served s t k v = grows_own s t v.turns k.kept v.grows (turns_none v.turns v.are)

-- one after the other, and nothing
pub own_both : (tells : Type 0) (a b c : List Entry) → (tells → StaysOwn a b) → StaysOwn b c → tells → StaysOwn a c
own_both tells a b c first then_ is none = then_ (first is none)

pub own_same : (tells : Type 0) (a : List Entry) → tells → StaysOwn a a
own_same tells a is none = none
