-- What is asked of a node, as an event.
use Rattle.std.proofs.Common.{◌≡◌, ◌+◌, Bool, true, false, refl, sym, subst}
use Rattle.std.specs.Prelude.{Option, Some, None, Result, Ok, Err}
use Rattle.mq_base.specs.declared.want.NoMemory.{NoMemory}
use Rattle.mq_frame.specs.declared.frame.Seen.TheVariants as items
use Rattle.mq_history.specs.declared.calls.Call.TheVariants as calls
use Rattle.mq_history.specs.declared.calls.Reply.TheVariants as replies
use Rattle.mq_spec_manager.specs.Words.{mqconn, mqopen, mqclose, mqput, mqput1, mqcmit, mqback, mqdisc}
use Rattle.mq_spec_node.specs.Terms.{Act, Acted, Actor, Call}
use Rattle.mq_spec_node.specs.Words.{Deed, deed_of, ended_deed, is_none, mqi_deed}
use Rattle.mq_events.specs.States.{NodeState, node_in}
use Rattle.mq_events.specs.Events.{ActsAs, EventIs, IsMqi}
use Rattle.mq_events.specs.Counts.{IsNode}
use Rattle.mq_acts.specs.Asks.{Comes, IsGet, happened_if, is_mqi}
use Rattle.mq_acts.specs.Restarts.{StaysOwn}
use Rattle.mq_acts.proofs.OwnLaws.{IsNoRestart, own_adds, own_stays}

acts_come_so : (who : Actor) (asked : Act) (old : NodeState) (r : Result Acted NoMemory) (new : NodeState) → ActsAs who (calls.Act asked) old r new → Comes who (calls.Act asked) old (happened_if r) new
acts_come_so who asked old (Ok a) new h = record { entry = h.0; adds = h.1; deed = λ g. absurd g }
acts_come_so who asked old (Err e) new h = h

pub acts_come : (who : Actor) (asked : Act) (old : NodeState) (r : Result Acted NoMemory) (b : Result Bool NoMemory) (new : NodeState) → b ≡ happened_if r → ActsAs who (calls.Act asked) old r new → Comes who (calls.Act asked) old b new
acts_come who asked old r b new e h = subst (λ (x : Result Bool NoMemory). Comes who (calls.Act asked) old x new) (sym e) (acts_come_so who asked old r new h)

pub mqi_is : (c : Call) → is_mqi c ≡ true → IsMqi c
mqi_is (calls.Act act) e = absurd cc
mqi_is calls.Turn e = absurd cc
mqi_is calls.Timeout e = absurd cc
mqi_is calls.Trigger e = absurd cc
mqi_is _ e = tt

-- a get's deed is there, or not
got : (who : Actor) (what : Call) (d : Option Deed) (old : NodeState) (r : Result Bool NoMemory) (new : NodeState) → IsGet what → deed_of 0 who what items.Nothing (node_in old) ≡ d → EventIs who what d old r new → Comes who what old r new
got who what None old (Ok true) new g is h = absurd h
got who what (Some d) old (Ok true) new g is h = record { entry = h.0; adds = h.1; deed = λ w. subst (λ (x : Option Deed). is_none x ≡ false) (sym is) refl }
got who what None old (Ok false) new g is h = record { get = g; deed = is; stays = h }
got who what (Some d) old (Ok false) new g is h = absurd h
got who what d old (Err e) new g is h = h

made : (who : Actor) (what : Call) (d : Deed) (old : NodeState) (r : Result Bool NoMemory) (new : NodeState) → (IsGet what → ⊥) → EventIs who what (Some d) old r new → Comes who what old r new
made who what d old (Ok true) new g h = record { entry = h.0; adds = h.1; deed = λ w. absurd (g w) }
made who what d old (Ok false) new g h = absurd h
made who what d old (Err e) new g h = h

pub mqi_comes : (who : Actor) (what : Call) (old : NodeState) (r : Result Bool NoMemory) (new : NodeState) → is_mqi what ≡ true → EventIs who what (deed_of (old.stamp + 1) who what items.Nothing (node_in old)) old r new → Comes who what old r new
mqi_comes who (calls.Mqconn qmgr appl) old r new e h = made who (calls.Mqconn qmgr appl) (mqi_deed replies.Connected old.own (mqconn qmgr appl old.manager.plain)) old r new (λ g. g) h
mqi_comes who (calls.Mqdisc hc) old r new e h = made who (calls.Mqdisc hc) (ended_deed replies.Ended old.own (mqdisc hc old.manager.plain)) old r new (λ g. g) h
mqi_comes who (calls.Mqopen hc name qmgr how) old r new e h = made who (calls.Mqopen hc name qmgr how) (mqi_deed replies.Opened old.own (mqopen hc name qmgr how old.manager.plain)) old r new (λ g. g) h
mqi_comes who (calls.Mqclose hc ho) old r new e h = made who (calls.Mqclose hc ho) (ended_deed replies.Ended old.own (mqclose hc ho old.manager.plain)) old r new (λ g. g) h
mqi_comes who (calls.Mqput hc ho md body sync) old r new e h = made who (calls.Mqput hc ho md body sync) (mqi_deed replies.Put old.own (mqput hc ho md body sync old.manager.plain)) old r new (λ g. g) h
mqi_comes who (calls.Mqput1 hc name qmgr md body sync) old r new e h = made who (calls.Mqput1 hc name qmgr md body sync) (mqi_deed replies.Put old.own (mqput1 hc name qmgr md body sync old.manager.plain)) old r new (λ g. g) h
mqi_comes who (calls.Mqget hc ho get until) old r new e h = got who (calls.Mqget hc ho get until) (deed_of 0 who (calls.Mqget hc ho get until) items.Nothing (node_in old)) old r new tt refl h
mqi_comes who (calls.Mqcmit hc) old r new e h = made who (calls.Mqcmit hc) (ended_deed replies.Ended old.own (mqcmit hc old.manager.plain)) old r new (λ g. g) h
mqi_comes who (calls.Mqback hc) old r new e h = made who (calls.Mqback hc) (ended_deed replies.Ended old.own (mqback hc old.manager.plain)) old r new (λ g. g) h
mqi_comes who (calls.Act act) old r new e h = absurd cc
mqi_comes who calls.Turn old r new e h = absurd cc
mqi_comes who calls.Timeout old r new e h = absurd cc
mqi_comes who calls.Trigger old r new e h = absurd cc

-- none is a restart
mqi_other : (c : Call) → is_mqi c ≡ true → IsNoRestart c
mqi_other (calls.Act act) e = absurd cc
mqi_other calls.Turn e = absurd cc
mqi_other calls.Timeout e = absurd cc
mqi_other calls.Trigger e = absurd cc
mqi_other _ e = tt

own_came : (who : Actor) (what : Call) (s t : NodeState) (r : Result Bool NoMemory) → IsNode t → IsNoRestart what → Comes who what s r t → StaysOwn s.history.entries t.history.entries
own_came who what s t (Ok true) k other h none = own_adds who what h.entry s t k.kept h.adds other none
own_came who what s t (Ok false) k other h none = own_stays s t h.stays none
own_came who what s t (Err e) k other h none = own_stays s t h none

pub mqi_own : (tells : Type 0) (who : Actor) (what : Call) (s t : NodeState) (r : Result Bool NoMemory) → IsNode t → is_mqi what ≡ true → EventIs who what (deed_of (s.stamp + 1) who what items.Nothing (node_in s)) s r t → tells → StaysOwn s.history.entries t.history.entries
mqi_own tells who what s t r k mqi h is = own_came who what s t r k (mqi_other what mqi) (mqi_comes who what s r t mqi h)
