-- Events step by step: room is taken, the manager is asked, the entry is added.
use Rattle.std.proofs.Common.{◌≡◌, ℕ, ◌+◌, refl, sym, ap, subst, ◌∙◌, List, Bool, true, false, arith}
use Rattle.std.specs.Prelude.{Option, Some, None, Result, Ok, Err}
use Rattle.mq_base.specs.declared.want.NoMemory.{NoMemory as Want}
use Rattle.mq_frame.specs.declared.frame.Seen.TheVariants as items
use Rattle.mq_history.specs.declared.acts.Act.TheVariants as acts
use Rattle.mq_history.specs.declared.acts.Acted.TheVariants as acted
use Rattle.mq_history.specs.declared.calls.Call.TheVariants as calls
use Rattle.mq_spec_node.specs.Terms.{Actor, Call, Answered, stop, cut, advance_clock}
use Rattle.mq_spec_node.specs.Words.{deed_of}
use Rattle.mq_manager.specs.from_core.Values.{CoreValue}
use Rattle.mq_events.specs.declared.outcome.Outcome.{Outcome}
use Rattle.mq_events.specs.Outcomes.{Ends, EndsSo, next_due}
use Rattle.mq_events.specs.States.{NodeState, node_in, IsKept, IsLow, IsServed, last_actor, told, finished, quietly}
use Rattle.mq_events.specs.Events.{Stays, EventIs, ServesOne, ActsAs, acted_by, own_by}
use Rattle.mq_events.proofs.EventLaws.{event_kept, event_adds, none_kept, none_stays, want_kept, want_stays, turn_kept, turn_adds, wanted_turn_stays}
use Rattle.mq_events.proofs.ActLaws.{room_kept, stop_kept, stop_adds, cut_kept, cut_adds, clock_kept, clock_adds}

-- room was taken
abbrev pub Roomed : NodeState → NodeState → Type 0
Roomed s r = r ≡ record s { room = r.room }

-- and the manager was asked
abbrev pub Asked : NodeState → NodeState → Type 0
Asked r a = a ≡ record r { manager = a.manager }

pub roomed_asked : (s r a : NodeState) → Roomed s r → Asked r a → a ≡ record s { manager = a.manager; room = r.room }
roomed_asked s r a e h = h ∙ ap (λ (x : NodeState). record x { manager = a.manager }) e

pub manager_same : (s r : NodeState) → Roomed s r → r.manager ≡ s.manager
manager_same s r e = ap (λ (x : NodeState). x.manager) e

pub ends_from : (s r : NodeState) (call : Call) (x : Result (Option Outcome) Want) (m : CoreValue) → Roomed s r → Ends call r.manager x m → Ends call s.manager x m
ends_from s r call x m e n = let E : CoreValue → Type 0 = λ v. Ends call v x m in subst E (manager_same s r e) n

pub roomed_low : (s r : NodeState) → IsLow s → Roomed s r → IsLow r
roomed_low s r low e = subst IsLow (sym e) low

pub roomed_kept : (s r : NodeState) → IsKept s → Roomed s r → IsKept r
roomed_kept s r k e = subst IsKept (sym e) (room_kept s r.room k)

pub roomed_stays : (s r : NodeState) → Roomed s r → Stays s r
roomed_stays s r e = let S : NodeState → Type 0 = λ x. Stays s x in subst S (sym e) (record { same = refl; marks = refl; faults = omega arith })

pub stamp_same : (s r a : NodeState) → Roomed s r → Asked r a → a.stamp ≡ s.stamp
stamp_same s r a e h = ap (λ (x : NodeState). x.stamp) (roomed_asked s r a e h)

pub room_same : (r a : NodeState) → Asked r a → a.room ≡ r.room
room_same r a h = ap (λ (x : NodeState). x.room) h

-- MQI calls
module _ (s r a : NodeState) (actor : Actor) (call : Call) (e : Roomed s r) (h : Asked r a) where
  pub applied_kept : (f : NodeState) (o : Outcome) → IsKept s → IsServed s → Ends call r.manager (Ok (Some o)) a.manager → f ≡ finished actor call o a → IsKept f
  applied_kept f o k v n z =
      subst IsKept (sym (z ∙ ap (finished actor call o) (roomed_asked s r a e h))) (event_kept s a.manager r.room actor call o k v (ends_from s r call (Ok (Some o)) a.manager e n))

  pub applied_adds : (f : NodeState) (o : Outcome) → Ends call r.manager (Ok (Some o)) a.manager → f ≡ finished actor call o a
      → EventIs actor call (deed_of (s.stamp + 1) actor call items.Nothing (node_in s)) s (Ok true) f
  applied_adds f o n z =
      let E : NodeState → Type 0 = λ x. EventIs actor call (deed_of (s.stamp + 1) actor call items.Nothing (node_in s)) s (Ok true) x in
      subst E (sym (z ∙ ap (finished actor call o) (roomed_asked s r a e h))) (event_adds s a.manager r.room actor call o (ends_from s r call (Ok (Some o)) a.manager e n))

  pub waits_kept : IsKept s → Ends call r.manager (Ok None) a.manager → IsKept a
  waits_kept k n = subst IsKept (sym (roomed_asked s r a e h)) (none_kept s a.manager r.room call k (ends_from s r call (Ok None) a.manager e n))

  pub waits_stays : Ends call r.manager (Ok None) a.manager → EventIs actor call (deed_of (s.stamp + 1) actor call items.Nothing (node_in s)) s (Ok false) a
  waits_stays n =
      let E : NodeState → Type 0 = λ x. EventIs actor call (deed_of (s.stamp + 1) actor call items.Nothing (node_in s)) s (Ok false) x in
      subst E (sym (roomed_asked s r a e h)) (none_stays s a.manager r.room actor call (ends_from s r call (Ok None) a.manager e n))

  pub wanted_kept : (x : Want) → IsKept s → Ends call r.manager (Err x) a.manager → IsKept a
  wanted_kept x k n = subst IsKept (sym (roomed_asked s r a e h)) (want_kept s a.manager r.room call x k (ends_from s r call (Err x) a.manager e n))

  pub wanted_stays : (x : Want) → Ends call r.manager (Err x) a.manager → EventIs actor call (deed_of (s.stamp + 1) actor call items.Nothing (node_in s)) s (Err x) a
  wanted_stays x n =
      let E : NodeState → Type 0 = λ y. EventIs actor call (deed_of (s.stamp + 1) actor call items.Nothing (node_in s)) s (Err x) y in
      subst E (sym (roomed_asked s r a e h)) (want_stays s a.manager r.room actor call x (ends_from s r call (Err x) a.manager e n))

-- Trigger turns
module _ (s r a : NodeState) (e : Roomed s r) (h : Asked r a) where
  pub turned_kept : (f : NodeState) (actor : Actor) (o : Outcome) → IsKept s → last_actor None s.history.entries ≡ Some actor → EndsSo calls.Trigger r.manager o a.manager → f ≡ finished actor calls.Trigger o a → IsKept f
  turned_kept f actor o k who n z =
      subst IsKept (sym (z ∙ ap (finished actor calls.Trigger o) (roomed_asked s r a e h))) (turn_kept s a.manager r.room actor o k who (ends_from s r calls.Trigger (Ok (Some o)) a.manager e n))

  pub turned_adds : (f : NodeState) (actor : Actor) (o : Outcome) → EndsSo calls.Trigger r.manager o a.manager → f ≡ finished actor calls.Trigger o a → ServesOne s (Ok true) f
  turned_adds f actor o n z =
      let E : NodeState → Type 0 = λ x. ServesOne s (Ok true) x in
      subst E (sym (z ∙ ap (finished actor calls.Trigger o) (roomed_asked s r a e h))) (turn_adds s a.manager r.room actor o (ends_from s r calls.Trigger (Ok (Some o)) a.manager e n))

  pub turn_wanted_kept : (x : Want) → IsKept s → Ends calls.Trigger r.manager (Err x) a.manager → IsKept a
  turn_wanted_kept x k n = subst IsKept (sym (roomed_asked s r a e h)) (want_kept s a.manager r.room calls.Trigger x k (ends_from s r calls.Trigger (Err x) a.manager e n))

  pub turn_wanted_stays : (x : Want) → Ends calls.Trigger r.manager (Err x) a.manager → ServesOne s (Err x) a
  turn_wanted_stays x n =
      let E : NodeState → Type 0 = λ y. Stays s y in
      subst E (sym (roomed_asked s r a e h)) (wanted_turn_stays s a.manager r.room x (ends_from s r calls.Trigger (Err x) a.manager e n))

pub roomed_due : (s r : NodeState) (queue : Option (List ℕ)) → Roomed s r → next_due s.manager.plain ≡ queue → next_due r.manager.plain ≡ queue
roomed_due s r queue e d = ap (λ (v : CoreValue). next_due v.plain) (manager_same s r e) ∙ d

-- Stops, cuts, moments
pub crashed_kept : (s r a f : NodeState) (actor : Actor) (up : Bool) → IsKept s → IsServed s → Roomed s r → a ≡ record r { manager = a.manager; own = own_by up r.own }
    → (stop r.manager.plain).outcome ≡ Answered up → a.manager.plain ≡ (stop r.manager.plain).next → f ≡ told actor (calls.Act acts.Crash) (quietly (acted_by up)) a → IsKept f
crashed_kept s r a f actor up k v e h o n z =
    let is : a ≡ record s { manager = a.manager; own = own_by up s.own; room = r.room } = h ∙ ap (λ (x : NodeState). record x { manager = a.manager; own = own_by up x.own }) e in
    let same : r.manager ≡ s.manager = manager_same s r e in
    subst IsKept (sym (z ∙ ap (told actor (calls.Act acts.Crash) (quietly (acted_by up))) is))
    (stop_kept up s r.room a.manager actor k v (ap (λ (m : CoreValue). (stop m.plain).outcome) (sym same) ∙ o) (n ∙ ap (λ (m : CoreValue). (stop m.plain).next) same))

pub crashed_adds : (s r a f : NodeState) (actor : Actor) (up : Bool) → Roomed s r → a ≡ record r { manager = a.manager; own = own_by up r.own }
    → a.manager.faults ≡ r.manager.faults → f ≡ told actor (calls.Act acts.Crash) (quietly (acted_by up)) a → ActsAs actor (calls.Act acts.Crash) s (Ok (acted_by up)) f
crashed_adds s r a f actor up e h n z =
    let is : a ≡ record s { manager = a.manager; own = own_by up s.own; room = r.room } = h ∙ ap (λ (x : NodeState). record x { manager = a.manager; own = own_by up x.own }) e in
    let E : NodeState → Type 0 = λ x. ActsAs actor (calls.Act acts.Crash) s (Ok (acted_by up)) x in
    subst E (sym (z ∙ ap (told actor (calls.Act acts.Crash) (quietly (acted_by up))) is))
    (stop_adds up s r.room a.manager actor (n ∙ ap (λ (m : CoreValue). m.faults) (manager_same s r e)))

module _ (s r a f : NodeState) (actor : Actor) (e : Roomed s r) (h : Asked r a) where
  pub armed_kept : (k : ℕ) → IsKept s → IsServed s → a.manager.plain ≡ cut k r.manager.plain → f ≡ told actor (calls.Act (acts.Cut k)) (quietly acted.Done) a → IsKept f
  armed_kept k kept v n z =
      subst IsKept (sym (z ∙ ap (told actor (calls.Act (acts.Cut k)) (quietly acted.Done)) (roomed_asked s r a e h)))
      (cut_kept s r.room a.manager actor k kept v (n ∙ ap (λ (m : CoreValue). cut k m.plain) (manager_same s r e)))

  pub armed_adds : (k : ℕ) → a.manager.faults ≡ r.manager.faults → f ≡ told actor (calls.Act (acts.Cut k)) (quietly acted.Done) a → ActsAs actor (calls.Act (acts.Cut k)) s (Ok acted.Done) f
  armed_adds k n z =
      let E : NodeState → Type 0 = λ x. ActsAs actor (calls.Act (acts.Cut k)) s (Ok acted.Done) x in
      subst E (sym (z ∙ ap (told actor (calls.Act (acts.Cut k)) (quietly acted.Done)) (roomed_asked s r a e h)))
      (cut_adds s r.room a.manager actor k (n ∙ ap (λ (m : CoreValue). m.faults) (manager_same s r e)))

  pub later_kept : (by : ℕ) → IsKept s → IsServed s → a.manager.plain ≡ advance_clock by r.manager.plain → f ≡ told actor (calls.Act (acts.Clock by)) (quietly acted.Done) a → IsKept f
  later_kept by kept v n z =
      subst IsKept (sym (z ∙ ap (told actor (calls.Act (acts.Clock by)) (quietly acted.Done)) (roomed_asked s r a e h)))
      (clock_kept s r.room a.manager actor by kept v (n ∙ ap (λ (m : CoreValue). advance_clock by m.plain) (manager_same s r e)))

  pub later_adds : (by : ℕ) → a.manager.faults ≡ r.manager.faults → f ≡ told actor (calls.Act (acts.Clock by)) (quietly acted.Done) a → ActsAs actor (calls.Act (acts.Clock by)) s (Ok acted.Done) f
  later_adds by n z =
      let E : NodeState → Type 0 = λ x. ActsAs actor (calls.Act (acts.Clock by)) s (Ok acted.Done) x in
      subst E (sym (z ∙ ap (told actor (calls.Act (acts.Clock by)) (quietly acted.Done)) (roomed_asked s r a e h)))
      (clock_adds s r.room a.manager actor by (n ∙ ap (λ (m : CoreValue). m.faults) (manager_same s r e)))
