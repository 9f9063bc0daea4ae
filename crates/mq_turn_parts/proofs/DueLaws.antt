-- When a sender has a timeout.
use Rattle.std.proofs.Common.{◌≡◌, ℕ, ◌+◌, ◌^◌, ◌<◌, ◌||◌, nat_le, refl, sym, ap, subst, ◌∙◌, Bool, true, false, length, arith}
use Rattle.std.proofs.lemmas.Bool.Decides.{nat_tests}
use Rattle.std.specs.Prelude.{Option, Some, None, if◌then◌else◌}
use Rattle.mq_frame.specs.declared.frame.Seen.TheVariants as items
use Rattle.mq_history.specs.declared.calls.Actor.TheVariants as actors
use Rattle.mq_history.specs.declared.calls.Call.TheVariants as calls
use Rattle.mq_sender.specs.States.{awaits, timed_out}
use Rattle.mq_calls.specs.Reads.{is_up}
use Rattle.mq_spec_node.specs.Terms.{Running, Up, Down}
use Rattle.mq_spec_node.specs.Words.{ChannelEnd, Deed, Node, Own, SenderEnd, after_timeout, as_sender, deed_of, end_in, sender_end, timeout_of, where_up}
use Rattle.mq_spec_node.specs.Node.ChannelEnd.{Receives, Sends}
use Rattle.mq_cabled.proofs.EndLaws.{found_cable}
use Rattle.mq_events.specs.States.{IsKept, IsServed, NodeState, node_in}
use Rattle.mq_events.specs.Events.{MayAct}
use Rattle.mq_turn_parts.specs.declared.telling.Turn.{Turn}
use Rattle.mq_turn_parts.specs.declared.telling.Turn.TheVariants as turns
use Rattle.mq_turn_parts.specs.Turns.{IsDue, IsUndue, TimeoutIs, TimesOut}

-- The deed of a timeout.
pub up_is : (r : Running) (d : Option Deed) → is_up r ≡ true → where_up r d ≡ d
up_is Up d e = refl
up_is (Down noted starts) d e = absurd cc

pub down_is : (r : Running) (d : Option Deed) → is_up r ≡ false → where_up r d ≡ None
down_is Up d e = absurd cc
down_is (Down noted starts) d e = refl

pub none_is : (r : Running) (d : Option Deed) → d ≡ None → where_up r d ≡ None
none_is Up d e = e
none_is (Down noted starts) d e = refl

deed_if : (b : Bool) (d : Deed) → b ≡ true → (if b then Some d else None) ≡ Some d
deed_if true d e = refl
deed_if false d e = absurd cc

none_if : (b : Bool) (d : Deed) → b ≡ false → (if b then Some d else None) ≡ None
none_if true d e = absurd cc
none_if false d e = refl

module _ (stamp cable : ℕ) (n : Node) where
  abbrev deed : Option Deed
  deed = deed_of stamp (actors.Sender cable) calls.Timeout items.Nothing n

  pub timeout_is : (e : SenderEnd) → is_up n.manager.running ≡ true → sender_end cable n.own ≡ Some e → awaits e.machine.state ≡ true → deed ≡ Some (after_timeout e (timed_out e.machine) n)
  timeout_is e up there waits = up_is n.manager.running (timeout_of (sender_end cable n.own) n) up ∙ ap (λ (x : Option SenderEnd). timeout_of x n) there ∙ deed_if (awaits e.machine.state) (after_timeout e (timed_out e.machine) n) waits

  pub timeout_down : is_up n.manager.running ≡ false → deed ≡ None
  timeout_down down = down_is n.manager.running (timeout_of (sender_end cable n.own) n) down

  pub timeout_absent : sender_end cable n.own ≡ None → deed ≡ None
  timeout_absent absent = none_is n.manager.running (timeout_of (sender_end cable n.own) n) (ap (λ (x : Option SenderEnd). timeout_of x n) absent)

  pub timeout_none : (e : SenderEnd) → sender_end cable n.own ≡ Some e → awaits e.machine.state ≡ false → deed ≡ None
  timeout_none e there waits = none_is n.manager.running (timeout_of (sender_end cable n.own) n) (ap (λ (x : Option SenderEnd). timeout_of x n) there ∙ none_if (awaits e.machine.state) (after_timeout e (timed_out e.machine) n) waits)

-- so of a node
pub undue_down : (s : NodeState) (cable : ℕ) → is_up s.manager.plain.running ≡ false → IsUndue cable s
undue_down s cable down = timeout_down (s.stamp + 1) cable (node_in s) down

pub undue_absent : (s : NodeState) (cable : ℕ) → sender_end cable s.own ≡ None → IsUndue cable s
undue_absent s cable absent = timeout_absent (s.stamp + 1) cable (node_in s) absent

pub undue_still : (s : NodeState) (cable : ℕ) (e : SenderEnd) → sender_end cable s.own ≡ Some e → awaits e.machine.state ≡ false → IsUndue cable s
undue_still s cable e there waits = timeout_none (s.stamp + 1) cable (node_in s) e there waits

-- an end that is found is that of its cable
pub sender_is : (o : Option ChannelEnd) (e : SenderEnd) → as_sender o ≡ Some e → o ≡ Some (Sends e)
sender_is None e h = absurd cc
sender_is (Some (Sends x)) e h = cc
sender_is (Some (Receives x)) e h = absurd cc

pub cable_found : (cable : ℕ) (own : Own) (e : SenderEnd) → sender_end cable own ≡ Some e → e.cable ≡ cable
cable_found cable own e there = found_cable cable (Sends e) own.ends (sender_is (end_in cable own.ends) e there)

pub due_end : (s : NodeState) (cable : ℕ) (e : SenderEnd) → is_up s.manager.plain.running ≡ true → sender_end cable s.own ≡ Some e → awaits e.machine.state ≡ true → IsDue cable e s
due_end s cable e up there waits =
    let c : e.cable ≡ cable = cable_found cable s.own e there in
    record { cable_is = c; up = up; there = subst (λ (n : ℕ). sender_end n s.own ≡ Some e) (sym c) there; waits = waits }

pub own_due : (s : NodeState) (cable : ℕ) (e : SenderEnd) → IsDue cable e s → IsDue e.cable e s
own_due s cable e d = record { cable_is = refl; up = d.up; there = d.there; waits = d.waits }

pub at_cable : (s t : NodeState) (cable : ℕ) (e : SenderEnd) (turn : Turn) → IsDue cable e s → TimesOut e.cable s turn t → TimesOut cable s turn t
at_cable s t cable e turn d h = subst (λ (n : ℕ). TimesOut n s turn t) d.cable_is h

-- Nothing is done.
pub still_undue : (s : NodeState) (cable : ℕ) → IsUndue cable s → TimesOut cable s turns.Still s
still_undue s cable e =
    let T : Option Deed → Type 0 = λ o. TimeoutIs cable o s turns.Still s in
    subst T (sym e) (record { same = refl; marks = refl; faults = omega arith })

-- A node that may act has room for a stamp.
no_second : (a b : Bool) → (a || b) ≡ false → b ≡ false
no_second true b h = absurd cc
no_second false b h = h

few : (n m : ℕ) → nat_le n m ≡ false → m < n
few n m h = grind (arith, nat_tests)

pub may_low : (s : NodeState) → MayAct s → s.stamp < 2 ^ 60
may_low s m = few (2 ^ 60) s.stamp (no_second (nat_le (2 ^ 48) (length s.history.entries)) (nat_le (2 ^ 60) s.stamp) m)

-- Room was taken before.
pub room_kept : (s r : NodeState) → r ≡ record s { room = r.room } → IsKept s → IsKept r
room_kept s r e h = subst (λ (x : NodeState). IsKept x) (sym e) h

pub room_served : (s r : NodeState) → r ≡ record s { room = r.room } → IsServed s → IsServed r
room_served s r e h = subst (λ (x : NodeState). IsServed x) (sym e) h

pub room_may : (s r : NodeState) → r ≡ record s { room = r.room } → MayAct s → MayAct r
room_may s r e h = subst (λ (x : NodeState). MayAct x) (sym e) h

-- Entries were set aside before, or one of them is room.
module _ (s r : NodeState) (e : r ≡ record s { spare = r.spare; room = r.room }) where
  pub beside_kept : IsKept s → IsKept r
  beside_kept h = subst IsKept (sym e) h

  pub beside_served : IsServed s → IsServed r
  beside_served h = subst IsServed (sym e) h

  pub beside_may : MayAct s → MayAct r
  beside_may h = subst MayAct (sym e) h

  pub beside_due : (cable : ℕ) (end : SenderEnd) → IsDue cable end s → IsDue cable end r
  beside_due cable end d = subst (λ (x : NodeState). IsDue cable end x) (sym e) (record { cable_is = d.cable_is; up = d.up; there = d.there; waits = d.waits })
