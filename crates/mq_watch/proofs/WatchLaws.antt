-- The last entry, and what a monitor was answered.
use Rattle.std.proofs.Common.{◌≡◌, ℕ, ◌+◌, ap, subst, ◌∙◌, [], Bool, true, false}
use Rattle.std.specs.Prelude.{Option, Some, None, Ok}
use Rattle.mq_history.specs.declared.calls.Actor.TheVariants as actors
use Rattle.mq_history.specs.declared.calls.Call.TheVariants as calls
use Rattle.mq_spec_node.specs.Terms.{Actor, Call, Entry, Hconn, MonitorLine}
use Rattle.mq_frame.specs.declared.frame.Seen.TheVariants as items
use Rattle.mq_spec_node.specs.Words.{deed_of, is_opened, script_appl, shared}
use Rattle.mq_events.specs.States.{NodeState, last_entry, node_in}
use Rattle.mq_events.specs.Events.{Adds, EventIs}
use Rattle.mq_events.proofs.LastLaws.{adds_last}
use Rattle.mq_watch.specs.Turns.{Connects, Opens, connection_of}

some_last : (who : Actor) (what : Call) (old new : NodeState) → (e : Entry) × Adds who what e old new → None ≡ last_entry new.history.entries → ⊥
some_last who what old new a e = let h = e ∙ adds_last who what a.0 old new a.1 in absurd cc

last_same : (who : Actor) (what : Call) (old new : NodeState) (a : (e : Entry) × Adds who what e old new) (x : Entry) → Some x ≡ last_entry new.history.entries → x ≡ a.0
last_same who what old new a x e = entry_is x a.0 (e ∙ adds_last who what a.0 old new a.1)
  where
    entry_is : (a b : Entry) → Some a ≡ Some b → a ≡ b
    entry_is a b e = cc

-- neither call waits
abbrev Made : Actor → Call → NodeState → Bool → NodeState → Type 0
Made who call old made new = EventIs who call (deed_of (old.stamp + 1) who call items.Nothing (node_in old)) old (Ok made) new

connect_adds : (k : ℕ) (line : MonitorLine) (old new : NodeState) (made : Bool) → Made (actors.Monitor k) (calls.Mqconn [] (script_appl line.label)) old made new → (e : Entry) × Adds (actors.Monitor k) (calls.Mqconn [] (script_appl line.label)) e old new
connect_adds k line old new true is = is
connect_adds k line old new false is = absurd is

open_adds : (k : ℕ) (line : MonitorLine) (hc : Hconn) (old new : NodeState) (made : Bool) → Made (actors.Monitor k) (calls.Mqopen hc line.queue [] shared) old made new → (e : Entry) × Adds (actors.Monitor k) (calls.Mqopen hc line.queue [] shared) e old new
open_adds k line hc old new true is = is
open_adds k line hc old new false is = absurd is

module _ (k : ℕ) (line : MonitorLine) (old new : NodeState) (c : Call) (made : Bool) where
  connect_made : c ≡ calls.Mqconn [] (script_appl line.label) → EventIs (actors.Monitor k) c (deed_of (old.stamp + 1) (actors.Monitor k) c items.Nothing (node_in old)) old (Ok made) new
      → (e : Entry) × Adds (actors.Monitor k) (calls.Mqconn [] (script_appl line.label)) e old new
  connect_made f is = let M : Call → Type 0 = λ y. Made (actors.Monitor k) y old made new in connect_adds k line old new made (subst M f is)

  pub connect_last : c ≡ calls.Mqconn [] (script_appl line.label) → EventIs (actors.Monitor k) c (deed_of (old.stamp + 1) (actors.Monitor k) c items.Nothing (node_in old)) old (Ok made) new → None ≡ last_entry new.history.entries → ⊥
  connect_last f is none = some_last (actors.Monitor k) (calls.Mqconn [] (script_appl line.label)) old new (connect_made f is) none

  pub connected : (x : Entry) (given : Option Hconn) → c ≡ calls.Mqconn [] (script_appl line.label) → EventIs (actors.Monitor k) c (deed_of (old.stamp + 1) (actors.Monitor k) c items.Nothing (node_in old)) old (Ok made) new
      → Some x ≡ last_entry new.history.entries → given ≡ connection_of x.reply → Connects k line old (Ok given) new
  connected x given f is l g =
      let a = connect_made f is in
      record { entry = a.0; adds = a.1; gives = g ∙ ap (λ (y : Entry). connection_of y.reply) (last_same (actors.Monitor k) (calls.Mqconn [] (script_appl line.label)) old new a x l) }

  open_made : (hc : Hconn) → c ≡ calls.Mqopen hc line.queue [] shared → EventIs (actors.Monitor k) c (deed_of (old.stamp + 1) (actors.Monitor k) c items.Nothing (node_in old)) old (Ok made) new
      → (e : Entry) × Adds (actors.Monitor k) (calls.Mqopen hc line.queue [] shared) e old new
  open_made hc f is = let M : Call → Type 0 = λ y. Made (actors.Monitor k) y old made new in open_adds k line hc old new made (subst M f is)

  pub open_last : (hc : Hconn) → c ≡ calls.Mqopen hc line.queue [] shared → EventIs (actors.Monitor k) c (deed_of (old.stamp + 1) (actors.Monitor k) c items.Nothing (node_in old)) old (Ok made) new → None ≡ last_entry new.history.entries → ⊥
  open_last hc f is none = some_last (actors.Monitor k) (calls.Mqopen hc line.queue [] shared) old new (open_made hc f is) none

  pub opened : (hc : Hconn) (x : Entry) (given : Bool) → c ≡ calls.Mqopen hc line.queue [] shared → EventIs (actors.Monitor k) c (deed_of (old.stamp + 1) (actors.Monitor k) c items.Nothing (node_in old)) old (Ok made) new
      → Some x ≡ last_entry new.history.entries → given ≡ is_opened x.reply → Opens k line hc old (Ok given) new
  opened hc x given f is l g =
      let a = open_made hc f is in
      record { entry = a.0; adds = a.1; gives = g ∙ ap (λ (y : Entry). is_opened y.reply) (last_same (actors.Monitor k) (calls.Mqopen hc line.queue [] shared) old new a x l) }
