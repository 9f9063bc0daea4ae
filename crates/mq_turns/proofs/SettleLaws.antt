-- A sender's turn that hardens a record or removes expired rows.
use Rattle.std.proofs.Common.{◌≡◌, ℕ, ◌+◌, max, ◌≤◌, refl, sym, ap, subst, ◌∙◌, List, [], Bool, arith}
use Rattle.std.specs.Prelude.{Option, Some, None, Ok, Err}
use Rattle.mq_base.specs.declared.want.NoMemory.{NoMemory as Want}
use Rattle.mq_calls.specs.declared.choices.Choice.{Choice}
use Rattle.mq_cable.specs.declared.item.Item.{Item}
use Rattle.mq_cable.specs.Offers.{Offering}
use Rattle.mq_frame.specs.declared.frame.Seen.TheVariants as items
use Rattle.mq_history.specs.declared.calls.Actor.TheVariants as actors
use Rattle.mq_history.specs.declared.calls.Call.TheVariants as calls
use Rattle.mq_sender.specs.States.{is_running}
use Rattle.mq_sender.specs.Table.{sender_next}
use Rattle.mq_sender.specs.After.{done_after}
use Rattle.mq_sender.specs.declared.turns.SenderDoes.TheVariants as lines
use Rattle.mq_calls.specs.declared.choices.Choice.TheVariants.{Runs}
use Rattle.mq_cabled.proofs.EndLaws.{set_same}
use Rattle.mq_turn_parts.proofs.DueLaws.{sender_is}
use Rattle.mq_turn_parts.proofs.PartLaws.{none_made}
use Rattle.mq_spec_manager.specs.Agents.{stock}
use Rattle.mq_spec_node.specs.Terms.{Did, Message, Part, Plain, Seen, SenderDoes}
use Rattle.mq_spec_node.specs.Words.{ChannelEnd, Deed, Own, SenderEnd, deed_of, end_in, sender_end, turned, with_end}
use Rattle.mq_spec_node.specs.Node.ChannelEnd.{Sends}
use Rattle.mq_wires.specs.Wires.{Sees}
use Rattle.mq_core.specs.Values.{CoreValue}
use Rattle.mq_turn_parts.specs.from_events.States.{IsKept, NodeState, node_in, value_of}
use Rattle.mq_turn_parts.specs.from_events.Events.{Stays}
use Rattle.mq_turn_parts.specs.declared.telling.Passed.{Passed}
use Rattle.mq_turn_parts.specs.declared.telling.Turn.TheVariants as turns
use Rattle.mq_turn_parts.specs.Turns.{IsAsWas, Made, own_by, turn_entry}
use Rattle.mq_turn_parts.specs.Told.{Closes, IsTold}
use Rattle.mq_turn_parts.specs.Wired.{Popped}
use Rattle.mq_turn_parts.specs.Acting.{Acts, SendsTurn}
use Rattle.mq_turn_parts.proofs.TurnLaws.{before_of, sender_turns}
use Rattle.mq_turns.specs.Sends.{Works, all_parts, behind_end}
use Rattle.mq_turns.proofs.SendLaws.{none_pushed, pop_is, stamp_is, turn_is, works_is}

-- A turn that offers nothing, by its deed: with what the code has for the end after it and for the stamp.
module _ (s a t : NodeState) (e last : SenderEnd) (parts : List Part) (seen : Seen) (front : Option Item) (sight : ℕ) (choice : Choice) (delta : List Did) where
  abbrev d : Deed
  d = turned parts None (with_end (Sends last) s.own)

  abbrev w : Passed
  w = record { stamp = max s.stamp sight + 1; pushed = None; extras = 0; popped = seen }

  told_is : deed_of w.stamp (actors.Sender e.cable) calls.Turn seen (node_in s) ≡ Some d → Sees front (Unit {0}) seen sight → Made parts choice delta s.manager a.manager → IsTold s (actors.Sender e.cable) calls.Turn d choice delta w [] a.manager
  told_is deed sees made = record {
    deed = deed;
    reply = refl;
    made = made;
    pushed = none_pushed choice;
    received_is = refl;
    stamp = stamp_is front s.stamp sight seen sees;
    pop = pop_is seen e.cable;
    extras = refl;
  }

  turned_at : (reads writes : List Item → Type 0) (o : Offering) → Acts e s → deed_of w.stamp (actors.Sender e.cable) calls.Turn seen (node_in s) ≡ Some d → Sees front (Unit {0}) seen sight → Made parts choice delta s.manager a.manager → a ≡ record s { manager = a.manager }
      → Closes (actors.Sender e.cable) calls.Turn choice delta (with_end (Sends last) a.own) w [] a t → Popped reads (seen ≡ items.Nothing) s.stamp seen w.stamp → writes [] → SendsTurn e.cable reads writes (seen ≡ items.Nothing) ⊥ o o s (Ok turns.Changed) t
  turned_at reads writes o acts deed sees made g z popped written =
      let same : a.own ≡ s.own = ap (λ (x : NodeState). x.own) g in
      let k = z s d (before_of s a g) (sender_turns e.cable) (told_is deed sees made) (ap (λ (x : Own). own_by choice delta (with_end (Sends last) x) x) same) acts.kept acts.served in
      record {
        kept = k.kept;
        spare = k.spare;
        turn = record { entry = turn_entry (actors.Sender e.cable) calls.Turn choice delta w []; adds = k.adds; popped = popped; offered = record { same = refl; written = written } };
      }

pub turned_so : (s a t : NodeState) (e last after : SenderEnd) (parts : List Part) (seen : Seen) (front : Option Item) (sight stamp : ℕ) (received : List Message) (choice : Choice) (delta : List Did) (reads writes : List Item → Type 0) (o : Offering) → after ≡ last → stamp ≡ max s.stamp sight + 1 → received ≡ []
    → Acts e s → deed_of (max s.stamp sight + 1) (actors.Sender e.cable) calls.Turn seen (node_in s) ≡ Some (turned parts None (with_end (Sends last) s.own)) → Sees front (Unit {0}) seen sight
    → Made parts choice delta s.manager a.manager → a ≡ record s { manager = a.manager }
    → Closes (actors.Sender e.cable) calls.Turn choice delta (with_end (Sends after) a.own) (record { stamp = stamp; pushed = None; extras = 0; popped = seen }) received a t
    → Popped reads (seen ≡ items.Nothing) s.stamp seen (max s.stamp sight + 1) → writes [] → SendsTurn e.cable reads writes (seen ≡ items.Nothing) ⊥ o o s (Ok turns.Changed) t
turned_so s a t e last after parts seen front sight stamp received choice delta reads writes o is st rs acts deed sees made g z popped written =
    let A : SenderEnd → Type 0 = λ x. Closes (actors.Sender e.cable) calls.Turn choice delta (with_end (Sends x) a.own) (record { stamp = stamp; pushed = None; extras = 0; popped = seen }) received a t in
    let S : ℕ → Type 0 = λ n. Closes (actors.Sender e.cable) calls.Turn choice delta (with_end (Sends last) a.own) (record { stamp = n; pushed = None; extras = 0; popped = seen }) received a t in
    let R : List Message → Type 0 = λ ms. Closes (actors.Sender e.cable) calls.Turn choice delta (with_end (Sends last) a.own) (record { stamp = max s.stamp sight + 1; pushed = None; extras = 0; popped = seen }) ms a t in
    turned_at s a t e last parts seen front sight choice delta reads writes o acts deed sees made g (subst R rs (subst S st (subst A is z))) popped written

-- so of a line that works at the manager
pub settled_so : (s a t : NodeState) (e after : SenderEnd) (line : SenderDoes) (seen : Seen) (front : Option Item) (sight : ℕ) (running : Bool) (stamp : ℕ) (received : List Message) (choice : Choice) (delta : List Did) (reads writes : List Item → Type 0) (o : Offering)
    → after ≡ behind_end e line → running ≡ is_running after.machine.state → stamp ≡ max s.stamp sight + 1 → received ≡ []
    → Acts e s → line ≡ sender_next e.machine seen (stock e.channel s.manager.plain) → Works line → Sees front (Unit {0}) seen sight
    → Made (all_parts e line running s.manager.plain) choice delta s.manager a.manager → a ≡ record s { manager = a.manager }
    → Closes (actors.Sender e.cable) calls.Turn choice delta (with_end (Sends after) a.own) (record { stamp = stamp; pushed = None; extras = 0; popped = seen }) received a t
    → Popped reads (seen ≡ items.Nothing) s.stamp seen (max s.stamp sight + 1) → writes [] → SendsTurn e.cable reads writes (seen ≡ items.Nothing) ⊥ o o s (Ok turns.Changed) t
settled_so s a t e after line seen front sight running stamp received choice delta reads writes o is runs st rs acts next works sees made g z popped written =
    let M : Bool → Type 0 = λ r. Made (all_parts e line r s.manager.plain) choice delta s.manager a.manager in
    turned_so s a t e (behind_end e line) after (all_parts e line (is_running (done_after e.machine line).state) s.manager.plain) seen front sight stamp received choice delta reads writes o is st rs acts
    (turn_is (max s.stamp sight + 1) e.cable e line seen (node_in s) acts.up acts.there next ∙ works_is (max s.stamp sight + 1) e line (node_in s) works) sees
    (subst M (runs ∙ ap (λ (x : SenderEnd). is_running x.machine.state) is) made) g z popped written

-- of one that takes an item and does nothing else: its end stands in its place already
sender_same : (own : Own) (e : SenderEnd) → sender_end e.cable own ≡ Some e → with_end (Sends e) own ≡ own
sender_same own e there = ap (λ (es : List ChannelEnd). record own { ends = es }) (set_same e.cable (Sends e) own.ends (sender_is (end_in e.cable own.ends) e there))

pub ignored_so : (s t : NodeState) (e : SenderEnd) (choice : Choice) (delta : List Did) (seen : Seen) (front : Option Item) (sight stamp : ℕ) (received : List Message) (reads writes : List Item → Type 0) (o : Offering) → stamp ≡ max s.stamp sight + 1 → received ≡ []
    → Acts e s → lines.Ignore ≡ sender_next e.machine seen (stock e.channel s.manager.plain) → Sees front (Unit {0}) seen sight → choice ≡ Runs → delta ≡ []
    → Closes (actors.Sender e.cable) calls.Turn choice delta (with_end (Sends e) s.own) (record { stamp = stamp; pushed = None; extras = 0; popped = seen }) received s t
    → Popped reads (seen ≡ items.Nothing) s.stamp seen (max s.stamp sight + 1) → writes [] → SendsTurn e.cable reads writes (seen ≡ items.Nothing) ⊥ o o s (Ok turns.Changed) t
ignored_so s t e choice delta seen front sight stamp received reads writes o st rs acts next sees c f z popped written =
    turned_so s s t e e e [] seen front sight stamp received choice delta reads writes o refl st rs acts
    (turn_is (max s.stamp sight + 1) e.cable e lines.Ignore seen (node_in s) acts.up acts.there next ∙ ap (λ (x : Own). Some (turned [] None x)) (sym (sender_same s.own e acts.there))) sees
    (none_made choice delta s.manager c f) refl z popped written

-- the manager wants memory: it is as it was
pub want_kept : (s a : NodeState) → a ≡ record s { manager = a.manager } → IsAsWas s.manager a.manager → IsKept s → IsKept a
want_kept s a g w k = subst IsKept (sym g) (at a.manager w)
  where
    at : (m : CoreValue) → IsAsWas s.manager m → IsKept (record s { manager = m })
    at m w = let K : Plain → Type 0 = λ p. IsKept (record s { manager = record s.manager { plain = p } }) in subst K (sym w.plain) k

pub want_stays : (s a : NodeState) → a ≡ record s { manager = a.manager } → IsAsWas s.manager a.manager → Stays s a
want_stays s a g w =
    let S : NodeState → Type 0 = λ x. Stays s x in
    subst S (sym g) (record { same = ap (λ (p : Plain). record (value_of s) { node = node_in (record s { manager = record s.manager { plain = p } }) }) w.plain; marks = refl; faults = w.later })

pub want_turn : (s a : NodeState) (cable : ℕ) (x : Want) (reads writes : List Item → Type 0) (none full : Type 0) (o : Offering) → a ≡ record s { manager = a.manager } → IsAsWas s.manager a.manager → IsKept s → reads [] → writes [] → SendsTurn cable reads writes none full o o s (Err x) a
want_turn s a cable x reads writes none full o g w k read written = record {
  kept = want_kept s a g w k;
  spare = ap (λ (y : NodeState). y.spare) g;
  turn = record { stays = want_stays s a g w; read = read; offers = record { same = refl; written = written } };
}

pub want_same : (s : NodeState) (cable : ℕ) (x : Want) (reads writes : List Item → Type 0) (none full : Type 0) (o : Offering) → IsKept s → reads [] → writes [] → SendsTurn cable reads writes none full o o s (Err x) s
want_same s cable x reads writes none full o k read written = want_turn s s cable x reads writes none full o refl (record { plain = refl; later = le_self s.manager.faults }) k read written
  where
    le_self : (n : ℕ) → n ≤ n
    le_self n = omega arith

-- so where the offering is named by its two states
pub want_push : (s a : NodeState) (cable : ℕ) (x : Want) (reads writes : List Item → Type 0) (full : Type 0) (o : Offering) → a ≡ record s { manager = a.manager } → IsAsWas s.manager a.manager → IsKept s → reads [] → writes [] → SendsTurn cable reads writes (Unit {0}) full o o s (Err x) a
want_push s a cable x reads writes full o g w k read written = want_turn s a cable x reads writes (Unit {0}) full o g w k read written
