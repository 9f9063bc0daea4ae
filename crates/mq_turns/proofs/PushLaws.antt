-- A sender's turn that offers a frame and does nothing at the manager.
use Rattle.std.proofs.Common.{◌≡◌, ℕ, ◌+◌, refl, sym, subst, ◌∙◌, List, [], arith}
use Rattle.std.specs.Prelude.{Option, Some, None, Ok, Err}
use Rattle.mq_base.specs.declared.want.NoMemory.{NoMemory as Want}
use Rattle.mq_calls.specs.declared.choices.Choice.{Choice}
use Rattle.mq_calls.specs.declared.choices.Choice.TheVariants.{Runs}
use Rattle.mq_cable.specs.declared.item.Item.{Item}
use Rattle.mq_cable.specs.Offers.{Offering}
use Rattle.mq_frame.specs.Frames.{HasSpelling}
use Rattle.mq_frame.specs.declared.frame.Seen.TheVariants as items
use Rattle.mq_history.specs.declared.calls.Actor.TheVariants as actors
use Rattle.mq_history.specs.declared.calls.Call.TheVariants as calls
use Rattle.mq_sender.specs.Table.{sender_next}
use Rattle.mq_spec_manager.specs.Agents.{stock}
use Rattle.mq_spec_node.specs.Terms.{Did, Frame, Message, SenderDoes}
use Rattle.mq_spec_node.specs.Words.{SenderEnd, deed_of, item_of, sender_deed_by, with_end}
use Rattle.mq_spec_node.specs.Node.ChannelEnd.{Sends}
use Rattle.mq_wires.specs.Wires.{HasPushed, IsFull, OfferTold, OffersNone}
use Rattle.mq_turn_parts.specs.from_events.States.{IsKept, NodeState, node_in}
use Rattle.mq_turn_parts.specs.from_events.Events.{Stays}
use Rattle.mq_turn_parts.specs.declared.telling.Passed.{Passed}
use Rattle.mq_turn_parts.specs.declared.telling.Turn.TheVariants as turns
use Rattle.mq_turn_parts.specs.Turns.{pushed_by, turn_entry}
use Rattle.mq_turn_parts.specs.Told.{Closes, IsTold}
use Rattle.mq_turn_parts.specs.Wired.{Refuses}
use Rattle.mq_turn_parts.specs.Acting.{Acts, SendsTurn}
use Rattle.mq_turn_parts.proofs.PartLaws.{none_made}
use Rattle.mq_turn_parts.proofs.TurnLaws.{sender_turns}
use Rattle.mq_turns.specs.Sends.{behind_end, pushed_deed}
use Rattle.mq_turns.proofs.SendLaws.{turn_is}

pub some_pushed : (c : Choice) (f : Frame) → c ≡ Runs → Some f ≡ pushed_by c (Some f)
some_pushed c f e = let P : Choice → Type 0 = λ x. Some f ≡ pushed_by x (Some f) in subst P (sym e) refl

module _ (s t : NodeState) (e : SenderEnd) (choice : Choice) (delta : List Did) where
  -- a frame that is offered
  pushed_told : (d : SenderDoes) (f : Frame) (extras : ℕ) → Acts e s → d ≡ sender_next e.machine items.Nothing (stock e.channel s.manager.plain) → sender_deed_by (s.stamp + 1) e d (node_in s) ≡ Some (pushed_deed e d f (node_in s))
      → f.stamp ≡ s.stamp + 1 → choice ≡ Runs → delta ≡ [] → IsTold s (actors.Sender e.cable) calls.Turn (pushed_deed e d f (node_in s)) choice delta (record { stamp = f.stamp; pushed = Some f; extras = extras; popped = items.Nothing }) [] s.manager
  pushed_told d f extras acts next deed st c g = record {
    deed = let D : ℕ → Type 0 = λ x. deed_of x (actors.Sender e.cable) calls.Turn items.Nothing (node_in s) ≡ Some (pushed_deed e d f (node_in s)) in subst D (sym st) (turn_is (s.stamp + 1) e.cable e d items.Nothing (node_in s) acts.up acts.there next ∙ deed);
    reply = refl;
    made = none_made choice delta s.manager c g;
    pushed = some_pushed choice f c;
    received_is = refl;
    stamp = st;
    pop = tt;
    extras = tt;
  }

  pushed : (d : SenderDoes) (f : Frame) (extras : ℕ) (reads writes : List Item → Type 0) (full : Type 0) (o n : Offering) → Acts e s → d ≡ sender_next e.machine items.Nothing (stock e.channel s.manager.plain)
      → sender_deed_by (s.stamp + 1) e d (node_in s) ≡ Some (pushed_deed e d f (node_in s)) → f.stamp ≡ s.stamp + 1 → choice ≡ Runs → delta ≡ []
      → Closes (actors.Sender e.cable) calls.Turn choice delta (with_end (Sends (behind_end e d)) s.own) (record { stamp = f.stamp; pushed = Some f; extras = extras; popped = items.Nothing }) [] s t
      → reads [] → HasPushed writes full o f extras n → HasSpelling f.kind → SendsTurn e.cable reads writes (Unit {0}) full o n s (Ok turns.Changed) t
  pushed d f extras reads writes full o n acts next deed st c g z read offered spells =
      let w : Passed = record { stamp = f.stamp; pushed = Some f; extras = extras; popped = items.Nothing } in
      let k = z s (pushed_deed e d f (node_in s)) refl (sender_turns e.cable) (pushed_told d f extras acts next deed st c g) refl acts.kept acts.served in
      record {
        kept = k.kept;
        spare = k.spare;
        turn = record { entry = turn_entry (actors.Sender e.cable) calls.Turn choice delta w []; adds = k.adds; popped = (read, tt); offered = (offered, spells) };
      }

-- with what the code has
pushed_so : (s t : NodeState) (e after : SenderEnd) (choice : Choice) (delta : List Did) (d : SenderDoes) (f : Frame) (extras : ℕ) (received : List Message) (reads writes : List Item → Type 0) (full : Type 0) (o n : Offering) → after ≡ behind_end e d → received ≡ []
    → Acts e s → d ≡ sender_next e.machine items.Nothing (stock e.channel s.manager.plain) → sender_deed_by (s.stamp + 1) e d (node_in s) ≡ Some (pushed_deed e d f (node_in s)) → f.stamp ≡ s.stamp + 1 → choice ≡ Runs → delta ≡ []
    → Closes (actors.Sender e.cable) calls.Turn choice delta (with_end (Sends after) s.own) (record { stamp = f.stamp; pushed = Some f; extras = extras; popped = items.Nothing }) received s t
    → reads [] → HasPushed writes full o f extras n → HasSpelling f.kind → SendsTurn e.cable reads writes (Unit {0}) full o n s (Ok turns.Changed) t
pushed_so s t e after choice delta d f extras received reads writes full o n is rs acts next deed st c g z read offered spells =
    let A : SenderEnd → Type 0 = λ x. Closes (actors.Sender e.cable) calls.Turn choice delta (with_end (Sends x) s.own) (record { stamp = f.stamp; pushed = Some f; extras = extras; popped = items.Nothing }) received s t in
    let R : List Message → Type 0 = λ ms. Closes (actors.Sender e.cable) calls.Turn choice delta (with_end (Sends (behind_end e d)) s.own) (record { stamp = f.stamp; pushed = Some f; extras = extras; popped = items.Nothing }) ms s t in
    pushed s t e choice delta d f extras reads writes full o n acts next deed st c g (subst R rs (subst A is z)) read offered spells

-- nothing is done
stays : (s : NodeState) → Stays s s
stays s = record { same = refl; marks = refl; faults = omega arith }

refused : (s : NodeState) (e : SenderEnd) (d : SenderDoes) (f : Frame) (reads writes : List Item → Type 0) (full : Type 0) (o n : Offering) → Acts e s → d ≡ sender_next e.machine items.Nothing (stock e.channel s.manager.plain)
    → sender_deed_by (s.stamp + 1) e d (node_in s) ≡ Some (pushed_deed e d f (node_in s)) → reads [] → OffersNone writes o n → IsFull full o (item_of f) → SendsTurn e.cable reads writes (Unit {0}) full o n s (Ok turns.Still) s
refused s e d f reads writes full o n acts next deed read none was = record {
  kept = acts.kept;
  spare = refl;
  turn = (record { stays = stays s; read = read; offers = none }, Refuses (pushed_deed e d f (node_in s)) f tt (turn_is (s.stamp + 1) e.cable e d items.Nothing (node_in s) acts.up acts.there next ∙ deed) refl was);
}

pub untaken : (s : NodeState) (cable : ℕ) (x : Want) (reads writes : List Item → Type 0) (none full : Type 0) (o n : Offering) → IsKept s → reads [] → OffersNone writes o n → SendsTurn cable reads writes none full o n s (Err x) s
untaken s cable x reads writes none full o n kept read offers = record { kept = kept; spare = refl; turn = record { stays = stays s; read = read; offers = offers } }

-- so by what the offer came to
pub pushed_as : (s t : NodeState) (e after : SenderEnd) (choice : Choice) (delta : List Did) (d : SenderDoes) (f : Frame) (extras : ℕ) (received : List Message) (reads writes : List Item → Type 0) (full : Type 0) (o n : Offering) (x : Option ℕ) → x ≡ Some extras → OfferTold writes full o f (Ok x) n → after ≡ behind_end e d → received ≡ []
    → Acts e s → d ≡ sender_next e.machine items.Nothing (stock e.channel s.manager.plain) → sender_deed_by (s.stamp + 1) e d (node_in s) ≡ Some (pushed_deed e d f (node_in s)) → f.stamp ≡ s.stamp + 1 → choice ≡ Runs → delta ≡ []
    → Closes (actors.Sender e.cable) calls.Turn choice delta (with_end (Sends after) s.own) (record { stamp = f.stamp; pushed = Some f; extras = extras; popped = items.Nothing }) received s t
    → reads [] → HasSpelling f.kind → SendsTurn e.cable reads writes (Unit {0}) full o n s (Ok turns.Changed) t
pushed_as s t e after choice delta d f extras received reads writes full o n x is told ends rs acts next deed st c g z read spells =
    let O : Option ℕ → Type 0 = λ y. OfferTold writes full o f (Ok y) n in
    pushed_so s t e after choice delta d f extras received reads writes full o n ends rs acts next deed st c g z read (subst O is told) spells

pub refused_as : (s : NodeState) (e : SenderEnd) (d : SenderDoes) (f : Frame) (reads writes : List Item → Type 0) (full : Type 0) (o n : Offering) (x : Option ℕ) → x ≡ None → OfferTold writes full o f (Ok x) n → Acts e s → d ≡ sender_next e.machine items.Nothing (stock e.channel s.manager.plain)
    → sender_deed_by (s.stamp + 1) e d (node_in s) ≡ Some (pushed_deed e d f (node_in s)) → reads [] → SendsTurn e.cable reads writes (Unit {0}) full o n s (Ok turns.Still) s
refused_as s e d f reads writes full o n x is told acts next deed read =
    let O : Option ℕ → Type 0 = λ y. OfferTold writes full o f (Ok y) n in
    let h : OffersNone writes o n × IsFull full o (item_of f) = subst O is told in
    refused s e d f reads writes full o n acts next deed read h.0 h.1
