-- A receiver's turns that do nothing at the manager.
use Rattle.std.proofs.Common.{◌≡◌, ℕ, ◌+◌, ◌^◌, ◌<◌, ◌≤◌, max, refl, sym, ap, subst, ◌∙◌, List, [], true, false, arith}
use Rattle.std.specs.Prelude.{Bool, Option, Some, None, Ok, Err, is_some, if◌then◌else◌}
use Rattle.std.specs.Option.{option_map}
use Rattle.mq_base.specs.declared.want.NoMemory.{NoMemory as Want}
use Rattle.mq_cable.specs.declared.item.Item.{Item}
use Rattle.mq_cable.specs.Offers.{Offering}
use Rattle.mq_calls.specs.declared.choices.Choice.{Choice}
use Rattle.mq_calls.specs.declared.choices.Choice.TheVariants.{Runs, NoMemory, Stopped}
use Rattle.mq_frame.specs.Frames.{HasSpelling}
use Rattle.mq_frame.specs.declared.frame.Seen.TheVariants as items
use Rattle.mq_history.specs.declared.calls.Actor.TheVariants as actors
use Rattle.mq_history.specs.declared.calls.Call.TheVariants as calls
use Rattle.mq_receiver.specs.Table.{receiver_next}
use Rattle.mq_receiver.specs.declared.state.Owed.{Owed}
use Rattle.mq_receiver.specs.declared.state.Owed.TheVariants as owings
use Rattle.mq_receiver.specs.declared.state.Receiver.{Receiver}
use Rattle.mq_receiver.specs.declared.turns.ReceiverDoes.TheVariants as does
use Rattle.mq_calls.specs.Reads.{is_up}
use Rattle.mq_spec_node.specs.Terms.{Did, Frame, Message, Part, ReceiverDoes, Seen, owed_frame}
use Rattle.mq_spec_node.specs.Words.{ChannelEnd, Deed, IsPop, IsStamp, Node, Own, ReceiverEnd, as_receiver, deed_of, end_in, forgotten_rows, is_receiver_defined, receiver_deed_by, receiver_end, receiver_turn, turned, with_end}
use Rattle.mq_spec_node.specs.Node.ChannelEnd.{Receives, Sends}
use Rattle.mq_wires.specs.Wires.{HasPushed, OfferTold, OffersNone, Sees}
use Rattle.mq_cabled.proofs.EndLaws.{set_same, set_twice}
use Rattle.mq_turn_parts.specs.from_events.States.{NodeState, node_in}
use Rattle.mq_turn_parts.specs.declared.telling.Passed.{Passed}
use Rattle.mq_turn_parts.specs.declared.telling.Turn.TheVariants as turns
use Rattle.mq_turn_parts.specs.Turns.{Made, own_by, pushed_by, turn_entry}
use Rattle.mq_turn_parts.specs.Told.{Closes, IsBefore, IsTold}
use Rattle.mq_turn_parts.proofs.PartLaws.{none_made}
use Rattle.mq_turn_parts.proofs.TurnLaws.{receiver_turns}
use Rattle.mq_turn_parts.proofs.DueLaws.{may_low, up_is}
use Rattle.mq_turn_parts.specs.Wired.{Popped, Refuses}
use Rattle.mq_takes.specs.Takes.{IsQuietLine, Leaves, MayTake, ReceivesTurn, end_after, paid, whole}

pub take_low : (s : NodeState) (e : ReceiverEnd) → MayTake e (whole e s) → s.stamp < 2 ^ 60
take_low s e m = may_low (whole e s) m.may

-- An end that is set again, and one that is set over another.
pub receiver_is : (o : Option ChannelEnd) (e : ReceiverEnd) → as_receiver o ≡ Some e → o ≡ Some (Receives e)
receiver_is None e h = absurd cc
receiver_is (Some (Receives x)) e h = cc
receiver_is (Some (Sends x)) e h = absurd cc

pub receiver_same : (own : Own) (e : ReceiverEnd) → receiver_end e.cable own ≡ Some e → with_end (Receives e) own ≡ own
receiver_same own e there = ap (λ (es : List ChannelEnd). record own { ends = es }) (set_same e.cable (Receives e) own.ends (receiver_is (end_in e.cable own.ends) e there))

pub set_over : (e last : ReceiverEnd) (own : Own) → last.cable ≡ e.cable → with_end (Receives last) (with_end (Receives e) own) ≡ with_end (Receives last) own
set_over e last own c = ap (λ (es : List ChannelEnd). record own { ends = es }) (set_twice (Receives e) (Receives last) own.ends (sym c))

-- the deed of a turn, by the line
pub turn_is : (stamp cable : ℕ) (e : ReceiverEnd) (d : ReceiverDoes) (seen : Seen) (n : Node) → is_up n.manager.running ≡ true → receiver_end cable n.own ≡ Some e → d ≡ receiver_next e.machine seen (is_receiver_defined e.channel n.manager.definitions)
    → deed_of stamp (actors.Receiver cable) calls.Turn seen n ≡ receiver_deed_by stamp e seen d n
turn_is stamp cable e d seen n up there next =
    up_is n.manager.running (receiver_turn stamp (receiver_end cable n.own) seen n) up
    ∙ ap (λ (x : Option ReceiverEnd). receiver_turn stamp x seen n) there
    ∙ ap (λ (x : ReceiverDoes). receiver_deed_by stamp e seen x n) (sym next)

-- the stamp, by what was seen
less_more : (a b : ℕ) → a < max a b + 1
less_more a b = omega arith

max_none : (a b : ℕ) → b ≡ 0 → max a b + 1 ≡ a + 1
max_none a b e = omega (arith, e)

stamp_is : (front : Option Item) (last stamp : ℕ) (seen : Seen) → Sees front (Unit {0}) seen stamp → IsStamp last seen (max last stamp + 1)
stamp_is front last stamp items.Nothing s = max_none last stamp s.1
stamp_is front last stamp items.Spoiled s = less_more last stamp
stamp_is front last stamp (items.Frame f) s = ap (λ (x : ℕ). max last x + 1) (s.stamp_is ∙ sym s.has)

pop_is : (seen : Seen) (cable : ℕ) → IsPop seen None calls.Turn (actors.Receiver cable)
pop_is items.Nothing cable = tt
pop_is items.Spoiled cable = tt
pop_is (items.Frame f) cable = tt

none_pushed : (c : Choice) → None ≡ pushed_by c None
none_pushed Runs = refl
none_pushed NoMemory = refl
none_pushed (Stopped by n k) = refl

some_pushed : (c : Choice) (f : Frame) → c ≡ Runs → Some f ≡ pushed_by c (Some f)
some_pushed c f e = let P : Choice → Type 0 = λ x. Some f ≡ pushed_by x (Some f) in subst P (sym e) refl

-- what an end's own is where all was done
own_same : (c : Choice) (delta : List Did) (behind other before old : Own) → c ≡ Runs → behind ≡ other → own_by c delta behind before ≡ own_by c delta other old
own_same Runs delta behind other before old r e = ap (forgotten_rows delta) e
own_same NoMemory delta behind other before old r e = absurd cc
own_same (Stopped by n k) delta behind other before old r e = absurd cc

-- A turn that offers nothing, by its deed.
module _ (s p t : NodeState) (e last : ReceiverEnd) (parts : List Part) (received : List Message) (own : Own) (seen : Seen) (front : Option Item) (sight : ℕ) (choice : Choice) (delta : List Did) where
  abbrev d : Deed
  d = record (turned parts None own) { received = received }

  abbrev w : Passed
  w = record { stamp = max s.stamp sight + 1; pushed = None; extras = 0; popped = seen }

  told_is : deed_of w.stamp (actors.Receiver e.cable) calls.Turn seen (node_in s) ≡ Some d → Sees front (Unit {0}) seen sight → Made parts choice delta s.manager p.manager
      → IsTold s (actors.Receiver e.cable) calls.Turn d choice delta w received p.manager
  told_is deed sees made = record {
    deed = deed;
    reply = refl;
    made = made;
    pushed = none_pushed choice;
    received_is = refl;
    stamp = stamp_is front s.stamp sight seen sees;
    pop = pop_is seen e.cable;
    extras = refl;
  }

  pub taken_at : (reads writes : List Item → Type 0) (o : Offering) → MayTake e s → deed_of w.stamp (actors.Receiver e.cable) calls.Turn seen (node_in s) ≡ Some d → Sees front (Unit {0}) seen sight → Made parts choice delta s.manager p.manager
      → IsBefore s p → own_by choice delta (with_end (Receives last) p.own) p.own ≡ own_by choice delta own s.own
      → Closes (actors.Receiver e.cable) calls.Turn choice delta (with_end (Receives last) p.own) w received p t → Popped reads (seen ≡ items.Nothing) s.stamp seen w.stamp → writes []
      → ReceivesTurn e.cable reads writes (seen ≡ items.Nothing) ⊥ o o s (Ok turns.Changed) t
  taken_at reads writes o may deed sees made before same z popped written =
      let k = z s d before (receiver_turns e.cable) (told_is deed sees made) same may.kept may.served in
      record {
        kept = k.kept;
        spare = k.spare;
        turn = record { entry = turn_entry (actors.Receiver e.cable) calls.Turn choice delta w received; adds = k.adds; popped = popped; offered = record { same = refl; written = written } };
      }

-- An end that was lifted is behind its turn as the line leaves it.
pub left_so : (p t : NodeState) (e last : ReceiverEnd) (cable : ℕ) (seen : Seen) (front : Option Item) (sight stamp : ℕ) (received : List Message) (choice : Choice) (delta : List Did) (reads writes : List Item → Type 0) (o : Offering)
    → Leaves e last (max p.stamp sight + 1) seen (whole e p) → cable ≡ last.cable → stamp ≡ max p.stamp sight + 1 → received ≡ [] → choice ≡ Runs → delta ≡ [] → Sees front (Unit {0}) seen sight
    → Closes (actors.Receiver cable) calls.Turn choice delta (with_end (Receives last) p.own) (record { stamp = stamp; pushed = None; extras = 0; popped = seen }) received p t
    → Popped reads (seen ≡ items.Nothing) p.stamp seen (max p.stamp sight + 1) → writes [] → ReceivesTurn e.cable reads writes (seen ≡ items.Nothing) ⊥ o o (whole e p) (Ok turns.Changed) t
left_so p t e last cable seen front sight stamp received choice delta reads writes o is c st rs runs none sees z popped written =
    let C : ℕ → Type 0 = λ n. Closes (actors.Receiver n) calls.Turn choice delta (with_end (Receives last) p.own) (record { stamp = stamp; pushed = None; extras = 0; popped = seen }) received p t in
    let S : ℕ → Type 0 = λ n. Closes (actors.Receiver e.cable) calls.Turn choice delta (with_end (Receives last) p.own) (record { stamp = n; pushed = None; extras = 0; popped = seen }) received p t in
    let R : List Message → Type 0 = λ ms. Closes (actors.Receiver e.cable) calls.Turn choice delta (with_end (Receives last) p.own) (record { stamp = max p.stamp sight + 1; pushed = None; extras = 0; popped = seen }) ms p t in
    taken_at (whole e p) p t e last [] [] (with_end (Receives last) (with_end (Receives e) p.own)) seen front sight choice delta reads writes o is.may is.deed sees (none_made choice delta p.manager runs none) refl
    (own_same choice delta (with_end (Receives last) p.own) (with_end (Receives last) (with_end (Receives e) p.own)) p.own (with_end (Receives e) p.own) runs (sym (set_over e last p.own is.cable_is)))
    (subst R rs (subst S st (subst C (c ∙ is.cable_is) z))) popped written

-- the deed of such a line
pub quiet_deed : (stamp : ℕ) (e : ReceiverEnd) (d : ReceiverDoes) (seen : Seen) (n : Node) → IsQuietLine d → receiver_end e.cable n.own ≡ Some e → receiver_deed_by stamp e seen d n ≡ Some (turned [] None (with_end (Receives (end_after e d seen)) n.own))
quiet_deed stamp e does.Ignore seen n q there = ap (λ (x : Own). Some (turned [] None x)) (sym (receiver_same n.own e there))
quiet_deed stamp e does.Keep seen n q there = refl
quiet_deed stamp e does.Again seen n q there = refl
quiet_deed stamp e does.Still seen n q there = absurd q
quiet_deed stamp e does.PushOwed seen n q there = absurd q
quiet_deed stamp e does.Bind seen n q there = absurd q
quiet_deed stamp e (does.Place unit) seen n q there = absurd q
quiet_deed stamp e does.Close seen n q there = absurd q

pub leaves_so : (stamp : ℕ) (e last : ReceiverEnd) (d : ReceiverDoes) (seen : Seen) (s : NodeState) → MayTake e s → IsQuietLine d → d ≡ receiver_next e.machine seen (is_receiver_defined e.channel s.manager.plain.definitions) → last ≡ end_after e d seen → Leaves e last stamp seen s
leaves_so stamp e last d seen s may q next is = record {
  may = may;
  cable_is = ap (λ (x : ReceiverEnd). x.cable) is;
  deed = turn_is stamp e.cable e d seen (node_in s) may.up may.there next ∙ quiet_deed stamp e d seen (node_in s) q may.there ∙ ap (λ (x : ReceiverEnd). Some (turned [] None (with_end (Receives x) s.own))) (sym is);
}

-- Nothing was done, and the end stands in its place.
pub put_so : (p t : NodeState) (e last : ReceiverEnd) (x : Want) (reads writes : List Item → Type 0) (none full : Type 0) (o n : Offering) → MayTake e (whole e p) → last ≡ e → t ≡ whole last p → reads [] → OffersNone writes o n
    → ReceivesTurn e.cable reads writes none full o n (whole e p) (Err x) t
put_so p t e last x reads writes none full o n may is k read offers =
    let at : t ≡ whole e p = k ∙ ap (λ (y : ReceiverEnd). whole y p) is in
    let T : NodeState → Type 0 = λ y. ReceivesTurn e.cable reads writes none full o n (whole e p) (Err x) y in
    subst T (sym at) (record { kept = may.kept; spare = refl; turn = record { stays = record { same = refl; marks = refl; faults = le_self p.manager.faults }; read = read; offers = offers } })
  where
    le_self : (n : ℕ) → n ≤ n
    le_self n = omega arith

-- A frame that is owed.
first_of : (b : Bool) (x other : ReceiverDoes) → b ≡ true → x ≡ (if b then x else other)
first_of true x other e = refl
first_of false x other e = absurd cc

owes_first : (r : Receiver) (owed : Owed) (seen : Seen) (defined : Bool) → r.owes ≡ Some owed → does.PushOwed ≡ receiver_next r seen defined
owes_first r owed seen defined h = first_of (is_some r.owes) does.PushOwed _ (ap is_some h)

pub owed_deed : (stamp : ℕ) (e : ReceiverEnd) (owed : Owed) (f : Frame) (seen : Seen) (s : NodeState) → MayTake e s → e.machine.owes ≡ Some owed → f ≡ owed_frame stamp owed
    → deed_of stamp (actors.Receiver e.cable) calls.Turn seen (node_in s) ≡ Some (turned [] (Some f) (with_end (Receives (paid e)) s.own))
owed_deed stamp e owed f seen s may h is =
    turn_is stamp e.cable e does.PushOwed seen (node_in s) may.up may.there (owes_first e.machine owed seen (is_receiver_defined e.channel s.manager.plain.definitions) h)
    ∙ ap (λ (o : Option Owed). Some (turned [] (option_map (owed_frame stamp) o) (with_end (Receives (paid e)) s.own))) h
    ∙ ap (λ (x : Frame). Some (turned [] (Some x) (with_end (Receives (paid e)) s.own))) (sym is)

owed_spells : (stamp : ℕ) (owed : Owed) → HasSpelling (owed_frame stamp owed).kind
owed_spells stamp (owings.Status session unit last) = tt
owed_spells stamp (owings.Ack unit) = tt
owed_spells stamp (owings.Err unit reason) = tt

owed_stamp : (stamp : ℕ) (owed : Owed) → (owed_frame stamp owed).stamp ≡ stamp
owed_stamp stamp (owings.Status session unit last) = refl
owed_stamp stamp (owings.Ack unit) = refl
owed_stamp stamp (owings.Err unit reason) = refl

pub refused_so : (p t : NodeState) (e : ReceiverEnd) (owed : Owed) (f : Frame) (reads writes : List Item → Type 0) (full : Type 0) (o n : Offering) → MayTake e (whole e p) → e.machine.owes ≡ Some owed → f ≡ owed_frame (p.stamp + 1) owed → t ≡ whole e p → reads []
    → OfferTold writes full o f (Ok None) n → ReceivesTurn e.cable reads writes (Unit {0}) full o n (whole e p) (Ok turns.Still) t
refused_so p t e owed f reads writes full o n may h is at read told =
    let T : NodeState → Type 0 = λ y. ReceivesTurn e.cable reads writes (Unit {0}) full o n (whole e p) (Ok turns.Still) y in
    subst T (sym at) (record {
      kept = may.kept;
      spare = refl;
      turn = (
        record { stays = record { same = refl; marks = refl; faults = le_self p.manager.faults }; read = read; offers = told.0 },
        Refuses (turned [] (Some f) (with_end (Receives (paid e)) (whole e p).own)) f tt (owed_deed (p.stamp + 1) e owed f items.Nothing (whole e p) may h is) refl told.1,
      );
    })
  where
    le_self : (n : ℕ) → n ≤ n
    le_self n = omega arith

module _ (p t : NodeState) (e : ReceiverEnd) (owed : Owed) (f : Frame) (extras : ℕ) (choice : Choice) (delta : List Did) where
  abbrev before : NodeState
  before = whole e p

  abbrev frame_deed : Deed
  frame_deed = turned [] (Some f) (with_end (Receives (paid e)) before.own)

  abbrev frame_passed : Passed
  frame_passed = record { stamp = f.stamp; pushed = Some f; extras = extras; popped = items.Nothing }

  stamped : f ≡ owed_frame (p.stamp + 1) owed → f.stamp ≡ p.stamp + 1
  stamped is = ap (λ (x : Frame). x.stamp) is ∙ owed_stamp (p.stamp + 1) owed

  frame_told : MayTake e before → e.machine.owes ≡ Some owed → f ≡ owed_frame (p.stamp + 1) owed → choice ≡ Runs → delta ≡ [] → IsTold before (actors.Receiver e.cable) calls.Turn frame_deed choice delta frame_passed [] p.manager
  frame_told may h is runs none = record {
    deed = let D : ℕ → Type 0 = λ x. deed_of x (actors.Receiver e.cable) calls.Turn items.Nothing (node_in before) ≡ Some frame_deed in subst D (sym (stamped is)) (owed_deed (p.stamp + 1) e owed f items.Nothing before may h is);
    reply = refl;
    made = none_made choice delta p.manager runs none;
    pushed = some_pushed choice f runs;
    received_is = refl;
    stamp = stamped is;
    pop = tt;
    extras = tt;
  }

  pushed_at : (reads writes : List Item → Type 0) (full : Type 0) (o n : Offering) → MayTake e before → e.machine.owes ≡ Some owed → f ≡ owed_frame (p.stamp + 1) owed → choice ≡ Runs → delta ≡ []
      → Closes (actors.Receiver e.cable) calls.Turn choice delta (with_end (Receives (paid e)) p.own) frame_passed [] p t → reads [] → HasPushed writes full o f extras n → ReceivesTurn e.cable reads writes (Unit {0}) full o n before (Ok turns.Changed) t
  pushed_at reads writes full o n may h is runs none z read offered =
      let same = own_same choice delta (with_end (Receives (paid e)) p.own) (with_end (Receives (paid e)) before.own) p.own before.own runs (sym (set_over e (paid e) p.own refl)) in
      let k = z before frame_deed refl (receiver_turns e.cable) (frame_told may h is runs none) same may.kept may.served in
      record {
        kept = k.kept;
        spare = k.spare;
        turn = record {
          entry = turn_entry (actors.Receiver e.cable) calls.Turn choice delta frame_passed [];
          adds = k.adds;
          popped = (read, tt);
          offered = (offered, subst (λ (x : Frame). HasSpelling x.kind) (sym is) (owed_spells (p.stamp + 1) owed));
        };
      }

pub pushed_so : (p t : NodeState) (e last : ReceiverEnd) (cable : ℕ) (owed : Owed) (f : Frame) (extras : ℕ) (received : List Message) (choice : Choice) (delta : List Did) (reads writes : List Item → Type 0) (full : Type 0) (o n : Offering)
    → MayTake e (whole e p) → e.machine.owes ≡ Some owed → f ≡ owed_frame (p.stamp + 1) owed → cable ≡ e.cable → last ≡ paid e → received ≡ [] → choice ≡ Runs → delta ≡ []
    → Closes (actors.Receiver cable) calls.Turn choice delta (with_end (Receives last) p.own) (record { stamp = f.stamp; pushed = Some f; extras = extras; popped = items.Nothing }) received p t → reads [] → OfferTold writes full o f (Ok (Some extras)) n
    → ReceivesTurn e.cable reads writes (Unit {0}) full o n (whole e p) (Ok turns.Changed) t
pushed_so p t e last cable owed f extras received choice delta reads writes full o n may h is c l rs runs none z read offered =
    let W : Passed = record { stamp = f.stamp; pushed = Some f; extras = extras; popped = items.Nothing } in
    let C : ℕ → Type 0 = λ x. Closes (actors.Receiver x) calls.Turn choice delta (with_end (Receives last) p.own) W received p t in
    let L : ReceiverEnd → Type 0 = λ x. Closes (actors.Receiver e.cable) calls.Turn choice delta (with_end (Receives x) p.own) W received p t in
    let R : List Message → Type 0 = λ ms. Closes (actors.Receiver e.cable) calls.Turn choice delta (with_end (Receives (paid e)) p.own) W ms p t in
    pushed_at p t e owed f extras choice delta reads writes full o n may h is runs none (subst R rs (subst L l (subst C c z))) read offered
