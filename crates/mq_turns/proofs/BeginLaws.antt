-- A sender's turn that begins a unit.
use Rattle.std.proofs.Common.{◌≡◌, ℕ, ◌+◌, ◌^◌, ◌<◌, ◌≤◌, refl, sym, ap, subst, ◌∙◌, List, [], arith}
use Rattle.std.specs.Prelude.{Option, Some, None, Ok, Err, IsSome}
use Rattle.std.specs.Option.{option_map}
use Rattle.mq_base.specs.declared.want.NoMemory.{NoMemory as Want}
use Rattle.mq_sync.specs.Units.{unit_named}
use Rattle.mq_calls.specs.declared.choices.Choice.{Choice}
use Rattle.mq_calls.specs.declared.choices.Choice.TheVariants.{Runs}
use Rattle.mq_calls.specs.declared.state.Batch.{Batch}
use Rattle.mq_cable.specs.declared.item.Item.{Item}
use Rattle.mq_cable.specs.Offers.{Offering}
use Rattle.mq_frame.specs.Frames.{HasSpelling}
use Rattle.mq_frame.specs.declared.frame.Seen.TheVariants as items
use Rattle.mq_history.specs.declared.calls.Actor.TheVariants as actors
use Rattle.mq_history.specs.declared.calls.Call.TheVariants as calls
use Rattle.mq_sender.specs.Table.{sender_next}
use Rattle.mq_sender.specs.declared.turns.SenderDoes.TheVariants as lines
use Rattle.mq_calls.specs.Steps.{do_all}
use Rattle.mq_spec_manager.specs.Agents.{CanHold, HasBatch, IsUp, batch_row, release_batch, stock}
use Rattle.mq_spec_node.specs.Terms.{Did, Frame, Message, Plain, SenderDoes}
use Rattle.mq_spec_node.specs.Words.{Deed, Own, SenderEnd, carried, deed_of, item_of, parts_of, turned, with_end}
use Rattle.mq_spec_node.specs.Node.ChannelEnd.{Sends}
use Rattle.mq_wires.specs.Wires.{HasPushed, IsFull, OfferTold, OffersNone}
use Rattle.mq_turn_parts.specs.from_events.States.{NodeState, node_in}
use Rattle.mq_turn_parts.specs.declared.telling.Passed.{Passed}
use Rattle.mq_turn_parts.specs.declared.telling.Turn.TheVariants as turns
use Rattle.mq_turn_parts.specs.Turns.{IsAsWas, IsBehind, Made, own_by, plain_by, turn_entry}
use Rattle.mq_turn_parts.specs.Told.{Closes, IsTold}
use Rattle.mq_turn_parts.specs.Wired.{Refuses}
use Rattle.mq_turn_parts.specs.Acting.{Acts, SendsTurn}
use Rattle.mq_turns.specs.declared.beginning.First.{First}
use Rattle.mq_turns.specs.declared.beginning.First.TheVariants as firsts
use Rattle.mq_turns.specs.Begins.{FirstTold, HasHeld, begun_parts}
use Rattle.mq_turns.specs.Sends.{behind_end}
use Rattle.mq_turns.proofs.HoldLaws.{given_up, own_batch}
use Rattle.mq_turns.proofs.PushLaws.{some_pushed}
use Rattle.mq_turn_parts.proofs.RunLaws.{stays_up}
use Rattle.mq_turns.proofs.SendLaws.{message_stamp, turn_is}
use Rattle.mq_turns.proofs.SettleLaws.{want_kept, want_stays}
use Rattle.mq_turn_parts.proofs.TurnLaws.{before_of, sender_turns}

module _ (s h : NodeState) (e : SenderEnd) (n count : ℕ) (choice : Choice) (delta : List Did) (acts : Acts e s) (g : h ≡ record s { manager = h.manager }) (ran : choice ≡ Runs) (made : Made (begun_parts e n count s.manager.plain) choice delta s.manager h.manager) where
  abbrev d : SenderDoes
  d = lines.Begin n count

  plain_is : h.manager.plain ≡ do_all (begun_parts e n count s.manager.plain) s.manager.plain
  plain_is = made.plain ∙ ap (λ (c : Choice). plain_by c (begun_parts e n count s.manager.plain) s.manager.plain) ran

  pub begun_up : IsUp h.manager.plain
  begun_up = stays_up (begun_parts e n count s.manager.plain) choice delta s.manager h.manager made acts.up ran

  pub begun_batch : HasBatch e.channel h.manager.plain
  begun_batch = subst (λ (p : Plain). HasBatch e.channel p) (sym plain_is) (subst (λ (o : Option Batch). IsSome o) (sym (own_batch e.channel (unit_named e.machine.kept.session n) count s.manager.plain)) refl)

  abbrev pushes : Frame → Deed
  pushes f = turned (begun_parts e n count s.manager.plain) (Some f) (with_end (Sends (behind_end e d)) s.own)

  -- the frame that is offered
  begun_deed : (f : Frame) → d ≡ sender_next e.machine items.Nothing (stock e.channel s.manager.plain) → option_map (carried (s.stamp + 1) e n 1) (batch_row e.channel 1 h.manager.plain) ≡ Some f
      → deed_of (s.stamp + 1) (actors.Sender e.cable) calls.Turn items.Nothing (node_in s) ≡ Some (pushes f)
  begun_deed f next of =
      turn_is (s.stamp + 1) e.cable e d items.Nothing (node_in s) acts.up acts.there next
      ∙ ap (λ (x : Option Frame). Some (turned (begun_parts e n count s.manager.plain) x (with_end (Sends (behind_end e d)) s.own))) (ap (λ (p : Plain). option_map (carried (s.stamp + 1) e n 1) (batch_row e.channel 1 p)) (sym plain_is) ∙ of)

  begun_told : (f : Frame) (extras : ℕ) → d ≡ sender_next e.machine items.Nothing (stock e.channel s.manager.plain) → option_map (carried (s.stamp + 1) e n 1) (batch_row e.channel 1 h.manager.plain) ≡ Some f → f.stamp ≡ s.stamp + 1
      → IsTold s (actors.Sender e.cable) calls.Turn (pushes f) choice delta (record { stamp = f.stamp; pushed = Some f; extras = extras; popped = items.Nothing }) [] h.manager
  begun_told f extras next of st = record {
    deed = let D : ℕ → Type 0 = λ x. deed_of x (actors.Sender e.cable) calls.Turn items.Nothing (node_in s) ≡ Some (pushes f) in subst D (sym st) (begun_deed f next of);
    reply = refl;
    made = made;
    pushed = some_pushed choice f ran;
    received_is = refl;
    stamp = st;
    pop = tt;
    extras = tt;
  }

  pub begun : (t : NodeState) (after : SenderEnd) (f : Frame) (extras : ℕ) (received : List Message) (reads writes : List Item → Type 0) (full : Type 0) (o m : Offering) → after ≡ behind_end e d → received ≡ []
      → d ≡ sender_next e.machine items.Nothing (stock e.channel s.manager.plain) → option_map (carried (s.stamp + 1) e n 1) (batch_row e.channel 1 h.manager.plain) ≡ Some f
      → Closes (actors.Sender e.cable) calls.Turn choice delta (with_end (Sends after) h.own) (record { stamp = f.stamp; pushed = Some f; extras = extras; popped = items.Nothing }) received h t
      → reads [] → HasPushed writes full o f extras m → HasSpelling f.kind → SendsTurn e.cable reads writes (Unit {0}) full o m s (Ok turns.Changed) t
  begun t after f extras received reads writes full o m is rs next of z read offered spells =
      let w : Passed = record { stamp = f.stamp; pushed = Some f; extras = extras; popped = items.Nothing } in
      let st : f.stamp ≡ s.stamp + 1 = message_stamp (s.stamp + 1) e n 1 h.manager.plain f of in
      let A : SenderEnd → Type 0 = λ x. Closes (actors.Sender e.cable) calls.Turn choice delta (with_end (Sends x) h.own) w received h t in
      let R : List Message → Type 0 = λ ms. Closes (actors.Sender e.cable) calls.Turn choice delta (with_end (Sends (behind_end e d)) h.own) w ms h t in
      let same : h.own ≡ s.own = ap (λ (x : NodeState). x.own) g in
      let c = (subst R rs (subst A is z)) s (pushes f) (before_of s h g) (sender_turns e.cable) (begun_told f extras next of st) (ap (λ (x : Own). own_by choice delta (with_end (Sends (behind_end e d)) x) x) same) acts.kept acts.served in
      record {
        kept = c.kept;
        spare = c.spare;
        turn = record { entry = turn_entry (actors.Sender e.cable) calls.Turn choice delta w []; adds = c.adds; popped = (read, tt); offered = (offered, spells) };
      }

  -- given up again
  given : (a : NodeState) → IsBehind (parts_of (release_batch e.channel h.manager.plain)) h.manager a.manager → CanHold e.channel s.manager.plain → IsAsWas s.manager a.manager
  given a b can = record {
    plain = b.plain ∙ ap (λ (p : Plain). do_all (parts_of (release_batch e.channel p)) p) plain_is ∙ given_up e.channel (unit_named e.machine.kept.session n) count s.manager.plain can;
    later = omega (arith, made.later, b.later);
  }

  given_same : (a : NodeState) → a ≡ record h { manager = a.manager } → a ≡ record s { manager = a.manager }
  given_same a k = k ∙ ap (λ (x : NodeState). record x { manager = a.manager }) g

  pub begun_wants : (a : NodeState) (x : Want) (reads writes : List Item → Type 0) (full : Type 0) (o m : Offering) → a ≡ record h { manager = a.manager } → IsBehind (parts_of (release_batch e.channel h.manager.plain)) h.manager a.manager → CanHold e.channel s.manager.plain
      → reads [] → OffersNone writes o m → SendsTurn e.cable reads writes (Unit {0}) full o m s (Err x) a
  begun_wants a x reads writes full o m k b can read none = record {
    kept = want_kept s a (given_same a k) (given a b can) acts.kept;
    spare = ap (λ (y : NodeState). y.spare) (given_same a k);
    turn = record { stays = want_stays s a (given_same a k) (given a b can); read = read; offers = none };
  }

  pub begun_refused : (a : NodeState) (f : Frame) (reads writes : List Item → Type 0) (full : Type 0) (o m : Offering) → a ≡ record h { manager = a.manager } → IsBehind (parts_of (release_batch e.channel h.manager.plain)) h.manager a.manager → CanHold e.channel s.manager.plain
      → d ≡ sender_next e.machine items.Nothing (stock e.channel s.manager.plain) → option_map (carried (s.stamp + 1) e n 1) (batch_row e.channel 1 h.manager.plain) ≡ Some f
      → reads [] → OffersNone writes o m → IsFull full o (item_of f) → SendsTurn e.cable reads writes (Unit {0}) full o m s (Ok turns.Still) a
  begun_refused a f reads writes full o m k b can next of read none was = record {
    kept = want_kept s a (given_same a k) (given a b can) acts.kept;
    spare = ap (λ (y : NodeState). y.spare) (given_same a k);
    turn = (record { stays = want_stays s a (given_same a k) (given a b can); read = read; offers = none }, Refuses (pushes f) f tt (begun_deed f next of) refl was);
  }

-- so for what the code has
module _ (s h : NodeState) (e : SenderEnd) (n count stamp : ℕ) (choice : Choice) (delta : List Did) (k : HasHeld e n count stamp choice delta s h) where
  abbrev framed : ℕ → Option Frame
  framed at = option_map (carried at e n 1) (batch_row e.channel 1 h.manager.plain)

  pub begun_so : (t : NodeState) (after : SenderEnd) (f : Frame) (extras : ℕ) (received : List Message) (reads writes : List Item → Type 0) (full : Type 0) (o m : Offering) → after ≡ behind_end e (lines.Begin n count) → received ≡ []
      → FirstTold writes full o (framed stamp) (firsts.Offered f extras) m → Closes (actors.Sender e.cable) calls.Turn choice delta (with_end (Sends after) h.own) (record { stamp = f.stamp; pushed = Some f; extras = extras; popped = items.Nothing }) received h t
      → reads [] → SendsTurn e.cable reads writes (Unit {0}) full o m s (Ok turns.Changed) t
  begun_so t after f extras received reads writes full o m is rs told z read =
      begun s h e n count choice delta k.acts k.same k.ran k.made t after f extras received reads writes full o m is rs k.next (ap framed (sym k.stamp_is) ∙ told.0) z read told.1 told.2

  pub begun_wants_so : (a : NodeState) (x : Want) (reads writes : List Item → Type 0) (full : Type 0) (o m : Offering) → a ≡ record h { manager = a.manager } → IsBehind (parts_of (release_batch e.channel h.manager.plain)) h.manager a.manager
      → FirstTold writes full o (framed stamp) firsts.Wants m → reads [] → SendsTurn e.cable reads writes (Unit {0}) full o m s (Err x) a
  begun_wants_so a x reads writes full o m g b told read = begun_wants s h e n count choice delta k.acts k.same k.ran k.made a x reads writes full o m g b k.can read told

  pub begun_refused_so : (a : NodeState) (reads writes : List Item → Type 0) (full : Type 0) (o m : Offering) → a ≡ record h { manager = a.manager } → IsBehind (parts_of (release_batch e.channel h.manager.plain)) h.manager a.manager
      → FirstTold writes full o (framed stamp) firsts.Refused m → reads [] → SendsTurn e.cable reads writes (Unit {0}) full o m s (Ok turns.Still) a
  begun_refused_so a reads writes full o m g b told read =
      begun_refused s h e n count choice delta k.acts k.same k.ran k.made a told.0 reads writes full o m g b k.can k.next (ap framed (sym k.stamp_is) ∙ told.1) read told.2 told.3

-- what was held stands before the offer
pub held_up : (s h : NodeState) (e : SenderEnd) (n count : ℕ) (choice : Choice) (delta : List Did) → Acts e s → h ≡ record s { manager = h.manager } → choice ≡ Runs → Made (begun_parts e n count s.manager.plain) choice delta s.manager h.manager → IsUp h.manager.plain
held_up s h e n count choice delta acts g ran made = begun_up s h e n count choice delta acts g ran made

pub held_batch : (s h : NodeState) (e : SenderEnd) (n count : ℕ) (choice : Choice) (delta : List Did) → Acts e s → h ≡ record s { manager = h.manager } → choice ≡ Runs → Made (begun_parts e n count s.manager.plain) choice delta s.manager h.manager → HasBatch e.channel h.manager.plain
held_batch s h e n count choice delta acts g ran made = begun_batch s h e n count choice delta acts g ran made

pub held_is : (s h : NodeState) (e : SenderEnd) (n count stamp : ℕ) (choice : Choice) (delta : List Did) → Acts e s → h ≡ record s { manager = h.manager } → choice ≡ Runs → Made (begun_parts e n count s.manager.plain) choice delta s.manager h.manager → CanHold e.channel s.manager.plain
    → stamp ≡ s.stamp + 1 → lines.Begin n count ≡ sender_next e.machine items.Nothing (stock e.channel s.manager.plain) → HasHeld e n count stamp choice delta s h
held_is s h e n count stamp choice delta acts g ran made can st next = record { acts = acts; same = g; ran = ran; made = made; can = can; stamp_is = st; next = next }

pub held_room : (s h : NodeState) → h ≡ record s { manager = h.manager } → 0 < s.room → 0 < h.room
held_room s h g r = subst (λ (x : NodeState). 0 < x.room) (sym g) r

-- what an offer comes to
pub first_wants : (writes : List Item → Type 0) (full : Type 0) (o n : Offering) (f : Option Frame) → OffersNone writes o n → FirstTold writes full o f firsts.Wants n
first_wants writes full o n f h = h

pub first_refused : (writes : List Item → Type 0) (full : Type 0) (o n : Offering) (f : Frame) (x : Option ℕ) → x ≡ None → OfferTold writes full o f (Ok x) n → FirstTold writes full o (Some f) firsts.Refused n
first_refused writes full o n f x is told =
    let O : Option ℕ → Type 0 = λ y. OfferTold writes full o f (Ok y) n in
    let h : OffersNone writes o n × IsFull full o (item_of f) = subst O is told in
    (f, refl, h.0, h.1)

pub first_offered : (writes : List Item → Type 0) (full : Type 0) (o n : Offering) (f : Frame) (extras : ℕ) (x : Option ℕ) → x ≡ Some extras → OfferTold writes full o f (Ok x) n → HasSpelling f.kind → FirstTold writes full o (Some f) (firsts.Offered f extras) n
first_offered writes full o n f extras x is told spells =
    let O : Option ℕ → Type 0 = λ y. OfferTold writes full o f (Ok y) n in
    (refl, subst O is told, spells)

pub first_as : (writes : List Item → Type 0) (full : Type 0) (o n : Offering) (f : Frame) (y : Option Frame) (first : First) → y ≡ Some f → FirstTold writes full o (Some f) first n → FirstTold writes full o y first n
first_as writes full o n f y first is told = subst (λ (z : Option Frame). FirstTold writes full o z first n) (sym is) told

pub first_low : (stamp : ℕ) (e : SenderEnd) (n index : ℕ) (p : Plain) (f : Frame) → option_map (carried stamp e n index) (batch_row e.channel index p) ≡ Some f → stamp ≤ 2 ^ 60 → f.stamp ≤ 2 ^ 60
first_low stamp e n index p f of low = subst (λ (x : ℕ). x ≤ 2 ^ 60) (sym (message_stamp stamp e n index p f of)) low
