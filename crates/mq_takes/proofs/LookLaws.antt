-- A receiver's turn seen from before its first look.
use Rattle.std.proofs.Common.{◌≡◌, ℕ, ◌+◌, ◌≤◌, refl, sym, ap, subst, ◌∙◌, List, [], Bool, true, false, arith}
use Rattle.std.specs.Prelude.{Some, None, Result, Ok, Err, if◌then◌else◌, ◌&&◌, not, is_some}
use Rattle.mq_base.specs.declared.want.NoMemory.{NoMemory as Want}
use Rattle.mq_cable.specs.declared.item.Item.{Item}
use Rattle.mq_cable.specs.Offers.{Offering}
use Rattle.mq_frame.specs.Sight.{waits}
use Rattle.mq_frame.specs.declared.frame.Seen.TheVariants as items
use Rattle.mq_history.specs.declared.calls.Actor.TheVariants as actors
use Rattle.mq_receiver.specs.States.{is_bound, is_stopped}
use Rattle.mq_receiver.specs.Table.{completes, continues, is_new_bind, is_spoiled, receiver_next, repeats, unit_seen}
use Rattle.mq_receiver.specs.declared.state.Owed.{Owed}
use Rattle.mq_receiver.specs.declared.state.Receiver.{Receiver}
use Rattle.mq_receiver.specs.declared.turns.ReceiverDoes.TheVariants as does
use Rattle.mq_spec_node.specs.Terms.{ReceiverDoes, Seen, owed_frame}
use Rattle.mq_spec_node.specs.Words.{ReceiverEnd, is_receiver_defined, turned, with_end}
use Rattle.mq_spec_node.specs.Node.ChannelEnd.{Receives}
use Rattle.mq_turn_parts.specs.from_events.States.{NodeState, node_in}
use Rattle.mq_wires.specs.Wires.{OffersNone}
use Rattle.mq_turn_parts.specs.declared.telling.Turn.{Turn}
use Rattle.mq_turn_parts.specs.declared.telling.Turn.TheVariants as turns
use Rattle.mq_turn_parts.specs.Unseen.{IsUnseen, Pushes, turn_deed}
use Rattle.mq_turn_parts.specs.Wired.{Idles}
use Rattle.mq_turn_parts.proofs.WireLaws.{turn_widened}
use Rattle.mq_takes.specs.Takes.{MayTake, ReceivesTurn, paid, whole}
use Rattle.mq_takes.specs.Turning.{TakesOne}
use Rattle.mq_takes.proofs.TakeLaws.{owed_deed, put_so, turn_is}

-- A line that is not the first that applies, by a test that tells it from what is done.
abbrev is_still : ReceiverDoes → Bool
is_still does.Still = true
is_still _ = false

abbrev is_push : ReceiverDoes → Bool
is_push does.PushOwed = true
is_push _ = false

never : true ≡ false → ⊥
never h = absurd cc

not_first : (test : ReceiverDoes → Bool) (z x y : ReceiverDoes) (b : Bool) → test z ≡ true → test x ≡ false → z ≡ (if b then x else y) → z ≡ y
not_first test z x y true t f h = absurd (never (sym t ∙ ap test h ∙ f))
not_first test z x y false t f h = h

-- nothing is done only where nothing waits
unwaiting : (seen : Seen) → waits seen ≡ false → seen ≡ items.Nothing
unwaiting items.Nothing h = refl
unwaiting items.Spoiled h = absurd cc
unwaiting (items.Frame f) h = absurd cc

last_still : (b : Bool) → does.Still ≡ (if b then does.Ignore else does.Still) → b ≡ false
last_still true h = absurd cc
last_still false h = refl

module _ (r : Receiver) (seen : Seen) (defined : Bool) where
  abbrev line7 : ReceiverDoes
  line7 = if waits seen then does.Ignore else does.Still

  abbrev line6 : ReceiverDoes
  line6 = if is_spoiled seen && is_bound r.state then does.Close else line7

  abbrev line5 : ReceiverDoes
  line5 = if completes r seen then does.Place (unit_seen seen) else line6

  abbrev line4 : ReceiverDoes
  line4 = if repeats r seen then does.Again else line5

  abbrev line3 : ReceiverDoes
  line3 = if continues r seen then does.Keep else line4

  abbrev line2 : ReceiverDoes
  line2 = if is_new_bind r seen && defined && not (is_stopped r.state) then does.Bind else line3

  -- behind the second line, for what is neither of the lines after it
  behind_all : (test : ReceiverDoes → Bool) (z : ReceiverDoes) → test z ≡ true → test does.Bind ≡ false → test does.Keep ≡ false → test does.Again ≡ false → test (does.Place (unit_seen seen)) ≡ false → test does.Close ≡ false → z ≡ line2 → z ≡ line7
  behind_all test z t bind keep again place close h =
      not_first test z does.Close line7 (is_spoiled seen && is_bound r.state) t close
      (not_first test z (does.Place (unit_seen seen)) line6 (completes r seen) t place
      (not_first test z does.Again line5 (repeats r seen) t again
      (not_first test z does.Keep line4 (continues r seen) t keep
      (not_first test z does.Bind line3 (is_new_bind r seen && defined && not (is_stopped r.state)) t bind h))))

  pub still_unseen : does.Still ≡ receiver_next r seen defined → seen ≡ items.Nothing
  still_unseen h = unwaiting seen (last_still (waits seen) (behind_all is_still does.Still refl refl refl refl refl refl (not_first is_still does.Still does.PushOwed line2 (is_some r.owes) refl refl h)))

  -- an end that owes nothing has no frame to offer
  not_owed : (b : Bool) → b ≡ false → does.PushOwed ≡ (if b then does.PushOwed else line2) → does.PushOwed ≡ line2
  not_owed true e h = absurd (never e)
  not_owed false e h = h

  last_push : (b : Bool) → does.PushOwed ≡ (if b then does.Ignore else does.Still) → ⊥
  last_push true h = never (ap is_push h)
  last_push false h = never (ap is_push h)

  pub owes_none : r.owes ≡ None → does.PushOwed ≡ receiver_next r seen defined → ⊥
  owes_none n h = last_push (waits seen) (behind_all is_push does.PushOwed refl refl refl refl refl refl (not_owed (is_some r.owes) (ap is_some n) h))

-- The turn of a line that does nothing.
pub still_so : (p t : NodeState) (e : ReceiverEnd) (seen : Seen) (reads writes : List Item → Type 0) (full : Type 0) (o : Offering) → MayTake e (whole e p) → does.Still ≡ receiver_next e.machine seen (is_receiver_defined e.channel p.manager.plain.definitions) → t ≡ whole e p → reads [] → writes []
    → ReceivesTurn e.cable reads writes (seen ≡ items.Nothing) full o o (whole e p) (Ok turns.Still) t
still_so p t e seen reads writes full o may next at read written =
    let T : NodeState → Type 0 = λ y. ReceivesTurn e.cable reads writes (seen ≡ items.Nothing) full o o (whole e p) (Ok turns.Still) y in
    let none : seen ≡ items.Nothing = still_unseen e.machine seen (is_receiver_defined e.channel p.manager.plain.definitions) next in
    let here : does.Still ≡ receiver_next e.machine items.Nothing (is_receiver_defined e.channel p.manager.plain.definitions) = subst (λ (x : Seen). does.Still ≡ receiver_next e.machine x (is_receiver_defined e.channel p.manager.plain.definitions)) none next in
    subst T (sym at) (record {
      kept = may.kept;
      spare = refl;
      turn = (
        record { stays = record { same = refl; marks = refl; faults = le_self p.manager.faults }; read = read; offers = record { same = refl; written = written } },
        Idles none (turn_is (p.stamp + 1) e.cable e does.Still items.Nothing (node_in (whole e p)) may.up may.there here),
      );
    })
  where
    le_self : (n : ℕ) → n ≤ n
    le_self n = omega arith

-- So seen from before: whatever is known where nothing was popped.
pub turn_seen : (cable : ℕ) (reads writes rs ws : List Item → Type 0) (none full empty fu : Type 0) (o n : Offering) (s t : NodeState) (result : Result Turn Want) → ((xs : List Item) → reads xs → rs xs) → ((xs : List Item) → writes xs → ws xs)
    → (reads [] → none → IsUnseen empty (turn_deed (actors.Receiver cable) s)) → (full → fu) → ReceivesTurn cable reads writes none full o n s result t → TakesOne cable rs ws empty fu o n s result t
turn_seen cable reads writes rs ws none full empty fu o n s t result r w k f h = record {
  kept = h.kept;
  spare = h.spare;
  turn = turn_widened reads writes rs ws none full (IsUnseen empty (turn_deed (actors.Receiver cable) s)) fu r w k f (actors.Receiver cable) o n (turn_deed (actors.Receiver cable) s items.Nothing) s result t h.turn;
}

-- an end that owes a frame offers it, whatever waits
pub owed_seen : (reads writes : List Item → Type 0) (full empty : Type 0) (o n : Offering) (e : ReceiverEnd) (owed : Owed) (s t : NodeState) (result : Result Turn Want) → MayTake e s → e.machine.owes ≡ Some owed → ReceivesTurn e.cable reads writes (Unit {0}) full o n s result t
    → TakesOne e.cable reads writes empty full o n s result t
owed_seen reads writes full empty o n e owed s t result may h z =
    turn_seen e.cable reads writes reads writes (Unit {0}) full empty full o n s t result (λ xs x. x) (λ xs x. x)
    (λ read u. Pushes (turned [] (Some (owed_frame (s.stamp + 1) owed)) (with_end (Receives (paid e)) s.own)) (owed_frame (s.stamp + 1) owed) refl (λ seen. owed_deed (s.stamp + 1) e owed (owed_frame (s.stamp + 1) owed) seen s may h refl))
    (λ x. x) z

-- nothing was done, and the end stands in its place
pub put_seen : (p t : NodeState) (e last : ReceiverEnd) (x : Want) (reads writes : List Item → Type 0) (empty full : Type 0) (o n : Offering) → MayTake e (whole e p) → last ≡ e → t ≡ whole last p → reads [] → OffersNone writes o n
    → TakesOne e.cable reads writes empty full o n (whole e p) (Err x) t
put_seen p t e last x reads writes empty full o n may is at read offers =
    let z : ReceivesTurn e.cable reads writes (Unit {0}) full o n (whole e p) (Err x) t = put_so p t e last x reads writes (Unit {0}) full o n may is at read offers in
    record { kept = z.kept; spare = z.spare; turn = z.turn }
