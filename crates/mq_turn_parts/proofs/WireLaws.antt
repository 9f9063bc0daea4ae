-- What a turn comes to over a wire, seen from before its first look.
use Rattle.std.proofs.Common.{◌≡◌, ℕ, ◌≤◌, ◌^◌, List, []}
use Rattle.std.specs.Prelude.{Option, Some, None, Result, Ok, Err}
use Rattle.mq_base.specs.declared.want.NoMemory.{NoMemory as Want}
use Rattle.mq_cable.specs.declared.item.Item.{Item}
use Rattle.mq_cable.specs.Offers.{Offering}
use Rattle.mq_frame.specs.declared.frame.Seen.{Seen}
use Rattle.mq_frame.specs.declared.frame.Seen.TheVariants as items
use Rattle.mq_spec_node.specs.Terms.{Actor, Frame}
use Rattle.mq_spec_node.specs.Words.{Deed}
use Rattle.mq_wires.specs.Wires.{OffersNone, Sees}
use Rattle.mq_events.specs.States.{NodeState}
use Rattle.mq_turn_parts.specs.declared.telling.Turn.{Turn}
use Rattle.mq_turn_parts.specs.declared.telling.Turn.TheVariants as turns
use Rattle.mq_history.specs.declared.calls.Actor.TheVariants as actors
use Rattle.mq_turn_parts.specs.Wired.{Idles, IsStill, Offered, Popped, Refuses, TurnIs, Untaken}
use Rattle.mq_turn_parts.specs.Acting.{SendsTurn}
use Rattle.mq_turn_parts.specs.OverWire.{HasSeen}

-- what is seen, whatever is known where nothing is
sees_all : (front : Option Item) (empty : Type 0) (seen : Seen) (stamp : ℕ) → Sees front empty seen stamp → Sees front (Unit {0}) seen stamp
sees_all front empty items.Nothing stamp s = (tt, s.1)
sees_all front empty items.Spoiled stamp s = s
sees_all front empty (items.Frame f) stamp s = s

pub has_seen : (front : Option Item) (empty : Type 0) (seen : Seen) (stamp : ℕ) → Sees front empty seen stamp → stamp ≤ 2 ^ 60 → HasSeen front seen stamp
has_seen front empty seen stamp s low = record { sees = sees_all front empty seen stamp s; low = low }

pub sees_empty : (front : Option Item) (empty : Type 0) (seen : Seen) (stamp : ℕ) → Sees front empty seen stamp → seen ≡ items.Nothing → empty
sees_empty front empty items.Nothing stamp s e = s.0
sees_empty front empty items.Spoiled stamp s e = absurd cc
sees_empty front empty (items.Frame f) stamp s e = absurd cc

module _ (reads writes rs ws : List Item → Type 0) (none full no fu : Type 0) (r : (xs : List Item) → reads xs → rs xs) (w : (xs : List Item) → writes xs → ws xs) (k : reads [] → none → no) (f : full → fu) where
  wide_popped : (last : ℕ) (seen : Seen) (stamp : ℕ) → Popped reads none last seen stamp → Popped rs no last seen stamp
  wide_popped last items.Nothing stamp p = (r [] p.0, k p.0 p.1)
  wide_popped last items.Spoiled stamp p = record { item = p.item; read = r _ p.read; shows = p.shows; stamp_is = p.stamp_is }
  wide_popped last (items.Frame g) stamp p = record { item = p.item; read = r _ p.read; shows = p.shows; stamp_is = p.stamp_is }

  wide_none : (o n : Offering) → OffersNone writes o n → OffersNone ws o n
  wide_none o n x = record { same = x.same; written = w [] x.written }

  wide_offered : (o n : Offering) (g : Option Frame) (extras : ℕ) → Offered writes full o g extras n → Offered ws fu o g extras n
  wide_offered o n None extras x = wide_none o n x
  wide_offered o n (Some g) extras x = (
    record {
      offered = record {
        pushed = λ offered h. w _ (x.0.offered.pushed offered h);
        taken = x.0.offered.taken;
        most = x.0.offered.most;
        fewer = λ offered h l. f (x.0.offered.fewer offered h l);
        faults = x.0.offered.faults;
      };
      shows = x.0.shows;
    },
    x.1,
  )

  wide_still : (o : Offering) (d : Option Deed) → reads [] → IsStill none full o d → IsStill no fu o d
  wide_still o d read (Idles n e) = Idles (k read n) e
  wide_still o d read (Refuses x g n e p q) = Refuses x g (k read n) e p (record { now = q.now; was = f q.was })

  wide_untaken : (o n : Offering) (old new : NodeState) → Untaken reads writes o n old new → Untaken rs ws o n old new
  wide_untaken o n old new u = record { stays = u.stays; read = r [] u.read; offers = wide_none o n u.offers }

  pub turn_widened : (who : Actor) (o n : Offering) (d : Option Deed) (old : NodeState) (result : Result Turn Want) (new : NodeState) → TurnIs who reads writes none full o n d old result new → TurnIs who rs ws no fu o n d old result new
  turn_widened who o n d old (Ok turns.Changed) new t = record { entry = t.entry; adds = t.adds; popped = wide_popped old.stamp t.entry.effect.popped t.entry.stamp t.popped; offered = wide_offered o n t.entry.effect.pushed t.entry.effect.extras t.offered }
  turn_widened who o n d old (Ok turns.Still) new t = (wide_untaken o n old new t.0, wide_still o d t.0.read t.1)
  turn_widened who o n d old (Err e) new t = wide_untaken o n old new t

  pub sends_widened : (cable : ℕ) (o n : Offering) (old : NodeState) (result : Result Turn Want) (new : NodeState) → SendsTurn cable reads writes none full o n old result new → SendsTurn cable rs ws no fu o n old result new
  sends_widened cable o n old result new t = record { kept = t.kept; spare = t.spare; turn = turn_widened (actors.Sender cable) o n _ old result new t.turn }
