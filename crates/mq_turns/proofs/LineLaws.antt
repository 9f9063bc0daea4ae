-- A sender's turn, line by line, and by what is seen.
use Rattle.std.proofs.Common.{◌≡◌, ℕ, ◌+◌, refl, sym, ap, subst, ◌∙◌, List, [], false, arith}
use Rattle.std.specs.Prelude.{Result, Ok}
use Rattle.mq_base.specs.declared.want.NoMemory.{NoMemory as Want}
use Rattle.mq_cable.specs.declared.item.Item.{Item}
use Rattle.mq_cable.specs.Offers.{Offering}
use Rattle.mq_frame.specs.Sight.{waits}
use Rattle.mq_frame.specs.declared.frame.Seen.{Seen}
use Rattle.mq_frame.specs.declared.frame.Seen.TheVariants as items
use Rattle.mq_sync.specs.declared.data.Stock.{Stock}
use Rattle.mq_sender.specs.declared.state.Sender.{Sender}
use Rattle.mq_sender.specs.declared.turns.SenderDoes.{SenderDoes}
use Rattle.mq_sender.specs.declared.turns.SenderDoes.TheVariants as does
use Rattle.mq_sender.specs.Table.{sender_next}
use Rattle.mq_spec_manager.specs.Agents.{stock}
use Rattle.mq_spec_node.specs.Words.{SenderEnd}
use Rattle.mq_turn_parts.specs.from_events.States.{NodeState, node_in}
use Rattle.mq_turn_parts.specs.declared.telling.Turn.{Turn}
use Rattle.mq_turn_parts.specs.declared.telling.Turn.TheVariants as turns
use Rattle.mq_turn_parts.specs.Wired.{Idles}
use Rattle.mq_turn_parts.specs.Acting.{Acts, SendsTurn}
use Rattle.mq_turns.specs.Sends.{IsOwn}
use Rattle.mq_turns.proofs.TableLaws.{own_is}
use Rattle.mq_turns.proofs.SendLaws.{turn_is}
use Rattle.mq_turn_parts.proofs.WireLaws.{sends_widened}

-- where nothing waits, the line is one of the end's own
pub own_next : (m : Sender) (a : Stock) (d : SenderDoes) → d ≡ sender_next m items.Nothing a → IsOwn d
own_next m a d e = subst (λ (x : SenderDoes). IsOwn x) (sym e) (own_is m a)

-- whatever name is given to what is seen
pub seen_next : (m : Sender) (a : Stock) (d : SenderDoes) (seen : Seen) → d ≡ sender_next m items.Nothing a → seen ≡ items.Nothing → d ≡ sender_next m seen a
seen_next m a d seen e n = e ∙ ap (λ (x : Seen). sender_next m x a) (sym n)

pub nothing_seen : (seen : Seen) → waits seen ≡ false → seen ≡ items.Nothing
nothing_seen items.Nothing e = refl
nothing_seen items.Spoiled e = absurd cc
nothing_seen (items.Frame f) e = absurd cc

module _ (cable : ℕ) (reads writes : List Item → Type 0) (full : Type 0) (s t : NodeState) (result : Result Turn Want) where
  -- a turn that offers nothing is one that may be refused
  pub answered_so : (none : Type 0) (o : Offering) → SendsTurn cable reads writes none ⊥ o o s result t → SendsTurn cable reads writes none full o o s result t
  answered_so none o h = sends_widened reads writes reads writes none ⊥ none full (λ xs x. x) (λ xs x. x) (λ r k. k) (λ x. absurd x) cable o o s result t h

  pub lined_so : (none : Type 0) (o : Offering) → SendsTurn cable reads writes none ⊥ o o s result t → SendsTurn cable reads writes (Unit {0}) full o o s result t
  lined_so none o h = sends_widened reads writes reads writes none ⊥ (Unit {0}) full (λ xs x. x) (λ xs x. x) (λ r k. tt) (λ x. absurd x) cable o o s result t h

  -- and nothing waited, where that is known
  pub owned_so : (none : Type 0) (o n : Offering) → none → SendsTurn cable reads writes (Unit {0}) full o n s result t → SendsTurn cable reads writes none full o n s result t
  owned_so none o n k h = sends_widened reads writes reads writes (Unit {0}) full none full (λ xs x. x) (λ xs x. x) (λ r u. k) (λ x. x) cable o n s result t h

-- a line by which nothing is done
pub still_line : (s : NodeState) (e : SenderEnd) (reads writes : List Item → Type 0) (full : Type 0) (o : Offering) → Acts e s → does.Still ≡ sender_next e.machine items.Nothing (stock e.channel s.manager.plain) → reads [] → writes []
    → SendsTurn e.cable reads writes (Unit {0}) full o o s (Ok turns.Still) s
still_line s e reads writes full o acts next read written = record {
  kept = acts.kept;
  spare = refl;
  turn = (
    record { stays = record { same = refl; marks = refl; faults = omega arith }; read = read; offers = record { same = refl; written = written } },
    Idles tt (turn_is (s.stamp + 1) e.cable e does.Still items.Nothing (node_in s) acts.up acts.there next),
  );
}
