-- Restarts, computed: of a manager that runs, and of one whose receiver's commit was cut.
use Rattle.std.specs.Prelude.{◌≡◌, ℕ, Bool, true, false, List, [], ◌∷◌, None, map, refl, codes}
use Rattle.mq_history.specs.from_disk.StopVariants as stops
use Rattle.mq_history.specs.from_frame.SeenVariants as items
use Rattle.mq_history.specs.from_message.{Md, Message}
use Rattle.mq_history.specs.from_calls.ChoiceVariants.{Stopped}
use Rattle.mq_history.specs.from_calls.{Hconn, Return}
use Rattle.mq_history.specs.from_calls.ReturnVariants.{Comes, Fails}
use Rattle.mq_history.specs.from_calls.RestartFaultVariants as faults
use Rattle.mq_history.specs.declared.acts.Act.TheVariants as acts
use Rattle.mq_history.specs.declared.acts.Acted.TheVariants as acted
use Rattle.mq_history.specs.declared.calls.Actor.TheVariants as actors
use Rattle.mq_history.specs.declared.calls.Call.TheVariants as calls
use Rattle.mq_history.specs.declared.calls.Chance.TheVariants as chances
use Rattle.mq_history.specs.declared.calls.Reply.TheVariants as replies
use Rattle.mq_history.specs.declared.calls.Call.{Call}
use Rattle.mq_spec_manager.proofs.Script.{script_appl, connection, handle, plain_md, persistent_md, ident_numbers}
use Rattle.mq_history.specs.from_calls.State.{Queue}
use Rattle.mq_history.specs.from_calls.Reads.{stored}
use Rattle.mq_history.specs.from_calls.Images.{lasting}
use Rattle.mq_history.specs.from_queue.{Row}
use Rattle.std.proofs.Common.{arith}
use Rattle.mq_spec_node.specs.Node.{Node, ChannelEnd}
use Rattle.mq_spec_node.specs.Node.ChannelEnd.{Sends, Receives}
use Rattle.mq_spec_node.specs.Deeds.{Done}
use Rattle.mq_spec_node.specs.Happens.{event, IsEvent, IsForeign}
use Rattle.mq_spec_node.proofs.Pair.{Pair, paris, at_paris, runs, front, rounds, sender_turn}
use Rattle.mq_spec_node.proofs.Turns.{script, begun, idents}

abbrev returns : Return → Node → Done
returns choice n = event 1 actors.Operator (calls.Act acts.Restart) (chances.Restart choice) items.Nothing n

abbrev CanReturnAs : Return → Node → Type 0
CanReturnAs choice n = IsEvent 1 actors.Operator (calls.Act acts.Restart) (chances.Restart choice) items.Nothing n

-- A manager that runs is not restarted: that is refused, nothing changes, and nothing else can come.
abbrev running : Node
running = paris at_paris []

up : CanReturnAs (Fails faults.Up false 0) running
up = refl

refused : (returns (Fails faults.Up false 0) running).reply ≡ replies.Acted (acted.Start faults.Up)
refused = refl

unchanged : (returns (Fails faults.Up false 0) running).next ≡ running
unchanged = refl

never_comes : (kept : Bool) (started : ℕ) → CanReturnAs (Comes kept started) running → ⊥
never_comes kept started h = absurd (cc h)

-- One persistent message is at PARIS, and its END waits; the commit is cut in its first device call. The end keeps the message until
-- the restart, which resets it, whether it finds the write or not.
abbrev put : Call
put = calls.Mqput (connection 1) (handle 1) persistent_md (codes "HELLO") false

abbrev waiting : Pair
waiting = sender_turn (rounds 6 (script put (begun 1)))

abbrev armed : Node
armed = (event 8 actors.Operator (calls.Act (acts.Cut 1)) runs items.Nothing waiting.receiver).next

abbrev cut_commit : Done
cut_commit = event 9 (actors.Receiver 0) calls.Turn (chances.Call (Stopped stops.Cut 0 0)) (front waiting.forth) armed

abbrev kept_at : List ChannelEnd → List (List ℕ)
kept_at [] = []
kept_at (Sends e ∷ es) = kept_at es
kept_at (Receives e ∷ es) = map (λ (m : Message). ident_numbers m.ident) e.kept

cut_it : cut_commit.reply ≡ replies.Stopped stops.Cut
cut_it = refl

frozen : kept_at cut_commit.next.own.ends ≡ (1 ∷ 1 ∷ 1 ∷ []) ∷ []
frozen = refl

reset : kept_at (returns (Comes false 0) cut_commit.next).next.own.ends ≡ []
reset = refl

lost : idents (codes "Q1") (returns (Comes false 0) cut_commit.next).next ≡ []
lost = refl

found : idents (codes "Q1") (returns (Comes true 0) cut_commit.next).next ≡ (1 ∷ 1 ∷ 1 ∷ []) ∷ []
found = refl

-- PARIS has one nonpersistent message and then a persistent one; after a stop and a restart the row that lasts is its
-- first, and so many have arrived.
abbrev here : Call → Node → Node
here call n = (event 1 (actors.Script 0) call runs items.Nothing n).next

abbrev hc : Hconn
hc = record { manager = 2; incarnation = 1; number = 1 }

abbrev put_here : Md → Node → Node
put_here md n = here (calls.Mqput1 hc (codes "Q1") [] md (codes "HELLO") false) n

abbrev two : Node
two = put_here persistent_md (put_here plain_md (here (calls.Mqconn [] script_appl) running))

abbrev stopped : Node
stopped = (event 2 actors.Operator (calls.Act acts.Crash) runs items.Nothing two).next

abbrev arrivals : Queue → List ℕ
arrivals q = q.arrivals ∷ map (λ (row : Row). row.place.arrival) q.rows

both_there : arrivals (stored (codes "Q1") two.manager) ≡ 2 ∷ 1 ∷ 2 ∷ []
both_there = refl

numbered_anew : arrivals (stored (codes "Q1") (returns (Comes false 0) stopped).next.manager) ≡ 1 ∷ 1 ∷ []
numbered_anew = refl

-- what that log has is not foreign: the same image and the same length
expected_is_not_foreign : IsForeign (lasting stopped.manager) stopped.manager.log.length None 0 stopped.manager → ⊥
expected_is_not_foreign h = h false 0 tt (omega arith) (record { read = refl; long = refl })
