-- The last number that a manager gave to a connection, over what is its own.
use Rattle.std.proofs.Common.{ℕ, zero, suc, ◌≡◌, List, [], ◌∷◌, sym, subst, arith}
use Rattle.std.specs.Prelude.{Option, Some, None, ◌≤◌}
use Rattle.mq_codes.specs.declared.reason.Reason.{Reason}
use Rattle.mq_disk.specs.declared.cutter.Stop.{Stop}
use Rattle.mq_frame.specs.declared.frame.Seen.{Seen}
use Rattle.mq_calls.specs.declared.answers.Appl.{Appl}
use Rattle.mq_calls.specs.declared.answers.Answer.TheVariants as answers
use Rattle.mq_calls.specs.declared.choices.Choice.{Choice}
use Rattle.mq_calls.specs.declared.choices.Choice.TheVariants.{Runs, NoMemory, Stopped}
use Rattle.mq_history.specs.declared.acts.Acted.TheVariants as acted
use Rattle.mq_history.specs.declared.calls.Actor.{Actor}
use Rattle.mq_history.specs.declared.calls.Call.{Call}
use Rattle.mq_history.specs.declared.calls.Call.TheVariants as calls
use Rattle.mq_history.specs.declared.calls.Chance.{Chance}
use Rattle.mq_history.specs.declared.calls.Chance.TheVariants as chances
use Rattle.mq_history.specs.declared.calls.Reply.{Reply}
use Rattle.mq_history.specs.declared.calls.Reply.TheVariants as replies
use Rattle.mq_calls.specs.State.{Plain}
use Rattle.mq_calls.specs.State.Change.{Connect}
use Rattle.mq_calls.specs.Steps.{Part, do_part, refusal, refused_or, silent, stopped_at}
use Rattle.mq_calls.specs.Steps.Step.{Do}
use Rattle.mq_spec_manager.specs.Handles.{conn_tests, new_connection, new_hconn}
use Rattle.mq_spec_node.specs.Node.{Node, Own}
use Rattle.mq_spec_node.specs.Deeds.{CanCome, CanWant, Deed, Done, done, mqi_deed, wanted}
use Rattle.mq_spec_node.specs.Happens.{IsEvent, deed_of, event, remembering}
use Rattle.mq_spec_node.specs.Replays.{IsOwn}
use Rattle.mq_law_deeds.specs.Numbers.{EachNext, IsNext}
use Rattle.mq_law_deeds.proofs.Rising.{next_all, parts_rise}
use Rattle.mq_law_one.specs.Alone.{IsOwnCall}
use Rattle.mq_law_run.proofs.Halves.{own_elim}

same : (n : ℕ) → n ≤ n
same n = omega arith

on : (a b c : ℕ) → a ≤ b → b ≤ c → a ≤ c
on a b c h k = omega arith

-- a stopped write raises it too
pub stops_rise : (k : ℕ) (parts : List Part) (left : ℕ) (p : Plain) → p.numbers.connections ≤ (stopped_at k parts left p).numbers.connections
stops_rise k [] left p = same p.numbers.connections
stops_rise zero (part ∷ parts) left p = same p.numbers.connections
stops_rise (suc k) (part ∷ parts) left p = on p.numbers.connections (do_part part p).numbers.connections (stopped_at k parts left (do_part part p)).numbers.connections (parts_rise (part ∷ []) p) (stops_rise k parts left (do_part part p))

pub stopped_next : (call : Call) (by_ : Stop) (n k : ℕ) → n ≤ k → IsNext call (replies.Stopped by_) n k
stopped_next (calls.Mqconn qmgr appl) by_ n k le = le
stopped_next call by_ n k le = le

-- a call that wants memory
abbrev EachWanted : Call → Plain → Option Deed → Type 0
EachWanted call p None = Unit {0}
EachWanted call p (Some d) = CanWant d.wanting → IsNext call (wanted d.wanting d.reply) p.numbers.connections p.numbers.connections

wants : (qmgr : List ℕ) (appl : Appl) (own : Own) (p : Plain) (o : Option Reason) (parts : List Part)
    → EachWanted (calls.Mqconn qmgr appl) p (Some (mqi_deed replies.Connected own (refused_or o (Do (answers.Ok (new_hconn p)) parts))))
wants qmgr appl own p None parts = λ z. same p.numbers.connections
wants qmgr appl own p (Some reason) parts = λ z. absurd z

other : (call : Call) → ((reply : Reply) (n : ℕ) → n ≤ n → IsNext call reply n n) → (p : Plain) (o : Option Deed) → EachWanted call p o
other call f p None = tt
other call f p (Some d) = λ z. f (wanted d.wanting d.reply) p.numbers.connections (same p.numbers.connections)

wanted_all : (stamp : ℕ) (actor : Actor) (call : Call) (seen : Seen) (n : Node) → EachWanted call n.manager (deed_of stamp actor call seen n)
wanted_all stamp actor (calls.Mqconn qmgr appl) seen n = wants qmgr appl n.own n.manager (refusal (conn_tests qmgr n.manager)) (silent (Connect (new_connection appl n.manager) ∷ []) ∷ [])
wanted_all stamp actor call seen n = other call (λ r a le. le) n.manager (deed_of stamp actor call seen n)

-- so it is with each choice of a deed
pub record IsRaised (call : Call) (chance : Chance) (d : Done) (n : ℕ) : Type 0 where
  pub choice : Choice
  pub is : chance ≡ chances.Call choice
  pub next : IsNext call d.reply n d.next.manager.numbers.connections
  pub rises : n ≤ d.next.manager.numbers.connections

pub raised_by : (stamp : ℕ) (actor : Actor) (call : Call) (chance : Chance) (seen : Seen) (n : Node) (choice : Choice) (d : Deed) → deed_of stamp actor call seen n ≡ Some d → chance ≡ chances.Call choice → CanCome d choice n
    → IsRaised call chance (done d choice n) n.manager.numbers.connections
raised_by stamp actor call chance seen n Runs d e is can = record { choice = Runs; is = is; next = subst (EachNext call n.manager) e (next_all stamp actor call seen n); rises = parts_rise d.parts n.manager }
raised_by stamp actor call chance seen n NoMemory d e is can = record { choice = NoMemory; is = is; next = subst (EachWanted call n.manager) e (wanted_all stamp actor call seen n) can; rises = same n.manager.numbers.connections }
raised_by stamp actor call chance seen n (Stopped by_ k left) d e is can = record {
  choice = Stopped by_ k left;
  is = is;
  next = stopped_next call by_ n.manager.numbers.connections (stopped_at k d.parts left n.manager).numbers.connections (stops_rise k d.parts left n.manager);
  rises = stops_rise k d.parts left n.manager;
}

remembers : (actor : Actor) (call : Call) (chance : Chance) (d : Done) (n : ℕ) → IsRaised call chance d n → IsRaised call chance (remembering actor call d) n
remembers actor call chance d n r = record { choice = r.choice; is = r.is; next = r.next; rises = r.rises }

pub own_raised : (stamp : ℕ) (actor : Actor) (call : Call) (chance : Chance) (seen : Seen) (n : Node) → IsOwnCall actor call → IsEvent stamp actor call chance seen n → IsOwn chance
    → IsRaised call chance (event stamp actor call chance seen n) n.manager.numbers.connections
own_raised stamp actor call chance seen n is e own = own_elim (λ (d : Done). IsRaised call chance d n.manager.numbers.connections) stamp actor call chance seen n is e own
    (λ o choice d f g can. remembers actor call chance (done d choice n) n.manager.numbers.connections (raised_by stamp actor call chance seen n choice d f g can))
    (λ k f g. record { choice = Runs; is = g; next = subst (λ (c : Call). IsNext c (replies.Acted acted.Done) n.manager.numbers.connections n.manager.numbers.connections) (sym f) (same n.manager.numbers.connections); rises = same n.manager.numbers.connections })
    (λ by f g. record { choice = Runs; is = g; next = subst (λ (c : Call). IsNext c (replies.Acted acted.Done) n.manager.numbers.connections n.manager.numbers.connections) (sym f) (same n.manager.numbers.connections); rises = same n.manager.numbers.connections })
