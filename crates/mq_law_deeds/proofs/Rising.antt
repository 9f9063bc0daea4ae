-- The last number that a manager gave to a connection rises, and an accepted MQCONN has the next one.
use Rattle.std.proofs.Common.{ℕ, ◌≤◌, ◌+◌, true, false, List, [], ◌∷◌, refl, arith}
use Rattle.std.specs.Prelude.{Option, Some, None}
use Rattle.mq_codes.specs.declared.reason.Reason.{Reason}
use Rattle.mq_calls.specs.declared.answers.Answer.TheVariants as answers
use Rattle.mq_calls.specs.declared.answers.Appl.{Appl}
use Rattle.mq_calls.specs.declared.records.LogRecord.{LogRecord}
use Rattle.mq_frame.specs.declared.frame.Seen.{Seen}
use Rattle.mq_objects.specs.Names.{local_of}
use Rattle.mq_history.specs.declared.calls.Actor.{Actor}
use Rattle.mq_history.specs.declared.calls.Call.{Call}
use Rattle.mq_history.specs.declared.calls.Call.TheVariants as calls
use Rattle.mq_history.specs.declared.calls.Reply.{Reply}
use Rattle.mq_history.specs.declared.calls.Reply.TheVariants as replies
use Rattle.mq_calls.specs.State.{Change, Plain}
use Rattle.mq_calls.specs.State.Change.{Try, Connect, SetBound}
use Rattle.mq_calls.specs.Changes.{apply, apply_all, try_if}
use Rattle.mq_calls.specs.Condition.{condition}
use Rattle.mq_calls.specs.Steps.{Part, do_all, do_part, logged, refusal, refused_or, silent}
use Rattle.mq_calls.specs.Steps.Step.{Do}
use Rattle.mq_spec_manager.specs.Handles.{conn_tests, new_connection, new_hconn}
use Rattle.mq_spec_node.specs.Node.{Node, Own}
use Rattle.mq_spec_node.specs.Deeds.{Deed, mqi_deed}
use Rattle.mq_spec_node.specs.Happens.{deed_of}
use Rattle.mq_law_manager.proofs.Lists.{bool_case}
use Rattle.mq_law_deeds.specs.Numbers.{EachNext, IsNext}

same : (n : ℕ) → n ≤ n
same n = omega arith

one_more : (n : ℕ) → n ≤ n + 1
one_more n = omega arith

on : (a b c : ℕ) → a ≤ b → b ≤ c → a ≤ c
on a b c h k = omega arith

change_rises : (c : Change) (p : Plain) → p.numbers.connections ≤ (apply c p).numbers.connections
change_rises (Connect c) p = one_more p.numbers.connections
change_rises (Try name priority) p = bool_case (condition (local_of name p.definitions) priority p) (λ t. p.numbers.connections ≤ (try_if t name p).numbers.connections) (λ e. same p.numbers.connections) (λ e. same p.numbers.connections)
change_rises (SetBound channel true) p = same p.numbers.connections
change_rises (SetBound channel false) p = same p.numbers.connections
change_rises c p = same p.numbers.connections

changes_rise : (cs : List Change) (p : Plain) → p.numbers.connections ≤ (apply_all cs p).numbers.connections
changes_rise [] p = same p.numbers.connections
changes_rise (c ∷ cs) p = on p.numbers.connections (apply c p).numbers.connections (apply_all cs (apply c p)).numbers.connections (change_rises c p) (changes_rise cs (apply c p))

part_rises : (part : Part) (p : Plain) → p.numbers.connections ≤ (do_part part p).numbers.connections
part_rises part p = on p.numbers.connections (logged part.forced p).numbers.connections (do_part part p).numbers.connections (written part.forced) (changes_rise part.changes (logged part.forced p))
  where
    written : (o : Option LogRecord) → p.numbers.connections ≤ (logged o p).numbers.connections
    written None = same p.numbers.connections
    written (Some r) = same p.numbers.connections

pub parts_rise : (parts : List Part) (p : Plain) → p.numbers.connections ≤ (do_all parts p).numbers.connections
parts_rise [] p = same p.numbers.connections
parts_rise (part ∷ parts) p = on p.numbers.connections (do_part part p).numbers.connections (do_all parts (do_part part p)).numbers.connections (part_rises part p) (parts_rise parts (do_part part p))

-- deeds of all calls but MQCONN, and of that

other : (call : Call) → ((reply : Reply) (n k : ℕ) → n ≤ k → IsNext call reply n k) → (p : Plain) (o : Option Deed) → EachNext call p o
other call f p None = tt
other call f p (Some d) = f d.reply p.numbers.connections (do_all d.parts p).numbers.connections (parts_rise d.parts p)

connects : (qmgr : List ℕ) (appl : Appl) (own : Own) (p : Plain) (o : Option Reason) → EachNext (calls.Mqconn qmgr appl) p (Some (mqi_deed replies.Connected own (refused_or o (Do (answers.Ok (new_hconn p)) (silent (Connect (new_connection appl p) ∷ []) ∷ [])))))
connects qmgr appl own p None = (refl, same (p.numbers.connections + 1))
connects qmgr appl own p (Some reason) = same p.numbers.connections

pub next_all : (stamp : ℕ) (actor : Actor) (call : Call) (seen : Seen) (n : Node) → EachNext call n.manager (deed_of stamp actor call seen n)
next_all stamp actor (calls.Mqconn qmgr appl) seen n = connects qmgr appl n.own n.manager (refusal (conn_tests qmgr n.manager))
next_all stamp actor call seen n = other call (λ r a b le. le) n.manager (deed_of stamp actor call seen n)
