-- The entry of a command: the history with it replays, and leads to the node behind it.
use Rattle.std.proofs.Common.{◌≡◌, ℕ, ◌+◌, ◌^◌, ◌<◌, ◌≤◌, refl, sym, ap, subst, ◌∙◌, List, [], ◌∷◌, Bool, true, false, map, arith}
use Rattle.std.specs.Prelude.{Option, None, Some, Result, Ok, Err, ◌==◌, if◌then◌else◌}
use Rattle.mq_base.specs.declared.want.NoMemory.{NoMemory as Want}
use Rattle.mq_calls.specs.declared.choices.Choice.{Choice}
use Rattle.mq_calls.specs.declared.choices.Choice.TheVariants.{Runs, NoMemory, Stopped}
use Rattle.mq_disk.specs.declared.cutter.Stop.{Stop}
use Rattle.mq_history.specs.declared.calls.Actor.TheVariants as actors
use Rattle.mq_history.specs.declared.calls.Reply.TheVariants as replies
use Rattle.mq_turn_parts.specs.from_law_counts.Counts.{Climbs}
use Rattle.mq_spec_node.specs.Terms.{Acted, Actor, Call, Did, Entry, Op, OpRefusal, Part, Plain, Reply}
use Rattle.mq_spec_node.specs.Words.{Deed, Monitor, Node, Own, Tells, answer_of, done, done_by, node_of, operate, remembered}
use Rattle.mq_turn_parts.specs.from_events.Counts.{IsNode, kept_total, waiting_total}
use Rattle.mq_turn_parts.specs.from_events.Events.{ActsAs, MayAct, Stays}
use Rattle.mq_turn_parts.specs.from_events.States.{IsKept, IsServed, NodeState, entry_of, node_in, told, value_of}
use Rattle.mq_turn_parts.specs.from_events.Disks.{RoseBy, RoseWhere}
use Rattle.mq_turn_parts.proofs.from_events.CallLaws.{rose_by, silent}
use Rattle.mq_turn_parts.proofs.from_events.CountLaws.{climbs_counted, less_aside, long_more}
use Rattle.mq_turn_parts.proofs.from_events.EntryLaws.{entry_kept}
use Rattle.mq_turn_parts.proofs.from_events.RiseLaws.{risen_later, risen_with}
use Rattle.mq_turn_parts.specs.Turns.{IsMade, delta_by, own_by, plain_by}
use Rattle.mq_turn_parts.proofs.QuietLaws.{BringNone, none_climb}
use Rattle.mq_turn_parts.proofs.DueLaws.{may_low}
use Rattle.mq_turn_parts.proofs.TurnLaws.{delta_is, next_is, can_come}
use Rattle.mq_operate.specs.declared.working.Worked.{Worked}
use Rattle.mq_operate.specs.Works.{IsUnworked, IsWorked, acted_by, answer_by, call_of, outcome_by, reply_by}

-- A monitor remembers nothing of it.
same_monitors : (number : ℕ) (ms : List Monitor) → map (λ (m : Monitor). if m.number == number then m else m) ms ≡ ms
same_monitors number [] = refl
same_monitors number (m ∷ ms) = both (m.number == number) (same_monitors number ms)
  where
    both : (b : Bool) → map (λ (x : Monitor). if x.number == number then x else x) ms ≡ ms → (if b then m else m) ∷ map (λ (x : Monitor). if x.number == number then x else x) ms ≡ m ∷ ms
    both true e = ap (λ (xs : List Monitor). m ∷ xs) e
    both false e = ap (λ (xs : List Monitor). m ∷ xs) e

acted_quiet : (actor : Actor) (op : Op) (a : Acted) (own : Own) → remembered actor (call_of op) (replies.Acted a) own ≡ own
acted_quiet (actors.Script n) op a own = refl
acted_quiet (actors.Sender n) op a own = refl
acted_quiet (actors.Receiver n) op a own = refl
acted_quiet (actors.Handler n) op a own = refl
acted_quiet (actors.Monitor n) op a own = ap (λ (ms : List Monitor). record own { monitors = ms }) (same_monitors n own.monitors)
acted_quiet actors.Operator op a own = refl
acted_quiet actors.Clock op a own = refl

stopped_quiet : (actor : Actor) (op : Op) (by : Stop) (own : Own) → remembered actor (call_of op) (replies.Stopped by) own ≡ own
stopped_quiet (actors.Script n) op by own = refl
stopped_quiet (actors.Sender n) op by own = refl
stopped_quiet (actors.Receiver n) op by own = refl
stopped_quiet (actors.Handler n) op by own = refl
stopped_quiet (actors.Monitor n) op by own = ap (λ (ms : List Monitor). record own { monitors = ms }) (same_monitors n own.monitors)
stopped_quiet actors.Operator op by own = refl
stopped_quiet actors.Clock op by own = refl

done_quiet : (actor : Actor) (op : Op) (d : Deed) (refusal : Option OpRefusal) (choice : Choice) (n : Node) (own : Own) → IsMade choice → d.reply ≡ replies.Acted (acted_by refusal) → remembered actor (call_of op) (done d choice n).reply own ≡ own
done_quiet actor op d refusal Runs n own m r = subst (λ (x : Reply). remembered actor (call_of op) x own ≡ own) (sym r) (acted_quiet actor op (acted_by refusal) own)
done_quiet actor op d refusal NoMemory n own m r = absurd m
done_quiet actor op d refusal (Stopped by part left) n own m r = stopped_quiet actor op by own

-- what it comes to, field by field
reply_is : (d : Deed) (refusal : Option OpRefusal) (choice : Choice) (n : Node) → IsMade choice → d.reply ≡ replies.Acted (acted_by refusal) → reply_by choice refusal ≡ (done d choice n).reply
reply_is d refusal Runs n m r = sym r
reply_is d refusal NoMemory n m r = absurd m
reply_is d refusal (Stopped by part left) n m r = refl

answer_rose : (refusal : Option OpRefusal) (choice : Choice) (before now : ℕ) → RoseWhere choice before now → RoseBy (reply_by choice refusal) before now
answer_rose None Runs before now rose = silent (replies.Acted (acted_by None)) (replies.Acted (acted_by None)) before now refl refl
answer_rose (Some reason) Runs before now rose = silent (replies.Acted (acted_by (Some reason))) (replies.Acted (acted_by (Some reason))) before now refl refl
answer_rose None NoMemory before now rose = silent (replies.Acted (acted_by None)) (replies.Acted (acted_by None)) before now refl refl
answer_rose (Some reason) NoMemory before now rose = silent (replies.Acted (acted_by (Some reason))) (replies.Acted (acted_by (Some reason))) before now refl refl
answer_rose refusal (Stopped by part left) before now rose = rose_by by before now rose

pushed_is : (d : Deed) (choice : Choice) (n : Node) → d.pushed ≡ None → None ≡ (done d choice n).pushed
pushed_is d Runs n e = sym e
pushed_is d NoMemory n e = refl
pushed_is d (Stopped by part left) n e = refl

received_is : (d : Deed) (choice : Choice) (n : Node) → IsMade choice → d.received ≡ [] → [] ≡ (done d choice n).received
received_is d Runs n m e = sym e
received_is d NoMemory n m e = absurd m
received_is d (Stopped by part left) n m e = sym e

climbs_by : (parts : List Part) (choice : Choice) (p : Plain) → IsMade choice → BringNone parts → Climbs 0 p (plain_by choice parts p)
climbs_by parts Runs p m b = (none_climb parts p b).all
climbs_by parts NoMemory p m b = absurd m
climbs_by parts (Stopped by part left) p m b = (none_climb parts p b).stopped part left

le_self : (n : ℕ) → n ≤ n
le_self n = omega arith

total_by : (choice : Choice) (delta : List Did) (behind before : Own) → kept_total behind ≤ kept_total before → kept_total (own_by choice delta behind before) ≤ kept_total before
total_by Runs delta behind before le = le
total_by NoMemory delta behind before le = le_self (kept_total before)
total_by (Stopped by n left) delta behind before le = le_self (kept_total before)

climbs_on : (a b : ℕ) → a ≤ b → a + 0 ≤ b + 1024
climbs_on a b le = omega (arith, le)

waits_by : (choice : Choice) (delta : List Did) (behind before : Own) → waiting_total behind ≤ waiting_total before → waiting_total (own_by choice delta behind before) ≤ waiting_total before
waits_by Runs delta behind before le = le
waits_by NoMemory delta behind before le = le_self (waiting_total before)
waits_by (Stopped by n left) delta behind before le = le_self (waiting_total before)

answer_is : (op : Op) (refusal : Option OpRefusal) (choice : Choice) → answer_of (call_of op) (reply_by choice refusal) ≡ replies.Acted (answer_by choice refusal)
answer_is op refusal Runs = refl
answer_is op refusal NoMemory = refl
answer_is op refusal (Stopped by n left) = refl

module _ (s a t : NodeState) (actor : Actor) (op : Op) (w : Worked) (k : IsWorked (operate op (node_in s)) w.refusal w.told.choice w.told.delta s a) (z : t ≡ told actor (call_of op) (outcome_by w) a) where
  abbrev d : Deed
  d = operate op (node_in s)

  abbrev choice : Choice
  choice = w.told.choice

  abbrev own : Own
  own = own_by choice w.told.delta d.own s.own

  abbrev it : Entry
  it = entry_of (s.stamp + 1) actor (call_of op) (outcome_by w)

  abbrev behind : NodeState
  behind = told actor (call_of op) (outcome_by w) (record s { manager = a.manager; own = own })

  t_is : t ≡ behind
  t_is = z ∙ ap (told actor (call_of op) (outcome_by w)) k.state

  tells : Tells (node_in s) s.stamp it
  tells = record {
    stamp = refl;
    event = can_come d choice (node_in s) k.made.made k.made.can;
    reply = reply_is d w.refusal choice (node_in s) k.made.made k.reply;
    delta = k.made.told ∙ delta_is d choice (node_in s);
    pushed = pushed_is d choice (node_in s) k.pushed;
    received = received_is d choice (node_in s) k.made.made k.received;
    popped = tt;
    extras = refl;
  }

  next : node_in behind ≡ (done_by it (node_in s)).next
  next = sym (
      ap (λ (o : Own). node_of (done d choice (node_in s)).next.manager o) (done_quiet actor op d w.refusal choice (node_in s) (done d choice (node_in s)).next.own k.made.made k.reply)
      ∙ next_is d choice (node_in s) k.made.made
      ∙ ap (λ (p : Plain). node_of p (own_by choice (delta_by choice d.parts) d.own s.own)) (sym k.made.plain)
      ∙ ap (λ (x : List Did). node_of a.manager.plain (own_by choice x d.own s.own)) (sym k.made.told))

  behind_kept : IsKept s → IsServed s → IsKept behind
  behind_kept kept served = entry_kept s behind it kept served tells refl next

  pub told_node : IsNode s → IsServed s → IsNode t
  told_node n served = subst IsNode (sym t_is) (record {
    kept = behind_kept n.kept served;
    counted = climbs_counted 0 s behind n.counted refl (long_more s.history.entries it)
        (subst (λ (p : Plain). Climbs 0 s.manager.plain p) (sym k.made.plain) (climbs_by d.parts choice s.manager.plain k.made.made k.brings))
        (climbs_on (kept_total own) (kept_total s.own) (total_by choice w.told.delta d.own s.own k.total));
    risen = risen_with s.history.entries it s.manager.faults a.manager.faults n.risen k.made.later (answer_rose w.refusal choice s.manager.faults a.manager.faults k.made.rose);
    aside = less_aside s behind n.aside refl (waits_by choice w.told.delta d.own s.own k.waits);
  })

  pub told_did : (b : Acted) → b ≡ answer_by choice w.refusal → ActsAs actor (call_of op) s (Ok b) t
  told_did b is =
      let A : NodeState → Type 0 = λ x. ActsAs actor (call_of op) s (Ok b) x in
      subst A (sym t_is) (it, record { grows = record { given = refl; history = refl }; actor = refl; call = refl; marks = refl; faults = k.made.later; rose = answer_rose w.refusal choice s.manager.faults a.manager.faults k.made.rose }, answer_is op w.refusal choice ∙ ap (λ (x : Acted). replies.Acted x) (sym is))

-- There was no memory.
pub unworked_stays : (s a : NodeState) → IsUnworked s a → Stays s a
unworked_stays s a u =
    let S : NodeState → Type 0 = λ x. Stays s x in
    subst S (sym u.state) (record { same = ap (λ (p : Plain). value_of (record s { manager = record a.manager { plain = p } })) u.was.plain; marks = refl; faults = u.was.later })

pub unworked_node : (s a : NodeState) → IsUnworked s a → IsNode s → IsNode a
unworked_node s a u n =
    let F : Plain → Type 0 = λ p. IsNode (record s { manager = record a.manager { plain = p } }) in
    let k : F s.manager.plain = record { kept = n.kept; counted = n.counted; risen = risen_later s.history.entries s.manager.faults a.manager.faults n.risen u.was.later; aside = n.aside } in
    subst IsNode (sym u.state) (subst F (sym u.was.plain) k)

-- Room was taken before.
pub roomed_node : (s r : NodeState) → r ≡ record s { room = r.room } → IsNode s → IsNode r
roomed_node s r e n = let k : IsNode (record s { room = r.room }) = record { kept = n.kept; counted = n.counted; risen = n.risen; aside = n.aside } in subst IsNode (sym e) k

pub roomed_did : (s r t : NodeState) (actor : Actor) (call : Call) (result : Result Acted Want) → r ≡ record s { room = r.room } → ActsAs actor call r result t → ActsAs actor call s result t
roomed_did s r t actor call (Ok b) e h =
    let A : NodeState → Type 0 = λ x. ActsAs actor call x (Ok b) t in
    let k : ActsAs actor call (record s { room = r.room }) (Ok b) t = subst A e h in
    (k.0, record { grows = record { given = k.1.grows.given; history = k.1.grows.history }; actor = k.1.actor; call = k.1.call; marks = k.1.marks; faults = k.1.faults; rose = k.1.rose }, k.2)
roomed_did s r t actor call (Err x) e h =
    let A : NodeState → Type 0 = λ y. Stays y t in
    let k : Stays (record s { room = r.room }) t = subst A e h in
    record { same = k.same; marks = k.marks; faults = k.faults }

pub roomed_stays : (s r : NodeState) → r ≡ record s { room = r.room } → Stays s r
roomed_stays s r e = let S : NodeState → Type 0 = λ x. Stays s x in subst S (sym e) (record { same = refl; marks = refl; faults = le_self s.manager.faults })

pub worked_room : (d : Deed) (refusal : Option OpRefusal) (choice : Choice) (delta : List Did) (s a : NodeState) → IsWorked d refusal choice delta s a → 0 < s.room → 0 < a.room
worked_room d refusal _ delta s a k lt = subst (λ (x : NodeState). 0 < x.room) (sym k.state) lt

pub worked_low : (d : Deed) (refusal : Option OpRefusal) (choice : Choice) (delta : List Did) (s a : NodeState) → IsWorked d refusal choice delta s a → MayAct s → a.stamp < 2 ^ 60
worked_low d refusal _ delta s a k may = subst (λ (x : NodeState). x.stamp < 2 ^ 60) (sym k.state) (may_low s may)
