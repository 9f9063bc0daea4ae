-- What a call of the manager comes to, as an event.
use Rattle.std.proofs.Common.{◌≡◌, ℕ, refl, sym, ap, subst, ◌∙◌, List, [], ◌≤◌, Bool, true, false, arith}
use Rattle.std.specs.Prelude.{Option, Some, None, Result, Ok, Err}
use Rattle.mq_calls.specs.declared.commands.Halt.{Halt}
use Rattle.mq_calls.specs.declared.commands.Halt.TheVariants as halts
use Rattle.mq_calls.specs.declared.choices.Choice.{Choice}
use Rattle.mq_calls.specs.declared.choices.Choice.TheVariants.{Runs, NoMemory, Stopped}
use Rattle.mq_base.specs.Outside.{Rose}
use Rattle.mq_codes.specs.declared.reason.Reason.TheVariants as reasons
use Rattle.mq_calls.specs.declared.answers.Answer.TheVariants as answers
use Rattle.mq_disk.specs.declared.cutter.Stop.{Stop}
use Rattle.mq_disk.specs.declared.cutter.Stop.TheVariants as stops
use Rattle.mq_spec_node.specs.Terms.{Reason, Answer, Did, Reply, Part, Step, Refuse, Do, Possible, stopped_at, delta_before, do_all}
use Rattle.mq_calls.specs.Steps.{IsWrite}
use Rattle.mq_calls.specs.Meeting.{ManagerValue, untouched, Wants, WantsBefore, MeetsAs, StoppedIn}
use Rattle.mq_calls.specs.Meeting.Wants.{Nowhere, Behind, Anywhere}
use Rattle.mq_spec_node.specs.Words.{Node, Own, Deed, node_of, told as said, mqi_deed, ended_deed, CanCome}
use Rattle.mq_events.specs.declared.outcome.Outcome.{Outcome}
use Rattle.mq_message.specs.declared.message.Md.{Md}
use Rattle.mq_base.specs.declared.want.NoMemory.{NoMemory as Want}
use Rattle.mq_calls.specs.declared.answers.GetAnswer.{GetAnswer}
use Rattle.mq_calls.specs.declared.answers.GetAnswer.TheVariants as get_answers
use Rattle.mq_calls.specs.declared.answers.Sent.{Sent}
use Rattle.mq_history.specs.declared.calls.Call.TheVariants as calls
use Rattle.mq_history.specs.declared.calls.Reply.TheVariants as replies
use Rattle.mq_spec_node.specs.Terms.{Appl, Hconn, Hobj, Open, Get, Plain}
use Rattle.mq_spec_node.specs.Words.{get_deed}
use Rattle.mq_spec_manager.specs.Words.{mqconn, mqopen, mqclose, mqput, mqput1, mqget, mqcmit, mqback, mqdisc}
use Rattle.mq_spec_manager.specs.Get.{is_waiting}
use Rattle.mq_manager.specs.from_core.Values.{CoreValue, manager_of}
use Rattle.mq_events.proofs.NumberLaws.{numbered, get_numbered, WaitsOnly, get_waits}
use Rattle.mq_manager.proofs.from_law_manager.ShortSteps.{conn_short, open_short, close_short, put_short, put1_short, commit_short, back_short, disc_short}
use Rattle.mq_events.specs.Disks.{RoseBy, RoseIn, RoseWhere, disk_failed}
use Rattle.mq_events.specs.Outcomes.{part_by, IsNumbered, StepIsNumbered, choice_by, reply_by, is_wanting, outcome_of, Came, EndsAs, Ends, EndsSo}

-- an outcome of these
abbrev pub outcome_by : Choice → Reply → List Did → Outcome
outcome_by choice reply delta = record { choice = choice; reply = reply; delta = delta }

pub nothing_possible : (armed : ℕ) → Possible Runs [] armed
nothing_possible armed h = h

-- where the call left all as it was
abbrev plain_in : ManagerValue → ManagerValue → Type 0
plain_in old new = new ≡ untouched old

module _ {T : Type 0} (f : Answer T → Reply) (own : Own) (old new : ManagerValue) where
  -- the write of the part was stopped
  pub stopped : (d : Deed) (by : Stop) → d.own ≡ own → d.pushed ≡ None → d.received ≡ [] → IsNumbered d.parts → StoppedIn by d.parts old new
      → Came d (node_of old.plain own) (outcome_by (Stopped by (part_by new.delta) new.plain.log.armed) (reply_by f (Err (halts.Stopped by))) new.delta) new.plain
  stopped d by o p r numbered s =
      let told : new.delta ≡ delta_before s.part d.parts = ap (λ (v : ManagerValue). v.delta) s.next in
      let number : s.part ≡ part_by new.delta = numbered s.part s.write ∙ sym (ap part_by told) in
      let C : ℕ → Type 0 = λ n. CanCome d (Stopped by n new.plain.log.armed) (node_of old.plain own) in
      record {
        can = subst C number (s.write, s.stop);
        reply = refl;
        delta = told ∙ ap (λ n. delta_before n d.parts) number;
        manager = ap (λ (v : ManagerValue). v.plain) s.next ∙ ap (λ n. stopped_at n d.parts new.plain.log.armed old.plain) number;
        own = o;
        pushed = p;
        received = r;
      }

  -- it was refused, where no want of memory takes the refusal's place
  refused : (wants : Wants) (reason : Reason) (ended : Result (Answer T) (Halt Reason)) → (WantsBefore wants old new → ⊥) → MeetsAs wants old (Refuse reason) ended new
      → Came (said (f (answers.Failed reason)) own) (node_of old.plain own) (outcome_by (choice_by ended new.delta new.plain.log.armed) (reply_by f ended) new.delta) new.plain
  refused wants reason (Ok value) none m = absurd m
  refused wants reason (Err (halts.Refused other)) none m = record {
    can = nothing_possible old.plain.log.armed;
    reply = ap (λ r. reply_by f (Err (halts.Refused r))) m.0;
    delta = ap (λ (v : ManagerValue). v.delta) m.1;
    manager = ap (λ (v : ManagerValue). v.plain) m.1;
    own = refl;
    pushed = refl;
    received = refl;
  }
  refused wants reason (Err halts.NoMemory) none m = absurd (none m)
  refused wants reason (Err (halts.Stopped by)) none m = absurd m

  -- all its parts are done
  ran : (wants : Wants) (d : Deed) (reply value : Answer T) → d.reply ≡ f reply → d.own ≡ own → d.pushed ≡ None → d.received ≡ [] → MeetsAs {F = Reason} wants old (Do reply d.parts) (Ok value) new
      → Came d (node_of old.plain own) (outcome_by Runs (f value) new.delta) new.plain
  ran wants d reply value is o p r m = record {
    can = m.1;
    reply = ap f m.0 ∙ sym is;
    delta = ap (λ (v : ManagerValue). v.delta) m.3;
    manager = ap (λ (v : ManagerValue). v.plain) m.3;
    own = o;
    pushed = p;
    received = r;
  }

  pub behind : (step : Step Reason (Answer T)) (ended : Result (Answer T) (Halt Reason)) → StepIsNumbered step → MeetsAs Behind old step ended new
      → Came (mqi_deed f own step) (node_of old.plain own) (outcome_by (choice_by ended new.delta new.plain.log.armed) (reply_by f ended) new.delta) new.plain
  behind (Refuse reason) ended n m = refused Behind reason ended (λ z. z) m
  behind (Do reply parts) (Ok value) n m = ran Behind (mqi_deed f own (Do reply parts)) reply value refl refl refl refl m
  behind (Do reply parts) (Err (halts.Refused other)) n m = absurd m
  behind (Do reply parts) (Err halts.NoMemory) n m = record {
    can = tt;
    reply = refl;
    delta = ap (λ (v : ManagerValue). v.delta) m;
    manager = ap (λ (v : ManagerValue). v.plain) m;
    own = refl;
    pushed = refl;
    received = refl;
  }
  behind (Do reply parts) (Err (halts.Stopped by)) n m = stopped (mqi_deed f own (Do reply parts)) by refl refl refl n m

  pub nowhere : (step : Step Reason (Answer T)) (ended : Result (Answer T) (Halt Reason)) → StepIsNumbered step → MeetsAs Nowhere old step ended new
      → Came (ended_deed f own step) (node_of old.plain own) (outcome_by (choice_by ended new.delta new.plain.log.armed) (reply_by f ended) new.delta) new.plain
  nowhere (Refuse reason) ended n m = refused Nowhere reason ended (λ z. z) m
  nowhere (Do reply parts) (Ok value) n m = ran Nowhere (ended_deed f own (Do reply parts)) reply value refl refl refl refl m
  nowhere (Do reply parts) (Err (halts.Refused other)) n m = absurd m
  nowhere (Do reply parts) (Err halts.NoMemory) n m = absurd m
  nowhere (Do reply parts) (Err (halts.Stopped by)) n m = stopped (ended_deed f own (Do reply parts)) by refl refl refl n m

-- the count of faults doesn't fall
pub later : {F T : Type 0} (wants : Wants) (old new : ManagerValue) (step : Step F T) (ended : Result T (Halt F)) → MeetsAs wants old step ended new → old.faults ≤ new.faults
later wants old new (Refuse reason) (Ok value) m = absurd m
later wants old new (Refuse reason) (Err (halts.Refused other)) m = omega (arith, ap (λ (v : ManagerValue). v.faults) m.1)
later Nowhere old new (Refuse reason) (Err halts.NoMemory) m = absurd m
later Behind old new (Refuse reason) (Err halts.NoMemory) m = absurd m
later Anywhere old new (Refuse reason) (Err halts.NoMemory) m = omega (arith, ap (λ (v : ManagerValue). v.faults) m)
later wants old new (Refuse reason) (Err (halts.Stopped by)) m = absurd m
later wants old new (Do reply parts) (Ok value) m = m.2
later wants old new (Do reply parts) (Err (halts.Refused other)) m = absurd m
later Nowhere old new (Do reply parts) (Err halts.NoMemory) m = absurd m
later Behind old new (Do reply parts) (Err halts.NoMemory) m = omega (arith, ap (λ (v : ManagerValue). v.faults) m)
later Anywhere old new (Do reply parts) (Err halts.NoMemory) m = omega (arith, ap (λ (v : ManagerValue). v.faults) m)
later wants old new (Do reply parts) (Err (halts.Stopped by)) m = m.later

-- Where a disk stopped the call's write, its count rose; nothing else tells of one.
no_disk : false ≡ true → ⊥
no_disk e = absurd cc

pub silent : (reply other : Reply) (before now : ℕ) → reply ≡ other → disk_failed other ≡ false → RoseBy reply before now
silent reply other before now e quiet = λ tells. absurd (no_disk (sym quiet ∙ sym (ap disk_failed e) ∙ tells))

pub stopped_disk : (by : Stop) (parts : List Part) (old mid : ManagerValue) → StoppedIn by parts old mid → disk_failed (replies.Stopped by) ≡ true → Rose old.faults mid.faults
stopped_disk stops.Disk parts old mid m tells = m.rose refl
stopped_disk stops.Cut parts old mid m tells = absurd (no_disk tells)

pub rose_wider : (a b c d : ℕ) → a ≤ b → Rose b c → c ≤ d → Rose a d
rose_wider a b c d le rose more = grind (arith, le, rose, more)

-- of parts: what is told of them, and the reply of a choice
pub where_wider : (choice : Choice) (a b c d : ℕ) → a ≤ b → RoseWhere choice b c → c ≤ d → RoseWhere choice a d
where_wider Runs a b c d le rose more = tt
where_wider NoMemory a b c d le rose more = tt
where_wider (Stopped by part left) a b c d le rose more = λ disk. rose_wider a b c d le (rose disk) more

by_disk : (by : Stop) → disk_failed (replies.Stopped by) ≡ true → by ≡ stops.Disk
by_disk stops.Disk tells = refl
by_disk stops.Cut tells = absurd (no_disk tells)

pub rose_by : (by : Stop) (before now : ℕ) → (by ≡ stops.Disk → Rose before now) → RoseBy (replies.Stopped by) before now
rose_by by before now rose = λ tells. rose (by_disk by tells)

pub rose_then : (by : Stop) (parts : List Part) (old mid new : CoreValue) (reply : Reply) → reply ≡ replies.Stopped by → new ≡ record mid { delta = [] } → StoppedIn by parts (manager_of old) (manager_of mid) → RoseBy reply old.faults new.faults
rose_then by parts old mid new reply r e m = λ tells.
    subst (λ (n : ℕ). Rose old.faults n) (sym (ap (λ (v : CoreValue). v.faults) e)) (stopped_disk by parts (manager_of old) (manager_of mid) m (sym (ap disk_failed r) ∙ tells))

pub rose_so : (wants : Wants) {T : Type 0} (f : Answer T → Reply) (old mid new : CoreValue) (step : Step Reason (Answer T)) (ended : Result (Answer T) (Halt Reason)) (reply : Reply) → ((a : Answer T) → disk_failed (f a) ≡ false) → reply ≡ reply_by f ended → new ≡ record mid { delta = [] }
    → MeetsAs wants (manager_of old) step ended (manager_of mid) → RoseBy reply old.faults new.faults
rose_so wants f old mid new step (Ok value) reply quiet r e m = silent reply (f value) old.faults new.faults r (quiet value)
rose_so wants f old mid new step (Err (halts.Refused reason)) reply quiet r e m = silent reply (f (answers.Failed reason)) old.faults new.faults r (quiet (answers.Failed reason))
rose_so wants f old mid new step (Err halts.NoMemory) reply quiet r e m = silent reply (f (answers.Failed reasons.StorageNotAvailable)) old.faults new.faults r (quiet (answers.Failed reasons.StorageNotAvailable))
rose_so wants f old mid new (Refuse reason) (Err (halts.Stopped by)) reply quiet r e m = absurd m
rose_so wants f old mid new (Do answer parts) (Err (halts.Stopped by)) reply quiet r e m = rose_then by parts old mid new reply r e m

-- Each call by the manager's clause for it.
abbrev IsTold : {T : Type 0} → (Answer T → Reply) → Result (Answer T) (Halt Reason) → CoreValue → Outcome → CoreValue → Type 0
IsTold f ended mid o new =
    (o.choice ≡ choice_by ended mid.delta mid.plain.log.armed) × (o.reply ≡ reply_by f ended) × (o.delta ≡ mid.delta) × (new ≡ record mid { delta = [] })

outcome_is : {T : Type 0} (f : Answer T → Reply) (ended : Result (Answer T) (Halt Reason)) (mid new : CoreValue) (o : Outcome) → IsTold f ended mid o new
    → o ≡ outcome_by (choice_by ended mid.delta mid.plain.log.armed) (reply_by f ended) mid.delta
outcome_is f ended mid new o t =
    ap (λ (c : Choice). outcome_by c o.reply o.delta) t.0
    ∙ ap (λ (r : Reply). outcome_by (choice_by ended mid.delta mid.plain.log.armed) r o.delta) t.1
    ∙ ap (λ (d : List Did). outcome_by (choice_by ended mid.delta mid.plain.log.armed) (reply_by f ended) d) t.2

pub same_plain : (mid new : CoreValue) → new ≡ record mid { delta = [] } → mid.plain ≡ new.plain
same_plain mid new e = sym (ap (λ (v : CoreValue). v.plain) e)

pub came_so : (d : Deed) (n : Node) (a b : Outcome) (p q : Plain) → b ≡ a → p ≡ q → Came d n a p → Came d n b q
came_so d n a b p q e f c =
    let O : Outcome → Type 0 = λ o. Came d n o q in
    let P : Plain → Type 0 = λ x. Came d n a x in
    subst O (sym e) (subst P f c)

pub faults_so : (wants : Wants) {F T : Type 0} (old mid new : CoreValue) (step : Step F T) (ended : Result T (Halt F)) → new ≡ record mid { delta = [] } → MeetsAs wants (manager_of old) step ended (manager_of mid) → old.faults ≤ new.faults
faults_so wants old mid new step ended e m = omega (arith, later wants (manager_of old) (manager_of mid) step ended m, ap (λ (v : CoreValue). v.faults) e)

pub conn_ends : (qmgr : List ℕ) (appl : Appl) (old mid new : CoreValue) (ended : Result (Answer Hconn) (Halt Reason)) (o : Outcome) → MeetsAs Behind (manager_of old) (mqconn qmgr appl old.plain) ended (manager_of mid)
    → (o.choice ≡ choice_by ended mid.delta mid.plain.log.armed) → (o.reply ≡ reply_by replies.Connected ended) → (o.delta ≡ mid.delta) → (new ≡ record mid { delta = [] })
    → EndsSo (calls.Mqconn qmgr appl) old o new
conn_ends qmgr appl old mid new ended o m c r d e = record {
  ends = λ stamp actor own. came_so _ _ _ o mid.plain new.plain (outcome_is replies.Connected ended mid new o (c, r, d, e)) (same_plain mid new e)
      (behind replies.Connected own (manager_of old) (manager_of mid) (mqconn qmgr appl old.plain) ended (numbered _ (conn_short qmgr appl old.plain)) m);
  later = faults_so Behind old mid new (mqconn qmgr appl old.plain) ended e m;
  rose = rose_so Behind replies.Connected old mid new (mqconn qmgr appl old.plain) ended o.reply (λ a. refl) r e m;
}

pub open_ends : (hc : Hconn) (name qmgr : List ℕ) (how : Open) (old mid new : CoreValue) (ended : Result (Answer Hobj) (Halt Reason)) (o : Outcome) → MeetsAs Behind (manager_of old) (mqopen hc name qmgr how old.plain) ended (manager_of mid)
    → (o.choice ≡ choice_by ended mid.delta mid.plain.log.armed) → (o.reply ≡ reply_by replies.Opened ended) → (o.delta ≡ mid.delta) → (new ≡ record mid { delta = [] })
    → EndsSo (calls.Mqopen hc name qmgr how) old o new
open_ends hc name qmgr how old mid new ended o m c r d e = record {
  ends = λ stamp actor own. came_so _ _ _ o mid.plain new.plain (outcome_is replies.Opened ended mid new o (c, r, d, e)) (same_plain mid new e)
      (behind replies.Opened own (manager_of old) (manager_of mid) (mqopen hc name qmgr how old.plain) ended (numbered _ (open_short hc name qmgr how old.plain)) m);
  later = faults_so Behind old mid new (mqopen hc name qmgr how old.plain) ended e m;
  rose = rose_so Behind replies.Opened old mid new (mqopen hc name qmgr how old.plain) ended o.reply (λ a. refl) r e m;
}

pub close_ends : (hc : Hconn) (ho : Hobj) (old mid new : CoreValue) (ended : Result (Answer (Unit {0})) (Halt Reason)) (o : Outcome) → MeetsAs Nowhere (manager_of old) (mqclose hc ho old.plain) ended (manager_of mid)
    → (o.choice ≡ choice_by ended mid.delta mid.plain.log.armed) → (o.reply ≡ reply_by replies.Ended ended) → (o.delta ≡ mid.delta) → (new ≡ record mid { delta = [] })
    → EndsSo (calls.Mqclose hc ho) old o new
close_ends hc ho old mid new ended o m c r d e = record {
  ends = λ stamp actor own. came_so _ _ _ o mid.plain new.plain (outcome_is replies.Ended ended mid new o (c, r, d, e)) (same_plain mid new e)
      (nowhere replies.Ended own (manager_of old) (manager_of mid) (mqclose hc ho old.plain) ended (numbered _ (close_short hc ho old.plain)) m);
  later = faults_so Nowhere old mid new (mqclose hc ho old.plain) ended e m;
  rose = rose_so Nowhere replies.Ended old mid new (mqclose hc ho old.plain) ended o.reply (λ a. refl) r e m;
}

pub put_ends : (hc : Hconn) (ho : Hobj) (md : Md) (body : List ℕ) (sync : Bool) (old mid new : CoreValue) (ended : Result (Answer Sent) (Halt Reason)) (o : Outcome) → MeetsAs Behind (manager_of old) (mqput hc ho md body sync old.plain) ended (manager_of mid)
    → (o.choice ≡ choice_by ended mid.delta mid.plain.log.armed) → (o.reply ≡ reply_by replies.Put ended) → (o.delta ≡ mid.delta) → (new ≡ record mid { delta = [] })
    → EndsSo (calls.Mqput hc ho md body sync) old o new
put_ends hc ho md body sync old mid new ended o m c r d e = record {
  ends = λ stamp actor own. came_so _ _ _ o mid.plain new.plain (outcome_is replies.Put ended mid new o (c, r, d, e)) (same_plain mid new e)
      (behind replies.Put own (manager_of old) (manager_of mid) (mqput hc ho md body sync old.plain) ended (numbered _ (put_short hc ho md body sync old.plain)) m);
  later = faults_so Behind old mid new (mqput hc ho md body sync old.plain) ended e m;
  rose = rose_so Behind replies.Put old mid new (mqput hc ho md body sync old.plain) ended o.reply (λ a. refl) r e m;
}

pub put1_ends : (hc : Hconn) (name qmgr : List ℕ) (md : Md) (body : List ℕ) (sync : Bool) (old mid new : CoreValue) (ended : Result (Answer Sent) (Halt Reason)) (o : Outcome) → MeetsAs Behind (manager_of old) (mqput1 hc name qmgr md body sync old.plain) ended (manager_of mid)
    → (o.choice ≡ choice_by ended mid.delta mid.plain.log.armed) → (o.reply ≡ reply_by replies.Put ended) → (o.delta ≡ mid.delta) → (new ≡ record mid { delta = [] })
    → EndsSo (calls.Mqput1 hc name qmgr md body sync) old o new
put1_ends hc name qmgr md body sync old mid new ended o m c r d e = record {
  ends = λ stamp actor own. came_so _ _ _ o mid.plain new.plain (outcome_is replies.Put ended mid new o (c, r, d, e)) (same_plain mid new e)
      (behind replies.Put own (manager_of old) (manager_of mid) (mqput1 hc name qmgr md body sync old.plain) ended (numbered _ (put1_short hc name qmgr md body sync old.plain)) m);
  later = faults_so Behind old mid new (mqput1 hc name qmgr md body sync old.plain) ended e m;
  rose = rose_so Behind replies.Put old mid new (mqput1 hc name qmgr md body sync old.plain) ended o.reply (λ a. refl) r e m;
}

pub commit_ends : (hc : Hconn) (old mid new : CoreValue) (ended : Result (Answer (Unit {0})) (Halt Reason)) (o : Outcome) → MeetsAs Nowhere (manager_of old) (mqcmit hc old.plain) ended (manager_of mid)
    → (o.choice ≡ choice_by ended mid.delta mid.plain.log.armed) → (o.reply ≡ reply_by replies.Ended ended) → (o.delta ≡ mid.delta) → (new ≡ record mid { delta = [] })
    → EndsSo (calls.Mqcmit hc) old o new
commit_ends hc old mid new ended o m c r d e = record {
  ends = λ stamp actor own. came_so _ _ _ o mid.plain new.plain (outcome_is replies.Ended ended mid new o (c, r, d, e)) (same_plain mid new e)
      (nowhere replies.Ended own (manager_of old) (manager_of mid) (mqcmit hc old.plain) ended (numbered _ (commit_short hc old.plain)) m);
  later = faults_so Nowhere old mid new (mqcmit hc old.plain) ended e m;
  rose = rose_so Nowhere replies.Ended old mid new (mqcmit hc old.plain) ended o.reply (λ a. refl) r e m;
}

pub back_ends : (hc : Hconn) (old mid new : CoreValue) (ended : Result (Answer (Unit {0})) (Halt Reason)) (o : Outcome) → MeetsAs Nowhere (manager_of old) (mqback hc old.plain) ended (manager_of mid)
    → (o.choice ≡ choice_by ended mid.delta mid.plain.log.armed) → (o.reply ≡ reply_by replies.Ended ended) → (o.delta ≡ mid.delta) → (new ≡ record mid { delta = [] })
    → EndsSo (calls.Mqback hc) old o new
back_ends hc old mid new ended o m c r d e = record {
  ends = λ stamp actor own. came_so _ _ _ o mid.plain new.plain (outcome_is replies.Ended ended mid new o (c, r, d, e)) (same_plain mid new e)
      (nowhere replies.Ended own (manager_of old) (manager_of mid) (mqback hc old.plain) ended (numbered _ (back_short hc old.plain)) m);
  later = faults_so Nowhere old mid new (mqback hc old.plain) ended e m;
  rose = rose_so Nowhere replies.Ended old mid new (mqback hc old.plain) ended o.reply (λ a. refl) r e m;
}

pub disc_ends : (hc : Hconn) (old mid new : CoreValue) (ended : Result (Answer (Unit {0})) (Halt Reason)) (o : Outcome) → MeetsAs Nowhere (manager_of old) (mqdisc hc old.plain) ended (manager_of mid)
    → (o.choice ≡ choice_by ended mid.delta mid.plain.log.armed) → (o.reply ≡ reply_by replies.Ended ended) → (o.delta ≡ mid.delta) → (new ≡ record mid { delta = [] })
    → EndsSo (calls.Mqdisc hc) old o new
disc_ends hc old mid new ended o m c r d e = record {
  ends = λ stamp actor own. came_so _ _ _ o mid.plain new.plain (outcome_is replies.Ended ended mid new o (c, r, d, e)) (same_plain mid new e)
      (nowhere replies.Ended own (manager_of old) (manager_of mid) (mqdisc hc old.plain) ended (numbered _ (disc_short hc old.plain)) m);
  later = faults_so Nowhere old mid new (mqdisc hc old.plain) ended e m;
  rose = rose_so Nowhere replies.Ended old mid new (mqdisc hc old.plain) ended o.reply (λ a. refl) r e m;
}

-- MQGET, which may be no event.
got_so : (own : Own) (old new : ManagerValue) (until : Option ℕ) (step : Step Reason GetAnswer) (ended : Result GetAnswer (Halt Reason))
    → StepIsNumbered step → WaitsOnly until old.plain step → (is_wanting ended ≡ true → is_waiting until old.plain ≡ false) → MeetsAs Behind old step ended new
    → EndsAs (get_deed own step) (node_of old.plain own) (Ok (outcome_of ended (choice_by ended new.delta new.plain.log.armed) new.delta)) new.plain
got_so own old new until (Refuse reason) (Ok value) n w b m = absurd m
got_so own old new until (Refuse reason) (Err (halts.Refused other)) n w b m = behind replies.Got own old new (Refuse reason) (Err (halts.Refused other)) n m
got_so own old new until (Refuse reason) (Err halts.NoMemory) n w b m = absurd m
got_so own old new until (Refuse reason) (Err (halts.Stopped by)) n w b m = absurd m
got_so own old new until (Do get_answers.NotYet parts) (Ok get_answers.NotYet) n w b m =
    ap (λ (v : ManagerValue). v.plain) m.3 ∙ ap (λ (ps : List Part). do_all ps old.plain) w.1
got_so own old new until (Do get_answers.NotYet parts) (Ok (get_answers.Done a)) n w b m = let e = m.0 in cc
got_so own old new until (Do get_answers.NotYet parts) (Err (halts.Refused other)) n w b m = absurd m
got_so own old new until (Do get_answers.NotYet parts) (Err halts.NoMemory) n w b m = let t = w.0 in let f = b refl in cc
got_so own old new until (Do get_answers.NotYet parts) (Err (halts.Stopped by)) n w b m =
    let P : List Part → Type 0 = λ ps. IsWrite m.part ps in absurd (subst P w.1 m.write)
got_so own old new until (Do (get_answers.Done a) parts) (Ok get_answers.NotYet) n w b m = let e = m.0 in cc
got_so own old new until (Do (get_answers.Done a) parts) (Ok (get_answers.Done c)) n w b m = let e : c ≡ a = let h = m.0 in cc in behind replies.Got own old new (Do a parts) (Ok c) n (e, m.1, m.2, m.3)
got_so own old new until (Do (get_answers.Done a) parts) (Err (halts.Refused other)) n w b m = absurd m
got_so own old new until (Do (get_answers.Done a) parts) (Err halts.NoMemory) n w b m = behind replies.Got own old new (Do a parts) (Err halts.NoMemory) n m
got_so own old new until (Do (get_answers.Done a) parts) (Err (halts.Stopped by)) n w b m = behind replies.Got own old new (Do a parts) (Err (halts.Stopped by)) n m

ends_so : (d : Option Deed) (n : Node) (a b : Option Outcome) (p q : Plain) → b ≡ a → p ≡ q → EndsAs d n (Ok a) p → EndsAs d n (Ok b) q
ends_so d n a b p q e f c =
    let O : Option Outcome → Type 0 = λ o. EndsAs d n (Ok o) q in
    let P : Plain → Type 0 = λ x. EndsAs d n (Ok a) x in
    subst O (sym e) (subst P f c)

outcome_same : (ended : Result GetAnswer (Halt Reason)) (c k : Choice) (d e : List Did) → c ≡ k → d ≡ e → outcome_of ended c d ≡ outcome_of ended k e
outcome_same ended c k d e f h = ap (λ (x : Choice). outcome_of ended x d) f ∙ ap (outcome_of ended k) h

got_rose : (old mid new : CoreValue) (step : Step Reason GetAnswer) (ended : Result GetAnswer (Halt Reason)) (choice : Choice) (delta : List Did) → new ≡ record mid { delta = [] } → MeetsAs Behind (manager_of old) step ended (manager_of mid)
    → RoseIn (Ok (outcome_of ended choice delta)) old.faults new.faults
got_rose old mid new step (Ok get_answers.NotYet) choice delta e m = tt
got_rose old mid new step (Ok (get_answers.Done a)) choice delta e m = silent (replies.Got a) (replies.Got a) old.faults new.faults refl refl
got_rose old mid new step (Err (halts.Refused reason)) choice delta e m = silent (replies.Got (answers.Failed reason)) (replies.Got (answers.Failed reason)) old.faults new.faults refl refl
got_rose old mid new step (Err halts.NoMemory) choice delta e m = silent (replies.Got (answers.Failed reasons.StorageNotAvailable)) (replies.Got (answers.Failed reasons.StorageNotAvailable)) old.faults new.faults refl refl
got_rose old mid new (Refuse reason) (Err (halts.Stopped by)) choice delta e m = absurd m
got_rose old mid new (Do answer parts) (Err (halts.Stopped by)) choice delta e m = rose_then by parts old mid new (replies.Stopped by) refl e m

pub get_ends : (hc : Hconn) (ho : Hobj) (get : Get) (until : Option ℕ) (old mid new : CoreValue) (ended : Result GetAnswer (Halt Reason)) (choice : Choice) (delta : List Did) → MeetsAs Behind (manager_of old) (mqget hc ho get until old.plain) ended (manager_of mid)
    → (is_wanting ended ≡ true → is_waiting until old.plain ≡ false) → (choice ≡ choice_by ended mid.delta mid.plain.log.armed) → (delta ≡ mid.delta) → (new ≡ record mid { delta = [] })
    → Ends (calls.Mqget hc ho get until) old (Ok (outcome_of ended choice delta)) new
get_ends hc ho get until old mid new ended choice delta m b c d e = record {
  ends = λ stamp actor own. ends_so _ _ _ _ mid.plain new.plain (outcome_same ended choice _ delta _ c d) (same_plain mid new e)
      (got_so own (manager_of old) (manager_of mid) until (mqget hc ho get until old.plain) ended (get_numbered hc ho get until old.plain) (get_waits hc ho get until old.plain) b m);
  later = faults_so Behind old mid new (mqget hc ho get until old.plain) ended e m;
  rose = got_rose old mid new (mqget hc ho get until old.plain) ended choice delta e m;
}

pub wants_nothing : (wants : Wants) {F T : Type 0} (old new : ManagerValue) (step : Step F T) (ended : Result T (Halt F)) → is_wanting ended ≡ true → MeetsAs wants old step ended new → new.plain ≡ old.plain
wants_nothing wants old new step (Ok value) w m = absurd cc
wants_nothing wants old new step (Err (halts.Refused other)) w m = absurd cc
wants_nothing Nowhere old new (Refuse reason) (Err halts.NoMemory) w m = absurd m
wants_nothing Behind old new (Refuse reason) (Err halts.NoMemory) w m = absurd m
wants_nothing Anywhere old new (Refuse reason) (Err halts.NoMemory) w m = ap (λ (v : ManagerValue). v.plain) m
wants_nothing Nowhere old new (Do reply parts) (Err halts.NoMemory) w m = absurd m
wants_nothing Behind old new (Do reply parts) (Err halts.NoMemory) w m = ap (λ (v : ManagerValue). v.plain) m
wants_nothing Anywhere old new (Do reply parts) (Err halts.NoMemory) w m = ap (λ (v : ManagerValue). v.plain) m
wants_nothing wants old new step (Err (halts.Stopped by)) w m = absurd cc

pub wanted_is : (d : Option Deed) (n : Node) (x : Want) (p : Plain) → p ≡ n.manager → EndsAs d n (Err x) p
wanted_is None n x p e = e
wanted_is (Some d) n x p e = e

pub get_wants : (hc : Hconn) (ho : Hobj) (get : Get) (until : Option ℕ) (old new : CoreValue) (x : Want) (ended : Result GetAnswer (Halt Reason)) → MeetsAs Behind (manager_of old) (mqget hc ho get until old.plain) ended (manager_of new)
    → is_wanting ended ≡ true → Ends (calls.Mqget hc ho get until) old (Err x) new
get_wants hc ho get until old new x ended m w = record {
  ends = λ stamp actor own. wanted_is (get_deed own (mqget hc ho get until old.plain)) (node_of old.plain own) x new.plain (wants_nothing Behind (manager_of old) (manager_of new) (mqget hc ho get until old.plain) ended w m);
  later = later Behind (manager_of old) (manager_of new) (mqget hc ho get until old.plain) ended m;
  rose = tt;
}

pub true_false : true ≡ false → ⊥
true_false e = absurd cc
