-- START, STOP and RESET of a sender's end: what its deed is, and what holds then.
use Rattle.std.proofs.Common.{◌≡◌, ℕ, zero, suc, ◌+◌, ◌-◌, ◌≤◌, refl, sym, ap, subst, ◌∙◌, List, [], ◌∷◌, ◌++◌, Bool, true, false, not, arith}
use Rattle.std.specs.Prelude.{Option, Some, None, Result, Ok, Err, ◌==◌, ◌||◌, if◌then◌else◌, is_some, nat_lt}
use Rattle.mq_base.specs.declared.want.NoMemory.{NoMemory as Want}
use Rattle.mq_calls.specs.declared.agents.Note.TheVariants as notes
use Rattle.mq_calls.specs.declared.agents.SeizeFault.TheVariants as faults
use Rattle.mq_calls.specs.declared.choices.Choice.{Choice}
use Rattle.mq_calls.specs.declared.choices.Choice.TheVariants.{Runs}
use Rattle.mq_calls.specs.declared.commands.Halt.TheVariants as halts
use Rattle.mq_calls.specs.declared.state.Batch.{Batch}
use Rattle.mq_history.specs.declared.acts.OpRefusal.TheVariants as reasons
use Rattle.mq_sender.specs.States as senders
use Rattle.mq_sender.specs.declared.state.Kept.{Kept}
use Rattle.mq_sender.specs.declared.state.Limits.{Limits}
use Rattle.mq_sync.specs.declared.data.End.TheVariants as end_kinds
use Rattle.mq_sync.specs.declared.data.InDoubt.{InDoubt}
use Rattle.mq_objects.specs.Names.{channel_of}
use Rattle.mq_calls.specs.Steps.{refused_or as step_or, refusal as first_refusal, silent, when}
use Rattle.mq_calls.specs.State.Change.{Seize}
use Rattle.mq_calls.specs.Meeting.{MeetsAs, ManagerValue}
use Rattle.mq_calls.specs.Meeting.Wants.{Anywhere}
use Rattle.mq_calls.specs.Words.{batch_of, has_held_by_other, in_doubt_of, is_open_for_input, local_of, sender_data}
use Rattle.mq_spec_manager.specs.Words.{is_transmission_queue}
use Rattle.mq_spec_manager.specs.Agents.{HasNoBatch, HasNoDoubt, channel_queue, harden, leave, release_batch, release_of, seize}
use Rattle.mq_spec_node.specs.Terms.{Did, OpRefusal, Part, Plain, SeizeFault, Step, Refuse, Do}
use Rattle.mq_spec_node.specs.Words.{ChannelEnd, Deed, Own, SenderEnd, cable_of, is_bad_number, is_in_doubt, limits_here, operated, parts_of, refused, refused_or, reset_end, seize_refusal, sender_started, set_end, start_end, start_seized, stop_end, with_end}
use Rattle.mq_spec_node.specs.Node.ChannelEnd.{Sends, Receives}
use Rattle.mq_core.specs.Values.{CoreValue, manager_of}
use Rattle.mq_turn_parts.specs.from_events.Counts.{kept_in}
use Rattle.mq_turn_parts.specs.from_events.{Told}
use Rattle.mq_turn_parts.specs.from_events.States.{NodeState, node_in}
use Rattle.mq_turn_parts.proofs.from_events.KeepLaws.{waits_less}
use Rattle.mq_turn_parts.specs.Turns.{IsAsWas, IsBehind, Made, MadeOr, left_parts, own_by}
use Rattle.mq_turn_parts.proofs.PartLaws.{ran_made}
use Rattle.mq_turn_parts.proofs.AgentLaws.{nothing_made}
use Rattle.mq_turn_parts.proofs.TimeLaws.{made_left}
use Rattle.mq_turn_parts.proofs.QuietLaws.{BringNone}
use Rattle.mq_operate.specs.declared.working.Worked.{Worked}
use Rattle.mq_operate.specs.Senders.{Sought, own_if, unset}
use Rattle.mq_operate.specs.Works.{IsWorked, Works}
use Rattle.mq_operate.proofs.SenderLaws.{le_self, refused_from, refuses_so, running_is, still_is, worked_from}

-- A sender's end in whatever place: no receiver keeps more.
less_if : (e : SenderEnd) (y : ChannelEnd) (ys : List ChannelEnd) (b : Bool) → kept_in (set_end (Sends e) ys) ≤ kept_in ys → kept_in (if b then Sends e ∷ ys else y ∷ set_end (Sends e) ys) ≤ kept_in (y ∷ ys)
less_if e (Sends x) ys true h = le_self (kept_in ys)
less_if e (Receives x) ys true h = omega arith
less_if e (Sends x) ys false h = h
less_if e (Receives x) ys false h = omega (arith, h)

sends_less : (e : SenderEnd) (es : List ChannelEnd) → kept_in (set_end (Sends e) es) ≤ kept_in es
sends_less e [] = le_self 0
sends_less e (y ∷ ys) = less_if e y ys (cable_of y == e.cable) (sends_less e ys)

zero_one : 0 + 0 ≤ 0
zero_one = omega arith

-- ---- START

pub sought_ran : (step : Step SeizeFault (Unit {0})) (w : Worked) (old mid new : CoreValue) → MeetsAs Anywhere (manager_of old) step (Ok tt) (manager_of mid) → w.refusal ≡ None → w.told.choice ≡ Runs → w.told.delta ≡ mid.delta → new ≡ record mid { delta = [] }
    → Sought step w old new
sought_ran (Refuse fault) w old mid new m r c d e = absurd m
sought_ran (Do reply parts) w old mid new m r c d e =
    let M : Choice → Type 0 = λ x. Made parts x w.told.delta old new in
    (r, subst M (sym c) (ran_made {F = SeizeFault} Anywhere (Do reply parts) tt w.told.delta old mid new m d e))

refused_was : (old mid new : CoreValue) → manager_of mid ≡ record (manager_of old) { delta = []; stopped = None } → new ≡ record mid { delta = [] } → IsAsWas old new
refused_was old mid new m e = record {
  plain = ap (λ (v : CoreValue). v.plain) e ∙ ap (λ (v : ManagerValue). v.plain) m;
  later = omega (arith, ap (λ (v : ManagerValue). v.faults) m, ap (λ (v : CoreValue). v.faults) e);
}

pub sought_refused : (step : Step SeizeFault (Unit {0})) (fault : SeizeFault) (w : Worked) (old mid new : CoreValue) → MeetsAs Anywhere (manager_of old) step (Err (halts.Refused fault)) (manager_of mid) → w.refusal ≡ Some (seize_refusal fault)
    → w.told.choice ≡ Runs → w.told.delta ≡ mid.delta → new ≡ record mid { delta = [] } → Sought step w old new
sought_refused (Refuse reason) fault w old mid new m r c d e = record {
  refusal = r ∙ ap (λ (f : SeizeFault). Some (seize_refusal f)) m.0;
  choice = c;
  delta = d ∙ ap (λ (v : ManagerValue). v.delta) m.1;
  was = refused_was old mid new m.1 e;
}
sought_refused (Do reply parts) fault w old mid new m r c d e = absurd m

pub start_running : (e : SenderEnd) (w : Worked) (s : NodeState) → senders.is_running e.machine.state ≡ true → w.refusal ≡ Some reasons.Running → w.told.choice ≡ Runs → w.told.delta ≡ [] → Works (start_end (Some (Sends e)) (node_in s)) s (Ok w) s
start_running e w s run r c d = refuses_so reasons.Running w s (start_end (Some (Sends e)) (node_in s)) r c d (running_is (senders.is_running e.machine.state) s.own (start_seized e (seize e.channel s.manager.plain) (node_in s)) run)

pub start_still : (e : SenderEnd) (result : Result Worked Want) (s a : NodeState) → senders.is_running e.machine.state ≡ false → Works (start_seized e (seize e.channel s.manager.plain) (node_in s)) s result a → Works (start_end (Some (Sends e)) (node_in s)) s result a
start_still e result s a run k =
    let W : Deed → Type 0 = λ x. Works x s result a in
    subst W (sym (still_is (senders.is_running e.machine.state) s.own (start_seized e (seize e.channel s.manager.plain) (node_in s)) run)) k

own_none : (refusal : Option OpRefusal) (choice : Choice) (delta : List Did) (e : ChannelEnd) (own : Own) → refusal ≡ None → own_if refusal choice delta e own ≡ own_by choice delta (with_end e own) own
own_none None choice delta e own r = refl
own_none (Some x) choice delta e own r = absurd cc

own_some : (refusal : Option OpRefusal) (reason : OpRefusal) (choice : Choice) (delta : List Did) (e : ChannelEnd) (own : Own) → refusal ≡ Some reason → own_if refusal choice delta e own ≡ own
own_some None reason choice delta e own r = absurd cc
own_some (Some x) reason choice delta e own r = refl

-- parts that open a queue bring nothing
abbrev seizing : List Part → Step SeizeFault (Unit {0})
seizing parts = Do tt parts

tested_brings : (o : Option SeizeFault) (parts : List Part) → BringNone parts → BringNone (parts_of (step_or o (seizing parts)))
tested_brings None parts b = b
tested_brings (Some fault) parts b = tt

seize_brings : (channel : List ℕ) (p : Plain) → BringNone (parts_of (seize channel p))
seize_brings channel p =
    let queue : List ℕ = channel_queue (channel_of channel p.definitions) in
    tested_brings (first_refusal (
    when (not (is_transmission_queue (local_of queue p.definitions))) faults.BadQueue
    ∷ when (is_open_for_input queue p || has_held_by_other channel queue p) faults.QueueInUse
    ∷ [])) (silent (Seize (record { channel = channel; queue = queue }) ∷ []) ∷ []) (zero_one, tt)

started_by : (step : Step SeizeFault (Unit {0})) (e last : SenderEnd) (w : Worked) (s b a : NodeState) → BringNone (parts_of step) → Sought step w s.manager b.manager → b ≡ record s { manager = b.manager } → with_end (Sends last) s.own ≡ sender_started e (node_in s)
    → a ≡ record b { own = own_if w.refusal w.told.choice w.told.delta (Sends last) b.own } → Works (start_seized e step (node_in s)) s (Ok w) a
started_by (Refuse fault) e last w s b a brings k is st z =
    let own_is : own_if w.refusal w.told.choice w.told.delta (Sends last) b.own ≡ b.own = own_some w.refusal (seize_refusal fault) w.told.choice w.told.delta (Sends last) b.own k.refusal in
    let a_is : a ≡ b = z ∙ ap (λ (o : Own). record b { own = o }) own_is in
    let A : NodeState → Type 0 = λ x. Works (refused (seize_refusal fault) s.own) s (Ok w) x in
    subst A (sym a_is) (refused_from (seize_refusal fault) w.refusal w.told.choice w.told.delta s b k.refusal k.choice k.delta k.was is)
started_by (Do reply parts) e last w s b a brings k is st z =
    let F : NodeState → NodeState = λ x. record x { own = own_by w.told.choice w.told.delta (with_end (Sends last) x.own) x.own } in
    let a_is : a ≡ F (record s { manager = b.manager }) = z ∙ ap (λ (o : Own). record b { own = o }) (own_none w.refusal w.told.choice w.told.delta (Sends last) b.own k.0) ∙ ap F is in
    let o_is : F (record s { manager = b.manager }) ≡ record s { manager = b.manager; own = own_by w.told.choice w.told.delta (sender_started e (node_in s)) s.own } =
    ap (λ (o : Own). record s { manager = b.manager; own = own_by w.told.choice w.told.delta o s.own }) st in
    let A : NodeState → Type 0 = λ x. IsWorked (operated parts (sender_started e (node_in s))) None w.told.choice w.told.delta s x in
    worked_from (operated parts (sender_started e (node_in s))) w.refusal w.told.choice w.told.delta s a
    (subst A (sym (a_is ∙ o_is)) (record {
      reply = refl;
      pushed = refl;
      received = refl;
      brings = brings;
      total = sends_less (record e { machine = senders.started (senders.kept_of (sender_data e.channel s.manager.plain)) (limits_here e.channel (node_in s)) }) s.own.ends;
      waits = waits_less (Sends (record e { machine = senders.started (senders.kept_of (sender_data e.channel s.manager.plain)) (limits_here e.channel (node_in s)) })) s.own refl;
      made = k.1;
      state = refl;
    })) k.0

pub started_so : (e last : SenderEnd) (kept : Kept) (limits : Limits) (w : Worked) (s b a : NodeState) → kept ≡ senders.kept_of (sender_data e.channel s.manager.plain) → limits ≡ limits_here e.channel (node_in s) → last ≡ record e { machine = senders.started kept limits }
    → Sought (seize e.channel s.manager.plain) w s.manager b.manager → b ≡ record s { manager = b.manager } → a ≡ record b { own = own_if w.refusal w.told.choice w.told.delta (Sends last) b.own } → Works (start_seized e (seize e.channel s.manager.plain) (node_in s)) s (Ok w) a
started_so e last kept limits w s b a k l is sought same z =
    started_by (seize e.channel s.manager.plain) e last w s b a (seize_brings e.channel s.manager.plain) sought same
    (ap (λ (x : SenderEnd). with_end (Sends x) s.own) (is ∙ ap (λ (x : Kept). record e { machine = senders.started x limits }) k ∙ ap (λ (x : Limits). record e { machine = senders.started (senders.kept_of (sender_data e.channel s.manager.plain)) x }) l)) z

-- ---- STOP

pub none_released : (channel : List ℕ) (t : Told) (v : CoreValue) → HasNoBatch channel v.plain → t.choice ≡ Runs → t.delta ≡ [] → MadeOr (parts_of (release_batch channel v.plain)) (Ok t) v v
none_released channel t v none c d =
    let M : Option Batch → Type 0 = λ o. MadeOr (parts_of (release_of channel o)) (Ok t) v v in
    subst M (sym none) (nothing_made t v c d)

zero_two : 0 + (0 + 0) ≤ 0
zero_two = omega arith

some_bring : (xs ys : List Part) → BringNone xs → BringNone ys → BringNone (xs ++ ys)
some_bring [] ys a b = b
some_bring (x ∷ xs) ys a b = (a.0, some_bring xs ys a.1 b)

release_brings : (channel : List ℕ) (o : Option Batch) → BringNone (parts_of (release_of channel o))
release_brings channel None = tt
release_brings channel (Some b) = (zero_two, tt)

leave_brings : (channel : List ℕ) (p : Plain) → BringNone (parts_of (leave channel p))
leave_brings channel p = (zero_one, tt)

pub stopped_so : (e last : SenderEnd) (w : Worked) (s b c a : NodeState) → last ≡ record e { machine = senders.stopped e.machine } → w.refusal ≡ None → MadeOr (parts_of (release_batch e.channel s.manager.plain)) (Ok w.told) s.manager b.manager → b ≡ record s { manager = b.manager }
    → IsBehind (left_parts e.channel w.told.choice false b.manager.plain) b.manager c.manager → c ≡ record b { manager = c.manager } → a ≡ record c { own = own_by w.told.choice w.told.delta (with_end (Sends last) c.own) c.own } → Works (stop_end (Some (Sends e)) (node_in s)) s (Ok w) a
stopped_so e last w s b c a is r m bs l cs z =
    let after : SenderEnd = record e { machine = senders.stopped e.machine } in
    let d : Deed = stop_end (Some (Sends e)) (node_in s) in
    let F : SenderEnd → NodeState → NodeState = λ x y. record y { own = own_by w.told.choice w.told.delta (with_end (Sends x) y.own) y.own } in
    let c_is : c ≡ record s { manager = c.manager } = cs ∙ ap (λ (x : NodeState). record x { manager = c.manager }) bs in
    let a_is : a ≡ F after (record s { manager = c.manager }) = z ∙ ap (λ (x : SenderEnd). F x c) is ∙ ap (F after) c_is in
    let A : NodeState → Type 0 = λ x. IsWorked d None w.told.choice w.told.delta s x in
    worked_from d w.refusal w.told.choice w.told.delta s a
    (subst A (sym a_is) (record {
      reply = refl;
      pushed = refl;
      received = refl;
      brings = some_bring (parts_of (release_batch e.channel s.manager.plain)) (parts_of (leave e.channel s.manager.plain)) (release_brings e.channel (batch_of e.channel s.manager.plain.channels.batches)) (leave_brings e.channel s.manager.plain);
      total = sends_less after s.own.ends;
      waits = waits_less (Sends after) s.own refl;
      made = made_left (parts_of (release_batch e.channel s.manager.plain)) e.channel false w.told.choice w.told.delta s.manager b.manager c.manager m l;
      state = refl;
    })) r

-- ---- RESET

no_doubt_if : (o : Option InDoubt) → is_some o ≡ false → o ≡ None
no_doubt_if None e = refl
no_doubt_if (Some d) e = absurd cc

reason_is : (r x : OpRefusal) → Some r ≡ Some x → r ≡ x
reason_is r x e = cc

reset_is : (o : Option OpRefusal) (reason : OpRefusal) (own : Own) (d : Deed) → Some reason ≡ o → refused_or o own d ≡ refused reason own
reset_is None reason own d e = absurd cc
reset_is (Some x) reason own d e = ap (λ (y : OpRefusal). refused y own) (sym (reason_is reason x e))

done_is : (o : Option OpRefusal) (own : Own) (d : Deed) → None ≡ o → refused_or o own d ≡ d
done_is None own d e = refl
done_is (Some x) own d e = absurd cc

abbrev reset_deed : ℕ → SenderEnd → NodeState → Deed
reset_deed number e s = operated (parts_of (harden e.channel (notes.SeqSet end_kinds.Sender (number - 1)) s.manager.plain)) s.own

pub reset_refused : (number : ℕ) (e : SenderEnd) (reason : OpRefusal) (w : Worked) (s : NodeState) → Some reason ≡ unset e number (node_in s) → w.refusal ≡ Some reason → w.told.choice ≡ Runs → w.told.delta ≡ [] → Works (reset_end number (Some (Sends e)) (node_in s)) s (Ok w) s
reset_refused number e reason w s is r c d = refuses_so reason w s (reset_end number (Some (Sends e)) (node_in s)) r c d (reset_is (unset e number (node_in s)) reason s.own (reset_deed number e s) is)

pub reset_done : (number : ℕ) (e : SenderEnd) (result : Result Worked Want) (s a : NodeState) → None ≡ unset e number (node_in s) → Works (reset_deed number e s) s result a → Works (reset_end number (Some (Sends e)) (node_in s)) s result a
reset_done number e result s a is k =
    let W : Deed → Type 0 = λ x. Works x s result a in
    subst W (sym (done_is (unset e number (node_in s)) s.own (reset_deed number e s) is)) k

first_false : (a b c : Bool) → None ≡ (if a then Some reasons.InDoubt else if b then Some reasons.Running else if c then Some reasons.BadNumber else None) → (a ≡ false) × (c ≡ false)
first_false true b c e = absurd cc
first_false false true c e = absurd cc
first_false false false true e = absurd cc
first_false false false false e = (refl, refl)

pub reset_can : (number : ℕ) (e : SenderEnd) (s : NodeState) → None ≡ unset e number (node_in s) → HasNoDoubt e.channel s.manager.plain
reset_can number e s is = no_doubt_if (in_doubt_of (sender_data e.channel s.manager.plain)) (first_false (is_in_doubt e.channel (node_in s)) (senders.is_running e.machine.state) (is_bad_number number (limits_here e.channel (node_in s))) is).0

not_zero : (n m : ℕ) → ((n == 0) || nat_lt m n) ≡ false → 1 ≤ n
not_zero zero m e = absurd cc
not_zero (suc n) m e = omega arith

pub reset_low : (number : ℕ) (e : SenderEnd) (s : NodeState) → None ≡ unset e number (node_in s) → 1 ≤ number
reset_low number e s is =
    not_zero number (limits_here e.channel (node_in s)).sequence_wrap (first_false (is_in_doubt e.channel (node_in s)) (senders.is_running e.machine.state) (is_bad_number number (limits_here e.channel (node_in s))) is).1
