-- A sender that had a timeout waits no more, and no trigger is due that was not.
use Rattle.std.proofs.Common.{◌≡◌, ℕ, ◌+◌, ◌<◌, ◌≤◌, refl, sym, ap, subst, ◌∙◌, List, [], ◌∷◌, Bool, true, false, nat_lt, arith}
use Rattle.std.specs.Prelude.{Option, Some, None, if◌then◌else◌, ◌==◌}
use Rattle.mq_calls.specs.declared.choices.Choice.{Choice}
use Rattle.mq_calls.specs.declared.choices.Choice.TheVariants.{Runs, NoMemory, Stopped}
use Rattle.mq_calls.specs.Reads.{queue_in}
use Rattle.mq_calls.specs.State.{Queue}
use Rattle.mq_calls.specs.Steps.{do_all}
use Rattle.mq_objects.specs.declared.object.LocalQueue.{LocalQueue}
use Rattle.mq_objects.specs.Names.{locals_of}
use Rattle.mq_sender.specs.declared.state.Sender.{Sender}
use Rattle.mq_sender.specs.declared.state.SenderState.TheVariants as states
use Rattle.mq_sender.specs.declared.state.StopCause.TheVariants as causes
use Rattle.mq_sender.specs.States.{awaits, timed_out, tried_again}
use Rattle.mq_spec_manager.specs.Triggers.{first_due}
use Rattle.mq_spec_node.specs.Terms.{Did, Plain, Running, Up, Down}
use Rattle.mq_spec_node.specs.Words.{ChannelEnd, Node, Own, SenderEnd, as_sender, cable_of, end_in, node_of, sender_end, set_end, trigger_deed, trigger_deed_of, where_up, with_end}
use Rattle.mq_spec_node.specs.Node.ChannelEnd.{Receives, Sends}
use Rattle.mq_events.specs.Counts.{waiting_in, waiting_total}
use Rattle.mq_events.specs.States.{IsServed, NodeState}
use Rattle.mq_turn_parts.specs.Turns.{IsDue, left_parts, own_by}

-- The machine.
again_still : (m : Sender) (b : Bool) → awaits (if b then record m { state = states.Starting; tries = m.tries + 1 } else record m { state = states.Stopped causes.NoAnswer }).state ≡ false
again_still m true = refl
again_still m false = refl

pub timed_still : (m : Sender) → awaits m.state ≡ true → awaits (timed_out m).state ≡ false
timed_still m w = ap (λ (b : Bool). awaits (if b then tried_again m else m).state) w ∙ again_still m (nat_lt m.tries m.limits.short_retry)

-- The ends: one waits less.
one_less : (a b : Bool) (n : ℕ) → a ≡ true → b ≡ false → (if b then 1 else 0) + n + 1 ≡ (if a then 1 else 0) + n
one_less true false n x y = omega arith
one_less true true n x y = absurd cc
one_less false b n x y = absurd cc

beside : (k m n : ℕ) → m + 1 ≡ n → k + m + 1 ≡ k + n
beside k m n e = omega (arith, e)

waits_at : (e new : SenderEnd) (y : ChannelEnd) (ys : List ChannelEnd) (b : Bool) → as_sender (if b then Some y else end_in new.cable ys) ≡ Some e → awaits e.machine.state ≡ true → awaits new.machine.state ≡ false
    → (b ≡ false → as_sender (end_in new.cable ys) ≡ Some e → waiting_in (set_end (Sends new) ys) + 1 ≡ waiting_in ys) → waiting_in (if b then Sends new ∷ ys else y ∷ set_end (Sends new) ys) + 1 ≡ waiting_in (y ∷ ys)
waits_at e new (Sends x) ys true h w v k =
    let is : x ≡ e = cc in
    one_less (awaits x.machine.state) (awaits new.machine.state) (waiting_in ys) (ap (λ (z : SenderEnd). awaits z.machine.state) is ∙ w) v
waits_at e new (Receives x) ys true h w v k = absurd cc
waits_at e new (Sends x) ys false h w v k = beside (if awaits x.machine.state then 1 else 0) (waiting_in (set_end (Sends new) ys)) (waiting_in ys) (k refl h)
waits_at e new (Receives x) ys false h w v k = k refl h

waits_set : (e new : SenderEnd) (es : List ChannelEnd) → as_sender (end_in new.cable es) ≡ Some e → awaits e.machine.state ≡ true → awaits new.machine.state ≡ false → waiting_in (set_end (Sends new) es) + 1 ≡ waiting_in es
waits_set e new [] h w v = absurd cc
waits_set e new (y ∷ ys) h w v = waits_at e new y ys (cable_of y == new.cable) h w v (λ f g. waits_set e new ys g w v)

pub waits_one : (own : Own) (e new : SenderEnd) → sender_end new.cable own ≡ Some e → awaits e.machine.state ≡ true → awaits new.machine.state ≡ false → waiting_total (with_end (Sends new) own) + 1 ≡ waiting_total own
waits_one own e new there w v = waits_set e new own.ends there w v

-- so there is one that waits, and what is set aside has an entry for it
one_there : (a b n : ℕ) → a + 1 ≡ b → b ≤ n → 0 < n
one_there a b n e le = omega (arith, e, le)

pub due_aside : (s : NodeState) (e : SenderEnd) → IsDue e.cable e s → waiting_total s.own ≤ s.spare.aside → 0 < s.spare.aside
due_aside s e due le =
    let new : SenderEnd = record e { machine = timed_out e.machine } in
    one_there (waiting_total (with_end (Sends new) s.own)) (waiting_total s.own) s.spare.aside (waits_one s.own e new due.there due.waits (timed_still e.machine due.waits)) le

-- What is known of a node's ends where all was done.
pub own_runs : (choice : Choice) (delta : List Did) (behind before : Own) → choice ≡ Runs → own_by choice delta behind before ≡ own_by Runs delta behind before
own_runs choice delta behind before c = ap (λ (x : Choice). own_by x delta behind before) c

-- A queue is due as it was, whatever is done to ends.
first_same : (qs : List LocalQueue) (p q : Plain) → q.queues ≡ p.queues → first_due qs q ≡ first_due qs p
first_same [] p q h = refl
first_same (x ∷ xs) p q h =
    ap (λ (ks : List Queue). if nat_lt 0 (queue_in x.name ks).due then Some x else first_due xs q) h
    ∙ ap (λ (o : Option LocalQueue). if nat_lt 0 (queue_in x.name p.queues).due then Some x else o) (first_same xs p q h)

still_none : (r : Running) (o : Option LocalQueue) (n m : Node) → where_up r (trigger_deed_of o n) ≡ None → where_up r (trigger_deed_of o m) ≡ None
still_none Up None n m h = refl
still_none Up (Some q) n m h = absurd cc
still_none (Down noted starts) o n m h = refl

none_left : (p q : Plain) (own behind : Own) → q.running ≡ p.running → q.definitions ≡ p.definitions → q.queues ≡ p.queues → trigger_deed (node_of p own) ≡ None → trigger_deed (node_of q behind) ≡ None
none_left p q own behind running definitions queues h =
    let due : first_due (locals_of q.definitions) q ≡ first_due (locals_of p.definitions) p =
    first_same (locals_of q.definitions) p q queues ∙ ap (λ (ls : List LocalQueue). first_due ls p) (ap locals_of definitions) in
    ap (λ (r : Running). where_up r (trigger_deed_of (first_due (locals_of q.definitions) q) (node_of q behind))) running
    ∙ ap (λ (o : Option LocalQueue). where_up p.running (trigger_deed_of o (node_of q behind))) due
    ∙ still_none p.running (first_due (locals_of p.definitions) p) (node_of p own) (node_of q behind) h

left_none : (channel : List ℕ) (choice : Choice) (running : Bool) (p : Plain) (own behind : Own) → trigger_deed (node_of p own) ≡ None → trigger_deed (node_of (do_all (left_parts channel choice running p) p) behind) ≡ None
left_none channel Runs true p own behind h = none_left p p own behind refl refl refl h
left_none channel Runs false p own behind h = none_left p (do_all (left_parts channel Runs false p) p) own behind refl refl refl h
left_none channel NoMemory running p own behind h = none_left p p own behind refl refl refl h
left_none channel (Stopped by n left) running p own behind h = none_left p p own behind refl refl refl h

pub served_left : (s t : NodeState) (channel : List ℕ) (choice : Choice) (running : Bool) → IsServed s → t.manager.plain ≡ do_all (left_parts channel choice running s.manager.plain) s.manager.plain → IsServed t
served_left s t channel choice running served is =
    subst (λ (p : Plain). trigger_deed (node_of p t.own) ≡ None) (sym is) (left_none channel choice running s.manager.plain s.own t.own served)
