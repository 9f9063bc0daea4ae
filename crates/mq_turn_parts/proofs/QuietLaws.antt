-- A sender's turns and timeouts raise no counter of its manager, leave what receivers keep, and are of as many ends.
use Rattle.std.proofs.Common.{◌≡◌, ℕ, ◌+◌, ◌≤◌, refl, sym, ap, subst, List, [], ◌∷◌, ◌++◌, Bool, true, false, length, arith}
use Rattle.std.specs.Prelude.{Option, Some, None, if◌then◌else◌, ◌==◌}
use Rattle.std.specs.List.{AllByRecursion}
use Rattle.mq_sync.specs.declared.data.End.TheVariants as ends
use Rattle.std.specs.Option.{option_map}
use Rattle.mq_sync.specs.declared.unit.Settle.{Settle}
use Rattle.mq_sync.specs.Settlement.{is_commit}
use Rattle.mq_sync.specs.Units.{unit_named}
use Rattle.mq_calls.specs.declared.agents.Note.{Note}
use Rattle.mq_calls.specs.declared.agents.Note.TheVariants as notes
use Rattle.mq_calls.specs.declared.agents.PrepareFault.TheVariants as prepare_faults
use Rattle.mq_calls.specs.declared.state.Batch.{Batch}
use Rattle.mq_sender.specs.declared.turns.SenderDoes.TheVariants as does
use Rattle.mq_sender.specs.declared.turns.SenderOut.TheVariants as outs
use Rattle.mq_sender.specs.declared.state.Sender.{Sender}
use Rattle.mq_sender.specs.Table.{sender_next}
use Rattle.mq_sender.specs.States.{awaits, is_running, timed_out}
use Rattle.mq_sender.specs.After.{number_sent, sender_after}
use Rattle.mq_sender.specs.Frames.{bind_frame, end_frame}
use Rattle.mq_queue.specs.declared.row.Row.{Row}
use Rattle.mq_events.specs.from_law_counts.Counts.{PartsClimb}
use Rattle.mq_events.specs.from_law_image.Bounds.{all_growth}
use Rattle.mq_events.proofs.from_law_counts.Climbing.{grown, stay, two_climb}
use Rattle.mq_calls.specs.Words.{batch_of, is_full, need, sender_data, sender_or}
use Rattle.mq_calls.specs.declared.deltas.Did.TheVariants as did
use Rattle.mq_calls.specs.Steps.{Part, Step, do_all, do_part, logged, tested, when}
use Rattle.mq_calls.specs.Steps.Step.{Do, Refuse}
use Rattle.mq_spec_manager.specs.Words.{expired_parts}
use Rattle.mq_spec_manager.specs.Agents.{batch_row, expire, expired_rows, harden, hold_batch, leave, prepare, prepare_of, prepared_changes, prepared_record, queue_of_sender, release_batch, release_of, stock}
use Rattle.mq_spec_node.specs.Terms.{Frame, Plain, PrepareFault, Running, Up, Down, Seen, SenderDoes}
use Rattle.mq_spec_node.specs.Words.{ChannelEnd, Deed, Node, Own, SenderEnd, after_timeout, as_sender, cable_of, carried, doubted, end_in, leave_if_stopped, parts_of, prepare_deed, sender_deed_by, sender_end, sender_turn, sent, set_end, settle_parts, settle_parts_if, timeout_of, where_up, with_end}
use Rattle.mq_spec_node.specs.Node.ChannelEnd.{Receives, Sends}
use Rattle.mq_events.specs.Counts.{kept_in, kept_total}
use Rattle.mq_events.proofs.KeepLaws.{with_long}
use Rattle.mq_turn_parts.proofs.DueLaws.{cable_found}

-- Parts that bring nothing.
abbrev pub BringNone : List Part → Type 0
BringNone parts = AllByRecursion (λ (x : Part). all_growth x.changes ≤ 0) parts

abbrev pub StepBrings : {F T : Type 0} → Step F T → Type 0
StepBrings (Refuse reason) = Unit {0}
StepBrings (Do reply parts) = BringNone parts

zero_one : 0 + 0 ≤ 0
zero_one = omega arith

zero_two : 0 + (0 + 0) ≤ 0
zero_two = omega arith

le_same : (a b : ℕ) → a ≡ b → a ≤ b
le_same a b e = omega (arith, e)

pub none_climb : (parts : List Part) (p : Plain) → BringNone parts → PartsClimb 0 parts p
none_climb [] p b = record { all = stay 0 p; stopped = λ part left. stay 0 p }
none_climb (x ∷ xs) p b = two_climb 0 0 x xs p (grown 0 x.changes (logged x.forced p) b.0) (none_climb xs (do_part x p) b.1)

some_bring : (xs ys : List Part) → BringNone xs → BringNone ys → BringNone (xs ++ ys)
some_bring [] ys a b = b
some_bring (x ∷ xs) ys a b = (a.0, some_bring xs ys a.1 b)

leave_brings : (channel : List ℕ) (p : Plain) → BringNone (parts_of (leave channel p))
leave_brings channel p = (zero_one, tt)

leaves_bring : (b : Bool) (channel : List ℕ) (p : Plain) → BringNone (if b then [] else parts_of (leave channel p))
leaves_bring true channel p = tt
leaves_bring false channel p = leave_brings channel p

release_brings : (channel : List ℕ) (o : Option Batch) → BringNone (parts_of (release_of channel o))
release_brings channel None = tt
release_brings channel (Some b) = (zero_two, tt)

pub harden_brings : (channel : List ℕ) (note : Note) (p : Plain) → BringNone (parts_of (harden channel note p))
harden_brings channel (notes.Session partner session) p = (zero_one, tt)
harden_brings channel (notes.Resolved unit true operator) p = (zero_two, tt)
harden_brings channel (notes.Resolved unit false operator) p = (zero_two, tt)
harden_brings channel (notes.Bound partner session last) p = (zero_one, tt)
harden_brings channel (notes.Closed session) p = (zero_one, tt)
harden_brings channel (notes.SeqSet ends.Sender last) p = (zero_one, tt)
harden_brings channel (notes.SeqSet ends.Receiver last) p = (zero_one, tt)

expire_brings : (queue : List ℕ) (rows : List Row) → BringNone (expired_parts queue rows)
expire_brings queue [] = tt
expire_brings queue (row ∷ rows) = (zero_one, tt)

settle_brings : (e : SenderEnd) (s : Option Settle) (p : Plain) → BringNone (settle_parts_if e s p)
settle_brings e None p = tt
settle_brings e (Some s) p = harden_brings e.channel (notes.Resolved (doubted e.machine.kept.doubt) (is_commit s) false) p

-- what a batch's preparing does
abbrev batch_part : List ℕ → ℕ → Batch → Plain → Part
batch_part channel last b p = record {
  forced = Some (prepared_record channel last b);
  changes = prepared_changes channel last b (sender_or (sender_data channel p));
  delta = did.Prepared channel b.unit ∷ [];
}

abbrev batch_step : List ℕ → ℕ → Batch → Plain → Step PrepareFault (Unit {0})
batch_step channel last b p = Do tt (batch_part channel last b p ∷ [])

prepared_if : (channel : List ℕ) (last : ℕ) (x : Batch) (p : Plain) (b : Bool) → StepBrings (tested (when b prepare_faults.NoRoom ∷ []) (batch_step channel last x p))
prepared_if channel last x p true = tt
prepared_if channel last x p false = (zero_two, tt)

prepare_brings : (channel : List ℕ) (last : ℕ) (o : Option Batch) (p : Plain) → StepBrings (prepare_of channel last o p)
prepare_brings channel last None p = tt
prepare_brings channel last (Some b) p = prepared_if channel last b p (is_full (need (prepared_record channel last b)) p)

-- A sender's end in its place: no message of a receiver's is touched.
kept_at : (cable : ℕ) (e new : SenderEnd) (y : ChannelEnd) (ys : List ChannelEnd) (b : Bool) → as_sender (if b then Some y else end_in cable ys) ≡ Some e → (b ≡ false → as_sender (end_in cable ys) ≡ Some e → kept_in (set_end (Sends new) ys) ≡ kept_in ys)
    → kept_in (if b then Sends new ∷ ys else y ∷ set_end (Sends new) ys) ≡ kept_in (y ∷ ys)
kept_at cable e new (Sends x) ys true h k = refl
kept_at cable e new (Receives x) ys true h k = absurd cc
kept_at cable e new (Sends x) ys false h k = k refl h
kept_at cable e new (Receives x) ys false h k = ap (λ (n : ℕ). length x.kept + n) (k refl h)

kept_set : (e new : SenderEnd) (es : List ChannelEnd) → as_sender (end_in new.cable es) ≡ Some e → kept_in (set_end (Sends new) es) ≡ kept_in es
kept_set e new [] h = refl
kept_set e new (y ∷ ys) h = kept_at new.cable e new y ys (cable_of y == new.cable) h (λ f g. kept_set e new ys g)

pub kept_same : (own : Own) (e new : SenderEnd) → sender_end new.cable own ≡ Some e → kept_total (with_end (Sends new) own) ≤ kept_total own
kept_same own e new there = le_same (kept_total (with_end (Sends new) own)) (kept_total own) (kept_set e new own.ends there)

-- Deeds of a sender.
abbrev pub IsQuiet : Deed → Own → Type 0
IsQuiet d own = BringNone d.parts × (kept_total d.own ≤ kept_total own) × (length d.own.ends ≡ length own.ends)

abbrev pub Quiet : Option Deed → Own → Type 0
Quiet None own = Unit {0}
Quiet (Some d) own = IsQuiet d own

abbrev pub after : SenderEnd → Sender → SenderEnd
after e machine = record e { machine = machine }

sent_quiet : (e : SenderEnd) (d : SenderDoes) (parts : List Part) (pushed : Option Frame) (n : Node) → sender_end e.cable n.own ≡ Some e → BringNone parts → IsQuiet (sent e d parts pushed n) n.own
sent_quiet e d parts pushed n there b = (
  some_bring parts (leave_if_stopped e.channel (sender_after e.machine d outs.Done).state n.manager) b (leaves_bring (is_running (sender_after e.machine d outs.Done).state) e.channel n.manager),
  kept_same n.own e (after e (sender_after e.machine d outs.Done)) there,
  with_long (Sends (after e (sender_after e.machine d outs.Done))) n.own,
)

prepared_quiet : (e : SenderEnd) (s : Step PrepareFault (Unit {0})) (n : Node) → sender_end e.cable n.own ≡ Some e → StepBrings s → IsQuiet (prepare_deed e s n) n.own
prepared_quiet e (Refuse fault) n there b = (
  some_bring (parts_of (release_batch e.channel n.manager)) (parts_of (leave e.channel n.manager)) (release_brings e.channel (batch_of e.channel n.manager.channels.batches)) (leave_brings e.channel n.manager),
  kept_same n.own e (after e (sender_after e.machine does.Prepare outs.NoRoom)) there,
  with_long (Sends (after e (sender_after e.machine does.Prepare outs.NoRoom))) n.own,
)
prepared_quiet e (Do reply parts) n there b = sent_quiet e does.Prepare parts None n there b

line_quiet : (stamp : ℕ) (e : SenderEnd) (d : SenderDoes) (n : Node) → sender_end e.cable n.own ≡ Some e → Quiet (sender_deed_by stamp e d n) n.own
line_quiet stamp e does.Still n there = tt
line_quiet stamp e does.Ignore n there = (tt, le_same (kept_total n.own) (kept_total n.own) refl, refl)
line_quiet stamp e (does.HardenSession session) n there =
    sent_quiet e (does.HardenSession session) (parts_of (harden e.channel (notes.Session e.partner session) n.manager)) None n there (harden_brings e.channel (notes.Session e.partner session) n.manager)
line_quiet stamp e does.PushBind n there = sent_quiet e does.PushBind [] (Some (bind_frame stamp e.machine)) n there tt
line_quiet stamp e does.Expire n there =
    sent_quiet e does.Expire (parts_of (expire e.channel n.manager)) None n there (expire_brings (queue_of_sender e.channel n.manager) (expired_rows (queue_of_sender e.channel n.manager) n.manager))
line_quiet stamp e (does.Begin k count) n there =
    let parts : List Part = parts_of (hold_batch e.channel (unit_named e.machine.kept.session k) count n.manager) in
    sent_quiet e (does.Begin k count) parts (option_map (carried stamp e k 1) (batch_row e.channel 1 (do_all parts n.manager))) n there (zero_two, tt)
line_quiet stamp e (does.PushMsg index) n there = sent_quiet e (does.PushMsg index) [] (option_map (carried stamp e e.machine.begun index) (batch_row e.channel index n.manager)) n there tt
line_quiet stamp e does.Prepare n there =
    let last : ℕ = number_sent e.machine.state e.machine.kept.last in
    prepared_quiet e (prepare e.channel last n.manager) n there (prepare_brings e.channel last (batch_of e.channel n.manager.channels.batches) n.manager)
line_quiet stamp e does.PushEnd n there = sent_quiet e does.PushEnd [] (Some (end_frame stamp e.machine)) n there tt
line_quiet stamp e (does.Bound settle partner) n there = sent_quiet e (does.Bound settle partner) (settle_parts_if e settle n.manager) None n there (settle_brings e settle n.manager)
line_quiet stamp e does.Commit n there = sent_quiet e does.Commit (settle_parts e true n.manager) None n there (harden_brings e.channel (notes.Resolved (doubted e.machine.kept.doubt) true false) n.manager)
line_quiet stamp e (does.Backout reason) n there = sent_quiet e (does.Backout reason) (settle_parts e false n.manager) None n there (harden_brings e.channel (notes.Resolved (doubted e.machine.kept.doubt) false false) n.manager)

own_place : (cable : ℕ) (own : Own) (e : SenderEnd) → sender_end cable own ≡ Some e → sender_end e.cable own ≡ Some e
own_place cable own e there = subst (λ (k : ℕ). sender_end k own ≡ Some e) (sym (cable_found cable own e there)) there

turned_quiet : (stamp cable : ℕ) (seen : Seen) (n : Node) (o : Option SenderEnd) → sender_end cable n.own ≡ o → Quiet (sender_turn stamp o seen n) n.own
turned_quiet stamp cable seen n None there = tt
turned_quiet stamp cable seen n (Some e) there = line_quiet stamp e (sender_next e.machine seen (stock e.channel n.manager)) n (own_place cable n.own e there)

timed_if : (b : Bool) (d : Deed) (own : Own) → IsQuiet d own → Quiet (if b then Some d else None) own
timed_if true d own q = q
timed_if false d own q = tt

timed_quiet : (cable : ℕ) (n : Node) (o : Option SenderEnd) → sender_end cable n.own ≡ o → Quiet (timeout_of o n) n.own
timed_quiet cable n None there = tt
timed_quiet cable n (Some e) there = timed_if (awaits e.machine.state) (after_timeout e (timed_out e.machine) n) n.own
    (leaves_bring (is_running (timed_out e.machine).state) e.channel n.manager, kept_same n.own e (after e (timed_out e.machine)) (own_place cable n.own e there), with_long (Sends (after e (timed_out e.machine))) n.own)

up_quiet : (r : Running) (d : Option Deed) (own : Own) → Quiet d own → Quiet (where_up r d) own
up_quiet Up d own q = q
up_quiet (Down noted starts) d own q = tt

pub turn_quiet : (stamp cable : ℕ) (seen : Seen) (n : Node) → Quiet (where_up n.manager.running (sender_turn stamp (sender_end cable n.own) seen n)) n.own
turn_quiet stamp cable seen n = up_quiet n.manager.running (sender_turn stamp (sender_end cable n.own) seen n) n.own (turned_quiet stamp cable seen n (sender_end cable n.own) refl)

pub timeout_quiet : (cable : ℕ) (n : Node) → Quiet (where_up n.manager.running (timeout_of (sender_end cable n.own) n)) n.own
timeout_quiet cable n = up_quiet n.manager.running (timeout_of (sender_end cable n.own) n) n.own (timed_quiet cable n (sender_end cable n.own) refl)
