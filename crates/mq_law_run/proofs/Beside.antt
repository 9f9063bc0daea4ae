-- What ends of channels ask of their manager leaves all beside rows and channels: definitions, connections, numbers, the moment.
use Rattle.std.proofs.Common.{ℕ, ◌≡◌, ◌≢◌, Bool, true, false, List, [], ◌∷◌, ◌++◌, refl, ap, sym, ◌∙◌, inl, inr}
use Rattle.std.specs.Prelude.{Option, Some, None, if◌then◌else◌, ◌==◌, ◌&&◌, ◌||◌, nat_lt}
use Rattle.mq_message.specs.declared.message.Ident.{Ident}
use Rattle.mq_frame.specs.declared.frame.Seen.{Seen}
use Rattle.mq_queue.specs.Queues.{AreDistinct, Lacks}
use Rattle.mq_queue.specs.declared.row.Row.{Row}
use Rattle.mq_sync.specs.declared.unit.Settle.{Settle}
use Rattle.mq_sync.specs.declared.unit.Settle.TheVariants as settles
use Rattle.mq_sender.specs.declared.state.SenderState.{SenderState}
use Rattle.mq_sender.specs.declared.turns.SenderDoes.{SenderDoes}
use Rattle.mq_sender.specs.declared.turns.SenderDoes.TheVariants as does
use Rattle.mq_sender.specs.States.{awaits, is_running, timed_out}
use Rattle.mq_sender.specs.After.{number_sent}
use Rattle.mq_receiver.specs.declared.turns.ReceiverDoes.{ReceiverDoes}
use Rattle.mq_receiver.specs.declared.turns.ReceiverDoes.TheVariants as takes
use Rattle.mq_calls.specs.declared.records.LogRecord.{LogRecord}
use Rattle.mq_history.specs.declared.calls.Reply.TheVariants as replies
use Rattle.mq_calls.specs.State.{Change, Given, Numbers, Plain}
use Rattle.mq_calls.specs.declared.state.Batch.{Batch}
use Rattle.mq_calls.specs.State.Change.{Place, Try, Undoubt, Hold, Leave, Release, SetSender, SetReceiver, Seize, Unseize, AddBatch, DropBatch, SetBound}
use Rattle.mq_calls.specs.Reads.{batch_of, is_full}
use Rattle.mq_calls.specs.Sizes.{need}
use Rattle.mq_objects.specs.Names.{local_of}
use Rattle.mq_calls.specs.Condition.{condition}
use Rattle.mq_calls.specs.Changes.{apply, apply_all, try_if}
use Rattle.mq_calls.specs.Steps.{Part, do_all, logged}
use Rattle.mq_spec_manager.specs.Get.{expired_parts}
use Rattle.mq_spec_manager.specs.Agents.{expired_rows, leave, prepare_of, prepared_record, queue_of_sender, release_of}
use Rattle.mq_spec_node.specs.Node.{Node, ReceiverEnd, SenderEnd}
use Rattle.mq_spec_node.specs.Deeds.{Deed, parts_of}
use Rattle.mq_spec_node.specs.Receivers.{receiver_deed_by}
use Rattle.mq_spec_node.specs.Senders.{after_timeout, leave_if_stopped, prepare_deed, sender_deed_by, settle_parts_if, timeout_deed}
use Rattle.mq_spec_network.specs.Ledger.{Ledger}
use Rattle.mq_spec_network.specs.Story.{Mem}
use Rattle.mq_law_node.specs.from_law_seized.Each.{all_of, parts_of_all}
use Rattle.mq_law_node.proofs.from_law_seized.Each.{all_keep, kept_behind, parts_behind, parts_keep}
use Rattle.mq_law_manager.specs.Facts.{Differ, ident_of}
use Rattle.mq_law_manager.proofs.Lists.{ident_yes}
use Rattle.mq_law_node.proofs.Named.{bool_case}
use Rattle.mq_law_node.proofs.SenderTable.{prepared_by}
use Rattle.mq_law_rows.proofs.Lists.{is_false}
use Rattle.mq_law_stopped.specs.from_law_turns.Turns.{is_expiry}
use Rattle.mq_law_events.specs.Posting.{IsTimed}
use Rattle.mq_law_events.specs.Tied.{IsFresh, IsTold, connections_told}

-- the rows of a queue have idents of their own
lacks_of : (i : Ident) (xs : List Row) → ((y : Row) → Mem y xs → i ≢ y.message.ident) → Lacks i xs
lacks_of i [] f = tt
lacks_of i (x ∷ xs) f = (is_false _ (λ e. f x (inl refl) (sym (ident_yes x.message.ident i e))), lacks_of i xs (λ y n. f y (inr n)))

pub distinct_of : (xs : List Row) → Differ ident_of xs → AreDistinct xs
distinct_of [] d = tt
distinct_of (x ∷ xs) d = (lacks_of x.message.ident xs d.0, distinct_of xs d.1)

-- WHAT IS BESIDE ROWS AND CHANNELS
pub record IsBeside (p q : Plain) : Type 0 where
  pub given : q.given ≡ p.given
  pub running : q.running ≡ p.running
  pub definitions : q.definitions ≡ p.definitions
  pub connections : q.connections ≡ p.connections
  pub moment : q.moment ≡ p.moment
  pub numbers : q.numbers ≡ p.numbers

none_beside : (p : Plain) → IsBeside p p
none_beside p = record { given = refl; running = refl; definitions = refl; connections = refl; moment = refl; numbers = refl }

then_beside : (p q r : Plain) → IsBeside p q → IsBeside q r → IsBeside p r
then_beside p q r a b = record {
  given = b.given ∙ a.given;
  running = b.running ∙ a.running;
  definitions = b.definitions ∙ a.definitions;
  connections = b.connections ∙ a.connections;
  moment = b.moment ∙ a.moment;
  numbers = b.numbers ∙ a.numbers;
}

-- what ends ask
abbrev pub is_of_end : Change → Bool
is_of_end (Place queue message) = true
is_of_end (Try queue priority) = true
is_of_end (Undoubt ident) = true
is_of_end (Hold which by_) = true
is_of_end (Leave which) = true
is_of_end (Release which counted) = true
is_of_end (SetSender channel d) = true
is_of_end (SetReceiver channel d) = true
is_of_end (Seize s) = true
is_of_end (Unseize channel) = true
is_of_end (AddBatch b) = true
is_of_end (DropBatch channel) = true
is_of_end (SetBound channel is) = true
is_of_end _ = false

abbrev pub all_of_end : List Change → Bool
all_of_end cs = all_of is_of_end cs

abbrev pub parts_of_end : List Part → Bool
parts_of_end parts = parts_of_all is_of_end parts

change_beside : (c : Change) (p : Plain) → is_of_end c ≡ true → IsBeside p (apply c p)
change_beside (Place queue message) p e = record { given = refl; running = refl; definitions = refl; connections = refl; moment = refl; numbers = refl }
change_beside (Try queue priority) p e = bool_case (condition (local_of queue p.definitions) priority p) (λ t. IsBeside p (try_if t queue p)) (λ z. record { given = refl; running = refl; definitions = refl; connections = refl; moment = refl; numbers = refl }) (λ z. record { given = refl; running = refl; definitions = refl; connections = refl; moment = refl; numbers = refl })
change_beside (Undoubt ident) p e = record { given = refl; running = refl; definitions = refl; connections = refl; moment = refl; numbers = refl }
change_beside (Hold which by_) p e = record { given = refl; running = refl; definitions = refl; connections = refl; moment = refl; numbers = refl }
change_beside (Leave which) p e = record { given = refl; running = refl; definitions = refl; connections = refl; moment = refl; numbers = refl }
change_beside (Release which counted) p e = record { given = refl; running = refl; definitions = refl; connections = refl; moment = refl; numbers = refl }
change_beside (SetSender channel d) p e = record { given = refl; running = refl; definitions = refl; connections = refl; moment = refl; numbers = refl }
change_beside (SetReceiver channel d) p e = record { given = refl; running = refl; definitions = refl; connections = refl; moment = refl; numbers = refl }
change_beside (Seize s) p e = record { given = refl; running = refl; definitions = refl; connections = refl; moment = refl; numbers = refl }
change_beside (Unseize channel) p e = record { given = refl; running = refl; definitions = refl; connections = refl; moment = refl; numbers = refl }
change_beside (AddBatch b) p e = record { given = refl; running = refl; definitions = refl; connections = refl; moment = refl; numbers = refl }
change_beside (DropBatch channel) p e = record { given = refl; running = refl; definitions = refl; connections = refl; moment = refl; numbers = refl }
change_beside (SetBound channel true) p e = record { given = refl; running = refl; definitions = refl; connections = refl; moment = refl; numbers = refl }
change_beside (SetBound channel false) p e = record { given = refl; running = refl; definitions = refl; connections = refl; moment = refl; numbers = refl }
change_beside c p e = absurd cc

pub all_beside : (cs : List Change) (p : Plain) → all_of_end cs ≡ true → IsBeside p (apply_all cs p)
all_beside cs p e = all_keep is_of_end (IsBeside p) (λ c v z b. then_beside p v (apply c v) b (change_beside c v z)) cs p e (none_beside p)

logged_beside : (o : Option LogRecord) (p : Plain) → IsBeside p (logged o p)
logged_beside None p = none_beside p
logged_beside (Some r) p = record { given = refl; running = refl; definitions = refl; connections = refl; moment = refl; numbers = refl }

pub parts_beside : (parts : List Part) (p : Plain) → parts_of_end parts ≡ true → IsBeside p (do_all parts p)
parts_beside parts p e = kept_behind (IsBeside p) parts p (none_beside p) (parts_keep is_of_end (IsBeside p) (λ c v z b. then_beside p v (apply c v) b (change_beside c v z))
    (λ o v b. then_beside p v (logged o v) b (logged_beside o v)) parts p e (none_beside p))

-- so the ledger tells the manager again
pub beside_told : (m : ℕ) (p q : Plain) (l : Ledger) → IsBeside p q → IsTold m p l → IsTold m q l
beside_told m p q l b t = record {
  places = t.places;
  placed = t.placed;
  shelved = t.shelved;
  name = t.name ∙ ap (λ (g : Given). g.name) (sym b.given);
  definitions = t.definitions ∙ sym b.definitions;
  users = t.users;
  used = t.used;
  connections = t.connections ∙ ap (λ cs. connections_told cs) (sym b.connections);
}

abbrev is_unborn_by : Given → Numbers → Ident → Bool
is_unborn_by g n i = (i.manager == g.number) && (nat_lt n.incarnation i.incarnation || ((i.incarnation == n.incarnation) && nat_lt n.idents i.number))

pub beside_fresh : (given : Ident → Bool) (p q : Plain) → IsBeside p q → IsFresh given p → IsFresh given q
beside_fresh given p q b f = λ i u. f i ((λ j. is_unborn_by (sym b.given j) (sym b.numbers j) i) ∙ u)

pub beside_timed : (m : ℕ) (p q : Plain) (l : Ledger) → IsBeside p q → IsTimed m p l → IsTimed m q l
beside_timed m p q l b t = record { users = t.users; used = t.used; moment = t.moment ∙ sym b.moment }

-- DEEDS OF ENDS
abbrev pub IsOfEnd : Deed → Type 0
IsOfEnd d = (parts_of_end d.parts ≡ true) × (d.received ≡ [])

abbrev pub EachOfEnd : Option Deed → Type 0
EachOfEnd None = Unit {0}
EachOfEnd (Some d) = IsOfEnd d × (d.reply ≡ replies.Changed) × (d.wanting ≡ None)

leave_of_end : (c : List ℕ) (st : SenderState) (p : Plain) → parts_of_end (leave_if_stopped c st p) ≡ true
leave_of_end c st p = bool_case (is_running st) (λ b. parts_of_end (if b then [] else parts_of (leave c p)) ≡ true) (λ e. refl) (λ e. refl)

settle_of_end : (e : SenderEnd) (o : Option Settle) (p : Plain) → parts_of_end (settle_parts_if e o p) ≡ true
settle_of_end e None p = refl
settle_of_end e (Some settles.Commit) p = refl
settle_of_end e (Some settles.Backout) p = refl

pub release_of_end : (c : List ℕ) (o : Option Batch) (p : Plain) → parts_of_end (parts_of (release_of c o) ++ parts_of (leave c p)) ≡ true
release_of_end c None p = refl
release_of_end c (Some b) p = refl

prepare_of_end : (e : SenderEnd) (last : ℕ) (o : Option Batch) (n : Node) → EachOfEnd (Some (prepare_deed e (prepare_of e.channel last o n.manager) n))
prepare_of_end e last None n = ((refl, refl), refl, refl)
prepare_of_end e last (Some b) n = bool_case (is_full (need (prepared_record e.channel last b)) n.manager)
    (λ f. EachOfEnd (Some (prepare_deed e (prepared_by (record { cable = e.cable; channel = e.channel; partner = e.partner }) last b n.manager f) n)))
    (λ z. ((release_of_end e.channel (batch_of e.channel n.manager.channels.batches) n.manager, refl), refl, refl))
    (λ z. ((refl, refl), refl, refl))

pub senders_of_end : (stamp : ℕ) (e : SenderEnd) (d : SenderDoes) (n : Node) → is_expiry d ≡ false → EachOfEnd (sender_deed_by stamp e d n)
senders_of_end stamp e does.Still n z = tt
senders_of_end stamp e does.Ignore n z = ((refl, refl), refl, refl)
senders_of_end stamp e (does.HardenSession session) n z = ((refl, refl), refl, refl)
senders_of_end stamp e does.PushBind n z = ((refl, refl), refl, refl)
senders_of_end stamp e does.Expire n z = absurd cc
senders_of_end stamp e (does.Begin k count) n z = ((refl, refl), refl, refl)
senders_of_end stamp e (does.PushMsg index) n z = ((refl, refl), refl, refl)
senders_of_end stamp e does.Prepare n z = prepare_of_end e (number_sent e.machine.state e.machine.kept.last) (batch_of e.channel n.manager.channels.batches) n
senders_of_end stamp e does.PushEnd n z = ((refl, refl), refl, refl)
senders_of_end stamp e (does.Bound settle partner) n z = ((parts_behind is_of_end (settle_parts_if e settle n.manager) _ (settle_of_end e settle n.manager) (leave_of_end e.channel _ n.manager), refl), refl, refl)
senders_of_end stamp e does.Commit n z = ((settle_of_end e (Some settles.Commit) n.manager, refl), refl, refl)
senders_of_end stamp e (does.Backout reason) n z = ((parts_behind is_of_end (settle_parts_if e (Some settles.Backout) n.manager) (parts_of (leave e.channel n.manager)) (settle_of_end e (Some settles.Backout) n.manager) refl, refl), refl, refl)

pub timeouts_of_end : (e : SenderEnd) (n : Node) → EachOfEnd (timeout_deed e n)
timeouts_of_end e n = bool_case (awaits e.machine.state) (λ b. EachOfEnd (if b then Some (after_timeout e (timed_out e.machine) n) else None)) (λ z. ((leave_of_end e.channel (timed_out e.machine).state n.manager, refl), refl, refl)) (λ z. tt)

-- a receiver's, but for a commit
abbrev pub is_placing : ReceiverDoes → Bool
is_placing (takes.Place u) = true
is_placing _ = false

pub receivers_of_end : (stamp : ℕ) (e : ReceiverEnd) (seen : Seen) (d : ReceiverDoes) (n : Node) → is_placing d ≡ false → EachOfEnd (receiver_deed_by stamp e seen d n)
receivers_of_end stamp e seen takes.Still n z = tt
receivers_of_end stamp e seen takes.Ignore n z = ((refl, refl), refl, refl)
receivers_of_end stamp e seen takes.PushOwed n z = ((refl, refl), refl, refl)
receivers_of_end stamp e seen takes.Bind n z = ((refl, refl), refl, refl)
receivers_of_end stamp e seen takes.Keep n z = ((refl, refl), refl, refl)
receivers_of_end stamp e seen (takes.Place u) n z = absurd cc
receivers_of_end stamp e seen takes.Again n z = ((refl, refl), refl, refl)
receivers_of_end stamp e seen takes.Close n z = ((refl, refl), refl, refl)

-- BATCHES. All but a batch that begins adds none.
abbrev pub is_adding : SenderDoes → Bool
is_adding (does.Begin k count) = true
is_adding _ = false

abbrev pub adds_none : Change → Bool
adds_none (AddBatch b) = false
adds_none _ = true

abbrev pub all_add_none : List Change → Bool
all_add_none cs = all_of adds_none cs

abbrev pub parts_add_none : List Part → Bool
parts_add_none parts = parts_of_all adds_none parts

abbrev pub EachAddsNone : Option Deed → Type 0
EachAddsNone None = Unit {0}
EachAddsNone (Some d) = parts_add_none d.parts ≡ true

pub leave_adds : (c : List ℕ) (st : SenderState) (p : Plain) → parts_add_none (leave_if_stopped c st p) ≡ true
leave_adds c st p = bool_case (is_running st) (λ b. parts_add_none (if b then [] else parts_of (leave c p)) ≡ true) (λ e. refl) (λ e. refl)

settle_adds : (e : SenderEnd) (o : Option Settle) (p : Plain) → parts_add_none (settle_parts_if e o p) ≡ true
settle_adds e None p = refl
settle_adds e (Some settles.Commit) p = refl
settle_adds e (Some settles.Backout) p = refl

pub release_adds : (c : List ℕ) (o : Option Batch) (p : Plain) → parts_add_none (parts_of (release_of c o) ++ parts_of (leave c p)) ≡ true
release_adds c None p = refl
release_adds c (Some b) p = refl

prepare_adds : (e : SenderEnd) (last : ℕ) (o : Option Batch) (n : Node) → EachAddsNone (Some (prepare_deed e (prepare_of e.channel last o n.manager) n))
prepare_adds e last None n = refl
prepare_adds e last (Some b) n = bool_case (is_full (need (prepared_record e.channel last b)) n.manager)
    (λ f. EachAddsNone (Some (prepare_deed e (prepared_by (record { cable = e.cable; channel = e.channel; partner = e.partner }) last b n.manager f) n)))
    (λ z. release_adds e.channel (batch_of e.channel n.manager.channels.batches) n.manager)
    (λ z. refl)

expire_adds : (queue : List ℕ) (rows : List Row) → parts_add_none (expired_parts queue rows) ≡ true
expire_adds queue [] = refl
expire_adds queue (row ∷ rows) = refl

pub senders_add : (stamp : ℕ) (e : SenderEnd) (d : SenderDoes) (n : Node) → is_adding d ≡ false → EachAddsNone (sender_deed_by stamp e d n)
senders_add stamp e does.Still n z = tt
senders_add stamp e does.Ignore n z = refl
senders_add stamp e (does.HardenSession session) n z = refl
senders_add stamp e does.PushBind n z = refl
senders_add stamp e does.Expire n z = parts_behind adds_none (expired_parts (queue_of_sender e.channel n.manager) (expired_rows (queue_of_sender e.channel n.manager) n.manager)) (leave_if_stopped e.channel e.machine.state n.manager)
    (expire_adds (queue_of_sender e.channel n.manager) (expired_rows (queue_of_sender e.channel n.manager) n.manager)) (leave_adds e.channel e.machine.state n.manager)
senders_add stamp e (does.Begin k count) n z = absurd cc
senders_add stamp e (does.PushMsg index) n z = refl
senders_add stamp e does.Prepare n z = prepare_adds e (number_sent e.machine.state e.machine.kept.last) (batch_of e.channel n.manager.channels.batches) n
senders_add stamp e does.PushEnd n z = refl
senders_add stamp e (does.Bound settle partner) n z = parts_behind adds_none (settle_parts_if e settle n.manager) _ (settle_adds e settle n.manager) (leave_adds e.channel _ n.manager)
senders_add stamp e does.Commit n z = settle_adds e (Some settles.Commit) n.manager
senders_add stamp e (does.Backout reason) n z = parts_behind adds_none (settle_parts_if e (Some settles.Backout) n.manager) (parts_of (leave e.channel n.manager)) (settle_adds e (Some settles.Backout) n.manager) refl

pub timeouts_add : (e : SenderEnd) (n : Node) → EachAddsNone (timeout_deed e n)
timeouts_add e n = bool_case (awaits e.machine.state) (λ b. EachAddsNone (if b then Some (after_timeout e (timed_out e.machine) n) else None)) (λ z. leave_adds e.channel (timed_out e.machine).state n.manager) (λ z. tt)
