-- What a turn of a sender's end posts: nothing, but for expired rows, which the ledger removes too.
use Rattle.std.proofs.Common.{ℕ, ◌≡◌, Bool, true, false, not, List, [], ◌∷◌, ◌++◌, refl, ap, sym, subst, ◌∙◌, map, take}
use Rattle.std.specs.Prelude.{Option, Some, None, ◌&&◌, if◌then◌else◌}
use Rattle.std.proofs.lemmas.Bool.{and_parts}
use Rattle.mq_message.specs.declared.message.Ident.{Ident}
use Rattle.mq_message.specs.declared.message.Message.{Message}
use Rattle.mq_queue.specs.declared.row.Row.{Row}
use Rattle.mq_queue.specs.Rows.{is_free}
use Rattle.mq_sync.specs.declared.unit.Settle.{Settle}
use Rattle.mq_sync.specs.declared.unit.Settle.TheVariants as settles
use Rattle.mq_sync.specs.declared.unit.Unit.{Unit as Luw}
use Rattle.mq_sender.specs.declared.state.SenderState.{SenderState}
use Rattle.mq_sender.specs.declared.turns.SenderDoes.{SenderDoes}
use Rattle.mq_sender.specs.declared.turns.SenderDoes.TheVariants as does
use Rattle.mq_sender.specs.After.{number_sent, sender_after}
use Rattle.mq_sender.specs.declared.turns.SenderOut.TheVariants as outs
use Rattle.mq_sync.specs.Units.{unit_named}
use Rattle.mq_message.specs.declared.place.Holder.TheVariants as holders
use Rattle.mq_sender.specs.States.{is_running}
use Rattle.mq_calls.specs.declared.agents.Note.TheVariants as notes
use Rattle.mq_calls.specs.declared.agents.PrepareFault.TheVariants as faults
use Rattle.mq_calls.specs.declared.deltas.Did.{Did}
use Rattle.mq_calls.specs.declared.deltas.Did.TheVariants as did
use Rattle.mq_calls.specs.declared.records.Remove.{Remove}
use Rattle.mq_calls.specs.declared.state.Batch.{Batch}
use Rattle.mq_history.specs.declared.calls.Call.TheVariants as calls
use Rattle.mq_history.specs.declared.calls.Reply.{Reply}
use Rattle.mq_calls.specs.State.{Plain}
use Rattle.mq_calls.specs.Reads.{batch_of, free_rows, is_expired, is_full, sender_data, stored}
use Rattle.mq_sync.specs.Settlement.{sender_or}
use Rattle.mq_calls.specs.Sizes.{need}
use Rattle.mq_calls.specs.Steps.{Part, delta_of, do_all, refused_or}
use Rattle.mq_calls.specs.Steps.Step.{Do}
use Rattle.mq_spec_manager.specs.Hardening.{settle_did}
use Rattle.mq_spec_manager.specs.Agents.{expired_rows, harden, harden_part, held_rows, hold_batch, leave, prepare_of, prepared_changes, prepared_record, queue_of_sender, release_batch, release_of, stock}
use Rattle.mq_spec_network.specs.Ledger.{Ledger, is_taken, move_all, post_call, receive_if, received_on, take_all_gone, when}
use Rattle.mq_spec_network.specs.Ledger as ledgers
use Rattle.mq_spec_node.specs.Node.{Node, SenderEnd}
use Rattle.mq_spec_node.specs.Deeds.{Deed, parts_of}
use Rattle.mq_frame.specs.declared.frame.Seen.{Seen}
use Rattle.mq_calls.specs.declared.deltas.Why.TheVariants as whys
use Rattle.mq_sender.specs.Table.{is_idle, sender_next}
use Rattle.mq_spec_manager.specs.Get.{expired_parts, idents_of}
use Rattle.mq_law_channel.proofs.Sending.{idle_is}
use Rattle.mq_law_manager.specs.Facts.{IsSound, ident_of}
use Rattle.mq_law_manager.proofs.Removals.{differ_filter, mem_filter}
use Rattle.mq_law_batches.specs.from_law_events.Tied.{Follow, IsFresh, IsTold}
use Rattle.mq_law_batches.proofs.from_law_events.Getting.{expired_follow}
use Rattle.mq_law_batches.proofs.from_law_events.Taking.{removed_all}
use Rattle.mq_law_turns.proofs.Sending.{free_by}
use Rattle.mq_spec_node.specs.Senders.{doubted, leave_if_stopped, prepare_deed, sender_deed, sender_deed_by, settle_parts, settle_parts_if}
use Rattle.mq_law_story.proofs.from_law_rows.Lists.{bool_case, true_false}
use Rattle.mq_law_turns.specs.Turns.{EachFollowed, EachPosted, is_expiry}

-- an entry that the ledger passes over
abbrev pub is_passed : Did → Bool
is_passed (did.Removed queue ident why) = not (is_taken why)
is_passed (did.Moved from ident to target bare) = false
is_passed (did.Received channel unit) = false
is_passed _ = true

abbrev pub all_passed : List Did → Bool
all_passed [] = true
all_passed (d ∷ ds) = is_passed d && all_passed ds

not_yes : (t : Bool) → not t ≡ true → t ≡ false
not_yes true e = absurd (true_false (sym e))
not_yes false e = refl

pub takes_nothing : (t : ℕ) (ds : List Did) (l : Ledger) → all_passed ds ≡ true → take_all_gone t ds l ≡ l
takes_nothing t [] l e = refl
takes_nothing t (did.Removed queue ident why ∷ ds) l e =
    let k = and_parts (not (is_taken why)) (all_passed ds) e in
    ap (λ b. take_all_gone t ds (when b (ledgers.take t ident) l)) (not_yes (is_taken why) k.0) ∙ takes_nothing t ds l k.1
takes_nothing t (did.Placed queue ident dead ∷ ds) l e = takes_nothing t ds l e
takes_nothing t (did.Moved from ident to target bare ∷ ds) l e = absurd (true_false (sym e))
takes_nothing t (did.Held queue ident by ∷ ds) l e = takes_nothing t ds l e
takes_nothing t (did.Released queue ident ∷ ds) l e = takes_nothing t ds l e
takes_nothing t (did.Hardened c note ∷ ds) l e = takes_nothing t ds l e
takes_nothing t (did.Prepared c unit ∷ ds) l e = takes_nothing t ds l e
takes_nothing t (did.Received c unit ∷ ds) l e = absurd (true_false (sym e))

pub moves_nothing : (t : ℕ) (ds : List Did) (l : Ledger) → all_passed ds ≡ true → move_all t ds l ≡ l
moves_nothing t [] l e = refl
moves_nothing t (did.Removed queue ident why ∷ ds) l e = moves_nothing t ds l (and_parts (not (is_taken why)) (all_passed ds) e).1
moves_nothing t (did.Placed queue ident dead ∷ ds) l e = moves_nothing t ds l e
moves_nothing t (did.Moved from ident to target bare ∷ ds) l e = absurd (true_false (sym e))
moves_nothing t (did.Held queue ident by ∷ ds) l e = moves_nothing t ds l e
moves_nothing t (did.Released queue ident ∷ ds) l e = moves_nothing t ds l e
moves_nothing t (did.Hardened c note ∷ ds) l e = moves_nothing t ds l e
moves_nothing t (did.Prepared c unit ∷ ds) l e = moves_nothing t ds l e
moves_nothing t (did.Received c unit ∷ ds) l e = absurd (true_false (sym e))

pub receives_nothing : (ds : List Did) → all_passed ds ≡ true → received_on ds ≡ None
receives_nothing [] e = refl
receives_nothing (did.Removed queue ident why ∷ ds) e = receives_nothing ds (and_parts (not (is_taken why)) (all_passed ds) e).1
receives_nothing (did.Placed queue ident dead ∷ ds) e = receives_nothing ds e
receives_nothing (did.Moved from ident to target bare ∷ ds) e = absurd (true_false (sym e))
receives_nothing (did.Held queue ident by ∷ ds) e = receives_nothing ds e
receives_nothing (did.Released queue ident ∷ ds) e = receives_nothing ds e
receives_nothing (did.Hardened c note ∷ ds) e = receives_nothing ds e
receives_nothing (did.Prepared c unit ∷ ds) e = receives_nothing ds e
receives_nothing (did.Received c unit ∷ ds) e = absurd (true_false (sym e))

pub posts_nothing : (t : ℕ) (reply : Reply) (ms : List Message) (ds : List Did) (l : Ledger) → all_passed ds ≡ true → post_call t calls.Turn reply ms ds (take_all_gone t ds l) ≡ l
posts_nothing t reply ms ds l e = (λ i. receive_if t (receives_nothing ds e i) ms ds (move_all t ds (takes_nothing t ds l e i))) ∙ moves_nothing t ds l e

-- of lists
passed_map : {A : Type 0} (g : A → Did) (xs : List A) → ((x : A) → is_passed (g x) ≡ true) → all_passed (map g xs) ≡ true
passed_map g [] each = refl
passed_map g (x ∷ xs) each = (λ i. each x i && passed_map g xs each i)

passed_behind : (xs ys : List Did) → all_passed xs ≡ true → all_passed ys ≡ true → all_passed (xs ++ ys) ≡ true
passed_behind [] ys e f = f
passed_behind (x ∷ xs) ys e f = let k = and_parts (is_passed x) (all_passed xs) e in (λ i. k.0 i && passed_behind xs ys k.1 f i)

parts_behind : (xs ys : List Part) → all_passed (delta_of xs) ≡ true → all_passed (delta_of ys) ≡ true → all_passed (delta_of (xs ++ ys)) ≡ true
parts_behind [] ys e f = f
parts_behind (x ∷ xs) ys e f = two (x.delta) (delta_of xs) (delta_of (xs ++ ys)) e (λ k. parts_behind xs ys k f)
  where
    two : (us vs ws : List Did) → all_passed (us ++ vs) ≡ true → (all_passed vs ≡ true → all_passed ws ≡ true) → all_passed (us ++ ws) ≡ true
    two [] vs ws e next = next e
    two (u ∷ us) vs ws e next = let k = and_parts (is_passed u) (all_passed (us ++ vs)) e in (λ i. k.0 i && two us vs ws k.1 next i)

one_part : (part : Part) → all_passed part.delta ≡ true → all_passed (delta_of (part ∷ [])) ≡ true
one_part part e = passed_behind part.delta [] e refl

leaving_passed : (c : List ℕ) (st : SenderState) (p : Plain) → all_passed (delta_of (leave_if_stopped c st p)) ≡ true
leaving_passed c st p = bool_case (is_running st) (λ t. all_passed (delta_of (if t then [] else parts_of (leave c p))) ≡ true) (λ e. refl) (λ e. refl)

-- TURNS OF A SENDER
abbrev pub EachPassed : Option Deed → Type 0
EachPassed None = Unit {0}
EachPassed (Some d) = all_passed (delta_of d.parts) ≡ true

settle_passed : (commit : Bool) (x : Remove) → is_passed (settle_did commit x) ≡ true
settle_passed true x = refl
settle_passed false x = refl

settled_passed : (e : SenderEnd) (commit : Bool) (p : Plain) → all_passed (delta_of (settle_parts e commit p)) ≡ true
settled_passed e commit p = one_part (harden_part e.channel (notes.Resolved (doubted e.machine.kept.doubt) commit false) p)
    (passed_behind (map (settle_did commit) (held_rows (holders.Batch e.channel) p)) (did.Hardened e.channel (notes.Resolved (doubted e.machine.kept.doubt) commit false) ∷ []) (passed_map (settle_did commit) (held_rows (holders.Batch e.channel) p) (settle_passed commit)) refl)

status_passed : (e : SenderEnd) (o : Option Settle) (p : Plain) → all_passed (delta_of (settle_parts_if e o p)) ≡ true
status_passed e None p = refl
status_passed e (Some settles.Commit) p = settled_passed e true p
status_passed e (Some settles.Backout) p = settled_passed e false p

released_passed : (c : List ℕ) (o : Option Batch) → all_passed (delta_of (parts_of (release_of c o))) ≡ true
released_passed c None = refl
released_passed c (Some b) = passed_behind (map (λ (i : Ident). did.Released b.queue i) b.idents) [] (passed_map (λ (i : Ident). did.Released b.queue i) b.idents (λ i. refl)) refl

-- the parts of a turn, and then the end may leave its queue
sent_passed : (e : SenderEnd) (d : SenderDoes) (xs : List Part) (n : Node) → all_passed (delta_of xs) ≡ true → all_passed (delta_of (xs ++ leave_if_stopped e.channel (sender_after e.machine d outs.Done).state n.manager)) ≡ true
sent_passed e d xs n k = parts_behind xs (leave_if_stopped e.channel (sender_after e.machine d outs.Done).state n.manager) k (leaving_passed e.channel (sender_after e.machine d outs.Done).state n.manager)

prepared_passed : (e : SenderEnd) (last : ℕ) (o : Option Batch) (n : Node) → EachPassed (Some (prepare_deed e (prepare_of e.channel last o n.manager) n))
prepared_passed e last None n = sent_passed e does.Prepare [] n refl
prepared_passed e last (Some b) n =
    let part : Part = record { forced = Some (prepared_record e.channel last b); changes = prepared_changes e.channel last b (sender_or (sender_data e.channel n.manager)); delta = did.Prepared e.channel b.unit ∷ [] } in
    bool_case (is_full (need (prepared_record e.channel last b)) n.manager)
    (λ t. EachPassed (Some (prepare_deed e (refused_or (if t then Some faults.NoRoom else None) (Do tt (part ∷ []))) n)))
    (λ z. parts_behind (parts_of (release_batch e.channel n.manager)) (parts_of (leave e.channel n.manager)) (released_passed e.channel (batch_of e.channel n.manager.channels.batches)) refl)
    (λ z. sent_passed e does.Prepare (part ∷ []) n refl)

held_passed : (e : SenderEnd) (u : Luw) (most : ℕ) (p : Plain) → all_passed (delta_of (parts_of (hold_batch e.channel u most p))) ≡ true
held_passed e u most p =
    let is : List Ident = idents_of (take most (free_rows (queue_of_sender e.channel p) p)) in
    passed_behind (map (λ (i : Ident). did.Held (queue_of_sender e.channel p) i (holders.Batch e.channel)) is) [] (passed_map (λ (i : Ident). did.Held (queue_of_sender e.channel p) i (holders.Batch e.channel)) is (λ i. refl)) refl

pub sender_passes : (stamp : ℕ) (e : SenderEnd) (d : SenderDoes) (n : Node) → is_expiry d ≡ false → EachPassed (sender_deed_by stamp e d n)
sender_passes stamp e does.Still n x = tt
sender_passes stamp e does.Ignore n x = refl
sender_passes stamp e (does.HardenSession session) n x = sent_passed e (does.HardenSession session) (parts_of (harden e.channel (notes.Session e.partner session) n.manager)) n refl
sender_passes stamp e does.PushBind n x = sent_passed e does.PushBind [] n refl
sender_passes stamp e does.Expire n x = absurd (true_false x)
sender_passes stamp e (does.Begin k count) n x = sent_passed e (does.Begin k count) (parts_of (hold_batch e.channel (unit_named e.machine.kept.session k) count n.manager)) n (held_passed e (unit_named e.machine.kept.session k) count n.manager)
sender_passes stamp e (does.PushMsg index) n x = sent_passed e (does.PushMsg index) [] n refl
sender_passes stamp e does.Prepare n x = prepared_passed e (number_sent e.machine.state e.machine.kept.last) (batch_of e.channel n.manager.channels.batches) n
sender_passes stamp e does.PushEnd n x = sent_passed e does.PushEnd [] n refl
sender_passes stamp e (does.Bound settle partner) n x = sent_passed e (does.Bound settle partner) (settle_parts_if e settle n.manager) n (status_passed e settle n.manager)
sender_passes stamp e does.Commit n x = sent_passed e does.Commit (settle_parts e true n.manager) n (settled_passed e true n.manager)
sender_passes stamp e (does.Backout reason) n x = sent_passed e (does.Backout reason) (settle_parts e false n.manager) n (settled_passed e false n.manager)

pub posts : (m : ℕ) (l : Ledger) (stamp : ℕ) (e : SenderEnd) (seen : Seen) (n : Node) → is_expiry (sender_next e.machine seen (stock e.channel n.manager)) ≡ false → EachPosted m l (sender_deed stamp e seen n)
posts m l stamp e seen n x = go (sender_deed stamp e seen n) (sender_passes stamp e (sender_next e.machine seen (stock e.channel n.manager)) n x)
  where
    go : (o : Option Deed) → EachPassed o → EachPosted m l o
    go None k = tt
    go (Some d) k = λ reply ms. posts_nothing m reply ms (delta_of d.parts) l k

-- EXPIRED ROWS
-- removals are all that they tell
removed_moves : (m : ℕ) (q : List ℕ) (rows : List Row) (rest : List Did) (l : Ledger) → move_all m (removed_all whys.Expired q rows ++ rest) l ≡ move_all m rest l
removed_moves m q [] rest l = refl
removed_moves m q (x ∷ xs) rest l = removed_moves m q xs rest l

removed_receives : (q : List ℕ) (rows : List Row) (rest : List Did) → received_on (removed_all whys.Expired q rows ++ rest) ≡ received_on rest
removed_receives q [] rest = refl
removed_receives q (x ∷ xs) rest = removed_receives q xs rest

expired_posted : (m : ℕ) (q : List ℕ) (rows : List Row) (reply : Reply) (ms : List Message) (l : Ledger) → post_call m calls.Turn reply ms (delta_of (expired_parts q rows)) l ≡ l
expired_posted m q [] reply ms l = refl
expired_posted m q (x ∷ xs) reply ms l = (λ i. receive_if m (removed_receives q (x ∷ xs) [] i) ms (delta_of (expired_parts q (x ∷ xs))) (move_all m (delta_of (expired_parts q (x ∷ xs))) l)) ∙ removed_moves m q (x ∷ xs) [] l

pub expires : (m : ℕ) (given : Ident → Bool) (l : Ledger) (stamp : ℕ) (e : SenderEnd) (n : Node) → IsFresh given n.manager → IsTold m n.manager l → IsSound n.manager → is_idle e.machine.state ≡ true → EachFollowed m given n.manager l (sender_deed_by stamp e does.Expire n)
expires m given l stamp e n fresh told sound idle reply ms =
    let p : Plain = n.manager in
    let q : List ℕ = queue_of_sender e.channel p in
    let rows : List Row = expired_rows q p in
    let f = expired_follow m given p l q rows fresh told
    (λ x k. let a = mem_filter x (is_expired p) (free_rows q p) k in let b = mem_filter x is_free (stored q p).rows a.0 in (b.0, free_by x.by x refl b.1))
    (differ_filter ident_of (is_expired p) (free_rows q p) (differ_filter ident_of is_free (stored q p).rows (sound.facts.apart.once q))) in
    subst (λ (xs : List Part). Follow m given p l (do_all xs p) (post_call m calls.Turn reply ms (delta_of xs) (take_all_gone m (delta_of xs) l))) (sym (ap (λ st. expired_parts q rows ++ leave_if_stopped e.channel st p) (idle_is e.machine.state idle) ∙ nothing_behind (expired_parts q rows)))
    (subst (λ (k : Ledger). Follow m given p l (do_all (expired_parts q rows) p) k) (sym (expired_posted m q rows reply ms (take_all_gone m (delta_of (expired_parts q rows)) l))) f)
  where
    nothing_behind : (xs : List Part) → xs ++ [] ≡ xs
    nothing_behind [] = refl
    nothing_behind (x ∷ xs) = ap (λ ys. x ∷ ys) (nothing_behind xs)
