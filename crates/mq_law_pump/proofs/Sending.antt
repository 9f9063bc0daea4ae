-- Each turn of a sender's end at a node is the turn of its lane.
use Rattle.std.proofs.Common.{ℕ, zero, suc, ◌≡◌, ◌≤◌, ◌<◌, ◌+◌, ◌-◌, Bool, true, false, List, [], ◌∷◌, ◌++◌, length, refl, ap, sym, subst, arith, ◌∙◌, append-nil}
use Rattle.std.specs.Prelude.{if◌then◌else◌, Option, Some, None, ◌&&◌, is_some, min, nat_lt, pos, slice_get, take}
use Rattle.std.specs.Option.{option_map}
use Rattle.std.proofs.lemmas.Bool.{true≢false}
use Rattle.mq_calls.specs.declared.agents.Note.TheVariants as notes
use Rattle.mq_calls.specs.declared.agents.PrepareFault.{PrepareFault}
use Rattle.mq_calls.specs.declared.agents.PrepareFault.TheVariants as prepare_faults
use Rattle.mq_calls.specs.declared.deltas.Did.TheVariants as did
use Rattle.mq_calls.specs.declared.records.LogRecord.{LogRecord}
use Rattle.mq_calls.specs.declared.records.LogRecord.TheVariants as records
use Rattle.mq_frame.specs.declared.frame.Frame.{Frame}
use Rattle.mq_frame.specs.declared.frame.Seen.{Seen}
use Rattle.mq_message.specs.declared.message.Dest.{Dest}
use Rattle.mq_message.specs.declared.message.Ident.{Ident}
use Rattle.mq_message.specs.declared.message.Message.{Message}
use Rattle.mq_message.specs.declared.place.Holder.TheVariants as holders
use Rattle.mq_queue.specs.declared.row.Row.{Row}
use Rattle.mq_queue.specs.Queues.{AreDistinct}
use Rattle.mq_sync.specs.declared.data.Stock.{Stock}
use Rattle.mq_sync.specs.Settlement.{sender_or}
use Rattle.mq_sync.specs.Units.{unit_named}
use Rattle.mq_sync.specs.declared.unit.Settle.{Settle}
use Rattle.mq_sync.specs.declared.unit.Settle.TheVariants as settles
use Rattle.mq_sender.specs.declared.state.Sender.{Sender}
use Rattle.mq_sender.specs.declared.state.SenderState.{SenderState}
use Rattle.mq_sender.specs.declared.turns.SenderDoes.{SenderDoes}
use Rattle.mq_sender.specs.declared.turns.SenderDoes.TheVariants as does
use Rattle.mq_sender.specs.declared.turns.SenderOut.TheVariants as outs
use Rattle.mq_sender.specs.States.{is_running}
use Rattle.mq_sender.specs.After.{number_sent, sender_after}
use Rattle.mq_sender.specs.Frames.{bind_frame, end_frame, pushed_by}
use Rattle.mq_sender.specs.Table.{is_ack, is_binding, is_err, is_idle, is_sending, is_status, is_waiting, messages_sent, sender_lines, sender_next}
use Rattle.mq_calls.specs.State.{Plain}
use Rattle.mq_calls.specs.declared.state.Batch.{Batch}
use Rattle.mq_calls.specs.State.Which.{Among, HeldBy}
use Rattle.mq_calls.specs.State.Change.{Leave}
use Rattle.mq_calls.specs.Changes.{apply}
use Rattle.mq_calls.specs.Reads.{batch_of, free_rows, is_expired, is_full, sender_data}
use Rattle.mq_calls.specs.Sizes.{need}
use Rattle.mq_calls.specs.Steps.{Part, Step, do_all, logged, refused_or}
use Rattle.mq_calls.specs.Steps.Step.{Do, Refuse}
use Rattle.mq_spec_manager.specs.Get.{expired_parts, idents_of, persistent_rows, removal_record}
use Rattle.mq_spec_manager.specs.Heads.{own_md}
use Rattle.mq_spec_manager.specs.Agents.{batch_row, expire, expired_rows, harden, hold_batch, leave, names_of, prepare, prepare_of, prepared_changes, prepared_record, queue_of_sender, release_batch, stock}
use Rattle.mq_spec_node.specs.Node.{Node, SenderEnd, end_in}
use Rattle.mq_spec_node.specs.Node.ChannelEnd.{Sends}
use Rattle.mq_spec_node.specs.Deeds.{Deed, parts_of, turned}
use Rattle.mq_spec_node.specs.Senders.{begin_deed, carried, doubted, leave_if_stopped, prepare_deed, sender_deed, sender_deed_by, sender_end_after, sent, settle_parts, settle_parts_if}
use Rattle.mq_law_idle.specs.Counts.{free_in, held_in}
use Rattle.mq_law_idle.specs.Roads.{Road, RowsMove, SenderTurn, laid, sender_does, taken_from, waiting}
use Rattle.mq_law_idle.proofs.Tests.{lt_yes}
use Rattle.mq_law_channel.proofs.Sending.{binding_is, hailing_is, idle_is, ready_is, sending_runs, starting_is, waiting_is}
use Rattle.mq_law_channel.proofs.Told.{and_both, by_lines}
use Rattle.mq_law_node.specs.Ends.{Where, letter_of, letters_of}
use Rattle.mq_law_node.proofs.Named.{end_set}
use Rattle.mq_law_node.proofs.SenderTable.{begun_reads}
use Rattle.mq_law_pump.specs.Deeds.{HasSender, TurnsLane}
use Rattle.mq_law_pump.specs.Fit.{FitsSender}
use Rattle.mq_law_pump.specs.Rows.{AreWithin, rows_of}
use Rattle.mq_law_pump.proofs.Counting.{expire_less, free_length, holds_so, leaves_less, releases_same}

-- WHAT THE TABLE SAYS
abbrev pub Says : Sender → Stock → SenderDoes → Type 0
Says m st does.Still = Unit {0}
Says m st does.Ignore = Unit {0}
Says m st does.Expire = (is_running m.state ≡ true) × (st.expired ≡ true)
Says m st (does.Begin k count) = (is_running m.state ≡ true) × (count ≡ min m.limits.batch_size st.free) × (nat_lt 0 st.free ≡ true)
Says m st (does.PushMsg index) = (is_sending m.state ≡ true) × (index ≡ messages_sent m.state + 1) × (nat_lt (messages_sent m.state) m.count ≡ true)
Says m st _ = is_running m.state ≡ true

pub says : (m : Sender) (seen : Seen) (st : Stock) → Says m st (sender_next m seen st)
says m seen st = by_lines (Says m st) does.Still (sender_lines m seen st) (
  (λ e. ap is_running (binding_is m.state (and_both (is_binding m.state) (is_status m.kept.session seen) e).0)),
  λ x1. (
    (λ e. ap is_running (waiting_is m.state (and_both (is_waiting m.state) (is_ack m.kept.doubt seen) e).0)),
    λ x2. (
      (λ e. ap is_running (waiting_is m.state (and_both (is_waiting m.state) (is_err m.kept.doubt seen) e).0)),
      λ x3. (
        (λ e. tt),
        λ x4. (
          (λ e. ap is_running (starting_is m.state e)),
          λ x5. (
            (λ e. ap is_running (hailing_is m.state e)),
            λ x6. (
              (λ e. let a = and_both (is_idle m.state && st.enabled) st.expired e in (ap is_running (idle_is m.state (and_both (is_idle m.state) st.enabled a.0).0), a.1)),
              λ x7. (
                (λ e. let a = and_both (is_idle m.state && st.enabled) (nat_lt 0 st.free) e in (ap is_running (idle_is m.state (and_both (is_idle m.state) st.enabled a.0).0), refl, a.1)),
                λ x8. (
                  (λ e. let a = and_both (is_sending m.state) (nat_lt (messages_sent m.state) m.count) e in (a.0, refl, a.1)),
                  λ x9. ((λ e. sending_runs m.state e), λ x10. ((λ e. ap is_running (ready_is m.state e)), λ x11. tt)),
                ),
              ),
            ),
          ),
        ),
      ),
    ),
  ),
)

-- A TURN THAT IS DONE
abbrev turn_of : ℕ → Dest → Message → Stock → (free held : ℕ) → SenderTurn
turn_of stamp dest message st free held = record { stamp = stamp; dest = dest; message = message; stock = st; outcome = outs.Done; free = free; held = held }

-- the rows behind a deed, where the sender runs on
abbrev RowsAfter : SenderEnd → Node → Deed → SenderState → (free held : ℕ) → Type 0
RowsAfter e n d st free held = is_running st ≡ true → (free_in (rows_of e.channel (do_all d.parts n.manager)) ≤ free) × (held_in (rows_of e.channel (do_all d.parts n.manager)) ≤ held)

done_lane : (e : SenderEnd) (n : Node) (d : Deed) (w : Road) (does_ : SenderDoes) (stamp : ℕ) (dest : Dest) (message : Message) (free held : ℕ) → w.sender ≡ e.machine
    → sender_next e.machine (waiting w.back) (stock e.channel n.manager) ≡ does_ → (does_ ≡ does.Still → ⊥)
    → RowsMove does_ (turn_of stamp dest message (stock e.channel n.manager) free held) w
    → end_in e.cable d.own.ends ≡ Some (Sends (record e { machine = sender_after e.machine does_ outs.Done }))
    → d.pushed ≡ pushed_by stamp dest message e.machine does_
    → RowsAfter e n d (sender_after e.machine does_ outs.Done).state free held → TurnsLane e n d w
done_lane e n d w does_ stamp dest message free held machine is changed moves own pushed rows =
    let t : SenderTurn = turn_of stamp dest message (stock e.channel n.manager) free held in
    let does_so : sender_does t w ≡ does_ = ap (λ (m : Sender). sender_next m (waiting w.back) (stock e.channel n.manager)) machine ∙ is in
    let after : sender_after w.sender (sender_does t w) outs.Done ≡ sender_after e.machine does_ outs.Done = ap (λ (m : Sender). sender_after m (sender_does t w) outs.Done) machine ∙ ap (λ (x : SenderDoes). sender_after e.machine x outs.Done) does_so in
    record {
      turn = t;
      may = record { changed = (λ still. changed (sym does_so ∙ still), λ full. not_full full); no_room = λ none. absurd (has_room none); rows = subst (λ (x : SenderDoes). RowsMove x t w) (sym does_so) moves };
      ends = own ∙ ap (λ (m : Sender). Some (Sends (record e { machine = m }))) (sym after);
      out = ap (λ (m : Sender). laid (pushed_by stamp dest message m (sender_does t w)) w.out) machine ∙ ap (λ (x : SenderDoes). laid (pushed_by stamp dest message e.machine x) w.out) does_so
          ∙ ap (λ (o : Option Frame). laid o w.out) (sym pushed);
      back = refl;
      receiver = refl;
      rows = λ runs. let r = rows (ap (λ (m : Sender). is_running m.state) (sym after) ∙ runs) in record { free = r.0; held = r.1 };
    }
  where
    not_full : outs.Done ≡ outs.Full → ⊥
    not_full x = absurd cc

    has_room : outs.Done ≡ outs.NoRoom → ⊥
    has_room x = absurd cc

-- the end that a turn sets
set_so : (e : SenderEnd) (n : Node) (x : SenderDoes) → end_in e.cable n.own.ends ≡ Some (Sends e) → end_in e.cable (sender_end_after e x outs.Done n.own).ends ≡ Some (Sends (record e { machine = sender_after e.machine x outs.Done }))
set_so e n x here = end_set (Sends (record e { machine = sender_after e.machine x outs.Done })) (Sends e) n.own.ends here

-- a sender that runs on keeps its queue
stays : (channel : List ℕ) (st : SenderState) (parts : List Part) (p q : Plain) → is_running st ≡ true → do_all (parts ++ leave_if_stopped channel st p) q ≡ do_all parts q
stays channel st parts p q runs = ap (λ (b : Bool). do_all (parts ++ (if b then [] else leave_parts)) q) runs ∙ ap (λ (xs : List Part). do_all xs q) (append-nil parts)
  where
    leave_parts : List Part
    leave_parts = parts_of (leave channel p)

-- the rows behind parts are the same, or so many
abbrev Same : List ℕ → Plain → List Part → Type 0
Same channel p parts = rows_of channel (do_all parts p) ≡ rows_of channel p

same_after : (e : SenderEnd) (n : Node) (d : Deed) (st : SenderState) (parts : List Part) (w : Road) → d.parts ≡ parts ++ leave_if_stopped e.channel st n.manager → Same e.channel n.manager parts
    → AreWithin (rows_of e.channel n.manager) w → RowsAfter e n d st w.free w.held
same_after e n d st parts w is same within runs =
    let rows : rows_of e.channel (do_all d.parts n.manager) ≡ rows_of e.channel n.manager =
    ap (λ (ps : List Part). rows_of e.channel (do_all ps n.manager)) is ∙ ap (rows_of e.channel) (stays e.channel st parts n.manager n.manager runs) ∙ same in
    (subst (λ (rs : List Row). free_in rs ≤ w.free) (sym rows) within.free, subst (λ (rs : List Row). held_in rs ≤ w.held) (sym rows) within.held)

-- THE LINES
abbrev EachTurns : SenderEnd → Node → Road → Option Deed → Type 0
EachTurns e n w None = Unit {0}
EachTurns e n w (Some d) = TurnsLane e n d w

-- of no message
abbrev no_ident : Ident
no_ident = record { manager = 0; incarnation = 0; number = 0 }

abbrev pub no_message : Message
no_message = record { ident = no_ident; md = own_md no_ident [] (pos 0) (pos 0) [] []; route = None; deadline = None; body = [] }

-- lines that leave the rows as they are
same_lane : (e : SenderEnd) (n : Node) (w : Road) (x : SenderDoes) (stamp : ℕ) (dest : Dest) (message : Message) (parts : List Part) (pushed : Option Frame) → HasSender e n w → sender_next e.machine (waiting w.back) (stock e.channel n.manager) ≡ x → (x ≡ does.Still → ⊥)
    → RowsMove x (turn_of stamp dest message (stock e.channel n.manager) w.free w.held) w → pushed ≡ pushed_by stamp dest message e.machine x → Same e.channel n.manager parts → is_running e.machine.state ≡ true
    → TurnsLane e n (sent e x parts pushed n) w
same_lane e n w x stamp dest message parts pushed g is changed moves pushes same runs =
    done_lane e n (sent e x parts pushed n) w x stamp dest message w.free w.held g.machine is changed moves (set_so e n x g.here) pushes
    (same_after e n (sent e x parts pushed n) (sender_after e.machine x outs.Done).state parts w refl same (g.rows runs))

ignores : (e : SenderEnd) (n : Node) (w : Road) (stamp : ℕ) → HasSender e n w → sender_next e.machine (waiting w.back) (stock e.channel n.manager) ≡ does.Ignore → TurnsLane e n (turned [] None n.own) w
ignores e n w stamp g is = done_lane e n (turned [] None n.own) w does.Ignore stamp (names_of None) no_message w.free w.held g.machine is (λ x. absurd cc) (refl, refl) g.here refl (λ runs. ((g.rows runs).free, (g.rows runs).held))

-- EXPIRE
expired_so : (channel : List ℕ) (p : Plain) (xs : List Row) → expired_rows (queue_of_sender channel p) p ≡ xs → nat_lt 0 (length xs) ≡ true
    → (free_in (rows_of channel (do_all (expired_parts (queue_of_sender channel p) xs) p)) < free_in (rows_of channel p)) × (held_in (rows_of channel (do_all (expired_parts (queue_of_sender channel p) xs) p)) ≤ held_in (rows_of channel p))
expired_so channel p [] is some = absurd (omega (arith, lt_yes 0 0 some))
expired_so channel p (x ∷ xs) is some = one (removal_record (queue_of_sender channel p) (persistent_rows (x ∷ xs)))
  where
    q : List ℕ
    q = queue_of_sender channel p

    one : (o : Option LogRecord) → (free_in (rows_of channel (apply (Leave (Among q (idents_of (x ∷ xs)))) (logged o p))) < free_in (rows_of channel p)) × (held_in (rows_of channel (apply (Leave (Among q (idents_of (x ∷ xs)))) (logged o p))) ≤ held_in (rows_of channel p))
    one None = (expire_less q (is_expired p) x xs p is, (leaves_less q (Among q (idents_of (x ∷ xs))) p).1)
    one (Some r) = (expire_less q (is_expired p) x xs (logged (Some r) p) is, (leaves_less q (Among q (idents_of (x ∷ xs))) (logged (Some r) p)).1)

expires : (e : SenderEnd) (n : Node) (w : Road) (stamp : ℕ) → HasSender e n w → sender_next e.machine (waiting w.back) (stock e.channel n.manager) ≡ does.Expire → Says e.machine (stock e.channel n.manager) does.Expire
    → TurnsLane e n (sent e does.Expire (parts_of (expire e.channel n.manager)) None n) w
expires e n w stamp g is s =
    let parts : List Part = parts_of (expire e.channel n.manager) in
    let h = expired_so e.channel n.manager (expired_rows (queue_of_sender e.channel n.manager) n.manager) refl s.1 in
    let within = g.rows s.0 in
    done_lane e n (sent e does.Expire parts None n) w does.Expire stamp (names_of None) no_message (w.free - 1) w.held g.machine is (λ x. absurd cc) (omega (arith, h.0, within.free), refl) (set_so e n does.Expire g.here) refl
    (λ runs. let rows = ap (rows_of e.channel) (stays e.channel e.machine.state parts n.manager n.manager runs) in
    (omega (arith, ap free_in rows, h.0, within.free), omega (arith, ap held_in rows, h.1, within.held)))

-- BEGIN
first_taken : (k : ℕ) (rows : List Row) → slice_get (letters_of (take k rows)) 0 ≡ None → 1 ≤ k → 1 ≤ length rows → ⊥
first_taken zero rows h a b = omega (arith, a)
first_taken (suc k) [] h a b = omega (arith, b)
first_taken (suc k) (r ∷ rs) h a b = absurd cc

begins : (e : SenderEnd) (n : Node) (w : Road) (stamp k count : ℕ) → HasSender e n w → AreDistinct (rows_of e.channel n.manager) → 1 ≤ e.machine.limits.batch_size
    → sender_next e.machine (waiting w.back) (stock e.channel n.manager) ≡ does.Begin k count → Says e.machine (stock e.channel n.manager) (does.Begin k count)
    → TurnsLane e n (begin_deed stamp e k count (parts_of (hold_batch e.channel (unit_named e.machine.kept.session k) count n.manager)) n) w
begins e n w stamp k count g distinct batch is s = with_row (batch_row e.channel 1 (do_all parts n.manager)) refl
  where
    q : List ℕ
    q = queue_of_sender e.channel n.manager

    parts : List Part
    parts = parts_of (hold_batch e.channel (unit_named e.machine.kept.session k) count n.manager)

    end : Where
    end = record { cable = e.cable; channel = e.channel; partner = e.partner }

    frees : (stock e.channel n.manager).free ≡ free_in (rows_of e.channel n.manager)
    frees = free_length (rows_of e.channel n.manager)

    some : 1 ≤ count
    some = omega (arith, s.1, batch, lt_yes 0 (stock e.channel n.manager).free s.2)

    few : count ≤ free_in (rows_of e.channel n.manager)
    few = omega (arith, s.1, frees)

    there : 1 ≤ length (free_rows q n.manager)
    there = lt_yes 0 (stock e.channel n.manager).free s.2

    with_row : (o : Option Message) → batch_row e.channel 1 (do_all parts n.manager) ≡ o → TurnsLane e n (begin_deed stamp e k count parts n) w
    with_row None none = absurd (first_taken count (free_rows q n.manager) (sym (begun_reads end e.machine k count n.manager distinct 0) ∙ ap (option_map letter_of) none) some there)
    with_row (Some m) row =
        let h = holds_so q count (holders.Batch e.channel) n.manager distinct few in
        let within = g.rows s.0 in
        done_lane e n (begin_deed stamp e k count parts n) w (does.Begin k count) stamp (names_of m.route) (record m { route = None }) (w.free - count) (w.held + count) g.machine is (λ x. absurd cc)
        (some, omega (arith, few, within.free), refl) (set_so e n (does.Begin k count) g.here) (ap (option_map (carried stamp e k 1)) row)
        (λ runs. let rows = ap (rows_of e.channel) (stays e.channel (sender_after e.machine (does.Begin k count) outs.Done).state parts n.manager n.manager refl) in
        (omega (arith, ap free_in rows, h.0, within.free, few), omega (arith, ap held_in rows, h.1, within.held)))

-- MSG
sends_message : (e : SenderEnd) (n : Node) (w : Road) (stamp index : ℕ) → HasSender e n w → FitsSender e n → sender_next e.machine (waiting w.back) (stock e.channel n.manager) ≡ does.PushMsg index → Says e.machine (stock e.channel n.manager) (does.PushMsg index)
    → TurnsLane e n (sent e (does.PushMsg index) [] (option_map (carried stamp e e.machine.begun index) (batch_row e.channel index n.manager)) n) w
sends_message e n w stamp index g f is s = with_row (batch_row e.channel index n.manager) refl
  where
    sent_so_far : ℕ
    sent_so_far = messages_sent e.machine.state

    one_on : (i : ℕ) → i + 1 ≡ suc i
    one_on i = omega arith

    there : is_some (batch_row e.channel index n.manager) ≡ true
    there = ap (λ (i : ℕ). is_some (batch_row e.channel i n.manager)) (s.1 ∙ one_on sent_so_far) ∙ f.there s.0 sent_so_far (lt_yes sent_so_far e.machine.count s.2)

    with_row : (o : Option Message) → batch_row e.channel index n.manager ≡ o → TurnsLane e n (sent e (does.PushMsg index) [] (option_map (carried stamp e e.machine.begun index) (batch_row e.channel index n.manager)) n) w
    with_row None none = absurd (true≢false (sym there ∙ ap is_some none))
    with_row (Some m) row = same_lane e n w (does.PushMsg index) stamp (names_of m.route) (record m { route = None }) [] (option_map (carried stamp e e.machine.begun index) (batch_row e.channel index n.manager)) g is (λ x. absurd cc) (refl, refl)
        (ap (option_map (carried stamp e e.machine.begun index)) row) refl (sending_runs e.machine.state s.0)

-- PREPARE
abbrev StepSame : List ℕ → Plain → Step PrepareFault (Unit {0}) → Type 0
StepSame channel p (Refuse fault) = Unit {0}
StepSame channel p (Do reply parts) = Same channel p parts

refused_same : (channel : List ℕ) (p : Plain) (o : Option PrepareFault) (s : Step PrepareFault (Unit {0})) → StepSame channel p s → StepSame channel p (refused_or o s)
refused_same channel p None s h = h
refused_same channel p (Some fault) s h = tt

prepare_same : (channel : List ℕ) (last : ℕ) (o : Option Batch) (p : Plain) → StepSame channel p (prepare_of channel last o p)
prepare_same channel last None p = refl
prepare_same channel last (Some b) p = refused_same channel p (if is_full (need (prepared_record channel last b)) p then Some prepare_faults.NoRoom else None) (Do tt (record {
  forced = Some (prepared_record channel last b);
  changes = prepared_changes channel last b (sender_or (sender_data channel p));
  delta = did.Prepared channel b.unit ∷ [];
} ∷ [])) refl

no_room : (e : SenderEnd) (n : Node) (w : Road) (parts : List Part) → HasSender e n w → sender_next e.machine (waiting w.back) (stock e.channel n.manager) ≡ does.Prepare
    → TurnsLane e n (turned parts None (sender_end_after e does.Prepare outs.NoRoom n.own)) w
no_room e n w parts g is =
    let t : SenderTurn = record { stamp = 0; dest = names_of None; message = no_message; stock = stock e.channel n.manager; outcome = outs.NoRoom; free = w.free; held = w.held } in
    let does_so : sender_does t w ≡ does.Prepare = ap (λ (m : Sender). sender_next m (waiting w.back) (stock e.channel n.manager)) g.machine ∙ is in
    record {
      turn = t;
      may = record { changed = (λ still. absurd (apart (sym does_so ∙ still)), λ full. absurd (not_full full)); no_room = λ none. does_so; rows = subst (λ (x : SenderDoes). RowsMove x t w) (sym does_so) (refl, refl) };
      ends = end_set (Sends (record e { machine = sender_after e.machine does.Prepare outs.NoRoom })) (Sends e) n.own.ends g.here ∙ ap (λ (m : Sender). Some (Sends (record e { machine = sender_after m does.Prepare outs.NoRoom }))) (sym g.machine);
      out = refl;
      back = ap (λ (x : SenderDoes). taken_from x w.back) (sym does_so);
      receiver = refl;
      rows = λ runs. absurd cc;
    }
  where
    apart : does.Prepare ≡ does.Still → ⊥
    apart x = absurd cc

    not_full : outs.NoRoom ≡ outs.Full → ⊥
    not_full x = absurd cc

prepares : (e : SenderEnd) (n : Node) (w : Road) (stamp : ℕ) (s : Step PrepareFault (Unit {0})) → HasSender e n w → sender_next e.machine (waiting w.back) (stock e.channel n.manager) ≡ does.Prepare → is_running e.machine.state ≡ true → StepSame e.channel n.manager s
    → TurnsLane e n (prepare_deed e s n) w
prepares e n w stamp (Refuse fault) g is runs same = no_room e n w (parts_of (release_batch e.channel n.manager) ++ parts_of (leave e.channel n.manager)) g is
prepares e n w stamp (Do reply parts) g is runs same = same_lane e n w does.Prepare stamp (names_of None) no_message parts None g is (λ x. absurd cc) (refl, refl) refl same runs

-- A UNIT IN DOUBT IS SETTLED
abbrev resolved_at : SenderEnd → Bool → Plain → Plain
resolved_at e commit p = logged (Some (records.Resolved e.channel (doubted e.machine.kept.doubt) commit false)) p

settled_less : (e : SenderEnd) (p : Plain) → (free_in (rows_of e.channel (do_all (settle_parts e true p) p)) ≤ free_in (rows_of e.channel p)) × (held_in (rows_of e.channel (do_all (settle_parts e true p) p)) ≤ held_in (rows_of e.channel p))
settled_less e p = leaves_less (queue_of_sender e.channel p) (HeldBy (holders.Batch e.channel)) (resolved_at e true p)

settled_sum : (e : SenderEnd) (o : Option Settle) (p : Plain) → free_in (rows_of e.channel (do_all (settle_parts_if e o p) p)) + held_in (rows_of e.channel (do_all (settle_parts_if e o p) p)) ≤ free_in (rows_of e.channel p) + held_in (rows_of e.channel p)
settled_sum e None p = omega arith
settled_sum e (Some settles.Commit) p = let h = settled_less e p in omega (arith, h.0, h.1)
settled_sum e (Some settles.Backout) p = omega (arith, releases_same (queue_of_sender e.channel p) (HeldBy (holders.Batch e.channel)) false (resolved_at e false p))

-- with the rows that are there behind it
settling : (e : SenderEnd) (n : Node) (w : Road) (x : SenderDoes) (stamp : ℕ) (parts : List Part) → HasSender e n w → sender_next e.machine (waiting w.back) (stock e.channel n.manager) ≡ x → (x ≡ does.Still → ⊥)
    → RowsMove x (turn_of stamp (names_of None) no_message (stock e.channel n.manager) (free_in (rows_of e.channel (do_all parts n.manager))) (held_in (rows_of e.channel (do_all parts n.manager)))) w
    → None ≡ pushed_by stamp (names_of None) no_message e.machine x → TurnsLane e n (sent e x parts None n) w
settling e n w x stamp parts g is changed moves pushes =
    done_lane e n (sent e x parts None n) w x stamp (names_of None) no_message (free_in (rows_of e.channel (do_all parts n.manager))) (held_in (rows_of e.channel (do_all parts n.manager))) g.machine is changed moves (set_so e n x g.here) pushes
    (λ runs. let rows = ap (rows_of e.channel) (stays e.channel (sender_after e.machine x outs.Done).state parts n.manager n.manager runs) in (omega (arith, ap free_in rows), omega (arith, ap held_in rows)))

-- THE TABLE
turns_by : (e : SenderEnd) (n : Node) (w : Road) (stamp : ℕ) (x : SenderDoes) → HasSender e n w → FitsSender e n → AreDistinct (rows_of e.channel n.manager)
    → sender_next e.machine (waiting w.back) (stock e.channel n.manager) ≡ x → Says e.machine (stock e.channel n.manager) x → EachTurns e n w (sender_deed_by stamp e x n)
turns_by e n w stamp does.Still g f distinct is s = tt
turns_by e n w stamp does.Ignore g f distinct is s = ignores e n w stamp g is
turns_by e n w stamp (does.HardenSession session) g f distinct is s = same_lane e n w (does.HardenSession session) stamp (names_of None) no_message (parts_of (harden e.channel (notes.Session e.partner session) n.manager)) None g is (λ x. absurd cc) (refl, refl) refl refl s
turns_by e n w stamp does.PushBind g f distinct is s = same_lane e n w does.PushBind stamp (names_of None) no_message [] (Some (bind_frame stamp e.machine)) g is (λ x. absurd cc) (refl, refl) refl refl s
turns_by e n w stamp does.Expire g f distinct is s = expires e n w stamp g is s
turns_by e n w stamp (does.Begin k count) g f distinct is s = begins e n w stamp k count g distinct (f.some s.0) is s
turns_by e n w stamp (does.PushMsg index) g f distinct is s = sends_message e n w stamp index g f is s
turns_by e n w stamp does.Prepare g f distinct is s =
    prepares e n w stamp (prepare e.channel (number_sent e.machine.state e.machine.kept.last) n.manager) g is s (prepare_same e.channel (number_sent e.machine.state e.machine.kept.last) (batch_of e.channel n.manager.channels.batches) n.manager)
turns_by e n w stamp does.PushEnd g f distinct is s = same_lane e n w does.PushEnd stamp (names_of None) no_message [] (Some (end_frame stamp e.machine)) g is (λ x. absurd cc) (refl, refl) refl refl s
turns_by e n w stamp (does.Bound settle partner) g f distinct is s =
    let within = g.rows s in
    settling e n w (does.Bound settle partner) stamp (settle_parts_if e settle n.manager) g is (λ x. absurd cc) (omega (arith, settled_sum e settle n.manager, within.free, within.held)) refl
turns_by e n w stamp does.Commit g f distinct is s =
    let within = g.rows s in
    let h = settled_less e n.manager in
    settling e n w does.Commit stamp (settle_parts e true n.manager) g is (λ x. absurd cc) (omega (arith, h.0, within.free), omega (arith, h.1, within.held)) refl
turns_by e n w stamp (does.Backout reason) g f distinct is s =
    let within = g.rows s in
    settling e n w (does.Backout reason) stamp (settle_parts e false n.manager) g is (λ x. absurd cc) (omega (arith, settled_sum e (Some settles.Backout) n.manager, within.free, within.held)) refl

turned_lane : (e : SenderEnd) (n : Node) (w : Road) (o : Option Deed) (d : Deed) → EachTurns e n w o → o ≡ Some d → TurnsLane e n d w
turned_lane e n w None d h is = absurd cc
turned_lane e n w (Some x) d h is = subst (λ (y : Deed). TurnsLane e n y w) (some_same x d is) h
  where
    some_same : (a b : Deed) → Some a ≡ Some b → a ≡ b
    some_same a b eq = cc

pub sender_turns : (e : SenderEnd) (n : Node) (w : Road) (stamp : ℕ) (d : Deed) → HasSender e n w → FitsSender e n → AreDistinct (rows_of e.channel n.manager) → sender_deed stamp e (waiting w.back) n ≡ Some d → TurnsLane e n d w
sender_turns e n w stamp d g f distinct is =
    turned_lane e n w (sender_deed stamp e (waiting w.back) n) d
    (turns_by e n w stamp (sender_next e.machine (waiting w.back) (stock e.channel n.manager)) g f distinct refl (says e.machine (waiting w.back) (stock e.channel n.manager))) is
