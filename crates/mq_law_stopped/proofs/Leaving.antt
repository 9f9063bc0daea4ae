-- What a stopped write of an end leaves: a restart that finds it has a sound manager, and the ledger posts nothing of it.
use Rattle.std.proofs.Common.{ℕ, ◌≡◌, Bool, true, false, not, List, [], ◌∷◌, ◌++◌, refl, ap, sym, ◌∙◌, map}
use Rattle.std.specs.Prelude.{Option, Some, None, ◌&&◌, filter, if◌then◌else◌}
use Rattle.std.specs.Option.{option_map}
use Rattle.mq_message.specs.declared.message.Message.{Message}
use Rattle.mq_sync.specs.declared.unit.Unit.{Unit as Luw}
use Rattle.mq_sync.specs.declared.data.End.TheVariants as ends
use Rattle.mq_sync.specs.Settlement.{sender_or}
use Rattle.mq_calls.specs.declared.agents.Note.{Note}
use Rattle.mq_calls.specs.declared.agents.Note.TheVariants as notes
use Rattle.mq_calls.specs.declared.deltas.Did.{Did}
use Rattle.mq_calls.specs.declared.deltas.Did.TheVariants as did
use Rattle.mq_calls.specs.declared.records.LogRecord.{LogRecord}
use Rattle.mq_calls.specs.declared.records.Remove.{Remove}
use Rattle.mq_calls.specs.declared.state.Batch.{Batch}
use Rattle.mq_sc_parse.specs.declared.command.Command.TheVariants as lines
use Rattle.mq_history.specs.declared.acts.Act.TheVariants as acts
use Rattle.mq_history.specs.declared.calls.Call.{Call}
use Rattle.mq_history.specs.declared.calls.Call.TheVariants as calls
use Rattle.mq_history.specs.declared.calls.Reply.{Reply}
use Rattle.mq_message.specs.declared.place.Holder.TheVariants as holders
use Rattle.mq_calls.specs.State.{LogState, Noted, Plain, Running}
use Rattle.mq_calls.specs.Reads.{batch_of, in_doubt_of, sender_data, sender_in}
use Rattle.mq_calls.specs.Changes.{apply_all}
use Rattle.mq_calls.specs.Steps.{Part, do_part, freeze, logged, stands_in}
use Rattle.mq_spec_manager.specs.Stops.{lasts, redone, redone_delta, restarted}
use Rattle.mq_spec_manager.specs.Agents.{harden_part, held_rows, prepared_changes, prepared_record, settle_did, unit_of}
use Rattle.mq_spec_network.specs.Ledger as ledgers
use Rattle.mq_spec_network.specs.Ledger.{Ledger}
use Rattle.mq_spec_network.specs.Order.{unit_received}
use Rattle.mq_law_turns.proofs.from_law_rows.Lists.{bool_case}
use Rattle.mq_law_channel.proofs.Told.{and_both}
use Rattle.mq_law_manager.specs.Facts.{IsSound}
use Rattle.mq_law_manager.proofs.Untouched.{part_given}
use Rattle.mq_law_found.specs.from_law_log.Restarts.{IsHarmless}
use Rattle.mq_law_found.proofs.from_law_log.Hardenings.{harden_harmless}
use Rattle.mq_law_found.proofs.from_law_log.Stops.{frozen_lasts}
use Rattle.mq_law_found.specs.Finds.{posted_again, since}
use Rattle.mq_law_found.proofs.Again.{rises}
use Rattle.mq_law_found.proofs.Finding.{moments_back}
use Rattle.mq_law_turns.specs.from_law_batches.Releases.{IsWord}
use Rattle.mq_law_stopped.proofs.Channels.{all_after}
use Rattle.mq_law_stopped.specs.Noted.{IsLeft, IsOfEnd, IsOne_, Stays_, is_calm, all_calm, left_as, noted_of}

-- A SOUND MANAGER
pub sound_of : (p : Plain) (part : Part) (r : LogRecord) (left : ℕ) → IsSound (do_part part p) → Stays_ p part
    → (started : ℕ) (running : Running) (moment : ℕ) (log : LogState) → IsSound (restarted true started (Some (noted_of part r)) (since (left_as (freeze (Some (noted_of part r)) left p)) running moment log))
sound_of p part r left sound same started running moment log = rises (noted_of part r) p (do_part part p) sound (part_given part p) same started running moment log

pub word_lasts : (c : List ℕ) (w : Note) (p : Plain) → IsWord w → Stays_ p (harden_part c w p)
word_lasts c (notes.Session partner session) p is running moment log = frozen_lasts None 0 (apply_all (harden_part c (notes.Session partner session) p).changes p)
word_lasts c (notes.Resolved unit commit operator) p is running moment log = absurd is
word_lasts c (notes.Bound partner session last) p is running moment log = frozen_lasts None 0 (apply_all (harden_part c (notes.Bound partner session last) p).changes p)
word_lasts c (notes.Closed session) p is running moment log = frozen_lasts None 0 (apply_all (harden_part c (notes.Closed session) p).changes p)
word_lasts c (notes.SeqSet ends.Sender last) p is running moment log = frozen_lasts None 0 (apply_all (harden_part c (notes.SeqSet ends.Sender last) p).changes p)
word_lasts c (notes.SeqSet ends.Receiver last) p is running moment log = frozen_lasts None 0 (apply_all (harden_part c (notes.SeqSet ends.Receiver last) p).changes p)

pub prepared_lasts : (c : List ℕ) (last : ℕ) (b : Batch) (p : Plain) → Stays_ p (record { forced = Some (prepared_record c last b); changes = prepared_changes c last b (sender_or (sender_data c p)); delta = did.Prepared c b.unit ∷ [] })
prepared_lasts c last b p running moment log = frozen_lasts None 0 (apply_all (prepared_changes c last b (sender_or (sender_data c p))) p)

pub settled_lasts : (c : List ℕ) (u : Luw) (commit operator : Bool) (p : Plain) → option_map unit_of (in_doubt_of (sender_data c p)) ≡ Some u → batch_of c p.channels.batches ≡ None → Stays_ p (harden_part c (notes.Resolved u commit operator) p)
settled_lasts c u commit operator p is free running moment log =
    let h : IsHarmless (harden_part c (notes.Resolved u commit operator) p) p = harden_harmless c (notes.Resolved u commit operator) p (is, free) in
    h.anytime _ running log moment refl ∙ sym h.keeps.1

-- NOTHING IS POSTED
none_taken : (t : Bool) → not t ≡ true → t ≡ false
none_taken true e = absurd cc
none_taken false e = refl

calm_gone : (m : ℕ) (ds : List Did) (l : Ledger) → all_calm ds ≡ true → ledgers.take_all_gone m ds l ≡ l
calm_gone m [] l e = refl
calm_gone m (did.Removed q i why ∷ ds) l e =
    let b = and_both (not (ledgers.is_taken why)) (all_calm ds) e in
    ap (λ (t : Bool). ledgers.take_all_gone m ds (ledgers.when t (ledgers.take m i) l)) (none_taken (ledgers.is_taken why) b.0) ∙ calm_gone m ds l b.1
calm_gone m (did.Released q i ∷ ds) l e = calm_gone m ds l e
calm_gone m (did.Hardened c w ∷ ds) l e = calm_gone m ds l e
calm_gone m (did.Prepared c u ∷ ds) l e = calm_gone m ds l e
calm_gone m (did.Placed q i dead ∷ ds) l e = absurd cc
calm_gone m (did.Moved q i to target bare ∷ ds) l e = absurd cc
calm_gone m (did.Held q i by_ ∷ ds) l e = absurd cc
calm_gone m (did.Received c u ∷ ds) l e = absurd cc

calm_moves : (m : ℕ) (ds : List Did) (l : Ledger) → all_calm ds ≡ true → ledgers.move_all m ds l ≡ l
calm_moves m [] l e = refl
calm_moves m (did.Removed q i why ∷ ds) l e = calm_moves m ds l (and_both (not (ledgers.is_taken why)) (all_calm ds) e).1
calm_moves m (did.Released q i ∷ ds) l e = calm_moves m ds l e
calm_moves m (did.Hardened c w ∷ ds) l e = calm_moves m ds l e
calm_moves m (did.Prepared c u ∷ ds) l e = calm_moves m ds l e
calm_moves m (did.Placed q i dead ∷ ds) l e = absurd cc
calm_moves m (did.Moved q i to target bare ∷ ds) l e = absurd cc
calm_moves m (did.Held q i by_ ∷ ds) l e = absurd cc
calm_moves m (did.Received c u ∷ ds) l e = absurd cc

calm_receives : (ds : List Did) → all_calm ds ≡ true → ledgers.received_on ds ≡ None
calm_receives [] e = refl
calm_receives (did.Removed q i why ∷ ds) e = calm_receives ds (and_both (not (ledgers.is_taken why)) (all_calm ds) e).1
calm_receives (did.Released q i ∷ ds) e = calm_receives ds e
calm_receives (did.Hardened c w ∷ ds) e = calm_receives ds e
calm_receives (did.Prepared c u ∷ ds) e = calm_receives ds e
calm_receives (did.Placed q i dead ∷ ds) e = absurd cc
calm_receives (did.Moved q i to target bare ∷ ds) e = absurd cc
calm_receives (did.Held q i by_ ∷ ds) e = absurd cc
calm_receives (did.Received c u ∷ ds) e = absurd cc

pub calm_quiet : (ds : List Did) → all_calm ds ≡ true → unit_received ds ≡ None
calm_quiet [] e = refl
calm_quiet (did.Removed q i why ∷ ds) e = calm_quiet ds (and_both (not (ledgers.is_taken why)) (all_calm ds) e).1
calm_quiet (did.Released q i ∷ ds) e = calm_quiet ds e
calm_quiet (did.Hardened c w ∷ ds) e = calm_quiet ds e
calm_quiet (did.Prepared c u ∷ ds) e = calm_quiet ds e
calm_quiet (did.Placed q i dead ∷ ds) e = absurd cc
calm_quiet (did.Moved q i to target bare ∷ ds) e = absurd cc
calm_quiet (did.Held q i by_ ∷ ds) e = absurd cc
calm_quiet (did.Received c u ∷ ds) e = absurd cc

pub calm_filter : (f : Did → Bool) (ds : List Did) → all_calm ds ≡ true → all_calm (filter f ds) ≡ true
calm_filter f [] e = refl
calm_filter f (d ∷ ds) e =
    let b = and_both (is_calm d) (all_calm ds) e in
    bool_case (f d) (λ t. all_calm (if t then d ∷ filter f ds else filter f ds) ≡ true) (λ z. ap (λ (t : Bool). t && all_calm (filter f ds)) b.0 ∙ calm_filter f ds b.1) (λ z. calm_filter f ds b.1)

pub calm_behind : (xs ys : List Did) → all_calm xs ≡ true → all_calm ys ≡ true → all_calm (xs ++ ys) ≡ true
calm_behind [] ys a b = b
calm_behind (x ∷ xs) ys a b = let z = and_both (is_calm x) (all_calm xs) a in ap (λ (t : Bool). t && all_calm (xs ++ ys)) z.0 ∙ calm_behind xs ys z.1 b

settle_calm : (commit : Bool) (rs : List Remove) → all_calm (map (settle_did commit) rs) ≡ true
settle_calm commit [] = refl
settle_calm true (r ∷ rs) = settle_calm true rs
settle_calm false (r ∷ rs) = settle_calm false rs

pub hardened_calm : (c : List ℕ) (w : Note) (p : Plain) → all_calm (harden_part c w p).delta ≡ true
hardened_calm c (notes.Session partner session) p = refl
hardened_calm c (notes.Resolved unit commit operator) p = calm_behind (map (settle_did commit) (held_rows (holders.Batch c) p)) (did.Hardened c (notes.Resolved unit commit operator) ∷ []) (settle_calm commit (held_rows (holders.Batch c) p)) refl
hardened_calm c (notes.Bound partner session last) p = refl
hardened_calm c (notes.Closed session) p = refl
hardened_calm c (notes.SeqSet end last) p = refl

-- of an end's turn, or of a command on one
call_posts : (m : ℕ) (call : Call) (reply : Reply) (ms : List Message) (ds : List Did) (l : Ledger) → IsOfEnd call → all_calm ds ≡ true → ledgers.post_call m call reply ms ds l ≡ l
call_posts m calls.Turn reply ms ds l is e = (λ i. ledgers.receive_if m (calm_receives ds e i) ms ds (calm_moves m ds l e i))
call_posts m (calls.Act (acts.Obey (lines.Operate op))) reply ms ds l is e = obeyed (ledgers.is_obeyed reply)
  where
    obeyed : (t : Bool) → ledgers.when t (ledgers.obey m (lines.Operate op)) l ≡ l
    obeyed true = refl
    obeyed false = refl
call_posts m call reply ms ds l is e = absurd is

pub nothing_posted : (m : ℕ) (st : ledgers.Stopped) (note : Noted) → IsOfEnd st.entry.call → all_calm note.delta ≡ true → (p : Plain) (l : Ledger) → posted_again m st (redone_delta true (Some note) p) l ≡ l
nothing_posted m st note is e p l =
    let ds : List Did = redone_delta true (Some note) p in
    let calm : all_calm ds ≡ true = calm_filter (lasts note.written p) note.delta e in
    let at : Ledger = ledgers.at_moment m st.moment l in
    ap (λ (k : Ledger). ledgers.found m (Some st) ds k) (calm_gone m ds l calm)
    ∙ ap (λ (k : Ledger). ledgers.at_moment m (ledgers.users_at m l).moment (ledgers.post_call m st.entry.call st.entry.reply st.entry.effect.received ds k)) (calm_gone m ds at calm)
    ∙ ap (λ (k : Ledger). ledgers.at_moment m (ledgers.users_at m l).moment k) (call_posts m st.entry.call st.entry.reply st.entry.effect.received ds at is calm)
    ∙ moments_back m st.moment l

-- ALL OF IT
pub one_on : (p q : Plain) → p.channels ≡ q.channels → IsOne_ p → IsOne_ q
one_on p q e h d t f = (λ i. in_doubt_of (sender_in d (sym e i).senders)) ∙ h d t ((λ i. batch_of d (e i).batches) ∙ f)

pub one_redone : (note : Noted) (p : Plain) → IsOne_ (apply_all note.changes (left_as p)) → IsOne_ (redone note p)
one_redone note p h = one_on (apply_all note.changes (left_as p)) (redone note p) (all_after note.changes (left_as p) (record p { log = stands_in note.written p.log }) refl) h

pub one_left : (p : Plain) (part : Part) (r : LogRecord) (left : ℕ) → IsSound (do_part part p) → IsOne_ (apply_all part.changes (left_as (freeze (Some (noted_of part r)) left p)))
one_left p part r left sound = one_on (do_part part p) (apply_all part.changes (left_as (freeze (Some (noted_of part r)) left p))) (all_after part.changes (logged part.forced p) (left_as (freeze (Some (noted_of part r)) left p)) (kept part.forced)) sound.facts.batched.one
  where
    kept : (o : Option LogRecord) → (logged o p).channels ≡ p.channels
    kept None = refl
    kept (Some s) = refl

pub leaves : (m : ℕ) (st : ledgers.Stopped) (p : Plain) (part : Part) (r : LogRecord) (left : ℕ) → IsOfEnd st.entry.call → all_calm part.delta ≡ true → IsSound (do_part part p) → Stays_ p part
    → IsLeft m st (noted_of part r) (left_as (freeze (Some (noted_of part r)) left p))
leaves m st p part r left is calm sound same = record { sound = sound_of p part r left sound same; posts = nothing_posted m st (noted_of part r) is calm; one = one_left p part r left sound }
