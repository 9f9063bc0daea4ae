-- In a sound manager the forced write of each part makes a crash harmless.
use Rattle.std.proofs.Common.{ℕ, ◌≡◌, Bool, true, false, List, ap, sym, subst, ◌∙◌}
use Rattle.std.specs.Prelude.{Option, Some, None, not, flat_map, nat_lt, ◌==◌}
use Rattle.std.specs.List.{AllByRecursion}
use Rattle.mq_message.specs.declared.message.Message.{Message}
use Rattle.mq_queue.specs.declared.row.Row.{Row}
use Rattle.mq_sync.specs.declared.unit.Unit.{Unit as Luw}
use Rattle.mq_sync.specs.declared.data.End.{End}
use Rattle.mq_sync.specs.declared.data.End.TheVariants as ends
use Rattle.mq_message.specs.declared.place.Holder.TheVariants as holders
use Rattle.mq_queue.specs.Rows.{held_by}
use Rattle.mq_calls.specs.declared.agents.Note.TheVariants as notes
use Rattle.mq_calls.specs.declared.deltas.Why.{Why}
use Rattle.mq_calls.specs.declared.records.LogRecord.{LogRecord}
use Rattle.mq_calls.specs.State.{Plain, Change, Running, LogState}
use Rattle.mq_calls.specs.declared.state.Connection.{Connection}
use Rattle.mq_calls.specs.declared.state.Batch.{Batch}
use Rattle.mq_calls.specs.State.Which.{Among, Nonpersistent}
use Rattle.mq_calls.specs.State.Running.{Down}
use Rattle.mq_calls.specs.Reads.{is_persistent, sender_data, receiver_data, in_doubt_of}
use Rattle.mq_calls.specs.Changes.{apply_all, kept_in, selects}
use Rattle.mq_calls.specs.Steps.{Part, logged, volatile_gone, stands_in, note_of}
use Rattle.mq_spec_manager.specs.Put.{put_part}
use Rattle.mq_spec_manager.specs.Get.{removal_part}
use Rattle.mq_spec_manager.specs.Units.{commit_part, taken_item}
use Rattle.mq_spec_manager.specs.Agents.{harden_part}
use Rattle.mq_sync.specs.Settlement.{sender_or, receiver_or}
use Rattle.mq_calls.specs.Images.{lasting, has_batch}
use Rattle.mq_calls.specs.declared.image.Image.{Image}
use Rattle.mq_spec_log.specs.Applies.{fits, is_unit_in_doubt, can_prepare}
use Rattle.mq_law_log.specs.Keeps.{Does, HoldsJust, IsNew, AreGone, AreTakeable}
use Rattle.mq_law_log.specs.Sound.{IsLogSound, IsUnit, AreFree}
use Rattle.mq_spec_log.specs.Records.{doing}
use Rattle.mq_law_log.specs.Restarts.{IsHarmless, gone, prepare_part}
use Rattle.mq_law_log.proofs.Parts.{put_does, commit_does}
use Rattle.mq_law_log.proofs.Removals.{removal_does}
use Rattle.mq_law_log.proofs.Channels.{session_does, bound_does, closed_does, number_does, resolved_does}
use Rattle.mq_law_log.proofs.Ready.{rows_gone, unit_takeable}
use Rattle.mq_law_log.proofs.Placings.{IsReady, ready_placeable, sound_ready, items_ready, ready_behind, puts_one_by_one, ready_left, all_ready_left, ready_elsewhere, all_elsewhere, all_mapped, all_kept}
use Rattle.mq_law_log.proofs.Batches.{prepared_does}
use Rattle.mq_law_log.proofs.Stops.{does_keep, redone_is, undone_is, frozen_lasts}
use Rattle.mq_law_log.proofs.Ties.{told}

anywhere : (f : Option LogRecord) (part : Part) (p : Plain) → ((log : LogState) → Does part (record p { log = log })) → Does part (logged f p)
anywhere None part p h = h p.log
anywhere (Some r) part p h = h (logged (Some r) p).log

gone_lasts : (running : Running) (log : LogState) (moment : ℕ) (p : Plain) → lasting (gone running log moment p) ≡ lasting p
gone_lasts running log moment p = frozen_lasts None 0 p

pub harmless : (part : Part) (p : Plain) → ((log : LogState) → Does part (record p { log = log })) → ((running : Running) (log : LogState) (moment : ℕ) → Does part (gone running log moment p)) → IsHarmless part p
harmless part p h g = record {
  keeps = does_keep part p (anywhere part.forced part p h);
  found = λ r left started e. redone_is part r left started p e (g (Down (note_of part part.forced) 0) (stands_in r (record p.log { armed = left })) p.moment);
  anytime = λ r running log moment e. told part.forced r (gone running log moment p) (lasting (apply_all part.changes (gone running log moment p))) e (g running log moment) ∙ ap (doing r) (gone_lasts running log moment p);
  lost = λ left started. undone_is (note_of part part.forced) left started p;
}

pub put_harmless : (c : Connection) (queue : List ℕ) (m : Message) (p : Plain) → IsLogSound p → fits queue m p.definitions ≡ true → IsNew m.ident p → IsHarmless (put_part false c queue m) p
put_harmless c queue m p s f n =
    let r : IsReady queue m p = sound_ready queue m p s f n in
    harmless (put_part false c queue m) p
    (λ log. put_does c queue m (record p { log = log }) (ready_placeable queue m (record p { log = log }) (ready_elsewhere queue m p.running log p.moment p r)))
    (λ running log moment. put_does c queue m (gone running log moment p) (ready_placeable queue m (gone running log moment p) (ready_elsewhere queue m running log moment (volatile_gone p) (ready_left queue m Nonpersistent p r))))

-- a get outside units, expired rows, discarded ones
pub removal_harmless : (why : Why) (queue : List ℕ) (rows : List Row) (p : Plain) → IsLogSound p → AreFree queue rows p → IsHarmless (removal_part why queue rows) p
removal_harmless why queue rows p s h = harmless (removal_part why queue rows) p
    (λ log. removal_does why queue rows (record p { log = log }) (rows_gone queue rows p s h))
    (λ running log moment. removal_does why queue rows (gone running log moment p) (subst (λ (i : Image). AreGone queue rows i) (sym (gone_lasts running log moment p)) (rows_gone queue rows p s h)))

-- MQCMIT, MQDISC
pub commit_harmless : (more : List Change) (c : Connection) (p : Plain) → ((q : Plain) → lasting (apply_all more q) ≡ lasting q) → IsLogSound p → IsUnit c.unit p → IsHarmless (commit_part more c) p
commit_harmless more c p aside s u = harmless (commit_part more c) p
    (λ log. commit_does more c (record p { log = log }) aside (unit_takeable c.unit p s.once u)
    (puts_one_by_one c.unit (apply_all (flat_map taken_item c.unit) (record p { log = log })) u.1 (ready_behind c.unit c.unit (record p { log = log }) (all_elsewhere p.running log p.moment c.unit p (items_ready c.unit p s u.0)))))
    (λ running log moment. commit_does more c (gone running log moment p) aside (subst (λ (i : Image). AreTakeable c.unit i) (sym (gone_lasts running log moment p)) (unit_takeable c.unit p s.once u))
    (puts_one_by_one c.unit (apply_all (flat_map taken_item c.unit) (gone running log moment p)) u.1 (ready_behind c.unit c.unit (gone running log moment p) (all_elsewhere running log moment c.unit (volatile_gone p) (all_ready_left Nonpersistent c.unit p (items_ready c.unit p s u.0))))))

-- what channel ends harden
pub session_harmless : (channel partner : List ℕ) (session : ℕ) (p : Plain) → nat_lt (sender_or (sender_data channel p)).session session ≡ true → IsHarmless (harden_part channel (notes.Session partner session) p) p
session_harmless channel partner session p h = harmless (harden_part channel (notes.Session partner session) p) p
    (λ log. session_does channel partner session (record p { log = log }) h) (λ running log moment. session_does channel partner session (gone running log moment p) h)

pub bound_harmless : (channel partner : List ℕ) (session last : ℕ) (p : Plain) → nat_lt (receiver_or (receiver_data channel p)).session session ≡ true → IsHarmless (harden_part channel (notes.Bound partner session last) p) p
bound_harmless channel partner session last p h = harmless (harden_part channel (notes.Bound partner session last) p) p
    (λ log. bound_does channel partner session last (record p { log = log }) h) (λ running log moment. bound_does channel partner session last (gone running log moment p) h)

pub closed_harmless : (channel : List ℕ) (session : ℕ) (p : Plain) → nat_lt 0 session ≡ true → (session == (receiver_or (receiver_data channel p)).session) ≡ true → IsHarmless (harden_part channel (notes.Closed session) p) p
closed_harmless channel session p h e = harmless (harden_part channel (notes.Closed session) p) p
    (λ log. closed_does channel session (record p { log = log }) h e) (λ running log moment. closed_does channel session (gone running log moment p) h e)

pub resolved_harmless : (channel : List ℕ) (unit : Luw) (commit operator : Bool) (p : Plain) → has_batch channel p.channels.batches ≡ false → is_unit_in_doubt unit (sender_or (sender_data channel p)).in_doubt ≡ true
    → IsHarmless (harden_part channel (notes.Resolved unit commit operator) p) p
resolved_harmless channel unit commit operator p h e = harmless (harden_part channel (notes.Resolved unit commit operator) p) p
    (λ log. resolved_does channel unit commit operator (record p { log = log }) h e) (λ running log moment. resolved_does channel unit commit operator (gone running log moment p) h e)

pub number_harmless : (channel : List ℕ) (end : End) (last : ℕ) (p : Plain) → in_doubt_of (sender_data channel p) ≡ None → IsHarmless (harden_part channel (notes.SeqSet end last) p) p
number_harmless channel ends.Sender last p h = harmless (harden_part channel (notes.SeqSet ends.Sender last) p) p
    (λ log. number_does channel ends.Sender last (record p { log = log }) h) (λ running log moment. number_does channel ends.Sender last (gone running log moment p) h)
number_harmless channel ends.Receiver last p h = harmless (harden_part channel (notes.SeqSet ends.Receiver last) p) p
    (λ log. number_does channel ends.Receiver last (record p { log = log }) h) (λ running log moment. number_does channel ends.Receiver last (gone running log moment p) h)

-- a batch is prepared
pub prepare_harmless : (b : Batch) (last : ℕ) (p : Plain) → has_batch b.channel p.channels.batches ≡ true → AllByRecursion (HoldsJust b) p.queues
    → can_prepare b.unit b.queue b.idents (sender_or (sender_data b.channel p)) (lasting p).shelves ≡ true → IsHarmless (prepare_part b last p) p
prepare_harmless b last p h e can = harmless (prepare_part b last p) p
    (λ log. prepared_does b last (record p { log = log }) h e can)
    (λ running log moment. prepared_does b last (gone running log moment p) h
    (all_mapped (HoldsJust b) (kept_in Nonpersistent) (λ q w. all_kept (λ (row : Row). held_by (holders.Batch b.channel) row.by ≡ selects (Among b.queue b.idents) q.name row) (λ (row : Row). not (not (is_persistent row.message))) q.rows w) p.queues e)
    (subst (λ (i : Image). can_prepare b.unit b.queue b.idents (sender_or (sender_data b.channel p)) i.shelves ≡ true) (sym (gone_lasts running log moment p)) can))
