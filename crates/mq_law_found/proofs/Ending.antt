-- Ends of units, whose write was stopped and is found.
use Rattle.std.proofs.Common.{ℕ, ◌≡◌, Bool, true, false, List, [], ◌∷◌, ◌++◌, refl, ap, sym, subst, ◌∙◌, inl, inr}
use Rattle.std.specs.Prelude.{Some, None, if◌then◌else◌, filter, flat_map}
use Rattle.mq_message.specs.declared.message.Ident.{Ident}
use Rattle.mq_message.specs.declared.message.Message.{Message}
use Rattle.mq_codes.specs.declared.reason.Reason.{Reason}
use Rattle.mq_objects.specs.Names.{local_of}
use Rattle.mq_disk.specs.declared.cutter.Stop.{Stop}
use Rattle.mq_calls.specs.declared.answers.Answer.TheVariants as answers
use Rattle.mq_calls.specs.declared.answers.Hconn.{Hconn}
use Rattle.mq_calls.specs.declared.deltas.Did.{Did}
use Rattle.mq_calls.specs.declared.records.Add.{Add}
use Rattle.mq_calls.specs.declared.state.Connection.{Connection}
use Rattle.mq_calls.specs.declared.state.Item.{Item}
use Rattle.mq_calls.specs.declared.state.Item.TheVariants.{Put, Take}
use Rattle.mq_history.specs.declared.calls.Call.{Call}
use Rattle.mq_history.specs.declared.calls.Call.TheVariants as calls
use Rattle.mq_history.specs.declared.calls.Reply.TheVariants as replies
use Rattle.mq_calls.specs.State.{Plain, Change, Noted}
use Rattle.mq_calls.specs.State.Change.{Place as Places, Leave, EndUnit, Disconnect}
use Rattle.mq_calls.specs.State.Which.{Among}
use Rattle.mq_calls.specs.Reads.{connection_at}
use Rattle.mq_calls.specs.Changes.{apply, apply_all, try_if, made_due, depth_type, placed_in, lane_of}
use Rattle.mq_calls.specs.Reads.{stored}
use Rattle.mq_calls.specs.Condition.{condition}
use Rattle.mq_calls.specs.Images.{lasting}
use Rattle.mq_calls.specs.Steps.{Part, do_part, logged, volatile_gone, stands_in}
use Rattle.mq_calls.specs.Steps.Step.{Do}
use Rattle.mq_spec_manager.specs.Handles.{connected}
use Rattle.mq_spec_manager.specs.Put.{placed}
use Rattle.mq_spec_manager.specs.Units.{mqcmit, mqdisc, commit_part, commit_changes, taken_item, placed_item, removed_item, placed_did}
use Rattle.mq_spec_manager.specs.Stops.{redone, lasts}
use Rattle.mq_spec_network.specs.Ledger as ledgers
use Rattle.mq_spec_network.specs.Ledger.{Ledger, at_moment, post_call, take_all_gone, take_gone}
use Rattle.mq_spec_network.specs.Order.{unit_received}
use Rattle.mq_spec_network.specs.Story.{Mem}
use Rattle.mq_law_events.proofs.from_law_rows.Lists.{bool_case}
use Rattle.mq_law_manager.specs.View.{puts_in, items_of}
use Rattle.mq_law_manager.specs.Facts.{has_queue, IsSound}
use Rattle.mq_law_manager.specs.Kept.{StepKeeps}
use Rattle.mq_law_manager.proofs.Units.{behind, found_number}
use Rattle.mq_law_manager.proofs.Untouched.{part_given}
use Rattle.mq_law_log.proofs.Landings.{placed_steady}
use Rattle.mq_law_log.proofs.Placings.{has_mapped, has_set}
use Rattle.mq_law_log.proofs.Steady.{AllSteady, steady_append}
use Rattle.mq_law_events.specs.Tied.{IsTold, IsFresh, Follow}
use Rattle.mq_law_events.specs.Posting.{IsListed}
use Rattle.mq_law_events.proofs.Committing.{committed, commit_follows}
use Rattle.mq_law_events.proofs.Events.{commit_is, from_log, lives}
use Rattle.mq_law_events.proofs.Getting.{follow_then}
use Rattle.mq_law_events.proofs.Leaving.{disconnect_follows, ended_none}
use Rattle.mq_law_events.proofs.Sounds.{listed}
use Rattle.mq_law_found.specs.Finds.{since, stopped_call, PartNotes, StepNotes}
use Rattle.mq_law_found.proofs.Finding.{live_with, one_noted, told_since, told_then, in_moment}
use Rattle.mq_law_found.proofs.Again.{steady_lasts, rises}
use Rattle.mq_law_found.proofs.Going.{left_row}

-- What a unit's end tells takes nothing, whatever of it is told again

abbrev TakesNone : ℕ → List Did → Type 0
TakesNone m [] = Unit {0}
TakesNone m (d ∷ ds) = ((l : Ledger) → take_gone m d l ≡ l) × TakesNone m ds

none_append : (m : ℕ) (xs ys : List Did) → TakesNone m xs → TakesNone m ys → TakesNone m (xs ++ ys)
none_append m [] ys a b = b
none_append m (x ∷ xs) ys a b = (a.0, none_append m xs ys a.1 b)

removed_none : (m : ℕ) (items : List Item) → TakesNone m (flat_map removed_item items)
removed_none m [] = tt
removed_none m (Put q message ∷ items) = removed_none m items
removed_none m (Take q i lasting ∷ items) = ((λ l. refl), removed_none m items)

placed_none : (m : ℕ) (items : List Item) → TakesNone m (flat_map placed_did items)
placed_none m [] = tt
placed_none m (Put q message ∷ items) = ((λ l. refl), placed_none m items)
placed_none m (Take q i lasting ∷ items) = placed_none m items

filtered_none : (m : ℕ) (f : Did → Bool) (ds : List Did) (l : Ledger) → TakesNone m ds → take_all_gone m (filter f ds) l ≡ l
filtered_none m f [] l a = refl
filtered_none m f (d ∷ ds) l a = bool_case (f d) (λ t. take_all_gone m (if t then d ∷ filter f ds else filter f ds) l ≡ l) (λ e. ap (take_all_gone m (filter f ds)) (a.0 l) ∙ filtered_none m f ds l a.1) (λ e. filtered_none m f ds l a.1)

removed_quiet : (items : List Item) (ds : List Did) → unit_received ds ≡ None → unit_received (flat_map removed_item items ++ ds) ≡ None
removed_quiet [] ds a = a
removed_quiet (Put q message ∷ items) ds a = removed_quiet items ds a
removed_quiet (Take q i lasting ∷ items) ds a = removed_quiet items ds a

placed_quiet : (items : List Item) → unit_received (flat_map placed_did items) ≡ None
placed_quiet [] = refl
placed_quiet (Put q message ∷ items) = placed_quiet items
placed_quiet (Take q i lasting ∷ items) = placed_quiet items

-- The queues of a unit's puts are there, and stay

abbrev AllThere : List Item → Plain → Type 0
AllThere [] p = Unit {0}
AllThere (Put q message ∷ items) p = (has_queue q p.queues ≡ true) × AllThere items p
AllThere (Take q i lasting ∷ items) p = AllThere items p

there_placed : (name q : List ℕ) (message : Message) (p : Plain) → has_queue name p.queues ≡ true → has_queue name (apply_all (placed q message) p).queues ≡ true
there_placed name q message p h =
    let r : Plain = apply (Places q message) p in
    go (condition (local_of q r.definitions) message.md.priority r) (has_set name (placed_in (lane_of (local_of q p.definitions) message.md.priority) message (stored q p)) p.queues h)
  where
    go : (t : Bool) → has_queue name (apply (Places q message) p).queues ≡ true → has_queue name (try_if t q (apply (Places q message) p)).queues ≡ true
    go true k = let r : Plain = apply (Places q message) p in has_set name (made_due (depth_type (local_of q r.definitions)) r.moment (stored q r)) r.queues k
    go false k = k

all_placed : (items : List Item) (q : List ℕ) (message : Message) (p : Plain) → AllThere items p → AllThere items (apply_all (placed q message) p)
all_placed [] q message p h = tt
all_placed (Put d m ∷ items) q message p h = (there_placed d q message p h.0, all_placed items q message p h.1)
all_placed (Take d i lasting ∷ items) q message p h = all_placed items q message p h

all_left : (items : List Item) (q : List ℕ) (is : List Ident) (p : Plain) → AllThere items p → AllThere items (apply (Leave (Among q is)) p)
all_left [] q is p h = tt
all_left (Put d m ∷ items) q is p h = (has_mapped d (Among q is) p.queues ∙ h.0, all_left items q is p h.1)
all_left (Take d i lasting ∷ items) q is p h = all_left items q is p h

all_behind : (items done : List Item) (p : Plain) → AllThere items p → AllThere items (apply_all (flat_map taken_item done) p)
all_behind items [] p h = h
all_behind items (Put q m ∷ done) p h = all_behind items done p h
all_behind items (Take q i lasting ∷ done) p h = all_behind items done (apply (Leave (Among q (i ∷ []))) p) (all_left items q (i ∷ []) p h)

all_there : (items : List Item) (p : Plain) → ((a : Add) → Mem a (puts_in items) → has_queue a.queue p.queues ≡ true) → AllThere items p
all_there [] p h = tt
all_there (Put q m ∷ items) p h = (h (record { queue = q; message = m }) (inl refl), all_there items p (λ a n. h a (inr n)))
all_there (Take q i lasting ∷ items) p h = all_there items p h

takes_steady : (items : List Item) (p : Plain) → AllSteady (flat_map taken_item items) p
takes_steady [] p = tt
takes_steady (Put q m ∷ items) p = takes_steady items p
takes_steady (Take q i lasting ∷ items) p = (tt, takes_steady items (apply (Leave (Among q (i ∷ []))) p))

puts_steady : (items : List Item) (p : Plain) → AllThere items p → AllSteady (flat_map placed_item items) p
puts_steady [] p h = tt
puts_steady (Put q m ∷ items) p h = steady_append (placed q m) (flat_map placed_item items) p (placed_steady q m p h.0) (puts_steady items (apply_all (placed q m) p) (all_placed items q m p h.1))
puts_steady (Take q i lasting ∷ items) p h = puts_steady items p h

abbrev halves : Connection → List Change
halves c = flat_map taken_item c.unit ++ flat_map placed_item c.unit

halves_steady : (n : ℕ) (c : Connection) (p : Plain) → IsSound p → connection_at n p.connections ≡ Some c → AllSteady (halves c) p
halves_steady n c p h live =
    let there : AllThere c.unit p = all_there c.unit p (λ a k. h.stocked.placed a.queue (h.stocked.puts n a (subst (λ o. Mem a (puts_in (items_of o))) (sym live) k))) in
    steady_append (flat_map taken_item c.unit) (flat_map placed_item c.unit) p (takes_steady c.unit p) (puts_steady c.unit (apply_all (flat_map taken_item c.unit) p) (all_behind c.unit c.unit p there))

-- behind both halves, nothing that lasts
ends_lasts : (c : Connection) (more : List Change) (p : Plain) → ((q : Plain) → lasting (apply_all more q) ≡ lasting q) → lasting (apply_all (commit_changes c ++ more) p) ≡ lasting (apply_all (halves c) p)
ends_lasts c more p aside = ap lasting (behind (commit_changes c) more p) ∙ aside (apply_all (commit_changes c) p) ∙ ap lasting (behind (halves c) (EndUnit c.number ∷ []) p)

-- The notes

listed_left : (n : ℕ) (p : Plain) → IsSound p → IsListed n (volatile_gone p)
listed_left n p h d x k by_ = listed n p h d x (left_row p d x k) by_

-- what a restart does, and posts, of a unit's end
abbrev EndFollows : ℕ → Call → Hconn → Connection → List Change → Plain → Type 0
EndFollows m call hc c more p = (given : Ident → Bool) (q : Plain) (l : Ledger) (by : Stop) (ds : List Did) → IsFresh given q → IsTold m q l → IsListed hc.number q → connection_at hc.number q.connections ≡ Some c
    → Follow m given q l (apply_all (commit_changes c ++ more) q) (post_call m call (replies.Stopped by) [] ds l)

end_noted : (m : ℕ) (call : Call) (p : Plain) (hc : Hconn) (c : Connection) (more : List Change) → IsSound p → connection_at hc.number p.connections ≡ Some c → IsSound (do_part (commit_part more c) p)
    → ((q : Plain) → lasting (apply_all more q) ≡ lasting q) → EndFollows m call hc c more p → PartNotes m call p.moment p (commit_part more c)
end_noted m call p hc c more h live sound aside ends r e chance by_ ds forced =
    let part : Part = commit_part more c in
    let n : Noted = record { written = r; changes = part.changes; delta = part.delta } in
    let s : ledgers.Stopped = stopped_call e call chance by_ ds p.moment in
    record {
      followed = λ given running now log l fresh told.
          let down : Plain = since (volatile_gone p) running now log in
          let down2 : Plain = since (volatile_gone p) running now (stands_in r log) in
          let at_end : Ledger = at_moment m p.moment l in
          let told_ : List Did = filter (lasts r down) part.delta in
          let none : (k : Ledger) → take_all_gone m told_ k ≡ k = λ k. filtered_none m (lasts r down) part.delta k (none_append m (flat_map removed_item c.unit) (flat_map placed_did c.unit) (removed_none m c.unit) (placed_none m c.unit)) in
          let inner : Follow m given down at_end (redone n down) (post_call m call (replies.Stopped by_) [] told_ at_end) =
          from_log m given down (redone n down) (stands_in r log) at_end (post_call m call (replies.Stopped by_) [] told_ at_end)
          (ends given down2 at_end by_ told_ fresh (told_then m p.moment down2 l (told_since m down running now (stands_in r log) l told)) (listed_left hc.number p h) live) in
          subst (λ (k : Ledger). Follow m given down l (redone n down) (ledgers.found m (Some s) told_ k)) (sym (none l))
          (in_moment m p.moment given down (redone n down) l (post_call m call (replies.Stopped by_) [] told_ (take_all_gone m told_ at_end)) told
          (subst (λ (k : Ledger). Follow m given down at_end (redone n down) (post_call m call (replies.Stopped by_) [] told_ k)) (sym (none at_end)) inner));
      sound = rises n p (do_part part p) sound (part_given part p) (λ running now log.
          ends_lasts c more (since (volatile_gone p) running now log) aside
          ∙ steady_lasts (halves c) p part.forced running now log h (halves_steady hc.number c p h live)
          ∙ sym (ends_lasts c more (logged part.forced p) aside));
      quiet = removed_quiet c.unit (flat_map placed_did c.unit) (placed_quiet c.unit);
    }

pub commits_noted : (m : ℕ) (p : Plain) (hc : Hconn) → IsSound p → StepKeeps IsSound (mqcmit hc p) p → StepNotes m (calls.Mqcmit hc) p (mqcmit hc p)
commits_noted m p hc h = live_with (λ step. StepKeeps IsSound step p → StepNotes m (calls.Mqcmit hc) p step) (λ r k. tt) (connected hc p) (λ c. Do (answers.Ok tt) (commit_part [] c ∷ [])) (λ c e k.
    let live = lives hc c p e in
    one_noted Reason m (calls.Mqcmit hc) p (answers.Ok (tt {0})) (commit_part [] c) (end_noted m (calls.Mqcmit hc) p hc c [] h live k.0 (λ q. refl) (λ given q l by_ ds f t list on.
    subst (λ (z : Plain). Follow m given q l z (ledgers.commit m hc l)) (sym (commit_is hc c [] q (found_number hc.number c q.connections on))) (commit_follows m given q l hc c f t on list))))

pub disconnects_noted : (m : ℕ) (p : Plain) (hc : Hconn) → IsSound p → StepKeeps IsSound (mqdisc hc p) p → StepNotes m (calls.Mqdisc hc) p (mqdisc hc p)
disconnects_noted m p hc h = live_with (λ step. StepKeeps IsSound step p → StepNotes m (calls.Mqdisc hc) p step) (λ r k. tt) (connected hc p) (λ c. Do (answers.Ok tt) (commit_part (Disconnect c.number ∷ []) c ∷ [])) (λ c e k.
    let live = lives hc c p e in
    let more : List Change = Disconnect c.number ∷ [] in
    one_noted Reason m (calls.Mqdisc hc) p (answers.Ok (tt {0})) (commit_part more c) (end_noted m (calls.Mqdisc hc) p hc c more h live k.0 (λ q. refl) (λ given q l by_ ds f t list on.
    let number = found_number hc.number c q.connections on in
    let k : Ledger = ledgers.commit m hc l in
    let first = commit_follows m given q l hc c f t on list in
    let second = disconnect_follows m first.now (committed hc c q) k hc first.fresh first.told (ended_none hc.number _) in
    subst (λ (z : Plain). Follow m given q l z (ledgers.disconnect m hc k)) (sym (commit_is hc c more q number ∙ ap (λ n. apply (Disconnect n) (committed hc c q)) number))
    (follow_then m given q (committed hc c q) (apply (Disconnect hc.number) (committed hc c q)) l k (ledgers.disconnect m hc k) first second))))
