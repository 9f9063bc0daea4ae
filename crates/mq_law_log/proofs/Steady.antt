-- What lasts of a list of changes follows from what lasted: so a stopped write that a restart finds is done as it would have been.
use Rattle.std.proofs.Common.{ℕ, ◌≡◌, Bool, true, false, List, [], ◌∷◌, refl, ap, sym, ◌∙◌, subst}
use Rattle.std.specs.Prelude.{Option, None, Some, not, ◌++◌, if◌then◌else◌, filter}
use Rattle.std.specs.List.{AllByRecursion}
use Rattle.std.specs.Str.{bytes_eq}
use Rattle.mq_message.specs.declared.message.Message.{Message}
use Rattle.mq_queue.specs.declared.row.Row.{Row}
use Rattle.mq_objects.specs.declared.command.Subject.TheVariants as subjects
use Rattle.mq_objects.specs.Changed.{changed}
use Rattle.mq_objects.specs.Names.{local_of}
use Rattle.mq_calls.specs.declared.records.LogRecord.{LogRecord}
use Rattle.mq_calls.specs.State.{Plain, Given, Change, Queue, fresh_queue}
use Rattle.mq_calls.specs.State.Which.{Among, HeldBy, HeldByUnits, Nonpersistent}
use Rattle.mq_calls.specs.State.Change.{Place as Places, Try, Leave, CountIdent, ChangeObjects, Renew, DropQueue, MakeStale, SwitchOn, SetSender, SetReceiver, Undoubt}
use Rattle.mq_calls.specs.Reads.{stored, is_persistent}
use Rattle.mq_calls.specs.Condition.{condition}
use Rattle.mq_calls.specs.Changes.{apply, apply_all, off_lists, set_sender, set_receiver, lane_of, placed_in, new_row, kept_in, selects, made_due, depth_type, try_if}
use Rattle.mq_calls.specs.Steps.{Part, volatile_gone}
use Rattle.mq_calls.specs.Images.{lasting}
use Rattle.mq_calls.specs.declared.image.Shelf.{Shelf}
use Rattle.mq_calls.specs.declared.image.Image.{Image}
use Rattle.mq_spec_log.specs.Applies.{suits}
use Rattle.mq_spec_log.specs.Records.{doing, shelf_if}
use Rattle.mq_spec_log.specs.Shelves.{left, shelved}
use Rattle.mq_law_manager.proofs.StockStarts.{has_shelf, has_lasting}
use Rattle.mq_law_log.specs.Keeps.{AreLaned, Told, Does, has_queue}
use Rattle.mq_law_log.specs.Restarts.{IsHarmless, gone}
use Rattle.mq_law_log.proofs.Rows.{bool_case}
use Rattle.mq_law_log.proofs.Changes.{left_lasts, placed_lasts, placed_aside, tried_lasts}
use Rattle.mq_law_log.proofs.Objects.{switched_aside, renewed_by, dropped_lasts}
use Rattle.mq_law_log.proofs.Placings.{all_found, all_set, all_mapped, laned_kept, laned_inserted}
use Rattle.mq_law_log.proofs.Stops.{frozen_lasts}
use Rattle.mq_law_log.proofs.Harmless.{harmless}

abbrev pub AllLaned : Plain → Type 0
AllLaned p = AllByRecursion (λ (q : Queue). AreLaned q.rows) p.queues

-- Two managers of which the same lasts.
pub record Lasts (g p : Plain) : Type 0 where
  pub same : lasting g ≡ lasting p
  pub near : AllLaned g
  pub far : AllLaned p

-- A change of which what lasts follows from what lasted, where its queue is there.
abbrev pub IsSteady : Change → Plain → Type 0
IsSteady (Places queue m) p = has_queue queue p.queues ≡ true
IsSteady (Try queue priority) p = has_queue queue p.queues ≡ true
IsSteady (SwitchOn queue) p = has_queue queue p.queues ≡ true
IsSteady (Leave (Among queue idents)) p = Unit {0}
IsSteady (SetSender channel d) p = Unit {0}
IsSteady (SetReceiver channel d) p = Unit {0}
IsSteady (Undoubt ident) p = Unit {0}
IsSteady (ChangeObjects change) p = Unit {0}
IsSteady (Renew queue) p = Unit {0}
IsSteady (DropQueue queue) p = Unit {0}
IsSteady (MakeStale step) p = Unit {0}
IsSteady CountIdent p = Unit {0}
IsSteady _ p = ⊥

abbrev pub AllSteady : List Change → Plain → Type 0
AllSteady [] p = Unit {0}
AllSteady (c ∷ cs) p = IsSteady c p × AllSteady cs (apply c p)

-- a queue is at one where it is at the other
there : (g p : Plain) (queue : List ℕ) → lasting g ≡ lasting p → has_queue queue p.queues ≡ true → has_queue queue g.queues ≡ true
there g p queue e h = sym (has_lasting queue g.channels.batches g.queues) ∙ ap (λ (i : Image). has_shelf queue i.shelves) e ∙ has_lasting queue p.channels.batches p.queues ∙ h

-- Lanes

stored_laned : (queue : List ℕ) (p : Plain) → AllLaned p → AreLaned (stored queue p).rows
stored_laned queue p h = all_found (λ (q : Queue). AreLaned q.rows) queue p.queues tt h

filter_laned : (f : Queue → Bool) (qs : List Queue) → AllByRecursion (λ (q : Queue). AreLaned q.rows) qs → AllByRecursion (λ (q : Queue). AreLaned q.rows) (filter f qs)
filter_laned f [] h = tt
filter_laned f (q ∷ qs) h = bool_case (f q) (λ b. AllByRecursion (λ (x : Queue). AreLaned x.rows) (if b then q ∷ filter f qs else filter f qs)) (λ e. (h.0, filter_laned f qs h.1)) (λ e. filter_laned f qs h.1)

laned_step : (c : Change) (p q : Plain) → IsSteady c q → AllLaned p → AllLaned (apply c p)
laned_step (Places queue m) p q a h =
    let lane : ℕ = lane_of (local_of queue p.definitions) m.md.priority in
    all_set (λ (x : Queue). AreLaned x.rows) (placed_in lane m (stored queue p)) p.queues (laned_inserted (new_row lane _ m) (stored queue p).rows (stored_laned queue p h)) h
laned_step (Try queue priority) p q a h = bool_case (condition (local_of queue p.definitions) priority p) (λ b. AllLaned (try_if b queue p))
    (λ e. all_set (λ (x : Queue). AreLaned x.rows) (made_due (depth_type (local_of queue p.definitions)) p.moment (stored queue p)) p.queues (stored_laned queue p h) h) (λ e. h)
laned_step (SwitchOn queue) p q a h = all_set (λ (x : Queue). AreLaned x.rows) (record (stored queue p) { switched_off = false }) p.queues (stored_laned queue p h) h
laned_step (Leave (Among queue idents)) p q a h =
    all_mapped (λ (x : Queue). AreLaned x.rows) (kept_in (Among queue idents)) (λ x k. laned_kept (λ (row : Row). not (selects (Among queue idents) x.name row)) x.rows k) p.queues h
laned_step (Leave (HeldBy holder)) p q a h = absurd a
laned_step (Leave HeldByUnits) p q a h = absurd a
laned_step (Leave Nonpersistent) p q a h = absurd a
laned_step (SetSender channel d) p q a h = h
laned_step (SetReceiver channel d) p q a h = h
laned_step (Undoubt ident) p q a h = h
laned_step (ChangeObjects change) p q a h = h
laned_step (Renew queue) p q a h = all_set (λ (x : Queue). AreLaned x.rows) (fresh_queue queue) p.queues tt h
laned_step (DropQueue queue) p q a h = filter_laned (λ (x : Queue). not (bytes_eq queue x.name)) p.queues h
laned_step (MakeStale step) p q a h = h
laned_step CountIdent p q a h = h
laned_step c p q a h = absurd a

-- What lasts

placing_same : (queue : List ℕ) (m : Message) (g p : Plain) → has_queue queue p.queues ≡ true → Lasts g p → lasting (apply (Places queue m) g) ≡ lasting (apply (Places queue m) p)
placing_same queue m g p a s = bool_case (is_persistent m) (λ b. is_persistent m ≡ b → lasting (apply (Places queue m) g) ≡ lasting (apply (Places queue m) p))
    (λ z e. placed_lasts queue m g (stored_laned queue g s.near) e ∙ ap (shelved queue m) s.same ∙ sym (placed_lasts queue m p (stored_laned queue p s.far) e))
    (λ z e. placed_aside queue m g (there g p queue s.same a) e ∙ s.same ∙ sym (placed_aside queue m p a e)) refl

same_step : (c : Change) (g p : Plain) → IsSteady c p → Lasts g p → lasting (apply c g) ≡ lasting (apply c p)
same_step (Places queue m) g p a s = placing_same queue m g p a s
same_step (Try queue priority) g p a s = tried_lasts queue priority g (there g p queue s.same a) ∙ s.same ∙ sym (tried_lasts queue priority p a)
same_step (SwitchOn queue) g p a s = switched_aside true queue g (λ e. there g p queue s.same a) ∙ s.same ∙ sym (switched_aside true queue p (λ e. a))
same_step (Leave (Among queue idents)) g p a s = left_lasts queue idents g ∙ ap (left (Among queue idents)) s.same ∙ sym (left_lasts queue idents p)
same_step (Leave (HeldBy holder)) g p a s = absurd a
same_step (Leave HeldByUnits) g p a s = absurd a
same_step (Leave Nonpersistent) g p a s = absurd a
same_step (SetSender channel d) g p a s = ap (λ (i : Image). record i { senders = set_sender (record { channel = channel; hardened = d }) i.senders }) s.same
same_step (SetReceiver channel d) g p a s = ap (λ (i : Image). record i { receivers = set_receiver (record { channel = channel; hardened = d }) i.receivers }) s.same
same_step (Undoubt ident) g p a s = ap (λ (i : Image). record i { senders = off_lists ident i.senders }) s.same
same_step (ChangeObjects change) g p a s = ap (λ (i : Image). record i { definitions = changed change i.definitions }) s.same
same_step (Renew queue) g p a s = renewed_by None queue g ∙ ap (λ (i : Image). record i { shelves = shelf_if None queue i.shelves }) s.same ∙ sym (renewed_by None queue p)
same_step (DropQueue queue) g p a s = dropped_lasts (subjects.Local queue) p.definitions g
    ∙ ap (λ (i : Image). record i { shelves = filter (λ (x : Shelf). not (bytes_eq queue x.name)) i.shelves }) s.same ∙ sym (dropped_lasts (subjects.Local queue) p.definitions p)
same_step (MakeStale step) g p a s = s.same
same_step CountIdent g p a s = s.same
same_step c g p a s = absurd a

pub same_all : (cs : List Change) (g p : Plain) → AllSteady cs p → Lasts g p → lasting (apply_all cs g) ≡ lasting (apply_all cs p)
same_all [] g p a s = s.same
same_all (c ∷ cs) g p a s = same_all cs (apply c g) (apply c p) a.1 (record { same = same_step c g p a.0 s; near = laned_step c g p a.0 s.near; far = laned_step c p p a.0 s.far })

-- A part that does what its record says makes a crash harmless, where its changes are such.

told_there : (f : Option LogRecord) (g p : Plain) (new other : Image) → g.given ≡ p.given → lasting g ≡ lasting p → other ≡ new → Told f p new → Told f g other
told_there None g p new other is same e h = e ∙ h ∙ sym same
told_there (Some r) g p new other is same e h = (subst (λ (i : Image). suits g.given r i ≡ true) (sym same) (subst (λ (x : Given). suits x r (lasting p) ≡ true) (sym is) h.0), e ∙ h.1 ∙ ap (doing r) (sym same))

pub does_there : (part : Part) (g p : Plain) → g.given ≡ p.given → AllSteady part.changes p → Lasts g p → Does part p → Does part g
does_there part g p is a s h = told_there part.forced g p (lasting (apply_all part.changes p)) (lasting (apply_all part.changes g)) is s.same (same_all part.changes g p a s) h

gone_laned : (p : Plain) → AllLaned p → AllByRecursion (λ (q : Queue). AreLaned q.rows) (volatile_gone p).queues
gone_laned p h = all_mapped (λ (x : Queue). AreLaned x.rows) (kept_in Nonpersistent) (λ x k. laned_kept (λ (row : Row). not (selects Nonpersistent x.name row)) x.rows k) p.queues h

pub steady_harmless : (part : Part) (p : Plain) → AllLaned p → AllSteady part.changes p → Does part p → IsHarmless part p
steady_harmless part p laned a h = harmless part p
    (λ log. does_there part (record p { log = log }) p refl a (record { same = refl; near = laned; far = laned }) h)
    (λ running log moment. does_there part (gone running log moment p) p refl a (record { same = frozen_lasts None 0 p; near = gone_laned p laned; far = laned }) h)

-- lists of changes one behind the other
pub steady_append : (xs ys : List Change) (p : Plain) → AllSteady xs p → AllSteady ys (apply_all xs p) → AllSteady (xs ++ ys) p
steady_append [] ys p a b = b
steady_append (x ∷ xs) ys p a b = (a.0, steady_append xs ys (apply x p) a.1 b)
