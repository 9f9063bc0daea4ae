-- Object commands.
use Rattle.std.proofs.Common.{ℕ, ◌≡◌, Bool, true, false, List, [], ◌∷◌, refl, ap, ◌∙◌}
use Rattle.std.specs.Prelude.{Option, Some, None, not, if◌then◌else◌, filter, ◌++◌}
use Rattle.std.specs.Str.{bytes_eq}
use Rattle.mq_objects.specs.declared.object.LocalQueue.{LocalQueue}
use Rattle.mq_objects.specs.declared.object.Object.{Object}
use Rattle.mq_objects.specs.declared.object.Object.TheVariants as objects
use Rattle.mq_objects.specs.declared.object.Definitions.{Definitions}
use Rattle.mq_objects.specs.declared.command.Subject.{Subject}
use Rattle.mq_objects.specs.declared.command.Subject.TheVariants as subjects
use Rattle.mq_objects.specs.declared.change.ObjectChange.{ObjectChange}
use Rattle.mq_objects.specs.declared.change.ObjectChange.TheVariants as changes
use Rattle.mq_objects.specs.Names.{local_of, name_of}
use Rattle.mq_resolve.specs.declared.route.PathStep.{PathStep}
use Rattle.mq_resolve.specs.declared.route.PathStep.TheVariants as steps
use Rattle.mq_spec_manager.specs.from_sc_apply.{ThePlanned as Planned}
use Rattle.mq_calls.specs.State.{Plain, Queue, fresh_queue}
use Rattle.mq_calls.specs.declared.state.Batch.{Batch}
use Rattle.mq_calls.specs.State.Change.{ChangeObjects}
use Rattle.mq_calls.specs.Reads.{stored}
use Rattle.mq_calls.specs.Changes.{apply, apply_all}
use Rattle.mq_spec_manager.specs.Commands.{stale_if, switched_if, renewed_if, renewed, dropped, follows, object_part}
use Rattle.mq_calls.specs.Images.{lasting, shelf_of, shelves_of}
use Rattle.mq_calls.specs.declared.image.Shelf.{Shelf}
use Rattle.mq_spec_log.specs.Records.{shelves_after, shelf_if}
use Rattle.mq_spec_log.specs.Applies.{can_change}
use Rattle.mq_law_log.specs.Keeps.{Does, has_queue, SwitchesAt}
use Rattle.mq_law_log.proofs.Rows.{bool_case}
use Rattle.mq_law_log.proofs.Shelves.{shelves_set, shelf_again}
use Rattle.mq_law_log.proofs.Parts.{applied_append}

stale_aside : (b : Bool) (step : PathStep) (p : Plain) → lasting (apply_all (stale_if b step) p) ≡ lasting p
stale_aside true step p = refl
stale_aside false step p = refl

stale_queues : (b : Bool) (step : PathStep) (p : Plain) → (apply_all (stale_if b step) p).queues ≡ p.queues
stale_queues true step p = refl
stale_queues false step p = refl

pub switched_aside : (b : Bool) (name : List ℕ) (p : Plain) → (b ≡ true → has_queue name p.queues ≡ true) → lasting (apply_all (switched_if b name) p) ≡ lasting p
switched_aside true name p h = ap (λ (x : List Shelf). record (lasting p) { shelves = x })
    (shelves_set p.channels.batches (record (stored name p) { switched_off = false }) p.queues ∙ shelf_again p.channels.batches name p.queues (h refl))
switched_aside false name p h = refl

pub renewed_by : (q : Option LocalQueue) (name : List ℕ) (p : Plain) → lasting (apply_all (renewed_if q name) p) ≡ record (lasting p) { shelves = shelf_if q name (lasting p).shelves }
renewed_by None name p = ap (λ (x : List Shelf). record (lasting p) { shelves = x }) (shelves_set p.channels.batches (fresh_queue name) p.queues)
renewed_by (Some q) name p = refl

renewed_lasts : (new : Object) (d : Definitions) (p : Plain) → lasting (apply_all (renewed new d) p) ≡ record (lasting p) { shelves = shelves_after (changes.Set new) d (lasting p).shelves }
renewed_lasts (objects.Local q) d p = renewed_by (local_of q.name d) q.name p
renewed_lasts (objects.Alias q) d p = refl
renewed_lasts (objects.Remote q) d p = refl
renewed_lasts (objects.Channel q) d p = refl
renewed_lasts (objects.Process q) d p = refl

shelves_dropped : (bs : List Batch) (name : List ℕ) (qs : List Queue) → shelves_of bs (filter (λ (q : Queue). not (bytes_eq name q.name)) qs) ≡ filter (λ (s : Shelf). not (bytes_eq name s.name)) (shelves_of bs qs)
shelves_dropped bs name [] = refl
shelves_dropped bs name (q ∷ qs) = bool_case (bytes_eq name q.name)
    (λ b. shelves_of bs (if not b then q ∷ filter (λ (x : Queue). not (bytes_eq name x.name)) qs else filter (λ (x : Queue). not (bytes_eq name x.name)) qs) ≡ (if not b then shelf_of bs q ∷ filter (λ (s : Shelf). not (bytes_eq name s.name)) (shelves_of bs qs) else filter (λ (s : Shelf). not (bytes_eq name s.name)) (shelves_of bs qs)))
    (λ e. shelves_dropped bs name qs) (λ e. ap (λ (x : List Shelf). shelf_of bs q ∷ x) (shelves_dropped bs name qs))

pub dropped_lasts : (subject : Subject) (d : Definitions) (p : Plain) → lasting (apply_all (dropped subject) p) ≡ record (lasting p) { shelves = shelves_after (changes.Delete subject) d (lasting p).shelves }
dropped_lasts (subjects.Local name) d p = ap (λ (x : List Shelf). record (lasting p) { shelves = x }) (shelves_dropped p.channels.batches name p.queues)
dropped_lasts (subjects.Alias name) d p = refl
dropped_lasts (subjects.Remote name) d p = refl
dropped_lasts (subjects.Channel name) d p = refl
dropped_lasts (subjects.Process name) d p = refl

set_follows : (new : Object) (planned : Planned) (d : Definitions) (p : Plain) → (planned.switches_on ≡ true → has_queue (name_of new) (apply_all (renewed new d) p).queues ≡ true)
    → lasting (apply_all (follows (changes.Set new) planned d) p) ≡ record (lasting p) { shelves = shelves_after (changes.Set new) d (lasting p).shelves }
set_follows new planned d p h =
    ap lasting (applied_append (renewed new d ++ stale_if planned.reroutes (steps.Queue (name_of new))) (switched_if planned.switches_on (name_of new)) p)
    ∙ ap (λ (s : Plain). lasting (apply_all (switched_if planned.switches_on (name_of new)) s)) (applied_append (renewed new d) (stale_if planned.reroutes (steps.Queue (name_of new))) p)
    ∙ switched_aside planned.switches_on (name_of new) (apply_all (stale_if planned.reroutes (steps.Queue (name_of new))) (apply_all (renewed new d) p))
    (λ e. ap (λ (qs : List Queue). has_queue (name_of new) qs) (stale_queues planned.reroutes (steps.Queue (name_of new)) (apply_all (renewed new d) p)) ∙ h e)
    ∙ stale_aside planned.reroutes (steps.Queue (name_of new)) (apply_all (renewed new d) p)
    ∙ renewed_lasts new d p

follows_last : (change : ObjectChange) (planned : Planned) (d : Definitions) (p : Plain) → SwitchesAt change planned d p
    → lasting (apply_all (follows change planned d) p) ≡ record (lasting p) { shelves = shelves_after change d (lasting p).shelves }
follows_last (changes.Set new) planned d p h = set_follows new planned d p h
follows_last (changes.SetManager m) planned d p h = stale_aside planned.reroutes steps.DefXmitq p
follows_last (changes.Delete subject) planned d p h = dropped_lasts subject d p

pub object_does : (planned : Planned) (p : Plain) → can_change planned.change p.definitions (lasting p).shelves ≡ true
    → SwitchesAt planned.change planned p.definitions (apply (ChangeObjects planned.change) p) → Does (object_part planned p.definitions) p
object_does planned p can h = (can, follows_last planned.change planned p.definitions (apply (ChangeObjects planned.change) p) h)
