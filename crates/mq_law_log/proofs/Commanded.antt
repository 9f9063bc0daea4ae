-- An object command does what its record says, in a sound manager; so its write makes a crash harmless.
use Rattle.std.proofs.Common.{ℕ, ◌≡◌, Bool, true, false, List, [], ◌∷◌, ◌++◌, refl, ap, sym, ◌∙◌, length, arith, inl, inr, ◌⊎◌}
use Rattle.std.specs.Prelude.{Option, Some, None, Result, Ok, Err, is_some, not, ◌&&◌, ◌||◌}
use Rattle.mq_queue.specs.declared.row.Row.{Row}
use Rattle.mq_objects.specs.declared.object.LocalQueue.{LocalQueue}
use Rattle.mq_objects.specs.declared.object.Object.{Object}
use Rattle.mq_objects.specs.declared.object.Object.TheVariants as objects
use Rattle.mq_objects.specs.declared.object.Definitions.{Definitions}
use Rattle.mq_objects.specs.declared.command.Subject.{Subject}
use Rattle.mq_objects.specs.declared.command.Subject.TheVariants as subjects
use Rattle.mq_objects.specs.declared.command.Command.{Command}
use Rattle.mq_objects.specs.declared.change.ObjectChange.{ObjectChange}
use Rattle.mq_objects.specs.declared.change.ObjectChange.TheVariants as changes
use Rattle.mq_objects.specs.Names.{Queues, space_of, name_of, as_local, local_of, named, is_kind, is_transmission, is_by_priority}
use Rattle.mq_resolve.specs.declared.route.PathStep.{PathStep}
use Rattle.mq_resolve.specs.declared.route.PathStep.TheVariants as steps
use Rattle.mq_calls.specs.declared.commands.ScRefusal.{ScRefusal}
use Rattle.mq_calls.specs.declared.commands.ScRefusal.TheVariants as refusals
use Rattle.mq_spec_manager.specs.from_sc_apply.{Plan, ThePlanned as Planned}
use Rattle.mq_spec_manager.specs.from_sc_apply.PlanVariants as plans
use Rattle.mq_spec_manager.specs.from_sc_apply.Commands.{plan}
use Rattle.mq_spec_manager.specs.from_sc_apply.Planned.{same_usage, same_delivery, changes_rows, is_filled}
use Rattle.mq_calls.specs.State.{Plain}
use Rattle.mq_calls.specs.State.Change.{ChangeObjects}
use Rattle.mq_calls.specs.Reads.{is_up, stored, has_rows, puts_to}
use Rattle.mq_calls.specs.Changes.{apply, apply_all}
use Rattle.mq_calls.specs.Steps.{when}
use Rattle.mq_calls.specs.Images.{lasting, lasting_rows}
use Rattle.mq_calls.specs.declared.image.Shelf.{Shelf}
use Rattle.mq_spec_manager.specs.Commands.{command, planned_step, object_part, uses_of, follows, renewed, renewed_if, stale_if, switched_if, dropped}
use Rattle.mq_spec_log.specs.Applies.{agrees, has_rows_on, same_form, can_replace, can_set, is_empty_local, can_delete, can_change}
use Rattle.mq_law_manager.specs.Facts.{IsSound, is_local}
use Rattle.mq_law_manager.proofs.Lists.{bool_case}
use Rattle.mq_law_manager.proofs.Objects.{object_is, found_object, rank}
use Rattle.mq_law_manager.proofs.StockCommands.{has_no_rows, used_alike, given_alike, both_true}
use Rattle.mq_law_manager.proofs.Planning.{EachChange, PlanHas, object_at, plan_has}
use Rattle.mq_law_log.specs.Keeps.{SwitchesAt, has_queue}
use Rattle.mq_law_log.specs.Restarts.{StepHarmless}
use Rattle.mq_law_log.proofs.Shelves.{shelf_found}
use Rattle.mq_law_log.proofs.Objects.{object_does}
use Rattle.mq_law_log.proofs.Parts.{applied_append}
use Rattle.mq_law_log.proofs.Bridge.{sound_logs}
use Rattle.mq_law_log.proofs.Steady.{AllSteady, steady_append, steady_harmless}
use Rattle.mq_law_log.proofs.Applications.{tested_h}

-- An object that takes the place of one of its kind

no_rows : (rows : List Row) → length rows ≡ 0 → rows ≡ []
no_rows [] e = refl
no_rows (row ∷ rows) e = absurd cc

empty_shelf : (name : List ℕ) (p : Plain) → has_rows name p ≡ false → has_rows_on name (lasting p).shelves ≡ false
empty_shelf name p e = ap (λ (s : Shelf). rows_there s.rows) (shelf_found p.channels.batches name p.queues)
    ∙ ap (λ (rows : List Row). rows_there (lasting_rows p.channels.batches rows)) (no_rows (stored name p).rows (has_no_rows (length (stored name p).rows) (puts_to name p.connections) e))
  where
    rows_there : List Row → Bool
    rows_there [] = false
    rows_there (row ∷ rows) = true

agree_on : (a b : Bool) → a ≡ b → agrees b a ≡ true
agree_on true b e = ap (λ (x : Bool). agrees x true) (sym e)
agree_on false b e = ap (λ (x : Bool). agrees x false) (sym e)

formed : (a b : LocalQueue) → (same_usage a.usage b.usage && same_delivery a.delivery b.delivery) ≡ true → same_form b a ≡ true
formed a b e =
    let k = both_true (same_usage a.usage b.usage) (same_delivery a.delivery b.delivery) e in
    let u = agree_on (is_transmission a.usage) (is_transmission b.usage) (used_alike a.usage b.usage k.0) in
    let d = agree_on (is_by_priority a.delivery) (is_by_priority b.delivery) (given_alike a.delivery b.delivery k.1) in
    λ i. u i && d i

either : (a b : Bool) → b ≡ true → (a || b) ≡ true
either true b e = refl
either false b e = e

replaces : (new old : Object) (p : Plain) → name_of new ≡ name_of old → rank old ≡ rank new → (changes_rows old new && is_filled old (uses_of p)) ≡ false → can_replace new old (lasting p).shelves ≡ true
replaces (objects.Local b) (objects.Local a) p name kind e = bool_case (same_usage a.usage b.usage && same_delivery a.delivery b.delivery)
    (λ t. (same_usage a.usage b.usage && same_delivery a.delivery b.delivery) ≡ t → (not t && has_rows a.name p) ≡ false → (same_form b a || not (has_rows_on b.name (lasting p).shelves)) ≡ true)
    (λ z w f. ap (λ (x : Bool). x || not (has_rows_on b.name (lasting p).shelves)) (formed a b w))
    (λ z w f. either (same_form b a) (not (has_rows_on b.name (lasting p).shelves)) (ap not (ap (λ (n : List ℕ). has_rows_on n (lasting p).shelves) name ∙ empty_shelf a.name p f))) refl e
replaces (objects.Alias b) (objects.Alias a) p name kind e = refl
replaces (objects.Remote b) (objects.Remote a) p name kind e = refl
replaces (objects.Channel b) (objects.Channel a) p name kind e = refl
replaces (objects.Process b) (objects.Process a) p name kind e = refl
replaces (objects.Local b) (objects.Alias a) p name kind e = absurd (omega (arith, kind))
replaces (objects.Local b) (objects.Remote a) p name kind e = absurd (omega (arith, kind))
replaces (objects.Local b) (objects.Channel a) p name kind e = absurd (omega (arith, kind))
replaces (objects.Local b) (objects.Process a) p name kind e = absurd (omega (arith, kind))
replaces (objects.Alias b) (objects.Local a) p name kind e = absurd (omega (arith, kind))
replaces (objects.Alias b) (objects.Remote a) p name kind e = absurd (omega (arith, kind))
replaces (objects.Alias b) (objects.Channel a) p name kind e = absurd (omega (arith, kind))
replaces (objects.Alias b) (objects.Process a) p name kind e = absurd (omega (arith, kind))
replaces (objects.Remote b) (objects.Local a) p name kind e = absurd (omega (arith, kind))
replaces (objects.Remote b) (objects.Alias a) p name kind e = absurd (omega (arith, kind))
replaces (objects.Remote b) (objects.Channel a) p name kind e = absurd (omega (arith, kind))
replaces (objects.Remote b) (objects.Process a) p name kind e = absurd (omega (arith, kind))
replaces (objects.Channel b) (objects.Local a) p name kind e = absurd (omega (arith, kind))
replaces (objects.Channel b) (objects.Alias a) p name kind e = absurd (omega (arith, kind))
replaces (objects.Channel b) (objects.Remote a) p name kind e = absurd (omega (arith, kind))
replaces (objects.Channel b) (objects.Process a) p name kind e = absurd (omega (arith, kind))
replaces (objects.Process b) (objects.Local a) p name kind e = absurd (omega (arith, kind))
replaces (objects.Process b) (objects.Alias a) p name kind e = absurd (omega (arith, kind))
replaces (objects.Process b) (objects.Remote a) p name kind e = absurd (omega (arith, kind))
replaces (objects.Process b) (objects.Channel a) p name kind e = absurd (omega (arith, kind))

-- What a plan must be

record IsGood (change : ObjectChange) (reroutes on : Bool) (p : Plain) : Type 0 where
  can : can_change change p.definitions (lasting p).shelves ≡ true
  switches : SwitchesAt change (record { change = change; reroutes = reroutes; switches_on = on }) p.definitions (apply (ChangeObjects change) p)

-- a local queue that is there is there still, behind what begins anew
switch_there : (new old : Object) (p : Plain) → IsSound p → rank old ≡ rank new → object_at new p.definitions ≡ Some old → (has_queue (name_of new) (apply_all (renewed new p.definitions) (apply (ChangeObjects (changes.Set new)) p)).queues ≡ true) ⊎ (rank new ≡ 0 → ⊥)
switch_there (objects.Local b) (objects.Local a) p h kind e = inl (at (local_of b.name p.definitions) (ap as_local e))
  where
    at : (o : Option LocalQueue) → o ≡ Some a → has_queue b.name (apply_all (renewed_if o b.name) (apply (ChangeObjects (changes.Set (objects.Local b))) p)).queues ≡ true
    at None f = absurd cc
    at (Some x) f = h.stocked.placed b.name (ap (λ (o : Option Object). is_some (as_local o)) e)
switch_there (objects.Local b) (objects.Alias a) p h kind e = absurd (omega (arith, kind))
switch_there (objects.Local b) (objects.Remote a) p h kind e = absurd (omega (arith, kind))
switch_there (objects.Local b) (objects.Channel a) p h kind e = absurd (omega (arith, kind))
switch_there (objects.Local b) (objects.Process a) p h kind e = absurd (omega (arith, kind))
switch_there (objects.Alias b) old p h kind e = inr (λ z. omega (arith, z))
switch_there (objects.Remote b) old p h kind e = inr (λ z. omega (arith, z))
switch_there (objects.Channel b) old p h kind e = inr (λ z. omega (arith, z))
switch_there (objects.Process b) old p h kind e = inr (λ z. omega (arith, z))

emptied : (s : Subject) (old : Object) (p : Plain) → named s p.definitions ≡ Some old → is_kind s old ≡ true → is_filled old (uses_of p) ≡ false → is_empty_local s (lasting p).shelves ≡ true
emptied (subjects.Local name) (objects.Local q) p e k f = ap not (ap (λ (n : List ℕ). has_rows_on n (lasting p).shelves) (object_is Queues name (objects.Local q) (found_object Queues name p.definitions.objects (objects.Local q) e)).1 ∙ empty_shelf q.name p f)
emptied (subjects.Local name) (objects.Alias q) p e k f = absurd cc
emptied (subjects.Local name) (objects.Remote q) p e k f = absurd cc
emptied (subjects.Local name) (objects.Channel q) p e k f = absurd cc
emptied (subjects.Local name) (objects.Process q) p e k f = absurd cc
emptied (subjects.Alias name) old p e k f = refl
emptied (subjects.Remote name) old p e k f = refl
emptied (subjects.Channel name) old p e k f = refl
emptied (subjects.Process name) old p e k f = refl

local_rank : (old : Object) → is_local old ≡ true → rank old ≡ 0
local_rank (objects.Local q) e = refl
local_rank (objects.Alias q) e = absurd cc
local_rank (objects.Remote q) e = absurd cc
local_rank (objects.Channel c) e = absurd cc
local_rank (objects.Process q) e = absurd cc

-- each change that a command plans is such a one
abbrev GoodSo : Plain → ObjectChange → Bool → Bool → Type 0
GoodSo p change reroutes on = IsGood change reroutes on p

each_good : (c : Command) (p : Plain) → IsSound p → EachChange (GoodSo p) c p.definitions (uses_of p)
each_good c p h = record {
  fresh = λ new none. record { can = ap (λ (o : Option Object). can_set new o (lasting p).shelves) none; switches = λ s. absurd cc };
  over = λ old new on is. record {
    can = ap (λ (o : Option Object). can_set new o (lasting p).shelves) is.found
        ∙ replaces new old p (object_is (space_of new) (name_of new) old (found_object (space_of new) (name_of new) p.definitions.objects old is.found)).1 (sym is.alike) is.filled;
    switches = λ s. elim (switch_there new old p h (sym is.alike) is.found) [ inl z ↦ z | inr z ↦ absurd (z (is.alike ∙ local_rank old (is.local s))) ];
  };
  manager = λ a reroutes e. record { can = refl; switches = tt };
  gone = λ s old is.
      let kind : is_kind s old ≡ true = is.kind in
      let empty : is_empty_local s (lasting p).shelves ≡ true = emptied s old p is.found is.kind is.filled in
      record { can = ap (λ (o : Option Object). can_delete s o (lasting p).shelves) is.found ∙ (λ i. kind i && empty i); switches = tt };
}

abbrev AllGood : Plain → Result Plan ScRefusal → Type 0
AllGood p r = PlanHas (GoodSo p) r

plan_good : (c : Command) (p : Plain) → IsSound p → AllGood p (plan c p.given.name p.definitions (uses_of p))
plan_good c p h = plan_has (GoodSo p) c p.given.name p.definitions (uses_of p) (each_good c p h)

-- Its changes go on from what lasts

renewed_steady : (new : Object) (d : Definitions) (p : Plain) → AllSteady (renewed new d) p
renewed_steady (objects.Local q) d p = at (local_of q.name d)
  where
    at : (o : Option LocalQueue) → AllSteady (renewed_if o q.name) p
    at None = (tt, tt)
    at (Some x) = tt
renewed_steady (objects.Alias q) d p = tt
renewed_steady (objects.Remote q) d p = tt
renewed_steady (objects.Channel q) d p = tt
renewed_steady (objects.Process q) d p = tt

stale_steady : (b : Bool) (step : PathStep) (p : Plain) → AllSteady (stale_if b step) p
stale_steady true step p = (tt, tt)
stale_steady false step p = tt

switched_steady : (b : Bool) (name : List ℕ) (p : Plain) → (b ≡ true → has_queue name p.queues ≡ true) → AllSteady (switched_if b name) p
switched_steady true name p h = (h refl, tt)
switched_steady false name p h = tt

dropped_steady : (s : Subject) (p : Plain) → AllSteady (dropped s) p
dropped_steady (subjects.Local n) p = (tt, tt)
dropped_steady (subjects.Alias n) p = tt
dropped_steady (subjects.Remote n) p = tt
dropped_steady (subjects.Channel n) p = tt
dropped_steady (subjects.Process n) p = tt

stale_queues : (b : Bool) (step : PathStep) (p : Plain) → (apply_all (stale_if b step) p).queues ≡ p.queues
stale_queues true step p = refl
stale_queues false step p = refl

follows_steady : (change : ObjectChange) (planned : Planned) (d : Definitions) (p : Plain) → SwitchesAt change planned d p → AllSteady (follows change planned d) p
follows_steady (changes.Set new) planned d p s =
    let a : Plain = apply_all (renewed new d) p in
    let step : PathStep = steps.Queue (name_of new) in
    steady_append (renewed new d ++ stale_if planned.reroutes step) (switched_if planned.switches_on (name_of new)) p
    (steady_append (renewed new d) (stale_if planned.reroutes step) p (renewed_steady new d p) (stale_steady planned.reroutes step a))
    (switched_steady planned.switches_on (name_of new) (apply_all (renewed new d ++ stale_if planned.reroutes step) p) (λ e.
    ap (λ (q : Plain). has_queue (name_of new) q.queues) (applied_append (renewed new d) (stale_if planned.reroutes step) p)
    ∙ ap (has_queue (name_of new)) (stale_queues planned.reroutes step a) ∙ s e))
follows_steady (changes.SetManager m) planned d p s = stale_steady planned.reroutes steps.DefXmitq p
follows_steady (changes.Delete subject) planned d p s = dropped_steady subject p

-- only whether a queue counts as TRIGGER again matters there
switches_as : (change : ObjectChange) (a b : Planned) (d : Definitions) (p : Plain) → (b.switches_on ≡ true → a.switches_on ≡ true) → SwitchesAt change a d p → SwitchesAt change b d p
switches_as (changes.Set new) a b d p e h = λ s. h (e s)
switches_as (changes.SetManager m) a b d p e h = tt
switches_as (changes.Delete subject) a b d p e h = tt

planned_h : (r : Result Plan ScRefusal) (p : Plain) → IsSound p → AllGood p r → StepHarmless (planned_step r p.definitions) p
planned_h (Ok (plans.Change planned)) p h good =
    let switches : SwitchesAt planned.change planned p.definitions (apply (ChangeObjects planned.change) p) = switches_as planned.change _ planned p.definitions (apply (ChangeObjects planned.change) p) (λ s. s) good.switches in (
      steady_harmless (object_part planned p.definitions) p (sound_logs p h).laned (tt, follows_steady planned.change planned p.definitions (apply (ChangeObjects planned.change) p) switches)
          (object_does planned p good.can switches),
      refl,
      tt,
    )
planned_h (Ok (plans.Show shown)) p h good = tt
planned_h (Err refusal) p h good = tt

pub command_harmless : (c : Command) (p : Plain) → IsSound p → StepHarmless (command c p) p
command_harmless c p h = tested_h (when (not (is_up p.running)) refusals.Down ∷ []) (planned_step (plan c p.given.name p.definitions (uses_of p)) p.definitions) p
    (λ e. planned_h (plan c p.given.name p.definitions (uses_of p)) p h (plan_good c p h))
