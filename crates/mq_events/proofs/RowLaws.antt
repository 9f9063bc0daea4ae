-- Queues with few rows: one by one, and by any name.
use Rattle.std.proofs.Common.{◌≡◌, ℕ, ◌≤◌, ◌^◌, refl, sym, ap, subst, ◌∙◌, List, [], ◌∷◌, length, arith}
use Rattle.std.specs.Prelude.{Option, Some, None, if◌then◌else◌}
use Rattle.std.specs.List.{AllByRecursion}
use Rattle.std.specs.Str.{bytes_eq}
use Rattle.mq_objects.specs.declared.object.LocalQueue.{LocalQueue}
use Rattle.mq_objects.specs.declared.object.Object.{Object}
use Rattle.mq_objects.specs.declared.object.Object.TheVariants as objects
use Rattle.mq_objects.specs.Names.{Queues, as_local, local_of, locals_in, locals_of, object_in}
use Rattle.mq_calls.specs.Words.{Queue}
use Rattle.mq_calls.specs.Reads.{queue_in}
use Rattle.mq_manager.proofs.from_law_manager.Lists.{bool_case, name_yes}
use Rattle.mq_manager.specs.from_place.States.{QueueState, queues_of, state_in}
use Rattle.mq_manager.specs.from_core.Ties.{Tied, local_lanes, state_lanes}
use Rattle.mq_manager.specs.from_core.Views.{PartsValue, plain_of}
use Rattle.mq_manager.proofs.from_core.PlaceLaws.{queue_in_state}
use Rattle.mq_manager.proofs.from_core.ReadLaws.{queue_none}
use Rattle.mq_events.specs.Counts.{HasFew, HasFewRows}

abbrev few : List ℕ → List Queue → Type 0
few name qs = length (queue_in name qs).rows ≤ 2 ^ 62

pub few_some : (name : List ℕ) (qs : List QueueState) (s : QueueState) → Some s ≡ state_in name qs → length s.queue.rows ≤ 2 ^ 62 → length (queue_in name (queues_of qs)).rows ≤ 2 ^ 62
few_some name qs s e le = let F : Queue → Type 0 = λ q. length q.rows ≤ 2 ^ 62 in subst F (sym (queue_in_state name qs s (sym e))) le

none_le : 0 ≤ 2 ^ 62
none_le = omega arith

pub few_none : (name : List ℕ) (qs : List QueueState) → None ≡ state_in name qs → length (queue_in name (queues_of qs)).rows ≤ 2 ^ 62
few_none name qs e = let F : Queue → Type 0 = λ q. length q.rows ≤ 2 ^ 62 in subst F (sym (queue_none name qs (sym e))) none_le

-- a local queue that is found by name is one of those that are defined
local_few : (P : List ℕ → Type 0) (name : List ℕ) (os : List Object) (q : LocalQueue) → as_local (object_in Queues name os) ≡ Some q → AllByRecursion (λ (l : LocalQueue). P l.name) (locals_in os) → P name
local_few P name [] q e h = absurd cc
local_few P name (objects.Local l ∷ os) q e h = bool_case (bytes_eq name l.name) (λ b. as_local (if b then Some (objects.Local l) else object_in Queues name os) ≡ Some q → P name)
    (λ z f. subst P (sym (name_yes name l.name z)) h.0) (λ z f. local_few P name os q f h.1) e
local_few P name (objects.Alias l ∷ os) q e h = bool_case (bytes_eq name l.name) (λ b. as_local (if b then Some (objects.Alias l) else object_in Queues name os) ≡ Some q → P name)
    (λ z f. absurd cc) (λ z f. local_few P name os q f h) e
local_few P name (objects.Remote l ∷ os) q e h = bool_case (bytes_eq name l.name) (λ b. as_local (if b then Some (objects.Remote l) else object_in Queues name os) ≡ Some q → P name)
    (λ z f. absurd cc) (λ z f. local_few P name os q f h) e
local_few P name (objects.Channel c ∷ os) q e h = local_few P name os q e h
local_few P name (objects.Process c ∷ os) q e h = local_few P name os q e h

no_lanes : (s : Option QueueState) → state_lanes s ≡ None → s ≡ None
no_lanes None e = refl
no_lanes (Some s) e = absurd cc

pub all_few : (x : PartsValue) → Tied x → AllByRecursion (HasFew (plain_of x)) (locals_of x.defs.definitions) → HasFewRows (plain_of x)
all_few x t h name = by (local_of name x.defs.definitions) refl
  where
    by : (l : Option LocalQueue) → local_of name x.defs.definitions ≡ l → few name (queues_of x.queues.states)
    by None e = few_none name x.queues.states (sym (no_lanes (state_in name x.queues.states) (t.queues.lanes name ∙ ap local_lanes e)))
    by (Some q) e = local_few (λ n. few n (queues_of x.queues.states)) name x.defs.definitions.objects q e h
