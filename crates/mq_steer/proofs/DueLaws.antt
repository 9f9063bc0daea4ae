-- The first queue with a trigger due, where triggers are due on no queue, or on one alone.
use Rattle.std.proofs.Common.{◌≡◌, ℕ, Bool, true, false, cond, List, [], ◌∷◌, refl, sym, ap, ◌∙◌, filter}
use Rattle.std.specs.Prelude.{Option, Some, None, nat_lt}
use Rattle.std.specs.Str.{bytes_eq}
use Rattle.mq_objects.specs.declared.object.Object.{Object}
use Rattle.mq_objects.specs.declared.object.Object.TheVariants as objects
use Rattle.mq_objects.specs.Names.{is_object, locals_in}
use Rattle.mq_objects.specs.Names.Space.{Queues}
use Rattle.mq_calls.specs.Words.{LocalQueue, Plain, stored, locals_of}
use Rattle.mq_spec_manager.specs.Triggers.{first_due}
use Rattle.mq_place.specs.Due.{IsDueAt}
use Rattle.mq_place.specs.declared.due.DueAt.TheVariants as due_at
use Rattle.mq_place.proofs.NameLaws.{name_self}
use Rattle.mq_core.specs.Views.{PartsValue, plain_of}

none_due : (qs : List LocalQueue) (p : Plain) → ((name : List ℕ) → nat_lt 0 (stored name p).due ≡ false) → first_due qs p ≡ None
none_due [] p h = refl
none_due (q ∷ qs) p h = ap (λ (b : Bool). cond b (Some q) (first_due qs p)) (h q.name) ∙ none_due qs p h

pub nowhere_due : (x : PartsValue) → IsDueAt due_at.Nowhere x.queues.states → None ≡ first_due (locals_of x.defs.definitions) (plain_of x)
nowhere_due x h = sym (none_due (locals_of x.defs.definitions) (plain_of x) h)

-- Only objects of the name count.

module _ (name : List ℕ) (p : Plain) (only : (other : List ℕ) → nat_lt 0 (stored other p).due ≡ true → other ≡ name) where
  other_idle : (q : LocalQueue) → bytes_eq name q.name ≡ false → nat_lt 0 (stored q.name p).due ≡ false
  other_idle q e = by (nat_lt 0 (stored q.name p).due) refl
    where
      by : (b : Bool) → nat_lt 0 (stored q.name p).due ≡ b → b ≡ false
      by false d = refl
      by true d = absurd (let t : true ≡ false = sym (name_self name) ∙ ap (bytes_eq name) (sym (only q.name d)) ∙ e in cc)

  local_step : (q : LocalQueue) (os kept : List Object) → first_due (locals_in os) p ≡ first_due (locals_in kept) p → (b : Bool) → bytes_eq name q.name ≡ b
      → first_due (q ∷ locals_in os) p ≡ first_due (locals_in (cond b (objects.Local q ∷ kept) kept)) p
  local_step q os kept rest true e = ap (λ (o : Option LocalQueue). cond (nat_lt 0 (stored q.name p).due) (Some q) o) rest
  local_step q os kept rest false e = ap (λ (b : Bool). cond b (Some q) (first_due (locals_in os) p)) (other_idle q e) ∙ rest

  skipped : (o : Object) (os kept : List Object) → first_due (locals_in os) p ≡ first_due (locals_in kept) p → locals_in (o ∷ kept) ≡ locals_in kept → (b : Bool) → first_due (locals_in os) p ≡ first_due (locals_in (cond b (o ∷ kept) kept)) p
  skipped o os kept rest same true = rest ∙ ap (λ (qs : List LocalQueue). first_due qs p) (sym same)
  skipped o os kept rest same false = rest

  named_first : (os : List Object) → first_due (locals_in os) p ≡ first_due (locals_in (filter (is_object Queues name) os)) p
  named_first [] = refl
  named_first (objects.Local q ∷ os) = local_step q os (filter (is_object Queues name) os) (named_first os) (bytes_eq name q.name) refl
  named_first (objects.Alias q ∷ os) = skipped (objects.Alias q) os (filter (is_object Queues name) os) (named_first os) refl (is_object Queues name (objects.Alias q))
  named_first (objects.Remote q ∷ os) = skipped (objects.Remote q) os (filter (is_object Queues name) os) (named_first os) refl (is_object Queues name (objects.Remote q))
  named_first (objects.Channel q ∷ os) = named_first os
  named_first (objects.Process q ∷ os) = named_first os

pub one_due : (name : List ℕ) (x : PartsValue) (found : List Object) → ((other : List ℕ) → nat_lt 0 (stored other (plain_of x)).due ≡ true → other ≡ name) → filter (is_object Queues name) x.defs.definitions.objects ≡ found
    → first_due (locals_of x.defs.definitions) (plain_of x) ≡ first_due (locals_in found) (plain_of x)
one_due name x found only is = named_first name (plain_of x) only x.defs.definitions.objects ∙ ap (λ (os : List Object). first_due (locals_in os) (plain_of x)) is
