-- An accepted command changes the definitions as it would where nothing is in use: what is in use decides of refusals alone.
use Rattle.std.specs.Prelude.{◌≡◌, ℕ, Bool, true, false, not, ◌&&◌, ◌||◌, List, [], ◌∷◌, Option, Some, None, Result, Ok, Err, refl}
use Rattle.std.proofs.Common.{ap, ◌∙◌}
use Rattle.mq_sc_apply.specs.from_calls.Words.{Object, ManagerAttributes, Definitions, Command}
use Rattle.mq_sc_apply.specs.from_calls.{ScRefusal, Shown}
use Rattle.mq_sc_apply.specs.from_objects.ObjectVariants as objects
use Rattle.mq_sc_apply.specs.from_objects.{Alter, Define, Delete, Display, Keyword}
use Rattle.mq_sc_apply.specs.from_objects.CommandVariants as commands
use Rattle.mq_sc_apply.specs.from_objects.Changed.{changed as changed_by}
use Rattle.mq_sc_apply.specs.from_objects.Names.{named, is_kind}
use Rattle.mq_sc_apply.specs.from_objects.Settings.{set_all, set_all_manager}
use Rattle.mq_sc_apply.specs.from_resolve.Resolved.{row, first_row}
use Rattle.mq_sc_apply.specs.from_calls.ScRefusalVariants as refusals
use Rattle.mq_sc_apply.specs.declared.answers.Planned.{Planned}
use Rattle.mq_sc_apply.specs.declared.answers.Plan.TheVariants as plans
use Rattle.mq_sc_apply.specs.Uses.{Uses, nothing_used}
use Rattle.mq_sc_apply.specs.Planned.{leads_elsewhere, changes_usage, changes_rows, default_changes, defined_object, is_used, is_filled, is_on_path, is_sent_from, is_busy, bad_in, switches_on, set_planned, changed, define_at, alter_good, alter_at, alter_attributes, delete_at}
use Rattle.mq_sc_apply.specs.Displayed.{display}
use Rattle.mq_sc_apply.specs.Commands.{plan, after, to_change, to_show}
use Rattle.mq_spec_manager.specs.Commands.{definitions_after}

-- nothing is used where nothing is in use
abbrev used : (force leads path usage sent busy : Bool) → Bool
used force leads path usage sent busy = (not force && leads && path) || (usage && sent) || busy

none_used : (force leads usage : Bool) → used force leads false usage false false ≡ false
none_used true leads true = refl
none_used true leads false = refl
none_used false true true = refl
none_used false true false = refl
none_used false false true = refl
none_used false false false = refl

not_used : (force : Bool) (old new : Object) → is_used force old new nothing_used ≡ false
not_used force (objects.Local q) new = none_used force (leads_elsewhere (objects.Local q) new) (changes_usage (objects.Local q) new)
not_used force (objects.Alias q) new = none_used force (leads_elsewhere (objects.Alias q) new) (changes_usage (objects.Alias q) new)
not_used force (objects.Remote q) new = none_used force (leads_elsewhere (objects.Remote q) new) (changes_usage (objects.Remote q) new)
not_used force (objects.Channel q) new = none_used force (leads_elsewhere (objects.Channel q) new) (changes_usage (objects.Channel q) new)
not_used force (objects.Process q) new = none_used force (leads_elsewhere (objects.Process q) new) (changes_usage (objects.Process q) new)

and_false : (b : Bool) → (b && false) ≡ false
and_false true = refl
and_false false = refl

not_filled : (old : Object) → is_filled old nothing_used ≡ false
not_filled (objects.Local q) = refl
not_filled (objects.Alias q) = refl
not_filled (objects.Remote q) = refl
not_filled (objects.Channel q) = refl
not_filled (objects.Process q) = refl

rows_free : (old new : Object) → (changes_rows old new && is_filled old nothing_used) ≡ false
rows_free old new = ap (λ b. changes_rows old new && b) (not_filled old) ∙ and_false (changes_rows old new)

not_in_use : (old : Object) → (is_on_path old nothing_used || is_sent_from old nothing_used || is_busy old nothing_used) ≡ false
not_in_use (objects.Local q) = refl
not_in_use (objects.Alias q) = refl
not_in_use (objects.Remote q) = refl
not_in_use (objects.Channel q) = refl
not_in_use (objects.Process q) = refl

-- Tables of refusals.
under : {T : Type 0} (b : Bool) (e : ScRefusal) (x y : Result T ScRefusal) (v : T) → (x ≡ Ok v → y ≡ Ok v)
    → first_row (row b (Err e) ∷ []) x ≡ Ok v → first_row (row b (Err e) ∷ []) y ≡ Ok v
under true e x y v f h = absurd cc
under false e x y v f h = f h

freed : {T : Type 0} (a b c d : Bool) (e f : ScRefusal) (x : T) (v : T) → c ≡ false → d ≡ false
    → first_row (row a (Err e) ∷ row b (Err f) ∷ []) (Ok x) ≡ Ok v → first_row (row c (Err e) ∷ row d (Err f) ∷ []) (Ok x) ≡ Ok v
freed a b true d e f x v hc hd h = absurd cc
freed a b false true e f x v hc hd h = absurd cc
freed true b false false e f x v hc hd h = absurd cc
freed false true false false e f x v hc hd h = absurd cc
freed false false false false e f x v hc hd h = h

freed_one : {T : Type 0} (a c : Bool) (e : ScRefusal) (x : T) (v : T) → c ≡ false
    → first_row (row a (Err e) ∷ []) (Ok x) ≡ Ok v → first_row (row c (Err e) ∷ []) (Ok x) ≡ Ok v
freed_one a true e x v hc h = absurd cc
freed_one true false e x v hc h = absurd cc
freed_one false false e x v hc h = h

changed_same : (force : Bool) (old new : Object) (on : Bool) (u : Uses) (v : Planned) → changed force old new on u ≡ Ok v → changed force old new on nothing_used ≡ Ok v
changed_same force old new on u v h =
    freed (is_used force old new u) (changes_rows old new && is_filled old u) (is_used force old new nothing_used) (changes_rows old new && is_filled old nothing_used)
    refusals.InUse refusals.NotEmpty (set_planned new (leads_elsewhere old new) on) v (not_used force old new) (rows_free old new) h

define_same : (d : Define) (new : Object) (old : Option Object) (u : Uses) (v : Planned) → define_at d new old u ≡ Ok v → define_at d new old nothing_used ≡ Ok v
define_same d new None u v h = h
define_same d new (Some old) u v h =
    under (not d.replace || not (is_kind d.subject old)) refusals.Exists (changed false old new false u) (changed false old new false nothing_used) v (changed_same false old new false u v) h

good_same : (k : Option Keyword) (a : Alter) (old : Object) (u : Uses) (v : Planned) → alter_good k a old u ≡ Ok v → alter_good k a old nothing_used ≡ Ok v
good_same (Some k) a old u v h = h
good_same None a old u v h = changed_same a.force old (set_all a.settings old) (switches_on old a.settings) u v h

alter_same : (a : Alter) (old : Option Object) (u : Uses) (v : Planned) → alter_at a old u ≡ Ok v → alter_at a old nothing_used ≡ Ok v
alter_same a None u v h = h
alter_same a (Some old) u v h =
    under (not (is_kind a.subject old)) refusals.Missing (alter_good (bad_in old a.settings) a old u) (alter_good (bad_in old a.settings) a old nothing_used) v
    (good_same (bad_in old a.settings) a old u v) h

three_and : (a b : Bool) → (not a && b && false) ≡ false
three_and true true = refl
three_and true false = refl
three_and false true = refl
three_and false false = refl

manager_same : (force : Bool) (old new : ManagerAttributes) (u : Uses) (v : Planned) → alter_attributes force old new u ≡ Ok v → alter_attributes force old new nothing_used ≡ Ok v
manager_same force old new u v h =
    freed_one (not force && default_changes old new && u.defxmitq_on_path) (not force && default_changes old new && false) refusals.InUse _ v
    (three_and force (default_changes old new)) h

three : {T : Type 0} (m a b c d : Bool) (x : T) (v : T) → c ≡ false → d ≡ false
    → first_row (row m (Err refusals.Missing) ∷ row a (Err refusals.InUse) ∷ row b (Err refusals.NotEmpty) ∷ []) (Ok x) ≡ Ok v
    → first_row (row m (Err refusals.Missing) ∷ row c (Err refusals.InUse) ∷ row d (Err refusals.NotEmpty) ∷ []) (Ok x) ≡ Ok v
three m a b true d x v hc hd h = absurd cc
three m a b false true x v hc hd h = absurd cc
three true a b false false x v hc hd h = absurd cc
three false true b false false x v hc hd h = absurd cc
three false false true false false x v hc hd h = absurd cc
three false false false false false x v hc hd h = h

delete_same : (d : Delete) (old : Option Object) (u : Uses) (v : Planned) → delete_at d old u ≡ Ok v → delete_at d old nothing_used ≡ Ok v
delete_same d None u v h = h
delete_same d (Some old) u v h =
    three (not (is_kind d.subject old)) (is_on_path old u || is_sent_from old u || is_busy old u) (is_filled old u)
    (is_on_path old nothing_used || is_sent_from old nothing_used || is_busy old nothing_used) (is_filled old nothing_used) _ v (not_in_use old) (not_filled old) h

-- The plan.
as_changed : (r : Result Planned ScRefusal) (v : Planned) → to_change r ≡ Ok (plans.Change v) → r ≡ Ok v
as_changed (Ok x) v h = cc
as_changed (Err e) v h = absurd cc

never_shown : (r : Result Shown ScRefusal) (v : Planned) → to_show r ≡ Ok (plans.Change v) → ⊥
never_shown (Ok x) v h = absurd cc
never_shown (Err e) v h = absurd cc

plan_same : (c : Command) (own : List ℕ) (d : Definitions) (u : Uses) (v : Planned) → plan c own d u ≡ Ok (plans.Change v) → plan c [] d nothing_used ≡ Ok (plans.Change v)
plan_same (commands.Define x) own d u v h = ap to_change (define_same x (defined_object x.subject x.settings) (named x.subject d) u v (as_changed _ v h))
plan_same (commands.Alter x) own d u v h = ap to_change (alter_same x (named x.subject d) u v (as_changed _ v h))
plan_same (commands.AlterManager x) own d u v h = ap to_change (manager_same x.force d.manager (set_all_manager x.settings d.manager) u v (as_changed _ v h))
plan_same (commands.Delete x) own d u v h = ap to_change (delete_same x (named x.subject d) u v (as_changed _ v h))
plan_same (commands.Display x) own d u v h = absurd (never_shown (display x own d u) v h)

-- The definitions after an accepted command are those that its change makes; after DISPLAY they are as before.
pub accepted : (c : Command) (own : List ℕ) (d : Definitions) (u : Uses) (v : Planned) → plan c own d u ≡ Ok (plans.Change v) → definitions_after c d ≡ changed_by v.change d
accepted c own d u v h = ap (λ r. after r d) (plan_same c own d u v h)

shown_keeps : (r : Result Shown ScRefusal) (d : Definitions) → after (to_show r) d ≡ d
shown_keeps (Ok x) d = refl
shown_keeps (Err e) d = refl

pub displayed : (x : Display) (d : Definitions) → definitions_after (commands.Display x) d ≡ d
displayed x d = shown_keeps (display x [] d nothing_used) d
