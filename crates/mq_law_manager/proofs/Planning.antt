-- What a command on objects changes: an object that it sets, where none is or over one of its kind; the manager's own; an object that goes.
use Rattle.std.proofs.Common.{ℕ, ◌≡◌, Bool, true, false, List, refl, ap, sym, ◌∙◌}
use Rattle.std.specs.Prelude.{Option, Some, None, Result, Ok, Err, if◌then◌else◌, not, ◌&&◌, ◌||◌}
use Rattle.mq_objects.specs.declared.object.Object.{Object}
use Rattle.mq_objects.specs.declared.object.Object.TheVariants as objects
use Rattle.mq_objects.specs.declared.object.Definitions.{Definitions}
use Rattle.mq_objects.specs.declared.setting.Keyword.{Keyword}
use Rattle.mq_objects.specs.declared.setting.Setting.{Setting}
use Rattle.mq_objects.specs.declared.command.Subject.{Subject}
use Rattle.mq_objects.specs.declared.command.Command.{Command}
use Rattle.mq_objects.specs.declared.command.Command.TheVariants as commands
use Rattle.mq_objects.specs.declared.command.Define.{Define}
use Rattle.mq_objects.specs.declared.command.Alter.{Alter}
use Rattle.mq_objects.specs.declared.command.AlterManager.{AlterManager}
use Rattle.mq_objects.specs.declared.command.Delete.{Delete}
use Rattle.mq_objects.specs.declared.change.ObjectChange.{ObjectChange}
use Rattle.mq_objects.specs.declared.change.ObjectChange.TheVariants as changes
use Rattle.mq_objects.specs.Names.{Space, space_of, name_of, named, object_in, is_kind, subject_space, subject_name}
use Rattle.mq_objects.specs.Settings.{set_all, set_all_manager}
use Rattle.mq_calls.specs.declared.commands.ScRefusal.{ScRefusal}
use Rattle.mq_calls.specs.declared.commands.ScRefusal.TheVariants as refusals
use Rattle.mq_calls.specs.declared.commands.Shown.{Shown}
use Rattle.mq_spec_manager.specs.from_sc_apply.{Plan, ThePlanned as Planned}
use Rattle.mq_spec_manager.specs.from_sc_apply.PlanVariants as plans
use Rattle.mq_spec_manager.specs.from_sc_apply.Commands.{plan, to_change, to_show}
use Rattle.mq_spec_manager.specs.from_sc_apply.Displayed.{display}
use Rattle.mq_spec_manager.specs.from_sc_apply.Uses.{Uses}
use Rattle.mq_spec_manager.specs.from_sc_apply.Planned.{define, define_at, defined_object, changed, changes_usage, is_used, leads_elsewhere, changes_rows, is_filled, alter, alter_at, alter_good, bad_in, switches_on, alter_manager, default_changes, delete, delete_at, is_on_path, is_sent_from, is_busy}
use Rattle.mq_law_manager.specs.Facts.{is_local}
use Rattle.mq_law_manager.proofs.Lists.{bool_case}
use Rattle.mq_law_manager.proofs.Objects.{all_alike, defined_alike, new_space, new_name, rank, ranked_local, rank_kind, found_object, object_is}

-- WHAT A CHANGE KEEPS TO
-- the object of this one's name
abbrev pub object_at : Object → Definitions → Option Object
object_at new d = object_in (space_of new) (name_of new) d.objects

-- One is set over one of its kind: while a sender has that open it keeps USAGE, and where there are rows or uncommitted puts its
-- form; only a local queue counts as TRIGGER again.
pub record IsSetOver (old new : Object) (on : Bool) (d : Definitions) (u : Uses) : Type 0 where
  pub found : object_at new d ≡ Some old
  pub alike : rank new ≡ rank old
  pub kind : is_local new ≡ is_local old
  pub local : on ≡ true → is_local old ≡ true
  pub sent : (changes_usage old new && is_sent_from old u) ≡ false
  pub filled : (changes_rows old new && is_filled old u) ≡ false

-- One that goes is of the kind that the command names, on no handle's path, open to no sender, and empty.
pub record IsLetGo (s : Subject) (old : Object) (d : Definitions) (u : Uses) : Type 0 where
  pub found : named s d ≡ Some old
  pub kind : is_kind s old ≡ true
  pub path : is_on_path old u ≡ false
  pub sent : is_sent_from old u ≡ false
  pub filled : is_filled old u ≡ false

-- What holds of all of these that a command may plan, by whether names lead elsewhere and a queue counts as TRIGGER again,
pub record EachChange (P : ObjectChange → (reroutes on : Bool) → Type 0) (c : Command) (d : Definitions) (u : Uses) : Type 0 where
  pub fresh : (new : Object) → object_at new d ≡ None → P (changes.Set new) false false
  pub over : (old new : Object) (on : Bool) → IsSetOver old new on d u → P (changes.Set new) (leads_elsewhere old new) on
  pub manager : (a : AlterManager) (reroutes : Bool) → c ≡ commands.AlterManager a → P (changes.SetManager (set_all_manager a.settings d.manager)) reroutes false
  pub gone : (s : Subject) (old : Object) → IsLetGo s old d u → P (changes.Delete s) false false

-- of a plan's change,
abbrev PlannedHas : (ObjectChange → Bool → Bool → Type 0) → Result Planned ScRefusal → Type 0
PlannedHas P (Ok planned) = P planned.change planned.reroutes planned.switches_on
PlannedHas P (Err refusal) = Unit {0}

abbrev pub PlanHas : (ObjectChange → Bool → Bool → Type 0) → Result Plan ScRefusal → Type 0
PlanHas P (Ok (plans.Change planned)) = P planned.change planned.reroutes planned.switches_on
PlanHas P (Ok (plans.Show shown)) = Unit {0}
PlanHas P (Err refusal) = Unit {0}

-- and what is over the object that is found
abbrev pub object_or : Object → Option Object → Object
object_or d None = d
object_or d (Some x) = x

-- A PLAN, row by row
pub no_left : (a b : Bool) → (a || b) ≡ false → b ≡ false
no_left true b e = absurd cc
no_left false b e = e

pub no_right : (a b : Bool) → (a || b) ≡ false → a ≡ false
no_right true b e = absurd cc
no_right false b e = refl

none_first : (a b c : Bool) → (a || b || c) ≡ false → a ≡ false
none_first false b c e = refl
none_first true b c e = absurd cc

none_middle : (a b c : Bool) → (a || b || c) ≡ false → b ≡ false
none_middle true b c e = absurd cc
none_middle false true c e = absurd cc
none_middle false false c e = refl

pub not_false : (b : Bool) → not b ≡ false → b ≡ true
not_false true e = refl
not_false false e = absurd cc

switched_local : (old : Object) (ss : List Setting) → switches_on old ss ≡ true → is_local old ≡ true
switched_local (objects.Local q) ss e = refl
switched_local (objects.Alias q) ss e = absurd cc
switched_local (objects.Remote q) ss e = absurd cc
switched_local (objects.Channel q) ss e = absurd cc
switched_local (objects.Process q) ss e = absurd cc

-- an object that a command sets, found by the subject that the command names
found_as : (s : Subject) (new : Object) (o : Option Object) (d : Definitions) → space_of new ≡ subject_space s → name_of new ≡ subject_name s → named s d ≡ o → object_at new d ≡ o
found_as s new o d space name e = ap (λ (x : Space). object_in x (name_of new) d.objects) space ∙ ap (λ (n : List ℕ). object_in (subject_space s) n d.objects) name ∙ e

row_has : (P : ObjectChange → Bool → Bool → Type 0) (b : Bool) (e : ScRefusal) (rest : Result Planned ScRefusal) → (b ≡ false → PlannedHas P rest) → PlannedHas P (if b then Err e else rest)
row_has P b e rest k = bool_case b (λ t. b ≡ t → PlannedHas P (if t then Err e else rest)) (λ z w. tt) (λ z w. k w) refl

changed_has : (P : ObjectChange → Bool → Bool → Type 0) (w : Command) (d : Definitions) (u : Uses) (force : Bool) (old new : Object) (on : Bool) → EachChange P w d u → object_at new d ≡ Some old → rank new ≡ rank old → (on ≡ true → is_local old ≡ true)
    → PlannedHas P (changed force old new on u)
changed_has P w d u force old new on h found kind local = row_has P (is_used force old new u) refusals.InUse _ (λ e. row_has P (changes_rows old new && is_filled old u) refusals.NotEmpty _ (λ n. h.over old new on (record {
  found = found;
  alike = kind;
  kind = ranked_local new old kind;
  local = local;
  sent = none_middle (not force && leads_elsewhere old new && is_on_path old u) (changes_usage old new && is_sent_from old u) (is_busy old u) e;
  filled = n;
})))

define_has : (P : ObjectChange → Bool → Bool → Type 0) (w : Command) (d : Definitions) (u : Uses) (c : Define) (o : Option Object) → EachChange P w d u → named c.subject d ≡ o → PlannedHas P (define_at c (defined_object c.subject c.settings) o u)
define_has P w d u c None h e =
    let a = defined_alike c.subject c.settings in
    h.fresh (defined_object c.subject c.settings) (found_as c.subject (defined_object c.subject c.settings) None d (a.space ∙ new_space c.subject) (a.name ∙ new_name c.subject) e)
define_has P w d u c (Some old) h e =
    let a = defined_alike c.subject c.settings in
    let new : Object = defined_object c.subject c.settings in
    row_has P (not c.replace || not (is_kind c.subject old)) refusals.Exists _ (λ k.
    changed_has P w d u false old new false h (found_as c.subject new (Some old) d (a.space ∙ new_space c.subject) (a.name ∙ new_name c.subject) e)
    (a.kind ∙ rank_kind c.subject old (not_false (is_kind c.subject old) (no_left (not c.replace) (not (is_kind c.subject old)) k))) (λ s. absurd cc))

good_has : (P : ObjectChange → Bool → Bool → Type 0) (w : Command) (d : Definitions) (u : Uses) (c : Alter) (old : Object) (o : Option Keyword) → EachChange P w d u → named c.subject d ≡ Some old → PlannedHas P (alter_good o c old u)
good_has P w d u c old (Some keyword) h e = tt
good_has P w d u c old None h e =
    let k = all_alike c.settings old in
    let is = object_is (subject_space c.subject) (subject_name c.subject) old (found_object (subject_space c.subject) (subject_name c.subject) d.objects old e) in
    changed_has P w d u c.force old (set_all c.settings old) (switches_on old c.settings) h (found_as c.subject (set_all c.settings old) (Some old) d (k.space ∙ sym is.0) (k.name ∙ sym is.1) e) k.kind (switched_local old c.settings)

alter_has : (P : ObjectChange → Bool → Bool → Type 0) (w : Command) (d : Definitions) (u : Uses) (c : Alter) (o : Option Object) → EachChange P w d u → named c.subject d ≡ o → PlannedHas P (alter_at c o u)
alter_has P w d u c None h e = tt
alter_has P w d u c (Some old) h e = row_has P (not (is_kind c.subject old)) refusals.Missing (alter_good (bad_in old c.settings) c old u) (λ k. good_has P w d u c old (bad_in old c.settings) h e)

delete_has : (P : ObjectChange → Bool → Bool → Type 0) (w : Command) (d : Definitions) (u : Uses) (c : Delete) (o : Option Object) → EachChange P w d u → named c.subject d ≡ o → PlannedHas P (delete_at c o u)
delete_has P w d u c None h e = tt
delete_has P w d u c (Some old) h e = row_has P (not (is_kind c.subject old)) refusals.Missing _ (λ k. row_has P (is_on_path old u || is_sent_from old u || is_busy old u) refusals.InUse _
    (λ n. row_has P (is_filled old u) refusals.NotEmpty _ (λ f. h.gone c.subject old (record {
      found = e;
      kind = not_false (is_kind c.subject old) k;
      path = none_first (is_on_path old u) (is_sent_from old u) (is_busy old u) n;
      sent = none_middle (is_on_path old u) (is_sent_from old u) (is_busy old u) n;
      filled = f;
    }))))

to_has : (P : ObjectChange → Bool → Bool → Type 0) (r : Result Planned ScRefusal) → PlannedHas P r → PlanHas P (to_change r)
to_has P (Ok planned) h = h
to_has P (Err refusal) h = tt

to_shown : (P : ObjectChange → Bool → Bool → Type 0) (r : Result Shown ScRefusal) → PlanHas P (to_show r)
to_shown P (Ok shown) = tt
to_shown P (Err refusal) = tt

-- WHAT HOLDS OF EACH CHANGE holds of what a command plans
pub plan_has : (P : ObjectChange → Bool → Bool → Type 0) (c : Command) (own : List ℕ) (d : Definitions) (u : Uses) → EachChange P c d u → PlanHas P (plan c own d u)
plan_has P (commands.Define c) own d u h = to_has P (define c d u) (define_has P (commands.Define c) d u c (named c.subject d) h refl)
plan_has P (commands.Alter c) own d u h = to_has P (alter c d u) (alter_has P (commands.Alter c) d u c (named c.subject d) h refl)
plan_has P (commands.AlterManager c) own d u h = to_has P (alter_manager c d u)
    (row_has P (not c.force && default_changes d.manager (set_all_manager c.settings d.manager) && u.defxmitq_on_path) refusals.InUse _ (λ e. h.manager c (default_changes d.manager (set_all_manager c.settings d.manager)) refl))
plan_has P (commands.Delete c) own d u h = to_has P (delete c d u) (delete_has P (commands.Delete c) d u c (named c.subject d) h refl)
plan_has P (commands.Display c) own d u h = to_shown P (display c own d u)
