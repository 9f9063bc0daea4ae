-- Objects by name after one is set or deleted; what a command sets has the kind and the name of what was there.
use Rattle.std.proofs.Common.{ℕ, ◌≡◌, ◌⊎◌, Bool, true, false, List, [], ◌∷◌, refl, ap, sym, ◌∙◌, inl, inr}
use Rattle.std.specs.Prelude.{Option, Some, None, if◌then◌else◌, ◌&&◌, ◌==◌, filter}
use Rattle.std.specs.Str.{bytes_eq}
use Rattle.mq_objects.specs.declared.object.LocalQueue.{LocalQueue}
use Rattle.mq_objects.specs.declared.object.AliasQueue.{AliasQueue}
use Rattle.mq_objects.specs.declared.object.RemoteQueue.{RemoteQueue}
use Rattle.mq_objects.specs.declared.object.Channel.{Channel}
use Rattle.mq_objects.specs.declared.object.Process.{Process}
use Rattle.mq_objects.specs.declared.object.Object.{Object}
use Rattle.mq_objects.specs.declared.object.Object.TheVariants as objects
use Rattle.mq_objects.specs.declared.setting.Setting.{Setting}
use Rattle.mq_objects.specs.declared.setting.Setting.TheVariants as settings
use Rattle.mq_objects.specs.declared.command.Subject.{Subject}
use Rattle.mq_objects.specs.declared.command.Subject.TheVariants as subjects
use Rattle.mq_objects.specs.Names.{Space, Queues, Channels, Processes, same_space, space_of, name_of, is_object, object_in, is_kind, subject_space, subject_name}
use Rattle.mq_objects.specs.Changed.{set_in, delete_in}
use Rattle.mq_objects.specs.Defaults.{new_object}
use Rattle.mq_objects.specs.Settings.{set_local, set_alias, set_remote, set_channel, set_process, set_object, set_all}
use Rattle.mq_spec_manager.specs.from_sc_apply.Planned.{defined_object, is_type_setting}
use Rattle.mq_law_manager.specs.Facts.{Mem, AreOnce, is_local}
use Rattle.mq_law_manager.proofs.Lists.{bool_case}
use Rattle.mq_law_manager.proofs.Named.{name_is, name_yes}

-- Kinds of objects, as numbers

abbrev pub rank : Object → ℕ
rank (objects.Local q) = 0
rank (objects.Alias q) = 1
rank (objects.Remote q) = 2
rank (objects.Channel c) = 3
rank (objects.Process p) = 4

local_rank : (o : Object) → is_local o ≡ (rank o == 0)
local_rank (objects.Local q) = refl
local_rank (objects.Alias q) = refl
local_rank (objects.Remote q) = refl
local_rank (objects.Channel c) = refl
local_rank (objects.Process p) = refl

-- objects of one kind are local alike
pub ranked_local : (a b : Object) → rank a ≡ rank b → is_local a ≡ is_local b
ranked_local a b e = local_rank a ∙ ap (λ (n : ℕ). n == 0) e ∙ sym (local_rank b)

-- A setting changes neither kind nor name

pub record IsAlike (a b : Object) : Type 0 where
  pub space : space_of a ≡ space_of b
  pub name : name_of a ≡ name_of b
  pub kind : rank a ≡ rank b

pub alike_on : (a b c : Object) → IsAlike a b → IsAlike b c → IsAlike a c
alike_on a b c x y = record { space = x.space ∙ y.space; name = x.name ∙ y.name; kind = x.kind ∙ y.kind }

local_name : (s : Setting) (q : LocalQueue) → (set_local s q).name ≡ q.name
local_name (settings.DefaultPriority n) q = refl
local_name s q = refl

alias_name : (s : Setting) (q : AliasQueue) → (set_alias s q).name ≡ q.name
alias_name (settings.DefaultPriority n) q = refl
alias_name s q = refl

remote_name : (s : Setting) (q : RemoteQueue) → (set_remote s q).name ≡ q.name
remote_name (settings.DefaultPriority n) q = refl
remote_name s q = refl

channel_name : (s : Setting) (c : Channel) → (set_channel s c).name ≡ c.name
channel_name (settings.SequenceWrap n) c = refl
channel_name s c = refl

process_name : (s : Setting) (p : Process) → (set_process s p).name ≡ p.name
process_name (settings.ApplId text) p = refl
process_name s p = refl

set_alike : (s : Setting) (o : Object) → IsAlike (set_object s o) o
set_alike s (objects.Local q) = record { space = refl; name = local_name s q; kind = refl }
set_alike s (objects.Alias q) = record { space = refl; name = alias_name s q; kind = refl }
set_alike s (objects.Remote q) = record { space = refl; name = remote_name s q; kind = refl }
set_alike s (objects.Channel c) = record { space = refl; name = channel_name s c; kind = refl }
set_alike s (objects.Process p) = record { space = refl; name = process_name s p; kind = refl }

pub all_alike : (ss : List Setting) (o : Object) → IsAlike (set_all ss o) o
all_alike [] o = record { space = refl; name = refl; kind = refl }
all_alike (s ∷ ss) o = alike_on (set_all ss (set_object s o)) (set_object s o) o (all_alike ss (set_object s o)) (set_alike s o)

pub defined_alike : (s : Subject) (given : List Setting) → IsAlike (defined_object s given) (new_object s)
defined_alike s given = alike_on (set_all given (set_all (filter is_type_setting given) (new_object s))) (set_all (filter is_type_setting given) (new_object s)) (new_object s)
    (all_alike given (set_all (filter is_type_setting given) (new_object s))) (all_alike (filter is_type_setting given) (new_object s))

pub new_space : (s : Subject) → space_of (new_object s) ≡ subject_space s
new_space (subjects.Local n) = refl
new_space (subjects.Alias n) = refl
new_space (subjects.Remote n) = refl
new_space (subjects.Channel n) = refl
new_space (subjects.Process n) = refl

pub new_name : (s : Subject) → name_of (new_object s) ≡ subject_name s
new_name (subjects.Local n) = refl
new_name (subjects.Alias n) = refl
new_name (subjects.Remote n) = refl
new_name (subjects.Channel n) = refl
new_name (subjects.Process n) = refl

-- an object of the kind that a command names
pub rank_kind : (s : Subject) (o : Object) → is_kind s o ≡ true → rank (new_object s) ≡ rank o
rank_kind (subjects.Local n) (objects.Local q) e = refl
rank_kind (subjects.Local n) (objects.Alias q) e = absurd cc
rank_kind (subjects.Local n) (objects.Remote q) e = absurd cc
rank_kind (subjects.Local n) (objects.Channel q) e = absurd cc
rank_kind (subjects.Local n) (objects.Process q) e = absurd cc
rank_kind (subjects.Alias n) (objects.Local q) e = absurd cc
rank_kind (subjects.Alias n) (objects.Alias q) e = refl
rank_kind (subjects.Alias n) (objects.Remote q) e = absurd cc
rank_kind (subjects.Alias n) (objects.Channel q) e = absurd cc
rank_kind (subjects.Alias n) (objects.Process q) e = absurd cc
rank_kind (subjects.Remote n) (objects.Local q) e = absurd cc
rank_kind (subjects.Remote n) (objects.Alias q) e = absurd cc
rank_kind (subjects.Remote n) (objects.Remote q) e = refl
rank_kind (subjects.Remote n) (objects.Channel q) e = absurd cc
rank_kind (subjects.Remote n) (objects.Process q) e = absurd cc
rank_kind (subjects.Channel n) (objects.Local q) e = absurd cc
rank_kind (subjects.Channel n) (objects.Alias q) e = absurd cc
rank_kind (subjects.Channel n) (objects.Remote q) e = absurd cc
rank_kind (subjects.Channel n) (objects.Channel q) e = refl
rank_kind (subjects.Channel n) (objects.Process q) e = absurd cc
rank_kind (subjects.Process n) (objects.Local q) e = absurd cc
rank_kind (subjects.Process n) (objects.Alias q) e = absurd cc
rank_kind (subjects.Process n) (objects.Remote q) e = absurd cc
rank_kind (subjects.Process n) (objects.Channel q) e = absurd cc
rank_kind (subjects.Process n) (objects.Process q) e = refl

pub kind_local : (s : Subject) (o : Object) → is_kind s o ≡ true → is_local (new_object s) ≡ is_local o
kind_local s o e = ranked_local (new_object s) o (rank_kind s o e)

-- Look-ups

pub same_space_is : (a b : Space) → same_space a b ≡ true → a ≡ b
same_space_is Queues Queues e = refl
same_space_is Queues Channels e = absurd cc
same_space_is Queues Processes e = absurd cc
same_space_is Channels Queues e = absurd cc
same_space_is Channels Channels e = refl
same_space_is Channels Processes e = absurd cc
same_space_is Processes Queues e = absurd cc
same_space_is Processes Channels e = absurd cc
same_space_is Processes Processes e = refl

pub space_self : (a : Space) → same_space a a ≡ true
space_self Queues = refl
space_self Channels = refl
space_self Processes = refl

pub both : (a b : Bool) → (a && b) ≡ true → (a ≡ true) × (b ≡ true)
both true true e = (refl, refl)
both true false e = absurd cc
both false b e = absurd cc

pub object_is : (space : Space) (name : List ℕ) (o : Object) → is_object space name o ≡ true → (space ≡ space_of o) × (name ≡ name_of o)
object_is space name o e = let b = both (same_space space (space_of o)) (bytes_eq name (name_of o)) e in (same_space_is space (space_of o) b.0, name_is name (name_of o) b.1)

pub is_itself : (o : Object) → is_object (space_of o) (name_of o) o ≡ true
is_itself o = ap (λ (b : Bool). b && bytes_eq (name_of o) (name_of o)) (space_self (space_of o)) ∙ name_yes (name_of o) (name_of o) refl

-- an object of the same space and name is found alike
pub found_alike : (space : Space) (name : List ℕ) (a b : Object) → is_object (space_of a) (name_of a) b ≡ true → is_object space name a ≡ is_object space name b
found_alike space name a b e = let z = object_is (space_of a) (name_of a) b e in ap (λ (s : Space). same_space space s && bytes_eq name (name_of a)) z.0 ∙ ap (λ (n : List ℕ). same_space space (space_of b) && bytes_eq name n) z.1

pub found_object : (space : Space) (name : List ℕ) (os : List Object) (o : Object) → object_in space name os ≡ Some o → is_object space name o ≡ true
found_object space name [] o e = absurd cc
found_object space name (x ∷ xs) o e = bool_case (is_object space name x) (λ b. is_object space name x ≡ b → (if b then Some x else object_in space name xs) ≡ Some o → is_object space name o ≡ true)
    (λ z w f. ap (is_object space name) (sym (the f)) ∙ w) (λ z w f. found_object space name xs o f) refl e
  where
    or : Object → Option Object → Object
    or d None = d
    or d (Some y) = y

    the : {y : Object} → Some x ≡ Some y → x ≡ y
    the {y} f = ap (or x) f

pub set_found : (space : Space) (name : List ℕ) (new : Object) (os : List Object) → object_in space name (set_in new os) ≡ (if is_object space name new then Some new else object_in space name os)
set_found space name new [] = refl
set_found space name new (o ∷ os) = bool_case (is_object (space_of new) (name_of new) o)
    (λ b. is_object (space_of new) (name_of new) o ≡ b → object_in space name (if b then new ∷ os else o ∷ set_in new os) ≡ (if is_object space name new then Some new else (if is_object space name o then Some o else object_in space name os)))
    (λ z w. bool_case (is_object space name new) (λ b. is_object space name new ≡ b → (if b then Some new else object_in space name os) ≡ (if b then Some new else (if is_object space name o then Some o else object_in space name os)))
    (λ y v. refl) (λ y v. ap (λ (b : Bool). if b then Some o else object_in space name os) (sym (sym (found_alike space name new o w) ∙ v))) refl)
    (λ z w. ap (λ (r : Option Object). if is_object space name o then Some o else r) (set_found space name new os)
    ∙ bool_case (is_object space name o) (λ b. is_object space name o ≡ b → (if b then Some o else (if is_object space name new then Some new else object_in space name os)) ≡ (if is_object space name new then Some new else (if b then Some o else object_in space name os)))
    (λ y v. ap (λ (b : Bool). if b then Some new else Some o) (sym (other w v))) (λ y v. refl) refl) refl
  where
    other : is_object (space_of new) (name_of new) o ≡ false → is_object space name o ≡ true → is_object space name new ≡ false
    other w v = bool_case (is_object space name new) (λ b. is_object space name new ≡ b → b ≡ false)
        (λ y u.
        let a = object_is space name new u in
        let c = object_is space name o v in
        absurd (cc (w, ap (λ (s : Space). same_space s (space_of o) && bytes_eq (name_of new) (name_of o)) (sym a.0 ∙ c.0) ∙ ap (λ (n : List ℕ). same_space (space_of o) (space_of o) && bytes_eq n (name_of o)) (sym a.1 ∙ c.1) ∙ is_itself o)))
        (λ y u. refl) refl

-- no name of a space stands twice
absent : (space : Space) (name : List ℕ) (os : List Object) → ((o : Object) → Mem o os → is_object space name o ≡ false) → object_in space name os ≡ None
absent space name [] h = refl
absent space name (o ∷ os) h = ap (λ (b : Bool). if b then Some o else object_in space name os) (h o (inl refl)) ∙ absent space name os (λ x m. h x (inr m))

pub delete_found : (space at : Space) (name gone : List ℕ) (os : List Object) → AreOnce os → object_in space name (delete_in at gone os) ≡ (if same_space space at && bytes_eq name gone then None else object_in space name os)
delete_found space at name gone [] once = bool_case (same_space space at && bytes_eq name gone) (λ b. none ≡ (if b then None else None)) (λ e. refl) (λ e. refl)
  where
    none : Option Object
    none = None
delete_found space at name gone (o ∷ os) once = bool_case (is_object at gone o)
    (λ b. is_object at gone o ≡ b → object_in space name (if b then os else o ∷ delete_in at gone os) ≡ (if same_space space at && bytes_eq name gone then None else (if is_object space name o then Some o else object_in space name os)))
    (λ z w. let is = object_is at gone o w in
    bool_case (same_space space at && bytes_eq name gone) (λ b. (same_space space at && bytes_eq name gone) ≡ b → object_in space name os ≡ (if b then None else (if is_object space name o then Some o else object_in space name os)))
    (λ y v. let k = both (same_space space at) (bytes_eq name gone) v in
    absent space name os (λ x m. ap (λ (s : Space). is_object s name x) (same_space_is space at k.0 ∙ is.0) ∙ ap (λ (n : List ℕ). is_object (space_of o) n x) (name_is name gone k.1 ∙ is.1) ∙ once.0 x m))
    (λ y v. ap (λ (b : Bool). if b then Some o else object_in space name os) (sym (ap (λ (s : Space). same_space space s && bytes_eq name (name_of o)) (sym is.0) ∙ ap (λ (n : List ℕ). same_space space at && bytes_eq name n) (sym is.1) ∙ v))) refl)
    (λ z w. ap (λ (r : Option Object). if is_object space name o then Some o else r) (delete_found space at name gone os once.1)
    ∙ bool_case (is_object space name o) (λ b. is_object space name o ≡ b → (if b then Some o else (if same_space space at && bytes_eq name gone then None else object_in space name os)) ≡ (if same_space space at && bytes_eq name gone then None else (if b then Some o else object_in space name os)))
    (λ y v. ap (λ (b : Bool). if b then None else Some o) (sym (other w v))) (λ y v. refl) refl) refl
  where
    other : is_object at gone o ≡ false → is_object space name o ≡ true → (same_space space at && bytes_eq name gone) ≡ false
    other w v = bool_case (same_space space at && bytes_eq name gone) (λ b. (same_space space at && bytes_eq name gone) ≡ b → b ≡ false)
        (λ y u. let k = both (same_space space at) (bytes_eq name gone) u in
        absurd (cc (w, ap (λ (s : Space). is_object s gone o) (sym (same_space_is space at k.0)) ∙ ap (λ (n : List ℕ). is_object space n o) (sym (name_is name gone k.1)) ∙ v)))
        (λ y u. refl) refl

-- and none comes to

set_mem : (new : Object) (os : List Object) (x : Object) → Mem x (set_in new os) → (x ≡ new) ⊎ Mem x os
set_mem new [] x (inl e) = inl e
set_mem new [] x (inr m) = absurd m
set_mem new (o ∷ os) x m = bool_case (is_object (space_of new) (name_of new) o) (λ b. Mem x (if b then new ∷ os else o ∷ set_in new os) → (x ≡ new) ⊎ Mem x (o ∷ os)) (λ e k. here k) (λ e k. there (λ n. set_mem new os x n) k) m
  where
    here : Mem x (new ∷ os) → (x ≡ new) ⊎ Mem x (o ∷ os)
    here (inl e) = inl e
    here (inr m) = inr (inr m)

    there : (Mem x (set_in new os) → (x ≡ new) ⊎ Mem x os) → Mem x (o ∷ set_in new os) → (x ≡ new) ⊎ Mem x (o ∷ os)
    there f (inl e) = inr (inl e)
    there f (inr m) = elim (f m) [ inl z ↦ inl z | inr z ↦ inr (inr z) ]

turned : (a b : Object) → is_object (space_of a) (name_of a) b ≡ false → is_object (space_of b) (name_of b) a ≡ false
turned a b e = bool_case (is_object (space_of b) (name_of b) a) (λ t. is_object (space_of b) (name_of b) a ≡ t → t ≡ false)
    (λ z w. let k = object_is (space_of b) (name_of b) a w in
    absurd (cc (e, ap (λ (s : Space). same_space s (space_of b) && bytes_eq (name_of a) (name_of b)) (sym k.0) ∙ ap (λ (n : List ℕ). same_space (space_of b) (space_of b) && bytes_eq n (name_of b)) (sym k.1) ∙ is_itself b)))
    (λ z w. refl) refl

pub once_set : (new : Object) (os : List Object) → AreOnce os → AreOnce (set_in new os)
once_set new [] h = (λ y m. absurd m, tt)
once_set new (o ∷ os) h = bool_case (is_object (space_of new) (name_of new) o) (λ b. is_object (space_of new) (name_of new) o ≡ b → AreOnce (if b then new ∷ os else o ∷ set_in new os))
    (λ e z. let k = object_is (space_of new) (name_of new) o z in (λ y m. ap (λ (s : Space). is_object s (name_of new) y) k.0 ∙ ap (λ (n : List ℕ). is_object (space_of o) n y) k.1 ∙ h.0 y m, h.1))
    (λ e z. (λ y m. elim (set_mem new os y m) [ inl k ↦ ap (is_object (space_of o) (name_of o)) k ∙ turned new o z | inr k ↦ h.0 y k ], once_set new os h.1)) refl

delete_mem : (space : Space) (name : List ℕ) (os : List Object) (x : Object) → Mem x (delete_in space name os) → Mem x os
delete_mem space name [] x m = m
delete_mem space name (o ∷ os) x m = bool_case (is_object space name o) (λ b. Mem x (if b then os else o ∷ delete_in space name os) → Mem x (o ∷ os)) (λ e k. inr k) (λ e k. elim k [ inl z ↦ inl z | inr z ↦ inr (delete_mem space name os x z) ]) m

pub once_delete : (space : Space) (name : List ℕ) (os : List Object) → AreOnce os → AreOnce (delete_in space name os)
once_delete space name [] h = tt
once_delete space name (o ∷ os) h = bool_case (is_object space name o) (λ b. AreOnce (if b then os else o ∷ delete_in space name os)) (λ e. h.1) (λ e. (λ y m. h.0 y (delete_mem space name os y m), once_delete space name os h.1))
