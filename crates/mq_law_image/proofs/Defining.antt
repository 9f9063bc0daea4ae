-- A change of objects.
use Rattle.std.proofs.Common.{ℕ, ℤ, ◌≡◌, Bool, true, false, List, [], ◌∷◌, refl, ap, sym, subst, ◌∙◌, inl, inr}
use Rattle.std.specs.Prelude.{Option, Some, None, is_some, if◌then◌else◌, ◌&&◌, ◌||◌, not, filter}
use Rattle.std.specs.Str.{bytes_eq}
use Rattle.mq_queue.specs.declared.row.Row.{Row}
use Rattle.mq_objects.specs.declared.object.LocalQueue.{LocalQueue}
use Rattle.mq_objects.specs.declared.object.Object.{Object}
use Rattle.mq_objects.specs.declared.object.Object.TheVariants as objects
use Rattle.mq_objects.specs.declared.object.Definitions.{Definitions}
use Rattle.mq_objects.specs.declared.change.ObjectChange.{ObjectChange}
use Rattle.mq_objects.specs.declared.change.ObjectChange.TheVariants as changes
use Rattle.mq_objects.specs.declared.command.Subject.{Subject}
use Rattle.mq_objects.specs.declared.command.Subject.TheVariants as subjects
use Rattle.mq_objects.specs.Names.{Space, Queues, Channels, Processes, same_space, space_of, name_of, is_object, object_in, as_local, local_of, is_transmission, is_by_priority}
use Rattle.mq_objects.specs.Changed.{set, delete, changed}
use Rattle.mq_calls.specs.Changes.{lane_of}
use Rattle.mq_calls.specs.declared.image.Image.{Image}
use Rattle.mq_calls.specs.declared.image.Shelf.{Shelf}
use Rattle.mq_calls.specs.Recovery.{routes}
use Rattle.mq_calls.specs.declared.records.LogRecord.TheVariants as records
use Rattle.mq_queue.specs.Lanes.{lane_at}
use Rattle.mq_law_log.specs.from_spec_log.Applies.{agrees, same_form, can_set, can_delete, can_change, has_rows_on}
use Rattle.mq_law_log.specs.from_spec_log.Records.{doing, shelf_if}
use Rattle.mq_law_log.specs.from_spec_log.Shelves.{set_shelf}
use Rattle.mq_law_log.specs.from_law_manager.Facts.{Mem, Differ, ident_of, AreLaned, AreOnce, is_local}
use Rattle.mq_law_log.proofs.from_law_manager.Lists.{bool_case}
use Rattle.mq_law_log.proofs.from_law_manager.Named.{name_is, name_turned}
use Rattle.mq_law_log.proofs.from_law_manager.Objects.{set_found, delete_found, once_set, once_delete}
use Rattle.mq_law_log.proofs.from_law_manager.Routes.{filter_mem}
use Rattle.mq_law_image.specs.SoFar.{Sight, sight, IsRowOf, AreShelved, IsSoFar}
use Rattle.mq_law_image.proofs.Members.{both, set_shelf_mem}
use Rattle.mq_law_image.proofs.Rowing.{seen_shelved}
use Rattle.mq_law_image.proofs.Naming.{shelf_names, local_names, add_name, add_there, set_shelf_names, dropped_names, is_local_at, is_none_or_local, set_local_names, set_other_names, delete_other_names, delete_local_names, name_listed, local_found, shelves_named, shelf_is, mapped_mem}

-- Local queues of one form: lanes and routes of rows are the same on both

pub record IsForm (a b : Option LocalQueue) : Type 0 where
  pub lanes : (priority : ℤ) → lane_of a priority ≡ lane_of b priority
  pub routes : routes a ≡ routes b

pub same_locals : (a b : Option LocalQueue) → b ≡ a → IsForm a b
same_locals a b e = record { lanes = λ n. ap (λ (o : Option LocalQueue). lane_of o n) (sym e); routes = ap routes (sym e) }

agree : (a b : Bool) → agrees a b ≡ true → b ≡ a
agree true b f = f
agree false true f = absurd cc
agree false false f = refl

form_is : (old new : LocalQueue) → same_form new old ≡ true → IsForm (Some old) (Some new)
form_is old new e =
    let b = both (agrees (is_transmission new.usage) (is_transmission old.usage)) (agrees (is_by_priority new.delivery) (is_by_priority old.delivery)) e in
    record { lanes = λ n. ap (λ (t : Bool). if t then lane_at n else 0) (agree (is_by_priority new.delivery) (is_by_priority old.delivery) b.1); routes = agree (is_transmission new.usage) (is_transmission old.usage) b.0 }

abbrev pub defining : Sight → Definitions → Sight
defining v d = record v { definitions = d }

row_formed : (v : Sight) (d : Definitions) (queue : List ℕ) (h : Row) → IsForm (local_of queue v.definitions) (local_of queue d) → IsRowOf v queue h → IsRowOf (defining v d) queue h
row_formed v d queue h f r = record {
  persistent = r.persistent;
  lane = r.lane ∙ f.lanes h.message.md.priority;
  uncounted = r.uncounted;
  unbacked = r.unbacked;
  routed = r.routed ∙ f.routes;
  held = r.held;
  doubted = r.doubted;
  known = r.known;
}

formed_shelved : (v : Sight) (d : Definitions) (ss : List Shelf) → ((s : Shelf) (h : Row) → Mem s ss → Mem h s.rows → IsForm (local_of s.name v.definitions) (local_of s.name d)) → AreShelved v ss → AreShelved (defining v d) ss
formed_shelved v d ss f a = seen_shelved v (defining v d) ss (λ s h m n r. row_formed v d s.name h (f s h m n) r) a

-- A shelf without rows comes, or one goes

empty_shelved : (v : Sight) (name : List ℕ) (ss : List Shelf) → AreShelved v ss → AreShelved v (set_shelf (record { name = name; rows = [] }) ss)
empty_shelved v name ss a = record {
  row = λ t h m n. a.row t h (old t h m n) n;
  alone = λ s t h k m n x y e. a.alone s t h k (old s h m x) (old t k n y) x y e;
  laned = λ t m. elim (set_shelf_mem new t ss m) [ inl z ↦ subst (λ (s : Shelf). AreLaned s.rows) (sym z) tt | inr z ↦ a.laned t z ];
  once = λ t m. elim (set_shelf_mem new t ss m) [ inl z ↦ subst (λ (s : Shelf). Differ ident_of s.rows) (sym z) tt | inr z ↦ a.once t z ];
}
  where
    new : Shelf
    new = record { name = name; rows = [] }

    old : (t : Shelf) (h : Row) → Mem t (set_shelf new ss) → Mem h t.rows → Mem t ss
    old t h m n = elim (set_shelf_mem new t ss m) [ inl z ↦ absurd (subst (λ (s : Shelf). Mem h s.rows) z n) | inr z ↦ z ]

fewer_shelved : (v : Sight) (test : Shelf → Bool) (ss : List Shelf) → AreShelved v ss → AreShelved v (filter test ss)
fewer_shelved v test ss a = record {
  row = λ t h m n. a.row t h (filter_mem test t ss m) n;
  alone = λ s t h k m n x y e. a.alone s t h k (filter_mem test s ss m) (filter_mem test t ss n) x y e;
  laned = λ t m. a.laned t (filter_mem test t ss m);
  once = λ t m. a.once t (filter_mem test t ss m);
}

-- what passes a test of names in a list
passed : (name : List ℕ) (s : Shelf) (ss : List Shelf) → Mem s (filter (λ (x : Shelf). not (bytes_eq name x.name)) ss) → bytes_eq name s.name ≡ false
passed name s [] m = absurd m
passed name s (x ∷ xs) m = bool_case (bytes_eq name x.name) (λ b. bytes_eq name x.name ≡ b → Mem s (if not b then x ∷ filter (λ (y : Shelf). not (bytes_eq name y.name)) xs else filter (λ (y : Shelf). not (bytes_eq name y.name)) xs) → bytes_eq name s.name ≡ false)
    (λ z w k. passed name s xs k) (λ z w k. elim k [ inl e ↦ ap (λ (y : Shelf). bytes_eq name y.name) e ∙ w | inr n ↦ passed name s xs n ]) refl m

-- An object is set

-- what the table of replacements says of the one that was there
there_kind : (q : LocalQueue) (o : Option Object) (ss : List Shelf) → can_set (objects.Local q) o ss ≡ true → is_none_or_local o ≡ true
there_kind q None ss e = refl
there_kind q (Some (objects.Local x)) ss e = refl
there_kind q (Some (objects.Alias x)) ss e = absurd cc
there_kind q (Some (objects.Remote x)) ss e = absurd cc
there_kind q (Some (objects.Channel x)) ss e = absurd cc
there_kind q (Some (objects.Process x)) ss e = absurd cc

other_kind : (new : Object) (o : Option Object) (ss : List Shelf) → is_local new ≡ false → can_set new o ss ≡ true → is_local_at o ≡ false
other_kind new None ss l e = refl
other_kind (objects.Local q) (Some o) ss l e = absurd cc
other_kind (objects.Alias q) (Some (objects.Local x)) ss l e = absurd cc
other_kind (objects.Remote q) (Some (objects.Local x)) ss l e = absurd cc
other_kind (objects.Channel q) (Some (objects.Local x)) ss l e = absurd cc
other_kind (objects.Process q) (Some (objects.Local x)) ss l e = absurd cc
other_kind new (Some (objects.Alias x)) ss l e = refl
other_kind new (Some (objects.Remote x)) ss l e = refl
other_kind new (Some (objects.Channel x)) ss l e = refl
other_kind new (Some (objects.Process x)) ss l e = refl

no_local : (o : Option Object) → is_local_at o ≡ false → as_local o ≡ None
no_local None e = refl
no_local (Some (objects.Local x)) e = absurd cc
no_local (Some (objects.Alias x)) e = refl
no_local (Some (objects.Remote x)) e = refl
no_local (Some (objects.Channel x)) e = refl
no_local (Some (objects.Process x)) e = refl

or_right : (a b : Bool) → (a || not b) ≡ true → b ≡ true → a ≡ true
or_right true b e f = refl
or_right false true e f = absurd cc
or_right false false e f = absurd cc

-- a local queue with rows is replaced by one of its form
replaced : (q : LocalQueue) (o : Option Object) (ss : List Shelf) → is_local_at o ≡ true → can_set (objects.Local q) o ss ≡ true → has_rows_on q.name ss ≡ true → IsForm (as_local o) (Some q)
replaced q None ss l e r = absurd cc
replaced q (Some (objects.Local old)) ss l e r = form_is old q (or_right (same_form q old) (has_rows_on q.name ss) e r)
replaced q (Some (objects.Alias x)) ss l e r = absurd cc
replaced q (Some (objects.Remote x)) ss l e r = absurd cc
replaced q (Some (objects.Channel x)) ss l e r = absurd cc
replaced q (Some (objects.Process x)) ss l e r = absurd cc

rows_there : (h : Row) (rows : List Row) → Mem h rows → (elim rows as (λ r. Bool) [ [] ↦ false | row ∷ more ↦ true ]) ≡ true
rows_there h [] m = absurd m
rows_there h (row ∷ more) m = refl

local_after : (q : LocalQueue) (name : List ℕ) (d : Definitions) → local_of name (set (objects.Local q) d) ≡ (if bytes_eq name q.name then Some q else local_of name d)
local_after q name d = ap as_local (set_found Queues name (objects.Local q) d.objects)
    ∙ bool_case (bytes_eq name q.name) (λ b. as_local (if b then Some (objects.Local q) else object_in Queues name d.objects) ≡ (if b then Some q else as_local (object_in Queues name d.objects))) (λ e. refl) (λ e. refl)

set_local_form : (number : ℕ) (q : LocalQueue) (i : Image) → can_set (objects.Local q) (object_in Queues q.name i.definitions.objects) i.shelves ≡ true → IsSoFar number i
    → (s : Shelf) (h : Row) → Mem s i.shelves → Mem h s.rows → IsForm (local_of s.name i.definitions) (local_of s.name (set (objects.Local q) i.definitions))
set_local_form number q i can k s h m n = subst (IsForm (local_of s.name i.definitions)) (sym (local_after q s.name i.definitions))
    (bool_case (bytes_eq s.name q.name) (λ b. bytes_eq s.name q.name ≡ b → IsForm (local_of s.name i.definitions) (if b then Some q else local_of s.name i.definitions))
    (λ z w. let same = name_is s.name q.name w in
    subst (λ (x : List ℕ). IsForm (local_of x i.definitions) (Some q)) (sym same)
    (replaced q (object_in Queues q.name i.definitions.objects) i.shelves
    (subst (λ (x : List ℕ). is_local_at (object_in Queues x i.definitions.objects) ≡ true) same (local_found s.name i.definitions.objects k.once (subst (λ (ns : List (List ℕ)). Mem s.name ns) k.shelves (mapped_mem (λ (x : Shelf). x.name) s i.shelves m))))
    can
    (subst (λ (x : List ℕ). has_rows_on x i.shelves ≡ true) same
    (subst (λ (x : Shelf). (elim x.rows as (λ r. Bool) [ [] ↦ false | row ∷ more ↦ true ]) ≡ true) (sym (shelf_is i.shelves s (shelves_named i.definitions.objects i.shelves k.once k.shelves) m)) (rows_there h s.rows n)))))
    (λ z w. same_locals (local_of s.name i.definitions) (local_of s.name i.definitions) refl) refl)

other_after : (new : Object) (name : List ℕ) (d : Definitions) (ss : List Shelf) → is_local new ≡ false → can_set new (object_in (space_of new) (name_of new) d.objects) ss ≡ true → local_of name (set new d) ≡ local_of name d
other_after new name d ss l can = ap as_local (set_found Queues name new d.objects)
    ∙ bool_case (is_object Queues name new) (λ b. is_object Queues name new ≡ b → as_local (if b then Some new else object_in Queues name d.objects) ≡ as_local (object_in Queues name d.objects))
    (λ z w. no_local (Some new) l ∙ sym (no_local (object_in Queues name d.objects) (was new l w can))) (λ z w. refl) refl
  where
    at : (new : Object) → space_of new ≡ Queues → bytes_eq name (name_of new) ≡ true → is_local new ≡ false → can_set new (object_in (space_of new) (name_of new) d.objects) ss ≡ true → is_local_at (object_in Queues name d.objects) ≡ false
    at new s e l can = subst (λ (n : List ℕ). is_local_at (object_in Queues n d.objects) ≡ false) (sym (name_is name (name_of new) e))
        (subst (λ (x : Space). is_local_at (object_in x (name_of new) d.objects) ≡ false) s (other_kind new (object_in (space_of new) (name_of new) d.objects) ss l can))

    was : (new : Object) → is_local new ≡ false → is_object Queues name new ≡ true → can_set new (object_in (space_of new) (name_of new) d.objects) ss ≡ true → is_local_at (object_in Queues name d.objects) ≡ false
    was (objects.Local q) l w can = absurd cc
    was (objects.Alias q) l w can = at (objects.Alias q) refl w l can
    was (objects.Remote q) l w can = at (objects.Remote q) refl w l can
    was (objects.Channel q) l w can = absurd cc
    was (objects.Process q) l w can = absurd cc

set_other_so_far : (number : ℕ) (new : Object) (i : Image) → is_local new ≡ false → can_set new (object_in (space_of new) (name_of new) i.definitions.objects) i.shelves ≡ true → IsSoFar number i → IsSoFar number (record i { definitions = set new i.definitions })
set_other_so_far number new i l can h = record {
  once = once_set new i.definitions.objects h.once;
  shelves = h.shelves ∙ sym (set_other_names new i.definitions.objects l (other_kind new (object_in (space_of new) (name_of new) i.definitions.objects) i.shelves l can));
  rows = formed_shelved (sight number i) (set new i.definitions) i.shelves (λ s x m n. same_locals (local_of s.name i.definitions) (local_of s.name (set new i.definitions)) (other_after new s.name i.definitions i.shelves l can)) h.rows;
  senders = h.senders;
  receivers = h.receivers;
  senders_sorted = h.senders_sorted;
  receivers_sorted = h.receivers_sorted;
}

set_local_so_far : (number : ℕ) (q : LocalQueue) (i : Image) → can_set (objects.Local q) (object_in Queues q.name i.definitions.objects) i.shelves ≡ true → IsSoFar number i
    → IsSoFar number (record i { definitions = set (objects.Local q) i.definitions; shelves = shelf_if (local_of q.name i.definitions) q.name i.shelves })
set_local_so_far number q i can h = record {
  once = once_set (objects.Local q) i.definitions.objects h.once;
  shelves = names (local_of q.name i.definitions) refl ∙ sym (set_local_names q i.definitions.objects (there_kind q (object_in Queues q.name i.definitions.objects) i.shelves can));
  rows = shelved (local_of q.name i.definitions) (formed_shelved (sight number i) (set (objects.Local q) i.definitions) i.shelves (set_local_form number q i can h) h.rows);
  senders = h.senders;
  receivers = h.receivers;
  senders_sorted = h.senders_sorted;
  receivers_sorted = h.receivers_sorted;
}
  where
    names : (o : Option LocalQueue) → local_of q.name i.definitions ≡ o → shelf_names (shelf_if o q.name i.shelves) ≡ add_name q.name (local_names i.definitions.objects)
    names None e = set_shelf_names (record { name = q.name; rows = [] }) i.shelves ∙ ap (add_name q.name) h.shelves
    names (Some x) e = h.shelves ∙ sym (add_there q.name (local_names i.definitions.objects) (name_listed q.name i.definitions.objects (ap is_some e)))

    shelved : (o : Option LocalQueue) → AreShelved (defining (sight number i) (set (objects.Local q) i.definitions)) i.shelves → AreShelved (defining (sight number i) (set (objects.Local q) i.definitions)) (shelf_if o q.name i.shelves)
    shelved None a = empty_shelved (defining (sight number i) (set (objects.Local q) i.definitions)) q.name i.shelves a
    shelved (Some x) a = a

-- One is deleted

deleted_kind : (subject : Subject) (o : Option Object) (ss : List Shelf) → can_delete subject o ss ≡ true → is_local_at o ≡ elim subject as (λ s. Bool) [ subjects.Local n ↦ true | subjects.Alias n ↦ false | subjects.Remote n ↦ false | subjects.Channel n ↦ false | subjects.Process n ↦ false ]
deleted_kind subject None ss e = absurd cc
deleted_kind (subjects.Local n) (Some (objects.Local q)) ss e = refl
deleted_kind (subjects.Local n) (Some (objects.Alias q)) ss e = absurd cc
deleted_kind (subjects.Local n) (Some (objects.Remote q)) ss e = absurd cc
deleted_kind (subjects.Local n) (Some (objects.Channel q)) ss e = absurd cc
deleted_kind (subjects.Local n) (Some (objects.Process q)) ss e = absurd cc
deleted_kind (subjects.Alias n) (Some (objects.Local q)) ss e = absurd cc
deleted_kind (subjects.Remote n) (Some (objects.Local q)) ss e = absurd cc
deleted_kind (subjects.Channel n) (Some (objects.Local q)) ss e = absurd cc
deleted_kind (subjects.Process n) (Some (objects.Local q)) ss e = absurd cc
deleted_kind (subjects.Alias n) (Some (objects.Alias q)) ss e = refl
deleted_kind (subjects.Alias n) (Some (objects.Remote q)) ss e = refl
deleted_kind (subjects.Alias n) (Some (objects.Channel q)) ss e = refl
deleted_kind (subjects.Alias n) (Some (objects.Process q)) ss e = refl
deleted_kind (subjects.Remote n) (Some (objects.Alias q)) ss e = refl
deleted_kind (subjects.Remote n) (Some (objects.Remote q)) ss e = refl
deleted_kind (subjects.Remote n) (Some (objects.Channel q)) ss e = refl
deleted_kind (subjects.Remote n) (Some (objects.Process q)) ss e = refl
deleted_kind (subjects.Channel n) (Some (objects.Alias q)) ss e = refl
deleted_kind (subjects.Channel n) (Some (objects.Remote q)) ss e = refl
deleted_kind (subjects.Channel n) (Some (objects.Channel q)) ss e = refl
deleted_kind (subjects.Channel n) (Some (objects.Process q)) ss e = refl
deleted_kind (subjects.Process n) (Some (objects.Alias q)) ss e = refl
deleted_kind (subjects.Process n) (Some (objects.Remote q)) ss e = refl
deleted_kind (subjects.Process n) (Some (objects.Channel q)) ss e = refl
deleted_kind (subjects.Process n) (Some (objects.Process q)) ss e = refl

none_or : (o : Option Object) → is_local_at o ≡ true → is_none_or_local o ≡ true
none_or None e = absurd cc
none_or (Some o) e = e

deleted_local : (name n : List ℕ) (d : Definitions) → AreOnce d.objects → bytes_eq n name ≡ false → local_of name (delete Queues n d) ≡ local_of name d
deleted_local name n d once e = ap as_local (delete_found Queues Queues name n d.objects once) ∙ ap (λ (b : Bool). as_local (if b then None else object_in Queues name d.objects)) (name_turned name n ∙ e)

deleted_other : (space : Space) (name n : List ℕ) (d : Definitions) → AreOnce d.objects → is_local_at (object_in space n d.objects) ≡ false → (same_space Queues space ≡ true → space ≡ Queues) → local_of name (delete space n d) ≡ local_of name d
deleted_other space name n d once l is = ap as_local (delete_found Queues space name n d.objects once)
    ∙ bool_case (same_space Queues space && bytes_eq name n) (λ b. (same_space Queues space && bytes_eq name n) ≡ b → as_local (if b then None else object_in Queues name d.objects) ≡ as_local (object_in Queues name d.objects))
    (λ z w. let b = both (same_space Queues space) (bytes_eq name n) w in
    sym (no_local (object_in Queues name d.objects) (subst (λ (x : List ℕ). is_local_at (object_in Queues x d.objects) ≡ false) (sym (name_is name n b.1)) (subst (λ (x : Space). is_local_at (object_in x n d.objects) ≡ false) (is b.0) l))))
    (λ z w. refl) refl

delete_local_so_far : (number : ℕ) (name : List ℕ) (i : Image) → can_delete (subjects.Local name) (object_in Queues name i.definitions.objects) i.shelves ≡ true → IsSoFar number i
    → IsSoFar number (record i { definitions = delete Queues name i.definitions; shelves = filter (λ (s : Shelf). not (bytes_eq name s.name)) i.shelves })
delete_local_so_far number name i can h = record {
  once = once_delete Queues name i.definitions.objects h.once;
  shelves = dropped_names name i.shelves ∙ ap (filter (λ x. not (bytes_eq name x))) h.shelves
      ∙ sym (delete_local_names name i.definitions.objects h.once (none_or (object_in Queues name i.definitions.objects) (deleted_kind (subjects.Local name) (object_in Queues name i.definitions.objects) i.shelves can)));
  rows = formed_shelved (sight number i) (delete Queues name i.definitions) (filter (λ (s : Shelf). not (bytes_eq name s.name)) i.shelves)
      (λ s x m n. same_locals (local_of s.name i.definitions) (local_of s.name (delete Queues name i.definitions)) (deleted_local s.name name i.definitions h.once (passed name s i.shelves m)))
      (fewer_shelved (sight number i) (λ (s : Shelf). not (bytes_eq name s.name)) i.shelves h.rows);
  senders = h.senders;
  receivers = h.receivers;
  senders_sorted = h.senders_sorted;
  receivers_sorted = h.receivers_sorted;
}

delete_other_so_far : (number : ℕ) (space : Space) (name : List ℕ) (i : Image) → is_local_at (object_in space name i.definitions.objects) ≡ false → (same_space Queues space ≡ true → space ≡ Queues) → IsSoFar number i
    → IsSoFar number (record i { definitions = delete space name i.definitions })
delete_other_so_far number space name i l is h = record {
  once = once_delete space name i.definitions.objects h.once;
  shelves = h.shelves ∙ sym (delete_other_names space name i.definitions.objects l);
  rows = formed_shelved (sight number i) (delete space name i.definitions) i.shelves (λ s x m n. same_locals (local_of s.name i.definitions) (local_of s.name (delete space name i.definitions)) (deleted_other space s.name name i.definitions h.once l is)) h.rows;
  senders = h.senders;
  receivers = h.receivers;
  senders_sorted = h.senders_sorted;
  receivers_sorted = h.receivers_sorted;
}

pub changed_so_far : (number : ℕ) (change : ObjectChange) (i : Image) → can_change change i.definitions i.shelves ≡ true → IsSoFar number i → IsSoFar number (doing (records.Objects change) i)
changed_so_far number (changes.Set (objects.Local q)) i can h = set_local_so_far number q i can h
changed_so_far number (changes.Set (objects.Alias q)) i can h = set_other_so_far number (objects.Alias q) i refl can h
changed_so_far number (changes.Set (objects.Remote q)) i can h = set_other_so_far number (objects.Remote q) i refl can h
changed_so_far number (changes.Set (objects.Channel q)) i can h = set_other_so_far number (objects.Channel q) i refl can h
changed_so_far number (changes.Set (objects.Process q)) i can h = set_other_so_far number (objects.Process q) i refl can h
changed_so_far number (changes.SetManager m) i can h = record {
  once = h.once;
  shelves = h.shelves;
  rows = formed_shelved (sight number i) (changed (changes.SetManager m) i.definitions) i.shelves (λ s x k n. same_locals (local_of s.name i.definitions) (local_of s.name i.definitions) refl) h.rows;
  senders = h.senders;
  receivers = h.receivers;
  senders_sorted = h.senders_sorted;
  receivers_sorted = h.receivers_sorted;
}
changed_so_far number (changes.Delete (subjects.Local n)) i can h = delete_local_so_far number n i can h
changed_so_far number (changes.Delete (subjects.Alias n)) i can h = delete_other_so_far number Queues n i (deleted_kind (subjects.Alias n) (object_in Queues n i.definitions.objects) i.shelves can) (λ e. refl) h
changed_so_far number (changes.Delete (subjects.Remote n)) i can h = delete_other_so_far number Queues n i (deleted_kind (subjects.Remote n) (object_in Queues n i.definitions.objects) i.shelves can) (λ e. refl) h
changed_so_far number (changes.Delete (subjects.Channel n)) i can h = delete_other_so_far number Channels n i (deleted_kind (subjects.Channel n) (object_in Channels n i.definitions.objects) i.shelves can) (λ e. absurd cc) h
changed_so_far number (changes.Delete (subjects.Process n)) i can h = delete_other_so_far number Processes n i (deleted_kind (subjects.Process n) (object_in Processes n i.definitions.objects) i.shelves can) (λ e. absurd cc) h
