-- The names of shelves are those of the local queues, in order.
use Rattle.std.proofs.Common.{ℕ, ◌≡◌, Bool, true, false, List, [], ◌∷◌, refl, ap, sym, subst, ◌∙◌, map, inl, inr}
use Rattle.std.specs.Prelude.{Option, Some, None, is_some, if◌then◌else◌, ◌||◌, not, filter}
use Rattle.std.specs.Str.{bytes_eq}
use Rattle.std.specs.List.{list_any}
use Rattle.mq_objects.specs.declared.object.LocalQueue.{LocalQueue}
use Rattle.mq_objects.specs.declared.object.Object.{Object}
use Rattle.mq_objects.specs.declared.object.Object.TheVariants as objects
use Rattle.mq_objects.specs.Names.{Space, Queues, space_of, name_of, is_object, object_in, as_local, locals_in}
use Rattle.mq_objects.specs.Changed.{set_in, delete_in}
use Rattle.mq_calls.specs.declared.image.Shelf.{Shelf}
use Rattle.mq_law_log.specs.from_spec_log.Shelves.{shelf_in, set_shelf}
use Rattle.mq_law_log.specs.from_law_manager.Facts.{Mem, Chain, AreOnce, is_local}
use Rattle.mq_law_log.proofs.from_law_manager.Lists.{bool_case}
use Rattle.mq_law_log.proofs.from_law_manager.Named.{name_is, name_self, name_turned}
pub use Rattle.mq_law_image.proofs.Keeping.{mem_mapped as mapped_mem}

abbrev pub shelf_names : List Shelf → List (List ℕ)
shelf_names ss = map (λ (s : Shelf). s.name) ss

abbrev pub local_names : List Object → List (List ℕ)
local_names os = map (λ (q : LocalQueue). q.name) (locals_in os)

-- a name that is there already stays where it is; a new one comes last
abbrev pub add_name : List ℕ → List (List ℕ) → List (List ℕ)
add_name n [] = n ∷ []
add_name n (x ∷ xs) = if bytes_eq n x then n ∷ xs else x ∷ add_name n xs

pub add_there : (n : List ℕ) (xs : List (List ℕ)) → list_any (bytes_eq n) xs ≡ true → add_name n xs ≡ xs
add_there n [] e = absurd cc
add_there n (x ∷ xs) e = bool_case (bytes_eq n x) (λ b. bytes_eq n x ≡ b → (b || list_any (bytes_eq n) xs) ≡ true → (if b then n ∷ xs else x ∷ add_name n xs) ≡ x ∷ xs)
    (λ z w f. ap (λ (y : List ℕ). y ∷ xs) (name_is n x w)) (λ z w f. ap (λ (ys : List (List ℕ)). x ∷ ys) (add_there n xs f)) refl e

pub set_shelf_names : (new : Shelf) (ss : List Shelf) → shelf_names (set_shelf new ss) ≡ add_name new.name (shelf_names ss)
set_shelf_names new [] = refl
set_shelf_names new (s ∷ ss) = bool_case (bytes_eq new.name s.name) (λ b. shelf_names (if b then new ∷ ss else s ∷ set_shelf new ss) ≡ (if b then new.name ∷ shelf_names ss else s.name ∷ add_name new.name (shelf_names ss)))
    (λ e. refl) (λ e. ap (λ (ys : List (List ℕ)). s.name ∷ ys) (set_shelf_names new ss))

pub dropped_names : (name : List ℕ) (ss : List Shelf) → shelf_names (filter (λ (s : Shelf). not (bytes_eq name s.name)) ss) ≡ filter (λ x. not (bytes_eq name x)) (shelf_names ss)
dropped_names name [] = refl
dropped_names name (s ∷ ss) = bool_case (bytes_eq name s.name)
    (λ b. shelf_names (if not b then s ∷ filter (λ (x : Shelf). not (bytes_eq name x.name)) ss else filter (λ (x : Shelf). not (bytes_eq name x.name)) ss) ≡ (if not b then s.name ∷ filter (λ x. not (bytes_eq name x)) (shelf_names ss) else filter (λ x. not (bytes_eq name x)) (shelf_names ss)))
    (λ e. dropped_names name ss) (λ e. ap (λ (ys : List (List ℕ)). s.name ∷ ys) (dropped_names name ss))

-- Local queues after one object is set or deleted

abbrev pub is_local_at : Option Object → Bool
is_local_at None = false
is_local_at (Some o) = is_local o

abbrev pub is_none_or_local : Option Object → Bool
is_none_or_local None = true
is_none_or_local (Some o) = is_local o

pub aside_names : (o : Object) (os : List Object) → is_local o ≡ false → local_names (o ∷ os) ≡ local_names os
aside_names (objects.Local q) os e = absurd cc
aside_names (objects.Alias q) os e = refl
aside_names (objects.Remote q) os e = refl
aside_names (objects.Channel q) os e = refl
aside_names (objects.Process q) os e = refl

cons_names : (o : Object) (xs ys : List Object) → local_names xs ≡ local_names ys → local_names (o ∷ xs) ≡ local_names (o ∷ ys)
cons_names (objects.Local q) xs ys e = ap (λ (ns : List (List ℕ)). q.name ∷ ns) e
cons_names (objects.Alias q) xs ys e = e
cons_names (objects.Remote q) xs ys e = e
cons_names (objects.Channel q) xs ys e = e
cons_names (objects.Process q) xs ys e = e

pub set_local_names : (q : LocalQueue) (os : List Object) → is_none_or_local (object_in Queues q.name os) ≡ true → local_names (set_in (objects.Local q) os) ≡ add_name q.name (local_names os)
set_local_names q [] e = refl
set_local_names q (objects.Local x ∷ os) e = bool_case (bytes_eq q.name x.name)
    (λ b. is_none_or_local (if b then Some (objects.Local x) else object_in Queues q.name os) ≡ true → local_names (if b then objects.Local q ∷ os else objects.Local x ∷ set_in (objects.Local q) os) ≡ (if b then q.name ∷ local_names os else x.name ∷ add_name q.name (local_names os)))
    (λ z f. refl) (λ z f. ap (λ (ns : List (List ℕ)). x.name ∷ ns) (set_local_names q os f)) e
set_local_names q (objects.Alias x ∷ os) e = bool_case (bytes_eq q.name x.name)
    (λ b. is_none_or_local (if b then Some (objects.Alias x) else object_in Queues q.name os) ≡ true → local_names (if b then objects.Local q ∷ os else objects.Alias x ∷ set_in (objects.Local q) os) ≡ add_name q.name (local_names os))
    (λ z f. absurd cc) (λ z f. set_local_names q os f) e
set_local_names q (objects.Remote x ∷ os) e = bool_case (bytes_eq q.name x.name)
    (λ b. is_none_or_local (if b then Some (objects.Remote x) else object_in Queues q.name os) ≡ true → local_names (if b then objects.Local q ∷ os else objects.Remote x ∷ set_in (objects.Local q) os) ≡ add_name q.name (local_names os))
    (λ z f. absurd cc) (λ z f. set_local_names q os f) e
set_local_names q (objects.Channel x ∷ os) e = set_local_names q os e
set_local_names q (objects.Process x ∷ os) e = set_local_names q os e

pub set_other_names : (new : Object) (os : List Object) → is_local new ≡ false → is_local_at (object_in (space_of new) (name_of new) os) ≡ false → local_names (set_in new os) ≡ local_names os
set_other_names new [] l e = aside_names new [] l
set_other_names new (o ∷ os) l e = bool_case (is_object (space_of new) (name_of new) o)
    (λ b. is_local_at (if b then Some o else object_in (space_of new) (name_of new) os) ≡ false → local_names (if b then new ∷ os else o ∷ set_in new os) ≡ local_names (o ∷ os))
    (λ z f. aside_names new os l ∙ sym (aside_names o os f)) (λ z f. cons_names o (set_in new os) os (set_other_names new os l f)) e

pub delete_other_names : (space : Space) (name : List ℕ) (os : List Object) → is_local_at (object_in space name os) ≡ false → local_names (delete_in space name os) ≡ local_names os
delete_other_names space name [] e = refl
delete_other_names space name (o ∷ os) e = bool_case (is_object space name o)
    (λ b. is_local_at (if b then Some o else object_in space name os) ≡ false → local_names (if b then os else o ∷ delete_in space name os) ≡ local_names (o ∷ os))
    (λ z f. sym (aside_names o os f)) (λ z f. cons_names o (delete_in space name os) os (delete_other_names space name os f)) e

none_dropped : (name own : List ℕ) (os : List Object) → bytes_eq name own ≡ true → ((o : Object) → Mem o os → is_object Queues own o ≡ false) → filter (λ x. not (bytes_eq name x)) (local_names os) ≡ local_names os
none_dropped name own [] e h = refl
none_dropped name own (objects.Local q ∷ os) e h =
    ap (λ (b : Bool). if not b then q.name ∷ filter (λ x. not (bytes_eq name x)) (local_names os) else filter (λ x. not (bytes_eq name x)) (local_names os)) (ap (λ (n : List ℕ). bytes_eq n q.name) (name_is name own e) ∙ h (objects.Local q) (inl refl))
    ∙ ap (λ (ns : List (List ℕ)). q.name ∷ ns) (none_dropped name own os e (λ o m. h o (inr m)))
none_dropped name own (objects.Alias q ∷ os) e h = none_dropped name own os e (λ o m. h o (inr m))
none_dropped name own (objects.Remote q ∷ os) e h = none_dropped name own os e (λ o m. h o (inr m))
none_dropped name own (objects.Channel q ∷ os) e h = none_dropped name own os e (λ o m. h o (inr m))
none_dropped name own (objects.Process q ∷ os) e h = none_dropped name own os e (λ o m. h o (inr m))

pub delete_local_names : (name : List ℕ) (os : List Object) → AreOnce os → is_none_or_local (object_in Queues name os) ≡ true → local_names (delete_in Queues name os) ≡ filter (λ x. not (bytes_eq name x)) (local_names os)
delete_local_names name [] once e = refl
delete_local_names name (objects.Local q ∷ os) once e = bool_case (bytes_eq name q.name)
    (λ b. bytes_eq name q.name ≡ b → is_none_or_local (if b then Some (objects.Local q) else object_in Queues name os) ≡ true → local_names (if b then os else objects.Local q ∷ delete_in Queues name os)
    ≡ (if not b then q.name ∷ filter (λ x. not (bytes_eq name x)) (local_names os) else filter (λ x. not (bytes_eq name x)) (local_names os)))
    (λ z w f. sym (none_dropped name q.name os w once.0)) (λ z w f. ap (λ (ns : List (List ℕ)). q.name ∷ ns) (delete_local_names name os once.1 f)) refl e
delete_local_names name (objects.Alias q ∷ os) once e = bool_case (bytes_eq name q.name)
    (λ b. is_none_or_local (if b then Some (objects.Alias q) else object_in Queues name os) ≡ true → local_names (if b then os else objects.Alias q ∷ delete_in Queues name os) ≡ filter (λ x. not (bytes_eq name x)) (local_names os))
    (λ z f. absurd cc) (λ z f. delete_local_names name os once.1 f) e
delete_local_names name (objects.Remote q ∷ os) once e = bool_case (bytes_eq name q.name)
    (λ b. is_none_or_local (if b then Some (objects.Remote q) else object_in Queues name os) ≡ true → local_names (if b then os else objects.Remote q ∷ delete_in Queues name os) ≡ filter (λ x. not (bytes_eq name x)) (local_names os))
    (λ z f. absurd cc) (λ z f. delete_local_names name os once.1 f) e
delete_local_names name (objects.Channel q ∷ os) once e = delete_local_names name os once.1 e
delete_local_names name (objects.Process q ∷ os) once e = delete_local_names name os once.1 e

-- A local queue and its name

pub name_listed : (name : List ℕ) (os : List Object) → is_some (as_local (object_in Queues name os)) ≡ true → list_any (bytes_eq name) (local_names os) ≡ true
name_listed name [] e = absurd cc
name_listed name (objects.Local q ∷ rest) e = bool_case (bytes_eq name q.name) (λ b. is_some (as_local (if b then Some (objects.Local q) else object_in Queues name rest)) ≡ true → (b || list_any (bytes_eq name) (local_names rest)) ≡ true)
    (λ z f. refl) (λ z f. name_listed name rest f) e
name_listed name (objects.Alias q ∷ rest) e = bool_case (bytes_eq name q.name) (λ b. is_some (as_local (if b then Some (objects.Alias q) else object_in Queues name rest)) ≡ true → list_any (bytes_eq name) (local_names rest) ≡ true)
    (λ z f. absurd cc) (λ z f. name_listed name rest f) e
name_listed name (objects.Remote q ∷ rest) e = bool_case (bytes_eq name q.name) (λ b. is_some (as_local (if b then Some (objects.Remote q) else object_in Queues name rest)) ≡ true → list_any (bytes_eq name) (local_names rest) ≡ true)
    (λ z f. absurd cc) (λ z f. name_listed name rest f) e
name_listed name (objects.Channel q ∷ rest) e = name_listed name rest e
name_listed name (objects.Process q ∷ rest) e = name_listed name rest e

name_mem : (name : List ℕ) (os : List Object) → Mem name (local_names os) → (q : LocalQueue) × Mem (objects.Local q) os × (name ≡ q.name)
name_mem name [] m = absurd m
name_mem name (objects.Local q ∷ rest) (inl e) = (q, inl refl, e)
name_mem name (objects.Local q ∷ rest) (inr m) = let k = name_mem name rest m in (k.0, inr k.1, k.2)
name_mem name (objects.Alias q ∷ rest) m = let k = name_mem name rest m in (k.0, inr k.1, k.2)
name_mem name (objects.Remote q ∷ rest) m = let k = name_mem name rest m in (k.0, inr k.1, k.2)
name_mem name (objects.Channel q ∷ rest) m = let k = name_mem name rest m in (k.0, inr k.1, k.2)
name_mem name (objects.Process q ∷ rest) m = let k = name_mem name rest m in (k.0, inr k.1, k.2)

-- a name of a local queue leads to it
pub local_found : (name : List ℕ) (os : List Object) → AreOnce os → Mem name (local_names os) → is_local_at (object_in Queues name os) ≡ true
local_found name [] once m = absurd m
local_found name (objects.Local q ∷ rest) once m = bool_case (bytes_eq name q.name) (λ b. bytes_eq name q.name ≡ b → is_local_at (if b then Some (objects.Local q) else object_in Queues name rest) ≡ true)
    (λ z w. refl) (λ z w. elim m [ inl e ↦ absurd (cc (w, ap (λ (n : List ℕ). bytes_eq n q.name) e ∙ name_self q.name)) | inr k ↦ local_found name rest once.1 k ]) refl
local_found name (objects.Alias q ∷ rest) once m = bool_case (bytes_eq name q.name) (λ b. bytes_eq name q.name ≡ b → is_local_at (if b then Some (objects.Alias q) else object_in Queues name rest) ≡ true)
    (λ z w. let k = name_mem name rest m in absurd (cc (once.0 (objects.Local k.0) k.1, ap (bytes_eq q.name) (sym k.2) ∙ name_turned q.name name ∙ w))) (λ z w. local_found name rest once.1 m) refl
local_found name (objects.Remote q ∷ rest) once m = bool_case (bytes_eq name q.name) (λ b. bytes_eq name q.name ≡ b → is_local_at (if b then Some (objects.Remote q) else object_in Queues name rest) ≡ true)
    (λ z w. let k = name_mem name rest m in absurd (cc (once.0 (objects.Local k.0) k.1, ap (bytes_eq q.name) (sym k.2) ∙ name_turned q.name name ∙ w))) (λ z w. local_found name rest once.1 m) refl
local_found name (objects.Channel q ∷ rest) once m = local_found name rest once.1 m
local_found name (objects.Process q ∷ rest) once m = local_found name rest once.1 m

names_differ : (os : List Object) → AreOnce os → Chain (λ (a b : List ℕ). bytes_eq a b ≡ false) (local_names os)
names_differ [] once = tt
names_differ (objects.Local q ∷ rest) once = (λ y m. let k = name_mem y rest m in ap (bytes_eq q.name) k.2 ∙ once.0 (objects.Local k.0) k.1, names_differ rest once.1)
names_differ (objects.Alias q ∷ rest) once = names_differ rest once.1
names_differ (objects.Remote q ∷ rest) once = names_differ rest once.1
names_differ (objects.Channel q ∷ rest) once = names_differ rest once.1
names_differ (objects.Process q ∷ rest) once = names_differ rest once.1

shelves_differ : (ss : List Shelf) → Chain (λ (a b : List ℕ). bytes_eq a b ≡ false) (shelf_names ss) → Chain (λ (s t : Shelf). bytes_eq s.name t.name ≡ false) ss
shelves_differ [] h = tt
shelves_differ (s ∷ ss) h = (λ t m. h.0 t.name (mapped_mem (λ (x : Shelf). x.name) t ss m), shelves_differ ss h.1)

pub shelves_named : (os : List Object) (ss : List Shelf) → AreOnce os → shelf_names ss ≡ local_names os → Chain (λ (s t : Shelf). bytes_eq s.name t.name ≡ false) ss
shelves_named os ss once e = shelves_differ ss (subst (Chain (λ (a b : List ℕ). bytes_eq a b ≡ false)) (sym e) (names_differ os once))

-- a shelf is the one of its name
pub shelf_is : (ss : List Shelf) (s : Shelf) → Chain (λ (x y : Shelf). bytes_eq x.name y.name ≡ false) ss → Mem s ss → shelf_in s.name ss ≡ s
shelf_is [] s n m = absurd m
shelf_is (x ∷ xs) s n (inl e) = ap (λ (y : Shelf). if bytes_eq s.name y.name then y else shelf_in s.name xs) (sym e) ∙ ap (λ (b : Bool). if b then s else shelf_in s.name xs) (name_self s.name)
shelf_is (x ∷ xs) s n (inr m) = ap (λ (b : Bool). if b then x else shelf_in s.name xs) (name_turned s.name x.name ∙ n.0 s m) ∙ shelf_is xs s n.1 m
