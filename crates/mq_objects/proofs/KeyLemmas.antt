-- Keys, and the names that they stand for.
use Rattle.std.proofs.Common.{◌≡◌, ℕ, Bool, true, false, List, refl, ap, ◌∙◌, Bor}
use Rattle.std.specs.Prelude.{nat_eq}
use Rattle.std.specs.Cmp.Lexicographic.{pointwise, bytes_decides}
use Rattle.mq_objects.specs.declared.object.Object.{Object}
use Rattle.mq_objects.specs.declared.object.Object.TheVariants as objects
use Rattle.mq_objects.specs.declared.command.Subject.{Subject}
use Rattle.mq_objects.specs.declared.command.Subject.TheVariants as subjects
use Rattle.mq_objects.specs.declared.key.NameSpace.{NameSpace}
use Rattle.mq_objects.specs.declared.key.NameSpace.TheVariants as code
use Rattle.mq_objects.specs.declared.key.ObjectKey.{ObjectKey}
use Rattle.mq_objects.specs.declared.key.ObjectKey.TheVariants as keys
use Rattle.mq_objects.specs.Names.{Space, Queues, Channels, Processes, space_in, is_object, space_of, name_of, subject_space, subject_name}
use Rattle.mq_objects.specs.Keys.{key_of, key_space, key_name, same_key, subject_key, key_named, names}

same_bytes : (a b : List ℕ) → pointwise nat_eq a b ≡ true → a ≡ b
same_bytes a b e = (bytes_decides a b).0 e

-- two keys that count as the same are one
pub same_key-is : (a b : ObjectKey) → same_key a b ≡ true → a ≡ b
same_key-is (keys.Queue a) (keys.Queue b) e = ap keys.Queue (same_bytes a b e)
same_key-is (keys.Channel a) (keys.Channel b) e = ap keys.Channel (same_bytes a b e)
same_key-is (keys.Process a) (keys.Process b) e = ap keys.Process (same_bytes a b e)
same_key-is (keys.Queue a) (keys.Channel b) e = absurd cc
same_key-is (keys.Queue a) (keys.Process b) e = absurd cc
same_key-is (keys.Channel a) (keys.Queue b) e = absurd cc
same_key-is (keys.Channel a) (keys.Process b) e = absurd cc
same_key-is (keys.Process a) (keys.Queue b) e = absurd cc
same_key-is (keys.Process a) (keys.Channel b) e = absurd cc

-- a key is the same as itself
pub same_key-self : (a : ObjectKey) → same_key a a ≡ true
same_key-self (keys.Queue a) = (bytes_decides a a).1 refl
same_key-self (keys.Channel a) = (bytes_decides a a).1 refl
same_key-self (keys.Process a) = (bytes_decides a a).1 refl

-- both ways alike
pub same_key-swap : (a b : ObjectKey) → same_key a b ≡ same_key b a
same_key-swap a b = by (same_key a b) (same_key b a) refl refl
  where
    by : (x y : Bool) → same_key a b ≡ x → same_key b a ≡ y → x ≡ y
    by true true e f = refl
    by false false e f = refl
    by true false e f = absurd (cc (same_key-is a b e, same_key-self a, f))
    by false true e f = absurd (cc (same_key-is b a f, same_key-self a, e))

-- a key is an object's where name space and name are
pub same_key-is_object : (k : ObjectKey) (o : Object) → same_key k (key_of o) ≡ is_object (key_space k) (key_name k) o
same_key-is_object (keys.Queue n) (objects.Local q) = refl
same_key-is_object (keys.Queue n) (objects.Alias q) = refl
same_key-is_object (keys.Queue n) (objects.Remote q) = refl
same_key-is_object (keys.Queue n) (objects.Channel c) = refl
same_key-is_object (keys.Queue n) (objects.Process p) = refl
same_key-is_object (keys.Channel n) (objects.Local q) = refl
same_key-is_object (keys.Channel n) (objects.Alias q) = refl
same_key-is_object (keys.Channel n) (objects.Remote q) = refl
same_key-is_object (keys.Channel n) (objects.Channel c) = refl
same_key-is_object (keys.Channel n) (objects.Process p) = refl
same_key-is_object (keys.Process n) (objects.Local q) = refl
same_key-is_object (keys.Process n) (objects.Alias q) = refl
same_key-is_object (keys.Process n) (objects.Remote q) = refl
same_key-is_object (keys.Process n) (objects.Channel c) = refl
same_key-is_object (keys.Process n) (objects.Process p) = refl

pub key_space-key_of : (o : Object) → key_space (key_of o) ≡ space_of o
key_space-key_of (objects.Local q) = refl
key_space-key_of (objects.Alias q) = refl
key_space-key_of (objects.Remote q) = refl
key_space-key_of (objects.Channel c) = refl
key_space-key_of (objects.Process p) = refl

pub key_name-key_of : (o : Object) → key_name (key_of o) ≡ name_of o
key_name-key_of (objects.Local q) = refl
key_name-key_of (objects.Alias q) = refl
key_name-key_of (objects.Remote q) = refl
key_name-key_of (objects.Channel c) = refl
key_name-key_of (objects.Process p) = refl

-- an object is the one of another's key where it has that one's name
pub same_key-named : (new o : Object) → same_key (key_of new) (key_of o) ≡ is_object (space_of new) (name_of new) o
same_key-named new o =
    let space = key_space-key_of new in
    let name = key_name-key_of new in
    same_key-is_object (key_of new) o ∙ (λ i. is_object (space i) (name i) o)

-- the key of what a command names
pub subject_key-space : (s : Subject) → key_space (subject_key s) ≡ subject_space s
subject_key-space (subjects.Local n) = refl
subject_key-space (subjects.Alias n) = refl
subject_key-space (subjects.Remote n) = refl
subject_key-space (subjects.Channel n) = refl
subject_key-space (subjects.Process n) = refl

pub subject_key-name : (s : Subject) → key_name (subject_key s) ≡ subject_name s
subject_key-name (subjects.Local n) = refl
subject_key-name (subjects.Alias n) = refl
subject_key-name (subjects.Remote n) = refl
subject_key-name (subjects.Channel n) = refl
subject_key-name (subjects.Process n) = refl

-- a name in a name space finds what its key finds
pub names_key : (space : NameSpace) (name : Bor (List ℕ)) (key : ObjectKey) → names (record { space = space; name = name }) key ≡ same_key (key_named (space_in space) name.now) key
names_key code.Queues name key = refl
names_key code.Channels name key = refl
names_key code.Processes name key = refl

pub key_named-space : (space : Space) (name : List ℕ) → key_space (key_named space name) ≡ space
key_named-space Queues name = refl
key_named-space Channels name = refl
key_named-space Processes name = refl

pub key_named-name : (space : Space) (name : List ℕ) → key_name (key_named space name) ≡ name
key_named-name Queues name = refl
key_named-name Channels name = refl
key_named-name Processes name = refl
