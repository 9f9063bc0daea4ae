-- What objects are looked up by: the name space and the name.
use Rattle.std.specs.Prelude.{◌≡◌, ℕ, Bool, true, ◌&&◌, List, ◌++◌, nat_eq}
use Rattle.std.specs.Cmp.{first_so, second_so, unsigned_Decides}
use Rattle.std.specs.Cmp.Lexicographic.{pointwise, bytes_decides}
use Rattle.std.specs.Ordering.{on, eq_of_both}
use Rattle.std.specs.Hash as fed
use Rattle.mq_objects.specs.declared.object.Object.{Object}
use Rattle.mq_objects.specs.declared.object.Object.TheVariants as objects
use Rattle.mq_objects.specs.declared.command.Subject.{Subject}
use Rattle.mq_objects.specs.declared.command.Subject.TheVariants as subjects
use Rattle.mq_objects.specs.declared.key.NameIn.{NameIn}
use Rattle.mq_objects.specs.declared.key.NameSpace.{NameSpace}
use Rattle.mq_objects.specs.declared.key.NameSpace.TheVariants as code
use Rattle.mq_objects.specs.declared.key.ObjectKey.{ObjectKey}
use Rattle.mq_objects.specs.declared.key.ObjectKey.TheVariants as keys
use Rattle.mq_objects.specs.Names.{Space, Queues, Channels, Processes}

-- the name space and the name of a key
abbrev pub key_space : ObjectKey → Space
key_space (keys.Queue name) = Queues
key_space (keys.Channel name) = Channels
key_space (keys.Process name) = Processes

abbrev pub key_name : ObjectKey → List ℕ
key_name (keys.Queue name) = name
key_name (keys.Channel name) = name
key_name (keys.Process name) = name

-- the key of an object, and of what a command names
abbrev pub key_of : Object → ObjectKey
key_of (objects.Local q) = keys.Queue q.name
key_of (objects.Alias q) = keys.Queue q.name
key_of (objects.Remote q) = keys.Queue q.name
key_of (objects.Channel c) = keys.Channel c.name
key_of (objects.Process p) = keys.Process p.name

abbrev pub subject_key : Subject → ObjectKey
subject_key (subjects.Local name) = keys.Queue name
subject_key (subjects.Alias name) = keys.Queue name
subject_key (subjects.Remote name) = keys.Queue name
subject_key (subjects.Channel name) = keys.Channel name
subject_key (subjects.Process name) = keys.Process name

-- the key of a name in a name space
abbrev pub key_named : Space → List ℕ → ObjectKey
key_named Queues name = keys.Queue name
key_named Channels name = keys.Channel name
key_named Processes name = keys.Process name

-- the name space by number
abbrev pub key_number : ObjectKey → ℕ
key_number (keys.Queue name) = 0
key_number (keys.Channel name) = 1
key_number (keys.Process name) = 2

-- one key
abbrev pub same_key : ObjectKey → ObjectKey → Bool
same_key = eq_of_both (on key_number nat_eq) (on key_name (pointwise nat_eq))

-- what a key feeds to a hasher
abbrev pub key_writes : ObjectKey → List (List ℕ)
key_writes key = fed.u8 (key_number key) ++ fed.slice fed.u8 (key_name key)

-- the number of a name space
abbrev pub space_number : NameSpace → ℕ
space_number code.Queues = 0
space_number code.Channels = 1
space_number code.Processes = 2

-- a name in a name space, beside another one
abbrev pub same_name : NameIn → NameIn → Bool
same_name = eq_of_both (on (λ (n : NameIn). space_number n.space) nat_eq) (on (λ (n : NameIn). n.name.now) (pointwise nat_eq))

-- and beside a key
abbrev pub names : NameIn → ObjectKey → Bool
names n key = nat_eq (space_number n.space) (key_number key) && pointwise nat_eq n.name.now (key_name key)

-- what a name in a name space feeds to a hasher
abbrev pub name_writes : NameIn → List (List ℕ)
name_writes n = fed.u8 (space_number n.space) ++ fed.slice fed.u8 n.name.now

module _ (n : NameIn) (key : ObjectKey) (same : names n key ≡ true) where
  number_is : space_number n.space ≡ key_number key
  number_is = (unsigned_Decides (space_number n.space) (key_number key)).0 (first_so (nat_eq (space_number n.space) (key_number key)) (pointwise nat_eq n.name.now (key_name key)) same)

  text_is : n.name.now ≡ key_name key
  text_is = (bytes_decides n.name.now (key_name key)).0 (second_so (nat_eq (space_number n.space) (key_number key)) (pointwise nat_eq n.name.now (key_name key)) same)

  -- a name is hashed as the key that it stands for
  pub names_writes : name_writes n ≡ key_writes key
  names_writes = λ i. fed.u8 (number_is i) ++ fed.slice fed.u8 (text_is i)

  -- and stands for the keys that are one with it
  pub names_others : (other : ObjectKey) → names n other ≡ same_key key other
  names_others other = λ i. nat_eq (number_is i) (key_number other) && pointwise nat_eq (text_is i) (key_name other)
