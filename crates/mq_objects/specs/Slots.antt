-- Objects in slots, in order of definition: a slot is empty where its object was deleted.
use Rattle.std.specs.Prelude.{◌≡◌, ℕ, suc, Bool, false, List, [], ◌∷◌, Option, Some, None, length, if◌then◌else◌, option_map}
use Rattle.mq_objects.specs.declared.object.Object.{Object}
use Rattle.mq_objects.specs.declared.key.ObjectKey.{ObjectKey}
use Rattle.mq_objects.specs.Keys.{key_of, same_key}

-- the objects that stand there
abbrev pub present : List (Option Object) → List Object
present [] = []
present (None ∷ slots) = present slots
present (Some object ∷ slots) = object ∷ present slots

-- the slot holds the object of that key
abbrev pub holds : ObjectKey → Option Object → Bool
holds key None = false
holds key (Some object) = same_key key (key_of object)

-- the place of the first slot that does
abbrev pub place_of : ObjectKey → List (Option Object) → Option ℕ
place_of key [] = None
place_of key (slot ∷ slots) = if holds key slot then Some 0 else option_map suc (place_of key slots)

-- no two slots hold an object of one key
abbrev pub AreDistinct : List (Option Object) → Type 0
AreDistinct [] = Unit {0}
AreDistinct (None ∷ slots) = AreDistinct slots
AreDistinct (Some object ∷ slots) = (place_of (key_of object) slots ≡ None) × AreDistinct slots

-- Each object is found at its slot, and there are as many to be found as stand there.
pub record IsFiled (slots : List (Option Object)) (find : ObjectKey → Option ℕ) (count : ℕ) : Type 0 where
  pub found : (key : ObjectKey) → find key ≡ place_of key slots
  pub distinct : AreDistinct slots
  pub counted : count ≡ length (present slots)
