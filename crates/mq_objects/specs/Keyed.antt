-- Objects by key.
use Rattle.std.specs.Prelude.{List, Option}
use Rattle.mq_objects.specs.declared.object.Object.{Object}
use Rattle.mq_objects.specs.declared.key.ObjectKey.{ObjectKey}
use Rattle.mq_objects.specs.Keys.{key_space, key_name}
use Rattle.mq_objects.specs.Names.{object_in}

-- the first object of that key
abbrev pub object_by : ObjectKey → List Object → Option Object
object_by key objects = object_in (key_space key) (key_name key) objects
