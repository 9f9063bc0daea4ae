-- The queue whose trigger is served next.
use Rattle.std.specs.Prelude.{ℕ, Bool, true, false, List, Option, Some, None}
use Rattle.mq_calls.specs.Words.{LocalQueue, Plain, is_up, locals_of}
use Rattle.mq_spec_manager.specs.Triggers.{first_due}

-- by its name
abbrev pub name_if : Option LocalQueue → Option (List ℕ)
name_if None = None
name_if (Some q) = Some q.name

-- the first, in order of definition, with one due; none at a manager that is down
abbrev pub due_where : Bool → Plain → Option (List ℕ)
due_where true p = name_if (first_due (locals_of p.definitions) p)
due_where false p = None

abbrev pub next_due : Plain → Option (List ℕ)
next_due p = due_where (is_up p.running) p
