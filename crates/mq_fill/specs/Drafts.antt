-- A message that is put, before its body is there.
use Rattle.std.specs.Prelude.{ℕ, List}
use Rattle.mq_spec_manager.specs.from_calls.Words.{Message}
use Rattle.mq_fill.specs.declared.descriptor.Draft.{Draft}

-- the message, with this body
abbrev pub message_of : Draft → List ℕ → Message
message_of d body = record { ident = d.ident; md = d.md; route = d.route; deadline = d.deadline; body = body }
