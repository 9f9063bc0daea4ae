-- Turns of the dead-letter handler.
use Rattle.std.specs.Prelude.{ℕ, ◌+◌, ◌*◌, nat_le, Bool, true, false, not, ◌&&◌, List, [], ◌∷◌, ◌++◌, if◌then◌else◌, Option, Some, None, find, filter, slice_get, codes}
use Rattle.std.specs.Str.{bytes_eq}
use Rattle.mq_spec_node.specs.Terms.{Reason, Ident, Dest, Message, Dlh, dlh_in, Row, same_ident, is_free, LocalQueue, local_of, is_transmission, Table, Rule, Action, Forward, decision, target_name, Plain, stored, Step, Refuse, Do, is_dead, move_row, discard}
use Rattle.mq_history.specs.declared.calls.Reply.TheVariants as replies
use Rattle.mq_history.specs.from_rules.ActionVariants as actions
use Rattle.mq_history.specs.from_rules.TargetVariants as targets
use Rattle.mq_spec_node.specs.Node.{Node, Own, Handler, Tried, with_handler}
use Rattle.mq_spec_node.specs.Deeds.{Deed, told, parts_of}

-- The input queue: INPUTQ, or the dead-letter queue where that is blank. It is to be a get-enabled local queue of
-- USAGE(NORMAL).
abbrev pub input_queue : Table → Plain → List ℕ
input_queue t p = elim t.input_q as (λ q. List ℕ) [ [] ↦ p.definitions.manager.dead_letter_queue | b ∷ bs ↦ b ∷ bs ]

abbrev pub is_readable : Option LocalQueue → Bool
is_readable None = false
is_readable (Some q) = q.get_enabled && not (is_transmission q.usage)

-- What a handler knows of a row: its tries, if any.
abbrev pub is_tried : List ℕ → Ident → Tried → Bool
is_tried queue ident t = bytes_eq queue t.queue && same_ident ident t.ident

abbrev pub tries_of : List ℕ → Ident → Handler → Option Tried
tries_of queue ident h = find (is_tried queue ident) h.tried

-- not ignored, and the next try is due
abbrev pub is_due : ℕ → Option Tried → Bool
is_due moment None = true
is_due moment (Some t) = not t.ignored && nat_le t.due moment

-- a free dead letter whose next try is due
abbrev pub is_letter : Row → Bool
is_letter row = is_free row && bytes_eq row.message.md.format (codes "MQDEAD  ") && is_dead row.message.body

abbrev pub is_handled : List ℕ → Handler → Plain → Row → Bool
is_handled queue h p row = is_letter row && is_due p.moment (tries_of queue row.message.ident h)

abbrev pub next_letter : List ℕ → Handler → Plain → Option Row
next_letter queue h p = find (is_handled queue h p) (stored queue p).rows

-- The rule in force: the first that matches, of all or from a number on.
abbrev pub head_of : Message → Dlh
head_of m = dlh_in m.body

abbrev pub matching : Table → Message → ℕ → Option ℕ
matching t m from = decision t.rules m.md (head_of m) from

abbrev pub rule_in_force : Table → Message → Option Tried → Option ℕ
rule_in_force t m None = matching t m 0
rule_in_force t m (Some tried) = matching t m tried.from

abbrev pub failed_of : Option Tried → ℕ
failed_of None = 0
failed_of (Some t) = t.failed

-- what the handler knows of a row after a try
abbrev pub tried_as : Tried → Handler → Handler
tried_as new h = record h { tried = filter (λ (t : Tried). not (is_tried new.queue new.ident t)) h.tried ++ new ∷ [] }

abbrev pub tried_deed : Handler → Own → Deed
tried_deed h own = told replies.Tried (with_handler h own)

-- IGNORE, or no rule left: the row is ignored by this handler from now on.
abbrev pub ignored : List ℕ → Ident → Handler → Own → Deed
ignored queue ident h own = tried_deed (tried_as (record { queue = queue; ident = ident; ignored = true; from = 0; failed = 0; due = 0 }) h) own

-- After a failed try the next one is due RETRYINT seconds later; after so many the next matching rule is in force at once,
-- for the next turn, which ignores the row where there is none.
abbrev pub try_later : List ℕ → Ident → ℕ → ℕ → Rule → Handler → Plain → Tried
try_later queue ident k n rule h p =
    if nat_le rule.retries n then record { queue = queue; ident = ident; ignored = false; from = k + 1; failed = 0; due = 0 }
    else record { queue = queue; ident = ident; ignored = false; from = k; failed = n; due = p.moment + 1000 * h.table.retry_interval }

abbrev pub failed : List ℕ → Message → ℕ → Rule → ℕ → Handler → Plain → Own → Deed
failed queue m k rule n h p own = tried_deed (tried_as (try_later queue m.ident k n rule h p) h) own

abbrev pub moved : List ℕ → Message → ℕ → Rule → ℕ → Handler → Plain → Own → Step Reason (Unit {0}) → Deed
moved queue m k rule n h p own (Refuse reason) = failed queue m k rule (n + 1) h p own
moved queue m k rule n h p own (Do reply parts) = record (told replies.Tried own) { parts = parts }

-- where a rule sends a dead letter
abbrev pub forward_to : Message → Forward → Dest
forward_to m f = record { queue = target_name m.md (head_of m) f.queue; qmgr = target_name m.md (head_of m) f.qmgr }

abbrev pub retry_to : Message → Dest
retry_to m = record { queue = target_name m.md (head_of m) targets.DestQueue; qmgr = target_name m.md (head_of m) targets.DestQueueManager }

abbrev pub acted : List ℕ → Message → ℕ → Rule → Action → ℕ → Handler → Plain → Own → Deed
acted queue m k rule actions.Discard n h p own = record (told replies.Tried own) { parts = parts_of (discard queue m.ident p) }
acted queue m k rule actions.Ignore n h p own = ignored queue m.ident h own
acted queue m k rule actions.Retry n h p own = moved queue m k rule n h p own (move_row queue m.ident (retry_to m) true p)
acted queue m k rule (actions.Forward f) n h p own = moved queue m k rule n h p own (move_row queue m.ident (forward_to m f) (not f.header) p)

abbrev pub ruled : List ℕ → Message → ℕ → Option Rule → ℕ → Handler → Plain → Own → Deed
ruled queue m k None n h p own = ignored queue m.ident h own
ruled queue m k (Some rule) n h p own = acted queue m k rule rule.action n h p own

abbrev pub in_force : List ℕ → Message → Option ℕ → ℕ → Handler → Plain → Own → Deed
in_force queue m None n h p own = ignored queue m.ident h own
in_force queue m (Some k) n h p own = ruled queue m k (slice_get h.table.rules k) n h p own

-- the turn of a dead letter, of the next one that is handled
abbrev pub letter_deed : List ℕ → Message → Option Tried → Handler → Plain → Own → Deed
letter_deed queue m t h p own = in_force queue m (rule_in_force h.table m t) (failed_of t) h p own

abbrev pub handler_row : List ℕ → Handler → Option Row → Node → Option Deed
handler_row queue h None n = None
handler_row queue h (Some row) n = Some (letter_deed queue row.message (tries_of queue row.message.ident h) h n.manager n.own)

abbrev pub handler_on : Bool → List ℕ → Handler → Node → Option Deed
handler_on false queue h n = None
handler_on true queue h n = handler_row queue h (next_letter queue h n.manager) n

-- A turn; none where the handler is idle.
abbrev pub handler_deed : Handler → Node → Option Deed
handler_deed h n = handler_on (is_readable (local_of (input_queue h.table n.manager) n.manager.definitions)) (input_queue h.table n.manager) h n
