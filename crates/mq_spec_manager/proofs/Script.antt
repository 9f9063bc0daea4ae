-- Calls of a script, and what its report would show, for worked rows.
use Rattle.std.specs.Prelude.{ℕ, ℤ, pos, negsuc, Bool, true, false, List, [], ◌∷◌, None, map, replicate, codes}
use Rattle.mq_sc_apply.specs.from_calls.Words.{Reason, Ident, Md, Object, LocalQueue, Definitions, Plain, stored, Step, next, Refuse, Do, Row, locals_of}
use Rattle.mq_sc_apply.specs.from_calls.{Answer, Appl, Get, GetAnswer, Got, Hconn, Hobj, Image, Open, Sent, Shelf, Take}
use Rattle.mq_sc_apply.specs.from_codes.Numbers.{number}
use Rattle.mq_sc_apply.specs.from_objects.Defaults.{nothing_defined}
use Rattle.mq_sc_apply.specs.from_objects.{Setting}
use Rattle.mq_sc_apply.specs.from_objects.SubjectVariants as subjects
use Rattle.mq_sc_apply.specs.from_objects.CommandVariants as commands
use Rattle.mq_sc_apply.specs.from_calls.InputVariants as inputs
use Rattle.mq_sc_apply.specs.from_calls.AnswerVariants as answers
use Rattle.mq_sc_apply.specs.from_calls.GetAnswerVariants as get_answers
use Rattle.mq_spec_manager.specs.Stops.{first_start}
use Rattle.mq_spec_manager.specs.Handles.{mqconn, mqopen}
use Rattle.mq_spec_manager.specs.Commands.{command, defined_object}

-- a manager at its first start
abbrev pub empty_shelf : LocalQueue → Shelf
empty_shelf q = record { name = q.name; rows = [] }

abbrev pub image_of : Definitions → Image
image_of d = record { definitions = d; shelves = map empty_shelf (locals_of d); senders = []; receivers = []; incarnation = 0 }

abbrev pub starting : ℕ → List ℕ → ℕ → Definitions → ℕ → Plain
starting number name max d moment = first_start (record { number = number; name = name; log_max = max }) (image_of d) 1 moment

abbrev pub london : ℕ → Plain
london max = starting 1 (codes "LONDON") max nothing_defined 0

-- the same with these objects, which its log had
abbrev pub london_with : ℕ → List Object → Plain
london_with max given = starting 1 (codes "LONDON") max (record nothing_defined { objects = given }) 0

abbrev pub local : List ℕ → List Setting → Object
local name given = defined_object (subjects.Local name) given

abbrev pub define_local : List ℕ → List Setting → Plain → Plain
define_local name given p = next (command (commands.Define (record { subject = subjects.Local name; replace = false; settings = given })) p) p

abbrev pub define_remote : List ℕ → List Setting → Plain → Plain
define_remote name given p = next (command (commands.Define (record { subject = subjects.Remote name; replace = false; settings = given })) p) p

abbrev pub define_alias : List ℕ → List Setting → Plain → Plain
define_alias name given p = next (command (commands.Define (record { subject = subjects.Alias name; replace = false; settings = given })) p) p

abbrev pub alter_qmgr : List Setting → Plain → Plain
alter_qmgr given p = next (command (commands.AlterManager (record { force = false; settings = given })) p) p

abbrev pub script_appl : Appl
script_appl = record { name = replicate 28 32; user = replicate 12 32 }

abbrev pub connect : Plain → Plain
connect p = next (mqconn [] script_appl p) p

abbrev pub connection : ℕ → Hconn
connection n = record { manager = 1; incarnation = 1; number = n }

abbrev pub handle : ℕ → Hobj
handle n = record { number = n }

abbrev pub shared_output : Open
shared_output = record { input = inputs.Shared; browse = false; output = true }

abbrev pub all_ways : Open
all_ways = record { input = inputs.Shared; browse = true; output = true }

abbrev pub open_at : ℕ → List ℕ → Open → Plain → Plain
open_at n name how p = next (mqopen (connection n) name [] how p) p

-- a script's descriptor
abbrev pub script_md : ℤ → ℤ → Md
script_md priority persistence = record {
  report = pos 0;
  msg_type = pos 8;
  expiry = negsuc 0;
  feedback = pos 0;
  encoding = pos 273;
  coded_char_set_id = pos 1208;
  format = codes "MQSTR   ";
  priority = priority;
  persistence = persistence;
  msg_id = replicate 24 0;
  correl_id = replicate 24 0;
  backout_count = pos 0;
  reply_to_q = replicate 48 32;
  reply_to_q_mgr = replicate 48 32;
  user_identifier = replicate 12 32;
  accounting_token = replicate 32 0;
  appl_identity_data = replicate 32 32;
  put_appl_type = pos 0;
  put_appl_name = replicate 28 32;
  put_date = replicate 8 32;
  put_time = replicate 8 32;
  appl_origin_data = replicate 4 32;
}

abbrev pub plain_md : Md
plain_md = script_md (negsuc 0) (pos 2)

abbrev pub persistent_md : Md
persistent_md = script_md (negsuc 0) (pos 1)

abbrev pub get_of : Take → Bool → ℕ → Bool → Get
get_of t sync room truncate = record { sync = sync; take = t; want = record { msg_id = None; correl_id = None }; room = room; truncate = truncate }

abbrev pub whole_get : Take → Bool → Get
whole_get t sync = get_of t sync 4194304 false

-- completion code, reason, and the ident of a message
abbrev pub ident_numbers : Ident → List ℕ
ident_numbers i = i.manager ∷ i.incarnation ∷ i.number ∷ []

abbrev pub sent_line : Answer Sent → List ℕ
sent_line (answers.Ok s) = 0 ∷ 0 ∷ ident_numbers s.ident
sent_line (answers.Warning reason s) = 1 ∷ number reason ∷ ident_numbers s.ident
sent_line (answers.Failed reason) = 2 ∷ number reason ∷ []

abbrev pub put_line : Step Reason (Answer Sent) → List ℕ
put_line (Refuse reason) = 2 ∷ number reason ∷ []
put_line (Do reply parts) = sent_line reply

abbrev pub got_line : Answer Got → List ℕ
got_line (answers.Ok g) = 0 ∷ 0 ∷ ident_numbers g.ident
got_line (answers.Warning reason g) = 1 ∷ number reason ∷ ident_numbers g.ident
got_line (answers.Failed reason) = 2 ∷ number reason ∷ []

abbrev pub got_any_line : GetAnswer → List ℕ
got_any_line get_answers.NotYet = []
got_any_line (get_answers.Done answer) = got_line answer

abbrev pub get_line : Step Reason GetAnswer → List ℕ
get_line (Refuse reason) = 2 ∷ number reason ∷ []
get_line (Do reply parts) = got_any_line reply

abbrev pub plain_line : {T : Type 0} → Answer T → List ℕ
plain_line (answers.Ok value) = 0 ∷ 0 ∷ []
plain_line (answers.Warning reason value) = 1 ∷ number reason ∷ []
plain_line (answers.Failed reason) = 2 ∷ number reason ∷ []

abbrev pub line : {T : Type 0} → Step Reason (Answer T) → List ℕ
line (Refuse reason) = 2 ∷ number reason ∷ []
line (Do reply parts) = plain_line reply

-- a row as its ident's number, its priority's lane, its backout count, and whether it is free
abbrev pub row_line : Row → List ℕ
row_line row = ident_numbers row.message.ident

abbrev pub rows_line : List ℕ → Plain → List (List ℕ)
rows_line name p = map row_line (stored name p).rows

abbrev pub backouts : List ℕ → Plain → List ℤ
backouts name p = map (λ (row : Row). row.message.md.backout_count) (stored name p).rows
