-- Options of opens, puts and gets.
use Rattle.std.specs.Prelude.{ℕ, ℤ, pos, negsuc, List, [], ◌∷◌, replicate, codes, if◌then◌else◌, Option, Some, None, Result, Ok, Err}
use Rattle.mq_calls.specs.declared.answers.Input.{Input}
use Rattle.mq_calls.specs.declared.answers.Input.TheVariants as inputs
use Rattle.mq_calls.specs.declared.answers.Open.{Open}
use Rattle.mq_calls.specs.declared.answers.Take.{Take}
use Rattle.mq_calls.specs.declared.answers.Take.TheVariants as takes
use Rattle.mq_message.specs.declared.place.Want.{Want}
use Rattle.mq_history.specs.declared.scripts.PutOptions.{PutOptions}
use Rattle.mq_history.specs.declared.scripts.GetOptions.{GetOptions}
use Rattle.mq_scn_lines.specs.declared.fault.Limit.TheVariants as limits
use Rattle.mq_scn_lines.specs.declared.fault.LineFault.{LineFault}
use Rattle.mq_scn_lines.specs.declared.fault.LineFault.TheVariants as faults
use Rattle.mq_scn_lines.specs.declared.options.LineOption.{LineOption}
use Rattle.mq_scn_lines.specs.declared.options.LineOption.TheVariants as options
use Rattle.mq_scn_lines.specs.Faults.{both}
use Rattle.mq_scn_lines.specs.Numbers.{ranged, signed_number}
use Rattle.mq_scn_lines.specs.Operands.{name_or_blank_in}
use Rattle.mq_scn_lines.specs.Options.{are_options, says, value_of}
use Rattle.mq_scn_lines.specs.Texts.{field_in}
use Rattle.mq_scn_script.specs.declared.options.PutNames.{PutNames}
use Rattle.mq_scn_script.specs.declared.options.PutNumbers.{PutNumbers}
use Rattle.mq_scn_script.specs.declared.options.PutTexts.{PutTexts}

-- the options of an open, a put and a get
abbrev pub for_open : List LineOption
for_open = options.Shared ∷ options.Exclusive ∷ options.Browse ∷ options.Output ∷ []

abbrev pub for_put : List LineOption
for_put = options.Sync ∷ options.Priority ∷ options.Persist ∷ options.NoPersist ∷ options.Expiry ∷ options.MsgId ∷ options.Correl ∷ options.MsgType ∷ options.ReplyQ ∷ options.ReplyQMgr ∷ options.Format ∷ options.Feedback ∷ options.IdentityData ∷ []

abbrev pub for_get : List LineOption
for_get = options.Sync ∷ options.First ∷ options.Next ∷ options.Cursor ∷ options.Under ∷ options.MsgId ∷ options.Correl ∷ options.Room ∷ options.Truncate ∷ options.Wait ∷ []

-- OPEN: SHARED or EXCLUSIVE, BROWSE, OUTPUT
abbrev pub input_of : List (List ℕ) → Input
input_of words = if says options.Shared words then inputs.Shared else if says options.Exclusive words then inputs.Exclusive else inputs.No

abbrev pub open_options : List (List ℕ) → Result Open LineFault
open_options words = if are_options for_open words then Ok (record { input = input_of words; browse = says options.Browse words; output = says options.Output words }) else Err faults.Form

-- a number that stands for none where the words give none
abbrev pub number_or : ℤ → Option (List ℕ) → Result ℤ LineFault
number_or default None = Ok default
number_or default (Some text) = signed_number text

abbrev pub number_option : LineOption → ℤ → List (List ℕ) → Result ℤ LineFault
number_option option default words = number_or default (value_of option words)

-- a name, or the blank one where the words give none
abbrev pub name_or_none : Option (List ℕ) → Result (List ℕ) LineFault
name_or_none None = Ok []
name_or_none (Some text) = name_or_blank_in text

abbrev pub name_option : LineOption → List (List ℕ) → Result (List ℕ) LineFault
name_option option words = name_or_none (value_of option words)

abbrev pub with_names : Result (List ℕ × List ℕ) LineFault → Result PutNames LineFault
with_names (Ok p) = Ok (record { reply_to_q = p.0; reply_to_q_mgr = p.1 })
with_names (Err fault) = Err fault

abbrev pub put_names : List (List ℕ) → Result PutNames LineFault
put_names words = with_names (both (name_option options.ReplyQ words) (name_option options.ReplyQMgr words))

abbrev pub with_numbers : Result ((ℤ × ℤ) × (ℤ × ℤ)) LineFault → Result PutNumbers LineFault
with_numbers (Ok p) = Ok (record { priority = p.0.0; expiry = p.0.1; msg_type = p.1.0; feedback = p.1.1 })
with_numbers (Err fault) = Err fault

-- PRTY(-1), EXPIRY(-1), MSGTYPE(8) and FEEDBACK(0) stand for none
abbrev pub put_numbers : List (List ℕ) → Result PutNumbers LineFault
put_numbers words =
    with_numbers (both (both (number_option options.Priority (negsuc 0) words) (number_option options.Expiry (negsuc 0) words)) (both (number_option options.MsgType (pos 8) words) (number_option options.Feedback (pos 0) words)))

abbrev pub some_field : Result (List ℕ) LineFault → Result (Option (List ℕ)) LineFault
some_field (Ok field) = Ok (Some field)
some_field (Err fault) = Err fault

abbrev pub field_or_none : ℕ → ℕ → Option (List ℕ) → Result (Option (List ℕ)) LineFault
field_or_none width pad None = Ok None
field_or_none width pad (Some text) = some_field (field_in width pad text)

-- a field that a text in quotes fills, where the words give one
abbrev pub field_option : ℕ → LineOption → ℕ → List (List ℕ) → Result (Option (List ℕ)) LineFault
field_option width option pad words = field_or_none width pad (value_of option words)

abbrev pub and_then : {A B : Type 0} → Result A LineFault → (A → Result B LineFault) → Result B LineFault
and_then (Ok x) next = next x
and_then (Err fault) next = Err fault

-- MSGID and CORREL have zero bytes behind their text, FORMAT and IDDATA blanks
abbrev pub put_texts : List (List ℕ) → Result PutTexts LineFault
put_texts words =
    and_then (field_option 24 options.MsgId 0 words) (λ msg_id.
    and_then (field_option 24 options.Correl 0 words) (λ correl_id.
    and_then (field_option 8 options.Format 32 words) (λ format.
    and_then (field_option 32 options.IdentityData 32 words) (λ identity. Ok (record { msg_id = msg_id; correl_id = correl_id; format = format; appl_identity_data = identity })))))

-- PERSIST is 1, NOPERSIST 0, and neither 2
abbrev pub persistence_of : List (List ℕ) → ℤ
persistence_of words = if says options.Persist words then pos 1 else if says options.NoPersist words then pos 0 else pos 2

abbrev pub field_or : Option (List ℕ) → List ℕ → List ℕ
field_or None default = default
field_or (Some field) default = field

abbrev pub put_with : List (List ℕ) → PutTexts → PutNames → PutNumbers → PutOptions
put_with words texts names numbers = record {
  sync = says options.Sync words;
  priority = numbers.priority;
  persistence = persistence_of words;
  expiry = numbers.expiry;
  msg_id = field_or texts.msg_id (replicate 24 0);
  correl_id = texts.correl_id;
  msg_type = numbers.msg_type;
  reply_to_q = names.reply_to_q;
  reply_to_q_mgr = names.reply_to_q_mgr;
  format = field_or texts.format (codes "MQSTR   ");
  feedback = numbers.feedback;
  appl_identity_data = field_or texts.appl_identity_data (replicate 32 32);
}

abbrev pub put_from : List (List ℕ) → PutTexts → Result (PutNames × PutNumbers) LineFault → Result PutOptions LineFault
put_from words texts (Ok p) = Ok (put_with words texts p.0 p.1)
put_from words texts (Err fault) = Err fault

-- the options of a put: what they say, or the default that stands for none
unfoldable pub put_options : List (List ℕ) → Result PutOptions LineFault
put_options words = if are_options for_put words then and_then (put_texts words) (λ texts. put_from words texts (both (put_names words) (put_numbers words))) else Err faults.Form

-- FIRST, NEXT and CURSOR browse; UNDER takes what is under the cursor
abbrev pub take_of : List (List ℕ) → Take
take_of words =
    if says options.First words then takes.BrowseFirst
    else if says options.Next words then takes.BrowseNext
    else if says options.Cursor words then takes.BrowseUnder
    else if says options.Under words then takes.UnderCursor
    else takes.Next

abbrev pub room_in : Option (List ℕ) → Result ℕ LineFault
room_in None = Ok 4194304
room_in (Some text) = ranged faults.Number 0 2147483647 text

abbrev pub room_of : List (List ℕ) → Result ℕ LineFault
room_of words = room_in (value_of options.Room words)

abbrev pub some_number : Result ℕ LineFault → Result (Option ℕ) LineFault
some_number (Ok n) = Ok (Some n)
some_number (Err fault) = Err fault

abbrev pub wait_in : Option (List ℕ) → Result (Option ℕ) LineFault
wait_in None = Ok None
wait_in (Some text) = some_number (ranged (faults.Limit limits.Clock) 0 999999999 text)

abbrev pub wait_of : List (List ℕ) → Result (Option ℕ) LineFault
wait_of words = wait_in (value_of options.Wait words)

-- the message that a get wants, by MSGID and CORREL
abbrev pub want_of : List (List ℕ) → Result Want LineFault
want_of words =
    and_then (field_option 24 options.MsgId 0 words) (λ msg_id.
    and_then (field_option 24 options.Correl 0 words) (λ correl_id. Ok (record { msg_id = msg_id; correl_id = correl_id })))

abbrev pub get_from : List (List ℕ) → Want → Result (ℕ × Option ℕ) LineFault → Result GetOptions LineFault
get_from words want (Ok p) = Ok (record { sync = says options.Sync words; take = take_of words; want = want; room = p.0; truncate = says options.Truncate words; wait = p.1 })
get_from words want (Err fault) = Err fault

-- the options of a get: what they say, or the default that stands for none
unfoldable pub get_options : List (List ℕ) → Result GetOptions LineFault
get_options words = if are_options for_get words then and_then (want_of words) (λ want. get_from words want (both (room_of words) (wait_of words))) else Err faults.Form
