-- A message descriptor as the manual lays it out (IBM MQ reference, MQMD, version 1), and the id that a manager makes.
use Rattle.std.specs.Prelude.{ℕ, pos, ◌+◌, nat_lt, not, Bool, true, false, List, [], ◌∷◌, length, replicate, codes, if◌then◌else◌, Option, Some, None, Result, Ok, Err}
use Rattle.std.specs.Ordering.{int_eq}
use Rattle.std.specs.Str.{bytes_eq}
use Rattle.mq_message.specs.declared.message.Ident.{Ident}
use Rattle.mq_message.specs.declared.message.Md.{Md}
use Rattle.mq_message.specs.declared.head.HeadFault.{HeadFault}
use Rattle.mq_message.specs.declared.head.HeadFault.TheVariants.{Short, BadId, BadVersion}
use Rattle.mq_message.specs.Layout.{Kind, Long, Unsigned, Characters, Raw, Field, Values, written, values_in, part, long_of}

-- a row of the table
abbrev pub field : List ℕ → ℕ → ℕ → Kind → Field
field name offset width kind = record { name = name; offset = offset; width = width; kind = kind }

-- the descriptor, field by field
abbrev pub md_fields : List Field
md_fields =
    field (codes "StrucId") 0 4 Characters ∷
    field (codes "Version") 4 4 Long ∷
    field (codes "Report") 8 4 Long ∷
    field (codes "MsgType") 12 4 Long ∷
    field (codes "Expiry") 16 4 Long ∷
    field (codes "Feedback") 20 4 Long ∷
    field (codes "Encoding") 24 4 Long ∷
    field (codes "CodedCharSetId") 28 4 Long ∷
    field (codes "Format") 32 8 Characters ∷
    field (codes "Priority") 40 4 Long ∷
    field (codes "Persistence") 44 4 Long ∷
    field (codes "MsgId") 48 24 Raw ∷
    field (codes "CorrelId") 72 24 Raw ∷
    field (codes "BackoutCount") 96 4 Long ∷
    field (codes "ReplyToQ") 100 48 Characters ∷
    field (codes "ReplyToQMgr") 148 48 Characters ∷
    field (codes "UserIdentifier") 196 12 Characters ∷
    field (codes "AccountingToken") 208 32 Raw ∷
    field (codes "ApplIdentityData") 240 32 Characters ∷
    field (codes "PutApplType") 272 4 Long ∷
    field (codes "PutApplName") 276 28 Characters ∷
    field (codes "PutDate") 304 8 Characters ∷
    field (codes "PutTime") 312 8 Characters ∷
    field (codes "ApplOriginData") 320 4 Characters ∷
    []

-- what stands in them
abbrev pub md_values : Md → Values md_fields
md_values m =
    (codes "MD  ", (pos 1, (m.report, (m.msg_type, (m.expiry, (m.feedback, (m.encoding, (m.coded_char_set_id, (m.format, (m.priority, (m.persistence, (m.msg_id, (m.correl_id, (m.backout_count, (m.reply_to_q, (m.reply_to_q_mgr, (m.user_identifier, (m.accounting_token, (m.appl_identity_data, (m.put_appl_type, (m.put_appl_name, (m.put_date, (m.put_time, (m.appl_origin_data, tt))))))))))))))))))))))))

-- the descriptor with those values
abbrev pub md_with : Values md_fields → Md
md_with (id, (version, (report, (msg_type, (expiry, (feedback, (encoding, (coded_char_set_id, (format, (priority, (persistence, (msg_id, (correl_id, (backout_count, (reply_to_q, (reply_to_q_mgr, (user_identifier, (accounting_token, (appl_identity_data, (put_appl_type, (put_appl_name, (put_date, (put_time, (appl_origin_data, rest)))))))))))))))))))))))) = record {
  report = report;
  msg_type = msg_type;
  expiry = expiry;
  feedback = feedback;
  encoding = encoding;
  coded_char_set_id = coded_char_set_id;
  format = format;
  priority = priority;
  persistence = persistence;
  msg_id = msg_id;
  correl_id = correl_id;
  backout_count = backout_count;
  reply_to_q = reply_to_q;
  reply_to_q_mgr = reply_to_q_mgr;
  user_identifier = user_identifier;
  accounting_token = accounting_token;
  appl_identity_data = appl_identity_data;
  put_appl_type = put_appl_type;
  put_appl_name = put_appl_name;
  put_date = put_date;
  put_time = put_time;
  appl_origin_data = appl_origin_data;
}

-- its 324 bytes
unfoldable pub md_bytes : Md → List ℕ
md_bytes m = written md_fields (md_values m)

-- the descriptor whose values stand in the bytes
unfoldable pub md_in : List ℕ → Md
md_in bytes = md_with (values_in md_fields bytes)

-- a structure begins at a place with this id and version 1; else the first fault
abbrev pub id_fault : List ℕ → ℕ → List ℕ → Option HeadFault
id_fault id place bytes =
    if not (bytes_eq (part place 4 bytes) id) then Some BadId else (if int_eq (long_of (part (place + 4) 4 bytes)) (pos 1) then None else Some BadVersion)

-- too few bytes come first
abbrev pub or_short : Bool → Option HeadFault → Option HeadFault
or_short true fault = Some Short
or_short false fault = fault

-- what stands in the way of reading a structure of that size, the first of short, id, version
abbrev pub head_fault : ℕ → List ℕ → List ℕ → Option HeadFault
head_fault size id bytes = or_short (nat_lt (length bytes) size) (id_fault id 0 bytes)

-- the value, where there is no fault
abbrev pub unless : {T : Type 0} → Option HeadFault → T → Result T HeadFault
unless None value = Ok value
unless (Some fault) value = Err fault

-- what the first 324 bytes are read as
unfoldable pub md_read : List ℕ → Result Md HeadFault
md_read bytes = unless (head_fault 324 (codes "MD  ") bytes) (md_in bytes)

-- the id that a manager makes: MQNI, three zero bytes, and the ident
abbrev pub made_id_fields : List Field
made_id_fields =
    field (codes "Product") 0 4 Characters ∷
    field (codes "Zeros") 4 3 Raw ∷
    field (codes "Manager") 7 1 Unsigned ∷
    field (codes "Incarnation") 8 8 Unsigned ∷
    field (codes "Number") 16 8 Unsigned ∷
    []

-- its 24 bytes
unfoldable pub made_id : Ident → List ℕ
made_id i = written made_id_fields (codes "MQNI", (replicate 3 0, (i.manager, (i.incarnation, (i.number, tt)))))
