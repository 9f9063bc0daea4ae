-- The headers of bodies as the manual lays them out, each a table of fields.
use Rattle.std.specs.Prelude.{ℕ, pos, List, [], ◌∷◌, codes, Option, Some, None, Result}
use Rattle.mq_message.specs.declared.head.HeadFault.{HeadFault}
use Rattle.mq_message.specs.Layout.{Long, Characters, Raw, Field, Values, part, written, values_in}
use Rattle.mq_message.specs.Descriptor.{field, md_bytes, md_in, head_fault, unless}
use Rattle.mq_heads.specs.declared.headers.Xqh.{Xqh}
use Rattle.mq_heads.specs.declared.headers.Dlh.{Dlh}
use Rattle.mq_heads.specs.declared.headers.Tm.{Tm}

-- the header of a message on a transmission queue (IBM MQ reference, MQXQH), field by field
abbrev pub xqh_fields : List Field
xqh_fields =
    field (codes "StrucId") 0 4 Characters ∷
    field (codes "Version") 4 4 Long ∷
    field (codes "RemoteQName") 8 48 Characters ∷
    field (codes "RemoteQMgrName") 56 48 Characters ∷
    field (codes "MsgDesc") 104 324 Raw ∷
    []

-- what stands in them
abbrev pub xqh_values : Xqh → Values xqh_fields
xqh_values h = (codes "XQH ", (pos 1, (h.remote_q_name, (h.remote_q_mgr_name, (md_bytes h.msg_desc, tt)))))

abbrev pub xqh_with : Values xqh_fields → Xqh
xqh_with (id, (version, (remote_q_name, (remote_q_mgr_name, (msg_desc, rest))))) = record {
  remote_q_name = remote_q_name;
  remote_q_mgr_name = remote_q_mgr_name;
  msg_desc = md_in msg_desc;
}

-- its 428 bytes
unfoldable pub xqh_bytes : Xqh → List ℕ
xqh_bytes h = written xqh_fields (xqh_values h)

unfoldable pub xqh_in : List ℕ → Xqh
xqh_in bytes = xqh_with (values_in xqh_fields bytes)

abbrev pub or_else : Option HeadFault → Option HeadFault → Option HeadFault
or_else None other = other
or_else (Some fault) other = Some fault

-- the header's own fault, or that of the descriptor in it
abbrev pub xqh_fault : List ℕ → Option HeadFault
xqh_fault bytes = or_else (head_fault 428 (codes "XQH ") bytes) (head_fault 324 (codes "MD  ") (part 104 324 bytes))

-- what the first 428 bytes are read as
unfoldable pub xqh_read : List ℕ → Result Xqh HeadFault
xqh_read bytes = unless (xqh_fault bytes) (xqh_in bytes)

-- the header of a dead letter (IBM MQ reference, MQDLH), field by field
abbrev pub dlh_fields : List Field
dlh_fields =
    field (codes "StrucId") 0 4 Characters ∷
    field (codes "Version") 4 4 Long ∷
    field (codes "Reason") 8 4 Long ∷
    field (codes "DestQName") 12 48 Characters ∷
    field (codes "DestQMgrName") 60 48 Characters ∷
    field (codes "Encoding") 108 4 Long ∷
    field (codes "CodedCharSetId") 112 4 Long ∷
    field (codes "Format") 116 8 Characters ∷
    field (codes "PutApplType") 124 4 Long ∷
    field (codes "PutApplName") 128 28 Characters ∷
    field (codes "PutDate") 156 8 Characters ∷
    field (codes "PutTime") 164 8 Characters ∷
    []

-- what stands in them
abbrev pub dlh_values : Dlh → Values dlh_fields
dlh_values h = (codes "DLH ", (pos 1, (h.reason, (h.dest_q_name, (h.dest_q_mgr_name, (h.encoding, (h.coded_char_set_id, (h.format, (h.put_appl_type, (h.put_appl_name, (h.put_date, (h.put_time, tt))))))))))))

abbrev pub dlh_with : Values dlh_fields → Dlh
dlh_with (id, (version, (reason, (dest_q_name, (dest_q_mgr_name, (encoding, (coded_char_set_id, (format, (put_appl_type, (put_appl_name, (put_date, (put_time, rest)))))))))))) = record {
  reason = reason;
  dest_q_name = dest_q_name;
  dest_q_mgr_name = dest_q_mgr_name;
  encoding = encoding;
  coded_char_set_id = coded_char_set_id;
  format = format;
  put_appl_type = put_appl_type;
  put_appl_name = put_appl_name;
  put_date = put_date;
  put_time = put_time;
}

-- its 172 bytes
unfoldable pub dlh_bytes : Dlh → List ℕ
dlh_bytes h = written dlh_fields (dlh_values h)

unfoldable pub dlh_in : List ℕ → Dlh
dlh_in bytes = dlh_with (values_in dlh_fields bytes)

-- what the first 172 bytes are read as
unfoldable pub dlh_read : List ℕ → Result Dlh HeadFault
dlh_read bytes = unless (head_fault 172 (codes "DLH ") bytes) (dlh_in bytes)

-- a trigger message (IBM MQ reference, MQTM), field by field
abbrev pub tm_fields : List Field
tm_fields =
    field (codes "StrucId") 0 4 Characters ∷
    field (codes "Version") 4 4 Long ∷
    field (codes "QName") 8 48 Characters ∷
    field (codes "ProcessName") 56 48 Characters ∷
    field (codes "TriggerData") 104 64 Characters ∷
    field (codes "ApplType") 168 4 Long ∷
    field (codes "ApplId") 172 256 Characters ∷
    field (codes "EnvData") 428 128 Characters ∷
    field (codes "UserData") 556 128 Characters ∷
    []

-- what stands in them
abbrev pub tm_values : Tm → Values tm_fields
tm_values h = (codes "TM  ", (pos 1, (h.q_name, (h.process_name, (h.trigger_data, (h.appl_type, (h.appl_id, (h.env_data, (h.user_data, tt)))))))))

abbrev pub tm_with : Values tm_fields → Tm
tm_with (id, (version, (q_name, (process_name, (trigger_data, (appl_type, (appl_id, (env_data, (user_data, rest))))))))) = record {
  q_name = q_name;
  process_name = process_name;
  trigger_data = trigger_data;
  appl_type = appl_type;
  appl_id = appl_id;
  env_data = env_data;
  user_data = user_data;
}

-- its 684 bytes
unfoldable pub tm_bytes : Tm → List ℕ
tm_bytes h = written tm_fields (tm_values h)

unfoldable pub tm_in : List ℕ → Tm
tm_in bytes = tm_with (values_in tm_fields bytes)

-- what the first 684 bytes are read as
unfoldable pub tm_read : List ℕ → Result Tm HeadFault
tm_read bytes = unless (head_fault 684 (codes "TM  ") bytes) (tm_in bytes)
