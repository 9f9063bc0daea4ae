-- Worked rows, computed from the definitions.
use Rattle.std.specs.Prelude.{◌≡◌, ℕ, pos, true, false, List, [], ◌∷◌, Some, None, Result, Ok, Err, replicate, codes, refl}
use Rattle.mq_sc_apply.specs.from_calls.Words.{Reason, Md, Definitions, Route, Plain, depth, Step, next, Refuse, Do}
use Rattle.mq_sc_apply.specs.from_calls.{Answer, GetAnswer, Got}
use Rattle.mq_sc_apply.specs.from_codes.ReasonVariants as reasons
use Rattle.mq_sc_apply.specs.from_objects.UsageVariants as usages
use Rattle.mq_sc_apply.specs.from_objects.SettingVariants as settings
use Rattle.mq_sc_apply.specs.from_resolve.RouteEndVariants.{Via}
use Rattle.mq_sc_apply.specs.from_resolve.PathStepVariants as steps
use Rattle.mq_sc_apply.specs.from_resolve.Resolved.{resolve}
use Rattle.mq_sc_apply.specs.from_calls.InputVariants as inputs
use Rattle.mq_sc_apply.specs.from_calls.TakeVariants as takes
use Rattle.mq_sc_apply.specs.from_calls.AnswerVariants as answers
use Rattle.mq_sc_apply.specs.from_calls.GetAnswerVariants as get_answers
use Rattle.mq_spec_manager.specs.Handles.{mqconn, mqopen, mqclose}
use Rattle.mq_spec_manager.specs.Put.{mqput}
use Rattle.mq_spec_manager.specs.Get.{mqget}
use Rattle.mq_spec_manager.specs.Units.{mqcmit, mqback}
use Rattle.mq_spec_manager.specs.Stops.{stop, restart, advance_clock}
use Rattle.mq_sc_apply.specs.from_calls.ReturnVariants.{Comes}
use Rattle.mq_spec_manager.proofs.Script.{london, london_with, local, define_local, define_remote, define_alias, alter_qmgr, connect, connection, handle, shared_output, all_ways, open_at, script_md, script_appl, plain_md, persistent_md, whole_get, get_of, put_line, get_line, line, rows_line, backouts}

abbrev q1 : List ℕ
q1 = codes "Q1"

-- Full at one message; a row that a unit holds is not counted; backed out, it stands at its old place.
abbrev full0 : Plain
full0 = open_at 1 q1 shared_output (connect (define_local q1 (settings.MaxDepth 1 ∷ []) (london 268435456)))

abbrev put_a : Plain → Plain
put_a p = next (mqput (connection 1) (handle 1) plain_md (codes "A") false p) p

abbrev get_sync : Plain → Plain
get_sync p = next (mqget (connection 1) (handle 1) (whole_get takes.Next true) None p) p

abbrev back : Plain → Plain
back p = next (mqback (connection 1) p) p

full_empty : get_line (mqget (connection 1) (handle 1) (whole_get takes.Next false) None full0) ≡ 2 ∷ 2033 ∷ []
full_empty = refl

full_first : put_line (mqput (connection 1) (handle 1) plain_md (codes "A") false full0) ≡ 0 ∷ 0 ∷ 1 ∷ 1 ∷ 1 ∷ []
full_first = refl

full_second : put_line (mqput (connection 1) (handle 1) plain_md (codes "A") false (put_a full0)) ≡ 2 ∷ 2053 ∷ []
full_second = refl

full_got : get_line (mqget (connection 1) (handle 1) (whole_get takes.Next true) None (put_a full0)) ≡ 0 ∷ 0 ∷ 1 ∷ 1 ∷ 1 ∷ []
full_got = refl

full_third : put_line (mqput (connection 1) (handle 1) plain_md (codes "A") false (get_sync (put_a full0))) ≡ 0 ∷ 0 ∷ 1 ∷ 1 ∷ 2 ∷ []
full_third = refl

full_rows : rows_line q1 (back (put_a (get_sync (put_a full0)))) ≡ (1 ∷ 1 ∷ 1 ∷ []) ∷ (1 ∷ 1 ∷ 2 ∷ []) ∷ []
full_rows = refl

full_depth : depth q1 (back (put_a (get_sync (put_a full0)))) ≡ 2
full_depth = refl

full_backouts : backouts q1 (back (put_a (get_sync (put_a full0)))) ≡ pos 1 ∷ pos 0 ∷ []
full_backouts = refl

-- The cursor: a row of higher priority is found from the front, not from the cursor on; a row held is not under it.
abbrev two_rows : Plain
two_rows = open_at 1 q1 all_ways (connect (define_local q1 [] (london 268435456)))

abbrev put_with : Md → Plain → Plain
put_with md p = next (mqput (connection 1) (handle 1) md (codes "A") false p) p

abbrev browse_first : Plain → Plain
browse_first p = next (mqget (connection 1) (handle 1) (whole_get takes.BrowseFirst false) None p) p

abbrev browse_next : Plain → Plain
browse_next p = next (mqget (connection 1) (handle 1) (whole_get takes.BrowseNext false) None p) p

abbrev high_md : Md
high_md = script_md (pos 9) (pos 2)

abbrev seen1 : Plain
seen1 = browse_first (put_with plain_md (put_with plain_md two_rows))

abbrev seen2 : Plain
seen2 = put_with high_md seen1

abbrev seen3 : Plain
seen3 = browse_first (browse_next seen2)

abbrev other_got : Plain → Plain
other_got p = next (mqget (connection 2) (handle 1) (whole_get takes.Next true) None p) p

cursor_first : get_line (mqget (connection 1) (handle 1) (whole_get takes.BrowseFirst false) None (put_with plain_md (put_with plain_md two_rows))) ≡ 0 ∷ 0 ∷ 1 ∷ 1 ∷ 1 ∷ []
cursor_first = refl

cursor_put : put_line (mqput (connection 1) (handle 1) high_md (codes "A") false seen1) ≡ 0 ∷ 0 ∷ 1 ∷ 1 ∷ 3 ∷ []
cursor_put = refl

cursor_next : get_line (mqget (connection 1) (handle 1) (whole_get takes.BrowseNext false) None seen2) ≡ 0 ∷ 0 ∷ 1 ∷ 1 ∷ 2 ∷ []
cursor_next = refl

cursor_again : get_line (mqget (connection 1) (handle 1) (whole_get takes.BrowseFirst false) None (browse_next seen2)) ≡ 0 ∷ 0 ∷ 1 ∷ 1 ∷ 3 ∷ []
cursor_again = refl

cursor_other : get_line (mqget (connection 2) (handle 1) (whole_get takes.Next true) None (open_at 2 q1 shared_output (connect seen3))) ≡ 0 ∷ 0 ∷ 1 ∷ 1 ∷ 3 ∷ []
cursor_other = refl

cursor_under : get_line (mqget (connection 1) (handle 1) (whole_get takes.UnderCursor false) None (other_got (open_at 2 q1 shared_output (connect seen3)))) ≡ 2 ∷ 2034 ∷ []
cursor_under = refl

-- A stop and a restart: committed persistent rows stand, the rest is gone, and the next incarnation counts from 1.
abbrev put_sync : Md → Plain → Plain
put_sync md p = next (mqput (connection 1) (handle 1) md (codes "A") true p) p

abbrev commit : Plain → Plain
commit p = next (mqcmit (connection 1) p) p

abbrev ordinary : Plain
ordinary = open_at 1 q1 shared_output (connect (london_with 268435456 (local q1 [] ∷ [])))

abbrev crash : Plain → Plain
crash p = (stop p).next

abbrev come_back : Plain → Plain
come_back p = (restart (Comes false 0) p).next

abbrev crashed : Plain
crashed = come_back (crash (put_sync persistent_md (commit (put_sync persistent_md (put_sync plain_md (put_sync persistent_md ordinary))))))

restart_rows : rows_line q1 crashed ≡ (1 ∷ 1 ∷ 1 ∷ []) ∷ (1 ∷ 1 ∷ 3 ∷ []) ∷ []
restart_rows = refl

restart_old : line (mqcmit (connection 1) crashed) ≡ 2 ∷ 2009 ∷ []
restart_old = refl

abbrev reconnected : Plain → Plain
reconnected p = next (mqopen (record { manager = 1; incarnation = 2; number = 1 }) q1 [] shared_output p) p

restart_put : put_line (mqput (record { manager = 1; incarnation = 2; number = 1 }) (handle 1) plain_md (codes "A") false (reconnected (connect crashed))) ≡ 0 ∷ 0 ∷ 1 ∷ 2 ∷ 1 ∷ []
restart_put = refl

-- Lengths: what the queue takes, and what the room of a get takes.
abbrev short : Plain
short = open_at 1 q1 shared_output (connect (define_local q1 (settings.MaxMessageLength 5 ∷ []) (london 268435456)))

length_none : put_line (mqput (connection 1) (handle 1) plain_md [] false short) ≡ 0 ∷ 0 ∷ 1 ∷ 1 ∷ 1 ∷ []
length_none = refl

length_most : put_line (mqput (connection 1) (handle 1) plain_md (codes "HELLO") false short) ≡ 0 ∷ 0 ∷ 1 ∷ 1 ∷ 1 ∷ []
length_most = refl

length_more : put_line (mqput (connection 1) (handle 1) plain_md (codes "HELLO!") false short) ≡ 2 ∷ 2030 ∷ []
length_more = refl

abbrev hello : Plain
hello = next (mqput (connection 1) (handle 1) plain_md (codes "HELLO") false short) short

room_small : get_line (mqget (connection 1) (handle 1) (get_of takes.Next false 3 false) None hello) ≡ 1 ∷ 2080 ∷ 1 ∷ 1 ∷ 1 ∷ []
room_small = refl

room_stays : rows_line q1 (next (mqget (connection 1) (handle 1) (get_of takes.Next false 3 false) None hello) hello) ≡ (1 ∷ 1 ∷ 1 ∷ []) ∷ []
room_stays = refl

abbrev body_got : Answer Got → List ℕ
body_got (answers.Ok g) = g.body
body_got (answers.Warning reason g) = g.body
body_got (answers.Failed reason) = []

abbrev body_of : Step Reason GetAnswer → List ℕ
body_of (Refuse reason) = []
body_of (Do get_answers.NotYet parts) = []
body_of (Do (get_answers.Done answer) parts) = body_got answer

room_cut : get_line (mqget (connection 1) (handle 1) (get_of takes.Next false 3 true) None hello) ≡ 1 ∷ 2079 ∷ 1 ∷ 1 ∷ 1 ∷ []
room_cut = refl

room_body : body_of (mqget (connection 1) (handle 1) (get_of takes.Next false 3 true) None hello) ≡ codes "HEL"
room_body = refl

-- A log without room.
abbrev small_log : Plain
small_log = open_at 1 q1 shared_output (connect (london_with 4096 (local q1 [] ∷ [])))

log_refused : put_line (mqput (connection 1) (handle 1) persistent_md (replicate 4096 65) false small_log) ≡ 2 ∷ 2102 ∷ []
log_refused = refl

log_not_needed : put_line (mqput (connection 1) (handle 1) plain_md (replicate 4096 65) false small_log) ≡ 0 ∷ 0 ∷ 1 ∷ 1 ∷ 1 ∷ []
log_not_needed = refl

-- One refusal each.
abbrev one_handle : Plain
one_handle = open_at 1 q1 shared_output (connect (alter_qmgr (settings.MaxHandles 1 ∷ []) (define_local q1 [] (london 268435456))))

refused_handles : line (mqopen (connection 1) q1 [] shared_output one_handle) ≡ 2 ∷ 2017 ∷ []
refused_handles = refl

abbrev one_uncommitted : Plain
one_uncommitted = open_at 1 q1 shared_output (connect (alter_qmgr (settings.MaxUncommitted 1 ∷ []) (define_local q1 [] (london 268435456))))

refused_unit : put_line (mqput (connection 1) (handle 1) plain_md (codes "A") true (put_sync plain_md one_uncommitted)) ≡ 2 ∷ 2024 ∷ []
refused_unit = refl

warned_priority : put_line (mqput (connection 1) (handle 1) (script_md (pos 12) (pos 2)) (codes "A") false ordinary) ≡ 1 ∷ 2049 ∷ 1 ∷ 1 ∷ 1 ∷ []
warned_priority = refl

refused_expiry : put_line (mqput (connection 1) (handle 1) (record plain_md { expiry = pos 0 }) (codes "A") false ordinary) ≡ 2 ∷ 2013 ∷ []
refused_expiry = refl

refused_request : put_line (mqput (connection 1) (handle 1) (record plain_md { msg_type = pos 1 }) (codes "A") false ordinary) ≡ 2 ∷ 2027 ∷ []
refused_request = refl

refused_options : line (mqopen (connection 1) q1 [] (record { input = inputs.No; browse = false; output = false }) ordinary) ≡ 2 ∷ 2046 ∷ []
refused_options = refl

refused_name : line (mqconn (codes "OTHER") script_appl ordinary) ≡ 2 ∷ 2058 ∷ []
refused_name = refl

refused_down : line (mqconn [] script_appl (crash ordinary)) ≡ 2 ∷ 2059 ∷ []
refused_down = refl

refused_close : line (mqclose (connection 1) (handle 1) (next (mqclose (connection 1) (handle 1) ordinary) ordinary)) ≡ 2 ∷ 2019 ∷ []
refused_close = refl

-- Expiry and waiting.
abbrev expiring : Plain
expiring = put_with (record plain_md { expiry = pos 10 }) ordinary

expiry_before : get_line (mqget (connection 1) (handle 1) (whole_get takes.Next false) None (advance_clock 999 expiring)) ≡ 0 ∷ 0 ∷ 1 ∷ 1 ∷ 1 ∷ []
expiry_before = refl

expiry_come : get_line (mqget (connection 1) (handle 1) (whole_get takes.Next false) None (advance_clock 1000 expiring)) ≡ 2 ∷ 2033 ∷ []
expiry_come = refl

abbrev get_any : Plain → Plain
get_any p = next (mqget (connection 1) (handle 1) (whole_get takes.Next false) None p) p

expiry_gone : depth q1 (get_any (advance_clock 1000 expiring)) ≡ 0
expiry_gone = refl

waits : get_line (mqget (connection 1) (handle 1) (whole_get takes.Next false) (Some 500) ordinary) ≡ []
waits = refl

waited : get_line (mqget (connection 1) (handle 1) (whole_get takes.Next false) (Some 500) (advance_clock 500 ordinary)) ≡ 2 ∷ 2033 ∷ []
waited = refl

-- Name resolution.
abbrev named : Definitions
named = (define_remote (codes "RN") (settings.RemoteName (codes "X") ∷ settings.RemoteManager (codes "P") ∷ settings.TransmissionQueue (codes "N") ∷ [])
    (define_local (codes "N") []
    (define_alias (codes "A2") (settings.Target (codes "A1") ∷ [])
    (define_alias (codes "A1") (settings.Target (codes "RA") ∷ [])
    (define_remote (codes "RA") (settings.RemoteName (codes "X") ∷ settings.RemoteManager (codes "ROMA") ∷ [])
    (define_remote (codes "ROME") (settings.RemoteManager (codes "MILAN") ∷ [])
    (alter_qmgr (settings.DefaultTransmissionQueue (codes "T") ∷ [])
    (define_local (codes "T") (settings.Usage usages.Transmission ∷ []) (london 268435456))))))))).definitions

abbrev found : List ℕ → List ℕ → Result Route Reason
found name qmgr = resolve named (codes "LONDON") name qmgr

leads_alias : found (codes "A1") [] ≡ Ok (record { end = Via (codes "T") (codes "X") (codes "ROMA"); path = steps.Queue (codes "A1") ∷ steps.Queue (codes "RA") ∷ steps.DefXmitq ∷ steps.Queue (codes "T") ∷ [] })
leads_alias = refl

leads_manager : found (codes "Y") (codes "ROME") ≡ Ok (record { end = Via (codes "T") (codes "Y") (codes "MILAN"); path = steps.Queue (codes "ROME") ∷ steps.DefXmitq ∷ steps.Queue (codes "T") ∷ [] })
leads_manager = refl

leads_twice : found (codes "A2") [] ≡ Err reasons.AliasBaseQueueTypeError
leads_twice = refl

leads_normal : found (codes "RN") [] ≡ Err reasons.TransmissionQueueUsageError
leads_normal = refl

leads_blank : found (codes "ROME") [] ≡ Err reasons.RemoteQueueNameError
leads_blank = refl

leads_nowhere : found (codes "Z") [] ≡ Err reasons.UnknownObjectName
leads_nowhere = refl

leads_local : found (codes "Y") (codes "N") ≡ Err reasons.TransmissionQueueUsageError
leads_local = refl

leads_kind : found (codes "Y") (codes "A1") ≡ Err reasons.TransmissionQueueTypeError
leads_kind = refl

leads_remote : found (codes "Y") (codes "RA") ≡ Err reasons.UnknownRemoteQueueManager
leads_remote = refl

-- the blank name, here and at another manager
leads_no_name : found [] [] ≡ Err reasons.UnknownObjectName
leads_no_name = refl

leads_no_name_there : found [] (codes "ROME") ≡ Err reasons.RemoteQueueNameError
leads_no_name_there = refl
