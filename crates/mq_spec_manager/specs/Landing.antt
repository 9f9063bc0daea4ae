-- Where a message that a channel brings is put: by its route, or as a dead letter.
use Rattle.std.specs.Prelude.{ℕ, pos, ◌+◌, nat_lt, nat_le, Bool, true, false, not, ◌&&◌, List, [], ◌∷◌, ◌++◌, Option, Some, None, Result, Ok, Err, length, codes}
use Rattle.mq_heads.specs.from_base.Name.{padded}
use Rattle.mq_sc_apply.specs.from_codes.Numbers.{number}
use Rattle.mq_sc_apply.specs.from_calls.Words.{Reason, Dest, Md, Message, Channel, ChannelKind, LocalQueue, Route, depth, Plain, Test, when, refusal, local_of, channel_of, is_transmission}
use Rattle.mq_sc_apply.specs.from_codes.ReasonVariants as reasons
use Rattle.mq_sc_apply.specs.from_objects.ChannelKindVariants as kinds
use Rattle.mq_sc_apply.specs.from_resolve.Resolved.{resolve}
use Rattle.mq_heads.specs.Headers.{dlh_bytes}
use Rattle.mq_heads.specs.declared.headers.Dlh.{Dlh}
use Rattle.mq_heads.specs.Stamps.{put_date, put_time}
use Rattle.mq_spec_manager.specs.Words.{is_unfit, queue_at, dest_at, output_only, placing_tests}

-- The names that came with a message.
abbrev pub names_of : Option Dest → Dest
names_of None = record { queue = []; qmgr = [] }
names_of (Some dest) = dest

-- A message that is put on a queue, as itself or as a dead letter.
pub record Landing : Type 0 where
  pub queue : List ℕ
  pub message : Message
  pub dead : Option Reason

abbrev pub landing : Route → Message → Landing
landing route m = record { queue = queue_at route.end; message = record m { route = dest_at route.end }; dead = None }

abbrev pub route_tests : Route → ℕ → Plain → List (Test Reason)
route_tests route bytes p = when (is_unfit output_only route.end p) reasons.OptionNotValidForType ∷ placing_tests route bytes p

-- as a dead letter: behind a header with the reason and the names that it came with
abbrev pub dead_md : Md → Md
dead_md md = record md { format = codes "MQDEAD  "; encoding = pos 273; coded_char_set_id = pos 1208 }

abbrev pub dead_head : List ℕ → Reason → Message → ℕ → Dlh
dead_head channel reason m moment = record {
  reason = pos (number reason);
  dest_q_name = padded 48 (names_of m.route).queue;
  dest_q_mgr_name = padded 48 (names_of m.route).qmgr;
  encoding = m.md.encoding;
  coded_char_set_id = m.md.coded_char_set_id;
  format = m.md.format;
  put_appl_type = pos 0;
  put_appl_name = padded 28 channel;
  put_date = put_date moment;
  put_time = put_time moment;
}

abbrev pub dead_message : List ℕ → Reason → Message → ℕ → Message
dead_message channel reason m moment =
    record m { md = dead_md m.md; route = None; body = dlh_bytes (dead_head channel reason m moment) ++ m.body }

-- the dead-letter queue takes it, with 172 bytes more
abbrev pub can_take_dead : Option LocalQueue → ℕ → Plain → Bool
can_take_dead None bytes p = false
can_take_dead (Some q) bytes p =
    not (is_transmission q.usage) && q.put_enabled && nat_lt (depth q.name p) q.max_depth && nat_le (bytes + 172) q.max_message_length
    && nat_le (bytes + 172) p.definitions.manager.max_message_length

abbrev pub dead_or : Bool → List ℕ → Reason → Message → Plain → Result Landing Reason
dead_or true channel reason m p = Ok (record { queue = p.definitions.manager.dead_letter_queue; message = dead_message channel reason m p.moment; dead = Some reason })
dead_or false channel reason m p = Err reason

abbrev pub kind_uses_dead : ChannelKind → Bool
kind_uses_dead (kinds.Sender batch retry xmitq) = false
kind_uses_dead (kinds.Receiver dead) = dead

-- the channel has USEDLQ(YES)
abbrev pub uses_dead : Option Channel → Bool
uses_dead None = false
uses_dead (Some c) = kind_uses_dead c.kind

-- the message as a dead letter, or the refusal
abbrev pub dead_letter : List ℕ → Reason → Message → Plain → Result Landing Reason
dead_letter channel reason m p =
    dead_or (uses_dead (channel_of channel p.definitions) && can_take_dead (local_of p.definitions.manager.dead_letter_queue p.definitions) (length m.body) p)
    channel reason m p

-- the message by its route, or as a dead letter
abbrev pub land_tested : Option Reason → Route → List ℕ → Message → Plain → Result Landing Reason
land_tested None route channel m p = Ok (landing route m)
land_tested (Some reason) route channel m p = dead_letter channel reason m p

abbrev pub land_resolved : Result Route Reason → List ℕ → Message → Plain → Result Landing Reason
land_resolved (Err reason) channel m p = dead_letter channel reason m p
land_resolved (Ok route) channel m p = land_tested (refusal (route_tests route (length m.body) p)) route channel m p

abbrev pub land : List ℕ → Message → Plain → Result Landing Reason
land channel m p = land_resolved (resolve p.definitions p.given.name (names_of m.route).queue (names_of m.route).qmgr) channel m p
