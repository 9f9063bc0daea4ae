-- What a get comes to where no refusal applies.
use Rattle.std.specs.Prelude.{◌≡◌, ℕ, ◌<◌, ◌^◌, Bool, true, false, not, ◌&&◌, List, [], ◌∷◌, ◌++◌, map, if◌then◌else◌, Option, Some, None, Result, Ok, Err, IsSome}
use Rattle.std.specs.Option.{option_map}
use Rattle.mq_calls.specs.Words.{Reason, Row, Plain, Step, Part, Refuse, Do, stored, silent, connection_at, is_up}
use Rattle.mq_calls.specs.declared.answers.Get.{Get}
use Rattle.mq_calls.specs.declared.state.Handle.{Handle}
use Rattle.mq_calls.specs.declared.state.Connection.{Connection}
use Rattle.mq_calls.specs.declared.answers.GetAnswer.{GetAnswer}
use Rattle.mq_codes.specs.declared.reason.Reason.TheVariants as reasons
use Rattle.mq_calls.specs.declared.answers.Answer.TheVariants as answers
use Rattle.mq_calls.specs.declared.answers.GetAnswer.TheVariants.{Done}
use Rattle.mq_calls.specs.declared.deltas.Why.TheVariants as whys
use Rattle.mq_calls.specs.State.Change.{SetCursor}
use Rattle.mq_spec_manager.specs.Words.{Scan, queue_at, is_destructive, is_under, is_too_long, got, got_answer, is_waiting, without_row, persistent_rows, expired_need, get_handle}
use Rattle.mq_scan.specs.declared.scanning.Met.{Met}
use Rattle.mq_scan.specs.Scans.{scan_of, met_of}
use Rattle.mq_core.specs.Calls.{at_number}
use Rattle.mq_get.specs.declared.refusals.Aim.{Aim}
use Rattle.mq_get.specs.declared.finding.Hit.{Hit}
use Rattle.mq_get.specs.declared.finding.Plan.{Plan as Planned}
use Rattle.mq_get.specs.Leaving.{gone_part, gone_parts, held_part}

-- where the get of a handle looks, and what it finds there
abbrev pub aim_of : Handle → Aim
aim_of h = record { queue = queue_at h.leads; handle = h.number; cursor = h.cursor }

abbrev pub look : Get → Aim → Plain → Scan
look get aim p = scan_of get aim.cursor p (stored aim.queue p).rows

-- what is kept of a row that is found
abbrev pub hit_of : Get → Row → Hit
hit_of get row = record { met = met_of row; place = row.place; long = is_too_long get row.message; got = got get.room row.message }

-- all that a get finds
pub record IsPlan (get : Get) (aim : Aim) (p : Plain) (plan : Planned) : Type 0 where
  pub mets : plan.mets ≡ map met_of (look get aim p).expired
  pub hit : plan.hit ≡ option_map (hit_of get) (look get aim p).found

-- a row is taken, or the cursor goes to it
abbrev pub taken_part : Bool → ℕ → List ℕ → Met → Part
taken_part true number queue m = held_part number queue m
taken_part false number queue m = gone_part whys.Got queue (m ∷ [])

abbrev pub hit_part : Get → ℕ → Aim → Hit → Part
hit_part get number aim hit = if is_destructive get.take then taken_part get.sync number aim.queue hit.met else silent (SetCursor number aim.handle hit.place ∷ [])

abbrev pub hit_step : Bool → Get → ℕ → Aim → Hit → List Part → Step Reason GetAnswer
hit_step true get number aim hit before = Do (Done (answers.Warning reasons.TruncatedMessageFailed hit.got)) before
hit_step false get number aim hit before = Do (Done (got_answer hit.long hit.got)) (before ++ hit_part get number aim hit ∷ [])

abbrev pub plan_step : Get → Option ℕ → Plain → ℕ → Aim → List Met → Option Hit → Step Reason GetAnswer
plan_step get until p number aim mets None = without_row (is_under get.take) (is_waiting until p) (gone_parts whys.Expired aim.queue mets)
plan_step get until p number aim mets (Some hit) = hit_step (hit.long && not get.truncate) get number aim hit (gone_parts whys.Expired aim.queue mets)

abbrev pub aimed : Get → Option ℕ → Plain → Aim → Connection → Step Reason GetAnswer
aimed get until p aim c = plan_step get until p c.number aim (map met_of (look get aim p).expired) (option_map (hit_of get) (look get aim p).found)

abbrev pub get_at : ℕ → Get → Option ℕ → Aim → Plain → Step Reason GetAnswer
get_at number get until aim p = at_number number p (aimed get until p aim)

-- behind a handle no refusal applies
pub record CanLook (get : Get) (until : Option ℕ) (p : Plain) (c : Connection) (h : Handle) (aim : Aim) : Type 0 where
  pub step : get_handle get until p c h ≡ aimed get until p aim c
  pub short : expired_need (persistent_rows (look get aim p).expired) < 2 ^ 32

abbrev pub Looks : Get → Option ℕ → Plain → Connection → Handle → Result Aim Reason → Type 0
Looks get until p c h (Ok aim) = CanLook get until p c h aim
Looks get until p c h (Err reason) = get_handle get until p c h ≡ Refuse reason

-- MQGET: no refusal applies
pub record CanGet (call : Step Reason GetAnswer) (number : ℕ) (get : Get) (until : Option ℕ) (p : Plain) (aim : Aim) : Type 0 where
  pub step : call ≡ get_at number get until aim p
  pub up : is_up p.running ≡ true
  pub live : IsSome (connection_at number p.connections)
  pub short : expired_need (persistent_rows (look get aim p).expired) < 2 ^ 32

abbrev pub Gets : Step Reason GetAnswer → ℕ → Get → Option ℕ → Plain → Result Aim Reason → Type 0
Gets call number get until p (Ok aim) = CanGet call number get until p aim
Gets call number get until p (Err reason) = call ≡ Refuse reason
