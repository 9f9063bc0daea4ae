-- Rows that leave a queue, some of them in a record of their own; and a row that a unit holds.
use Rattle.std.specs.Prelude.{ℕ, List, [], ◌∷◌, map, Option, Some, None, if◌then◌else◌}
use Rattle.mq_calls.specs.Words.{Ident, Part, Among, need}
use Rattle.mq_calls.specs.declared.records.Remove.{Remove}
use Rattle.mq_calls.specs.declared.records.LogRecord.{LogRecord}
use Rattle.mq_message.specs.declared.place.Holder.TheVariants as holders
use Rattle.mq_calls.specs.declared.deltas.Did.TheVariants as did
use Rattle.mq_calls.specs.declared.deltas.Why.{Why}
use Rattle.mq_calls.specs.declared.records.LogRecord.TheVariants as records
use Rattle.mq_calls.specs.declared.state.Item.TheVariants.{Take as Taken}
use Rattle.mq_calls.specs.State.Change.{Leave, Hold, Pend}
use Rattle.mq_scan.specs.declared.scanning.Met.{Met}
use Rattle.mq_get.specs.declared.leaving.Leaving.{Leaving}

-- the record of those that last
abbrev pub leaving_record : List Remove → Option LogRecord
leaving_record [] = None
leaving_record (r ∷ rs) = Some (records.Unit [] (r ∷ rs))

-- what it takes of the log
abbrev pub leaving_need : List Remove → ℕ
leaving_need [] = 0
leaving_need (r ∷ rs) = need (records.Unit [] (r ∷ rs))

abbrev pub leaving_part : List ℕ → Leaving → Why → Part
leaving_part queue l why = record {
  forced = leaving_record l.removes;
  changes = Leave (Among queue l.idents) ∷ [];
  delta = map (λ (i : Ident). did.Removed queue i why) l.idents;
}

-- of rows that a scan met
abbrev pub met_ident : Met → Ident
met_ident m = m.ident

abbrev pub removes_met : List ℕ → List Met → List Remove
removes_met queue [] = []
removes_met queue (m ∷ ms) = if m.persistent then record { queue = queue; ident = m.ident } ∷ removes_met queue ms else removes_met queue ms

abbrev pub leaving_met : List ℕ → List Met → Leaving
leaving_met queue mets = record { removes = removes_met queue mets; idents = map met_ident mets }

abbrev pub gone_part : Why → List ℕ → List Met → Part
gone_part why queue mets = leaving_part queue (leaving_met queue mets) why

abbrev pub gone_parts : Why → List ℕ → List Met → List Part
gone_parts why queue [] = []
gone_parts why queue (m ∷ ms) = gone_part why queue (m ∷ ms) ∷ []

-- a row that a unit holds
abbrev pub held_part : ℕ → List ℕ → Met → Part
held_part number queue m = record {
  forced = None;
  changes = Hold (Among queue (m.ident ∷ [])) (holders.Unit number) ∷ Pend number (Taken queue m.ident m.persistent) ∷ [];
  delta = did.Held queue m.ident (holders.Unit number) ∷ [];
}
