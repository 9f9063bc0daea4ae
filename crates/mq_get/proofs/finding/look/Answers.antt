use Rattle.std.proofs.Common.{List, ◌++◌, sym, ap, ◌∙◌}
use Rattle.std.specs.Prelude.{map}
use Rattle.std.specs.Option.{option_map}
use Rattle.mq_spec_manager.specs.Words.{Scan}
use Rattle.mq_core.specs.from_place.States.{state_in}
use Rattle.mq_scan.specs.declared.scanning.Met.{Met}
use Rattle.mq_scan.specs.Scans.{scan_of, met_of}
use Rattle.mq_core.specs.Views.{PartsValue, plain_of}
use Rattle.mq_get.specs.Gets.{hit_of}
use Rattle.mq_get.proofs.SurveyLaws.{look_none, look_some}
use Rattle.mq_get.proofs.finding.look.Goals as goal

pub returns-in_default : goal.returns-in_default
returns-in_default g c =
    let none = sym (look_none c.args.get.now c.args.aim.now c.args.parts.now (sym (ap (λ (x : PartsValue). state_in c.args.aim.now.queue x.queues.states) c.parts.view_is) ∙ sym c.in_default.ensures.value)) in
    record { mets = c.new-mets.ensures ∙ ap (λ (s : Scan). map met_of s.expired) none; hit = ap (λ (s : Scan). option_map (hit_of c.args.get.now) s.found) none }

pub returns-in-Ok : goal.returns-in-Ok
returns-in-Ok g c =
    let x : PartsValue = c.args.parts.now in
    let same = sym (look_some c.args.get.now c.args.aim.now x c.in-Some.local.now (sym (ap (λ (x : PartsValue). state_in c.args.aim.now.queue x.queues.states) c.parts.view_is) ∙ sym c.in-Some.ensures.value)) in
    record {
      mets = c.in-Ok.ensures.mets (plain_of x) (sym (ap (λ (x : PartsValue). x.moment) c.parts.view_is))
          ∙ ap (λ (ms : List Met). ms ++ map met_of (scan_of c.args.get.now c.args.aim.now.cursor (plain_of x) c.in-Some.local.now.queue.rows).expired) c.new-mets.ensures
          ∙ ap (λ (s : Scan). map met_of s.expired) same;
      hit = c.in-Ok.ensures.hit (plain_of x) (sym (ap (λ (x : PartsValue). x.moment) c.parts.view_is)) ∙ ap (λ (s : Scan). option_map (hit_of c.args.get.now) s.found) same;
    }
