use Rattle.std.proofs.Common.{◌≡◌, ◌∷◌, ◌++◌, [], length, rules, arith, ap, ◌∙◌}
use Rattle.std.specs.Prelude.{slice_get, slice_set}
use Rattle.mq_shared.specs.Sharing.{course_then}
use Rattle.mq_shared.proofs.ShareLists.{at_front, set_long}
use Rattle.mq_shared.proofs.ShareLaws.{put_step}
use Rattle.mq_shared.proofs.courses.put_courses.Goals as goal

pub loop-script-preserved : goal.loop-script-preserved
loop-script-preserved c =
    let set : c.put_course.new.courses ≡ slice_set c.loop-script.courses c.in-Some.script.script (course_then c.in-Some.script) = search rules in
    let popped : c.loop-script.held ≡ c.pop.new.self ++ c.in-Some.script ∷ [] = c.in-Some.ensures.last in
    let long = ap length set in
    let same = set_long c.loop-script.courses c.in-Some.script.script (course_then c.in-Some.script) in
    record {
      all = put_step c.loop-script.held c.pop.new.self c.in-Some.script c.loop-script.courses c.put_course.new.courses _ popped set c.loop-script.invariant.all;
      there = λ i s e. let lt = c.loop-script.invariant.there i s (ap (λ l. slice_get l i) popped ∙ at_front c.pop.new.self (c.in-Some.script ∷ []) i s e) in omega (arith, lt, long, same);
    }
