use Rattle.std.proofs.Common.{◌≡◌, true, ℕ, sym, subst, ◌∙◌, arith}
use Rattle.std.specs.Prelude.{Result, Ok, Err}
use Rattle.mq_calls.specs.declared.image.Image.{Image}
use Rattle.mq_recover_read.specs.from_spec_log.Bodies.{image}
use Rattle.mq_recover.specs.Found.{start_in, Told}
use Rattle.mq_recover.proofs.WalkLaws.{image_begun, fault_given, image_given}
use Rattle.mq_recover.proofs.recovery.image.Goals as goal

pub returns-in-Err : goal.returns-in-Err
returns-in-Err c = λ given n m all fits e.
    let begun : c.in_ok-begins.field-0 ≡ true = grind arith in
    fault_given (image given (start_in c.args.start) all) c.in-Err.fault
    (subst (λ (r : Result Image ℕ). Told r (Err c.in-Err.fault)) (image_begun given (start_in c.args.start) c.args.manager c.args.name.now all n m (sym (c.in_ok-begins.ensures all fits e) ∙ begun)) (c.in-Err.ensures all fits e))

pub returns : goal.returns
returns c = λ given n m all fits e.
    let begun : c.in_ok-begins.field-0 ≡ true = grind arith in
    image_given (image given (start_in c.args.start) all) c.in-Ok.told c.in_ok-into_image.field-0
    (subst (λ (r : Result Image ℕ). Told r (Ok c.in-Ok.told)) (image_begun given (start_in c.args.start) c.args.manager c.args.name.now all n m (sym (c.in_ok-begins.ensures all fits e) ∙ begun)) (c.in-Ok.ensures all fits e))
    c.in_ok-into_image.ensures
