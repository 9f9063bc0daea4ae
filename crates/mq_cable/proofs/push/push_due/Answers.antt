use Rattle.std.proofs.Common.{◌++◌, ◌∷◌, [], List, length, refl, sym, ap, subst, ◌∙◌, arith, append_assoc, append-nil}
use Rattle.std.specs.Prelude.{take}
use Rattle.std.proofs.lemmas.List.{take_at, length-append}
use Rattle.mq_cable.specs.declared.item.Item.{Item}
use Rattle.mq_cable.specs.Offers.{due_of}
use Rattle.mq_cable.proofs.Taking.{none_due, few_due}
use Rattle.mq_cable.proofs.push.push_due.Goals as goal

pub pushing-init : goal.pushing-init
pushing-init g c = record {
  done = ([], refl, refl, g.met.W.Wire.writes_none c.args.out.now);
  left = refl;
  frame = refl;
  low = c.requires.low;
  few = omega (arith, c.requires.few, few_due c.args.frame c.args.kept.now.items);
  read = g.met.W.Wire.reads_none c.args.out.now;
  front = refl;
  stays = λ h. h;
}

pub returns-in-Err-clause-pushed : goal.returns-in-Err-clause-pushed
returns-in-Err-clause-pushed g c =
    let d = c.pushing.invariant.done in
    let full = c.in-Err.ensures.full in
    subst (λ (l : List Item). g.W.Wire.writes c.args.out.now l c.push.new.self)
    (append-nil d.0 ∙ sym (ap (take c.pushing.extras) d.1 ∙ take_at d.0 (due_of c.args.frame c.pushing.kept.items) c.pushing.extras d.2))
    (g.met.W.Wire.writes_more c.args.out.now c.pushing.out c.push.new.self d.0 [] d.3 full.1)

pub returns-in-Err-clause-read : goal.returns-in-Err-clause-read
returns-in-Err-clause-read g c =
    (g.met.W.Wire.reads_more c.args.out.now c.pushing.out c.push.new.self [] [] c.pushing.invariant.read c.push.ensures.read.0, c.push.ensures.read.1 ∙ c.pushing.invariant.front)

pub pushing-preserved : goal.pushing-preserved
pushing-preserved g c =
    let d = c.pushing.invariant.done in
    let item = c.in-Some.item in
    let more = due_of c.args.frame c.take_due.new.kept.items in
    record {
      done = (
        d.0 ++ item ∷ [],
        d.1 ∙ ap (λ (l : List Item). d.0 ++ l) c.in-Some.ensures.due ∙ sym (append_assoc d.0 (item ∷ []) more),
        omega (arith, d.2, length-append d.0 (item ∷ [])),
        g.met.W.Wire.writes_more c.args.out.now c.pushing.out c.push.new.self d.0 (item ∷ []) d.3 c.in_default-push.ensures.ok,
      );
      left = c.in-Some.ensures.left ∙ c.pushing.invariant.left;
      frame = refl;
      low = (c.in-Some.ensures.low c.pushing.invariant.low).0;
      few = omega (arith, c.pushing.invariant.few, ap length c.in-Some.ensures.due);
      read = g.met.W.Wire.reads_more c.args.out.now c.pushing.out c.push.new.self [] [] c.pushing.invariant.read c.push.ensures.read.0;
      front = c.push.ensures.read.1 ∙ c.pushing.invariant.front;
      stays = λ h. c.push.ensures.low (c.pushing.invariant.stays h);
    }

pub returns-clause-left : goal.returns-clause-left
returns-clause-left g c =
    let due = c.in_default.ensures.due in
    none_due c.args.frame c.take_due.new.kept.items (ap (due_of c.args.frame) due.1 ∙ due.0) ∙ c.in_default.ensures.left ∙ c.pushing.invariant.left
