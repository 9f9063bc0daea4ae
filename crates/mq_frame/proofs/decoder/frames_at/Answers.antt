use Rattle.std.proofs.Common.{sym, ap, subst, ◌∙◌, Err}
use Rattle.mq_frame.specs.declared.fault.Miss.{Miss}
use Rattle.mq_frame.specs.declared.fault.Stop.TheVariants as stops
use Rattle.mq_frame.specs.Decoding.{StopsWell}
use Rattle.mq_frame.specs.Reading.{Stops, frame_at}
use Rattle.mq_frame.proofs.Streams.{Front, front_more, front_bad, frame_shorter, bytes_after, cut_answer}
use Rattle.mq_frame.proofs.decoder.frames_at.Goals as goal

pub reading-smaller : goal.reading-smaller
reading-smaller c = frame_shorter c.reading.rest.now c.in-Ok.after.now c.in-Ok.frame c.reading.invariant.bytes c.in-Ok.ensures

pub reading-preserved : goal.reading-preserved
reading-preserved c = record {
  front = subst (λ fs. Front c.args.bytes.now fs c.in-Ok.after.now) (sym c.in_ok-push-in-Ok.ensures.ok) (front_more c.args.bytes.now c.reading.frames c.reading.rest.now c.in-Ok.after.now c.in-Ok.frame c.reading.invariant.front c.reading.invariant.bytes c.in-Ok.ensures);
  bytes = bytes_after c.reading.rest.now c.in-Ok.after.now c.in-Ok.frame c.reading.invariant.bytes c.in-Ok.ensures;
}

pub returns-in-Short-clause-ok : goal.returns-in-Short-clause-ok
returns-in-Short-clause-ok c =
    let e = subst (λ s. Stops s (frame_at c.reading.rest.now)) c.in-Err-Miss.field-0-is c.in-Err-Miss.ensures in
    cut_answer c.args.bytes.now c.reading.frames c.reading.rest.now c.reading.invariant.front c.reading.invariant.bytes (e ∙ ap (λ m. Err m) (sym c.in-Err-Miss.miss-is ∙ c.in-Short.is))

pub returns-in-Wrong-clause-err : goal.returns-in-Wrong-clause-err
returns-in-Wrong-clause-err c =
    let e = subst (λ s. Stops s (frame_at c.reading.rest.now)) c.in-Err-Miss.field-0-is c.in-Err-Miss.ensures in
    let b = front_bad c.args.bytes.now c.reading.frames c.reading.rest.now c.in-Wrong.field-0 c.reading.invariant.front c.reading.invariant.bytes (e ∙ ap (λ m. Err m) (sym c.in-Err-Miss.miss-is ∙ c.in-Wrong.is)) in
    let P : Miss → Type 0 = λ m. StopsWell (stops.Miss m) c.args.bytes.now in
    subst P (sym c.in-Wrong.is) b
