use Rattle.std.proofs.Common.{sym, ap, refl, ◌∙◌}
use Rattle.std.specs.Prelude.{List, ℕ, true, length}
use Rattle.mq_calls.specs.Words.{Message, refusal}
use Rattle.mq_spec_manager.specs.Words.{log_full}
use Rattle.mq_mqi.specs.Puts.{definitions_tests, counts_tests}
use Rattle.mq_core.specs.Views.{plain_of}
use Rattle.mq_mqi.proofs.PostLaws.{refused_1, refused_2, refused_3, at_last, posted_as, defined, short_enough}
use Rattle.mq_mqi.proofs.drafts.can_post.Goals as goal

pub is_log_full-requires-clause-small : goal.is_log_full-requires-clause-small
is_log_full-requires-clause-small g c = c.refused_by_definitions.ensures.small c.in-None-refused_by_definitions.is

pub returns-in-Some : goal.returns-in-Some
returns-in-Some g c = refused_1 c.args.seat.now (record { end = c.args.end.now; path = c.args.path.now }) c.args.md.now c.args.body.now c.args.sync (plain_of c.args.parts.now) c.in-Some.reason (sym c.refused_by_options.ensures ∙ c.in-Some.is)

pub returns-in-Some-refused_by_definitions : goal.returns-in-Some-refused_by_definitions
returns-in-Some-refused_by_definitions g c =
    let p = plain_of c.args.parts.now in
    refused_2 c.args.seat.now (record { end = c.args.end.now; path = c.args.path.now }) c.args.md.now c.args.body.now c.args.sync p c.in-Some-refused_by_definitions.reason
    (sym c.refused_by_options.ensures ∙ c.in-None.is)
    (ap (λ (q : List ℕ). refusal (definitions_tests c.args.path.now q (length c.args.body.now) p)) (sym c.queue_at-queue.ensures) ∙ sym c.refused_by_definitions.ensures.value ∙ c.in-Some-refused_by_definitions.is)

pub returns-in-Some-refused_by_counts : goal.returns-in-Some-refused_by_counts
returns-in-Some-refused_by_counts g c =
    let p = plain_of c.args.parts.now in
    refused_3 c.args.seat.now (record { end = c.args.end.now; path = c.args.path.now }) c.args.md.now c.args.body.now c.args.sync p c.in-Some-refused_by_counts.reason
    (sym c.refused_by_options.ensures ∙ c.in-None.is)
    (ap (λ (q : List ℕ). refusal (definitions_tests c.args.path.now q (length c.args.body.now) p)) (sym c.queue_at-queue.ensures) ∙ sym c.refused_by_definitions.ensures.value ∙ c.in-None-refused_by_definitions.is)
    (ap (λ (q : List ℕ). refusal (counts_tests c.args.seat.now q c.args.sync p)) (sym c.queue_at-queue.ensures) ∙ sym c.refused_by_counts.ensures ∙ c.in-Some-refused_by_counts.is)

pub returns-then-is_log_full : goal.returns-then-is_log_full
returns-then-is_log_full g c =
    let p = plain_of c.args.parts.now in
    let full = ap (λ (m : Message). log_full c.args.sync c.args.seat.now m p) (sym (c.draft_of-draft.ensures.message c.args.body.now)) ∙ sym (c.is_log_full.ensures c.args.body.now refl) ∙ c.if-is_log_full.true in
    at_last c.args.seat.now (record { end = c.args.end.now; path = c.args.path.now }) c.args.md.now c.args.body.now c.args.sync p true full
    (sym c.refused_by_options.ensures ∙ c.in-None.is)
    (ap (λ (q : List ℕ). refusal (definitions_tests c.args.path.now q (length c.args.body.now) p)) (sym c.queue_at-queue.ensures) ∙ sym c.refused_by_definitions.ensures.value ∙ c.in-None-refused_by_definitions.is)
    (ap (λ (q : List ℕ). refusal (counts_tests c.args.seat.now q c.args.sync p)) (sym c.queue_at-queue.ensures) ∙ sym c.refused_by_counts.ensures ∙ c.in-None-refused_by_counts.is)

pub returns : goal.returns
returns g c =
    let p = plain_of c.args.parts.now in
    let m = c.draft_of-draft.ensures.message c.args.body.now in
    let full = sym (c.is_log_full.ensures c.args.body.now refl) ∙ c.if-is_log_full.false in
    let options = sym c.refused_by_options.ensures ∙ c.in-None.is in
    let definitions = sym c.refused_by_definitions.ensures.value ∙ c.in-None-refused_by_definitions.is in
    let counts = sym c.refused_by_counts.ensures ∙ c.in-None-refused_by_counts.is in (
      posted_as c.args.seat.now (record { end = c.args.end.now; path = c.args.path.now }) c.args.md.now c.args.body.now c.args.sync p (record { queue = c.queue_at-queue.result; draft = c.draft_of-draft.result })
          m c.queue_at-queue.ensures full options definitions counts,
      record {
        ident = ap (λ (m : Message). m.ident) m;
        there = defined c.args.seat.now c.queue_at-queue.result c.args.sync p counts;
        short = short_enough c.args.path.now c.queue_at-queue.result (length c.args.body.now) p definitions;
        deadline = c.draft_of-draft.ensures.deadline;
        fits = full;
      },
    )
