-- What holds of a manager and of its log between its calls holds of it behind its first start.
use Rattle.std.proofs.Common.{◌+◌, ◌<◌, ℕ, List, [], ◌∷◌, ◌++◌, length, ap, sym, subst, arith}
use Rattle.std.proofs.lemmas.List.{length-append}
use Rattle.mq_log.specs.State.{log_length}
use Rattle.mq_calls.specs.State.{Given, Running}
use Rattle.mq_calls.specs.Words.{Plain}
use Rattle.mq_spec_manager.specs.Stops.{first_start, started_record}
use Rattle.mq_record.specs.Records.{record_bytes}
use Rattle.mq_law_log.specs.from_spec_log.Applies.Start.{First}
use Rattle.mq_law_manager.specs.Facts.{IsSound}
use Rattle.mq_law_manager.proofs.Ending.{sound_still, first_sound}
use Rattle.mq_law_image.specs.Values.{AreObjectTexts}
use Rattle.mq_law_image.proofs.Logged.{image_text}
use Rattle.mq_receive.specs.from_core.Values.{CoreValue, LogBodies}
use Rattle.mq_restarts.specs.from_restart.Begun.{HasBegun}
use Rattle.mq_restarts.specs.from_restart.LogReadVariants as reads
use Rattle.mq_restarts.specs.from_restart.Stands.{StandsUp, LogStandsAt}
use Rattle.mq_manager.specs.Facts.{IsWell}
use Rattle.mq_manager.specs.Kept.{IsKept}

some_bodies : (bodies : List (List ℕ)) (body : List ℕ) → 0 < length (bodies ++ body ∷ [])
some_bodies bodies body = let sum = length-append bodies (body ∷ []) in omega (arith, sum)

pub kept_begun : (tells : Type 0) (seen : List ℕ) (old : ℕ) (g : Given) (moment : ℕ) (core : CoreValue) → HasBegun tells seen old g moment core → IsKept tells reads.Unread core
kept_begun tells seen old g moment core h =
    let p : Plain = first_start g h.told (log_length h.bodies) moment in
    let s : IsSound p = first_sound g h.told (log_length h.bodies) moment h.well h.known in
    let texts : AreObjectTexts h.told.definitions = image_text g First h.bodies h.told h.read h.bytes in
    let stands : StandsUp core.log core.plain = record {
      settled = ap (λ (l : LogBodies). l.pending) h.log;
      some = subst (λ (l : LogBodies). 0 < length l.bodies) (sym h.log) (some_bodies h.bodies (record_bytes (started_record g (h.told.incarnation + 1))));
      tells = h.log_tells;
      long = h.long;
    } in
    record {
      well = subst IsWell (sym h.plain) (record { up = λ u. s; rest = sound_still p s; limit = texts.own.max_message_length.1; batches = tt });
      log = record {
        texts = subst (λ (q : Plain). AreObjectTexts q.definitions) (sym h.plain) texts;
        stands = subst (λ (r : Running). LogStandsAt tells reads.Unread r core.log core.plain) (sym (ap (λ (q : Plain). q.running) h.plain)) stands;
      };
    }
