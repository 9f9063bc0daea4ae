-- Parts of a call, one behind the other: what was done, and how the call ends.
use Rattle.std.proofs.Common.{◌≡◌, ℕ, zero, suc, ◌+◌, ◌-◌, ◌<◌, ◌≤◌, List, [], ◌∷◌, ◌++◌, append_assoc, refl, ap, arith, sym, subst, ◌∙◌}
use Rattle.std.specs.Prelude.{Some, None, Ok, Err}
use Rattle.mq_base.specs.Outside.{Rose}
use Rattle.mq_disk.specs.declared.cutter.Stop.{Stop}
use Rattle.mq_disk.specs.declared.cutter.Stop.TheVariants as stops
use Rattle.mq_calls.specs.declared.commands.Halt.TheVariants as halts
use Rattle.mq_calls.specs.Words.{Reason, Part, Plain, Do, IsWrite, StopsAt, do_all, do_part, delta_of, delta_before, stopped_at, write_calls, calls_at, calls_before}
use Rattle.mq_calls.specs.declared.deltas.Did.{Did}
use Rattle.mq_core.specs.Values.{CoreValue, LogBodies, MeetsTold, AreRecords, AreRecordsTo, behind_record, wrote_all, broke_at}
use Rattle.mq_core.proofs.PartLaws.{do_both, delta_both, calls_both, write_front, at_front, before_front, stopped_front, delta_front}
use Rattle.mq_get.specs.Does.{HasRun, HasBroken}

-- the number of a part behind others
behind : List Part → ℕ → ℕ
behind [] k = k
behind (p ∷ ps) k = suc (behind ps k)

write_behind : (ps qs : List Part) (k : ℕ) → IsWrite k qs → IsWrite (behind ps k) (ps ++ qs)
unfolding behind
write_behind [] qs k w = w
write_behind (a ∷ ps) qs k w = write_behind ps qs k w

at_behind : (ps qs : List Part) (k : ℕ) → calls_at (behind ps k) (ps ++ qs) ≡ calls_at k qs
unfolding behind
at_behind [] qs k = refl
at_behind (a ∷ ps) qs k = at_behind ps qs k

before_behind : (ps qs : List Part) (k : ℕ) → calls_before (behind ps k) (ps ++ qs) ≡ write_calls ps + calls_before k qs
unfolding behind
before_behind [] qs k = omega arith
before_behind (a ∷ ps) qs k = omega (arith, before_behind ps qs k)

stopped_behind : (ps qs : List Part) (k left : ℕ) (p : Plain) → stopped_at (behind ps k) (ps ++ qs) left p ≡ stopped_at k qs left (do_all ps p)
unfolding behind
stopped_behind [] qs k left p = refl
stopped_behind (a ∷ ps) qs k left p = stopped_behind ps qs k left (do_part a p)

delta_behind : (ps qs : List Part) (k : ℕ) → delta_before (behind ps k) (ps ++ qs) ≡ delta_of ps ++ delta_before k qs
unfolding behind
delta_behind [] qs k = refl
delta_behind (a ∷ ps) qs k = ap (λ (d : List Did). a.delta ++ d) (delta_behind ps qs k) ∙ sym (append_assoc a.delta (delta_of ps) (delta_before k qs))

wrote_both : (ps qs : List Part) (l : LogBodies) → wrote_all (ps ++ qs) l ≡ wrote_all qs (wrote_all ps l)
wrote_both [] qs l = refl
wrote_both (a ∷ ps) qs l = wrote_both ps qs (behind_record a.forced l)

broke_behind : (ps qs : List Part) (k : ℕ) (l : LogBodies) → broke_at (behind ps k) (ps ++ qs) l ≡ broke_at k qs (wrote_all ps l)
unfolding behind
broke_behind [] qs k l = refl
broke_behind (a ∷ ps) qs k l = broke_behind ps qs k (behind_record a.forced l)

records_both : (ps qs : List Part) → AreRecords ps → AreRecords qs → AreRecords (ps ++ qs)
records_both [] qs a b = b
records_both (p ∷ ps) qs a b = (a.0, records_both ps qs a.1 b)

records_behind : (ps qs : List Part) (k : ℕ) → AreRecords ps → AreRecordsTo k qs → AreRecordsTo (behind ps k) (ps ++ qs)
unfolding behind
records_behind [] qs k a b = b
records_behind (p ∷ ps) qs k a b = (a.0, records_behind ps qs k a.1 b)

-- a part in front of others
broke_front : (k : ℕ) (ps qs : List Part) (l : LogBodies) → IsWrite k ps → broke_at k (ps ++ qs) l ≡ broke_at k ps l
broke_front k [] qs l w = absurd w
broke_front zero (a ∷ ps) qs l w = refl
broke_front (suc k) (a ∷ ps) qs l w = broke_front k ps qs (behind_record a.forced l) w

records_front : (k : ℕ) (ps qs : List Part) → IsWrite k ps → AreRecordsTo k ps → AreRecordsTo k (ps ++ qs)
records_front k [] qs w a = absurd w
records_front zero (p ∷ ps) qs w a = a
records_front (suc k) (p ∷ ps) qs w a = (a.0, records_front k ps qs w a.1)

rose_later : (v m w : ℕ) → v ≤ m → Rose m w → Rose v w
rose_later v m w le rose = omega (arith, le, rose)

-- both were done
pub run_both : (ps qs : List Part) (v m w : CoreValue) → HasRun ps v m → HasRun qs m w → HasRun (ps ++ qs) v w
run_both ps qs v m w a b = record {
  plain = b.plain ∙ ap (do_all qs) a.plain ∙ sym (do_both ps qs v.plain);
  told = b.told ∙ ap (λ (d : List Did). d ++ delta_of qs) a.told ∙ append_assoc v.delta (delta_of ps) (delta_of qs) ∙ ap (λ (d : List Did). v.delta ++ d) (sym (delta_both ps qs));
  later = omega (arith, a.later, b.later);
  ran = λ some. let one = a.ran some in let two = b.ran (omega (arith, one, a.armed)) in omega (arith, one, two, a.armed, calls_both ps qs);
  armed = omega (arith, a.armed, b.armed, calls_both ps qs);
  log = b.log ∙ ap (wrote_all qs) a.log ∙ sym (wrote_both ps qs v.log);
  records = records_both ps qs a.records b.records;
}

-- the first were done, then a write was stopped
stops_behind : (by : Stop) (calls armed more before left : ℕ) → (0 < armed → more < armed) → StopsAt by calls (armed - more) before left → StopsAt by calls armed (more + before) left
stops_behind stops.Cut calls armed more before left ran s = (omega (arith, s.0), omega (arith, s.1), s.2)
stops_behind stops.Disk calls armed more before left ran s =
    ((λ some. let one = ran some in let two = s.0 (omega (arith, one)) in (omega (arith, two.0), two.1, omega (arith, two.2))), omega (arith, s.1), (λ none. s.2 (omega (arith, none))))

pub broken_behind : (by : Stop) (ps qs : List Part) (v m w : CoreValue) → HasRun ps v m → HasBroken by qs m w → HasBroken by (ps ++ qs) v w
broken_behind by ps qs v m w a b = record {
  part = behind ps b.part;
  write = write_behind ps qs b.part b.write;
  stop =
      subst (λ (n : ℕ). StopsAt by n v.plain.log.armed (calls_before (behind ps b.part) (ps ++ qs)) w.plain.log.armed) (sym (at_behind ps qs b.part))
      (subst (λ (n : ℕ). StopsAt by (calls_at b.part qs) v.plain.log.armed n w.plain.log.armed) (sym (before_behind ps qs b.part))
      (stops_behind by (calls_at b.part qs) v.plain.log.armed (write_calls ps) (calls_before b.part qs) w.plain.log.armed a.ran
      (subst (λ (n : ℕ). StopsAt by (calls_at b.part qs) n (calls_before b.part qs) w.plain.log.armed) a.armed b.stop)));
  plain = b.plain ∙ ap (stopped_at b.part qs w.plain.log.armed) a.plain ∙ sym (stopped_behind ps qs b.part w.plain.log.armed v.plain);
  told = b.told ∙ ap (λ (d : List Did). d ++ delta_before b.part qs) a.told ∙ append_assoc v.delta (delta_of ps) (delta_before b.part qs) ∙ ap (λ (d : List Did). v.delta ++ d) (sym (delta_behind ps qs b.part));
  later = omega (arith, a.later, b.later);
  rose = λ e. rose_later v.faults m.faults w.faults a.later (b.rose e);
  log = b.log ∙ ap (broke_at b.part qs) a.log ∙ sym (broke_behind ps qs b.part v.log);
  records = records_behind ps qs b.part a.records b.records;
}

-- a write was stopped, and nothing behind it was done
pub broken_front : (by : Stop) (ps qs : List Part) (v w : CoreValue) → HasBroken by ps v w → HasBroken by (ps ++ qs) v w
broken_front by ps qs v w b = record {
  part = b.part;
  write = write_front b.part ps qs b.write;
  stop =
      subst (λ (n : ℕ). StopsAt by n v.plain.log.armed (calls_before b.part (ps ++ qs)) w.plain.log.armed) (sym (at_front b.part ps qs b.write))
      (subst (λ (n : ℕ). StopsAt by (calls_at b.part ps) v.plain.log.armed n w.plain.log.armed) (sym (before_front b.part ps qs b.write)) b.stop);
  plain = b.plain ∙ sym (stopped_front b.part ps qs w.plain.log.armed v.plain b.write);
  told = b.told ∙ ap (λ (d : List Did). v.delta ++ d) (sym (delta_front b.part ps qs b.write));
  later = b.later;
  rose = b.rose;
  log = b.log ∙ sym (broke_front b.part ps qs v.log b.write);
  records = records_front b.part ps qs b.write b.records;
}

-- how the call then ends
pub run_meets : {T : Type 0} (ps : List Part) (reply : T) (v w : CoreValue) → v.delta ≡ [] → w.stopped ≡ None → HasRun ps v w → MeetsTold {F = Reason} v (Do reply ps) (Ok reply) w
run_meets ps reply v w none stopped h =
    record { meets = (refl, h.ran, h.later, (λ i. record { plain = h.plain i; delta = (h.told ∙ ap (λ (d : List Did). d ++ delta_of ps) none) i; stopped = stopped i; faults = w.faults })); told = (h.log, h.records) }

pub broken_meets : {T : Type 0} (by : Stop) (ps : List Part) (reply : T) (v w : CoreValue) → v.delta ≡ [] → w.stopped ≡ Some by → HasBroken by ps v w → MeetsTold {F = Reason} v (Do reply ps) (Err (halts.Stopped by)) w
broken_meets by ps reply v w none stopped h = record {
  meets = record {
    part = h.part;
    write = h.write;
    stop = h.stop;
    next = λ i. record { plain = h.plain i; delta = (h.told ∙ ap (λ (d : List Did). d ++ delta_before h.part ps) none) i; stopped = stopped i; faults = w.faults };
    later = h.later;
    rose = h.rose;
  };
  told = record { part = h.part; write = h.write; records = h.records; plain = h.plain; log = h.log };
}

-- nothing is done
pub say_meets : {T : Type 0} (reply : T) (v w : CoreValue) → v.delta ≡ [] → w.delta ≡ [] → w.plain ≡ v.plain → w.faults ≡ v.faults → w.stopped ≡ None → w.log ≡ v.log → MeetsTold {F = Reason} v (Do reply []) (Ok reply) w
say_meets reply v w none told plain faults stopped log = record { meets = (refl, (λ some. some), omega (arith, faults), (λ i. record { plain = plain i; delta = told i; stopped = stopped i; faults = w.faults })); told = (log, tt) }
