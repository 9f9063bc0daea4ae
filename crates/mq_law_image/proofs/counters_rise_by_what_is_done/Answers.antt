use Rattle.mq_law_image.proofs.Counting.{first_bounded, part_bounded, stop_bounded, restart_bounded, failed_bounded, cut_bounded, clock_bounded, started_within, at_most, arrived_sound, arrived_frozen, arrived_kept}
use Rattle.mq_law_image.proofs.counters_rise_by_what_is_done.Goals as goal

pub returns : goal.returns
returns c = record {
  begins = first_bounded;
  parts = part_bounded;
  stops = stop_bounded;
  restarts = restart_bounded;
  fails = failed_bounded;
  cuts = cut_bounded;
  clock = clock_bounded;
  within = started_within;
  at_most = at_most;
  arrived = arrived_sound;
  rests = arrived_frozen;
  arrives = arrived_kept;
}
