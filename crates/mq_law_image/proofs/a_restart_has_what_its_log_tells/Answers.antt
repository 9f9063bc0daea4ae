use Rattle.mq_law_image.proofs.Telling.{lost_told, found_told, stop_told, start_told, up_told, begun_restarted, started_read, failed_told, later_read}
use Rattle.mq_law_image.proofs.a_restart_has_what_its_log_tells.Goals as goal

pub returns : goal.returns
returns c = record {
  lost = lost_told;
  found = found_told;
  stops = stop_told;
  starts = start_told;
  comes_up = up_told;
  begins = begun_restarted;
  is_read = started_read;
  fails = failed_told;
  cuts = λ start bodies kept started noted k p is. is;
  clock = λ start bodies kept started noted by p is. is;
  later = later_read;
}
