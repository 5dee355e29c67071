use Rattle.std.proofs.Common.{◌+◌, ◌-◌, ◌*◌}
use Rattle.cdm_phase.proofs.phase.+workers.Given as goal

abbrev pub decreases-run_workers : goal.decreases-run_workers
decreases-run_workers g l = 2 * (l.workers.end - l.workers.start)

abbrev pub decreases-back : goal.decreases-back
decreases-back g l = 2 * (l.end - l.middle) + 1

abbrev pub decreases-front : goal.decreases-front
decreases-front g l = 2 * (l.middle - l.start) + 1
