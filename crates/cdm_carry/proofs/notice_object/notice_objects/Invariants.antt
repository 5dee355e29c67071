use Rattle.std.{proofs.Common.{◌≡◌, take}, specs.Prelude.flat_map}
use Rattle.cdm_carry.specs.NoticeTexts.{notice_members, object_line}
use Rattle.cdm_carry.proofs.notice_object.notice_objects.Given as goal

abbrev pub invariant-loop-notice : goal.invariant-loop-notice
invariant-loop-notice l = l.text.items ≡ flat_map (λ n. object_line l.day (notice_members l.next n)) (take l.notice-index l.notices)
