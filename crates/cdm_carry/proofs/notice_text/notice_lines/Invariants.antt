use Rattle.std.{proofs.Common.{◌≡◌, take}, specs.{Prelude.flat_map, String.string_bytes}}
use Rattle.cdm_carry.specs.NoticeTexts.{notice_line}
use Rattle.cdm_carry.proofs.notice_text.notice_lines.Given as goal

abbrev pub invariant-loop-notice : goal.invariant-loop-notice
invariant-loop-notice l = string_bytes l.text ≡ flat_map (notice_line l.day l.next) (take l.notice-index l.notices)
