use Rattle.std.proofs.Common.{◌∙◌, ap}
use Rattle.std.specs.List.{list_any}
use Rattle.cdm_carry.specs.{NoticeTexts.notices_text, Notices.needs_care}
use Rattle.cdm_carry.proofs.making.notices_made.Goals as goal

pub returns : goal.returns
returns c = record {
  notices = c.in_ok-notices.notices.items;
  are = c.in_ok-notices.ensures.value;
  bytes = c.in_ok-notices_text.ensures ∙ (λ i. notices_text c.args.format (c.day.ensures i) (c.day-2.ensures i) (c.deref.ensures.value i));
  seen = c.need_care.ensures ∙ ap (list_any needs_care) c.deref-2.ensures.value;
}
