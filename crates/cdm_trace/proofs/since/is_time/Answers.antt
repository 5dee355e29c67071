use Rattle.std.{proofs.Common.{◌∙◌, Err, ap, refl, subst, sym}, specs.Prelude.IsOk}
use Rattle.cdm_time.specs.{Dates.is_date_text, Digits.{are_digits, number_in}, Times.day_of}
use Rattle.cdm_trace.proofs.SinceLemmas.{a_time, far_time, no_time}
use Rattle.cdm_trace.proofs.since.is_time.Goals as goal

pub unwrap-day-requires : goal.unwrap-day-requires
unfolding day_of is_date_text are_digits number_in
unwrap-day-requires c = subst IsOk (sym c.of_text.ensures) refl

pub returns-in-Err-Text : goal.returns-in-Err-Text
returns-in-Err-Text c = sym (no_time _ _ (sym c.minute_of.ensures ∙ (c.in-Err-Text.is ∙ ap Err c.in-Err-Text.field-0-is)))

pub returns-in-Err-Range : goal.returns-in-Err-Range
returns-in-Err-Range c = sym (far_time _ _ (sym c.minute_of.ensures ∙ (c.in-Err-Range.is ∙ ap Err c.in-Err-Range.field-0-is)))

pub returns-in-Ok : goal.returns-in-Ok
returns-in-Ok c = sym (a_time _ _ _ (sym c.minute_of.ensures ∙ c.in-Ok.is))
