use Rattle.std.proofs.{Common.{length, ◌≡◌, arith}, lemmas.Bool.Decides.nat_tests}
use Rattle.cdm_files.{specs.Parsing.parse_of, proofs.StretchLemmas.{all-left, fewer-left, next-left, none-left}}
use Rattle.cdm_files.proofs.judging.judge.Goals as goal

pub stretches-init : goal.stretches-init
stretches-init g c =
    all-left _ _ _ _ _ _ c.day-day.ensures c.in_ok-state.ensures c.new.ensures.items c.new-reader.ensures.left c.new-reader.ensures.count

pub returns-then-is_empty : goal.returns-then-is_empty
returns-then-is_empty g c =
    let none : length c.in_ok-parsed.parsed.items ≡ 0 = grind (arith, nat_tests, c.in_ok-parsed.parsed.ok.0, c.if-is_empty.ensures) in
    let all = c.in_ok-parsed.ensures.all (omega (arith, none)) in
    let judged = none-left _ _ _ _ _ _ _ _ _ c.stretches.invariant c.in_ok-parsed.ensures.spelled none all in
    record { state = judged.0; refused = judged.1 }

pub stretches-smaller : goal.stretches-smaller
stretches-smaller g c =
    let fewer = fewer-left (parse_of c.day-day.result.now) _ _ _ c.in_ok-parsed.ensures.spelled in
    grind (arith, nat_tests, fewer, c.in_ok-parsed.parsed.ok.0, c.if-is_empty.ensures)

pub stretches-preserved : goal.stretches-preserved
stretches-preserved g c =
    let judged = c.in_ok-judge_next.ensures in
    next-left _ _ _ _ _ _ _ _ _ _ _ _ c.stretches.invariant c.in_ok-parsed.ensures.spelled judged.state judged.refused judged.records
