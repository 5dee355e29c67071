use Rattle.std.{proofs.Common.{rules, ◌≡◌, ◌==◌, false, length, arith}, specs.Io.KnownBytes.IsAtEnd}
use Rattle.cdm_port.specs.inner.Reading.{line_with}
use Rattle.cdm_port.proofs.LineLemmas.{broken_heard, line_heard, long_passed, not_empty, one_more, through, through_end}
use Rattle.cdm_port.proofs.calls.next_line.Goals as goal

-- nothing is left

pub returns-in-Ok-None-2-clause-line : goal.returns-in-Ok-None-2-clause-line
returns-in-Ok-None-2-clause-line g c =
    let consumes = rw c.in-Ok-None.field-0-is at (c.in-Ok-None.ensures).byte in
    let ended : IsAtEnd (g.R.Read.remaining c.next_byte.new.reader) = search rules in
    let some : (length c.loop.line.items == 0) ≡ false = search rules in
    broken_heard _ _ _ _ c.loop.invariant consumes ended (not_empty c.loop.line.items some)

pub returns-in-Ok-None-2-clause-rest : goal.returns-in-Ok-None-2-clause-rest
returns-in-Ok-None-2-clause-rest g c =
    let consumes = rw c.in-Ok-None.field-0-is at (c.in-Ok-None.ensures).byte in
    let ended : IsAtEnd (g.R.Read.remaining c.next_byte.new.reader) = search rules in
    through_end _ _ _ _ c.loop.invariant consumes ended

-- a line feed was read

pub returns-in-Ok-Some-eq10-clause-line : goal.returns-in-Ok-Some-eq10-clause-line
returns-in-Ok-Some-eq10-clause-line g c =
    let consumes = rw (c.in-Ok-Some-eq10.field-0-is, c.in-Ok-Some-eq10.field-0-0-test) at (c.in-Ok-Some-eq10.ensures).byte in
    long_passed _ _ _ _ c.loop.invariant consumes (omega arith)

pub returns-in-Ok-Some-eq10-clause-rest : goal.returns-in-Ok-Some-eq10-clause-rest
returns-in-Ok-Some-eq10-clause-rest g c =
    through _ _ _ _ c.loop.invariant (rw (c.in-Ok-Some-eq10.field-0-is, c.in-Ok-Some-eq10.field-0-0-test) at (c.in-Ok-Some-eq10.ensures).byte)

pub returns-in-Ok-Some-eq10-2-clause-heard : goal.returns-in-Ok-Some-eq10-2-clause-heard
returns-in-Ok-Some-eq10-2-clause-heard g c =
    let consumes = rw (c.in-Ok-Some-eq10.field-0-is, c.in-Ok-Some-eq10.field-0-0-test) at (c.in-Ok-Some-eq10.ensures).byte in
    (line_heard _ _ _ _ c.loop.invariant consumes (omega arith)).1

pub returns-in-Ok-Some-eq10-2-clause-line : goal.returns-in-Ok-Some-eq10-2-clause-line
returns-in-Ok-Some-eq10-2-clause-line g c =
    let consumes = rw (c.in-Ok-Some-eq10.field-0-is, c.in-Ok-Some-eq10.field-0-0-test) at (c.in-Ok-Some-eq10.ensures).byte in
    (line_heard _ _ _ _ c.loop.invariant consumes (omega arith)).0

pub returns-in-Ok-Some-eq10-2-clause-rest : goal.returns-in-Ok-Some-eq10-2-clause-rest
returns-in-Ok-Some-eq10-2-clause-rest g c =
    through _ _ _ _ c.loop.invariant (rw (c.in-Ok-Some-eq10.field-0-is, c.in-Ok-Some-eq10.field-0-0-test) at (c.in-Ok-Some-eq10.ensures).byte)

-- another byte was read

pub loop-preserved : goal.loop-preserved
loop-preserved g c =
    let consumes = rw c.in-Ok-Some.field-0-is at (c.in-Ok-Some.ensures).byte in
    let new : c.push_up_to.new.line.items ≡ line_with c.loop.line.items c.in-Ok-Some.byte = search rules in
    one_more _ _ _ _ c.loop.invariant c.in-Ok-Some.byte c.push_up_to.new.line.items consumes c.in-Ok-Some.byte-test.1 new
