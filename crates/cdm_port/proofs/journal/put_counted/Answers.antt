use Rattle.std.proofs.{Common.{◌≡◌, ◌≤◌, ◌-◌, length, take, drop, arith}, lemmas.Grind.common_steps}
use Rattle.cdm_port.proofs.{CallLemmas.{written_more, written_none, written_nothing, written_same}, journal.put_counted.Goals.{in-Ok, in-Err}}
use Rattle.cdm_port.proofs.journal.put_counted.Goals as goal

-- the bytes written so far, and then those that this write took
pub loop-preserved : goal.loop-preserved
loop-preserved g c =
    let bytes = c.args.bytes.now in
    let n = c.loop.count in
    elim c.match-write.branch [
      | in-Ok w ↦
          let rest : take (length bytes - n) (drop n bytes) ≡ drop n bytes = grind (arith, common_steps) in
          let did = rw rest at (w.in-Ok.ensures).did in
          let fits : w.in-Ok.taken ≤ length (drop n bytes) = omega (arith, rw rest at (w.in-Ok.ensures).bound) in
          rw w.count-is
          (written_more _ _ _ _ _ _ _ _ c.loop.invariant w.in-Ok.taken fits did (w.in-Ok.ensures).same (w.in-Ok.ensures).own
          (λ none. absurd ((w.in-Ok.ensures).none none)))
      | in-Err w ↦
          rw w.count-is
          (written_same _ _ _ _ _ _ _ _ c.loop.invariant (w.in-Err.ensures).did (w.in-Err.ensures).same (w.in-Err.ensures).same_own)
    ]

pub loop-init : goal.loop-init
loop-init g c = written_none _ _ _

pub returns-in-Ok-eq0-clause-written : goal.returns-in-Ok-eq0-clause-written
returns-in-Ok-eq0-clause-written g c =
    let did = rw (c.in-Ok-eq0.is, c.in-Ok-eq0.field-0-test) at c.write.ensures.did in
    written_nothing _ _ (g.J.JournalFile.held c.loop.journal) _ _ _ _ _ c.loop.invariant did
