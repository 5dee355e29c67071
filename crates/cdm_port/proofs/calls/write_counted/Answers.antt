use Rattle.std.proofs.{Common.{◌≡◌, ◌-◌, length, take, drop, arith, take-add}, lemmas.Grind.common_steps, KnownBytes.Appends-trans}
use Rattle.cdm_port.proofs.{WriteLemmas.appends_kept, calls.write_counted.Goals.{in-Ok, in-Err}}
use Rattle.cdm_port.proofs.calls.write_counted.Goals as goal

-- the bytes written so far, and then those that this write took
pub loop-preserved : goal.loop-preserved
loop-preserved g c =
    let bytes = c.args.bytes.now in
    let n = c.loop.count in
    elim c.match-write.branch [
      | in-Ok w ↦
          let rest : take (length bytes - n) (drop n bytes) ≡ drop n bytes = grind (arith, common_steps) in
          let taken = rw rest at (w.in-Ok.ensures).bytes in
          rw w.count-is (record {
            within = grind (arith, common_steps);
            written = rw (take-add n w.in-Ok.more bytes) (Appends-trans _ _ _ _ _ c.loop.invariant.written taken);
          })
      | in-Err w ↦
          rw w.count-is (record { within = c.loop.invariant.within; written = appends_kept _ _ _ _ c.loop.invariant.written (w.in-Err.ensures).bytes })
    ]
