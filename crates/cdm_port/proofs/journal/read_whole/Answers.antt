-- A journal's bytes, read by read.
use Rattle.std.proofs.Common.{arith, ◌≡◌, ◌∙◌, ℕ, List, length, take, ◌++◌, ap}
use Rattle.std.proofs.lemmas.{Grind.common_steps, List.{length-append, take-append-le}}
use Rattle.cdm_port.proofs.{ReadLemmas.{count_same, read_on, read_same}, WriteLemmas.on_err}
use Rattle.cdm_port.proofs.journal.read_whole.Goals.{in-Ok-2+in_ok-extend_from_slice-in-Ok-2, in-Err}
use Rattle.cdm_port.proofs.journal.read_whole.Goals as goal

-- more than the most were read

pub returns-in-Ok-clause-part : goal.returns-in-Ok-clause-part
returns-in-Ok-clause-part g c =
    let part = take c.in-Ok.count c.read.new.buf in (
      c.loop.bytes.items ++ part,
      read_on _ _ _ _ _ _ c.loop.invariant.same c.loop.invariant.read _ part (c.in-Ok.ensures).did
          (λ none. count_same _ _ c.read.new.buf ((c.in-Ok.ensures).none none)),
    )

pub returns-in-Ok-clause-too_long : goal.returns-in-Ok-clause-too_long
returns-in-Ok-clause-too_long g c = λ _.
    let part = take c.in-Ok.count c.read.new.buf in
    let long = (c.in-Ok.ensures).bound.1 in
    let all = length-append c.loop.bytes.items part in (
      c.loop.bytes.items ++ part,
      read_on _ _ _ _ _ _ c.loop.invariant.same c.loop.invariant.read _ part (c.in-Ok.ensures).did
          (λ none. count_same _ _ c.read.new.buf ((c.in-Ok.ensures).none none)),
      grind (arith, common_steps),
    )

-- there was no memory for what was read

pub returns-in_err-extend_from_slice-in-Ok-2-clause-part : goal.returns-in_err-extend_from_slice-in-Ok-2-clause-part
returns-in_err-extend_from_slice-in-Ok-2-clause-part g c =
    let part = take c.in-Ok-2.count c.read.new.buf in
    on_err c.from_residual.result (
      c.loop.bytes.items ++ part,
      read_on _ _ _ _ _ _ c.loop.invariant.same c.loop.invariant.read _ part (c.in-Ok-2.ensures).did
          (λ none. count_same _ _ c.read.new.buf ((c.in-Ok-2.ensures).none none)),
    )

-- the bytes read so far, and then those that this read gave

pub loop-preserved : goal.loop-preserved
loop-preserved g c =
    elim c.match-read.branch [
      | in-Ok-2+in_ok-extend_from_slice-in-Ok-2 w ↦
          let part = take w.in-Ok.count c.read.new.buf in
          let front = take-append-le w.in-Ok.count c.read.new.buf _ (w.in-Ok.ensures).bound.0 in
          let is : w.extend_from_slice.new.self.items ≡ c.loop.bytes.items ++ part =
          (w.in_ok-extend_from_slice-in-Ok-2.ensures).items ∙ ap (λ (l : List ℕ). c.loop.bytes.items ++ l) front in
          let long = (w.in-Ok.ensures).bound.1 in
          let all = length-append c.loop.bytes.items part in
          let items = ap length is in
          let ok = w.extend_from_slice.new.self.ok.0 in
          rw w.bytes-is (record {
            limit = grind (arith, common_steps);
            same = (w.in-Ok.ensures).same ∙ c.loop.invariant.same;
            read = rw is
                (read_on _ _ _ _ _ _ c.loop.invariant.same c.loop.invariant.read _ part (w.in-Ok.ensures).did
                (λ none. count_same _ _ c.read.new.buf ((w.in-Ok.ensures).none none)));
          })
      | in-Err w ↦
          rw w.bytes-is (record {
            limit = c.loop.invariant.limit;
            same = (w.in-Err.ensures).same ∙ c.loop.invariant.same;
            read = read_same _ _ _ _ _ _ c.loop.invariant.same c.loop.invariant.read (w.in-Err.ensures).did;
          })
    ]
