use Rattle.std.proofs.{Common.{◌≡◌, ◌∙◌, ap, take, flat_map}, Output.has_written_of_eq, lemmas.List.{take_all, take_min}}
use Rattle.cdm_port.specs.Torn.{byte_told}
use Rattle.cdm_port.proofs.torn.TornTextDisplay.fmt.Goals as goal

pub returns-clause-writes : goal.returns-clause-writes
returns-clause-writes g c = λ plain ok.
    let bytes = c.args.self.now.0.now in
    let told = c.min-told.result in
    let all : take c.loop-byte.byte-index (take told bytes) ≡ take 80 bytes =
    take_all c.loop-byte.byte-index (take told bytes) c.loop-byte-test.false ∙ ap (λ n. take n bytes) c.min-told.ensures ∙ take_min 80 bytes in
    has_written_of_eq _ _ _ _ _ (ap (flat_map byte_told) all) (c.loop-byte.invariant plain)
