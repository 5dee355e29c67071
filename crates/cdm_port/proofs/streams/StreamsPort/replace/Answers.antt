use Rattle.std.proofs.Common.{◌≡◌, ◌++◌, ◌∷◌, [], rules}
use Rattle.cdm_port.specs.declared.happening.Happening.TheVariants as happening
use Rattle.cdm_port.proofs.WriteLemmas.{on_err, renamed_alone}
use Rattle.cdm_port.proofs.streams.StreamsPort.replace.Goals as goal

-- the new file was renamed, and its name isn't known to be on the disk
pub returns-in-Err-named-clause-err : goal.returns-in-Err-named-clause-err
returns-in-Err-named-clause-err g c =
    let is : c.answer-in-Err-named.new.self.notes ≡ c.args.self.now.notes ++ (happening.Renamed, c.args.bytes.now) ∷ [] = search rules in
    on_err c.answer-in-Err-named.result (renamed_alone c.args.bytes.now c.args.self.now.notes c.answer-in-Err-named.new.self.notes is)
