use Rattle.std.proofs.{Common.{◌≡◌, ◌++◌, ◌∷◌, [], length, take, rules}, lemmas.List.length-take-le}
use Rattle.cdm_port.specs.declared.happening.Happening.TheVariants as happening
use Rattle.cdm_port.proofs.WriteLemmas.{append_torn, on_err, one_more}
use Rattle.cdm_port.proofs.streams.StreamsPort.append.Goals as goal

pub returns-clause-err : goal.returns-clause-err
returns-clause-err g c = on_err c.answer.result (append_torn c.append_counted-count.result.0 _ _ _ (search rules))

pub returns-clause-written : goal.returns-clause-written
returns-clause-written g c =
    let part = take c.append_counted-count.result.0 c.args.bytes.now in
    let is : c.answer.new.self.notes ≡ c.args.self.now.notes ++ (happening.Appended, part) ∷ [] = search rules in
    let long : length part ≡ c.append_counted-count.result.0 =
    length-take-le c.append_counted-count.result.0 c.args.bytes.now c.append_counted-count.ensures.count in
    (part, one_more _ _ _ is, search rules, rw long (search rules))
