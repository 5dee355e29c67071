use Rattle.cdm_runway.proofs.load.RunwayLoad.earliest.Goals as goal

pub earliest_past-requires-clause-passed : goal.earliest_past-requires-clause-passed
earliest_past-requires-clause-passed c = c.none.ensures c.args.runway.now c.args.self.now.taken
