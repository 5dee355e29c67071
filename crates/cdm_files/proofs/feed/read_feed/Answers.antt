use Rattle.std.proofs.Common.{◌≡◌, ◌<◌, ◌≤◌, ◌++◌, ◌∙◌, ℕ, List, [], Result, Ok, Err, IfOk, Vec, Global, sym, ap, map, length, append-nil}
use Rattle.cdm_files.{specs.Parsing.parse_of, specs.Refused.Spelled, proofs.StretchLemmas.none-after}
use Rattle.cdm_files.proofs.feed.read_feed.Goals as goal

-- a stretch that may hold all records has them all
all-read : {X E : Type 0} (f : X → Spelled) (old new records : List X) (most : ℕ) (result : Result (Vec Spelled Global) E)
    → old ≡ records → length old ≤ most
    → IfOk result (λ parsed. map f old ≡ parsed.items ++ map f new)
    → IfOk result (λ parsed. length parsed.items < most → new ≡ [])
    → IfOk result (λ parsed. parsed.items ≡ map f records)
all-read f old new records most (Ok parsed) is few split all =
    let none = none-after f old new parsed.items most few split all in
    sym (split ∙ ap (λ (xs : List _). parsed.items ++ map f xs) none ∙ append-nil parsed.items) ∙ ap (map f) is
all-read f old new records most (Err e) is few split all = tt

pub returns-clause-spelled : goal.returns-clause-spelled
returns-clause-spelled c =
    all-read (parse_of c.args.day.now) c.new-reader.result c.read_stretch.new.reader _ _ c.read_stretch.result
    c.new-reader.ensures.left c.new-reader.ensures.count c.read_stretch.ensures.spelled c.read_stretch.ensures.all
