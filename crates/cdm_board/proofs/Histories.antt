-- Histories that grow by one call.
use Rattle.std.proofs.Common.{◌≡◌, ℕ, List, [], ◌∷◌, ◌++◌, refl}
use Rattle.cdm_flight.specs.{declared.update.Update.Update, Journal.AirportRows}
use Rattle.cdm_board.specs.History.{Call, journal_by, journal_of, IsLegal, IsAnswered}

pub journal_of-snoc : (g : AirportRows) (a : List Update) (h : List (ℕ × Call)) (d : ℕ) (c : Call) → journal_of g a (h ++ (d, c) ∷ []) ≡ journal_by g (journal_of g a h) c
unfolding journal_of
journal_of-snoc g a [] d c = refl
journal_of-snoc g a (e ∷ es) d c = journal_of-snoc g (journal_by g a e.1) es d c

pub IsLegal-snoc : (g : AirportRows) (a : List Update) (h : List (ℕ × Call)) (d : ℕ) (c : Call) → IsLegal g a h → IsAnswered g (journal_of g a h) c → IsLegal g a (h ++ (d, c) ∷ [])
unfolding journal_of IsLegal
IsLegal-snoc g a [] d c legal answered = (answered, tt)
IsLegal-snoc g a (e ∷ es) d c legal answered = (legal.0, IsLegal-snoc g (journal_by g a e.1) es d c legal.1 answered)
