use Rattle.std.proofs.{Common.{◌≡◌, ◌∙◌, ◌==◌, ℕ, true, arith, sym}, lemmas.Bool.Decides.nat_tests, lemmas.List.nil_from_length}
use Rattle.cdm_trace.proofs.BatchLemmas.{no_batch}
use Rattle.cdm_trace.proofs.batched.BatchedDay.taken.Goals as goal

no-length : (n m : ℕ) → n ≡ m → true ≡ (n == 0) → m ≡ 0
no-length n m same test = grind (arith, nat_tests, same, test)

pub returns-then-is_empty : goal.returns-then-is_empty
returns-then-is_empty c =
    let s = c.self.inside in
    let none = nil_from_length s.batch.items (no-length _ _ s.batch.ok.0 c.if-is_empty.ensures) in
    sym (no_batch s.desk s.batch.items none) ∙ c.self.view_is
