-- What two desks have done when their board is closed.
use Rattle.std.proofs.{Common.{◌≡◌, ◌≢◌, ◌∙◌, ℕ, false, ◌==◌, List, [], ◌∷◌, ◌++◌, flat_map, refl, sym, ap, append-nil}, lemmas.Bool.ne_eqb}
use Rattle.std.{proofs.lemmas.Grind.flat_map-append, specs.List.AllZip}
use Rattle.cdm_flight.specs.{Journal.AirportRows, declared.role.Role.Role, declared.update.Update.Update}
use Rattle.cdm_day.specs.declared.reply.Reply.{Reply}
use Rattle.cdm_board.specs.History.{Call, DeskRecord, IsMerge, Looks, calls_of}
use Rattle.cdm_live.specs.{Live.{IsPostOf, batches, replies_of}, inner.LiveSteps.HasWorked}

-- a desk looks after its posts
pub looked : (number : ℕ) (updates : List (Role × Update)) (posts : List Call) (desk : DeskRecord) (g : AirportRows) (a : List Update) (replies : List Reply)
    → desk.number ≡ number → AllZip IsPostOf (batches updates) posts → desk.receipts ≡ posts ++ Looks g a ∷ [] → replies ≡ flat_map replies_of posts
    → HasWorked number updates desk replies
looked number updates posts desk g a replies is of_batches all replied = record {
  is_number = is;
  work = record { posts = posts; of_batches = of_batches; airport = g; journal = a; all = all };
  replied = replied
      ∙ sym (ap (flat_map replies_of) all ∙ flat_map-append replies_of posts (Looks g a ∷ []) ∙ append-nil (flat_map replies_of posts));
}

-- the calls of a history that is the merge of desk 1 and desk 2
pub record AreTheirs (h : List (ℕ × Call)) (first second : DeskRecord) : Type 0 where
  pub of_first : calls_of 1 h ≡ first.receipts
  pub of_second : calls_of 2 h ≡ second.receipts
  pub of_no_other : (k : ℕ) → k ≢ 1 → k ≢ 2 → calls_of k h ≡ []

pub theirs : (h : List (ℕ × Call)) (first second : DeskRecord) → first.number ≡ 1 → second.number ≡ 2
    → IsMerge h (first ∷ second ∷ []) → AreTheirs h first second
theirs h first second one two merge = record {
  of_first = merge 1 ∙ rw one refl;
  of_second = merge 2 ∙ rw (one, two) refl;
  of_no_other = λ k not_first not_second.
      let apart : first.number ≢ k = λ e. not_first (sym e ∙ one) in
      let also : second.number ≢ k = λ e. not_second (sym e ∙ two) in
      let b : (first.number == k) ≡ false = ne_eqb first.number k apart in
      let d : (second.number == k) ≡ false = ne_eqb second.number k also in
      merge k ∙ rw (b, d) refl;
}
