use Rattle.std.proofs.Common.{◌≡◌, ◌≤◌, ◌<◌, ℕ, List, [], ◌∷◌, ◌++◌, length, take, map, sym, ap, ◌∙◌, subst, arith, length-append}
use Rattle.std.proofs.lemmas.List.{take_all, map-append, Elements.All-nil, Elements.All-push}
use Rattle.cdm_flight.specs.{declared.update.Update.Update, Journal.AirportRows}
use Rattle.cdm_plan.specs.Day.{DayRecord}
use Rattle.cdm_board.specs.{declared.receipt.Entry.Entry, Receipts.IsBoard, Receipts.entry_of}
use Rattle.cdm_board.specs.History.{day_of, Call, BoardRecord, board_of, journal_by, journal_of, IsLegal, IsAnswered, IsDesk, with_call}
use Rattle.cdm_board.proofs.Histories.{journal_of-snoc, IsLegal-snoc}

pub IsBoard-new : (g : AirportRows) (a : List Update) → IsBoard g (take (length a) a) [] a
unfolding IsLegal journal_of
IsBoard-new g a = record {
  legal = tt;
  journal_is = sym (take_all (length a) a (omega arith));
  desks = All-nil _;
  short = omega arith;
}

pub IsBoard-snoc : (g : AirportRows) (opening : List Update) (h : List (ℕ × Call)) (journal : List Update) (d : ℕ) (c : Call) → IsDesk d
    → length h < 4096 → IsAnswered g journal c → IsBoard g opening h journal → IsBoard g opening (h ++ (d, c) ∷ []) (journal_by g journal c)
IsBoard-snoc g opening h journal d c desk room answered board = record {
  legal = IsLegal-snoc g opening h d c board.legal (subst (λ j. IsAnswered g j c) board.journal_is answered);
  journal_is = ap (λ j. journal_by g j c) board.journal_is ∙ sym (journal_of-snoc g opening h d c);
  desks = All-push (λ (x : ℕ × Call). IsDesk x.0) h (d, c) board.desks desk;
  short = omega (arith, length-append h ((d, c) ∷ []));
}

pub entries-snoc : (es fs : List Entry) (e : Entry) (d : ℕ) (c : Call) → fs ≡ es ++ e ∷ [] → entry_of e ≡ (d, c) → map entry_of fs ≡ map entry_of es ++ (d, c) ∷ []
entries-snoc es fs e d c more is = ap (map entry_of) more ∙ (map-append entry_of es (e ∷ []) ∙ ap (λ x. map entry_of es ++ x ∷ []) is)

-- a board after one more call, by which its day became t
abbrev pub Grows : DayRecord → DayRecord → ℕ → BoardRecord → List Entry → List Entry → ℕ → Call → Type 0
Grows s t n b es fs desk call =
    ((n ≤ length t.journal) × IsBoard t.airport (take n t.journal) (map entry_of fs) t.journal)
    × (board_of t.airport (take n t.journal) (map entry_of fs) ≡ with_call b desk call)

pub grows : (s t : DayRecord) (n : ℕ) (b : BoardRecord) (es fs : List Entry) (e : Entry) (desk : ℕ) (call : Call)
    → n ≤ length s.journal → IsBoard s.airport (take n s.journal) (map entry_of es) s.journal → board_of s.airport (take n s.journal) (map entry_of es) ≡ b
    → t ≡ day_of s.airport (journal_by s.airport s.journal call) → IsAnswered s.airport s.journal call
    → n ≤ length (journal_by s.airport s.journal call) → take n (journal_by s.airport s.journal call) ≡ take n s.journal
    → fs ≡ es ++ e ∷ [] → entry_of e ≡ (desk, call) → IsDesk desk → length b.history < 4096
    → Grows s t n b es fs desk call
grows s t n b es fs e desk call le board view next answered longer same more is number room =
    let entries = entries-snoc es fs e desk call more is in
    let h = map entry_of es in
    let few : length h < 4096 = omega (arith, ap (λ (x : BoardRecord). length x.history) view) in
    let after : DayRecord = day_of s.airport (journal_by s.airport s.journal call) in
    let P : DayRecord → Type 0 = λ d. Grows s d n b es fs desk call in
    let kept : IsBoard s.airport (take n s.journal) (h ++ (desk, call) ∷ []) (journal_by s.airport s.journal call) =
    IsBoard-snoc s.airport (take n s.journal) h s.journal desk call number few answered board in
    let grown : P after = (
      (longer, rw (entries, same) kept),
      rw (entries, same) (ap (λ (x : BoardRecord). with_call x desk call) view),
    ) in
    subst P (sym next) grown
