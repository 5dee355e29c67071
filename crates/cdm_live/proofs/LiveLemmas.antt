-- What the steps of a live run make of its inputs.
use Rattle.std.proofs.Common.{◌≡◌, ◌≤◌, ◌<◌, ◌+◌, ◌∙◌, ℕ, List, [], ◌++◌, length, Ok, IfSome, ap, subst}
use Rattle.cdm_flight.specs.{Journal.AirportRows, declared.role.Role.Role, declared.update.Update.Update}
use Rattle.cdm_report.specs.Report.{report_bytes}
use Rattle.cdm_plan.specs.{Day.DayRecord, DayPlan.IsDayPlan}
use Rattle.cdm_day.specs.declared.reply.Reply.{Reply}
use Rattle.cdm_board.specs.History.{Call, calls_of}
use Rattle.cdm_files.specs.{AirportFile.airport_in, FeedDay.spelled_in, Refused.{Spelled, own_words, refused_by_replies, updates_in}}
use Rattle.cdm_files.{specs.Readings.{AreRead, Reading}, proofs.RunLemmas.{airport_record-first, of_inputs}}
use Rattle.cdm_files.specs.declared.common_fault.CommonFault.TheVariants as common
use Rattle.cdm_live.specs.Live.{IsCountedText, IsWorkOf, batch_count, desk_text}
use Rattle.cdm_live.specs.{LiveFaults.{FillsBoard, FitsBoard, IsFirstFault, calls_needed}, declared.live_error.LiveError.LiveError}
use Rattle.cdm_live.specs.declared.live_run.LiveCounts.{LiveCounts}
use Rattle.cdm_live.specs.inner.LiveSteps.{HasMerged, IsBoardFault, IsMergedText, IsRecordFault, merged_counts}
use Rattle.cdm_live.specs.declared.live_error.LiveError.TheVariants as error

-- the report of two desks that have worked is that of their history
pub counted_text : (g : AirportRows) (feed1 feed2 : List Spelled) (us vs : List (Role × Update)) (h : List (ℕ × Call)) (d : DayRecord) (rs ss : List Reply)
    (m n : ℕ) (text : List ℕ) (counts : LiveCounts)
    → us ≡ updates_in feed1 → vs ≡ updates_in feed2 → HasMerged g us vs h d rs ss → m ≡ batch_count (length us) → n ≡ batch_count (length vs)
    → IsMergedText feed1 feed2 d rs ss m n text → counts ≡ merged_counts feed1 feed2 d h rs ss
    → IsCountedText g feed1 feed2 text counts
counted_text g feed1 feed2 us vs h d rs ss m n text counts first second merged posts1 posts2 told are =
    let all1 = posts1 ∙ ap (λ (xs : List (Role × Update)). batch_count (length xs)) first in
    let all2 = posts2 ∙ ap (λ (xs : List (Role × Update)). batch_count (length xs)) second in
    record {
      history = h;
      of_desks = record {
        legal = merged.legal;
        first = subst (λ (xs : List (Role × Update)). IsWorkOf xs (calls_of 1 h)) first merged.first;
        second = subst (λ (xs : List (Role × Update)). IsWorkOf xs (calls_of 2 h)) second merged.second;
        no_other = merged.no_other;
      };
      of_history = record {
        plan = told.plan;
        of_day = subst (λ (x : DayRecord). IsDayPlan x told.plan) merged.day told.of_day;
        bytes = told.bytes
            ∙ (λ i. report_bytes (merged.day i).airport.day told.plan []
            ++ desk_text 1 (all1 i) (refused_by_replies 1 (own_words feed1) (merged.replied1 i))
            ++ desk_text 2 (all2 i) (refused_by_replies 1 (own_words feed2) (merged.replied2 i)));
      };
      of_counts = are
          ∙ (λ i. record {
            accepted = length (merged.day i).journal;
            refused = length (refused_by_replies 1 (own_words feed1) (merged.replied1 i)) + length (refused_by_replies 1 (own_words feed2) (merged.replied2 i));
            calls = length h;
          });
    }

-- what is said of two things is said of those that are equal to them
pub subst-both : {X Y : Type 0} (P : X → Y → Type 0) (x x' : X) (y y' : Y) → x ≡ x' → y ≡ y' → P x y → P x' y'
subst-both P x x' y y' first second p = subst (P x') second (subst (λ z. P z y) first p)

-- the airport file makes the airport, and so many records are spelled by the feeds there
pub record AreSpelled (g : AirportRows) (airport feed1 feed2 : List ℕ) (xs ys : List Spelled) : Type 0 where
  pub accepted : airport_in airport ≡ Ok g
  pub first : xs ≡ spelled_in g feed1
  pub second : ys ≡ spelled_in g feed2

-- what is said of what the feeds spell is said of their bytes
pub of_spelled : (P : AirportRows → List Spelled → List Spelled → Type 0) (g : AirportRows) (airport feed1 feed2 : List ℕ) (xs ys : List Spelled)
    → AreSpelled g airport feed1 feed2 xs ys → P g xs ys
    → (h : AirportRows) × (airport_in airport ≡ Ok h) × P h (spelled_in h feed1) (spelled_in h feed2)
of_spelled P g airport feed1 feed2 xs ys s p = (g, s.accepted, subst-both (P g) xs _ ys _ s.first s.second p)

pub board_fault-record : (g : AirportRows) (airport feed1 feed2 : List ℕ) (xs ys : List Spelled) (e : LiveError) → AreSpelled g airport feed1 feed2 xs ys
    → IsBoardFault (length (updates_in xs)) (length (updates_in ys)) e → IsRecordFault airport feed1 feed2 e
board_fault-record g airport feed1 feed2 xs ys (error.Common (common.Read input)) s fault = absurd fault
board_fault-record g airport feed1 feed2 xs ys (error.Common (common.TooLong input)) s fault = absurd fault
board_fault-record g airport feed1 feed2 xs ys (error.Common (common.Airport number word)) s fault = absurd fault
board_fault-record g airport feed1 feed2 xs ys (error.Common common.Memory) s fault = tt
board_fault-record g airport feed1 feed2 xs ys (error.Common common.Write) s fault = absurd fault
board_fault-record g airport feed1 feed2 xs ys error.HistoryFull s fault =
    of_spelled (λ h us vs. 4096 < calls_needed (length (updates_in us)) (length (updates_in vs))) g airport feed1 feed2 xs ys s fault
board_fault-record g airport feed1 feed2 xs ys error.Mismatch s fault =
    of_spelled (λ h us vs. calls_needed (length (updates_in us)) (length (updates_in vs)) ≤ 4096) g airport feed1 feed2 xs ys s fault

-- a fault of the records of whole inputs is the first
pub record_fault-first : (a f s : Reading) (airport feed1 feed2 : List ℕ) (e : LiveError) → AreRead a f s
    → IfSome a.before (λ bytes. airport ≡ bytes) → IfSome f.before (λ bytes. feed1 ≡ bytes) → IfSome s.before (λ bytes. feed2 ≡ bytes)
    → IsRecordFault airport feed1 feed2 e → IsFirstFault a f s e
record_fault-first a f s airport feed1 feed2 (error.Common e) read is first second fault = airport_record-first a f s _ airport e read is fault
record_fault-first a f s airport feed1 feed2 error.HistoryFull read is first second fault =
    (read, of_inputs FillsBoard a.before f.before s.before airport feed1 feed2 is first second fault)
record_fault-first a f s airport feed1 feed2 error.Mismatch read is first second fault =
    (read, of_inputs FitsBoard a.before f.before s.before airport feed1 feed2 is first second fault)
