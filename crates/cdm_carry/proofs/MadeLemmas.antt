-- What is made that carries a day over, and why nothing is.
use Rattle.std.proofs.Common.{◌≡◌, ◌∙◌, ℕ, List, Ok, sym, ap}
use Rattle.cdm_time.specs.{Times.next_date, declared.calendar.CalendarDate.CalendarDate}
use Rattle.cdm_flight.specs.{Journal.AirportRows, declared.role.Role.Role, declared.update.Update.Update}
use Rattle.cdm_files.specs.{AirportFile.airport_in, FeedDay.spelled_in, Refused.updates_in}
use Rattle.cdm_files.specs.declared.{days_apart.DaysApart.DaysApart, run_error.RunError.RunError}
use Rattle.cdm_files.specs.declared.common_fault.CommonFault.TheVariants as common
use Rattle.cdm_files.specs.declared.run_error.RunError.TheVariants as error
use Rattle.cdm_carry.specs.{Carry.carry, CarriedFeed.{HaveOneFeed, IsCarriedFeed, IsNextDay}, Texts.feed_text, Uncarried.{AreDaysApart, IsUncarried}}
use Rattle.cdm_carry.specs.inner.Steps.{IsNextAirportFault}

-- three files make one feed
pub one_feed : (airport feed next : List ℕ) → HaveOneFeed airport feed next
one_feed airport feed next x y one other =
    let same : one.rows ≡ other.rows = cc (sym one.airport_file ∙ other.airport_file) in
    let too : one.next_rows ≡ other.next_rows = cc (sym one.next_file ∙ other.next_file) in
    one.bytes
    ∙ (λ i. feed_text (too i).day (carry (same i) (updates_in (spelled_in (same i) feed)) (too i)))
    ∙ sym other.bytes

-- a fault of the next airport file, where the airport file is accepted
pub next_fault : (airport next a n : List ℕ) (g : AirportRows) (e : RunError) → a ≡ airport → airport_in a ≡ Ok g → n ≡ next → IsNextAirportFault n e
    → IsUncarried airport next e
next_fault airport next a n g (error.NextAirport number word) is said also fault = (g, sym (ap airport_in is) ∙ said, sym (ap airport_in also) ∙ fault)
next_fault airport next a n g (error.Common common.Memory) is said also fault = tt
next_fault airport next a n g _ is said also fault = absurd fault

-- both are accepted, and their days don't follow each other
pub days_apart : (airport next a n : List ℕ) (g h : AirportRows) (d e : CalendarDate) (days : DaysApart) → a ≡ airport → airport_in a ≡ Ok g → n ≡ next
    → airport_in n ≡ Ok h → d ≡ g.day → e ≡ h.day → days ≡ record { day = d; next = e } → (IsNextDay d e → ⊥) → AreDaysApart days airport next
days_apart airport next a n g h d e days is said also told same too are other = (
  g,
  h,
  sym (ap airport_in is) ∙ said,
  sym (ap airport_in also) ∙ told,
  are ∙ (λ i. record { day = same i; next = too i }),
  λ after. other (too ∙ after ∙ ap (λ (x : CalendarDate). next_date x) (sym same)),
)

-- what the steps make is the feed of the next day
pub carried_feed : (airport feed next : List ℕ) (g h : AirportRows) (us cs : List (Role × Update)) (text : List ℕ) (d e day : CalendarDate)
    → airport_in airport ≡ Ok g → airport_in next ≡ Ok h → d ≡ g.day → e ≡ h.day → IsNextDay d e
    → us ≡ updates_in (spelled_in g feed) → cs ≡ carry g us h → day ≡ h.day → text ≡ feed_text day cs → IsCarriedFeed airport feed next text
carried_feed airport feed next g h us cs text d e day said told same too after spelled carried on made = record {
  rows = g;
  airport_file = said;
  next_rows = h;
  next_file = told;
  days = sym too ∙ after ∙ ap (λ (x : CalendarDate). next_date x) same;
  bytes = made ∙ (λ i. feed_text (on i) (carried i)) ∙ (λ i. feed_text h.day (carry g (spelled i) h));
}
