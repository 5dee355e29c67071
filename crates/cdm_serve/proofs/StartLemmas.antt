-- The start of a served day, step by step.
use Rattle.std.proofs.{Common.{◌≡◌, inl, inr, ℕ, Bool, List, [], ◌++◌, length, refl, sym, ◌∙◌, ap, append_assoc}, lemmas.List.append-nil}
use Rattle.cdm_files.specs.{FeedDay.refusals_in, Records.records_of}
use Rattle.cdm_flight.specs.Journal.{AirportRows}
use Rattle.cdm_journal.specs.Journal.{journal_text}
use Rattle.cdm_kinds.specs.declared.format.Format.{Format}
use Rattle.cdm_plan.specs.Day.{DayRecord}
use Rattle.cdm_port.{specs.Event.Event, specs.Stop.Stops, proofs.Stops.{goes_on, longer, stops_behind}}
use Rattle.cdm_serve.specs.{Served.{begun, day_of, reading, ready_text, start_text, started}, inner.Steps.{StartStops, Starts}}

-- a stop of the first part is one of all
pub stops_longer : (old part rest new : List Event) → Stops old part new → Stops old (part ++ rest) new
stops_longer old part rest new stop = (stop.0, longer stop.0 part rest stop.1, stop.2)

module _ (format : Format) (g : AirportRows) (marked : Bool) (old : List Event) where
  -- only the journal was read
  pub read_only : (new : List Event) (bytes : List ℕ) → new ≡ old ++ reading marked bytes → StartStops format g marked old new
  read_only new bytes was = (bytes, inl (stops_behind old new (reading marked bytes) [] (reading marked bytes) (sym (append-nil (reading marked bytes))) was))

  -- nothing was
  pub unread : (new : List Event) → new ≡ old → StartStops format g marked old new
  unread new was = ([], inl (stops_behind old new [] (reading marked []) (reading marked []) refl (was ∙ sym (append-nil old))))

  module _ (read : List Event) (bytes text : List ℕ) (d : DayRecord) (lines ready : List ℕ) (was : read ≡ old ++ reading marked bytes) (text_is : text ≡ start_text marked bytes)
      (none : refusals_in g text ≡ []) (day : d ≡ day_of g marked bytes) (lines_are : lines ≡ journal_text (records_of text)) (ready_is : ready ≡ ready_text format (length d.journal)) where
    accepted : refusals_in g (start_text marked bytes) ≡ []
    accepted = rw text_is at none

    same : reading marked bytes ++ begun lines ready ≡ started format g marked bytes
    same = rw (lines_are, text_is, ready_is, day) refl

    pub begun_stops : (new : List Event) → Stops read (begun lines ready) new → StartStops format g marked old new
    begun_stops new stop = (
      bytes,
      inr (
        accepted,
        goes_on old read new (reading marked bytes) (begun lines ready) [] (started format g marked bytes)
            (sym same ∙ ap (λ (l : List Event). reading marked bytes ++ l) (sym (append-nil (begun lines ready)))) was stop,
      ),
    )

    pub begun_all : (new : List Event) → new ≡ read ++ begun lines ready → Starts format g marked old new d
    begun_all new is = record {
      bytes = bytes;
      accepted = accepted;
      day = day;
      events = is ∙ ap (λ (l : List Event). l ++ begun lines ready) was ∙ append_assoc old (reading marked bytes) (begun lines ready)
          ∙ ap (λ (l : List Event). old ++ l) same;
    }
