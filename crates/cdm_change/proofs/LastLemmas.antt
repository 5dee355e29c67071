-- The last values of the updates that a list gives.
use Rattle.std.proofs.Common.{Contains, ◌≡◌, List, [], ◌∷◌, Option, None, Some, refl, ap, ◌∙◌}
use Rattle.std.specs.List.{cons_option, filter_map, fold}
use Rattle.std.specs.Option.{option_and_then, option_map, option_or}
use Rattle.cdm_flight.proofs.Lists.{contains_head, contains_tail}
use Rattle.cdm_flight.specs.Journal.{last_value}

module _ {U V X Y : Type 0} (selected : U → Option V) (given : U → Option X) (gives : V → Option Y) where
  -- the value after one update
  abbrev after : Option X → U → Option X
  after before u = option_or (given u) before

  abbrev follows : Option Y → V → Option Y
  follows before v = option_or (gives v) before

  one_selected : (s : Option Y) (o : Option V) (vs : List V) → fold follows s (cons_option o vs) ≡ fold follows (option_or (option_and_then gives o) s) vs
  one_selected s None vs = refl
  one_selected s (Some v) vs = refl

  either : (h : X → Y) (o p : Option X) → option_or (option_map h o) (option_map h p) ≡ option_map h (option_or o p)
  either h None p = refl
  either h (Some x) p = refl

  from : (h : X → Y) → ((u : U) → option_and_then gives (selected u) ≡ option_map h (given u)) → (s : Option X) (us : List U)
      → fold follows (option_map h s) (filter_map selected us) ≡ option_map h (fold after s us)
  from h same s [] = refl
  from h same s (u ∷ us) =
      one_selected (option_map h s) (selected u) (filter_map selected us)
      ∙ ap (λ (o : Option Y). fold follows o (filter_map selected us)) (ap (λ (o : Option Y). option_or o (option_map h s)) (same u) ∙ either h (given u) s)
      ∙ from h same (after s u) us

  -- Where each update gives, as it is selected, what it gave with a change, the last value is what it was with that change.
  pub last_selected : (h : X → Y) → ((u : U) → option_and_then gives (selected u) ≡ option_map h (given u)) → (us : List U)
      → last_value gives (filter_map selected us) ≡ option_map h (last_value given us)
  last_selected h same us = from h same None us

  -- A value that the other has, if it has one by h.
  abbrev Keeps : (X → Option Y) → Option X → Option Y → Type 0
  Keeps h s t = (y : Y) → option_and_then h s ≡ Some y → t ≡ Some y

  one_kept : (h : X → Option Y) (s : Option X) (t : Option Y) (o : Option X) → Keeps h s t → Keeps h (option_or o s) (option_or (option_and_then h o) t)
  one_kept h s t None keeps = keeps
  one_kept h s t (Some x) keeps = λ y e. ap (λ (o : Option Y). option_or o t) e

  from_kept : (h : X → Option Y) → ((u : U) → option_and_then gives (selected u) ≡ option_and_then h (given u)) → (s : Option X) (t : Option Y)
      → Keeps h s t → (us : List U) → Keeps h (fold after s us) (fold follows t (filter_map selected us))
  from_kept h same s t keeps [] = keeps
  from_kept h same s t keeps (u ∷ us) = λ y e.
      one_selected t (selected u) (filter_map selected us)
      ∙ ap (λ (o : Option Y). fold follows (option_or o t) (filter_map selected us)) (same u)
      ∙ from_kept h same (after s u) (option_or (option_and_then h (given u)) t) (one_kept h s t (given u) keeps) us y e

  -- Where only some values are kept, the last one is if it is one of those.
  pub last_kept : (h : X → Option Y) → ((u : U) → option_and_then gives (selected u) ≡ option_and_then h (given u)) → (us : List U) (y : Y)
      → option_and_then h (last_value given us) ≡ Some y → last_value gives (filter_map selected us) ≡ Some y
  last_kept h same us = from_kept h same None None (λ y e. e) us

  from_none : (us : List U) → ((u : U) → Contains us u → option_and_then gives (selected u) ≡ None) → fold follows None (filter_map selected us) ≡ None
  from_none [] none = refl
  from_none (u ∷ us) none =
      one_selected None (selected u) (filter_map selected us)
      ∙ ap (λ (o : Option Y). fold follows (option_or o None) (filter_map selected us)) (none u (contains_head u us))
      ∙ from_none us (λ v i. none v (contains_tail u us v i))

  -- Where no update gives a value, as it is selected, there is none.
  pub last_none : (us : List U) → ((u : U) → Contains us u → option_and_then gives (selected u) ≡ None) → last_value gives (filter_map selected us) ≡ None
  last_none us none = from_none us none
