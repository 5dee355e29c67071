-- Words of std and of the crates below that the proofs share.
pub use Rattle.cdm_flight.specs.declared.group.Group.{Group}
pub use Rattle.cdm_time.specs.Windows.{window_has}
pub use Rattle.std.proofs.Common.{Bool, List, MatchOption, Option, [], ap, arith, false, get_or, inl, inr, length, max, min, refl, replicate, rules}
pub use Rattle.std.proofs.Common.{set, subst, suc, sym, take, true, zero, ℕ, ◌%◌, ◌++◌, ◌+◌, ◌-◌, ◌/◌, ◌<◌, ◌∙◌, ◌∷◌, ◌≡◌, ◌≢◌, ◌≤◌, ◌⊎◌}
pub use Rattle.std.proofs.lemmas.Bool.Decides.{nat_tests}
pub use Rattle.std.proofs.lemmas.Grind.{common_steps, get_or-set_at, get_or_default_zero}
pub use Rattle.std.proofs.lemmas.List.{append-nil, get_or-replicate, get_or-set_other, get_or_past, length-replicate, length-set, map-append, places}
pub use Rattle.std.proofs.lemmas.List.Elements.{All-contains, All-push, All-weaker, Contains-append_left, Contains-append_right, Contains-get_or}
pub use Rattle.std.specs.Prelude.{if◌then◌else◌, nat_le, not, slice_index, ◌==◌, ◌||◌}
