-- The values of several fields, as the code reads them.
use Rattle.std.specs.Prelude.{Result}
use Rattle.cdm_flight.specs.declared.word.RefusalWord.{RefusalWord}
use Rattle.cdm_files.specs.Fields.{both, of_one}

-- three values, or the word that refuses them
unfoldable pub all_three : {A B C : Type 0} → Result A RefusalWord → Result B RefusalWord → Result C RefusalWord → Result (A × B × C) RefusalWord
all_three a b c = of_one (λ p. (p.0, p.1.0, p.1.1)) (both a (both b c))

-- four values, or the word that refuses them
unfoldable pub all_four : {A B C D : Type 0} → Result A RefusalWord → Result B RefusalWord → Result C RefusalWord → Result D RefusalWord → Result (A × B × C × D) RefusalWord
all_four a b c d = of_one (λ p. (p.0, p.1.0, p.1.1.0, p.1.1.1)) (both a (both b (both c d)))
