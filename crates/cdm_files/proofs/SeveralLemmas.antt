-- What the values of several fields make.
use Rattle.cdm_files.{proofs.Words.{◌≡◌, Result, Ok, Err, refl, sym, RefusalWord}, specs.Fields.{both, of_four, of_one, of_three}}
use Rattle.cdm_files.specs.inner.Several.{all_four, all_three}

pub of_one-twice : {A B C : Type 0} (f : A → B) (g : B → C) (r : Result A RefusalWord) → of_one g (of_one f r) ≡ of_one (λ a. g (f a)) r
of_one-twice f g (Ok a) = refl
of_one-twice f g (Err word) = refl

pub of_all_three : {A B C X : Type 0} (f : A → B → C → X) (a : Result A RefusalWord) (b : Result B RefusalWord) (c : Result C RefusalWord)
    → of_three f a b c ≡ of_one (λ p. f p.0 p.1 p.2) (all_three a b c)
unfolding of_three all_three
of_all_three f a b c = sym (of_one-twice _ _ (both a (both b c)))

pub of_all_four : {A B C D X : Type 0} (f : A → B → C → D → X)
    (a : Result A RefusalWord) (b : Result B RefusalWord) (c : Result C RefusalWord) (d : Result D RefusalWord)
    → of_four f a b c d ≡ of_one (λ p. f p.0 p.1 p.2 p.3) (all_four a b c d)
unfolding of_four all_four
of_all_four f a b c d = sym (of_one-twice _ _ (both a (both b (both c d))))
