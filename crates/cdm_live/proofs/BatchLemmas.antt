-- The batches that were posted, one after another.
use Rattle.std.proofs.Common.{◌≡◌, ◌≤◌, ◌<◌, ◌+◌, ◌*◌, ◌∙◌, ℕ, min, List, [], ◌∷◌, ◌++◌, length, take, drop, map, sym, ap, subst, arith}
use Rattle.std.proofs.{Common.length-append, Math.Seq.drop-drop, lemmas.Grind.common_steps, lemmas.List.length-drop}
use Rattle.std.{proofs.lemmas.List.FromFn.map-range_with_len_more, specs.Fork.slice_chunk, specs.List.{AllZip, range_with_len}}
use Rattle.cdm_flight.specs.declared.{role.Role.Role, update.Update.Update}
use Rattle.cdm_board.specs.History.{Call}
use Rattle.cdm_live.specs.Live.{IsPostOf, batch_count, batches}

AllZip-snoc : {A B : Type 0} (R : A → B → Type 0) (xs : List A) (ys : List B) (x : A) (y : B) → AllZip R xs ys → R x y → AllZip R (xs ++ x ∷ []) (ys ++ y ∷ [])
AllZip-snoc R [] [] x y all here = (here, tt)
AllZip-snoc R [] (z ∷ ys) x y all here = absurd all
AllZip-snoc R (w ∷ xs) [] x y all here = absurd all
AllZip-snoc R (w ∷ xs) (z ∷ ys) x y all here = (all.0, AllZip-snoc R xs ys x y all.1 here)

-- a front of n elements, or of all
take-front : {X : Type 0} (n : ℕ) (xs ys : List X) → length xs ≡ min n (length xs + length ys) → take n (xs ++ ys) ≡ xs
take-front n xs ys len = grind (arith, common_steps)

drop-front : {X : Type 0} (n : ℕ) (xs ys : List X) → length xs ≡ min n (length xs + length ys) → drop n (xs ++ ys) ≡ ys
drop-front n xs ys len = grind (arith, common_steps)

-- the posts are of the first batches, and this is left of the updates
pub record ArePosted (updates rest : List (Role × Update)) (posts : List Call) : Type 0 where
  pub left : rest ≡ drop (length posts * 256) updates
  pub of_batches : AllZip IsPostOf (map (slice_chunk updates 256) (range_with_len 0 (length posts))) posts
  pub whole : length posts * 256 < length updates + 256

-- one more batch
pub one_posted : (updates rest batch later : List (Role × Update)) (posts : List Call) (call : Call)
    → ArePosted updates rest posts → rest ≡ batch ++ later → length batch ≡ min 256 (length rest) → 0 < length rest → IsPostOf batch call
    → ArePosted updates later (posts ++ call ∷ [])
one_posted updates rest batch later posts call so_far parts size some post =
    let k = length posts in
    let sum = ap length parts ∙ length-append batch later in
    let front : length batch ≡ min 256 (length batch + length later) = omega arith in
    let chunk : batch ≡ slice_chunk updates 256 k = sym (take-front 256 batch later front) ∙ ap (take 256) (sym parts ∙ so_far.left) in
    let more : length (posts ++ call ∷ []) ≡ k + 1 = length-append posts (call ∷ []) in
    let after : later ≡ drop (k * 256 + 256) updates =
    sym (drop-front 256 batch later front) ∙ ap (drop 256) (sym parts ∙ so_far.left) ∙ drop-drop 256 (k * 256) updates in
    let next : length (posts ++ call ∷ []) * 256 ≡ k * 256 + 256 = omega (arith, more) in
    let long = ap length so_far.left ∙ length-drop (k * 256) updates in
    let of_batches : AllZip IsPostOf (map (slice_chunk updates 256) (range_with_len 0 (k + 1))) (posts ++ call ∷ []) =
    rw (map-range_with_len_more (slice_chunk updates 256) 0 k k (omega arith))
    (AllZip-snoc IsPostOf _ posts (slice_chunk updates 256 k) call so_far.of_batches (subst (λ (b : List (Role × Update)). IsPostOf b call) chunk post)) in
    record {
      left = after ∙ ap (λ n. drop n updates) (sym next);
      of_batches = subst (λ (n : ℕ). AllZip IsPostOf (map (slice_chunk updates 256) (range_with_len 0 n)) (posts ++ call ∷ [])) (sym more) of_batches;
      whole = omega (arith, next);
    }

counted : (n k : ℕ) → n ≤ k * 256 → k * 256 < n + 256 → k ≡ batch_count n
counted n k least most = omega arith

-- all batches
pub all_posted : (updates rest : List (Role × Update)) (posts : List Call) → ArePosted updates rest posts → length rest ≡ 0
    → AllZip IsPostOf (batches updates) posts
unfolding batches
all_posted updates rest posts so_far ended =
    let long = ap length so_far.left ∙ length-drop (length posts * 256) updates in
    let least : length updates ≤ length posts * 256 = omega arith in
    let count = counted (length updates) (length posts) least so_far.whole in
    subst (λ n. AllZip IsPostOf (map (slice_chunk updates 256) (range_with_len 0 n)) posts) count so_far.of_batches
