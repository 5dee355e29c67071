-- The values of a list of items, part by part.
use Rattle.std.proofs.Common.{◌≡◌, ℕ, ◌+◌, ◌*◌, ◌<◌, List, [], ◌∷◌, ◌++◌, length, take, get_or, sym, ap, subst, ◌∙◌, arith}
use Rattle.std.{proofs.Math.Seq.take-add, proofs.lemmas.List.take_more, proofs.lemmas.Slice.Zip.all_zipped_more, specs.List.AllZip}
use Rattle.cdm_phase.specs.Piece.{items_of}

module _ {A B : Type 0} (R : A → B → Type 0) where
  -- one item more
  pub AllZip-step : (xs : List A) (ys : List B) (i : ℕ) (x : A) (y : B) → i < length xs → x ≡ get_or xs i x
      → AllZip R (take i xs) ys → R x y → AllZip R (take (i + 1) xs) (ys ++ y ∷ [])
  AllZip-step xs ys i x y h is before here =
      let longer = take_more xs i x h ∙ ap (λ z. take i xs ++ z ∷ []) (sym is) in
      subst (λ l. AllZip R l (ys ++ y ∷ [])) (sym longer) (all_zipped_more R (take i xs) ys x y before here)

  pub AllZip-append : (xs us : List A) (ys vs : List B) → AllZip R xs ys → AllZip R us vs
      → AllZip R (xs ++ us) (ys ++ vs)
  AllZip-append [] us [] vs h k = k
  AllZip-append [] us (y ∷ ys) vs h k = absurd h
  AllZip-append (x ∷ xs) us [] vs h k = absurd h
  AllZip-append (x ∷ xs) us (y ∷ ys) vs h k = (h.0, AllZip-append xs us ys vs h.1 k)

  -- one piece more
  pub AllZip-piece : (items : List A) (grain n : ℕ) (ys zs : List B) → AllZip R (take (n * grain) items) ys
      → AllZip R (items_of items grain n) zs → AllZip R (take ((n + 1) * grain) items) (ys ++ zs)
  AllZip-piece items grain n ys zs before here =
      let next : (n + 1) * grain ≡ n * grain + grain = omega arith in
      let longer = ap (λ k. take k items) next ∙ take-add (n * grain) grain items in
      subst (λ l. AllZip R l (ys ++ zs)) (sym longer)
      (AllZip-append (take (n * grain) items) (items_of items grain n) ys zs before here)
