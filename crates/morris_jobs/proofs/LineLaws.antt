-- The lines of the depths so far and of the next depth make up those of one depth more.
use Rattle.std.proofs.Common.{◌≡◌, ℕ, zero, suc, ◌+◌, List, ◌++◌, sym, ap, ◌∙◌, arith, append_assoc, append-nil}
use Rattle.std.specs.List.{flat_map, range_with_len}

module _ (f : ℕ → List ℕ) where
  from_on : (a d : ℕ) → flat_map f (range_with_len a (suc d)) ≡ flat_map f (range_with_len a d) ++ f (a + d)
  from_on a zero =
      let here : a + 0 ≡ a = omega arith in
      rw here (append-nil (f a))
  from_on a (suc d) =
      let here : a + suc d ≡ (a + 1) + d = omega arith in
      rw here (ap (λ text. f a ++ text) (from_on (a + 1) d) ∙ sym (append_assoc (f a) (flat_map f (range_with_len (a + 1) d)) (f ((a + 1) + d))))

  -- what comes of one number more
  pub one_more : (d : ℕ) → flat_map f (range_with_len 0 (d + 1)) ≡ flat_map f (range_with_len 0 d) ++ f d
  one_more d =
      let more : d + 1 ≡ suc d = omega arith in
      let from : 0 + d ≡ d = omega arith in
      ap (λ n. flat_map f (range_with_len 0 n)) more ∙ (from_on 0 d ∙ ap (λ n. flat_map f (range_with_len 0 d) ++ f n) from)
